use Rattle.std.proofs.Common.{◌+◌, sym, ◌∙◌, ap, arith}
use Rattle.std.specs.Prelude.{is_some}
use Rattle.std.specs.Char.{is_ascii_digit, is_ascii_hexdigit}
use Rattle.std.specs.List.{prefix_len}
use Rattle.std.proofs.lemmas.List.{take_rest}
use Rattle.ntx_syntax.proofs.RunLemmas.{list_all-take}
use Rattle.ntx_syntax.proofs.NumeralLemmas.{decimal_ends, hexadecimal_ends, hexadecimal_value, decimal_value_some}
use Rattle.ntx_syntax.proofs.numeral.form_len.Goals as goal

pub decimal_value-requires : goal.decimal_value-requires
decimal_value-requires c = list_all-take is_ascii_digit c.run-len.result c.args.bytes.now (omega (arith, c.run-len.ensures.value))

pub returns-then-begins_hexadecimal-clause-end : goal.returns-then-begins_hexadecimal-clause-end
returns-then-begins_hexadecimal-clause-end c =
    hexadecimal_ends _ _ (sym c.begins_hexadecimal.ensures ∙ c.if-begins_hexadecimal.true) (ap (λ n. 2 + n) (c.run.ensures.value ∙ ap (prefix_len is_ascii_hexdigit) (take_rest c.args.bytes.now 2)))

pub returns-then-begins_hexadecimal-clause-fits : goal.returns-then-begins_hexadecimal-clause-fits
returns-then-begins_hexadecimal-clause-fits c =
    hexadecimal_value _ _ (sym c.begins_hexadecimal.ensures ∙ c.if-begins_hexadecimal.true) (ap (λ n. 2 + n) (c.run.ensures.value ∙ ap (prefix_len is_ascii_hexdigit) (take_rest c.args.bytes.now 2)))

pub returns-else-begins_hexadecimal-clause-end : goal.returns-else-begins_hexadecimal-clause-end
returns-else-begins_hexadecimal-clause-end c =
    decimal_ends _ _ c.requires (sym c.begins_hexadecimal.ensures ∙ c.if-begins_hexadecimal.false) c.run-len.ensures.value

pub returns-else-begins_hexadecimal-clause-fits : goal.returns-else-begins_hexadecimal-clause-fits
returns-else-begins_hexadecimal-clause-fits c =
    c.is_some.ensures ∙ ap is_some c.decimal_value.ensures
    ∙ decimal_value_some _ _ c.requires (sym c.begins_hexadecimal.ensures ∙ c.if-begins_hexadecimal.false) c.run-len.ensures.value
