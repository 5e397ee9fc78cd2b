use Rattle.std.proofs.Common.{sym, ◌∙◌}
use Rattle.ntx_syntax.proofs.TextLemmas.{two_digit_escape}
use Rattle.ntx_syntax.proofs.text.decimal_escape.Goals as goal

pub returns-then-not-is_ascii_digit-2 : goal.returns-then-not-is_ascii_digit-2
returns-then-not-is_ascii_digit-2 c =
    two_digit_escape c.args.c c.args.d c.args.e c.requires (sym c.is_ascii_digit.ensures.value ∙ c.if-not-is_ascii_digit.false) (sym c.is_ascii_digit-2.ensures.value ∙ c.if-not-is_ascii_digit-2.true)
