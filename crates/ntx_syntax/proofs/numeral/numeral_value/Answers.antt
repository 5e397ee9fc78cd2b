use Rattle.std.proofs.Common.{◌≡◌, ◌%◌, ◌^◌, true, Some, subst, sym, ap, ◌∙◌, drop}
use Rattle.std.specs.List.{list_all}
use Rattle.std.specs.Char.{is_ascii_hexdigit}
use Rattle.std.specs.Int.{w64, cast_signed, cast_unsigned}
use Rattle.std.specs.Str.Parse.{digits_value}
use Rattle.std.proofs.lemmas.List.{take_rest}
use Rattle.std.proofs.lemmas.Int.{of_z-to_z, to_z_pos}
use Rattle.ntx_syntax.proofs.ValueLemmas.{begun_digits, begun_value, plain_found, plain_is, plain_small, same_some}
use Rattle.ntx_syntax.proofs.numeral.numeral_value.Goals as goal

pub hexadecimal_value-requires : goal.hexadecimal_value-requires
hexadecimal_value-requires c = subst (λ digits. list_all is_ascii_hexdigit digits ≡ true) (sym (take_rest c.args.bytes.now 2)) (begun_digits c.args.bytes.now (sym c.begins_hexadecimal.ensures ∙ c.if-begins_hexadecimal.true) c.requires)

pub returns-then-begins_hexadecimal : goal.returns-then-begins_hexadecimal
returns-then-begins_hexadecimal c =
    let bytes = c.args.bytes.now in
    let found = c.hexadecimal_value.result in
    let value : digits_value 16 (drop 2 bytes) % 2 ^ 64 ≡ found = sym (c.hexadecimal_value.ensures ∙ ap (λ digits. digits_value 16 digits % 2 ^ 64) (take_rest bytes 2)) in
    begun_value bytes (sym c.begins_hexadecimal.ensures ∙ c.if-begins_hexadecimal.true) c.requires
    ∙ ap (λ n. Some (cast_signed w64 n)) (value ∙ sym (of_z-to_z w64 found c.hexadecimal_value.type_inv) ∙ ap (cast_unsigned w64) (sym c.cast_signed.ensures))

pub returns-in-Some : goal.returns-in-Some
returns-in-Some c =
    let bytes = c.args.bytes.now in
    let plain = sym c.begins_hexadecimal.ensures ∙ c.if-begins_hexadecimal.false in
    let found : c.decimal_value.result ≡ Some (digits_value 10 bytes) = plain_found bytes c.decimal_value.result plain c.requires c.decimal_value.ensures in
    let same : c.in-Some.value ≡ digits_value 10 bytes = same_some (sym c.in-Some.is ∙ found) in
    plain_is bytes plain c.requires ∙ ap Some (sym (to_z_pos w64 (digits_value 10 bytes) (plain_small bytes plain c.requires)) ∙ ap (cast_signed w64) (sym same))
