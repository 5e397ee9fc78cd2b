-- What a table holds after a set.
use Rattle.std.proofs.Common.{◌≡◌, false, inl, inr, Result, Ok, ap, sym, ◌∙◌, refl}
use Rattle.ntx_values.specs.Value.{is_same}
use Rattle.ntx_values.specs.Table.{Entries, value_at, written}
use Rattle.ntx_values.specs.declared.value.Value.{Value}
use Rattle.ntx_values.proofs.Same.{same_laws, Nil-is_nil}
use Rattle.ntx_values.proofs.Writes.{written_cases, value_at-inserted, value_at-others, value_at-absent}

pub read_back : (before after : Entries) (key v : Value) → written before key v ≡ Ok after → value_at after key ≡ v
read_back before after key v h =
    elim (written_cases before after key v h) [
      | inl kept ↦ sym (ap (λ es. value_at es key) kept.same) ∙ value_at-absent before key kept.absent ∙ sym (Nil-is_nil v kept.nil)
      | inr put ↦ sym (ap (λ es. value_at es key) put.same) ∙ value_at-inserted before key v (same_laws.refl key)
    ]

pub read_others : (before after : Entries) (key v other : Value) → written before key v ≡ Ok after → is_same key other ≡ false → value_at after other ≡ value_at before other
read_others before after key v other h differs =
    elim (written_cases before after key v h) [
      | inl kept ↦ sym (ap (λ es. value_at es other) kept.same)
      | inr put ↦ sym (ap (λ es. value_at es other) put.same) ∙ value_at-others before key v other differs
    ]
