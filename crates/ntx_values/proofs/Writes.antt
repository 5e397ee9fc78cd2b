-- A table after a set.
use Rattle.std.proofs.Common.{◌≡◌, ℕ, ◌+◌, ◌<◌, ◌≤◌, ◌⊎◌, inl, inr, Bool, true, false, cond, List, length, Option, Some, None, is_some, unwrap_or, Result, Ok, Err, refl, ap, sym, ◌∙◌, subst, arith, true≢false, All}
use Rattle.std.specs.Prelude.{nat_le}
use Rattle.std.specs.Map.{lookup}
use Rattle.std.proofs.lemmas.Bool.{cases_lt}
use Rattle.std.proofs.lemmas.Bool.Decides.{Decides-eqb}
use Rattle.indexmap.specs.IndexMap.{insert_entry}
use Rattle.ntx_num.proofs.Answers.{same_Ok, not_taken}
use Rattle.ntx_values.specs.Value.{is_same, is_nil}
use Rattle.ntx_values.specs.Table.{Entries, max_keys, has_key, value_at, written}
use Rattle.ntx_values.specs.State.{StoreState, IsOf, Grows, IsLawfulTable}
use Rattle.ntx_values.specs.declared.value.Value.{Value}
use Rattle.ntx_values.specs.declared.value.Value.TheVariants.{Nil}
use Rattle.ntx_values.specs.declared.why.LuaWhy.{LuaWhy}
use Rattle.ntx_values.specs.declared.why.LuaWhy.TheVariants.{NilKey, TablesFull}
use Rattle.ntx_values.proofs.Same.{Nil-is_nil}
use Rattle.ntx_values.proofs.Inserts.{lookup-inserted, distinct-inserted, length-present, length-absent, All-inserted}

-- nothing changes: nil is set at a key that is not there
pub record Unchanged (before after : Entries) (key v : Value) : Type 0 where
  pub absent : has_key before key ≡ false
  pub nil : is_nil v ≡ true
  pub same : before ≡ after

-- the value is put in
pub record PutIn (before after : Entries) (key v : Value) : Type 0 where
  pub key_is : is_nil key ≡ false
  pub room : (has_key before key ≡ true) ⊎ ((has_key before key ≡ false) × (nat_le max_keys (length before) ≡ false))
  pub same : insert_entry is_same before key v ≡ after

pub written_cases : (before after : Entries) (key v : Value) → written before key v ≡ Ok after → Unchanged before after key v ⊎ PutIn before after key v
written_cases before after key v h =
    let a = not_taken (is_nil key) NilKey _ after h in
    by (has_key before key) refl a.0 a.1
  where
    put_in : Result Entries LuaWhy
    put_in = Ok (insert_entry is_same before key v)

    room : (b : Bool) → nat_le max_keys (length before) ≡ b → has_key before key ≡ false → is_nil key ≡ false → cond b (Err TablesFull) put_in ≡ Ok after → PutIn before after key v
    room true e absent k g = cc
    room false e absent k g = record { key_is = k; room = inr (absent, e); same = same_Ok _ after g }

    value : (b : Bool) → is_nil v ≡ b → has_key before key ≡ false → is_nil key ≡ false → cond b (Ok before) (cond (nat_le max_keys (length before)) (Err TablesFull) put_in) ≡ Ok after
        → Unchanged before after key v ⊎ PutIn before after key v
    value true e absent k g = inl (record { absent = absent; nil = e; same = same_Ok before after g })
    value false e absent k g = inr (room (nat_le max_keys (length before)) refl absent k g)

    by : (b : Bool) → has_key before key ≡ b → is_nil key ≡ false → cond b put_in (cond (is_nil v) (Ok before) (cond (nat_le max_keys (length before)) (Err TablesFull) put_in)) ≡ Ok after
        → Unchanged before after key v ⊎ PutIn before after key v
    by true e k g = inr (record { key_is = k; room = inl e; same = same_Ok _ after g })
    by false e k g = value (is_nil v) refl e k g

-- the value is read back at the key
pub value_at-inserted : (es : Entries) (key v : Value) → (is_same key key ≡ true) → value_at (insert_entry is_same es key v) key ≡ v
value_at-inserted es key v h = ap (λ o. unwrap_or o Nil) (lookup-inserted es key v key ∙ ap (λ b. cond b (Some v) (lookup (is_same key) es)) h)

pub value_at-others : (es : Entries) (key v other : Value) → is_same key other ≡ false → value_at (insert_entry is_same es key v) other ≡ value_at es other
value_at-others es key v other h = ap (λ o. unwrap_or o Nil) (lookup-inserted es key v other ∙ ap (λ b. cond b (Some v) (lookup (is_same other) es)) h)

pub value_at-absent : (es : Entries) (key : Value) → has_key es key ≡ false → value_at es key ≡ Nil
value_at-absent es key h = by (lookup (is_same key) es) h
  where
    by : (o : Option Value) → is_some o ≡ false → unwrap_or o Nil ≡ Nil
    by None e = refl
    by (Some v) e = absurd (true≢false e)

pub lawful-inserted : (store : StoreState) (es : Entries) (key v : Value) → IsLawfulTable store es → is_nil key ≡ false → IsOf store key → IsOf store v
    → (has_key es key ≡ true) ⊎ ((has_key es key ≡ false) × (nat_le max_keys (length es) ≡ false)) → IsLawfulTable store (insert_entry is_same es key v)
lawful-inserted store es key v lawful k of_key of_v room =
    record {
      once = distinct-inserted es key v lawful.once;
      keys = All-inserted (λ e. is_nil e.0 ≡ false) es key v (λ e h. h) k lawful.keys;
      few = few room;
      values = All-inserted (λ e. IsOf store e.0 × IsOf store e.1) es key v (λ e h. (h.0, of_v)) (of_key, of_v) lawful.values;
    }
  where
    few : (has_key es key ≡ true) ⊎ ((has_key es key ≡ false) × (nat_le max_keys (length es) ≡ false)) → length (insert_entry is_same es key v) ≤ max_keys
    few (inl there) = omega (arith, length-present es key v there, lawful.few)
    few (inr new) = let more = new.1 in grind (arith, length-absent es key v new.0, lawful.few, more)

pub lawful-written : (store : StoreState) (before after : Entries) (key v : Value) → IsLawfulTable store before → IsOf store key → IsOf store v → written before key v ≡ Ok after
    → IsLawfulTable store after
lawful-written store before after key v lawful of_key of_v h =
    elim (written_cases before after key v h) [
      | inl same ↦ subst (IsLawfulTable store) same.same lawful
      | inr put ↦ subst (IsLawfulTable store) put.same (lawful-inserted store before key v lawful put.key_is of_key of_v put.room)
    ]
