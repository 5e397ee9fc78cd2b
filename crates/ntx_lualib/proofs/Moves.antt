-- A store whose table is refilled value by value.
use Rattle.std.proofs.Common.{◌≡◌, ℕ, true, cond, pos, length, [], Ok, Err, is_ok, ap, sym, ◌∙◌, true≢false}
use Rattle.std.specs.Prelude.{Result, nat_le}
use Rattle.std.specs.List.{IsDistinct}
use Rattle.std.specs.Map.{keys_of}
use Rattle.std.proofs.lemmas.List.{get_or-set_same, set-get_or, set-set}
use Rattle.indexmap.specs.IndexMap.{insert_entry}
use Rattle.ntx_num.specs.Answer.{result_map, Steps}
use Rattle.ntx_num.specs.declared.answer.Fail.{Fail}
use Rattle.ntx_num.specs.declared.answer.Fail.TheVariants.{NoMemory, Is}
use Rattle.ntx_num.proofs.Answers.{same_Ok}
use Rattle.ntx_values.specs.Value.{is_same, is_nil}
use Rattle.ntx_values.specs.Table.{Entries, max_keys, has_key, value_at, item_at, written}
use Rattle.ntx_values.specs.State.{StoreState, IsOf, table_of}
use Rattle.ntx_values.specs.Steps.{set_step}
use Rattle.ntx_values.specs.declared.value.Value.{Value}
use Rattle.ntx_values.specs.declared.value.Value.TheVariants.{Int, Table}
use Rattle.ntx_values.specs.declared.value.TableId.{TableId}
use Rattle.ntx_values.specs.declared.why.LuaWhy.{LuaWhy}
use Rattle.ntx_values.specs.declared.why.LuaWhy.TheVariants.{TablesFull}
use Rattle.ntx_lualib.specs.Lists.{refilled, with_table}
use Rattle.ntx_lualib.specs.inner.Moves.{Moves}
use Rattle.ntx_lualib.proofs.Refills.{refilled_alike, refilled_self, insert-refilled, has_key-refilled, value_at-kept}

pub table_of-with : (s : StoreState) (t : TableId) (es : Entries) → IsOf s (Table t) → table_of (with_table s t es) t ≡ es
table_of-with s t es of = get_or-set_same s.tables t.number es [] of

pub with_same : (s : StoreState) (t : TableId) → with_table s t (table_of s t) ≡ s
with_same s t = let e = set-get_or s.tables t.number [] in λ i. record s { tables = e i }

pub with_twice : (s : StoreState) (t : TableId) (a b : Entries) → with_table (with_table s t a) t b ≡ with_table s t b
with_twice s t a b = let e = set-set s.tables t.number a b in λ i. record s { tables = e i }

written_held : (es : Entries) (k : ℕ) (v : Value) → has_key es (Int (pos k)) ≡ true → written es (Int (pos k)) v ≡ Ok (insert_entry is_same es (Int (pos k)) v)
written_held es k v h =
    ap (λ b. cond b (Ok (insert_entry is_same es (Int (pos k)) v))
    (cond (is_nil v) (Ok es) (cond (nat_le max_keys (length es)) (Err TablesFull) (Ok (insert_entry is_same es (Int (pos k)) v))))) h

pub not_both : {A E : Type 0} (r : Result A E) (a : A) (e : E) → r ≡ Ok a → r ≡ Err e → ⊥
not_both r a e h k = true≢false (sym (ap is_ok h) ∙ ap is_ok k)

module _ (s : StoreState) (t : TableId) (of : IsOf s (Table t)) (once : IsDistinct is_same (keys_of (table_of s t))) where
  abbrev pub filled : (Value → Value) → StoreState
  filled g = with_table s t (refilled g (table_of s t))

  pub fill_start : (g : Value → Value) → ((q : Value) → value_at (table_of s t) q ≡ g q) → s ≡ filled g
  fill_start g same =
      sym (ap (with_table s t) (sym (refilled_alike (value_at (table_of s t)) g (table_of s t) same) ∙ refilled_self (table_of s t) once) ∙ with_same s t)

  pub fill_item : (g : Value → Value) (n : ℕ) → g (Int (pos n)) ≡ item_at (table_of s t) n → item_at (table_of (filled g) t) n ≡ item_at (table_of s t) n
  fill_item g n same = ap (λ es. item_at es n) (table_of-with s t (refilled g (table_of s t)) of) ∙ value_at-kept g (table_of s t) (Int (pos n)) same

  pub fill_set : (g h : Value → Value) (k : ℕ) (x : Value) → has_key (table_of s t) (Int (pos k)) ≡ true → ((q : Value) → cond (is_same (Int (pos k)) q) x (g q) ≡ h q)
      → set_step t (Int (pos k)) x (filled g) ≡ Ok (tt, filled h)
  fill_set g h k x held same =
      ap (λ es. result_map (λ e. (tt, with_table (filled g) t e)) (written es (Int (pos k)) x)) (table_of-with s t (refilled g (table_of s t)) of)
      ∙ ap (result_map (λ e. (tt, with_table (filled g) t e))) (written_held (refilled g (table_of s t)) k x (has_key-refilled g (table_of s t) (Int (pos k)) ∙ held))
      ∙ ap (λ e. Ok (tt, with_table (filled g) t e)) (insert-refilled g (table_of s t) (Int (pos k)) x once held ∙ refilled_alike (λ q. cond (is_same (Int (pos k)) q) x (g q)) h (table_of s t) same)
      ∙ ap (λ st. Ok (tt, st)) (with_twice s t (refilled g (table_of s t)) (refilled h (table_of s t)))

  -- after a set, and after one that failed
  pub fill_more : (g h : Value → Value) (k : ℕ) (x : Value) (old new : StoreState) (u : Unit {0}) → old ≡ filled g → has_key (table_of s t) (Int (pos k)) ≡ true
      → ((q : Value) → cond (is_same (Int (pos k)) q) x (g q) ≡ h q) → set_step t (Int (pos k)) x old ≡ Ok (u, new) → new ≡ filled h
  fill_more g h k x old new u e held same step =
      ap (λ p. p.1) (same_Ok (u, new) (tt, filled h) (sym step ∙ ap (set_step t (Int (pos k)) x) e ∙ fill_set g h k x held same))

  pub fill_fails : (g h : Value → Value) (k : ℕ) (x : Value) (old new last : StoreState) (fail : Fail LuaWhy) (to : Value → Value) → old ≡ filled g → has_key (table_of s t) (Int (pos k)) ≡ true
      → ((q : Value) → cond (is_same (Int (pos k)) q) x (g q) ≡ h q) → Steps {A = Unit {0}} (Err fail) old new (set_step t (Int (pos k)) x old) → Moves (Err fail) s last t to
  fill_fails g h k x old new last NoMemory to e held same step = tt
  fill_fails g h k x old new last (Is why) to e held same step =
      absurd (not_both (set_step t (Int (pos k)) x old) (tt, filled h) why (ap (set_step t (Int (pos k)) x) e ∙ fill_set g h k x held same) step.0)
