-- A value put in at a place of a list.
use Rattle.std.proofs.Common.{◌≡◌, ℕ, ◌+◌, ◌-◌, ◌≤◌, inl, inr, Bool, true, false, cond, ◌&&◌, ℤ, pos, negsuc, List, length, Some, is_some, Ok, Err, refl, ap, sym, ◌∙◌, subst, arith}
use Rattle.std.specs.Prelude.{Result, nat_eq, nat_le, nat_lt}
use Rattle.std.specs.Map.{lookup}
use Rattle.std.proofs.lemmas.Bool.{cases_lt}
use Rattle.std.proofs.lemmas.Bool.Decides.{nat_tests}
use Rattle.ntx_num.specs.Answer.{result_map, Steps}
use Rattle.ntx_num.specs.declared.answer.Fail.{Fail}
use Rattle.ntx_num.specs.declared.answer.Fail.TheVariants.{NoMemory, Is}
use Rattle.ntx_num.proofs.Answers.{same_Ok, same_Err, mapped_Ok}
use Rattle.ntx_values.specs.Value.{is_same}
use Rattle.ntx_values.specs.Table.{Entries, has_key, value_at, item_at, border_of, written}
use Rattle.ntx_values.specs.State.{StoreState, IsOf, IsLawful, table_of}
use Rattle.ntx_values.specs.Steps.{set_step}
use Rattle.ntx_values.specs.declared.value.Value.{Value}
use Rattle.ntx_values.specs.declared.value.Value.TheVariants.{Nil, Int, Text, Table, Function, Prim, Node}
use Rattle.ntx_values.specs.declared.value.Value.TheVariants as value
use Rattle.ntx_values.specs.declared.value.TableId.{TableId}
use Rattle.ntx_values.specs.declared.why.LuaWhy.{LuaWhy}
use Rattle.ntx_values.proofs.Inserts.{lookup-inserted}
use Rattle.ntx_values.proofs.Writes.{written_cases}
use Rattle.ntx_values.proofs.ReadBack.{read_back, read_others}
use Rattle.ntx_values.proofs.Lawful.{table_lawful}
use Rattle.ntx_lualib.specs.Arguments.{◌>>=◌, argument, integer_of}
use Rattle.ntx_lualib.specs.Lists.{refilled, with_table, insert_at, shifted_up, remove_at, shifted_down, place_in, inserted}
use Rattle.ntx_lualib.specs.inner.Moves.{raised, lowered, Moves, Changes}
use Rattle.ntx_lualib.proofs.Refills.{refilled_alike}
use Rattle.ntx_lualib.proofs.Moves.{table_of-with, with_twice, fill_set, not_both}
use Rattle.ntx_lualib.proofs.Numbering.{number_test, held_key}

-- what a set gave
pub record WasSet (s new : StoreState) (t : TableId) (key v : Value) : Type 0 where
  pub entries : Entries
  pub is : written (table_of s t) key v ≡ Ok entries
  pub new_is : new ≡ with_table s t entries

pub was_set : (s new : StoreState) (t : TableId) (key v : Value) (u : Unit {0}) → set_step t key v s ≡ Ok (u, new) → WasSet s new t key v
was_set s new t key v u h =
    let m = mapped_Ok (λ entries. (tt, with_table s t entries)) (written (table_of s t) key v) (u, new) h in
    record { entries = m.value; is = m.is; new_is = sym (ap (λ x. x.1) m.gives) }

not_mapped : {A B : Type 0} (f : A → B) (r : Result A LuaWhy) (why : LuaWhy) → result_map f r ≡ Err why → r ≡ Err why
not_mapped f (Ok a) why h = cc
not_mapped f (Err e) why h = ap Err (same_Err e why h)

-- a set of a table, as a change of it
pub set_changes : (s new : StoreState) (t : TableId) (key v : Value) (r : Result (Unit {0}) (Fail LuaWhy)) → Steps r s new (set_step t key v s) → Changes r s new t (written (table_of s t) key v)
set_changes s new t key v (Ok u) h = let w = was_set s new t key v u h in ap (result_map (with_table s t)) w.is ∙ ap Ok (sym w.new_is)
set_changes s new t key v (Err (Is why)) h = (not_mapped (λ entries. (tt, with_table s t entries)) (written (table_of s t) key v) why h.0, h.1)
set_changes s new t key v (Err NoMemory) h = tt

-- a key that is there stays
pub key_stays : (before after : Entries) (key v q : Value) → written before key v ≡ Ok after → has_key before q ≡ true → has_key after q ≡ true
key_stays before after key v q h there =
    elim (written_cases before after key v h) [
      | inl kept ↦ subst (λ es. has_key es q ≡ true) kept.same there
      | inr put ↦
          subst (λ es. has_key es q ≡ true) put.same
          (ap is_some (lookup-inserted before key v q) ∙ by (is_same key q))
    ]
  where
    by : (b : Bool) → is_some (cond b (Some v) (lookup (is_same q) before)) ≡ true
    by true = refl
    by false = there

-- what is put in before the last place
inserted_at : (es : Entries) (p : ℕ) (v : Value) → p ≤ border_of es
    → insert_at es p v ≡ result_map (refilled (shifted_up es p v)) (written es (Int (pos (border_of es + 1))) (item_at es (border_of es)))
inserted_at es p v high =
    let inner : nat_eq p (border_of es + 1) ≡ false = grind (arith, nat_tests) in
    let before : border_of es + 1 - 1 ≡ border_of es = omega arith in
    ap (λ b. cond b (written es (Int (pos (border_of es + 1))) v) (result_map (refilled (shifted_up es p v)) (written es (Int (pos (border_of es + 1))) (item_at es (border_of es + 1 - 1))))) inner
    ∙ ap (λ n. result_map (refilled (shifted_up es p v)) (written es (Int (pos (border_of es + 1))) (item_at es n))) before

-- the table after the place after the border was set
module _ (es longer : Entries) (h : written es (Int (pos (border_of es + 1))) (item_at es (border_of es)) ≡ Ok longer) where
  pub still_held : (p k : ℕ) → 1 ≤ p → p ≤ k → k ≤ border_of es → has_key longer (Int (pos k)) ≡ true
  still_held p k low above high = key_stays es longer (Int (pos (border_of es + 1))) (item_at es (border_of es)) (Int (pos k)) h (held_key es k (omega arith) high)

  last_item : item_at longer (border_of es + 1) ≡ item_at es (border_of es)
  last_item = read_back es longer (Int (pos (border_of es + 1))) (item_at es (border_of es)) h

  other_item : (j : ℕ) → nat_eq (border_of es + 1) j ≡ false → item_at longer j ≡ item_at es j
  other_item j differs =
      read_others es longer (Int (pos (border_of es + 1))) (item_at es (border_of es)) (Int (pos j)) h (number_test (border_of es + 1) j ∙ differs)

  other_value : (q : Value) → is_same (Int (pos (border_of es + 1))) q ≡ false → value_at longer q ≡ value_at es q
  other_value q differs = read_others es longer (Int (pos (border_of es + 1))) (item_at es (border_of es)) q h differs

  at_number : (p j : ℕ) (v : Value) → p ≤ border_of es
      → cond (nat_eq p j) v (cond (nat_lt p j && nat_le j (border_of es)) (item_at longer (j - 1)) (item_at longer j)) ≡ shifted_up es p v (Int (pos j))
  at_number p j v high =
      elim (cases_lt p j) [
        | inl above ↦ elim (cases_lt (border_of es) j) [
          | inl past ↦ elim (cases_lt (border_of es + 1) j) [
            | inl far ↦
                let here : nat_eq (border_of es + 1) j ≡ false = grind (arith, nat_tests) in
                let kept = other_item j here in
                grind (arith, nat_tests)
            | inr at ↦
                let last : j ≡ border_of es + 1 = omega arith in
                let before : j - 1 ≡ border_of es = omega arith in
                let moved : item_at longer j ≡ item_at es (j - 1) = ap (item_at longer) last ∙ last_item ∙ ap (item_at es) (sym before) in
                grind (arith, nat_tests)
          ]
          | inr within ↦
              let here : nat_eq (border_of es + 1) (j - 1) ≡ false = grind (arith, nat_tests) in
              let kept = other_item (j - 1) here in
              grind (arith, nat_tests)
        ]
        | inr below ↦
            let here : nat_eq (border_of es + 1) j ≡ false = grind (arith, nat_tests) in
            let kept = other_item j here in
            grind (arith, nat_tests)
      ]

  pub shifted : (p : ℕ) (v : Value) → p ≤ border_of es → (q : Value) → cond (is_same (Int (pos p)) q) v (raised longer p (border_of es) q) ≡ shifted_up es p v q
  shifted p v high (Int (pos j)) = ap (λ b. cond b v (raised longer p (border_of es) (Int (pos j)))) (number_test p j) ∙ at_number p j v high
  shifted p v high (Int (negsuc j)) = other_value (Int (negsuc j)) refl
  shifted p v high Nil = other_value Nil refl
  shifted p v high (value.Bool b) = other_value (value.Bool b) refl
  shifted p v high (Text t) = other_value (Text t) refl
  shifted p v high (Table t) = other_value (Table t) refl
  shifted p v high (Function f) = other_value (Function f) refl
  shifted p v high (Prim x) = other_value (Prim x) refl
  shifted p v high (Node n) = other_value (Node n) refl

-- the first set of an insertion, with what the code read before it
pub first_set : (s s1 : StoreState) (t : TableId) (count : ℕ) (last : Value) (u : Unit {0}) → count ≡ border_of (table_of s t) → last ≡ item_at (table_of s t) count
    → set_step t (Int (pos (count + 1))) last s ≡ Ok (u, s1) → WasSet s s1 t (Int (pos (border_of (table_of s t) + 1))) (item_at (table_of s t) (border_of (table_of s t)))
first_set s s1 t count last u n is h =
    was_set s s1 t (Int (pos (border_of (table_of s t) + 1))) (item_at (table_of s t) (border_of (table_of s t))) u
    (subst (λ m. set_step t (Int (pos (m + 1))) (item_at (table_of s t) m) s ≡ Ok (u, s1)) n (subst (λ v. set_step t (Int (pos (count + 1))) v s ≡ Ok (u, s1)) is h))

pub held_after : (s s1 : StoreState) (t : TableId) (count p : ℕ) → IsOf s (Table t) → count ≡ border_of (table_of s t)
    → WasSet s s1 t (Int (pos (border_of (table_of s t) + 1))) (item_at (table_of s t) (border_of (table_of s t))) → 1 ≤ p
    → (k : ℕ) → p ≤ k → k ≤ count → has_key (table_of s1 t) (Int (pos k)) ≡ true
held_after s s1 t count p of n w low k above high =
    subst (λ es. has_key es (Int (pos k)) ≡ true) (sym (ap (λ st. table_of st t) w.new_is ∙ table_of-with s t w.entries of))
    (still_held (table_of s t) w.entries w.is p k low above (omega arith))

-- where it is refused
pub insert_refused : (s s1 : StoreState) (t : TableId) (count p : ℕ) (last v : Value) (fail : Fail LuaWhy) → count ≡ border_of (table_of s t) → last ≡ item_at (table_of s t) count → p ≤ count
    → Steps {A = Unit {0}} (Err fail) s s1 (set_step t (Int (pos (count + 1))) last s) → Changes (Err fail) s s1 t (insert_at (table_of s t) p v)
insert_refused s s1 t count p last v NoMemory n is high h = tt
insert_refused s s1 t count p last v (Is why) n is high h = (refusal, h.1)
  where
    refused : written (table_of s t) (Int (pos (border_of (table_of s t) + 1))) (item_at (table_of s t) (border_of (table_of s t))) ≡ Err why
    refused =
        not_mapped (λ entries. (tt, with_table s t entries)) (written (table_of s t) (Int (pos (border_of (table_of s t) + 1))) (item_at (table_of s t) (border_of (table_of s t)))) why
        (subst (λ m. set_step t (Int (pos (m + 1))) (item_at (table_of s t) m) s ≡ Err why) n (subst (λ v. set_step t (Int (pos (count + 1))) v s ≡ Err why) is h.0))

    refusal : insert_at (table_of s t) p v ≡ Err why
    refusal = inserted_at (table_of s t) p v (omega arith) ∙ ap (result_map (refilled (shifted_up (table_of s t) p v))) refused

-- where it is done
pub insert_done : (s s1 s2 s3 : StoreState) (t : TableId) (count p : ℕ) (v : Value) (r : Result (Unit {0}) (Fail LuaWhy)) → IsOf s (Table t) → IsOf s1 (Table t) → IsLawful s1
    → count ≡ border_of (table_of s t) → WasSet s s1 t (Int (pos (border_of (table_of s t) + 1))) (item_at (table_of s t) (border_of (table_of s t))) → 1 ≤ p → p ≤ count
    → s2 ≡ with_table s1 t (refilled (raised (table_of s1 t) p count) (table_of s1 t)) → Steps r s2 s3 (set_step t (Int (pos p)) v s2)
    → Changes r s s3 t (insert_at (table_of s t) p v)
insert_done s s1 s2 s3 t count p v r of of1 lawful n w low high moved h = by r h
  where
    longer_is : table_of s1 t ≡ w.entries
    longer_is = ap (λ st. table_of st t) w.new_is ∙ table_of-with s t w.entries of

    held : has_key (table_of s1 t) (Int (pos p)) ≡ true
    held = subst (λ es. has_key es (Int (pos p)) ≡ true) (sym longer_is) (still_held (table_of s t) w.entries w.is p p low (omega arith) (omega arith))

    same : (q : Value) → cond (is_same (Int (pos p)) q) v (raised (table_of s1 t) p count q) ≡ shifted_up (table_of s t) p v q
    same = subst (λ es. (q : Value) → cond (is_same (Int (pos p)) q) v (raised es p count q) ≡ shifted_up (table_of s t) p v q) (sym longer_is)
        (subst (λ m. (q : Value) → cond (is_same (Int (pos p)) q) v (raised w.entries p m q) ≡ shifted_up (table_of s t) p v q) (sym n) (shifted (table_of s t) w.entries w.is p v (omega arith)))

    done : set_step t (Int (pos p)) v s2 ≡ Ok (tt, with_table s1 t (refilled (shifted_up (table_of s t) p v) (table_of s1 t)))
    done = ap (set_step t (Int (pos p)) v) moved
        ∙ fill_set s1 t of1 (table_lawful s1 t lawful of1).once (raised (table_of s1 t) p count) (shifted_up (table_of s t) p v) p v held same

    answer : insert_at (table_of s t) p v ≡ Ok (refilled (shifted_up (table_of s t) p v) w.entries)
    answer = inserted_at (table_of s t) p v (omega arith) ∙ ap (result_map (refilled (shifted_up (table_of s t) p v))) w.is

    ended : with_table s t (refilled (shifted_up (table_of s t) p v) w.entries) ≡ with_table s1 t (refilled (shifted_up (table_of s t) p v) (table_of s1 t))
    ended = sym (with_twice s t w.entries (refilled (shifted_up (table_of s t) p v) w.entries)) ∙ ap (λ st. with_table st t (refilled (shifted_up (table_of s t) p v) w.entries)) (sym w.new_is)
        ∙ ap (λ es. with_table s1 t (refilled (shifted_up (table_of s t) p v) es)) (sym longer_is)

    by : (r : Result (Unit {0}) (Fail LuaWhy)) → Steps r s2 s3 (set_step t (Int (pos p)) v s2) → Changes r s s3 t (insert_at (table_of s t) p v)
    by (Ok u) step =
        ap (result_map (with_table s t)) answer ∙ ap (λ st. Ok st) (ended ∙ sym (ap (λ x. x.1) (same_Ok (u, s3) (tt, with_table s1 t (refilled (shifted_up (table_of s t) p v) (table_of s1 t))) (sym step ∙ done))))
    by (Err (Is why)) step = absurd (not_both (set_step t (Int (pos p)) v s2) (tt, with_table s1 t (refilled (shifted_up (table_of s t) p v) (table_of s1 t))) why done step.0)
    by (Err NoMemory) step = tt

-- a value that is taken out
removed_at : (es : Entries) (p : ℕ) (q : Value) → lowered es p (border_of es + 1) q ≡ shifted_down es p q
removed_at es p (Int (pos j)) = grind (arith, nat_tests)
removed_at es p (Int (negsuc j)) = refl
removed_at es p Nil = refl
removed_at es p (value.Bool b) = refl
removed_at es p (Text t) = refl
removed_at es p (Table t) = refl
removed_at es p (Function f) = refl
removed_at es p (Prim x) = refl
removed_at es p (Node n) = refl

pub remove_done : (s s1 : StoreState) (t : TableId) (count p : ℕ) (r : Result (Unit {0}) (Fail LuaWhy)) → count ≡ border_of (table_of s t) → Moves r s s1 t (lowered (table_of s t) p (count + 1))
    → Changes r s s1 t (Ok (remove_at (table_of s t) p))
remove_done s s1 t count p (Ok u) n h =
    ap (λ st. Ok st)
    (ap (with_table s t) (sym (refilled_alike (lowered (table_of s t) p (border_of (table_of s t) + 1)) (shifted_down (table_of s t) p) (table_of s t) (removed_at (table_of s t) p)))
    ∙ ap (λ m. with_table s t (refilled (lowered (table_of s t) p (m + 1)) (table_of s t))) (sym n) ∙ sym h)
remove_done s s1 t count p (Err (Is why)) n h = absurd h
remove_done s s1 t count p (Err NoMemory) n h = tt

-- the place was read
pub insert_place : (es : Entries) (args : List Value) (p : ℕ) → nat_le (length args) 2 ≡ false → (integer_of (argument args 1) >>= place_in es) ≡ Ok p → inserted es args ≡ insert_at es p (argument args 2)
insert_place es args p more place =
    ap (λ b. cond b (written es (Int (pos (border_of es + 1))) (argument args 1)) (integer_of (argument args 1) >>= λ i. place_in es i >>= λ p. insert_at es p (argument args 2))) more
    ∙ by (integer_of (argument args 1)) place
  where
    by : (r : Result ℤ LuaWhy) → (r >>= place_in es) ≡ Ok p → (r >>= λ i. place_in es i >>= λ p. insert_at es p (argument args 2)) ≡ insert_at es p (argument args 2)
    by (Ok i) h = ap (λ x. x >>= λ p. insert_at es p (argument args 2)) h
    by (Err why) h = absurd (not_both {A = ℕ} (Err why) p why h refl)
