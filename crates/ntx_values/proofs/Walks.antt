-- Walks over the pairs of a table.
use Rattle.std.proofs.Common.{◌≡◌, ℕ, zero, suc, ◌+◌, ◌<◌, ◌≤◌, Bool, true, false, cond, List, [], ◌∷◌, length, drop, slice_get, Option, Some, None, is_some, refl, ap, sym, ◌∙◌, subst, arith, true≢false, get_or, position, Result, Ok, Err, IfOk, All}
use Rattle.std.specs.Option.{option_and_then, option_map, ok_or, IfSome}
use Rattle.std.specs.Map.{lookup, keys_of}
use Rattle.std.proofs.lemmas.List.Elements.{All-head, All-tail}
use Rattle.std.proofs.lemmas.List.Quantifiers.{position-Some}
use Rattle.std.proofs.lemmas.Map.Entries.{length-keys_of}
use Rattle.ntx_values.specs.Value.{is_same, is_nil}
use Rattle.ntx_values.specs.Table.{Entries, has_key, first_held, entries_after, next_of}
use Rattle.ntx_values.specs.inner.Walk.{held_at}
use Rattle.ntx_values.specs.declared.value.Value.{Value}
use Rattle.ntx_values.specs.declared.why.BadKey.{BadKey}
use Rattle.ntx_values.specs.declared.value.Value.TheVariants.{Nil}

next_place : {X : Type 0} (x : X) (xs : List X) (place : ℕ) → drop (suc place) xs ≡ drop (suc place + 1) (x ∷ xs)
next_place x xs place = ap (λ n. drop n (x ∷ xs)) (let e : suc (suc place) ≡ suc place + 1 = omega arith in e)

-- the pair at a place holds something
pub found_here : (es : Entries) (place : ℕ) (e : Value × Value) → held_at es place ≡ Some e → first_held (drop place es) ≡ Some e
found_here [] zero e h = cc
found_here [] (suc place) e h = cc
found_here (x ∷ es) zero e h = by (is_nil x.1) h
  where
    by : (b : Bool) → cond b None (Some x) ≡ Some e → cond b (first_held es) (Some x) ≡ Some e
    by true g = cc
    by false g = g
found_here (x ∷ es) (suc place) e h = found_here es place e h

-- it holds nothing
pub nothing_here : (es : Entries) (place : ℕ) → held_at es place ≡ None → first_held (drop place es) ≡ first_held (drop (suc place) es)
nothing_here [] zero h = refl
nothing_here [] (suc place) h = refl
nothing_here (x ∷ es) zero h = by (is_nil x.1) h
  where
    by : (b : Bool) → cond b None (Some x) ≡ None → cond b (first_held es) (Some x) ≡ first_held es
    by true g = refl
    by false g = cc
nothing_here (x ∷ es) (suc place) h = nothing_here es place h

-- there is none
pub nothing_left : (es : Entries) (place : ℕ) → length es ≤ place → first_held (drop place es) ≡ None
nothing_left [] zero h = refl
nothing_left [] (suc place) h = refl
nothing_left (x ∷ es) zero h = let none : ⊥ = omega arith in absurd none
nothing_left (x ∷ es) (suc place) h = nothing_left es place (omega arith)

-- the pairs after the first key that is the same
pub after_place : (es : Entries) (key : Value) (place : ℕ) → place < length es → is_same key (get_or (keys_of es) place Nil) ≡ true
    → ((k : ℕ) → k < place → is_same key (get_or (keys_of es) k Nil) ≡ false) → entries_after es key ≡ Some (drop (suc place) es)
after_place [] key place h at before = let none : ⊥ = omega arith in absurd none
after_place (e ∷ es) key zero h at before = ap (λ b. cond b (Some es) (entries_after es key)) at
after_place (e ∷ es) key (suc place) h at before =
    ap (λ b. cond b (Some es) (entries_after es key)) (before 0 (omega arith))
    ∙ after_place es key place (omega arith) at (λ k less. before (suc k) (omega arith))

pub after_position : (es : Entries) (key : Value) (place : ℕ) → position (is_same key) (keys_of es) ≡ Some place → entries_after es key ≡ Some (drop (place + 1) es)
after_position es key place h =
    let p = position-Some (is_same key) (keys_of es) place Nil h in
    after_place es key place (omega (arith, p.0, length-keys_of es)) p.1 p.2 ∙ ap (λ n. Some (drop n es)) (let e : suc place ≡ place + 1 = omega arith in e)

pub after_absent : (es : Entries) (key : Value) → has_key es key ≡ false → entries_after es key ≡ None
after_absent [] key h = refl
after_absent (e ∷ es) key h = by (is_same key e.0) h (after_absent es key)
  where
    by : (b : Bool) → is_some (cond b (Some e.1) (lookup (is_same key) es)) ≡ false → (has_key es key ≡ false → entries_after es key ≡ None) → cond b (Some es) (entries_after es key) ≡ None
    by true g rest = absurd (true≢false g)
    by false g rest = rest g

-- what is true of each pair is true of the one that is found
pub found_All : (P : Value × Value → Type 0) (es : Entries) → All P es → IfSome (first_held es) P
found_All P [] h = tt
found_All P (e ∷ es) h = by (is_nil e.1) (found_All P es (All-tail P e es h))
  where
    by : (b : Bool) → IfSome (first_held es) P → IfSome (cond b (first_held es) (Some e)) P
    by true rest = rest
    by false rest = All-head P e es h

-- what a walk from a key that is there gives
pub next_found : (es now : Entries) (key : Value) (place : ℕ) (found : Option (Value × Value)) → es ≡ now → is_nil key ≡ false → position (is_same key) (keys_of es) ≡ Some place
    → found ≡ first_held (drop (place + 1) es) → Ok found ≡ next_of now key
next_found es now key place found e nil at is =
    ap Ok is ∙ sym (ap (λ o. ok_or (option_map first_held o) bad) (after_position es key place at))
    ∙ sym (ap (λ b. cond b (Ok (first_held es)) (ok_or (option_map first_held (entries_after es key)) bad)) nil) ∙ ap (λ l. next_of l key) e
  where
    bad : BadKey
    bad = record {}

pub next_missing : (es now : Entries) (key : Value) → es ≡ now → is_nil key ≡ false → has_key es key ≡ false → Err (record {}) ≡ next_of now key
next_missing es now key e nil absent =
    sym (ap (λ o. ok_or (option_map first_held o) bad) (after_absent es key absent))
    ∙ sym (ap (λ b. cond b (Ok (first_held es)) (ok_or (option_map first_held (entries_after es key)) bad)) nil) ∙ ap (λ l. next_of l key) e
  where
    bad : BadKey
    bad = record {}

after_All : (P : Value × Value → Type 0) (es : Entries) (key : Value) → All P es → IfSome (entries_after es key) (All P)
after_All P [] key h = tt
after_All P (e ∷ es) key h = by (is_same key e.0) (after_All P es key (All-tail P e es h))
  where
    by : (b : Bool) → IfSome (entries_after es key) (All P) → IfSome (cond b (Some es) (entries_after es key)) (All P)
    by true rest = All-tail P e es h
    by false rest = rest

-- what is true of each pair is true of the one that a walk finds
pub next_All : (P : Value × Value → Type 0) (es : Entries) (key : Value) → All P es → IfOk (next_of es key) (λ found. IfSome found P)
next_All P es key h = by (is_nil key)
  where
    walked : Option Entries → Result (Option (Value × Value)) BadKey
    walked o = ok_or (option_map first_held o) (record {})

    after : (o : Option Entries) → IfSome o (All P) → IfOk (walked o) (λ found. IfSome found P)
    after None g = tt
    after (Some rest) g = found_All P rest g

    by : (b : Bool) → IfOk (cond b (Ok (first_held es)) (walked (entries_after es key))) (λ found. IfSome found P)
    by true = found_All P es h
    by false = after (entries_after es key) (after_All P es key h)
