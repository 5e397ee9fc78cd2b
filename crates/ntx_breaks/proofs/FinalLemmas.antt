-- The least candidate of all makes a state.
use Rattle.std.proofs.Common.{◌≡◌, ℕ, zero, suc, ◌+◌, ◌<◌, ◌≤◌, ℤ, pos, ◌+ℤ◌, List, [], ◌∷◌, ◌++◌, get_or, Bool, true, false, cond, Option, Some, None, length, refl, ap, sym, ◌∙◌, subst, length-append, arith}
use Rattle.std.specs.Prelude.{int_lt, int_le, nat_eq, ◌≤ℤ◌, IfSome, IsSomeAnd, unsigned_abs}
use Rattle.std.specs.List.{All, fold}
use Rattle.std.proofs.lemmas.Int.{ints}
use Rattle.std.proofs.lemmas.Bool.{eq-eqb}
use Rattle.std.proofs.lemmas.List.{length_push}
use Rattle.ntx_item.specs.Settings.{Settings}
use Rattle.ntx_breaks.specs.declared.state.State.{State}
use Rattle.ntx_breaks.specs.Making.{lesser, least_of, of_class, push_state, push_within, add_class, add_within, add_near, add_states, most_total}
use Rattle.ntx_breaks.specs.inner.Search.{Extends}
use Rattle.ntx_breaks.proofs.MakingLemmas.{least_is, class_is}

-- ---- the least of a class

abbrev IsLow : ℤ → Option State → Type 0
IsLow z o = IsSomeAnd o (λ (s : State). s.total ≤ℤ z)

low_if : (b : Bool) (z : ℤ) (s t : State) → (b ≡ true → s.total ≤ℤ z) → (b ≡ false → t.total ≤ℤ z) → IsLow z (cond b (Some s) (Some t))
low_if true z s t f g = f refl
low_if false z s t f g = g refl

not_less : (a b z : ℤ) → int_lt a b ≡ false → a ≤ℤ z → b ≤ℤ z
not_less a b z e h = grind (arith, ints)

less : (a b z : ℤ) → int_lt a b ≡ true → b ≤ℤ z → a ≤ℤ z
less a b z e h = grind (arith, ints)

lesser_old : (z : ℤ) (best : Option State) (s : State) → IsLow z best → IsLow z (lesser best s)
lesser_old z None s h = elim h [ ]
lesser_old z (Some b) s h = low_if (int_lt b.total s.total) z b s (λ _. h) (λ e. not_less b.total s.total z e h)

lesser_new : (z : ℤ) (best : Option State) (s : State) → s.total ≤ℤ z → IsLow z (lesser best s)
lesser_new z None s h = h
lesser_new z (Some b) s h = low_if (int_lt b.total s.total) z b s (λ e. less b.total s.total z e h) (λ _. h)

fold_low : (z : ℤ) (best : Option State) (xs : List State) → IsLow z best → IsLow z (fold lesser best xs)
fold_low z best [] h = h
fold_low z best (x ∷ xs) h = fold_low z (lesser best x) xs (lesser_old z best x h)

by_class : (b : Bool) (z : ℤ) (best : Option State) (x : State) (rest : List State) → ((o : Option State) → IsLow z (fold lesser o rest)) → IsLow z (fold lesser best (cond b (x ∷ rest) rest))
by_class true z best x rest f = f (lesser best x)
by_class false z best x rest f = f best

itself : (z : ℤ) → z ≤ℤ z
itself z = omega (arith, ints)

low_at : (class : ℕ) (best : Option State) (xs : List State) (k : ℕ) (d : State) → k < length xs → (get_or xs k d).class ≡ class → IsLow (get_or xs k d).total (fold lesser best (of_class class xs))
low_at class best [] k d lt e = let no : ⊥ = omega arith in elim no [ ]
low_at class best (x ∷ xs) zero d lt e =
    subst (λ b. IsLow x.total (fold lesser best (cond b (x ∷ of_class class xs) (of_class class xs)))) (sym (eq-eqb x.class class e))
    (fold_low x.total (lesser best x) (of_class class xs) (lesser_new x.total best x (itself x.total)))
low_at class best (x ∷ xs) (suc k) d lt e =
    let less_tail : k < length xs = omega arith in
    by_class (nat_eq x.class class) (get_or xs k d).total best x (of_class class xs) (λ o. low_at class o xs k d less_tail e)

-- of the class of the least state there is one that is as low
low_of_least : (xs : List State) → IfSome (least_of xs) (λ (m : State). IsLow m.total (least_of (of_class m.class xs)))
low_of_least xs = least_is (λ (m : State). IsLow m.total (least_of (of_class m.class xs))) xs (λ k d lt. low_at (get_or xs k d).class None xs k d lt refl)

-- ---- it makes a state

within : (a b : ℤ) (n : ℕ) → a ≤ℤ b → int_le a (b +ℤ pos n) ≡ true
within a b n h = grind (arith, ints)

push_grows : (z : ℤ) (n : ℕ) (states : List State) (o : Option State) → IsLow z o → length (push_within (z +ℤ pos n) states o) ≡ length states + 1
push_grows z n states None h = elim h [ ]
push_grows z n states (Some s) h =
    ap (λ b. length (cond b (push_state states s) states)) (within s.total z n h) ∙ length_push states (record s { number = length states })

keeps : (most : ℤ) (candidates : List State) (class : ℕ) (states : List State) → length states ≤ length (add_class most candidates class states)
keeps most candidates class states =
    let ext = class_is (λ _. Unit {0}) (λ s n h. tt) most candidates class states (λ k d lt. tt) in
    let size : length (add_class most candidates class states) ≡ length states + length ext.made = ap length ext.is ∙ length-append states ext.made in
    omega (arith, size)

within_grows : (most : ℤ) (candidates : List State) (class : ℕ) → class ≤ 3 → ((states : List State) → length (add_class most candidates class states) ≡ length states + 1) → (states : List State) →
    length states < length (add_within most candidates states)
within_grows most candidates zero le g states =
    let a = add_class most candidates 0 states in let b = add_class most candidates 1 a in let d = add_class most candidates 2 b in
    omega (arith, g states, keeps most candidates 1 a, keeps most candidates 2 b, keeps most candidates 3 d)
within_grows most candidates (suc zero) le g states =
    let a = add_class most candidates 0 states in let b = add_class most candidates 1 a in let d = add_class most candidates 2 b in
    omega (arith, keeps most candidates 0 states, g a, keeps most candidates 2 b, keeps most candidates 3 d)
within_grows most candidates (suc (suc zero)) le g states =
    let a = add_class most candidates 0 states in let b = add_class most candidates 1 a in let d = add_class most candidates 2 b in
    omega (arith, keeps most candidates 0 states, keeps most candidates 1 a, g b, keeps most candidates 3 d)
within_grows most candidates (suc (suc (suc zero))) le g states =
    let a = add_class most candidates 0 states in let b = add_class most candidates 1 a in let d = add_class most candidates 2 b in
    omega (arith, keeps most candidates 0 states, keeps most candidates 1 a, keeps most candidates 2 b, g d)
within_grows most candidates (suc (suc (suc (suc n)))) le g states = omega arith

near_grows : (params : Settings) (candidates states : List State) (least : Option State) → IsSomeAnd least (λ (m : State). (m.class ≤ 3) × IsLow m.total (least_of (of_class m.class candidates))) →
    length states < length (add_near params candidates least states)
near_grows params candidates states None h = elim h [ ]
near_grows params candidates states (Some m) h =
    within_grows (most_total params m) candidates m.class h.0 (λ more. push_grows m.total (unsigned_abs params.adjdemerits) more (least_of (of_class m.class candidates)) h.1) states

some_either : (b : Bool) (s t : State) → IsSomeAnd (cond b (Some s) (Some t)) (λ _. Unit {0})
some_either true s t = tt
some_either false s t = tt

lesser_some : (best : Option State) (s : State) → IsSomeAnd (lesser best s) (λ _. Unit {0})
lesser_some None s = tt
lesser_some (Some b) s = some_either (int_lt b.total s.total) b s

both_parts : (P Q : State → Type 0) (o : Option State) → IsSomeAnd o (λ _. Unit {0}) → IfSome o P → IfSome o Q → IsSomeAnd o (λ (s : State). P s × Q s)
both_parts P Q None h p q = elim h [ ]
both_parts P Q (Some s) h p q = (p, q)

fold_some : (best : Option State) (xs : List State) → IsSomeAnd best (λ _. Unit {0}) → IsSomeAnd (fold lesser best xs) (λ _. Unit {0})
fold_some best [] h = h
fold_some best (x ∷ xs) h = fold_some (lesser best x) xs (lesser_some best x)

least_some : (xs : List State) → 0 < length xs → IsSomeAnd (least_of xs) (λ _. Unit {0})
least_some [] lt = let no : ⊥ = omega arith in elim no [ ]
least_some (x ∷ xs) lt = fold_some (Some x) xs tt

-- With a candidate there is a state more.
pub states_grow : (params : Settings) (candidates states : List State) → All (λ (s : State). s.class ≤ 3) candidates → 0 < length candidates → length states < length (add_states params candidates states)
states_grow params candidates states all lt =
    near_grows params candidates states (least_of candidates)
    (both_parts (λ (m : State). m.class ≤ 3) (λ (m : State). IsLow m.total (least_of (of_class m.class candidates))) (least_of candidates) (least_some candidates lt)
    (least_is (λ (m : State). m.class ≤ 3) candidates all) (low_of_least candidates))
