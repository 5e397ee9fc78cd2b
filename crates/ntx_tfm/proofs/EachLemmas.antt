-- Tests and tables over the numbers below a bound.
use Rattle.std.proofs.Common.{◌≡◌, ℕ, zero, suc, ◌+◌, ◌<◌, Bool, true, false, ◌&&◌, [], ◌∷◌, ◌++◌, length, get_or, refl, sym, ap, ◌∙◌, subst, inl, inr, add-one, arith, length-append}
use Rattle.std.proofs.Math.ListN.{get_or-append}
use Rattle.std.proofs.lemmas.List.{get_or_push}
use Rattle.std.proofs.lemmas.Bool.{cases_lt, cases_Bool, and_right}
use Rattle.ntx_tfm.specs.Each.{each, table}

pub each_none : (test : ℕ → Bool) → each 0 test ≡ true
unfolding each
each_none test = refl

pub each_more : (test : ℕ → Bool) (n : ℕ) → each n test ≡ true → test n ≡ true → each (n + 1) test ≡ true
unfolding each
each_more test n before here = rw (add-one, before, here) refl

pub each_fails : (test : ℕ → Bool) (n i : ℕ) → i < n → test i ≡ false → each n test ≡ false
unfolding each
each_fails test zero i lt fails = absurd (omega arith)
each_fails test (suc n) i lt fails = elim (cases_lt i n) [
  | inl below ↦ rw (each_fails test n i below fails) refl
  | inr here ↦ let e : i ≡ n = omega arith in let last : test n ≡ false = subst (λ (k : ℕ). test k ≡ false) e fails in and_right (each n test) (test n) last
]

pub each_passes : (test : ℕ → Bool) (n i : ℕ) → i < n → each n test ≡ true → test i ≡ true
each_passes test n i lt passes = elim (cases_Bool (test i)) [
  | inl holds ↦ holds
  | inr fails ↦ absurd (cc (each_fails test n i lt fails))
]

pub each_ends : (test : ℕ → Bool) (k n : ℕ) → k ≡ n → each k test ≡ true → true ≡ each n test
each_ends test k n e passes = sym (subst (λ (m : ℕ). each m test ≡ true) e passes)

pub table_none : {A : Type 0} (f : ℕ → A) → table f 0 ≡ []
unfolding table
table_none f = refl

pub table_more : {A : Type 0} (f : ℕ → A) (n : ℕ) → table f (n + 1) ≡ table f n ++ f n ∷ []
unfolding table
table_more f n = rw add-one refl

pub length-table : {A : Type 0} (f : ℕ → A) (n : ℕ) → length (table f n) ≡ n
unfolding table
length-table f zero = refl
length-table f (suc n) = omega (arith, length-append (table f n) (f n ∷ []), length-table f n)

pub get-table : {A : Type 0} (f : ℕ → A) (n i : ℕ) (d : A) → i < n → get_or (table f n) i d ≡ f i
unfolding table
get-table f zero i d lt = absurd (omega arith)
get-table f (suc n) i d lt = elim (cases_lt i n) [
  | inl below ↦ let within : i < length (table f n) = omega (arith, length-table f n) in get_or-append (table f n) (f n ∷ []) d i within ∙ get-table f n i d below
  | inr here ↦ let e : i ≡ n = omega arith in get_or_push (table f n) (f n) d i (length-table f n ∙ sym e) ∙ ap f (sym e)
]
