-- Bytes that are repeated.
use Rattle.std.proofs.Common.{◌≡◌, ℕ, zero, suc, ◌+◌, ◌*◌, ◌/◌, ◌<◌, ◌≤◌, inl, inr, List, [], ◌++◌, length, refl, ap, sym, ◌∙◌, arith, length-append, append_assoc}
use Rattle.std.specs.List.{repeat}
use Rattle.std.proofs.Math.Nat.{le-div_iff_mul-le}
use Rattle.std.proofs.lemmas.List.{append-nil}
use Rattle.std.proofs.lemmas.Bool.{cases_lt}

pub repeat_more : (n : ℕ) (xs : List ℕ) → repeat n xs ++ xs ≡ repeat (n + 1) xs
repeat_more n xs = by n ∙ ap (λ k. repeat k xs) (let e : suc n ≡ n + 1 = omega arith in e)
  where
    by : (n : ℕ) → repeat n xs ++ xs ≡ repeat (suc n) xs
    by zero = sym (append-nil xs)
    by (suc n) = append_assoc xs (repeat n xs) xs ∙ ap (λ l. xs ++ l) (by n)

pub repeat_nil : (n : ℕ) → repeat {A = ℕ} n [] ≡ []
repeat_nil zero = refl
repeat_nil (suc n) = repeat_nil n

pub length-repeat : (n : ℕ) (xs : List ℕ) → length (repeat n xs) ≡ n * length xs
length-repeat zero xs = omega arith
length-repeat (suc n) xs = omega (arith, length-append xs (repeat n xs), length-repeat n xs)

-- as many as fit, and more
pub few_fit : (limit n : ℕ) (xs : List ℕ) → zero < length xs → n ≤ limit / length xs → length (repeat n xs) ≤ limit
few_fit limit n xs some few = omega (arith, length-repeat n xs, (le-div_iff_mul-le some).0 few)

pub many_do_not : (limit n : ℕ) (xs : List ℕ) → zero < length xs → limit / length xs < n → limit < length (repeat n xs)
many_do_not limit n xs some many =
    elim (cases_lt limit (n * length xs)) [
      | inl past ↦ omega (arith, length-repeat n xs)
      | inr fits ↦ let few : n ≤ limit / length xs = (le-div_iff_mul-le some).1 fits in absurd_lt (limit / length xs) n many few
    ]
  where
    absurd_lt : {A : Type 0} (m n : ℕ) → m < n → n ≤ m → A
    absurd_lt m n a b = let none : ⊥ = omega arith in absurd none
