-- Digits taken over one by one.
use Rattle.std.proofs.Common.{◌≡◌, ℕ, zero, suc, ◌+◌, ◌<◌, ◌≤◌, max, List, [], ◌∷◌, ◌++◌, length, take, set, get_or, refl, ap, sym, arith, add-one}
use Rattle.std.proofs.lemmas.List.{length-take-le}
use Rattle.ntx_patterns.specs.Table.{greater_digits}

pub greater-none : (xs : List ℕ) → greater_digits xs [] ≡ xs
greater-none [] = refl
greater-none (x ∷ xs) = refl

within : (xs ys : List ℕ) (i : ℕ) → i < length (greater_digits xs (take i ys)) → i < length ys
    → set (greater_digits xs (take i ys)) i (max (get_or (greater_digits xs (take i ys)) i 0) (get_or ys i 0)) ≡ greater_digits xs (take (suc i) ys)
within [] ys i inside more = absurd (omega (arith, length-take-le i ys (omega arith)))
within (x ∷ xs) [] i inside more = absurd (omega arith)
within (x ∷ xs) (y ∷ ys) zero inside more = ap (λ rest. max x y ∷ rest) (sym (greater-none xs))
within (x ∷ xs) (y ∷ ys) (suc i) inside more = ap (λ rest. max x y ∷ rest) (within xs ys i (omega arith) (omega arith))

behind : (xs ys : List ℕ) (i : ℕ) → length (greater_digits xs (take i ys)) ≤ i → i < length ys
    → greater_digits xs (take i ys) ++ get_or ys i 0 ∷ [] ≡ greater_digits xs (take (suc i) ys)
behind [] [] i inside more = absurd (omega arith)
behind [] (y ∷ ys) zero inside more = refl
behind [] (y ∷ ys) (suc i) inside more = ap (λ rest. y ∷ rest) (behind [] ys i (omega arith) (omega arith))
behind (x ∷ xs) [] i inside more = absurd (omega arith)
behind (x ∷ xs) (y ∷ ys) zero inside more = absurd (omega arith)
behind (x ∷ xs) (y ∷ ys) (suc i) inside more = ap (λ rest. max x y ∷ rest) (behind xs ys i (omega arith) (omega arith))

-- A digit is taken over where a digit is kept already, and after the last one.
pub raised_within : (old digits kept : List ℕ) (i digit : ℕ) → kept ≡ greater_digits old (take i digits) → i < length kept → i < length digits
    → digit ≡ max (get_or kept i 0) (get_or digits i 0) → set kept i digit ≡ greater_digits old (take (i + 1) digits)
raised_within old digits kept i digit is inside more greater =
    rw (greater, is, add-one) (within old digits i (rw is at inside) more)

pub raised_behind : (old digits kept : List ℕ) (i : ℕ) → kept ≡ greater_digits old (take i digits) → length kept ≤ i → i < length digits
    → kept ++ get_or digits i 0 ∷ [] ≡ greater_digits old (take (i + 1) digits)
raised_behind old digits kept i is behind_kept more = rw (is, add-one) (behind old digits i (rw is at behind_kept) more)

-- ---- laws of the greater digits

pub greater_assoc : (xs ys zs : List ℕ) → greater_digits xs (greater_digits ys zs) ≡ greater_digits (greater_digits xs ys) zs
greater_assoc [] ys zs = refl
greater_assoc (x ∷ xs) [] zs = refl
greater_assoc (x ∷ xs) (y ∷ ys) [] = refl
greater_assoc (x ∷ xs) (y ∷ ys) (z ∷ zs) =
    let first : max x (max y z) ≡ max (max x y) z = omega arith in
    let others = greater_assoc xs ys zs in
    cc

pub greater-get : (xs ys : List ℕ) (i : ℕ) → get_or (greater_digits xs ys) i 0 ≡ max (get_or xs i 0) (get_or ys i 0)
greater-get [] ys i = omega arith
greater-get (x ∷ xs) [] i = omega arith
greater-get (x ∷ xs) (y ∷ ys) zero = omega arith
greater-get (x ∷ xs) (y ∷ ys) (suc i) = greater-get xs ys i
