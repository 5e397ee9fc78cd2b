-- Runs of bytes of one class, and prefixes of lists.
use Rattle.std.proofs.Common.{◌≡◌, ℕ, zero, suc, ◌+◌, ◌<◌, ◌≤◌, min, Bool, true, false, ◌&&◌, cond, List, [], ◌∷◌, length, take, refl, arith}
use Rattle.std.specs.Prelude.{slice_index}
use Rattle.std.specs.List.{list_all, prefix_len}
use Rattle.std.proofs.lemmas.List.{get_or-take}

all_of_front : (b rest : Bool) (n k : ℕ) → (n ≤ k → rest ≡ true) → suc n ≤ cond b (1 + k) 0 → (b && rest) ≡ true
all_of_front true rest n k others h = others (omega arith)
all_of_front false rest n k others h = absurd (omega arith)

-- each element of a prefix that is no longer than the run passes
pub list_all-take : {X : Type 0} (p : X → Bool) (n : ℕ) (xs : List X) → n ≤ prefix_len p xs → list_all p (take n xs) ≡ true
list_all-take p zero xs h = refl
list_all-take p (suc n) [] h = refl
list_all-take p (suc n) (x ∷ xs) h = all_of_front (p x) (list_all p (take n xs)) n (prefix_len p xs) (list_all-take p n xs) h

not_all_of_front : (b rest : Bool) (n k : ℕ) → (k < n → rest ≡ false) → cond b (1 + k) 0 < suc n → (b && rest) ≡ false
not_all_of_front true rest n k others h = others (omega arith)
not_all_of_front false rest n k others h = refl

-- and of a longer one some element does not
pub list_all-take_past : {X : Type 0} (p : X → Bool) (n : ℕ) (xs : List X) → prefix_len p xs < n → n ≤ length xs → list_all p (take n xs) ≡ false
list_all-take_past p zero xs h within = absurd (omega arith)
list_all-take_past p (suc n) [] h within = absurd (omega arith)
list_all-take_past p (suc n) (x ∷ xs) h within =
    not_all_of_front (p x) (list_all p (take n xs)) n (prefix_len p xs) (λ past. list_all-take_past p n xs past (omega arith)) h

run_of_front : (b : Bool) (n k j : ℕ) → j ≡ min n k → cond b (1 + j) 0 ≡ min (suc n) (cond b (1 + k) 0)
run_of_front true n k j h = omega arith
run_of_front false n k j h = omega arith

-- the run of a prefix
pub prefix_len-take : {X : Type 0} (p : X → Bool) (n : ℕ) (xs : List X) → prefix_len p (take n xs) ≡ min n (prefix_len p xs)
prefix_len-take p zero xs = omega arith
prefix_len-take p (suc n) [] = omega arith
prefix_len-take p (suc n) (x ∷ xs) = run_of_front (p x) n (prefix_len p xs) (prefix_len p (take n xs)) (prefix_len-take p n xs)

-- a prefix has the bytes of the whole, and 0 past its end
pub slice_index-take : (n : ℕ) (bytes : List ℕ) (i : ℕ) → i < n → slice_index (take n bytes) i ≡ slice_index bytes i
slice_index-take n bytes i h = get_or-take n bytes i 0 h

pub slice_index-take_past : (n : ℕ) (bytes : List ℕ) (i : ℕ) → n ≤ i → slice_index (take n bytes) i ≡ 0
slice_index-take_past zero bytes i h = refl
slice_index-take_past (suc n) [] i h = refl
slice_index-take_past (suc n) (b ∷ bytes) zero h = absurd (omega arith)
slice_index-take_past (suc n) (b ∷ bytes) (suc i) h = slice_index-take_past n bytes i (omega arith)
