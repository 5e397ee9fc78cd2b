-- The first place at which a test passes, in a list that is seen through a function.
use Rattle.std.proofs.Common.{◌≡◌, ℕ, suc, ◌+◌, Bool, cond, not, nat_lt, List, [], ◌∷◌, length, map, position, Option, Some, None, refl, ap}
use Rattle.std.specs.List.{position_or_len}

module _ {A B : Type 0} (p : B → Bool) (f : A → B) where
  pub length-mapped : (xs : List A) → length (map f xs) ≡ length xs
  length-mapped [] = refl
  length-mapped (x ∷ xs) = ap suc (length-mapped xs)

  or_len-mapped : (xs : List A) → position_or_len p (map f xs) ≡ position_or_len (λ x. p (f x)) xs
  or_len-mapped [] = refl
  or_len-mapped (x ∷ xs) = ap (λ n. cond (not (p (f x))) (1 + n) 0) (or_len-mapped xs)

  pub position-mapped : (xs : List A) → position p (map f xs) ≡ position (λ x. p (f x)) xs
  position-mapped xs = λ i. cond (nat_lt (or_len-mapped xs i) (length-mapped xs i)) (Some (or_len-mapped xs i)) None
