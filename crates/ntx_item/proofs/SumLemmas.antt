-- Sums over lists.
use Rattle.std.proofs.Common.{◌≡◌, ℕ, ◌+◌, ◌-◌, ◌≤◌, ℤ, pos, ◌+ℤ◌, ◌-ℤ◌, List, [], ◌∷◌, ◌++◌, take, drop, fold, sym, ap, ◌∙◌, arith}
use Rattle.std.specs.Int.RustNames.{unsigned_abs}
use Rattle.std.proofs.lemmas.Int.{ints}
use Rattle.std.proofs.lemmas.List.{take-append-drop, take-take, drop-take}
use Rattle.std.proofs.lemmas.List.Sums.{sum_by-cons, fold-append, fold_push}
use Rattle.ntx_item.specs.Sums.{signed_sum, SumsAddOverParts, SumsAreBounded}

-- a sum that begins with a number is that number and the sum
sum_from : {A : Type 0} (f : A → ℤ) (start : ℤ) (xs : List A) → fold (λ sum x. sum +ℤ f x) start xs ≡ start +ℤ signed_sum f xs
sum_from f start [] = omega (arith, ints)
sum_from f start (x ∷ xs) =
    let a : fold (λ sum y. sum +ℤ f y) (start +ℤ f x) xs ≡ (start +ℤ f x) +ℤ signed_sum f xs = sum_from f (start +ℤ f x) xs in
    let b : fold (λ sum y. sum +ℤ f y) (pos 0 +ℤ f x) xs ≡ (pos 0 +ℤ f x) +ℤ signed_sum f xs = sum_from f (pos 0 +ℤ f x) xs in
    omega (arith, ints)

pub signed_sum-cons : {A : Type 0} (f : A → ℤ) (x : A) (xs : List A) → signed_sum f (x ∷ xs) ≡ f x +ℤ signed_sum f xs
signed_sum-cons f x xs = let e : fold (λ sum y. sum +ℤ f y) (pos 0 +ℤ f x) xs ≡ (pos 0 +ℤ f x) +ℤ signed_sum f xs = sum_from f (pos 0 +ℤ f x) xs in omega (arith, ints)

pub signed_sum-append : {A : Type 0} (f : A → ℤ) (xs ys : List A) → signed_sum f (xs ++ ys) ≡ signed_sum f xs +ℤ signed_sum f ys
signed_sum-append f xs ys = fold-append (λ sum x. sum +ℤ f x) (pos 0) xs ys ∙ sum_from f (signed_sum f xs) ys

pub signed_sum-push : {A : Type 0} (f : A → ℤ) (xs : List A) (x : A) → signed_sum f (xs ++ x ∷ []) ≡ signed_sum f xs +ℤ f x
signed_sum-push f xs x = fold_push (λ sum y. sum +ℤ f y) (pos 0) xs x

-- the first b are the first a and what stands between
prefix_parts : {A : Type 0} (xs : List A) (a b : ℕ) → a ≤ b → take a (take b xs) ++ take (b - a) (drop a xs) ≡ take b xs
prefix_parts xs a b le =
    let e : a + (b - a) ≡ b = omega arith in
    ap (λ ys. take a (take b xs) ++ ys) (sym (drop-take a (b - a) xs) ∙ ap (λ n. drop a (take n xs)) e) ∙ take-append-drop a (take b xs)

difference : (a b c : ℤ) → a +ℤ b ≡ c → b ≡ c -ℤ a
difference a b c e = omega (arith, ints)

pub signed_sum-between : {A : Type 0} (f : A → ℤ) (xs : List A) (a b : ℕ) → a ≤ b → signed_sum f (take (b - a) (drop a xs)) ≡ signed_sum f (take b xs) -ℤ signed_sum f (take a xs)
signed_sum-between f xs a b le =
    let first : take a (take b xs) ≡ take a xs = take-take a b xs le in
    difference (signed_sum f (take a xs)) (signed_sum f (take (b - a) (drop a xs))) (signed_sum f (take b xs))
    (ap (λ ys. signed_sum f ys +ℤ signed_sum f (take (b - a) (drop a xs))) (sym first) ∙ sym (signed_sum-append f (take a (take b xs)) (take (b - a) (drop a xs))) ∙ ap (signed_sum f) (prefix_parts xs a b le))

pub sums_add_over_parts : SumsAddOverParts
sums_add_over_parts = record { append = signed_sum-append; push = signed_sum-push; between = signed_sum-between }

pub absolute_sum : (a b : ℤ) → unsigned_abs (a +ℤ b) ≤ unsigned_abs a + unsigned_abs b
absolute_sum a b = omega (arith, ints)

pub sums_are_bounded : SumsAreBounded
sums_are_bounded f bound h [] = omega (arith, ints)
sums_are_bounded f bound h (x ∷ xs) = rw (signed_sum-cons f x xs) (omega (arith, sums_are_bounded f bound h xs, h x, sum_by-cons bound x xs, absolute_sum (f x) (signed_sum f xs)))
