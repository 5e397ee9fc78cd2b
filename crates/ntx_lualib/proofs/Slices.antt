-- Bytes from one place to another.
use Rattle.std.proofs.Common.{◌≡◌, ℕ, ◌+◌, ◌-◌, min, inl, inr, List, length, take, drop, ap, sym, ◌∙◌, arith}
use Rattle.std.proofs.lemmas.Bool.{cases_lt}
use Rattle.std.proofs.lemmas.List.{drop-take, take_min, length-take, drop_all}

drop_min : (n : ℕ) (xs : List ℕ) → drop (min n (length xs)) xs ≡ drop n xs
drop_min n xs =
    elim (cases_lt n (length xs)) [
      | inl less ↦ ap (λ k. drop k xs) (let e : min n (length xs) ≡ n = omega arith in e)
      | inr past ↦ drop_all (min n (length xs)) xs (omega arith) ∙ sym (drop_all n xs (omega arith))
    ]

pub cut : (xs : List ℕ) (a b : ℕ) → take (min b (length xs) - min a (min b (length xs))) (drop (min a (min b (length xs))) xs) ≡ drop a (take b xs)
cut xs a b =
    let sum : min a (min b (length xs)) + (min b (length xs) - min a (min b (length xs))) ≡ min b (length xs) = omega arith in
    let len : min a (min b (length xs)) ≡ min a (length (take (min b (length xs)) xs)) = omega (arith, length-take (min b (length xs)) xs) in
    sym (drop-take (min a (min b (length xs))) (min b (length xs) - min a (min b (length xs))) xs)
    ∙ ap (λ n. drop (min a (min b (length xs))) (take n xs)) sum
    ∙ ap (λ n. drop n (take (min b (length xs)) xs)) len
    ∙ drop_min a (take (min b (length xs)) xs)
    ∙ ap (drop a) (take_min b xs)
