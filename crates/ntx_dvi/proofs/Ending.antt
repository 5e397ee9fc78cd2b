-- The bytes that end a file: the postamble, what follows it, and fillers up to a length that is a multiple of four.
use Rattle.std.proofs.Common.{◌≡◌, ℕ, ◌+◌, ◌≤◌, List, ◌++◌, length, take, replicate, ap, ◌∙◌}
use Rattle.std.proofs.lemmas.List.{take-replicate}
use Rattle.ntx_dvi.specs.Operation.{End}
use Rattle.ntx_dvi.specs.Progress.{Progress}
use Rattle.ntx_dvi.specs.Bytes.{postamble, definitions, post_post, filler_count, fillers, operation_bytes}

-- What was put together is the bytes of the operation.
pub end_bytes : (p : Progress) (bytes all : List ℕ) (count : ℕ) → bytes ≡ (postamble p ++ definitions 0 p.fonts) ++ post_post p → count ≡ filler_count (p.place + length bytes) → count ≤ 7 → all ≡ bytes ++ take count (replicate 7 223) → all ≡ operation_bytes p End
unfolding operation_bytes
end_bytes p bytes all count same counted most is =
    is ∙ ap (λ (rest : List ℕ). bytes ++ rest) (take-replicate count 7 223 most)
    ∙ ap (λ (n : ℕ). bytes ++ replicate n 223) counted
    ∙ ap (λ (b : List ℕ). b ++ fillers (p.place + length b)) same
