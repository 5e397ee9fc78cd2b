-- The bytes of a file whose operations were all written.
use Rattle.std.proofs.Common.{◌≡◌, ℕ, zero, suc, ◌+◌, ◌-◌, ◌%◌, List, [], ◌∷◌, ◌++◌, length, replicate, Result, Ok, Err, refl, ap, sym, ◌∙◌, subst, arith, append_assoc, append-nil}
use Rattle.std.specs.List.{fold}
use Rattle.ntx_dvi.specs.Operation.{Operation, End}
use Rattle.ntx_dvi.specs.Progress.{Progress}
use Rattle.ntx_dvi.specs.Bytes.{operation_bytes, ending, fillers}
use Rattle.ntx_dvi.specs.File.{after, file_bytes}
use Rattle.ntx_dvi.specs.Writer.{Writer, step, with_operation}
use Rattle.ntx_dvi.specs.Written.{after_step, then_write, written}
use Rattle.ntx_num.proofs.Answers.{same_Ok}
use Rattle.ntx_dvi.proofs.Writing.{full_stays}

-- ---- what is written

-- A step that is not refused writes its operation.
step-ok : (operation : Operation) (w new : Writer) (unit : Unit {0}) → step operation w ≡ Ok (unit, new) → new ≡ with_operation w operation
unfolding step
step-ok operation w new unit h = grind arith

full_is_not_all : (w new : Writer) → ◌≡◌ {A = Result Writer Writer} (Err w) (Ok new) → ⊥
full_is_not_all w new e = cc

-- The bytes of the operations were added to those that wait.
abbrev AddsBytes : Writer → Writer → List Operation → Type 0
AddsBytes w new operations = new.waiting ≡ w.waiting ++ file_bytes w.progress operations

one_more : (w mid new : Writer) (x : Operation) (xs : List Operation) → mid ≡ with_operation w x → AddsBytes mid new xs → AddsBytes w new (x ∷ xs)
one_more w mid new x xs e rest =
    subst (λ m. AddsBytes m new xs) e rest ∙ append_assoc w.waiting (operation_bytes w.progress x) (file_bytes (after w.progress x) xs)

-- What is written whole is the bytes of the operations.
pub written_whole : (w new : Writer) (operations : List Operation) → written w operations ≡ Ok new → AddsBytes w new operations
unfolding written
written_whole w new [] h =
    sym (ap (λ (v : Writer). v.waiting) (same_Ok w new h)) ∙ sym (append-nil w.waiting)
written_whole w new (x ∷ xs) h =
    elim (step x w) as (λ s. step x w ≡ s → fold then_write (after_step w s) xs ≡ Ok new → AddsBytes w new (x ∷ xs)) [
      | Ok stepped ↦ λ e rest. one_more w stepped.1 new x xs (step-ok x w stepped.1 stepped.0 e) (written_whole stepped.1 new xs rest)
      | Err full ↦ λ e rest. absurd (full_is_not_all w new (sym (full_stays w xs) ∙ rest))
    ] refl h

-- ---- the last byte

-- The bytes end with a filler.
abbrev pub EndsWithFiller : List ℕ → Type 0
EndsWithFiller bytes = (prefix : List ℕ) × (bytes ≡ prefix ++ 223 ∷ [])

abbrev many : ℕ → List ℕ
many n = replicate n 223

one_filler_more : (n : ℕ) → many (suc n) ≡ many n ++ 223 ∷ []
one_filler_more zero = refl
one_filler_more (suc n) = ap (λ rest. 223 ∷ rest) (one_filler_more n)

fillers_end : (n : ℕ) → EndsWithFiller (fillers n)
fillers_end n =
    let one_more_than : 4 + (4 - n % 4) % 4 ≡ suc (3 + (4 - n % 4) % 4) = omega arith in
    (many (3 + (4 - n % 4) % 4), ap many one_more_than ∙ one_filler_more (3 + (4 - n % 4) % 4))

after_prefix : (prefix bytes : List ℕ) → EndsWithFiller bytes → EndsWithFiller (prefix ++ bytes)
after_prefix prefix bytes last =
    (prefix ++ last.0, ap (λ t. prefix ++ t) last.1 ∙ sym (append_assoc prefix last.0 (223 ∷ [])))

end_ends : (p : Progress) → EndsWithFiller (operation_bytes p End)
unfolding operation_bytes
end_ends p =
    after_prefix (ending p) (fillers (p.place + length (ending p))) (fillers_end (p.place + length (ending p)))

-- A file ends with a filler.
pub file_ends : (p : Progress) (operations : List Operation) → EndsWithFiller (file_bytes p (operations ++ End ∷ []))
file_ends p [] = subst EndsWithFiller (sym (append-nil (operation_bytes p End))) (end_ends p)
file_ends p (x ∷ xs) =
    after_prefix (operation_bytes p x) (file_bytes (after p x) (xs ++ End ∷ [])) (file_ends (after p x) xs)
