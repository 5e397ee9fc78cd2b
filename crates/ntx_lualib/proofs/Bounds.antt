-- Bytes under a limit.
use Rattle.std.proofs.Common.{◌≡◌, ℕ, ◌<◌, ◌≤◌, inl, inr, true, false, cond, List, ◌++◌, length, ap, sym, ◌∙◌, arith, length-append, Some, None, Ok, Err}
use Rattle.std.specs.Prelude.{nat_le, ok_or}
use Rattle.std.proofs.lemmas.Bool.{cases_lt}
use Rattle.std.proofs.lemmas.Bool.Decides.{nat_tests}
use Rattle.ntx_values.specs.Texts.{max_text}
use Rattle.ntx_values.specs.declared.why.LuaWhy.TheVariants.{TextsFull}
use Rattle.ntx_lualib.specs.inner.Lines.{bounded, added, limited}

pub fits : (limit : ℕ) (bytes : List ℕ) → length bytes ≤ limit → bounded limit bytes ≡ Some bytes
fits limit bytes h = let yes : nat_le (length bytes) limit ≡ true = grind (arith, nat_tests) in ap (λ b. cond b (Some bytes) None) yes

pub passes : (limit : ℕ) (bytes : List ℕ) → limit < length bytes → bounded limit bytes ≡ None
passes limit bytes h = let no : nat_le (length bytes) limit ≡ false = grind (arith, nat_tests) in ap (λ b. cond b (Some bytes) None) no

-- bytes that were added one after another
pub added_all : (limit : ℕ) (bytes more : List ℕ) → added limit (bounded limit bytes) more ≡ bounded limit (bytes ++ more)
added_all limit bytes more =
    elim (cases_lt limit (length bytes)) [
      | inl past ↦ ap (λ o. added limit o more) (passes limit bytes past) ∙ sym (passes limit (bytes ++ more) (omega (arith, length-append bytes more)))
      | inr within ↦ ap (λ o. added limit o more) (fits limit bytes within)
    ]

-- the refusal of too many bytes, and the bytes otherwise
pub limited_fits : (bytes : List ℕ) → length bytes ≤ max_text → limited (Ok bytes) ≡ Ok bytes
limited_fits bytes h = ap (λ o. ok_or o TextsFull) (fits max_text bytes h)

pub limited_passes : (bytes : List ℕ) → max_text < length bytes → limited (Ok bytes) ≡ Err TextsFull
limited_passes bytes h = ap (λ o. ok_or o TextsFull) (passes max_text bytes h)
