-- What operations that were written leave, and fonts that stay known.
use Rattle.std.proofs.Common.{◌≡◌, ℕ, true, false, List, [], ◌∷◌, Result, Ok, Err, Some, None, refl, ap, sym, ◌∙◌, subst, arith}
use Rattle.std.specs.Prelude.{Option, nat_eq, IfSome}
use Rattle.std.specs.List.{fold}
use Rattle.std.proofs.lemmas.Int.{ints}
use Rattle.std.proofs.lemmas.Bool.{eq-eqb, eqb-true}
use Rattle.ntx_num.proofs.Answers.{same_Ok, same_Some}
use Rattle.ntx_tfm.specs.Font.{IsDefinition}
use Rattle.ntx_tfm.specs.declared.def.FontDef.{FontDef}
use Rattle.ntx_dvi.specs.Operation.{Operation}
use Rattle.ntx_dvi.specs.File.{after}
use Rattle.ntx_dvi.specs.Fonts.{IsDefinable, definition_in, MayBe, AreKnown, OthersStay}
use Rattle.ntx_dvi.specs.Writer.{Writer, step, with_operation}
use Rattle.ntx_dvi.specs.Written.{after_step, then_write, written}
use Rattle.ntx_dvi.proofs.Writing.{full_stays}

-- ---- what is left

stepped : (operation : Operation) (w new : Writer) (unit : Unit {0}) → step operation w ≡ Ok (unit, new) → new ≡ with_operation w operation
unfolding step
stepped operation w new unit h = grind arith

full_is_not_all : (w new : Writer) → ◌≡◌ {A = Result Writer Writer} (Err w) (Ok new) → ⊥
full_is_not_all w new e = cc

pub written_leaves : (w new : Writer) (operations : List Operation) → written w operations ≡ Ok new → new.progress ≡ fold after w.progress operations
unfolding written
written_leaves w new [] h = ap (λ (v : Writer). v.progress) (sym (same_Ok {E = Writer} w new h))
written_leaves w new (x ∷ xs) h =
    elim (step x w) as (λ s. step x w ≡ s → fold then_write (after_step w s) xs ≡ Ok new → new.progress ≡ fold after w.progress (x ∷ xs)) [
      | Ok done ↦ λ e rest. written_leaves done.1 new xs rest ∙ ap (λ (v : Writer). fold after v.progress xs) (stepped x w done.1 done.0 e)
      | Err full ↦ λ e rest. absurd (full_is_not_all w new (sym (full_stays w xs) ∙ rest))
    ] refl h

-- ---- fonts

pub definable : (def : FontDef) → IsDefinition def → IsDefinable def
definable def d = record {
  size_least = d.size_least;
  size_most = d.size_most;
  design_least = grind (arith, ints, d.design_least);
  design_most = d.design_most;
  name_least = d.name_least;
  name_most = d.name_most;
}

same_of_known : (o : Option FontDef) (known def : Option FontDef) (d : FontDef) → IfSome o (λ x. known ≡ Some x) → known ≡ Some d → IfSome o (λ x. x ≡ d)
same_of_known None known def d h e = tt
same_of_known (Some x) known def d h e = same_Some x d (sym h ∙ e)

-- A font that is known may be used.
pub known_may_be : (defined : List (Option FontDef)) (known : ℕ → Option FontDef) (number : ℕ) (def : FontDef) → AreKnown defined known → known number ≡ Some def → MayBe defined number def
known_may_be defined known number def are e = same_of_known (definition_in defined number) (known number) None def (are.each number) e

known_of_same : (o known : Option FontDef) (def : FontDef) → IfSome o (λ x. x ≡ def) → known ≡ Some def → IfSome o (λ x. known ≡ Some x)
known_of_same None known def h e = tt
known_of_same (Some x) known def h e = e ∙ ap (λ (y : FontDef). Some y) (sym h)

-- Fonts stay known if one more is used.
pub stays_known : (old new : List (Option FontDef)) (known : ℕ → Option FontDef) (number : ℕ) (def : FontDef) → AreKnown old known → known number ≡ Some def → MayBe new number def → OthersStay old new number → AreKnown new known
stays_known old new known number def are e again others = record {
  each = λ k.
      elim (nat_eq k number) as (λ b. nat_eq k number ≡ b → IfSome (definition_in new k) (λ x. known k ≡ Some x)) [
        | true ↦ λ t.
            let same : number ≡ k = sym (eqb-true k number t) in
            subst (λ (m : ℕ). IfSome (definition_in new m) (λ x. known m ≡ Some x)) same (known_of_same (definition_in new number) (known number) def again e)
        | false ↦ λ f. subst (λ (o : Option FontDef). IfSome o (λ x. known k ≡ Some x)) (sym (others.each k (λ s. no_test k number f s))) (are.each k)
      ] refl;
}
  where
    no_test : (k n : ℕ) → nat_eq k n ≡ false → k ≡ n → ⊥
    no_test k n f s = let t = eq-eqb k n s in cc
