-- Boxes between push and pop.
use Rattle.std.proofs.Common.{◌≡◌, ℕ, suc, ◌+◌, ◌-◌, List, [], ◌∷◌, ◌++◌, length, take, true, false, Bool, Ok, Err, refl, sym, ap, ◌∙◌, append_assoc, append-nil, length-append, arith}
use Rattle.std.specs.Prelude.{nat_eq, if◌then◌else◌}
use Rattle.std.proofs.lemmas.Bool.{eq-eqb, eqb-true}
use Rattle.std.proofs.lemmas.List.{take_at}
use Rattle.ntx_num.specs.Answer.{result_map}
use Rattle.ntx_num.proofs.Answers.{same_Ok}
use Rattle.ntx_nodes.specs.declared.trouble.Trouble.{Trouble}
use Rattle.ntx_ship.specs.declared.piece.Piece.{Piece}
use Rattle.ntx_ship.specs.declared.piece.Piece.TheVariants.{Push, Pop}
use Rattle.ntx_ship.specs.Placed.{Pieces, grouped}
use Rattle.ntx_ship.specs.inner.Adding.{after, closed}

choice : (b : Bool) (x y : List Piece) → b ≡ true → (if b then x else y) ≡ x
choice true x y e = refl
choice false x y e = cc

no_choice : (b : Bool) (x y : List Piece) → (b ≡ true → ⊥) → (if b then x else y) ≡ y
no_choice true x y e = absurd (e refl)
no_choice false x y e = refl

-- the pieces with the beginning of a box
abbrev opened : List Piece → List Piece
opened old = old ++ Push ∷ []

opened_less : (old : List Piece) → length old ≡ length (opened old) - 1
opened_less old = omega (arith, length-append old (Push ∷ []))

-- without it again
closed_empty : (old : List Piece) → closed (length (opened old)) (opened old ++ []) ≡ old
closed_empty old =
    ap (closed (length (opened old))) (append-nil (opened old))
    ∙ choice (nat_eq (length (opened old)) (length (opened old))) (take (length (opened old) - 1) (opened old)) (opened old ++ Pop ∷ []) (eq-eqb (length (opened old)) (length (opened old)) refl)
    ∙ take_at old (Push ∷ []) (length (opened old) - 1) (opened_less old)

longer : (old : List Piece) (p : Piece) (ps : List Piece) → length (opened old ++ p ∷ ps) ≡ length (opened old) → ⊥
longer old p ps e =
    let a : length (opened old ++ p ∷ ps) ≡ length (opened old) + suc (length ps) = length-append (opened old) (p ∷ ps) in
    omega (arith, a, e)

-- with its end
closed_full : (old : List Piece) (p : Piece) (ps : List Piece) → closed (length (opened old)) (opened old ++ p ∷ ps) ≡ old ++ grouped (p ∷ ps)
closed_full old p ps =
    no_choice (nat_eq (length (opened old ++ p ∷ ps)) (length (opened old))) (take (length (opened old ++ p ∷ ps) - 1) (opened old ++ p ∷ ps)) ((opened old ++ p ∷ ps) ++ Pop ∷ []) (λ e. longer old p ps (eqb-true (length (opened old ++ p ∷ ps)) (length (opened old)) e))
    ∙ append_assoc (opened old) (p ∷ ps) (Pop ∷ []) ∙ append_assoc old (Push ∷ []) ((p ∷ ps) ++ Pop ∷ [])

closed_group : (old xs : List Piece) → closed (length (opened old)) (opened old ++ xs) ≡ old ++ grouped xs
closed_group old [] = closed_empty old ∙ sym (append-nil old)
closed_group old (p ∷ ps) = closed_full old p ps

-- A box that was closed is what the list in it gives, grouped.
pub closes : (old filled new : List Piece) (full : ℕ) (pieces : Pieces) → full ≡ length (old ++ Push ∷ []) → after (old ++ Push ∷ []) pieces ≡ Ok filled → new ≡ closed full filled → after old (result_map grouped pieces) ≡ Ok new
closes old filled new full (Ok xs) count e is =
    ap (λ (zs : List Piece). Ok zs)
    (sym (closed_group old xs) ∙ ap (closed (length (opened old))) (same_Ok {E = Trouble} (opened old ++ xs) filled e) ∙ ap (λ (k : ℕ). closed k filled) (sym count) ∙ sym is)
closes old filled new full (Err why) count e is = cc

pub refuses : (pieces : Pieces) (why : Trouble) → pieces ≡ Err why → result_map grouped pieces ≡ Err why
refuses pieces why e = ap (result_map grouped) e
