-- The fonts of a file: what a definition leaves, and that each operation of a character finds what it needs.
use Rattle.std.proofs.Common.{◌≡◌, ◌≢◌, ⊎_elim, ℕ, zero, suc, ◌<◌, ◌≤◌, Bool, true, false, List, [], ◌∷◌, ◌++◌, length, drop, replicate, Option, Some, None, Result, Ok, refl, sym, ap, ◌∙◌, subst, arith}
use Rattle.std.specs.Prelude.{All, IsSome, is_some, IfSome, MatchOption, slice_set, if◌then◌else◌}
use Rattle.std.proofs.lemmas.List.{get_or-set_same, get_or-set_other, length-replicate}
use Rattle.std.proofs.lemmas.List.Elements.{All-replicate}
use Rattle.std.proofs.lemmas.Bool.{eqb-true, cases_eq}
use Rattle.std.proofs.lemmas.Option.{same_Some}
use Rattle.std.proofs.Math.ListN.{drop_of_length-le}
use Rattle.ntx_tfm.specs.declared.def.FontDef.{FontDef}
use Rattle.ntx_num.specs.declared.answer.Fail.{Fail}
use Rattle.ntx_dvi.specs.declared.full.DviFull.{DviFull}
use Rattle.ntx_dvi.specs.Operation.{DefineFont, ChooseFont, SetCharacter}
use Rattle.ntx_dvi.specs.Progress.{Progress}
use Rattle.ntx_dvi.specs.Bytes.{definitions}
use Rattle.ntx_dvi.specs.File.{after}
use Rattle.ntx_dvi.specs.Writer.{Writer}
use Rattle.ntx_dvi.specs.Written.{Writes}
use Rattle.ntx_dvi.proofs.Writing.{writes_nothing}
use Rattle.ntx_dvi.specs.Fonts.{IsDefinable, MayBe, AreKnown, OthersStay, AreReady, definition_in, is_current, defining, choosing, glyph_operations}

-- ---- what a reader relies on

none_is : (found : Option FontDef) → is_some found ≡ false → found ≡ None
none_is None none = refl
none_is (Some known) none = cc

pub defined_now : (fonts : List (Option FontDef)) (number : ℕ) (def : FontDef) → number < length fonts → IsSome (definition_in (slice_set fonts number (Some def)) number)
defined_now fonts number def within =
    ap is_some (get_or-set_same fonts number (Some def) None within)

-- The font is the one that it was defined to be.
pub may_be_defined : (fonts new : List (Option FontDef)) (number : ℕ) (def : FontDef) → new ≡ slice_set fonts number (Some def) → number < length fonts → MayBe new number def
may_be_defined fonts new number def is within =
    let found : definition_in new number ≡ Some def =
    ap (λ (f : List (Option FontDef)). definition_in f number) is ∙ get_or-set_same fonts number (Some def) None within in
    subst (λ (found : Option FontDef). IfSome found (λ known. known ≡ def)) (sym found) refl

-- ---- the fonts of a file among those that are known

none_defined_at : (count number : ℕ) → definition_in (replicate count None) number ≡ None
none_defined_at zero number = refl
none_defined_at (suc count) zero = refl
none_defined_at (suc count) (suc number) = none_defined_at count number

pub others_stay_as : (old new : List (Option FontDef)) (number : ℕ) → new ≡ old → OthersStay old new number
others_stay_as old new number is = record { each = λ other differs. ap (λ (f : List (Option FontDef)). definition_in f other) is }

pub others_stay_set : (old new : List (Option FontDef)) (number : ℕ) (def : FontDef) → new ≡ slice_set old number (Some def) → OthersStay old new number
others_stay_set old new number def is =
    record {
      each =
          λ other differs.
          ap (λ (f : List (Option FontDef)). definition_in f other) is ∙ get_or-set_other old number other (Some def) None differs;
    }

-- A font that is known by its number may be used.
pub may_be_known : (fonts : List (Option FontDef)) (known : ℕ → Option FontDef) (number : ℕ) (def : FontDef) → AreKnown fonts known → known number ≡ Some def → MayBe fonts number def
may_be_known fonts known number def are is =
    elim (definition_in fonts number) as (λ found. IfSome found (λ d. known number ≡ Some d) → IfSome found (λ d. d ≡ def)) [
      | None ↦ λ e. tt
      | Some d ↦ λ e. same_Some d def (sym e ∙ is)
    ] (are.each number)

known_again : (found named : Option FontDef) (def : FontDef) → named ≡ Some def → IfSome found (λ d. d ≡ def) → IfSome found (λ d. named ≡ Some d)
known_again None named def is again = tt
known_again (Some d) named def is again = is ∙ ap (λ (x : FontDef). Some x) (sym again)

-- A use of it leaves the file's fonts among those that are known.
pub are_known_still : (old new : List (Option FontDef)) (known : ℕ → Option FontDef) (number : ℕ) (def : FontDef) → AreKnown old known → known number ≡ Some def → MayBe new number def → OthersStay old new number → AreKnown new known
are_known_still old new known number def are is again others =
    record {
      each = λ other.
          ⊎_elim
          (λ (same : other ≡ number). subst (λ (n : ℕ). IfSome (definition_in new n) (λ d. known n ≡ Some d)) (sym same) (known_again (definition_in new number) (known number) def is again))
          (λ (differs : other ≢ number). subst (λ (found : Option FontDef). IfSome found (λ d. known other ≡ Some d)) (sym (others.each other differs)) (are.each other))
          (cases_eq other number);
    }

pub are_known_as : (old new : List (Option FontDef)) (known : ℕ → Option FontDef) → new ≡ old → AreKnown old known → AreKnown new known
are_known_as old new known is are = subst (λ (f : List (Option FontDef)). AreKnown f known) (sym is) are

-- No font of a new file is defined.
pub none_are_known : (known : ℕ → Option FontDef) → AreKnown (replicate 64 None) known
none_are_known known = record { each = λ number. subst (λ (found : Option FontDef). IfSome found (λ def. known number ≡ Some def)) (sym (none_defined_at 64 number)) tt }

-- A character may be set in the current font.
character_ready : (p : Progress) (font : Option ℕ) (number code : ℕ) → p.font ≡ font → is_current font number ≡ true → IsSome (definition_in p.fonts number) → AreReady p (SetCharacter code ∷ [])
character_ready p None number code is current defined = cc
character_ready p (Some chosen) number code is current defined =
    let same : chosen ≡ number = omega (arith, eqb-true chosen number current) in
    (subst (λ (f : Option ℕ). MatchOption f ⊥ (λ n. IsSome (definition_in p.fonts n))) (sym is) (subst (λ (n : ℕ). IsSome (definition_in p.fonts n)) (sym same) defined), tt)

choice_by : (p : Progress) (number code : ℕ) (current : Bool) → is_current p.font number ≡ current → IsSome (definition_in p.fonts number) → AreReady p ((if current then [] else ChooseFont number ∷ []) ++ SetCharacter code ∷ [])
choice_by p number code true is defined = character_ready p p.font number code refl is defined
choice_by p number code false is defined = (defined, (defined, tt))

choice_ready : (p : Progress) (number code : ℕ) → IsSome (definition_in p.fonts number) → AreReady p (choosing p.font number ++ SetCharacter code ∷ [])
choice_ready p number code defined = choice_by p number code (is_current p.font number) refl defined

glyph_by : (p : Progress) (number : ℕ) (def : FontDef) (code : ℕ) (known : Bool) → is_some (definition_in p.fonts number) ≡ known → number < length p.fonts → AreReady p ((if known then [] else DefineFont number def ∷ []) ++ choosing p.font number ++ SetCharacter code ∷ [])
glyph_by p number def code true is within = choice_ready p number code is
glyph_by p number def code false is within =
    (none_is (definition_in p.fonts number) is, choice_ready (after p (DefineFont number def)) number code (defined_now p.fonts number def within))

-- The operations of a character define a font that was not defined, choose one that is, and set the character in it.
pub glyph_ready : (p : Progress) (number : ℕ) (def : FontDef) (code : ℕ) → number < length p.fonts → AreReady p (glyph_operations p number def code)
glyph_ready p number def code within =
    glyph_by p number def code (is_some (definition_in p.fonts number)) refl within

-- ---- what is not written again

pub defined_writes_none : (a : Unit {0}) (w : Writer) (fonts : List (Option FontDef)) (number : ℕ) (def : FontDef) → is_some (definition_in fonts number) ≡ true → Writes (Ok a) w w (defining fonts number def)
defined_writes_none a w fonts number def known = rw known (writes_nothing a w)

pub current_writes_none : (a : Unit {0}) (w : Writer) (font : Option ℕ) (number : ℕ) → is_current font number ≡ true → Writes (Ok a) w w (choosing font number)
current_writes_none a w font number current = rw current (writes_nothing a w)

-- The choice of a font goes by the current font, whichever writer has it.
pub chosen_from : {result : Result (Unit {0}) (Fail DviFull)} {old new : Writer} (font same : Option ℕ) (number : ℕ) → font ≡ same → Writes result old new (choosing font number) → Writes result old new (choosing same number)
chosen_from {result = result} {old = old} {new = new} font same number is writes =
    subst (λ (f : Option ℕ). Writes result old new (choosing f number)) is writes

-- ---- the table of fonts

-- Where no font is defined, each that is can be.
pub none_defined : (fonts : List (Option FontDef)) (count : ℕ) → fonts ≡ replicate count None → count ≤ 64 → 64 ≤ count → (length fonts ≡ 64) × All (λ font. IfSome font IsDefinable) fonts
none_defined fonts count is most least =
    let full : count ≡ 64 = omega (arith, most, least) in
    let all : fonts ≡ replicate {A = Option FontDef} 64 None = is ∙ ap (λ (n : ℕ). replicate {A = Option FontDef} n None) full in (
      ap (λ (xs : List (Option FontDef)). length xs) all ∙ length-replicate {A = Option FontDef} 64 None,
      subst (λ (xs : List (Option FontDef)). All (λ font. IfSome font IsDefinable) xs) (sym all) (All-replicate (λ (font : Option FontDef). IfSome font IsDefinable) 64 None tt),
    )

-- A number of a font is one of the table's places.
pub numbers_fit : (seen w : Writer) (number : ℕ) → seen ≡ w → length seen.progress.fonts ≡ 64 → number ≤ 63 → number < length w.progress.fonts
numbers_fit seen w number same full most =
    let within : number < length seen.progress.fonts = omega (arith, full, most) in
    subst (λ (v : Writer). number < length v.progress.fonts) same within

-- No definitions follow the last font.
pub definitions-none : (fonts : List (Option FontDef)) (number : ℕ) → length fonts ≤ number → definitions number (drop number fonts) ≡ []
definitions-none fonts number past =
    ap (λ (rest : List (Option FontDef)). definitions number rest) (drop_of_length-le fonts past)
