-- The fonts of a DVI file ("TeX: The Program", sections 588 and 621): each that is used has one definition among the pages, before its first
-- use, and is chosen in each page before its first character there. The postamble defines them again.
use Rattle.std.specs.Prelude.{◌≡◌, ◌≢◌, ◌≤◌, ℕ, pos, ◌≤ℤ◌, nat_eq, Bool, false, if◌then◌else◌, List, [], ◌∷◌, ◌++◌, length, slice_index_or, Option, Some, None, MatchOption, IfSome, IsSome, is_some}
use Rattle.ntx_tfm.specs.declared.def.FontDef.{FontDef}
use Rattle.ntx_dvi.specs.Operation.{Operation, Begin, PageStart, Push, Pop, Right, Down, Rule, DefineFont, ChooseFont, SetCharacter, PageEnd, End}
use Rattle.ntx_dvi.specs.Progress.{Progress}
use Rattle.ntx_dvi.specs.File.{after}

-- A definition has a place in a DVI file: both sizes are from 1 to 2 ^ 26 - 1, and the name has 1 to 255 bytes.
pub record IsDefinable (def : FontDef) : Type 0 where
  pub size_least : pos 1 ≤ℤ def.size
  pub size_most : def.size ≤ℤ pos 67108863
  pub design_least : pos 1 ≤ℤ def.design
  pub design_most : def.design ≤ℤ pos 67108863
  pub name_least : 1 ≤ length def.name
  pub name_most : length def.name ≤ 255

-- what the font of a number was defined to be, if it was
abbrev pub definition_in : List (Option FontDef) → ℕ → Option FontDef
definition_in fonts number = slice_index_or fonts number None

-- The font of this number was not defined, or is this one.
abbrev pub MayBe : List (Option FontDef) → ℕ → FontDef → Type 0
MayBe fonts number def = IfSome (definition_in fonts number) (λ known. known ≡ def)

-- Each font that was defined is the one that is known by its number.
pub record AreKnown (fonts : List (Option FontDef)) (known : ℕ → Option FontDef) : Type 0 where
  pub each : (number : ℕ) → IfSome (definition_in fonts number) (λ def. known number ≡ Some def)

-- Every font but the one of this number is defined as it was.
pub record OthersStay (old new : List (Option FontDef)) (number : ℕ) : Type 0 where
  pub each : (other : ℕ) → other ≢ number → definition_in new other ≡ definition_in old other

-- ---- one character of a font

-- whether the current font is that of a number
abbrev pub is_current : Option ℕ → ℕ → Bool
is_current None number = false
is_current (Some current) number = nat_eq current number

-- The font is defined if it was not.
abbrev pub defining : List (Option FontDef) → ℕ → FontDef → List Operation
defining fonts number def = if is_some (definition_in fonts number) then [] else DefineFont number def ∷ []

-- It is chosen if it is not the current one.
abbrev pub choosing : Option ℕ → ℕ → List Operation
choosing font number = if is_current font number then [] else ChooseFont number ∷ []

-- the operations that set a character of a font
abbrev pub glyph_operations : Progress → ℕ → FontDef → ℕ → List Operation
glyph_operations p number def code = defining p.fonts number def ++ choosing p.font number ++ SetCharacter code ∷ []

-- ---- what a reader of the file relies on

-- A font is defined once, it is chosen only after that, and a character is set only in a font that was chosen in its page.
abbrev pub IsReady : Progress → Operation → Type 0
IsReady p Begin = Unit {0}
IsReady p (PageStart number) = Unit {0}
IsReady p Push = Unit {0}
IsReady p Pop = Unit {0}
IsReady p (Right distance) = Unit {0}
IsReady p (Down distance) = Unit {0}
IsReady p (Rule height width) = Unit {0}
IsReady p (DefineFont number def) = definition_in p.fonts number ≡ None
IsReady p (ChooseFont number) = IsSome (definition_in p.fonts number)
IsReady p (SetCharacter code) = MatchOption p.font ⊥ (λ number. IsSome (definition_in p.fonts number))
IsReady p (PageEnd total width) = Unit {0}
IsReady p End = Unit {0}

-- That is so of each of these operations, one after another.
abbrev pub AreReady : Progress → List Operation → Type 0
AreReady p [] = Unit {0}
AreReady p (operation ∷ operations) = IsReady p operation × AreReady (after p operation) operations
