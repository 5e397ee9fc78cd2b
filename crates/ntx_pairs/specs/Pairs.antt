-- What happens between two characters of a font: the first step of the left one's program that applies to the right one ("TeX: The
-- Program", sections 545, 741 and 1039).
use Rattle.std.specs.Prelude.{◌≡◌, ◌<◌, ◌≤◌, ℕ, zero, suc, ◌+◌, ◌-◌, ◌*◌, pos, Bool, ◌&&◌, nat_le, nat_lt, nat_eq, if◌then◌else◌, List, [], ◌∷◌, slice_get, slice_index_or, Option, Some, None, IsTrue, IsSome}
use Rattle.ntx_num.specs.Dimension.{IsDimension}
use Rattle.ntx_tfm.specs.declared.step.LigStep.{LigStep}
use Rattle.ntx_tfm.specs.Faults.{is_ligature}
use Rattle.ntx_tfm.specs.Font.{FontTables, character_at, start_at}
use Rattle.ntx_pairs.specs.declared.command.Pair.{Pair}
use Rattle.ntx_pairs.specs.declared.command.Pair.TheVariants as pairs

-- A step applies where it names the right character. A step with skip above 128 only says where a program starts.
abbrev pub applies : LigStep → ℕ → Bool
applies step right = nat_le step.skip 128 && nat_eq step.next right

-- The places of the program that is at place i: this one, and those of the program that is skip + 1 places later where the step has a skip below
-- 128.
pub data Reaches (steps : List LigStep) : ℕ → ℕ → Type 0 where
  here : (i : ℕ) → Reaches steps i i
  later : (i j : ℕ) (step : LigStep) → slice_get steps i ≡ Some step → step.skip < 128 → Reaches steps (i + step.skip + 1) j → Reaches steps i j

-- The step at a place applies.
pub record AppliesAt (steps : List LigStep) (right i : ℕ) (step : LigStep) : Type 0 where
  pub found : slice_get steps i ≡ Some step
  pub applied : IsTrue (applies step right)

-- The least place of a program whose step applies, with that step.
pub record IsLeast (steps : List LigStep) (start right i : ℕ) (step : LigStep) : Type 0 where
  pub reached : Reaches steps start i
  pub applied : AppliesAt steps right i step
  pub least : (j : ℕ) (other : LigStep) → Reaches steps start j → AppliesAt steps right j other → i ≤ j

-- The step that decides, if there is one: that of the least place that applies.
abbrev pub Decides : List LigStep → ℕ → ℕ → Option LigStep → Type 0
Decides steps start right None = (j : ℕ) (other : LigStep) → Reaches steps start j → AppliesAt steps right j other → ⊥
Decides steps start right (Some step) = (i : ℕ) × IsLeast steps start right i step

-- The same step, by going through the steps: some are passed over, and then one applies, or others are passed over, or the program ends.
abbrev pub deciding : ℕ → ℕ → List LigStep → Option LigStep
deciding right over [] = None
deciding right (suc over) (step ∷ steps) = deciding right over steps
deciding right zero (step ∷ steps) = if applies step right then Some step else if nat_lt step.skip 128 then deciding right step.skip steps else None

-- What a step does: from 128 on the operation is a kern, whose number it is a part of.
abbrev pub command_of : FontTables → LigStep → Pair
command_of t step = if nat_le 128 step.op then pairs.Kern (slice_index_or t.kerns (256 * (step.op - 128) + step.rem) (pos 0)) else pairs.Lig step.op step.rem

abbrev pub command_in : FontTables → Option LigStep → Pair
command_in t None = pairs.None
command_in t (Some step) = command_of t step

abbrev pub pair_from : FontTables → ℕ → Option ℕ → Pair
pair_from t right None = pairs.None
pair_from t right (Some start) = command_in t (deciding right start t.steps)

-- The pair of two characters.
unfoldable pub pair_of : FontTables → ℕ → ℕ → Pair
pair_of t left right = pair_from t right (start_at t left)

-- It is what the deciding step of the left one's program does, and nothing where there is no program or no such step.
abbrev pub IsPairFrom : FontTables → ℕ → Option ℕ → Pair → Type 0
IsPairFrom t right None pair = pair ≡ pairs.None
IsPairFrom t right (Some start) pair = (step : Option LigStep) × Decides t.steps start right step × (pair ≡ command_in t step)

abbrev pub IsPair : FontTables → ℕ → ℕ → Pair → Type 0
IsPair t left right pair = IsPairFrom t right (start_at t left) pair

-- A kern is within TeX's dimensions. A ligature is one of the eight, and its character is in the font.
abbrev pub IsGoodPair : FontTables → Pair → Type 0
IsGoodPair t pairs.None = Unit {0}
IsGoodPair t (pairs.Kern kern) = IsDimension kern
IsGoodPair t (pairs.Lig op code) = IsTrue (is_ligature op) × IsSome (character_at t code)
