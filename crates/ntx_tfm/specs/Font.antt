-- A font: what a TFM file, a name and a size give ("TeX: The Program", sections 539 to 546 and 560 to 576). Every size is in scaled points.
use Rattle.std.specs.Prelude.{◌≡◌, ◌<◌, ◌≤◌, ℕ, ◌+◌, ◌-◌, ◌*◌, ◌/◌, ℤ, pos, unsigned_abs, nat_lt, nat_eq, if◌then◌else◌, List, [], ◌∷◌, length, slice_get, slice_index_or, Option, Some, None, Result, Ok, Err, All, IsTrue, IsSome, IfSome, ◌≤ℤ◌, FitsSigned}
use Rattle.std.specs.Int.{w32}
use Rattle.ntx_num.specs.Dimension.{IsDimension}
use Rattle.ntx_num.specs.declared.size.Size.{Size}
use Rattle.ntx_tfm.specs.declared.def.FontDef.{FontDef}
use Rattle.ntx_tfm.specs.declared.fault.FontFault.{FontFault}
use Rattle.ntx_tfm.specs.declared.layout.Lengths.{Lengths}
use Rattle.ntx_tfm.specs.declared.words.CharInfo.{CharInfo}
use Rattle.ntx_tfm.specs.declared.step.LigStep.{LigStep}
use Rattle.ntx_tfm.specs.declared.tables.Character.{Character}
use Rattle.ntx_tfm.specs.Each.{table}
use Rattle.ntx_tfm.specs.Words.{word_at, signed_at, quad_at, info_at, step_at}
use Rattle.ntx_tfm.specs.Layout.{lengths_of, infos_at, widths_at, heights_at, depths_at, steps_at, kerns_at, parameters_at}
use Rattle.ntx_tfm.specs.Scaling.{scaled}
use Rattle.ntx_tfm.specs.Faults.{is_there, is_ligature, first_fault}

-- The tables of a font: its definition; for each code from 0 to 255 the character, where there is one; the steps of its programs; its kerns; and
-- its seven parameters.
pub record FontTables : Type 0 where
  pub def : FontDef
  pub characters : List (Option Character)
  pub steps : List LigStep
  pub kerns : List ℤ
  pub parameters : List ℤ

-- The width, height and depth that a character's indices name.
abbrev pub size_of : List ℕ → Lengths → ℕ → CharInfo → Size
size_of bytes l z info = record {
  w = scaled z (quad_at bytes (widths_at l + info.width));
  h = scaled z (quad_at bytes (heights_at l + info.height));
  d = scaled z (quad_at bytes (depths_at l + info.depth));
}

-- Where a program starts: at its first step, or where that step leads.
abbrev pub start_from : ℕ → LigStep → ℕ
start_from place step = if nat_lt 128 step.skip then 256 * step.op + step.rem else place

-- Where the program of a character starts, if it has one.
unfoldable pub start_of : List ℕ → Lengths → CharInfo → Option ℕ
start_of bytes l info = if nat_eq info.tag 1 then Some (start_from info.remainder (step_at bytes (steps_at l + info.remainder))) else None

-- What a character's word says of it.
abbrev pub described : List ℕ → Lengths → ℕ → CharInfo → Character
described bytes l z info = record { size = size_of bytes l z info; start = start_of bytes l info }

-- The character of a code, where there is one.
unfoldable pub character_of : List ℕ → Lengths → ℕ → ℕ → Option Character
character_of bytes l z code = if is_there bytes l code then Some (described bytes l z (info_at bytes (infos_at l + (code - l.bc)))) else None

-- Parameter k from 1 on: the first, the slant, is kept as it stands, and those that are not there are 0.
unfoldable pub parameter_of : List ℕ → Lengths → ℕ → ℕ → ℤ
parameter_of bytes l z k =
    if nat_lt l.np k then pos 0
    else if nat_eq k 1 then signed_at bytes (parameters_at l)
    else scaled z (quad_at bytes (parameters_at l + (k - 1)))

abbrev pub seven : (ℕ → ℤ) → List ℤ
seven f = f 1 ∷ f 2 ∷ f 3 ∷ f 4 ∷ f 5 ∷ f 6 ∷ f 7 ∷ []

-- The design size.
unfoldable pub design_of : List ℕ → ℕ
design_of bytes = word_at bytes 7 / 16

-- A size that may be asked for, in scaled points: below 2 ^ 26.
abbrev pub IsSize : ℤ → Type 0
IsSize z = (pos 1 ≤ℤ z) × (z ≤ℤ pos 67108863)

-- The size asked for, or the design size.
abbrev pub size_or_design : Option ℤ → ℕ → ℕ
size_or_design None design = design
size_or_design (Some z) design = unsigned_abs z

abbrev pub definition_of : List ℕ → List ℕ → ℕ → FontDef
definition_of bytes name z = record { checksum = word_at bytes 6; size = pos z; design = pos (design_of bytes); name = name }

-- The tables at the size z.
unfoldable pub tables_of : List ℕ → List ℕ → ℕ → FontTables
tables_of bytes name z =
    let l = lengths_of bytes in
    record {
      def = definition_of bytes name z;
      characters = table (character_of bytes l z) 256;
      steps = table (λ i. step_at bytes (steps_at l + i)) l.nl;
      kerns = table (λ k. scaled z (quad_at bytes (kerns_at l + k))) l.nk;
      parameters = seven (parameter_of bytes l z);
    }

-- What reading a font gives: its tables, or the first fault of its bytes.
unfoldable pub font_of : List ℕ → List ℕ → Option ℤ → Result FontTables FontFault
font_of bytes name size = found (first_fault bytes)
  where
    found : Option FontFault → Result FontTables FontFault
    found None = Ok (tables_of bytes name (size_or_design size (design_of bytes)))
    found (Some fault) = Err fault

-- A size within TeX's dimensions.
pub record IsSized (size : Size) : Type 0 where
  pub width : IsDimension size.w
  pub height : IsDimension size.h
  pub depth : IsDimension size.d

-- The character, if there is one, has such a size.
abbrev pub IsSizedCharacter : Option Character → Type 0
IsSizedCharacter found = IfSome found (λ character. IsSized character.size)

-- The sizes are below 2 ^ 26, and the name has 1 to 255 bytes.
pub record IsDefinition (def : FontDef) : Type 0 where
  pub size_least : pos 1 ≤ℤ def.size
  pub size_most : def.size ≤ℤ pos 67108863
  pub design_least : pos 65536 ≤ℤ def.design
  pub design_most : def.design ≤ℤ pos 67108863
  pub name_least : 1 ≤ length def.name
  pub name_most : length def.name ≤ 255

-- Parameter k, from 1 to 7.
abbrev pub parameter_at : FontTables → ℕ → ℤ
parameter_at t k = slice_index_or t.parameters (k - 1) (pos 0)

-- The character of a code, where there is one.
abbrev pub character_at : FontTables → ℕ → Option Character
character_at t c = slice_index_or t.characters c None

abbrev pub size_in : Option Character → Option Size
size_in None = None
size_in (Some character) = Some character.size

abbrev pub start_in : Option Character → Option ℕ
start_in None = None
start_in (Some character) = character.start

-- The size of a character, and where its program starts.
abbrev pub size_at : FontTables → ℕ → Option Size
size_at t c = size_in (character_at t c)

abbrev pub start_at : FontTables → ℕ → Option ℕ
start_at t c = start_in (character_at t c)

-- Step i of a font: where it only says where a program starts, there is a step there; otherwise its kern, or its ligature and the ligature's
-- character, are there, and unless it ends the program there is a step after its skip.
pub record IsGoodStep (t : FontTables) (i : ℕ) (step : LigStep) : Type 0 where
  pub start : 128 < step.skip → 256 * step.op + step.rem < length t.steps
  pub kern : step.skip ≤ 128 → 128 ≤ step.op → 256 * (step.op - 128) + step.rem < length t.kerns
  pub ligature : step.skip ≤ 128 → step.op < 128 → IsTrue (is_ligature step.op) × IsSome (character_at t step.rem)
  pub next : step.skip < 128 → i + step.skip + 1 < length t.steps

-- What every font keeps.
pub record IsFont (t : FontTables) : Type 0 where
  pub definition : IsDefinition t.def
  pub codes : length t.characters ≡ 256
  pub characters : All IsSizedCharacter t.characters
  pub steps : length t.steps < 32768
  pub kerns : All IsDimension t.kerns
  pub slant : FitsSigned w32 (parameter_at t 1)
  pub parameters : (k : ℕ) → 2 ≤ k → k ≤ 7 → IsDimension (parameter_at t k)
  pub good_steps : (i : ℕ) (step : LigStep) → slice_get t.steps i ≡ Some step → IsGoodStep t i step
  pub starts : (c place : ℕ) → start_at t c ≡ Some place → place < length t.steps
