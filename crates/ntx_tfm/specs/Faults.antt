-- What is wrong with a TFM file: the first of ten tests that fails, in a fixed order. "TeX: The Program", sections 560 to 575, has most of
-- them, and others that are not made here.
use Rattle.std.specs.Prelude.{◌≡◌, ℕ, ◌+◌, ◌-◌, ◌*◌, ◌/◌, Bool, true, not, ◌&&◌, ◌||◌, nat_lt, nat_le, nat_eq, if◌then◌else◌, List, length, Option, Some, None}
use Rattle.ntx_tfm.specs.declared.fault.FontFault.{FontFault}
use Rattle.ntx_tfm.specs.declared.fault.FontFault.TheVariants.{Short, Range, Header, Size, Index, FirstNotZero, FixWord, LigProgram}
use Rattle.ntx_tfm.specs.declared.fault.FontFault.TheVariants as fault
use Rattle.ntx_tfm.specs.declared.layout.Lengths.{Lengths}
use Rattle.ntx_tfm.specs.declared.words.Quad.{Quad}
use Rattle.ntx_tfm.specs.declared.words.CharInfo.{CharInfo}
use Rattle.ntx_tfm.specs.declared.step.LigStep.{LigStep}
use Rattle.ntx_tfm.specs.Each.{each}
use Rattle.ntx_tfm.specs.Words.{word_at, quad_at, info_at, step_at}
use Rattle.ntx_tfm.specs.Layout.{lengths_of, code_count, infos_at, widths_at, heights_at, depths_at, italics_at, steps_at, kerns_at, parameters_at, word_count, are_short, are_usable, IsLaidOut}

-- The design size, header word 1 over 16, is below 2 ^ 26 and at least 1 pt.
unfoldable pub has_size : List ℕ → Bool
has_size bytes = nat_lt (word_at bytes 7) 1073741824 && nat_le 65536 (word_at bytes 7 / 16)

-- Each index of a character is below its table's length.
unfoldable pub has_entries : Lengths → CharInfo → Bool
has_entries l info = nat_lt info.width l.nw && nat_lt info.height l.nh && nat_lt info.depth l.nd && nat_lt info.italic l.ni

unfoldable pub have_entries : List ℕ → Lengths → Bool
have_entries bytes l = each (code_count l) (λ k. has_entries l (info_at bytes (infos_at l + k)))

-- The first width, height, depth and italic correction are 0.
unfoldable pub begin_with_zero : List ℕ → Lengths → Bool
begin_with_zero bytes l =
    nat_eq (word_at bytes (widths_at l)) 0 && nat_eq (word_at bytes (heights_at l)) 0 && nat_eq (word_at bytes (depths_at l)) 0
    && nat_eq (word_at bytes (italics_at l)) 0

-- A fix_word between -16 and 16.
abbrev pub is_fix_word : Quad → Bool
is_fix_word q = nat_eq q.a 0 || nat_eq q.a 255

unfoldable pub are_fix_words : List ℕ → ℕ → ℕ → Bool
are_fix_words bytes from count = each count (λ k. is_fix_word (quad_at bytes (from + k)))

-- Widths, heights, depths, italic corrections, kerns, and the parameters from the second on.
unfoldable pub have_fix_words : List ℕ → Lengths → Bool
have_fix_words bytes l =
    are_fix_words bytes (widths_at l) l.nw && are_fix_words bytes (heights_at l) l.nh && are_fix_words bytes (depths_at l) l.nd
    && are_fix_words bytes (italics_at l) l.ni && are_fix_words bytes (kerns_at l) l.nk && are_fix_words bytes (parameters_at l + 1) (l.np - 1)

-- The character is in the font: its code is from bc to ec, and its width index is not 0.
unfoldable pub is_there : List ℕ → Lengths → ℕ → Bool
is_there bytes l code = nat_le l.bc code && nat_le code l.ec && not (nat_eq (info_at bytes (infos_at l + (code - l.bc))).width 0)

-- A program that a character has (tag 1) begins at a step.
unfoldable pub begins_at_step : Lengths → CharInfo → Bool
begins_at_step l info = not (nat_eq info.tag 1) || nat_lt info.remainder l.nl

unfoldable pub begin_at_steps : List ℕ → Lengths → Bool
begin_at_steps bytes l = each (code_count l) (λ k. begins_at_step l (info_at bytes (infos_at l + k)))

-- The eight operations of ligatures: 0 to 3, 5 to 7, and 11.
abbrev pub is_ligature : ℕ → Bool
is_ligature op = nat_lt op 4 || (nat_lt 4 op && nat_lt op 8) || nat_eq op 11

-- From 128 on an operation is a kern, whose number is in the table; else it is a ligature with a character of the font.
unfoldable pub has_operands : List ℕ → Lengths → LigStep → Bool
has_operands bytes l step = if nat_le 128 step.op then nat_lt (256 * (step.op - 128) + step.rem) l.nk else is_ligature step.op && is_there bytes l step.rem

-- A step with skip above 128 leads to a step. Any other has its operands, and unless it ends the program there is a step after its skip.
unfoldable pub is_good_step : List ℕ → Lengths → ℕ → LigStep → Bool
is_good_step bytes l i step =
    if nat_lt 128 step.skip then nat_lt (256 * step.op + step.rem) l.nl
    else has_operands bytes l step && (nat_eq step.skip 128 || nat_lt (i + step.skip + 1) l.nl)

unfoldable pub are_good_steps : List ℕ → Lengths → Bool
are_good_steps bytes l = each l.nl (λ i. is_good_step bytes l i (step_at bytes (steps_at l + i)))

-- The first fault of a file whose lengths are in range.
unfoldable pub fault_of_tables : List ℕ → Lengths → Option FontFault
fault_of_tables bytes l =
    if not (has_size bytes) then Some Size
    else if not (have_entries bytes l) then Some Index
    else if not (begin_with_zero bytes l) then Some FirstNotZero
    else if not (have_fix_words bytes l) then Some FixWord
    else if not (begin_at_steps bytes l && are_good_steps bytes l) then Some LigProgram
    else None

-- The first fault that the lengths show.
unfoldable pub fault_of_lengths : List ℕ → Lengths → Option FontFault
fault_of_lengths bytes l =
    if not (are_short l && are_usable l) then Some Range
    else if nat_lt l.lh 2 then Some Header
    else if not (nat_eq l.lf (word_count l)) then Some fault.Lengths
    else if nat_lt (length bytes) (4 * l.lf) then Some Short
    else fault_of_tables bytes l

-- The first fault of a file.
unfoldable pub first_fault : List ℕ → Option FontFault
first_fault bytes = if nat_lt (length bytes) 24 then Some Short else fault_of_lengths bytes (lengths_of bytes)

-- What reading the tables stands on: what a file without fault has of it.
pub record IsSound (bytes : List ℕ) (l : Lengths) : Type 0 where
  pub laid_out : IsLaidOut bytes l
  pub size : has_size bytes ≡ true
  pub entries : have_entries bytes l ≡ true
  pub begins : begin_at_steps bytes l ≡ true
  pub steps : are_good_steps bytes l ≡ true

-- A file without fault, and its lengths.
pub record IsFaultless (bytes : List ℕ) (l : Lengths) : Type 0 where
  pub none : first_fault bytes ≡ None
  pub lengths : l ≡ lengths_of bytes
  pub sound : IsSound bytes l
