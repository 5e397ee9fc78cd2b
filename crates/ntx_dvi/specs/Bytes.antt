-- The bytes of each operation ("TeX: The Program", sections 583 to 591, 617, 640 and 642).
-- A number of several bytes has its highest byte first, and one that may be negative is in two's complement.
use Rattle.std.specs.Prelude.{ℕ, ◌+◌, ◌-◌, ◌*◌, ◌%◌, ◌^◌, nat_lt, ◌&&◌, Bool, if◌then◌else◌, List, [], ◌∷◌, ◌++◌, length, replicate, codes, ℤ, pos, neg_ℤ, int_le, int_lt, Option, Some, None}
use Rattle.std.specs.Int.{w32, cast_unsigned}
use Rattle.std.specs.Ordering.{int_eq}
use Rattle.byteorder.specs.Endian.{big_bytes}
use Rattle.ntx_dvi.specs.Operation.{Operation, Begin, PageStart, Push, Pop, Right, Down, Rule, DefineFont, ChooseFont, SetCharacter, PageEnd, End}
use Rattle.ntx_tfm.specs.declared.def.FontDef.{FontDef}
use Rattle.ntx_dvi.specs.Progress.{Progress}

-- the low bytes of a signed number, as many as are wanted
abbrev pub signed_bytes : ℕ → ℤ → List ℕ
signed_bytes count z = big_bytes count (cast_unsigned w32 z)

-- Numerator and denominator of the unit, 1/65536 of a point of which 72.27 are an inch, in 10^-7 metres; and the magnification, in
-- thousandths.
abbrev pub units : List ℕ
units = big_bytes 4 25400000 ++ big_bytes 4 473628672 ++ big_bytes 4 1000

-- pre, with format 2 and the comment "ntx"
abbrev pub preamble : List ℕ
preamble = 247 ∷ 2 ∷ units ++ 3 ∷ codes "ntx"

-- bop, with the ten numbers of the page, of which nine are 0, and the place of the page before
abbrev pub page_start_bytes : ℤ → ℤ → List ℕ
page_start_bytes number last_page = 139 ∷ signed_bytes 4 number ++ replicate 36 0 ++ signed_bytes 4 last_page

-- Whether a number is one of so many bytes.
abbrev pub fits_bytes : ℕ → ℤ → Bool
fits_bytes count z = let limit = 2 ^ (8 * count - 1) in int_le (neg_ℤ (pos limit)) z && int_lt z (pos limit)

-- the fewest bytes, 1 to 4, that a distance needs
abbrev pub shortest : ℤ → ℕ
shortest z = if fits_bytes 1 z then 1 else if fits_bytes 2 z then 2 else if fits_bytes 3 z then 3 else 4

-- A movement of one byte has the code after this one, and so on; one by nothing has no bytes.
abbrev pub movement_bytes : ℕ → ℤ → List ℕ
movement_bytes code z = if int_eq z (pos 0) then [] else (code + shortest z) ∷ signed_bytes (shortest z) z

-- set_rule, with the height and the width
abbrev pub rule_bytes : ℤ → ℤ → List ℕ
rule_bytes height width = 132 ∷ signed_bytes 4 height ++ signed_bytes 4 width

-- fnt_def1, with the number, the checksum, the size, the design size, no name of a directory, and the name
abbrev pub definition_bytes : ℕ → FontDef → List ℕ
definition_bytes number def =
    243 ∷ number ∷ big_bytes 4 def.checksum ++ signed_bytes 4 def.size ++ signed_bytes 4 def.design ++ 0 ∷ length def.name ∷ def.name

-- set_char, or set1 with the code
abbrev pub character_bytes : ℕ → List ℕ
character_bytes code = if nat_lt code 128 then code ∷ [] else 128 ∷ code ∷ []

-- the definition of a font, if it has one
abbrev pub definition_if : ℕ → Option FontDef → List ℕ
definition_if number None = []
definition_if number (Some def) = definition_bytes number def

-- the definitions of fonts, of which the first has this number; the highest number comes first
abbrev pub definitions : ℕ → List (Option FontDef) → List ℕ
definitions number [] = []
definitions number (font ∷ fonts) = definitions (number + 1) fonts ++ definition_if number font

-- post, with the place of the last page, the units, the greatest sizes of pages, the most open pushes, and the number of pages
abbrev pub postamble : Progress → List ℕ
postamble p =
    248 ∷ signed_bytes 4 p.last_page ++ units ++ signed_bytes 4 p.tallest ++ signed_bytes 4 p.widest ++ big_bytes 2 p.deepest
    ++ big_bytes 2 (p.pages % 2 ^ 16)

-- post_post, with the place of the postamble and the format
abbrev pub post_post : Progress → List ℕ
post_post p = 249 ∷ big_bytes 4 p.place ++ 2 ∷ []

-- the postamble with the definitions of all fonts that were used, and post_post
abbrev pub ending : Progress → List ℕ
ending p = postamble p ++ definitions 0 p.fonts ++ post_post p

-- how many bytes fill a file of so many up: four, and up to three more to a length that is a multiple of four
abbrev pub filler_count : ℕ → ℕ
filler_count count = 4 + (4 - count % 4) % 4

-- the bytes that fill the file up
abbrev pub fillers : ℕ → List ℕ
fillers count = replicate (filler_count count) 223

-- The bytes of an operation. Proofs see into it only where they ask for it, since most need no more than that there are such bytes.
unfoldable pub operation_bytes : Progress → Operation → List ℕ
operation_bytes p Begin = preamble
operation_bytes p (PageStart number) = page_start_bytes number p.last_page
operation_bytes p Push = 141 ∷ []
operation_bytes p Pop = 142 ∷ []
operation_bytes p (Right distance) = movement_bytes 142 distance
operation_bytes p (Down distance) = movement_bytes 156 distance
operation_bytes p (Rule height width) = rule_bytes height width
operation_bytes p (DefineFont number def) = definition_bytes number def
operation_bytes p (ChooseFont number) = (171 + number) ∷ []
operation_bytes p (SetCharacter code) = character_bytes code
operation_bytes p (PageEnd total width) = 140 ∷ []
operation_bytes p End = ending p ++ fillers (p.place + length (ending p))
