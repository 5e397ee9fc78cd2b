-- The twelve lengths at the beginning of a TFM file, and the word at which each table begins ("TeX: The Program", sections 540 and 541): six
-- words of lengths, the header, and the tables in the order of their lengths.
use Rattle.std.specs.Prelude.{ℕ, ◌+◌, ◌-◌, ◌<◌, ◌≤◌, ◌*◌, Bool, ◌&&◌, nat_lt, nat_le, List, length}
use Rattle.ntx_tfm.specs.declared.layout.Lengths.{Lengths}
use Rattle.ntx_tfm.specs.Words.{half_at}

unfoldable pub lengths_of : List ℕ → Lengths
lengths_of bytes = record {
  lf = half_at bytes 0;
  lh = half_at bytes 1;
  bc = half_at bytes 2;
  ec = half_at bytes 3;
  nw = half_at bytes 4;
  nh = half_at bytes 5;
  nd = half_at bytes 6;
  ni = half_at bytes 7;
  nl = half_at bytes 8;
  nk = half_at bytes 9;
  ne = half_at bytes 10;
  np = half_at bytes 11;
}

-- how many character codes the file speaks of, from bc to ec
abbrev pub code_count : Lengths → ℕ
code_count l = l.ec + 1 - l.bc

abbrev pub infos_at : Lengths → ℕ
infos_at l = 6 + l.lh

abbrev pub widths_at : Lengths → ℕ
widths_at l = infos_at l + code_count l

abbrev pub heights_at : Lengths → ℕ
heights_at l = widths_at l + l.nw

abbrev pub depths_at : Lengths → ℕ
depths_at l = heights_at l + l.nh

abbrev pub italics_at : Lengths → ℕ
italics_at l = depths_at l + l.nd

abbrev pub steps_at : Lengths → ℕ
steps_at l = italics_at l + l.ni

abbrev pub kerns_at : Lengths → ℕ
kerns_at l = steps_at l + l.nl

abbrev pub parameters_at : Lengths → ℕ
parameters_at l = kerns_at l + l.nk + l.ne

-- all words of the file
abbrev pub word_count : Lengths → ℕ
word_count l = parameters_at l + l.np

-- each number is below 2 ^ 15
unfoldable pub are_short : Lengths → Bool
are_short l =
    nat_lt l.lf 32768 && nat_lt l.lh 32768 && nat_lt l.bc 32768 && nat_lt l.ec 32768 && nat_lt l.nw 32768 && nat_lt l.nh 32768 && nat_lt l.nd 32768
    && nat_lt l.ni 32768 && nat_lt l.nl 32768 && nat_lt l.nk 32768 && nat_lt l.ne 32768 && nat_lt l.np 32768

-- the codes are bytes and bc is at most ec + 1, and the tables of sizes have an entry
unfoldable pub are_usable : Lengths → Bool
are_usable l = nat_le l.bc (l.ec + 1) && nat_le l.ec 255 && nat_lt 0 l.nw && nat_lt 0 l.nh && nat_lt 0 l.nd && nat_lt 0 l.ni

-- What reading the tables stands on: the numbers are in range, and the file has all its words.
pub record IsLaidOut (bytes : List ℕ) (l : Lengths) : Type 0 where
  pub header : 2 ≤ l.lh
  pub codes : l.bc ≤ l.ec + 1
  pub last_code : l.ec ≤ 255
  pub widths : 0 < l.nw
  pub heights : 0 < l.nh
  pub depths : 0 < l.nd
  pub italics : 0 < l.ni
  pub steps : l.nl < 32768
  pub kerns : l.nk < 32768
  pub parameters : l.np < 32768
  pub words : word_count l < 32768
  pub long : 4 * word_count l ≤ length bytes
