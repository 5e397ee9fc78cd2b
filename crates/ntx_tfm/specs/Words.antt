-- A TFM file as bytes: big-endian numbers of 16 bits at its beginning, and then words of four bytes ("TeX: The Program", sections 540 and 564).
use Rattle.std.specs.Prelude.{ℕ, ◌+◌, ◌*◌, ◌/◌, ◌%◌, ℤ, List, drop, slice_index}
use Rattle.byteorder.specs.Endian.{big_number, twos_complement}
use Rattle.ntx_tfm.specs.declared.words.Quad.{Quad}
use Rattle.ntx_tfm.specs.declared.words.CharInfo.{CharInfo}
use Rattle.ntx_tfm.specs.declared.step.LigStep.{LigStep}

-- the i-th number of 16 bits
unfoldable pub half_at : List ℕ → ℕ → ℕ
half_at bytes i = big_number 2 (drop (2 * i) bytes)

-- the i-th word as a number
unfoldable pub word_at : List ℕ → ℕ → ℕ
word_at bytes i = big_number 4 (drop (4 * i) bytes)

-- the i-th word as a signed number
unfoldable pub signed_at : List ℕ → ℕ → ℤ
signed_at bytes i = twos_complement 4 (word_at bytes i)

-- the i-th word as four bytes
unfoldable pub quad_at : List ℕ → ℕ → Quad
quad_at bytes i = record { a = slice_index bytes (4 * i); b = slice_index bytes (4 * i + 1); c = slice_index bytes (4 * i + 2); d = slice_index bytes (4 * i + 3) }

-- a word as the data of a character: 8 bits of width index, 4 of height and 4 of depth index, 6 of italic index, 2 of tag, 8 of remainder
unfoldable pub info_at : List ℕ → ℕ → CharInfo
info_at bytes i = let q = quad_at bytes i in record { width = q.a; height = q.b / 16; depth = q.b % 16; italic = q.c / 4; tag = q.c % 4; remainder = q.d }

-- a word as a step of a program of ligatures and kerns
unfoldable pub step_at : List ℕ → ℕ → LigStep
step_at bytes i = let q = quad_at bytes i in record { skip = q.a; next = q.b; op = q.c; rem = q.d }
