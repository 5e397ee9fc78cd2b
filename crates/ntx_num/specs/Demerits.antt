-- Demerits of one line, before what two lines together add ("TeX: The Program", section 859).
use Rattle.std.specs.Prelude.{◌*◌, suc, ℤ, pos, negsuc, ◌+ℤ◌, ◌*ℤ◌, neg_ℤ, unsigned_abs, nat_lt, if◌then◌else◌}

-- The square of a line's penalty plus badness, and 10 ^ 8 from 10000 on in absolute value.
abbrev pub capped_square : ℤ → ℤ
capped_square d = if nat_lt (unsigned_abs d) 10000 then d *ℤ d else pos 100000000

-- The square of a break's penalty, with its sign. A forced break, of penalty -10000 or less, has none.
abbrev pub signed_square : ℤ → ℤ
signed_square (pos p) = pos (p * p)
signed_square (negsuc k) = if nat_lt (suc k) 10000 then neg_ℤ (pos (suc k * suc k)) else pos 0

-- The squares for the line penalty, the line's badness b and the break's penalty p.
abbrev pub demerits_of : ℤ → ℤ → ℤ → ℤ
demerits_of linepenalty b p = capped_square (linepenalty +ℤ b) +ℤ signed_square p
