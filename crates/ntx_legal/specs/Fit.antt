-- How badly a line fits ("TeX: The Program", sections 108, 817 and 851 to 853): its badness, and its fitness class, which is 0 for a very loose
-- line, 1 for a loose one, 2 for a decent one and 3 for a tight one.
--     fitted shortfall infinite stretch shrink      a line that is too narrow by `shortfall`
use Rattle.std.specs.Prelude.{ℕ, ℤ, pos, neg_ℤ, int_lt, nat_lt, unsigned_abs, Bool, ◌&&◌, if◌then◌else◌}
use Rattle.ntx_num.specs.Badness.{badness_of}
use Rattle.ntx_legal.specs.declared.fit.Line.{Line}

-- the class of a line whose glue stretches with this badness
abbrev pub stretched_class : ℕ → ℕ
stretched_class b = if nat_lt 99 b then 0 else if nat_lt 12 b then 1 else 2

-- the class of a line whose glue shrinks with this badness
abbrev pub shrunk_class : ℕ → ℕ
shrunk_class b = if nat_lt 12 b then 3 else 2

abbrev pub stretched : ℤ → Bool → ℤ → Line
stretched shortfall infinite stretch =
    if infinite then record { shortfall = shortfall; b = pos 0; class = 2 }
    else if int_lt (pos 7230584) shortfall && int_lt stretch (pos 1663497) then record { shortfall = shortfall; b = pos 10000; class = 0 }
    else let b = badness_of (unsigned_abs shortfall) stretch in record { shortfall = shortfall; b = pos b; class = stretched_class b }

-- a line that cannot shrink enough has badness 10001
abbrev pub shrunk : ℤ → ℤ → Line
shrunk shortfall shrink =
    if int_lt shrink (neg_ℤ shortfall) then record { shortfall = shortfall; b = pos 10001; class = 3 }
    else let b = badness_of (unsigned_abs shortfall) shrink in record { shortfall = shortfall; b = pos b; class = shrunk_class b }

-- `infinite` is whether the total stretch of some infinite order is not 0
abbrev pub fitted : ℤ → Bool → ℤ → ℤ → Line
fitted shortfall infinite stretch shrink = if int_lt (pos 0) shortfall then stretched shortfall infinite stretch else shrunk shortfall shrink
