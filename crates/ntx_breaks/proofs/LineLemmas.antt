-- How great a line's badness can be.
use Rattle.std.proofs.Common.{ℕ, zero, suc, ◌≤◌, ℤ, pos, negsuc, ◌+ℤ◌, ◌-ℤ◌, Bool, true, false, ◌&&◌, cond, List, arith}
use Rattle.std.specs.Prelude.{int_lt, neg_ℤ}
use Rattle.std.specs.Int.RustNames.{unsigned_abs}
use Rattle.std.proofs.lemmas.Int.{ints}
use Rattle.ntx_num.specs.Badness.{badness_of, scaled_ratio}
use Rattle.ntx_num.proofs.BadnessLemmas.{cubed_capped}
use Rattle.ntx_item.specs.declared.item.Item.{Item}
use Rattle.ntx_item.specs.Settings.{Settings}
use Rattle.ntx_legal.specs.declared.fit.Line.{Line}
use Rattle.ntx_legal.specs.Fit.{stretched_class, shrunk_class, stretched, shrunk, fitted}
use Rattle.ntx_legal.specs.LineSums.{sums_of}
use Rattle.ntx_legal.specs.Lines.{parts_of, is_infinite, line_of}
use Rattle.ntx_breaks.specs.inner.Bounds.{IsLineInRange}

badness_capped : (t : ℕ) (s : ℤ) → badness_of t s ≤ 10000
badness_capped zero s = omega arith
badness_capped (suc t) (negsuc s) = omega arith
badness_capped (suc t) (pos zero) = omega arith
badness_capped (suc t) (pos (suc s)) = cubed_capped (scaled_ratio (suc t) (suc s))

either : (P : Line → Type 0) (b : Bool) (x y : Line) → P x → P y → P (cond b x y)
either P true x y p q = p
either P false x y p q = q

line_with : (shortfall : ℤ) (b class : ℕ) → b ≤ 10001 → IsLineInRange (record { shortfall = shortfall; b = pos b; class = class })
line_with shortfall b class le = record { low = omega (arith, ints); high = omega (arith, ints) }

stretched_in_range : (shortfall : ℤ) (infinite : Bool) (stretch : ℤ) → IsLineInRange (stretched shortfall infinite stretch)
stretched_in_range shortfall infinite stretch =
    let b : ℕ = badness_of (unsigned_abs shortfall) stretch in
    let capped : badness_of (unsigned_abs shortfall) stretch ≤ 10001 = omega (arith, badness_capped (unsigned_abs shortfall) stretch) in
    either IsLineInRange infinite (record { shortfall = shortfall; b = pos 0; class = 2 })
    (cond (int_lt (pos 7230584) shortfall && int_lt stretch (pos 1663497)) (record { shortfall = shortfall; b = pos 10000; class = 0 }) (record { shortfall = shortfall; b = pos b; class = stretched_class b }))
    (line_with shortfall 0 2 (omega arith))
    (either IsLineInRange (int_lt (pos 7230584) shortfall && int_lt stretch (pos 1663497)) (record { shortfall = shortfall; b = pos 10000; class = 0 })
    (record { shortfall = shortfall; b = pos b; class = stretched_class b }) (line_with shortfall 10000 0 (omega arith)) (line_with shortfall b (stretched_class b) capped))

shrunk_in_range : (shortfall shrink : ℤ) → IsLineInRange (shrunk shortfall shrink)
shrunk_in_range shortfall shrink =
    let b : ℕ = badness_of (unsigned_abs shortfall) shrink in
    let capped : badness_of (unsigned_abs shortfall) shrink ≤ 10001 = omega (arith, badness_capped (unsigned_abs shortfall) shrink) in
    either IsLineInRange (int_lt shrink (neg_ℤ shortfall)) (record { shortfall = shortfall; b = pos 10001; class = 3 })
    (record { shortfall = shortfall; b = pos b; class = shrunk_class b }) (line_with shortfall 10001 3 (omega arith)) (line_with shortfall b (shrunk_class b) capped)

fitted_in_range : (shortfall : ℤ) (infinite : Bool) (stretch shrink : ℤ) → IsLineInRange (fitted shortfall infinite stretch shrink)
fitted_in_range shortfall infinite stretch shrink =
    either IsLineInRange (int_lt (pos 0) shortfall) (stretched shortfall infinite stretch) (shrunk shortfall shrink)
    (stretched_in_range shortfall infinite stretch) (shrunk_in_range shortfall shrink)

pub line_in_range : (params : Settings) (items : List Item) (from to : ℕ) (extra : ℤ) → IsLineInRange (line_of params items from to extra)
line_in_range params items from to extra =
    let sums = sums_of (parts_of params items from to) in
    fitted_in_range (params.hsize -ℤ sums.width) (is_infinite sums.stretch) (sums.stretch.normal +ℤ extra) sums.shrink
