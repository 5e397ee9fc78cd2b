-- What a line costs, in demerits ("TeX: The Program", section 859).
--     hyphen_demerits params items from to       for two hyphenated lines in a row, and for a hyphenated last line but one
--     class_demerits params before class         for two lines in a row if one is much looser than the other
--     line_cost params items from before to line for the line between two places that comes to these numbers, after a line of class `before`
--     cost params items from before to extra     the same, with the numbers that the line has
use Rattle.std.specs.Prelude.{ℕ, ◌+◌, nat_lt, ℤ, pos, ◌+ℤ◌, Bool, ◌&&◌, ◌||◌, if◌then◌else◌, List}
use Rattle.ntx_num.specs.Demerits.{demerits_of}
use Rattle.ntx_item.specs.declared.item.Item.{Item}
use Rattle.ntx_item.specs.Settings.{Settings}
use Rattle.ntx_legal.specs.declared.fit.Line.{Line}
use Rattle.ntx_legal.specs.Lines.{line_of}
use Rattle.ntx_breaks.specs.Penalties.{penalty_at, is_end, is_hyphenated}

abbrev pub hyphen_demerits : Settings → List Item → ℕ → ℕ → ℤ
hyphen_demerits params items from to =
    if is_hyphenated items from && is_hyphenated items to
    then (if is_end items to then params.finalhyphendemerits else params.doublehyphendemerits)
    else pos 0

-- fitness classes that differ by more than one
abbrev pub are_far_apart : ℕ → ℕ → Bool
are_far_apart a b = nat_lt (a + 1) b || nat_lt (b + 1) a

abbrev pub class_demerits : Settings → ℕ → ℕ → ℤ
class_demerits params before class = if are_far_apart before class then params.adjdemerits else pos 0

abbrev pub line_cost : Settings → List Item → ℕ → ℕ → ℕ → Line → ℤ
line_cost params items from before to line =
    demerits_of params.linepenalty line.b (penalty_at params items to) +ℤ hyphen_demerits params items from to +ℤ class_demerits params before line.class

abbrev pub cost : Settings → List Item → ℕ → ℕ → ℕ → ℤ → ℤ
cost params items from before to extra = line_cost params items from before to (line_of params items from to extra)
