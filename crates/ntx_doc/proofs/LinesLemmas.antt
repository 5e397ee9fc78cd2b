-- The first line of a text.
use Rattle.std.proofs.Common.{◌≡◌, ℕ, ◌+◌, ◌-◌, ◌<◌, nat_eq, false, List, [], ◌∷◌, length, take, drop, Some, None, arith, position, ap, refl, ◌∙◌, sym}
use Rattle.std.specs.List.{slice_split, position_or_len}
use Rattle.std.specs.Str.Lines.{lines, lines_of_parts, strip_carriage_return}
use Rattle.std.proofs.lemmas.Bool.Decides.{nat_tests}
use Rattle.std.proofs.lemmas.List.{take_rest}
use Rattle.std.proofs.lemmas.List.Splits.{slice_split_none, slice_split_first, length-slice_split}
use Rattle.ntx_doc.specs.Text.{is_feed}
use Rattle.ntx_doc.proofs.Position.{position_found, position_missed}

lone : (part : List ℕ) → 0 < length part → lines_of_parts (part ∷ []) ≡ part ∷ []
lone part some = let e : nat_eq (length part) 0 ≡ false = grind (arith, nat_tests) in rw e refl

-- A text without a line feed is one line.
pub lines_last : (bytes : List ℕ) → 0 < length bytes → None ≡ position is_feed bytes → lines bytes ≡ bytes ∷ []
lines_last bytes some missed =
    ap lines_of_parts (slice_split_none is_feed bytes (position_missed is_feed bytes (sym missed))) ∙ lone bytes some

pub parts_after : (part : List ℕ) (parts : List (List ℕ)) → 0 < length parts → lines_of_parts (part ∷ parts) ≡ strip_carriage_return part ∷ lines_of_parts parts
parts_after part [] more = absurd (omega arith)
parts_after part (next ∷ others) more = refl

cut_first : (bytes : List ℕ) → position_or_len is_feed bytes < length bytes → lines bytes ≡ strip_carriage_return (take (position_or_len is_feed bytes) bytes) ∷ lines (drop (position_or_len is_feed bytes + 1) bytes)
cut_first bytes within =
    ap lines_of_parts (slice_split_first is_feed bytes 0 within)
    ∙ parts_after (take (position_or_len is_feed bytes) bytes) (slice_split is_feed (drop (position_or_len is_feed bytes + 1) bytes))
    (omega (arith, length-slice_split is_feed (drop (position_or_len is_feed bytes + 1) bytes)))

-- The first line feed ends the first line.
pub lines_first : (bytes : List ℕ) (feed : ℕ) → Some feed ≡ position is_feed bytes → lines bytes ≡ strip_carriage_return (take feed bytes) ∷ lines (take (length bytes - (feed + 1)) (drop (feed + 1) bytes))
lines_first bytes feed found =
    let h : (feed ≡ position_or_len is_feed bytes) × (feed < length bytes) = position_found is_feed bytes feed (sym found) in
    rw (take_rest, h.0) (cut_first bytes (omega arith))
