-- Parts of items in range.
use Rattle.std.proofs.Common.{ℕ, ◌≤◌, List, length, take, drop, get_or, arith, ◌<◌}
use Rattle.std.specs.List.{All, sum_by}
use Rattle.std.proofs.lemmas.List.{length-take, length-drop}
use Rattle.std.proofs.lemmas.List.Elements.{All-take, All-drop}
use Rattle.std.proofs.lemmas.List.Sums.{sum_by-take-drop, sum_by_more_le}
use Rattle.ntx_item.specs.declared.item.Item.{Item}
use Rattle.ntx_item.specs.Items.{absolute_width, absolute_stretch, absolute_shrink, IsItemInRange, IsBounded, AreItemsInRange, PartsAreInRange}

take_le : (f : Item → ℕ) (items : List Item) (k : ℕ) (n : ℕ) → sum_by f items ≤ n → sum_by f (take k items) ≤ n
take_le f items k n le = omega (arith, sum_by-take-drop f items k)

drop_le : (f : Item → ℕ) (items : List Item) (k : ℕ) (n : ℕ) → sum_by f items ≤ n → sum_by f (drop k items) ≤ n
drop_le f items k n le = omega (arith, sum_by-take-drop f items k)

-- an item's number is no greater than the sum
one_le : (f : Item → ℕ) (items : List Item) (k : ℕ) (d : Item) (n : ℕ) → k < length items → sum_by f items ≤ n → f (get_or items k d) ≤ n
one_le f items k d n inside le = omega (arith, sum_by_more_le f items k d inside, sum_by-take-drop f items k)

front : (items : List Item) (k : ℕ) → AreItemsInRange items → AreItemsInRange (take k items)
front items k r = record {
  count = omega (arith, length-take k items);
  each = All-take IsItemInRange k items r.each;
  widths = take_le absolute_width items k _ r.widths;
  stretches = take_le absolute_stretch items k _ r.stretches;
  shrinks = take_le absolute_shrink items k _ r.shrinks;
}

rest : (items : List Item) (k : ℕ) → AreItemsInRange items → AreItemsInRange (drop k items)
rest items k r = record {
  count = omega (arith, length-drop k items);
  each = All-drop IsItemInRange k items r.each;
  widths = drop_le absolute_width items k _ r.widths;
  stretches = drop_le absolute_stretch items k _ r.stretches;
  shrinks = drop_le absolute_shrink items k _ r.shrinks;
}

each : (items : List Item) → AreItemsInRange items → All IsBounded items
each items r = λ k d inside. record {
  in_range = r.each k d inside;
  width = one_le absolute_width items k d _ inside r.widths;
  stretch = one_le absolute_stretch items k d _ inside r.stretches;
  shrink = one_le absolute_shrink items k d _ inside r.shrinks;
}

pub parts_are_in_range : PartsAreInRange
parts_are_in_range = record { front = front; rest = rest; each = each }
