-- The legal places so far.
use Rattle.std.proofs.Common.{◌≡◌}
use Rattle.std.specs.List.{filter, range_with_len}
use Rattle.ntx_legal.specs.Places.{is_legal}
use Rattle.ntx_legal.proofs.place.places.Given as goal

abbrev pub invariant-loop-i : goal.invariant-loop-i
invariant-loop-i l = l.places.items ≡ filter (is_legal l.fn.params l.fn.discs l.fn.items) (range_with_len 1 l.i)
