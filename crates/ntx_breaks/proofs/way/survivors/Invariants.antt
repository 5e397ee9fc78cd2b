-- The states so far that do not fall.
use Rattle.std.proofs.Common.{◌≡◌, map, not, take}
use Rattle.std.specs.List.{filter}
use Rattle.ntx_breaks.specs.States.{falls}
use Rattle.ntx_breaks.proofs.way.survivors.Given as goal

abbrev pub invariant-loop-way : goal.invariant-loop-way
invariant-loop-way l = l.live.items ≡ map (λ way. way.from) (filter (λ way. not (falls l.forced way)) (take l.way-index l.ways))
