use Rattle.std.proofs.Common.{◌≡◌, ◌≤◌, ◌-◌, vec_len}
use Rattle.ntx_io.specs.Outside.{NamedInput}
use Rattle.ntx_io.proofs.SoFar.{GivenSoFar}
use Rattle.ntx_io.proofs.feed.read_feed.Given as goal

abbrev pub invariant-loop-bytes : goal.invariant-loop-bytes
invariant-loop-bytes g l =
    let now : NamedInput = (goal.Feed-dyn g l.feed.now).named l.feed.now.1 in
    let before : NamedInput = (goal.Feed-dyn g l.fn.feed.now).named l.fn.feed.now.1 in
    (now.input.faults ≡ before.input.faults) × GivenSoFar before.input.left now.input.left l.bytes.items × (vec_len l.bytes ≤ l.limit) × (now.name ≡ before.name)

abbrev pub decreases-loop-bytes : goal.decreases-loop-bytes
decreases-loop-bytes g l = l.limit - vec_len l.bytes
