use Rattle.std.proofs.Common.{arith}
use Rattle.std.proofs.lemmas.Result.{err_from_is_err_and}
use Rattle.ntx_io.proofs.SoFar.{stops_too_large, stops_without_memory}
use Rattle.ntx_io.proofs.whole.read_all.Goals as goal

pub returns-then-count-limit-clause-bytes : goal.returns-then-count-limit-clause-bytes
returns-then-count-limit-clause-bytes g c =
    stops_too_large _ _ _ _ _ _ _ _ c.loop-bytes.invariant.1 c.in_ok-count.ensures.bytes (omega arith)

pub returns-in_err-extend_from_slice-clause-bytes :
    goal.returns-in_err-extend_from_slice-clause-bytes
returns-in_err-extend_from_slice-clause-bytes g c =
    let p = err_from_is_err_and c.from_residual-in_err-extend_from_slice.result c.from_residual-in_err-extend_from_slice.ensures.1 in
    rw (p.1, p.2) (stops_without_memory _ _ _ _ _ _ _ _ c.loop-bytes.invariant.1 c.in_ok-count.ensures.bytes (omega arith))
