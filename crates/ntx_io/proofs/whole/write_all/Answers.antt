use Rattle.std.proofs.Common.{◌∙◌}
use Rattle.std.proofs.lemmas.Result.{err_from_is_err_and}
use Rattle.ntx_io.proofs.SoFar.{WrittenSoFar-more, stops_written, no_rest_of_nothing}
use Rattle.ntx_io.proofs.whole.write_all.Goals as goal

pub loop-rest-preserved : goal.loop-rest-preserved
loop-rest-preserved g c = (
  c.in_ok-count.ensures.cause.kept ∙ c.loop-rest.invariant.0,
  rw c.split_at.ensures.back (WrittenSoFar-more _ _ _ _ _ _ _ c.loop-rest.invariant.1 c.in_ok-count.ensures.bytes),
  λ none. absurd (no_rest_of_nothing _ _ _ _ _ c.loop-rest.invariant.1 none c.is_empty.ensures c.loop-rest-test.true),
)

pub returns-in_err-count-clause-bytes : goal.returns-in_err-count-clause-bytes
returns-in_err-count-clause-bytes g c =
    let p = err_from_is_err_and c.from_residual.result c.from_residual.ensures.1 in
    rw p.1 (stops_written _ _ _ _ _ _ _ _ c.loop-rest.invariant.1 c.is_empty.ensures c.loop-rest-test.true c.in_err-count.ensures.bytes)
