-- A step that is taken writes its operation.
use Rattle.std.proofs.Common.{arith}
use Rattle.ntx_dvi.specs.Bytes.{operation_bytes}
use Rattle.ntx_dvi.specs.Writer.{step}
use Rattle.ntx_dvi.proofs.Writing.{writes_step}
use Rattle.ntx_dvi.proofs.dvi.Dvi.define.Goals as goal

pub returns-clause-writes : goal.returns-clause-writes
unfolding operation_bytes step
returns-clause-writes c = writes_step _ _ _ _ (grind arith)
