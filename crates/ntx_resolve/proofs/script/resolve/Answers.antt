use Rattle.ntx_resolve.proofs.Scripts.{accepted, refused_by}
use Rattle.ntx_resolve.proofs.script.resolve.Goals as goal

pub returns-in_err-block : goal.returns-in_err-block
returns-in_err-block c = refused_by _ _ c.outermost.ensures c.from_residual.ensures.1 c.in_err-block.ensures

pub returns : goal.returns
returns c = accepted _ c.outermost.ensures c.in_ok-block.ensures
