use Rattle.ntx_syntax.specs.declared.tree.Block.{size-Block}
use Rattle.ntx_resolve.proofs.script.+block_of.Given as goal

abbrev pub decreases-block_of : goal.decreases-block_of
decreases-block_of l = size-Block l.block.now
