use Rattle.ntx_parse.proofs.complete.Scripts.{one_tree}
use Rattle.ntx_parse.proofs.laws.scripts_have_one_tree.Goals as goal

pub returns : goal.returns
returns c = one_tree
