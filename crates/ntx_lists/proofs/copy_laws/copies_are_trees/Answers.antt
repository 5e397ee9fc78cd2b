use Rattle.ntx_lists.proofs.CopyLists.{trees_are}
use Rattle.ntx_lists.proofs.copy_laws.copies_are_trees.Goals as goal

pub returns : goal.returns
returns c = trees_are
