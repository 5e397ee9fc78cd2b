use Rattle.ntx_lists.proofs.CopyLists.{lists_are}
use Rattle.ntx_lists.proofs.copy_laws.copies_are_lists.Goals as goal

pub returns : goal.returns
returns c = lists_are
