use Rattle.ntx_lists.proofs.CopyLists.{stops_rightly}
use Rattle.ntx_lists.proofs.copy_laws.copies_stop_rightly.Goals as goal

pub returns : goal.returns
returns c = stops_rightly
