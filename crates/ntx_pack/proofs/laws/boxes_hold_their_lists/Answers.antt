-- proofs/laws/boxes_hold_their_lists/Answers.antt
use Rattle.ntx_pack.proofs.BoxLists.{boxes_hold_their_lists_lem}
use Rattle.ntx_pack.proofs.laws.boxes_hold_their_lists.Goals as goal

pub returns : goal.returns
returns c = boxes_hold_their_lists_lem
