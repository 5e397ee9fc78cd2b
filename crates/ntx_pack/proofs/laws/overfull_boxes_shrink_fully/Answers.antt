-- proofs/laws/overfull_boxes_shrink_fully/Answers.antt
use Rattle.ntx_pack.proofs.GlueLemmas.{overfull_lem}
use Rattle.ntx_pack.proofs.laws.overfull_boxes_shrink_fully.Goals as goal

pub returns : goal.returns
returns c = overfull_lem
