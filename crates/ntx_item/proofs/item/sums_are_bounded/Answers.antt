-- proofs/item/sums_are_bounded/Answers.antt
use Rattle.ntx_item.proofs.SumLemmas.{sums_are_bounded}
use Rattle.ntx_item.proofs.item.sums_are_bounded.Goals as goal

pub returns : goal.returns
returns c = sums_are_bounded
