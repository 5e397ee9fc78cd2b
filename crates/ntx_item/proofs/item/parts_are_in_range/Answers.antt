-- proofs/item/parts_are_in_range/Answers.antt
use Rattle.ntx_item.proofs.ItemsLemmas.{parts_are_in_range}
use Rattle.ntx_item.proofs.item.parts_are_in_range.Goals as goal

pub returns : goal.returns
returns c = parts_are_in_range
