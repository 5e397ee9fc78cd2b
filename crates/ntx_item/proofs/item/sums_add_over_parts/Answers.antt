-- proofs/item/sums_add_over_parts/Answers.antt
use Rattle.ntx_item.proofs.SumLemmas.{sums_add_over_parts}
use Rattle.ntx_item.proofs.item.sums_add_over_parts.Goals as goal

pub returns : goal.returns
returns c = sums_add_over_parts
