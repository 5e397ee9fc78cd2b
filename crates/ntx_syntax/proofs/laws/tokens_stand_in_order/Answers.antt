use Rattle.ntx_syntax.proofs.LawLemmas.{tokens_stand_in_order}
use Rattle.ntx_syntax.proofs.laws.tokens_stand_in_order.Goals as goal

pub returns : goal.returns
returns c = tokens_stand_in_order
