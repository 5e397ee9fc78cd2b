use Rattle.ntx_syntax.proofs.LawLemmas.{cut_is_one}
use Rattle.ntx_syntax.proofs.laws.cut_is_one.Goals as goal

pub returns : goal.returns
returns c = cut_is_one
