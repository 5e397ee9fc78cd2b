use Rattle.ntx_syntax.proofs.TokenLemmas.{keywords_are_listed}
use Rattle.ntx_syntax.proofs.laws.keywords_are_listed.Goals as goal

pub returns : goal.returns
returns c = keywords_are_listed
