use Rattle.ntx_syntax.proofs.TokenLemmas.{symbols_are_listed}
use Rattle.ntx_syntax.proofs.laws.symbols_are_listed.Goals as goal

pub returns : goal.returns
returns c = symbols_are_listed
