use Rattle.ntx_syntax.proofs.LawLemmas.{lexes_as_computed}
use Rattle.ntx_syntax.proofs.laws.lexes_as_computed.Goals as goal

pub returns : goal.returns
returns c = lexes_as_computed
