use Rattle.ntx_syntax.proofs.LawLemmas.{is_refused_as_computed}
use Rattle.ntx_syntax.proofs.laws.is_refused_as_computed.Goals as goal

pub returns : goal.returns
returns c = is_refused_as_computed
