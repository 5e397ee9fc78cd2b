use Rattle.ntx_syntax.proofs.LawLemmas.{lexes_once}
use Rattle.ntx_syntax.proofs.laws.lexes_once.Goals as goal

pub returns : goal.returns
returns c = lexes_once
