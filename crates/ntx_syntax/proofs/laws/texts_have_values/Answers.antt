use Rattle.ntx_syntax.proofs.TokenLemmas.{texts_have_values}
use Rattle.ntx_syntax.proofs.laws.texts_have_values.Goals as goal

pub returns : goal.returns
returns c = texts_have_values
