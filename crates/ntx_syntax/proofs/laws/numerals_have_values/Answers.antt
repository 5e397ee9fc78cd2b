use Rattle.ntx_syntax.proofs.TokenLemmas.{numerals_have_values}
use Rattle.ntx_syntax.proofs.laws.numerals_have_values.Goals as goal

pub returns : goal.returns
returns c = numerals_have_values
