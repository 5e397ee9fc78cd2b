use Rattle.ntx_num.proofs.BadnessLemmas.{badness_grows_lem}
use Rattle.ntx_num.proofs.shortfall.badness_grows.Goals as goal

pub returns : goal.returns
returns c = badness_grows_lem
