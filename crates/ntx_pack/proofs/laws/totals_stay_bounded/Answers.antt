-- proofs/laws/totals_stay_bounded/Answers.antt
use Rattle.ntx_pack.proofs.OutputLemmas.{running_in_range}
use Rattle.ntx_pack.proofs.laws.totals_stay_bounded.Goals as goal

pub returns : goal.returns
returns c = running_in_range
