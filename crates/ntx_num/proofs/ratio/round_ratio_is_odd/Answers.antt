use Rattle.ntx_num.proofs.RatioLemmas.{round_ratio_is_odd_lem}
use Rattle.ntx_num.proofs.ratio.round_ratio_is_odd.Goals as goal

pub returns : goal.returns
returns c = round_ratio_is_odd_lem
