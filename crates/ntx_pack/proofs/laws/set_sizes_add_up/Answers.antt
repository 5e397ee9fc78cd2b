-- proofs/laws/set_sizes_add_up/Answers.antt
use Rattle.ntx_pack.proofs.GlueLemmas.{set_sizes_add_up_lem}
use Rattle.ntx_pack.proofs.laws.set_sizes_add_up.Goals as goal

pub returns : goal.returns
returns c = set_sizes_add_up_lem
