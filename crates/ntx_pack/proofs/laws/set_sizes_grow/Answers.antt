-- proofs/laws/set_sizes_grow/Answers.antt
use Rattle.ntx_pack.proofs.OutputLemmas.{set_sizes-push}
use Rattle.ntx_pack.proofs.laws.set_sizes_grow.Goals as goal

pub returns : goal.returns
returns c = set_sizes-push
