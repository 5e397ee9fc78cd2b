-- proofs/laws/boxes_are_sized/Answers.antt
use Rattle.ntx_pack.proofs.PackedLemmas.{decided}
use Rattle.ntx_pack.proofs.laws.boxes_are_sized.Goals as goal

pub returns : goal.returns
returns c = λ direction to items box e. (decided direction to items box e).size
