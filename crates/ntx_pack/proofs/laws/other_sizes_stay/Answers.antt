-- proofs/laws/other_sizes_stay/Answers.antt
use Rattle.ntx_pack.proofs.OutputLemmas.{unset_sizes, other_sizes}
use Rattle.ntx_pack.proofs.laws.other_sizes_stay.Goals as goal

pub returns : goal.returns
returns c = record { unset = unset_sizes; others = other_sizes }
