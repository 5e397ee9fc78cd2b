-- proofs/laws/boxes_are_filled/Answers.antt
use Rattle.ntx_pack.proofs.PackedLemmas.{widths_filled, heights_filled}
use Rattle.ntx_pack.proofs.laws.boxes_are_filled.Goals as goal

pub returns : goal.returns
returns c = record { widths = widths_filled; heights = heights_filled }
