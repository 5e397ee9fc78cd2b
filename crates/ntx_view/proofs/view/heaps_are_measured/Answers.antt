-- proofs/view/heaps_are_measured/Answers.antt
use Rattle.ntx_view.proofs.Measures.{heaps_are_measured_lem}
use Rattle.ntx_view.proofs.view.heaps_are_measured.Goals as goal

pub returns : goal.returns
returns c = heaps_are_measured_lem
