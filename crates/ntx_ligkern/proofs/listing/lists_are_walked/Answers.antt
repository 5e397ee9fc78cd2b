use Rattle.ntx_ligkern.proofs.Walked.{along_is_the_walk}
use Rattle.ntx_ligkern.proofs.listing.lists_are_walked.Goals as goal

pub returns : goal.returns
returns c = along_is_the_walk
