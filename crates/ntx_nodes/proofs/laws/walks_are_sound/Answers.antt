use Rattle.ntx_nodes.proofs.SoundWalks.{sound_walk}
use Rattle.ntx_nodes.proofs.laws.walks_are_sound.Goals as goal

pub returns : goal.returns
returns c = sound_walk
