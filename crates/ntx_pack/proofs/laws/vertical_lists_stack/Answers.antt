-- proofs/laws/vertical_lists_stack/Answers.antt
use Rattle.ntx_pack.proofs.StackLemmas.{vlist_size-push}
use Rattle.ntx_pack.proofs.laws.vertical_lists_stack.Goals as goal

pub returns : goal.returns
returns c = vlist_size-push
