use Rattle.ntx_syntax.proofs.WordLemmas.{word_front}
use Rattle.ntx_syntax.proofs.word.word.Goals as goal

pub returns : goal.returns
returns c = word_front _ _ _ c.requires c.run-len.ensures.value c.word_sort.ensures
