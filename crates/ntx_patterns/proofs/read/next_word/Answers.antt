use Rattle.ntx_patterns.proofs.WordsLemmas.{words_none, next_word_last, next_word_first}
use Rattle.ntx_patterns.proofs.read.next_word.Goals as goal

pub returns-in_err-start-clause-words : goal.returns-in_err-start-clause-words
returns-in_err-start-clause-words c = rw c.from_residual.ensures (words_none c.args.text.now c.in_err-start.ensures)

pub returns-in-None-clause-words : goal.returns-in-None-clause-words
returns-in-None-clause-words c = next_word_last c.args.text.now c.in_ok-start.start c.in_ok-start.ensures c.in-None.ensures

pub returns-in-Some-clause-words : goal.returns-in-Some-clause-words
returns-in-Some-clause-words c = next_word_first c.args.text.now c.in_ok-start.start c.in-Some.end c.in_ok-start.ensures c.in-Some.ensures
