use Rattle.ntx_pairs.proofs.PairLemmas.{is_pair}
use Rattle.ntx_pairs.proofs.program.pair.Goals as goal

pub returns-in-Some-clause-least : goal.returns-in-Some-clause-least
returns-in-Some-clause-least c = is_pair c.args.font.now c.args.left c.args.right c.in-Some.start c.pair_from.result c.in-Some.ensures.value c.pair_from.ensures.value
