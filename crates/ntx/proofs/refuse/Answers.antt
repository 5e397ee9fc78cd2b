use Rattle.ntx.proofs.Feeds.{unfit, refused_with_none}
use Rattle.ntx.proofs.refuse.Goals as goal

pub returns-clause-refused : goal.returns-clause-refused
returns-clause-refused g c = λ err. (c.run.ensures.1.words_first (unfit _ _ _ err)).0

pub returns-clause-only : goal.returns-clause-only
returns-clause-only g c = λ ended. refused_with_none _ _ _ c.new.ensures.items (c.run.ensures.1.words_refused ended)
