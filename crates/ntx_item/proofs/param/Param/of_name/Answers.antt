-- proofs/param/Param/of_name/Answers.antt
-- What is found is what has the name.
use Rattle.ntx_item.proofs.NameLemmas.{named_exactly}
use Rattle.ntx_item.proofs.param.Param.of_name.Goals as goal

pub returns-clause-each : goal.returns-clause-each
returns-clause-each c = named_exactly _ _ c.first_named.ensures
