-- proofs/glue_param/GlueParam/of_name/Answers.antt
-- What is found is what has the name.
use Rattle.ntx_item.proofs.NameLemmas.{glue_named_exactly}
use Rattle.ntx_item.proofs.glue_param.GlueParam.of_name.Goals as goal

pub returns-clause-each : goal.returns-clause-each
returns-clause-each c = glue_named_exactly _ _ c.first_named.ensures
