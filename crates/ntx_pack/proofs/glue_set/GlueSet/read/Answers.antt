-- proofs/glue_set/GlueSet/read/Answers.antt
use Rattle.ntx_pack.proofs.CodeNumbers.{answer_settable, ratio_in, sign_in, order_in}
use Rattle.ntx_pack.proofs.glue_set.GlueSet.read.Goals as goal

pub returns-clause-ratio : goal.returns-clause-ratio
returns-clause-ratio g c = ratio_in c.found.result (answer_settable (g.N.Nodes.heap c.args.nodes.now) c.args.n c.found.result c.lawful.ensures.lawful c.found.ensures)

pub returns-clause-sign : goal.returns-clause-sign
returns-clause-sign g c = sign_in c.found.result (answer_settable (g.N.Nodes.heap c.args.nodes.now) c.args.n c.found.result c.lawful.ensures.lawful c.found.ensures)

pub returns-clause-order : goal.returns-clause-order
returns-clause-order g c = order_in c.found.result (answer_settable (g.N.Nodes.heap c.args.nodes.now) c.args.n c.found.result c.lawful.ensures.lawful c.found.ensures)
