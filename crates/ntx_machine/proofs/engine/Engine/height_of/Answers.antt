use Rattle.std.proofs.Common.{sym, subst, w64, arith}
use Rattle.std.proofs.lemmas.Int.{ints, to_z-of_z}
use Rattle.ntx_num.specs.Dimension.{IsDimension}
use Rattle.ntx_machine.proofs.Pages.{height_read}
use Rattle.ntx_machine.proofs.engine.Engine.height_of.Goals as goal

pub returns-in-Number-clause-dimension : goal.returns-in-Number-clause-dimension
returns-in-Number-clause-dimension g c =
    let height = c.in-Number.height in
    let is_dimension = height_read (g.N.Nodes.heap c.args.self.now.nodes) c.args.n height c.get.result c.in_ok-height.field-0 c.lawful.ensures.lawful c.get.ensures c.in_ok-height.was c.in-Number.is in
    subst IsDimension (sym (to_z-of_z w64 height (omega (arith, ints, is_dimension)))) is_dimension
