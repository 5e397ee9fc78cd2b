-- A page that is refused writes nothing, and one that was placed can be freed.
use Rattle.std.proofs.Common.{Some, sym, ap, subst}
use Rattle.std.specs.Prelude.{is_ok, IsOk}
use Rattle.ntx_nodes.specs.Heap.{Heap}
use Rattle.ntx_nodes.specs.Walk.{plain_walk}
use Rattle.ntx_ship.specs.Placed.{placed}
use Rattle.ntx_ship.proofs.Freeing.{placed_freeable}
use Rattle.ntx_ship.proofs.Shipped.{refused_ships}
use Rattle.ntx_ship.proofs.shipout.ship.Goals as goal

pub returns-in-Err-clause-dvi : goal.returns-in-Err-clause-dvi
returns-in-Err-clause-dvi g c =
    rw c.refused.ensures (refused_ships c.in-Err.why c.args.dvi.now c.args.fonts.now (placed (g.N.Nodes.heap c.args.nodes.now) c.args.fonts.now c.args.page) c.in-Err.ensures.answer)

pub free_page-requires : goal.free_page-requires
free_page-requires g c =
    let heap = g.N.Nodes.heap c.args.nodes.now in
    let free = placed_freeable heap c.args.fonts.now c.args.page c.in-Ok.placed c.in-Ok.ensures.answer in
    subst (λ (h : Heap). IsOk (plain_walk h (Some c.args.page))) (sym c.in-Ok.ensures.same) (ap is_ok free.walk)
