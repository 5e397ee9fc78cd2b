-- The walk of the page does not refuse.
use Rattle.ntx_ship.proofs.Shipped.{freed}
use Rattle.ntx_ship.proofs.shipout.free_page.Goals as goal

pub returns-in-Err : goal.returns-in-Err
returns-in-Err g c = freed c.flush_list.result (g.N.Nodes.heap c.args.nodes.now) (g.N.Nodes.heap c.flush_list.new.nodes) c.args.page c.requires c.flush_list.ensures.step
