-- The pieces of a page can be drawn.
use Rattle.ntx_ship.proofs.Adds.{from_none}
use Rattle.ntx_ship.proofs.Drawables.{list_drawable}
use Rattle.ntx_ship.proofs.page.page_pieces.Goals as goal

pub returns-clause-drawable : goal.returns-clause-drawable
returns-clause-drawable g c =
    list_drawable (g.N.Nodes.heap c.args.nodes.now) c.args.fonts.now c.args.inside c.args.here c.place_list.new.pieces.items c.lawful.ensures.lawful (from_none _ _ _ c.new-pieces.ensures.items c.in_ok-place_list.ensures.adds.done)
