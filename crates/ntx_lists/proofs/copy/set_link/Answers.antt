use Rattle.ntx_nodes.specs.declared.field.FieldValue.TheVariants.{Link}
use Rattle.ntx_lists.proofs.Relinks.{link_set, names_stay}
use Rattle.ntx_lists.proofs.copy.set_link.Goals as goal

pub returns : goal.returns
returns g c = record {
  sets = link_set (g.N.Nodes.heap c.args.nodes.now) (g.N.Nodes.heap c.set-done.new.self) c.args.n c.args.f c.args.to c.set-done.result c.set-done.ensures.step;
  names = names_stay (g.N.Nodes.heap c.args.nodes.now) (g.N.Nodes.heap c.set-done.new.self) c.args.n c.args.f (Link c.args.to) c.set-done.result c.set-done.ensures.step;
}
