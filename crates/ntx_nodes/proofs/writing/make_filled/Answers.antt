use Rattle.std.proofs.Common.{refl, subst, sym, ap}
use Rattle.ntx_nodes.specs.Fields.{kind_of, last_subtype}
use Rattle.ntx_nodes.specs.Steps.{make_step, new_node}
use Rattle.ntx_nodes.specs.declared.field.Field.TheVariants.{Subtype}
use Rattle.ntx_nodes.specs.declared.kind.Kind.{Kind}
use Rattle.std.proofs.Common.{◌≡◌, ◌≤◌, ◌∙◌, pos, Ok}
use Rattle.ntx_nodes.proofs.Ranges.{subtype_fits}
use Rattle.ntx_nodes.proofs.Fills.{made, makable_on, filled_made}
use Rattle.ntx_nodes.proofs.writing.make_filled.Goals as goal

pub make-requires : goal.make-requires
make-requires g c = subst (λ (k : Kind). c.args.fields.subtype ≤ last_subtype k) (sym c.kind.ensures) (subtype_fits c.args.fields.contents c.args.fields.subtype (c.requires.numbers Subtype (pos c.args.fields.subtype) refl))

pub fill-requires-clause-makable : goal.fill-requires-clause-makable
fill-requires-clause-makable g c = makable_on (g.N.Nodes.heap c.args.nodes.now) (g.N.Nodes.heap c.make.new.self) _ c.in_ok-n.n c.args.fields c.in_ok-n.ensures.step c.requires

pub fill-requires-clause-fresh : goal.fill-requires-clause-fresh
fill-requires-clause-fresh g c =
    let step = subst (λ (k : Kind). make_step k c.args.fields.subtype (g.N.Nodes.heap c.args.nodes.now) ≡ Ok (c.in_ok-n.n, g.N.Nodes.heap c.make.new.self)) c.kind.ensures c.in_ok-n.ensures.step in
    (made (g.N.Nodes.heap c.args.nodes.now) (g.N.Nodes.heap c.make.new.self) (new_node (kind_of c.args.fields.contents) c.args.fields.subtype) c.in_ok-n.n step).at

pub returns-clause-step : goal.returns-clause-step
returns-clause-step g c =
    let step = subst (λ (k : Kind). make_step k c.args.fields.subtype (g.N.Nodes.heap c.args.nodes.now) ≡ Ok (c.in_ok-n.n, g.N.Nodes.heap c.make.new.self)) c.kind.ensures c.in_ok-n.ensures.step in
    filled_made (g.N.Nodes.heap c.args.nodes.now) (g.N.Nodes.heap c.make.new.self) (g.N.Nodes.heap c.fill.new.nodes) c.in_ok-n.n c.args.fields step c.fill.ensures.fills
