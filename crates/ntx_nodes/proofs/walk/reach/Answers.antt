use Rattle.std.proofs.Common.{sym, ◌∙◌, ap}
use Rattle.ntx_nodes.specs.Walk.{admits}
use Rattle.ntx_nodes.specs.declared.inner.InnerLists.{InnerLists}
use Rattle.ntx_nodes.specs.declared.walk.Onward.{Onward}
use Rattle.ntx_nodes.proofs.Walks.{comes}
use Rattle.ntx_nodes.proofs.walk.reach.Goals as goal

pub returns-clause-reaches : goal.returns-clause-reaches
returns-clause-reaches g c =
    (comes (g.N.Nodes.heap c.args.nodes.now) c.args.way c.args.n c.args.depth c.args.k (g.N.Nodes.visited c.args.nodes.now) (g.N.Nodes.visited c.visit.new.self) c.args.names.now c.take.new.self c.in-Ok.fields _ c.in-Ok-true.field-0
    (sym c.fields.ensures ∙ c.in-Ok.is) c.in-Ok-true.ensures.step c.in-Ok-true.field-0-test (sym c.is_too_deep.ensures ∙ c.if-is_too_deep.false) (ap (admits c.args.way c.args.k) (sym c.kind.ensures) ∙ sym c.admits.ensures ∙ c.if-not-admits.false) c.in_ok-take.ensures.ok
    (ap {B = Onward} (λ (l : InnerLists). record { lists = l; next = c.in-Ok.fields.next }) c.entered.ensures)).0

pub returns-clause-fewer : goal.returns-clause-fewer
returns-clause-fewer g c =
    (comes (g.N.Nodes.heap c.args.nodes.now) c.args.way c.args.n c.args.depth c.args.k (g.N.Nodes.visited c.args.nodes.now) (g.N.Nodes.visited c.visit.new.self) c.args.names.now c.take.new.self c.in-Ok.fields _ c.in-Ok-true.field-0
    (sym c.fields.ensures ∙ c.in-Ok.is) c.in-Ok-true.ensures.step c.in-Ok-true.field-0-test (sym c.is_too_deep.ensures ∙ c.if-is_too_deep.false) (ap (admits c.args.way c.args.k) (sym c.kind.ensures) ∙ sym c.admits.ensures ∙ c.if-not-admits.false) c.in_ok-take.ensures.ok
    (ap {B = Onward} (λ (l : InnerLists). record { lists = l; next = c.in-Ok.fields.next }) c.entered.ensures)).1

pub returns-clause-keeps : goal.returns-clause-keeps
returns-clause-keeps g c =
    (comes (g.N.Nodes.heap c.args.nodes.now) c.args.way c.args.n c.args.depth c.args.k (g.N.Nodes.visited c.args.nodes.now) (g.N.Nodes.visited c.visit.new.self) c.args.names.now c.take.new.self c.in-Ok.fields _ c.in-Ok-true.field-0
    (sym c.fields.ensures ∙ c.in-Ok.is) c.in-Ok-true.ensures.step c.in-Ok-true.field-0-test (sym c.is_too_deep.ensures ∙ c.if-is_too_deep.false) (ap (admits c.args.way c.args.k) (sym c.kind.ensures) ∙ sym c.admits.ensures ∙ c.if-not-admits.false) c.in_ok-take.ensures.ok
    (ap {B = Onward} (λ (l : InnerLists). record { lists = l; next = c.in-Ok.fields.next }) c.entered.ensures)).2
