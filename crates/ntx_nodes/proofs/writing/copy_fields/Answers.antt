use Rattle.std.proofs.Common.{rules, ◌≡◌, List, [], drop, sym, subst}
use Rattle.std.proofs.lemmas.List.{drop_all}
use Rattle.ntx_nodes.specs.inner.Fills.{CopiesFields}
use Rattle.ntx_nodes.specs.declared.field.Field.{Field}
use Rattle.ntx_nodes.proofs.Fills.{copies_none, copies_on}
use Rattle.ntx_nodes.proofs.writing.copy_fields.Goals as goal

pub loop-f-preserved : goal.loop-f-preserved
loop-f-preserved g c = record {
  left = copies_on (g.N.Nodes.heap c.loop-f.nodes) (g.N.Nodes.heap c.copy_field.new.nodes) (g.N.Nodes.heap c.args.nodes.now) c.args.n c.args.from.now c.loop-f.f-index c.args.fields.now _ c.loop-f-test.true c.loop-f.invariant.left c.copy_field.ensures.copies;
  visits = search rules;
  keeps = search rules;
}

pub returns-clause-copies : goal.returns-clause-copies
returns-clause-copies g c =
    let none : drop c.loop-f.f-index c.args.fields.now ≡ [] = drop_all c.loop-f.f-index c.args.fields.now c.loop-f-test.false in
    c.loop-f.invariant.left (g.N.Nodes.heap c.loop-f.nodes) (subst (λ (x : List Field). CopiesFields (g.N.Nodes.heap c.loop-f.nodes) (g.N.Nodes.heap c.loop-f.nodes) c.args.n c.args.from.now x) (sym none) (copies_none (g.N.Nodes.heap c.loop-f.nodes) c.args.n c.args.from.now))
