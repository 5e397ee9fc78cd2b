use Rattle.std.proofs.Common.{Err, refl, ap, sym, ◌∙◌}
use Rattle.ntx_nodes.proofs.Fills.{like_made, like_refuses_nothing, like_stale}
use Rattle.ntx_nodes.proofs.writing.make_like.Goals as goal

pub unreachable-requires : goal.unreachable-requires
unreachable-requires g c =
    like_refuses_nothing (g.N.Nodes.heap c.args.nodes.now) (g.N.Nodes.heap c.make_filled.new.nodes) (g.N.Nodes.heap c.same_attrs.new.self) c.in_ok-n.n c.args.from c.args.fields c.in-Ok.field-0 c.same_attrs.result _ c.lawful.ensures.lawful (sym c.fields.ensures ∙ c.in-Ok.is) c.in_ok-n.ensures.step
    (c.in-Err-Is.is ∙ ap Err c.in-Err-Is.field-0-is) c.same_attrs.ensures.step

pub returns-in-Ok-same_attrs-clause-step : goal.returns-in-Ok-same_attrs-clause-step
returns-in-Ok-same_attrs-clause-step g c =
    like_made (g.N.Nodes.heap c.args.nodes.now) (g.N.Nodes.heap c.make_filled.new.nodes) (g.N.Nodes.heap c.same_attrs.new.self) c.in_ok-n.n c.args.from c.args.fields c.in-Ok.field-0 c.lawful.ensures.lawful (sym c.fields.ensures ∙ c.in-Ok.is) c.in_ok-n.ensures.step c.in-Ok-same_attrs.ensures.step

pub returns-in-Err-clause-step : goal.returns-in-Err-clause-step
returns-in-Err-clause-step g c = (like_stale (g.N.Nodes.heap c.args.nodes.now) c.args.from c.args.fields c.in-Err.why (sym c.fields.ensures ∙ c.in-Err.is), refl)
