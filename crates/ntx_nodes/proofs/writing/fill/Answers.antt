use Rattle.std.proofs.Common.{inl, inr, ap, ◌∙◌, subst}
use Rattle.ntx_nodes.specs.Fields.{settable_fields}
use Rattle.ntx_nodes.specs.inner.Fills.{CopiesFields}
use Rattle.ntx_nodes.proofs.Fills.{glue_ranges, filled_box, filled}
use Rattle.ntx_nodes.proofs.writing.fill.Goals as goal

pub copy_glue-requires-clause-sign : goal.copy_glue-requires-clause-sign
copy_glue-requires-clause-sign g c = (glue_ranges (g.N.Nodes.heap c.args.nodes.now) c.args.fields c.in-Hlist.b c.requires.makable (inl c.in-Hlist.is)).0

pub copy_glue-requires-clause-order : goal.copy_glue-requires-clause-order
copy_glue-requires-clause-order g c = (glue_ranges (g.N.Nodes.heap c.args.nodes.now) c.args.fields c.in-Hlist.b c.requires.makable (inl c.in-Hlist.is)).1

pub copy_glue-requires-clause-num : goal.copy_glue-requires-clause-num
copy_glue-requires-clause-num g c = (glue_ranges (g.N.Nodes.heap c.args.nodes.now) c.args.fields c.in-Hlist.b c.requires.makable (inl c.in-Hlist.is)).2

pub copy_glue-requires-clause-den : goal.copy_glue-requires-clause-den
copy_glue-requires-clause-den g c = (glue_ranges (g.N.Nodes.heap c.args.nodes.now) c.args.fields c.in-Hlist.b c.requires.makable (inl c.in-Hlist.is)).3

pub copy_glue-requires-in-Vlist-clause-sign : goal.copy_glue-requires-in-Vlist-clause-sign
copy_glue-requires-in-Vlist-clause-sign g c = (glue_ranges (g.N.Nodes.heap c.args.nodes.now) c.args.fields c.in-Vlist.b c.requires.makable (inr c.in-Vlist.is)).0

pub copy_glue-requires-in-Vlist-clause-order : goal.copy_glue-requires-in-Vlist-clause-order
copy_glue-requires-in-Vlist-clause-order g c = (glue_ranges (g.N.Nodes.heap c.args.nodes.now) c.args.fields c.in-Vlist.b c.requires.makable (inr c.in-Vlist.is)).1

pub copy_glue-requires-in-Vlist-clause-num : goal.copy_glue-requires-in-Vlist-clause-num
copy_glue-requires-in-Vlist-clause-num g c = (glue_ranges (g.N.Nodes.heap c.args.nodes.now) c.args.fields c.in-Vlist.b c.requires.makable (inr c.in-Vlist.is)).2

pub copy_glue-requires-in-Vlist-clause-den : goal.copy_glue-requires-in-Vlist-clause-den
copy_glue-requires-in-Vlist-clause-den g c = (glue_ranges (g.N.Nodes.heap c.args.nodes.now) c.args.fields c.in-Vlist.b c.requires.makable (inr c.in-Vlist.is)).3

pub returns-in-Hlist-clause-fills : goal.returns-in-Hlist-clause-fills
returns-in-Hlist-clause-fills g c =
    let copies = subst (CopiesFields (g.N.Nodes.heap c.args.nodes.now) (g.N.Nodes.heap c.copy_fields.new.nodes) c.args.n c.args.fields) (c.settable_fields.ensures ∙ ap settable_fields c.kind.ensures) c.copy_fields.ensures.copies in
    filled_box (g.N.Nodes.heap c.args.nodes.now) (g.N.Nodes.heap c.copy_fields.new.nodes) (g.N.Nodes.heap c.copy_glue.new.nodes) c.args.n c.args.fields c.in-Hlist.b c.requires.makable c.requires.fresh copies c.copy_glue.ensures.copies (inl c.in-Hlist.is)

pub returns-in-Vlist-clause-fills : goal.returns-in-Vlist-clause-fills
returns-in-Vlist-clause-fills g c =
    let copies = subst (CopiesFields (g.N.Nodes.heap c.args.nodes.now) (g.N.Nodes.heap c.copy_fields.new.nodes) c.args.n c.args.fields) (c.settable_fields.ensures ∙ ap settable_fields c.kind.ensures) c.copy_fields.ensures.copies in
    filled_box (g.N.Nodes.heap c.args.nodes.now) (g.N.Nodes.heap c.copy_fields.new.nodes) (g.N.Nodes.heap c.copy_glue-in-Vlist.new.nodes) c.args.n c.args.fields c.in-Vlist.b c.requires.makable c.requires.fresh copies c.copy_glue-in-Vlist.ensures.copies (inr c.in-Vlist.is)

pub returns-in_default-clause-fills : goal.returns-in_default-clause-fills
returns-in_default-clause-fills g c =
    let copies = subst (CopiesFields (g.N.Nodes.heap c.args.nodes.now) (g.N.Nodes.heap c.copy_fields.new.nodes) c.args.n c.args.fields) (c.settable_fields.ensures ∙ ap settable_fields c.kind.ensures) c.copy_fields.ensures.copies in
    filled (g.N.Nodes.heap c.args.nodes.now) (g.N.Nodes.heap c.copy_fields.new.nodes) c.args.n c.args.fields c.requires.makable c.requires.fresh copies c.in_default.not-Hlist c.in_default.not-Vlist
