use Rattle.std.proofs.Common.{Ok, Err, ap, subst}
use Rattle.std.proofs.lemmas.Result.{err_from_is_err_and}
use Rattle.ntx_num.specs.Trace.{EndsAs}
use Rattle.ntx_nodes.specs.FieldTable.{held}
use Rattle.ntx_nodes.specs.Fields.{kind_of}
use Rattle.ntx_nodes.specs.declared.field.Field.TheVariants.{Next, Pre}
use Rattle.ntx_nodes.specs.declared.fields.Fields.{Fields}
use Rattle.ntx_lists.specs.MadeNodes.{made_and_linked}
use Rattle.ntx_lists.proofs.MadeLinks.{takes_next, takes_as_made, live_later}
use Rattle.ntx_hyph.proofs.Hyphens.{disc_stops, hyphen_stops}
use Rattle.ntx_hyph.proofs.insertion.hyphenate_gap.Goals as goal

pub make_linked-requires-clause-linkable : goal.make_linked-requires-clause-linkable
make_linked-requires-clause-linkable g c = takes_next (g.N.Nodes.heap c.args.nodes.now) c.args.gap.before c.requires.before

pub make_linked-requires-2-clause-like : goal.make_linked-requires-2-clause-like
make_linked-requires-2-clause-like g c =
    let h = g.N.Nodes.heap in
    live_later (h c.args.nodes.now) (h c.make_linked.new.nodes) c.in_ok-disc.ensures.keep c.args.gap.before c.requires.before

pub make_linked-requires-2-clause-linkable : goal.make_linked-requires-2-clause-linkable
make_linked-requires-2-clause-linkable g c =
    takes_as_made (g.N.Nodes.heap c.make_linked.new.nodes) c.in_ok-disc.disc Pre c.disc_fields.result c.in_ok-disc.ensures.made (ap (λ (x : Fields). held (kind_of x.contents) Pre) c.disc_fields.ensures)

pub returns-clause-keep : goal.returns-clause-keep
returns-clause-keep g c = λ n f t. c.in_ok-make_linked.ensures.keep n f (c.in_ok-disc.ensures.keep n f t)

pub returns-in_err-disc-clause-traced : goal.returns-in_err-disc-clause-traced
returns-in_err-disc-clause-traced g c =
    let h = g.N.Nodes.heap in
    let p = err_from_is_err_and c.from_residual.result c.from_residual.ensures.1 in
    rw (p.1, p.2) (disc_stops c.args.char c.args.gap (h c.args.nodes.now) (h c.make_linked.new.nodes) c.in_err-disc.field-0.0
    (subst (λ (x : Fields). EndsAs (Err c.in_err-disc.field-0.0) (h c.make_linked.new.nodes) (made_and_linked x c.args.gap.before c.args.gap.before Next (h c.args.nodes.now))) c.disc_fields.ensures c.in_err-disc.ensures.traced))

pub returns-in_err-make_linked-clause-traced : goal.returns-in_err-make_linked-clause-traced
returns-in_err-make_linked-clause-traced g c =
    let h = g.N.Nodes.heap in
    let p = err_from_is_err_and c.from_residual-in_err-make_linked.result c.from_residual-in_err-make_linked.ensures.1 in
    rw (p.1, p.2) (hyphen_stops c.args.char c.args.gap (h c.args.nodes.now) (h c.make_linked.new.nodes) (h c.make_linked-2.new.nodes) c.in_ok-disc.disc c.in_err-make_linked.field-0.0
    (subst (λ (x : Fields). EndsAs (Ok c.in_ok-disc.disc) (h c.make_linked.new.nodes) (made_and_linked x c.args.gap.before c.args.gap.before Next (h c.args.nodes.now))) c.disc_fields.ensures c.in_ok-disc.ensures.traced)
    (subst (λ (x : Fields). EndsAs (Err c.in_err-make_linked.field-0.0) (h c.make_linked-2.new.nodes) (made_and_linked x c.args.gap.before c.in_ok-disc.disc Pre (h c.make_linked.new.nodes))) c.hyphen_fields.ensures c.in_err-make_linked.ensures.traced))
