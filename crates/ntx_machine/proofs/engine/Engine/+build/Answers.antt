-- Lists are built command by command, and boxes from their lists.
use Rattle.std.proofs.Common.{◌∙◌, sym, ap, subst, Option, Ok, Err, None, map, FitsSigned, w64, rules}
use Rattle.std.proofs.lemmas.Int.{to_z-of_z}
use Rattle.std.proofs.lemmas.Result.{err_from_is_err_and}
use Rattle.ntx_num.specs.Trace.{EndsAs}
use Rattle.ntx_num.proofs.Traces.{ends_later}
use Rattle.ntx_doc.specs.declared.command.Command.{Command}
use Rattle.ntx_doc.specs.declared.command.Command.TheVariants as kind
use Rattle.ntx_doc.specs.declared.command.Command.TheViews.{the_lemmas}
use Rattle.ntx_doc.proofs.Folds.{fold_set, fold_set_glue, fold_hbox}
use Rattle.ntx_machine.specs.declared.ends.Ends.{Ends}
use Rattle.ntx_machine.specs.Build.{set_value, set_glue, linked, head_of, kept, grown_by_all, packed, grown_by_box, growth_layer, growth, box_built}
use Rattle.ntx_machine.specs.Machine.{fails}
use Rattle.ntx_machine.specs.Seen.{state_of}
use Rattle.ntx_machine.proofs.Building.{kept_ends, box_not_built, box_not_added, list_goes_on, list_stops, list_ends, as_grown, numbers_inside}
use Rattle.ntx_machine.proofs.engine.Engine.+build.Goals as goal

pub build_box-returns-in_err-list-clause-ends : goal.build_box-returns-in_err-list-clause-ends
build_box-returns-in_err-list-clause-ends g t c =
    let h = g.N.Nodes.heap in
    let p = err_from_is_err_and c.from_residual.result c.from_residual.ensures.1 in
    rw (p.1, p.2) (box_not_built c.args.fonts.now c.args.to c.args.body.now (state_of h c.args.self.now) (state_of h c.build_list.new.self) c.in_err-list.field-0.0 c.in_err-list.ensures.ends)

pub build_box-returns-clause-ends : goal.build_box-returns-clause-ends
build_box-returns-clause-ends g t c =
    let h = g.N.Nodes.heap in
    let fonts = c.args.fonts.now in
    ends_later (grown_by_all (map (growth fonts) c.args.body.now) None (state_of h c.args.self.now)) c.in_ok-list.list (state_of h c.build_list.new.self) (state_of h c.pack.new.self)
    (λ list s. packed fonts c.args.to (head_of list) s) (fails c.pack.result) c.in_ok-list.ensures.ends (rw c.head_of.ensures at c.pack.ensures.ends)

pub grow-build_box-requires : goal.grow-build_box-requires
grow-build_box-requires g t c κs within =
    (search (rules, the_lemmas), (within, numbers_inside c.args.command.now c.in-HBox.to c.as_slice.result.now (c.in-HBox.is ∙ ap (kind.HBox c.in-HBox.to) (sym c.as_slice.ensures)) c.requires))

pub grow-returns-in_err-n-in-HBox-clause-ends : goal.grow-returns-in_err-n-in-HBox-clause-ends
grow-returns-in_err-n-in-HBox-clause-ends g t c =
    let h = g.N.Nodes.heap in
    let fonts = c.args.fonts.now in
    let body = c.as_slice.result.now in
    let is = c.in-HBox.is ∙ ap (kind.HBox c.in-HBox.to) (sym c.as_slice.ensures) in
    let p = err_from_is_err_and c.from_residual.result c.from_residual.ensures.1 in
    rw (p.1, p.2) (as_grown fonts c.args.command.now (grown_by_box fonts c.in-HBox.to (map (growth fonts) body)) c.args.list (fails (Err c.in_err-n-in-HBox.field-0.0)) (state_of h c.args.self.now) (state_of h c.build_box.new.self)
    (ap (growth fonts) is ∙ fold_hbox (growth_layer fonts) c.in-HBox.to body)
    (box_not_added fonts c.in-HBox.to body c.args.list (state_of h c.args.self.now) (state_of h c.build_box.new.self) c.in_err-n-in-HBox.field-0.0 c.in_err-n-in-HBox.ensures.ends))

pub grow-returns-in-Set-clause-ends : goal.grow-returns-in-Set-clause-ends
grow-returns-in-Set-clause-ends g t c =
    let h = g.N.Nodes.heap in
    let fonts = c.args.fonts.now in
    let step = set_value c.in-Set.p c.in-Set.v in
    let value_fits : FitsSigned w64 c.in-Set.v = search rules in
    let sets = simp to_z-of_z at c.set_value.ensures.ends in
    as_grown fonts c.args.command.now (kept step) c.args.list (fails c.and.result) (state_of h c.args.self.now) (state_of h c.set_value.new.self)
    (ap (growth fonts) c.in-Set.is ∙ fold_set (growth_layer fonts) c.in-Set.p c.in-Set.v)
    (kept_ends step c.args.list c.set_value.result c.and.result (state_of h c.args.self.now) (state_of h c.set_value.new.self) c.and.ensures sets)

pub grow-returns-in-SetGlue-clause-ends : goal.grow-returns-in-SetGlue-clause-ends
grow-returns-in-SetGlue-clause-ends g t c =
    let h = g.N.Nodes.heap in
    let fonts = c.args.fonts.now in
    let step = set_glue c.in-SetGlue.g c.in-SetGlue.spec in
    as_grown fonts c.args.command.now (kept step) c.args.list (fails c.and-in-SetGlue.result) (state_of h c.args.self.now) (state_of h c.set_glue.new.self)
    (ap (growth fonts) c.in-SetGlue.is ∙ fold_set_glue (growth_layer fonts) c.in-SetGlue.g c.in-SetGlue.spec)
    (kept_ends step c.args.list c.set_glue.result c.and-in-SetGlue.result (state_of h c.args.self.now) (state_of h c.set_glue.new.self) c.and-in-SetGlue.ensures c.set_glue.ensures.ends)

pub grow-returns-in_ok-n-in-HBox-clause-ends : goal.grow-returns-in_ok-n-in-HBox-clause-ends
grow-returns-in_ok-n-in-HBox-clause-ends g t c =
    let h = g.N.Nodes.heap in
    let fonts = c.args.fonts.now in
    let body = c.as_slice.result.now in
    let is = c.in-HBox.is ∙ ap (kind.HBox c.in-HBox.to) (sym c.as_slice.ensures) in
    as_grown fonts c.args.command.now (grown_by_box fonts c.in-HBox.to (map (growth fonts) body)) c.args.list (fails c.link.result) (state_of h c.args.self.now) (state_of h c.link.new.self)
    (ap (growth fonts) is ∙ fold_hbox (growth_layer fonts) c.in-HBox.to body)
    (ends_later (box_built fonts c.in-HBox.to body (state_of h c.args.self.now)) c.in_ok-n-in-HBox.n (state_of h c.build_box.new.self) (state_of h c.link.new.self) (λ box s. linked c.args.list box s) (fails c.link.result)
    c.in_ok-n-in-HBox.ensures.ends c.link.ensures.ends)

pub build_list-returns-in_err-list-clause-ends : goal.build_list-returns-in_err-list-clause-ends
build_list-returns-in_err-list-clause-ends g t c =
    let h = g.N.Nodes.heap in
    let fonts = c.args.fonts.now in
    let now = state_of h c.loop-command.self in
    let new = state_of h c.grow.new.self in
    let p = err_from_is_err_and c.from_residual.result c.from_residual.ensures.1 in
    let stops = subst (λ (x : Command). EndsAs (fails {A = Option Ends} (Err c.in_err-list.field-0.0)) new (growth fonts x c.loop-command.list now)) c.command-item.is c.in_err-list.ensures.ends in
    rw (p.1, p.2) (list_stops fonts c.args.body.now (state_of h c.args.self.now) now c.loop-command.list c.loop-command.command-index c.command-item.result c.loop-command-test.true c.loop-command.invariant.goes new c.in_err-list.field-0.0 stops)

pub build_list-loop-command-preserved : goal.build_list-loop-command-preserved
build_list-loop-command-preserved g t c =
    let h = g.N.Nodes.heap in
    let fonts = c.args.fonts.now in
    let now = state_of h c.loop-command.self in
    let new = state_of h c.grow.new.self in
    let grows = subst (λ (x : Command). EndsAs (Ok c.in_ok-list.list) new (growth fonts x c.loop-command.list now)) c.command-item.is c.in_ok-list.ensures.ends in
    record {
      goes = list_goes_on fonts c.args.body.now (state_of h c.args.self.now) now c.loop-command.list c.loop-command.command-index c.command-item.result c.loop-command-test.true c.loop-command.invariant.goes c.in_ok-list.list new grows;
      writer = c.grow.ensures.writer ∙ c.loop-command.invariant.writer;
    }

pub build_list-returns-clause-ends : goal.build_list-returns-clause-ends
build_list-returns-clause-ends g t c =
    let h = g.N.Nodes.heap in
    list_ends c.args.fonts.now c.args.body.now (state_of h c.args.self.now) (state_of h c.loop-command.self) c.loop-command.list c.loop-command.command-index c.loop-command-test.false c.loop-command.invariant.goes
