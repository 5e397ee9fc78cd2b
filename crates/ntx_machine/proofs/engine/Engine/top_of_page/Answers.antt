use Rattle.std.proofs.Common.{Ok, pos, ap, sym, ◌∙◌, subst, w64, rules, FitsSigned}
use Rattle.std.specs.Int.{int_max}
use Rattle.std.proofs.lemmas.Int.{to_z-of_z}
use Rattle.ntx_num.specs.Dimension.{IsDimension, is_dimension}
use Rattle.ntx_item.specs.declared.glue.GlueSpec.{GlueSpec}
use Rattle.ntx_item.specs.Parameters.{IsGlueInRange}
use Rattle.ntx_machine.specs.Seen.{state_of}
use Rattle.ntx_machine.proofs.Pages.{top_is, top_refused, difference_kept, glue_kept, with_width}
use Rattle.ntx_machine.proofs.engine.Engine.top_of_page.Goals as goal

pub returns-then-is_dimension-clause-glue : goal.returns-then-is_dimension-clause-glue
returns-then-is_dimension-clause-glue g c =
    let topskip = c.get_glue-topskip.result in
    let range = c.get_glue-topskip.ensures.in_range in
    let height = c.in_ok-height.height in
    let width = c.max-width.result in
    let fits : FitsSigned w64 c.max-width.result = search rules in
    let kept = to_z-of_z w64 width fits in
    let glue : GlueSpec = record topskip { width = width } in
    let in_range = with_width topskip width range (subst IsDimension kept (c.is_dimension.ensures.range.0 c.if-is_dimension.true)) in
    let is = c.max-width.ensures.value ∙ ap (λ x. int_max x (pos 0)) (difference_kept topskip.width height range.width c.in_ok-height.ensures.dimension) in
    ap Ok (glue_kept glue in_range)
    ∙ sym (top_is (state_of g.N.Nodes.heap c.args.self.now) c.args.first height width topskip c.in_ok-height.ensures.height c.get_glue-topskip.ensures.value is
    (ap is_dimension (sym kept) ∙ sym c.is_dimension.ensures.value ∙ c.if-is_dimension.true))

pub returns-then-is_dimension-clause-in_range : goal.returns-then-is_dimension-clause-in_range
returns-then-is_dimension-clause-in_range g c =
    let topskip = c.get_glue-topskip.result in
    let width = c.max-width.result in
    let fits : FitsSigned w64 c.max-width.result = search rules in
    let glue : GlueSpec = record topskip { width = width } in
    let in_range = with_width topskip width c.get_glue-topskip.ensures.in_range (subst IsDimension (to_z-of_z w64 width fits) (c.is_dimension.ensures.range.0 c.if-is_dimension.true)) in
    subst IsGlueInRange (sym (glue_kept glue in_range)) in_range

pub returns-else-is_dimension-clause-glue : goal.returns-else-is_dimension-clause-glue
returns-else-is_dimension-clause-glue g c =
    let topskip = c.get_glue-topskip.result in
    let height = c.in_ok-height.height in
    let width = c.max-width.result in
    let fits : FitsSigned w64 c.max-width.result = search rules in
    let is = c.max-width.ensures.value ∙ ap (λ x. int_max x (pos 0)) (difference_kept topskip.width height c.get_glue-topskip.ensures.in_range.width c.in_ok-height.ensures.dimension) in
    sym (top_refused (state_of g.N.Nodes.heap c.args.self.now) c.args.first height width topskip c.in_ok-height.ensures.height c.get_glue-topskip.ensures.value is
    (ap is_dimension (sym (to_z-of_z w64 width fits)) ∙ sym c.is_dimension.ensures.value ∙ c.if-is_dimension.false))
