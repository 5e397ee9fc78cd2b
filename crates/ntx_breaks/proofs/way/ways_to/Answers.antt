use Rattle.std.proofs.Common.{[], ◌∷◌, ◌++◌, subst, sym, ◌∙◌}
use Rattle.std.specs.List.{All}
use Rattle.std.proofs.lemmas.List.{map_more}
use Rattle.std.proofs.lemmas.List.Elements.{All-push}
use Rattle.ntx_breaks.specs.States.{way_to}
use Rattle.ntx_breaks.specs.inner.Bounds.{IsWay}
use Rattle.ntx_breaks.proofs.way.ways_to.Goals as goal

pub loop-from-preserved : goal.loop-from-preserved
loop-from-preserved c = (
  c.in_ok-push.ensures.items ∙ (λ j. c.loop-from.invariant.0 j ++ c.way_to.ensures.value j ∷ [])
      ∙ sym (map_more (way_to c.args.params.now c.args.items.now c.args.pass c.args.to) c.args.live.now c.loop-from.from-index _ c.loop-from-test.true),
  subst (All (IsWay c.args.to)) (sym c.in_ok-push.ensures.items) (All-push (IsWay c.args.to) c.loop-from.ways.items c.way_to.result c.loop-from.invariant.1 c.way_to.ensures.way),
)
