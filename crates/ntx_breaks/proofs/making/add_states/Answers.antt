use Rattle.std.proofs.Common.{◌≤◌, ◌^◌, subst, sym}
use Rattle.std.specs.Prelude.{IfSome}
use Rattle.std.specs.Int.RustNames.{unsigned_abs}
use Rattle.ntx_breaks.specs.declared.state.State.{State}
use Rattle.ntx_breaks.proofs.MakingLemmas.{least_is}
use Rattle.ntx_breaks.proofs.making.add_states.Goals as goal

pub most_total-most-requires : goal.most_total-most-requires
most_total-most-requires c =
    subst (λ o. IfSome o (λ (s : State). unsigned_abs s.total ≤ 2 ^ 60)) (sym c.in-Some.ensures) (least_is (λ (s : State). unsigned_abs s.total ≤ 2 ^ 60) c.args.candidates.now c.requires)
