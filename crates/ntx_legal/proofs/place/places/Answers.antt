use Rattle.std.proofs.Common.{rules, ◌≡◌, length, ap, sym, ◌∙◌, subst}
use Rattle.std.specs.List.{filter, range_with_len}
use Rattle.ntx_legal.specs.Places.{is_legal}
use Rattle.ntx_legal.proofs.SumsLemmas.{past_end}
use Rattle.ntx_legal.proofs.PlaceLemmas.{place_taken, place_passed, end_taken}
use Rattle.ntx_legal.proofs.place.places.Goals as goal
use Rattle.ntx_legal.proofs.place.places.Goals.{then-may_break+in_ok-push, else-may_break}

pub loop-i-preserved : goal.loop-i-preserved
loop-i-preserved c =
    let params = c.args.params.now in let discs = c.args.discs in let items = c.args.items.now in let i = c.loop-i.i in
    elim c.if-may_break.branch [
      | then-may_break+in_ok-push w ↦
          ap (λ v. v.items) w.places-is ∙ w.in_ok-push.ensures.items
          ∙ place_taken params discs items i past_end c.loop-i.places.items c.loop-i-test.true c.loop-i.invariant (sym c.may_break.ensures ∙ w.if-may_break.true)
      | else-may_break w ↦
          ap (λ v. v.items) w.places-is
          ∙ place_passed params discs items i past_end c.loop-i.places.items c.loop-i-test.true c.loop-i.invariant (sym c.may_break.ensures ∙ w.if-may_break.false)
    ]

pub returns : goal.returns
returns c =
    let params = c.args.params.now in let discs = c.args.discs in let items = c.args.items.now in
    let whole : c.loop-i.i ≡ length items = search rules in
    c.in_ok-push-2.ensures.items
    ∙ end_taken params discs items c.loop-i.places.items (subst (λ n. c.loop-i.places.items ≡ filter (is_legal params discs items) (range_with_len 1 n)) whole c.loop-i.invariant)
