use Rattle.std.proofs.Common.{◌≡◌, ◌+◌, length, ap, ◌∙◌, subst, sym, length-append, rules, arith}
use Rattle.std.specs.List.{All}
use Rattle.ntx_breaks.specs.Making.{add_states}
use Rattle.ntx_breaks.specs.inner.Bounds.{IsMade}
use Rattle.ntx_breaks.specs.inner.Search.{Extends}
use Rattle.ntx_breaks.proofs.MakingLemmas.{added_is, made_free}
use Rattle.ntx_breaks.proofs.search.Search.add.Goals as goal

pub live_after-requires : goal.live_after-requires
live_after-requires c =
    let e : c.add_states.new.states.items ≡ add_states c.args.params.now c.deref.result.now c.args.self.now.states.items = c.in_ok-add_states.ensures {u = tt} in
    let all : All (IsMade c.args.to) c.deref.result.now = subst (All (IsMade c.args.to)) (sym c.deref.ensures.value) c.in_ok-candidates.ensures.made in
    let ext = added_is (IsMade c.args.to) (made_free c.args.to) c.args.params.now c.deref.result.now c.args.self.now.states.items all in
    let count : c.len-count.result ≡ length c.args.self.now.states.items = search rules in
    let size : length c.deref-2.result.now ≡ length c.args.self.now.states.items + length ext.made =
    ap length (c.deref-2.ensures.value ∙ e ∙ ext.is) ∙ length-append c.args.self.now.states.items ext.made in
    omega (arith, count, size)

pub returns-clause-made : goal.returns-clause-made
returns-clause-made c =
    let e : c.add_states.new.states.items ≡ add_states c.args.params.now c.deref.result.now c.args.self.now.states.items = c.in_ok-add_states.ensures {u = tt} in
    let all : All (IsMade c.args.to) c.deref.result.now = subst (All (IsMade c.args.to)) (sym c.deref.ensures.value) c.in_ok-candidates.ensures.made in
    subst (Extends (IsMade c.args.to) c.args.self.now.states.items) (sym e)
    (added_is (IsMade c.args.to) (made_free c.args.to) c.args.params.now c.deref.result.now c.args.self.now.states.items all)
