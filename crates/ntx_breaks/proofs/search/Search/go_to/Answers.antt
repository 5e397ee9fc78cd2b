use Rattle.std.proofs.Common.{map, subst, sym, ap, ◌∙◌}
use Rattle.std.specs.Prelude.{slice_index_or}
use Rattle.std.specs.List.{All}
use Rattle.ntx_breaks.specs.States.{way_to}
use Rattle.ntx_breaks.specs.inner.Bounds.{IsBefore}
use Rattle.ntx_breaks.proofs.SearchLemmas.{live_before, sound_more, on_three}
use Rattle.ntx_breaks.proofs.search.Search.go_to.Goals as goal

pub ways_to-requires-clause-before : goal.ways_to-requires-clause-before
ways_to-requires-clause-before c =
    subst (All (IsBefore (slice_index_or c.args.places.now c.args.n 0))) (sym (c.deref.ensures.value ∙ c.requires.sound.live))
    (live_before c.args.params.now c.args.items.now c.args.pass c.args.places.now c.args.n c.args.self.now.states.items c.requires.n c.requires.sound.before)

pub returns : goal.returns
returns c =
    on_three _ _ _ _ c.add.result
    (sound_more c.args.params.now c.args.items.now c.args.pass c.args.places.now c.args.n c.is_forced-forced.result c.args.self.now c.add.new.self c.deref-2.result.now
    c.requires.n c.requires.places c.is_forced-forced.ensures c.requires.sound
    (c.deref-2.ensures.value ∙ c.in_ok-ways.ensures.value ∙ ap (map (way_to c.args.params.now c.args.items.now c.args.pass (slice_index_or c.args.places.now c.args.n 0))) c.deref.ensures.value))
    c.add.ensures.seen c.add.ensures.made c.add.ensures.live
