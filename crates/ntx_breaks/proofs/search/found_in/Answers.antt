use Rattle.std.proofs.Common.{sym, subst}
use Rattle.ntx_breaks.specs.inner.Search.{ArePlaces}
use Rattle.ntx_breaks.proofs.PlaceLemmas.{are_places}
use Rattle.ntx_breaks.proofs.search.found_in.Goals as goal

pub new-requires : goal.new-requires
new-requires c = subst (ArePlaces c.args.params.now c.args.items.now) (sym c.requires.places) (are_places c.args.params.now c.args.pass.discs c.args.items.now)

pub go_to-requires-clause-places : goal.go_to-requires-clause-places
go_to-requires-clause-places c = subst (ArePlaces c.args.params.now c.args.items.now) (sym c.requires.places) (are_places c.args.params.now c.args.pass.discs c.args.items.now)
