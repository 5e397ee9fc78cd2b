use Rattle.std.proofs.Common.{inl, inr, refl}
use Rattle.ntx_io.proofs.Names.{stripped}
use Rattle.ntx_io.proofs.feed.without_tfm.Goals as goal

pub returns-in-None : goal.returns-in-None
returns-in-None c = inr (refl, c.in-None.ensures.cases)

pub returns-in-Some : goal.returns-in-Some
returns-in-Some c =
    let strips = c.in-Some.ensures.cases in inl (stripped _ _ _ strips.0 strips.1.1 strips.2)
