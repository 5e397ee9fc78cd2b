-- A font that is not there has no character.
use Rattle.std.proofs.Common.{◌≡◌, rules}
use Rattle.ntx_ship.proofs.Drawing.{no_glyph}
use Rattle.ntx_ship.proofs.write.set_glyph.Goals as goal

pub returns-in-None-clause-writes : goal.returns-in-None-clause-writes
returns-in-None-clause-writes c =
    let at : c.from.result ≡ c.args.m.font = search rules in
    no_glyph tt c.args.dvi.now c.args.m c.args.fonts.now c.from.result at c.in-None.ensures.lookup.3
