use Rattle.std.proofs.Common.{[], ◌∷◌, sym, ◌∙◌, ap}
use Rattle.ntx_patterns.specs.Kept.{table}
use Rattle.ntx_patterns.specs.Points.{points_in}
use Rattle.ntx_hyph.specs.Hyphenation.{points_with}
use Rattle.ntx_hyph.specs.inner.Reading.{word_goes_on}
use Rattle.ntx_hyph.proofs.Words.{room_made}
use Rattle.ntx_hyph.proofs.reading.Reading.make_room.Goals as goal

pub returns-clause-gaps : goal.returns-clause-gaps
returns-clause-gaps c =
    let old = c.args.self.now in
    let stops = ap (λ w. word_goes_on w (c.args.next ∷ [])) (sym c.deref.ensures.value) ∙ sym c.goes_on.ensures ∙ c.if-goes_on.false in
    λ rest. room_made (points_with (points_in (table c.args.p.now)) c.args.params.now) old.gaps.items c.end_word.new.self.gaps.items old.word.items c.end_word.new.self.word.items c.args.next rest c.requires stops c.in_ok-end_word.ensures.word c.in_ok-end_word.ensures.gaps
