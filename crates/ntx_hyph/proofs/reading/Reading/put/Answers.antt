use Rattle.std.proofs.Common.{sym, subst}
use Rattle.ntx_hyph.specs.inner.Reading.{AreOfOneFont, IsReadyFor}
use Rattle.ntx_hyph.proofs.Words.{put_font, no_letter_put}
use Rattle.ntx_hyph.proofs.reading.Reading.put.Goals as goal

pub returns-in_ok-push-clause-one_font : goal.returns-in_ok-push-clause-one_font
returns-in_ok-push-clause-one_font c =
    let word = c.args.self.now.word.items in
    subst AreOfOneFont (sym c.in_ok-push.ensures.items) (put_font word c.in-Some.letter c.requires.one_font (subst (IsReadyFor word) c.in-Some.is c.requires.ready))

pub returns-in_default-clause-gaps : goal.returns-in_default-clause-gaps
returns-in_default-clause-gaps c = λ rest points. no_letter_put points c.args.self.now.gaps.items c.args.self.now.word.items c.args.next rest c.in_default.not-Some c.requires.ready
