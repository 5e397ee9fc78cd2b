use Rattle.std.proofs.Common.{[], ◌∷◌, Some, sym, ◌∙◌, ap}
use Rattle.ntx_hyph.specs.inner.Reading.{word_goes_on}
use Rattle.ntx_hyph.proofs.Words.{last_goes_on, no_letter}
use Rattle.ntx_hyph.proofs.reading.goes_on.Goals as goal

pub returns-in_default : goal.returns-in_default
returns-in_default c = no_letter c.args.word.now c.args.next c.in_default.not-Some

pub returns-in-Some-last : goal.returns-in-Some-last
returns-in-Some-last c =
    sym (ap (λ x. word_goes_on c.args.word.now (x ∷ [])) c.in-Some.is ∙ last_goes_on c.args.word.now c.in-Some-last.last.now (Some c.in-Some.next ∷ []) (sym c.in-Some-last.ensures.value))
