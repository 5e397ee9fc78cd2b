use Rattle.std.proofs.Common.{sym, ◌∙◌, ap}
use Rattle.ntx_syntax.specs.Bytes.{spoils_numeral}
use Rattle.ntx_syntax.proofs.NumeralLemmas.{numeral_spoiled, numeral_right, numeral_large}
use Rattle.ntx_syntax.proofs.numeral.numeral.Goals as goal

pub returns-then-spoils_numeral : goal.returns-then-spoils_numeral
returns-then-spoils_numeral c = numeral_spoiled c.form_len-len.ensures.end (ap spoils_numeral (sym c.byte.ensures.value) ∙ sym c.spoils_numeral.ensures ∙ c.if-spoils_numeral.true)

pub returns-then-fits : goal.returns-then-fits
returns-then-fits c = numeral_right c.form_len-len.ensures.end (ap spoils_numeral (sym c.byte.ensures.value) ∙ sym c.spoils_numeral.ensures ∙ c.if-spoils_numeral.false) (sym c.form_len-len.ensures.fits ∙ c.if-fits.true)

pub returns-else-fits : goal.returns-else-fits
returns-else-fits c = numeral_large c.form_len-len.ensures.end (ap spoils_numeral (sym c.byte.ensures.value) ∙ sym c.spoils_numeral.ensures ∙ c.if-spoils_numeral.false) (sym c.form_len-len.ensures.fits ∙ c.if-fits.false)
