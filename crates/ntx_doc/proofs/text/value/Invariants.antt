use Rattle.ntx_doc.proofs.DigitsLemmas.{HasRead}
use Rattle.ntx_doc.proofs.text.value.Given as goal

abbrev pub invariant-loop-digit : goal.invariant-loop-digit
invariant-loop-digit l = HasRead l.digits l.digit-index l.value
