use Rattle.ntx_breaks.proofs.LawLemmas.{each_breaks}
use Rattle.ntx_breaks.proofs.law.each_paragraph_breaks.Goals as goal

pub returns : goal.returns
returns c = each_breaks
