use Rattle.std.proofs.Common.{◌∙◌, sym}
use Rattle.ntx_parse.proofs.rules.Rules.operand.Goals as goal

pub returns-in-None : goal.returns-in-None
returns-in-None g c = rw (sym c.sign_at.ensures ∙ c.in-None.is) c.simple.ensures

pub returns-in-Some : goal.returns-in-Some
returns-in-Some g c = rw (sym c.sign_at.ensures ∙ c.in-Some.is) c.unary.ensures
