use Rattle.ntx_values.proofs.BorderLaws.{border_is, border_only}
use Rattle.ntx_values.proofs.laws.borders_are_least.Goals as goal

pub returns-clause-border : goal.returns-clause-border
returns-clause-border c = border_is

pub returns-clause-only : goal.returns-clause-only
returns-clause-only c = border_only
