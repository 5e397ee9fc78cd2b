use Rattle.ntx_values.proofs.Same.{same_laws}
use Rattle.ntx_values.proofs.Equal.{equal_values}
use Rattle.ntx_values.proofs.laws.same_values_are_equal.Goals as goal

pub returns-clause-equal : goal.returns-clause-equal
returns-clause-equal c = equal_values

pub returns-clause-same : goal.returns-clause-same
returns-clause-same c = same_laws.refl
