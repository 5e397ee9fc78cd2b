use Rattle.ntx_values.proofs.ReadBack.{read_back, read_others}
use Rattle.ntx_values.proofs.laws.sets_are_read_back.Goals as goal

pub returns-clause-set : goal.returns-clause-set
returns-clause-set c = read_back

pub returns-clause-others : goal.returns-clause-others
returns-clause-others c = read_others
