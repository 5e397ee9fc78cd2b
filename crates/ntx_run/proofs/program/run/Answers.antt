use Rattle.std.proofs.Common.{None, refl}
use Rattle.ntx_run.proofs.Cases.{runs_no_words}
use Rattle.ntx_run.proofs.program.run.Goals as goal

pub returns-in-Err : goal.returns-in-Err
returns-in-Err g c = (None, runs_no_words _ _ _ _ c.outcome.result refl refl (record { ended = c.outcome.ensures; same = refl }))
