use Rattle.ntx_eval.proofs.Steps.{more_steps_are_the_same}
use Rattle.ntx_eval.proofs.laws.more_steps_are_the_same.Goals as goal

pub returns : goal.returns
returns g c = λ library. more_steps_are_the_same (record { library = library; host = record { begin = g.H.Host.begin_step; resume = g.H.Host.resume_step } })
