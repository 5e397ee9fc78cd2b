use Rattle.ntx_eval.proofs.Steps.{steps_never_rise}
use Rattle.ntx_eval.proofs.laws.steps_never_rise.Goals as goal

pub returns : goal.returns
returns g c = λ library. steps_never_rise (record { library = library; host = record { begin = g.H.Host.begin_step; resume = g.H.Host.resume_step } })
