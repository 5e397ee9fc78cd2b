use Rattle.std.proofs.Common.{◌≡◌, ◌<◌, ℕ, List, drop, length}
use Rattle.ntx_resolve.specs.HasCode as code
use Rattle.ntx_resolve.specs.Limit as limit
use Rattle.ntx_resolve.proofs.Lists.{Rest}
use Rattle.ntx_resolve.proofs.resolver.Resolver.vars.Given as goal

-- what is resolved from here on is what is resolved from the start
abbrev pub invariant-loop-var : goal.invariant-loop-var
invariant-loop-var g l = Rest limit.excess_of_var (λ s all xs cs. code.IsVars all s xs cs) l.vars (drop l.var-index l.vars) l.codes l.state l.fn.state
