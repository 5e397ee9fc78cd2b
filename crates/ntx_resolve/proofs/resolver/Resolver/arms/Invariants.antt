use Rattle.std.proofs.Common.{◌≡◌, ◌<◌, ℕ, List, drop, length}
use Rattle.ntx_resolve.specs.HasCode as code
use Rattle.ntx_resolve.specs.Limit as limit
use Rattle.ntx_resolve.specs.Scopes as scopes
use Rattle.ntx_resolve.proofs.Lists.{Rest}
use Rattle.ntx_resolve.proofs.resolver.Resolver.arms.Given as goal

-- what is resolved from here on is what is resolved from the start, in the same scope
abbrev pub invariant-loop-arm : goal.invariant-loop-arm
invariant-loop-arm g l = record {
  rest : Rest (λ a. limit.excess_of_arm a (scopes.locals l.fn.state.scope)) (λ s all xs cs. code.IsArms all s xs cs) l.arms (drop l.arm-index l.arms) l.codes l.state l.fn.state;
  same : l.state.scope ≡ l.fn.state.scope;
}
