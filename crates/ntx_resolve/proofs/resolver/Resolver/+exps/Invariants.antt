use Rattle.std.proofs.Common.{◌≡◌, ◌<◌, ℕ, List, drop, length}
use Rattle.ntx_resolve.specs.HasCode as code
use Rattle.ntx_resolve.specs.Limit as limit
use Rattle.ntx_resolve.proofs.Lists.{Rest}
use Rattle.ntx_resolve.proofs.resolver.Resolver.+exps.Given as goal

-- what is resolved from here on is what is resolved from the start
abbrev pub invariant-exps-loop-exp : goal.invariant-exps-loop-exp
invariant-exps-loop-exp g l = Rest limit.excess_of_exp (λ s all xs cs. code.IsExps all s xs cs) l.exps (drop l.exp-index l.exps) l.codes l.state l.fn.state

abbrev pub invariant-fields-loop-field : goal.invariant-fields-loop-field
invariant-fields-loop-field g l = Rest limit.excess_of_field (λ s all xs cs. code.IsFields all s xs cs) l.fields (drop l.field-index l.fields) l.codes l.state l.fn.state

abbrev pub invariant-operations-loop-operation : goal.invariant-operations-loop-operation
invariant-operations-loop-operation g l = Rest limit.excess_of_operation (λ s all xs cs. code.IsOperations all s xs cs) l.operations (drop l.operation-index l.operations) l.codes l.state l.fn.state

abbrev pub invariant-suffixes-loop-suffix : goal.invariant-suffixes-loop-suffix
invariant-suffixes-loop-suffix g l = Rest limit.excess_of_suffix (λ s all xs cs. code.IsSuffixes all s xs cs) l.suffixes (drop l.suffix-index l.suffixes) l.codes l.state l.fn.state
