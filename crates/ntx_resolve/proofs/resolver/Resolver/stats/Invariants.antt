use Rattle.std.proofs.Common.{◌≡◌, ◌<◌, ℕ, List, drop, length}
use Rattle.ntx_resolve.proofs.Stats.{RestStats}
use Rattle.ntx_resolve.proofs.resolver.Resolver.stats.Given as goal

-- what is resolved from here on is what is resolved from the start
abbrev pub invariant-loop-stat : goal.invariant-loop-stat
invariant-loop-stat g l = RestStats l.stats (drop l.stat-index l.stats) l.codes l.state l.fn.state
