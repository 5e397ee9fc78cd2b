use Rattle.std.proofs.Common.{◌≡◌, ◌≤◌, ◌-◌, drop, length}
use Rattle.ntx_resolve.specs.Limit.{excess_of_names, max_locals}
use Rattle.ntx_resolve.specs.Scopes.{locals}
use Rattle.ntx_resolve.proofs.scope.Scope.has_room_for.Given as goal

-- from here on the first name too many is that of all
abbrev pub invariant-loop-local : goal.invariant-loop-local
invariant-loop-local l = record {
  same : excess_of_names (locals l.self) l.names ≡ excess_of_names l.count (drop l.local-index l.names);
}
