use Rattle.std.proofs.Common.{◌≡◌, ◌≤◌, ◌++◌, map, length, take}
use Rattle.ntx_resolve.proofs.scope.Scope.declare.Given as goal

-- the names before the loop, and those that were declared since
abbrev pub invariant-loop-local : goal.invariant-loop-local
invariant-loop-local l = record {
  names : l.self-inside.names.items ≡ l.fn.self.names ++ map (λ n. n.name) (take l.local-index l.names);
  from : l.self-inside.from ≡ l.fn.self.from;
  within : l.self-inside.from ≤ length l.self-inside.names.items;
}
