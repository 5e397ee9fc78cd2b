-- The names in scope, as the program has them.
use Rattle.std.specs.Prelude.{◌≤◌, length}
use Rattle.ntx_resolve.specs.declared.scope.Scope.TheInside.{Inside}
use Rattle.ntx_resolve.specs.Scopes.{Scope}

abbrev pub scope_of : Inside → Scope
scope_of s = record { names = s.names.items; from = s.from }

abbrev pub IsWithin : Inside → Type 0
IsWithin s = s.from ≤ length s.names.items
