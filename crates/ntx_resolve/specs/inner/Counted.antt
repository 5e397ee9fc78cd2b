-- Statements, and how many local variables are in scope after them.
use Rattle.std.specs.Prelude.{◌≡◌, ◌+◌, List}
use Rattle.ntx_syntax.specs.declared.tree.Return as tree-return
use Rattle.ntx_syntax.specs.declared.tree.Stat as tree-stat
use Rattle.ntx_syntax.specs.declared.tree.StatKind as tree-kind
use Rattle.ntx_resolve.specs.declared.code.Return.{Return}
use Rattle.ntx_resolve.specs.declared.code.Stat.{Stat}
use Rattle.ntx_resolve.specs.declared.code.StatKind.{StatKind}
use Rattle.ntx_resolve.specs.declared.code.Function.{Function}
use Rattle.ntx_resolve.specs.Scopes.{Scope, locals}
use Rattle.ntx_resolve.specs.HasCode.{IsKind, IsExps}
use Rattle.ntx_resolve.specs.Limit.{of_kind, of_stat}

abbrev pub IsCounted : List Function → Scope → tree-kind.StatKind → StatKind → Scope → Type 0
IsCounted all s k c t = (locals t ≡ locals s + (of_kind k).declares) × IsKind all s k c t

abbrev pub IsStat : List Function → Scope → tree-stat.Stat → Stat → Scope → Type 0
IsStat all s x c t = (c.line ≡ x.line) × (locals t ≡ locals s + (of_stat x).declares) × IsKind all s x.kind c.kind t

abbrev pub IsReturned : List Function → Scope → tree-return.Return → Return → Type 0
IsReturned all s r c = (c.line ≡ r.line) × IsExps all s r.values c.values
