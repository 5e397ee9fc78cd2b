use Rattle.std.proofs.Common.{◌≡◌, take}
use Rattle.ntx_resolve.proofs.names.copied_locals.Given as goal

-- the names so far
abbrev pub invariant-loop-local : goal.invariant-loop-local
invariant-loop-local l = l.copy ≡ take l.local-index l.locals
