use Rattle.std.proofs.Common.{◌≡◌, ◌≢◌, ◌≤◌, ℕ, length, slice_get, Some}
use Rattle.ntx_resolve.proofs.scope.Scope.place_of.Given as goal

-- no place from here on has the name
abbrev pub invariant-loop-place : goal.invariant-loop-place
invariant-loop-place l = record {
  within : l.place ≤ length l.self.names;
  none : (k : ℕ) → l.place ≤ k → slice_get l.self.names k ≢ Some l.name;
}

abbrev pub decreases-loop-place : goal.decreases-loop-place
decreases-loop-place l = l.place
