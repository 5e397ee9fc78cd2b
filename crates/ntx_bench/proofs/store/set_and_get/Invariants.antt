-- The table is one of the store.
use Rattle.ntx_values.specs.declared.value.Value.TheVariants as value
use Rattle.ntx_values.specs.State.{IsOf}
use Rattle.ntx_bench.proofs.store.set_and_get.Given as goal

abbrev pub invariant-loop-i : goal.invariant-loop-i
invariant-loop-i l = IsOf l.store (value.Table l.t)

abbrev pub invariant-loop-i-2 : goal.invariant-loop-i-2
invariant-loop-i-2 l = IsOf l.store (value.Table l.t)
