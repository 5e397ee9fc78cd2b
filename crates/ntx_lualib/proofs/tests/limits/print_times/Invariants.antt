use Rattle.ntx_values.specs.State.{IsOf}
use Rattle.ntx_values.specs.declared.value.Value.TheVariants.{Text}
use Rattle.ntx_lualib.proofs.tests.limits.print_times.Given as goal

abbrev pub invariant-loop-k : goal.invariant-loop-k
invariant-loop-k l = IsOf l.store (Text l.text)
