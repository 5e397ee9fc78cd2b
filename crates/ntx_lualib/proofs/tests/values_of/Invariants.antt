use Rattle.ntx_values.specs.State.{AreOf, Grows}
use Rattle.ntx_lualib.proofs.tests.values_of.Given as goal

abbrev pub invariant-loop-arg : goal.invariant-loop-arg
invariant-loop-arg l = record { grows : Grows l.fn.store l.store; of : AreOf l.store l.values.items }
