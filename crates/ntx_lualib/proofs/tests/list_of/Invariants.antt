use Rattle.ntx_values.specs.State.{IsOf, Grows}
use Rattle.ntx_values.specs.declared.value.Value.TheVariants.{Table}
use Rattle.ntx_lualib.proofs.tests.list_of.Given as goal

abbrev pub invariant-loop-i : goal.invariant-loop-i
invariant-loop-i l = record { grows : Grows l.fn.store l.store; of : IsOf l.store (Table l.table) }
