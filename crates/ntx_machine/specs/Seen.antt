-- An engine and a machine as contracts see them. `heap` gives the heap that their nodes stand for.
use Rattle.ntx_nodes.specs.Heap.{Heap}
use Rattle.ntx_machine.specs.declared.engine.Engine.{Engine}
use Rattle.ntx_machine.specs.declared.machine.Machine.{Machine}
use Rattle.ntx_machine.specs.State.{State}
use Rattle.ntx_machine.specs.Machine.{MachineView}

abbrev pub state_of : {N : Type 0} → (N → Heap) → Engine N → State
state_of heap e = record { heap = heap e.nodes; settings = e.params; main = e.main; writer = e.dvi }

abbrev pub view_of : {N : Type 0} → (N → Heap) → Machine N → MachineView
view_of heap m = record { fonts = m.fonts.items; state = state_of heap m.engine; stopped = m.stopped }
