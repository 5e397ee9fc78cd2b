use Rattle.std.specs.Prelude.{drop}
use Rattle.ntx_machine.specs.Seen.{view_of}
use Rattle.ntx_run.proofs.Carrying.{IsLeft}
use Rattle.ntx_run.proofs.typeset.typeset.Given as goal

abbrev pub invariant-loop-command : goal.invariant-loop-command
invariant-loop-command g l = IsLeft l.fn.commands (view_of g.N.Nodes.heap l.fn.machine) (g.O.Sink.output l.fn.sink) (drop l.command-index l.commands) (view_of g.N.Nodes.heap l.machine) (g.O.Sink.output l.sink)
