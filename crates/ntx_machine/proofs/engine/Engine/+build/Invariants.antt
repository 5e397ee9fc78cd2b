-- What holds while a list is built.
use Rattle.std.proofs.Common.{◌≡◌, drop}
use Rattle.ntx_machine.specs.Seen.{state_of}
use Rattle.ntx_machine.proofs.Building.{GoesOn}
use Rattle.ntx_machine.proofs.engine.Engine.+build.Given as goal

abbrev pub invariant-build_list-loop-command : goal.invariant-build_list-loop-command
invariant-build_list-loop-command g l =
    let h = g.N.Nodes.heap in
    record {
      goes : GoesOn l.fonts l.body (state_of h l.fn.self) (drop l.command-index l.body) l.list (state_of h l.self);
      writer : l.self.dvi ≡ l.fn.self.dvi;
    }
