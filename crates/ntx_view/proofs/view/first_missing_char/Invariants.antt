-- proofs/view/first_missing_char/Invariants.antt
-- None of the nodes so far has a missing character.
use Rattle.std.proofs.Common.{◌≡◌, drop}
use Rattle.ntx_view.specs.View.{first_missing_char}
use Rattle.ntx_view.proofs.view.first_missing_char.Given as goal

abbrev pub invariant-loop-n : goal.invariant-loop-n
invariant-loop-n g l = first_missing_char (g.N.Nodes.heap l.nodes) l.fonts l.names ≡ first_missing_char (g.N.Nodes.heap l.nodes) l.fonts (drop l.n-index l.names)
