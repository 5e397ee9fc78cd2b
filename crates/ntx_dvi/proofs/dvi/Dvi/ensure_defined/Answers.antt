-- A font that is defined is not defined again.
use Rattle.std.proofs.Common.{rules}
use Rattle.ntx_dvi.proofs.FontsLemmas.{defined_writes_none}
use Rattle.ntx_dvi.proofs.dvi.Dvi.ensure_defined.Goals as goal

pub returns-then-is_defined-clause-writes : goal.returns-then-is_defined-clause-writes
returns-then-is_defined-clause-writes c =
    defined_writes_none tt c.args.self.now c.args.self.now.progress.fonts c.args.font c.args.def.now (search rules)
