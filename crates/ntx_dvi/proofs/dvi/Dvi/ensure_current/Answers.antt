-- The current font is not chosen again.
use Rattle.std.proofs.Common.{rules}
use Rattle.ntx_dvi.proofs.FontsLemmas.{current_writes_none}
use Rattle.ntx_dvi.proofs.dvi.Dvi.ensure_current.Goals as goal

pub returns-then-is_current-clause-writes : goal.returns-then-is_current-clause-writes
returns-then-is_current-clause-writes c =
    current_writes_none tt c.args.self.now c.args.self.now.progress.font c.args.font (search rules)
