use Rattle.std.proofs.Common.{rules}
use Rattle.ntx_syntax.specs.Terminals.{symbols}
use Rattle.ntx_syntax.proofs.terminal.symbol_of.Goals as goal

pub returns : goal.returns
unfolding symbols
returns c = search rules
