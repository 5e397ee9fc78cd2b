use Rattle.std.proofs.Common.{rules}
use Rattle.ntx_syntax.specs.Terminals.{keywords}
use Rattle.ntx_syntax.proofs.terminal.keyword_of.Goals as goal

pub returns : goal.returns
unfolding keywords
returns c = search rules
