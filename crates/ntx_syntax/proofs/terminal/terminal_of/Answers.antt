use Rattle.std.proofs.Common.{sym, ◌∙◌}
use Rattle.ntx_syntax.proofs.TokenLemmas.{keyword_found, symbol_found}
use Rattle.ntx_syntax.proofs.terminal.terminal_of.Goals as goal

pub unreachable-requires : goal.unreachable-requires
unreachable-requires c = keyword_found c.args.spelled.now c.args.sort _ c.requires c.in-Keyword.is c.keyword_of.ensures c.in-None.is

pub unreachable-requires-in-None-symbol_of : goal.unreachable-requires-in-None-symbol_of
unreachable-requires-in-None-symbol_of c = symbol_found c.args.spelled.now c.args.sort _ c.requires c.in-Symbol.is c.symbol_of.ensures c.in-None-symbol_of.is
