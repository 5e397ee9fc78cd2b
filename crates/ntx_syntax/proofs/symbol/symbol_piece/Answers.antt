use Rattle.std.proofs.Common.{rules}
use Rattle.ntx_syntax.specs.Pieces.{refused_symbols, symbol_piece}
use Rattle.ntx_syntax.proofs.symbol.symbol_piece.Goals as goal

pub returns-then-is_some : goal.returns-then-is_some
unfolding refused_symbols symbol_piece
returns-then-is_some c = search rules

pub returns-then-is_among : goal.returns-then-is_among
unfolding refused_symbols symbol_piece
returns-then-is_among c = search rules

pub returns-then-bytes-eq1 : goal.returns-then-bytes-eq1
unfolding refused_symbols symbol_piece
returns-then-bytes-eq1 c = search rules

pub returns-else-bytes-eq1 : goal.returns-else-bytes-eq1
unfolding refused_symbols symbol_piece
returns-else-bytes-eq1 c = search rules
