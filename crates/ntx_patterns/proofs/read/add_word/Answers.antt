use Rattle.std.proofs.Common.{sym}
use Rattle.ntx_patterns.proofs.SymbolsLemmas.{known_symbols}
use Rattle.ntx_patterns.proofs.read.add_word.Goals as goal

pub add-requires-clause-symbols : goal.add-requires-clause-symbols
add-requires-clause-symbols c = rw (c.deref.ensures.value, c.in_ok-symbols.ensures) (known_symbols c.args.word.now (sym c.if-not-is_pattern.ensures))
