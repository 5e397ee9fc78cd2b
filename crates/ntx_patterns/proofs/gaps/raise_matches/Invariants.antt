use Rattle.ntx_patterns.specs.Kept.{row}
use Rattle.ntx_patterns.proofs.WalkLemmas.{IsWalked}
use Rattle.ntx_patterns.proofs.gaps.raise_matches.Given as goal

abbrev pub invariant-loop-symbol : goal.invariant-loop-symbol
invariant-loop-symbol l = IsWalked (row l.fn.trie) (row l.node) l.rest l.place l.symbol-index l.fn.values l.values
