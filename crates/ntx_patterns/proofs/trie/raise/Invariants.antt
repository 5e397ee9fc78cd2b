use Rattle.std.proofs.Common.{◌≡◌, take}
use Rattle.ntx_patterns.specs.Table.{greater_digits}
use Rattle.ntx_patterns.proofs.trie.raise.Given as goal

abbrev pub invariant-loop-i : goal.invariant-loop-i
invariant-loop-i l = l.kept.items ≡ greater_digits l.fn.kept.items (take l.i l.digits)
