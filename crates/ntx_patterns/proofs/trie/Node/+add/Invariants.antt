use Rattle.std.proofs.Common.{length}
use Rattle.ntx_patterns.proofs.trie.Node.+add.Given as goal

abbrev pub decreases-add : goal.decreases-add
decreases-add l = length l.symbols.now
