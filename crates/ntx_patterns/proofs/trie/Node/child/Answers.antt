use Rattle.ntx_patterns.proofs.NodesLemmas.{child_found}
use Rattle.ntx_patterns.proofs.trie.Node.child.Goals as goal

pub returns : goal.returns
returns c = child_found c.get.result (λ child. child.now) c.args.self.now c.deref.result.now c.args.symbol c.place_of.result c.deref.ensures.value c.place_of.ensures c.get.ensures.lookup.0 c.get.ensures.lookup.1
