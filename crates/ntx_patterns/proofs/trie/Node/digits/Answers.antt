use Rattle.std.proofs.Common.{sym, ◌∙◌}
use Rattle.ntx_patterns.proofs.NodesLemmas.{row-nil}
use Rattle.ntx_patterns.proofs.trie.Node.digits.Goals as goal

pub returns : goal.returns
returns c = c.deref.ensures.value ∙ sym (row-nil c.args.self.now)
