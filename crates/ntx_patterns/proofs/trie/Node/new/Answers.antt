use Rattle.std.proofs.Common.{refl}
use Rattle.ntx_patterns.proofs.PlacesLemmas.{none_packed}
use Rattle.ntx_patterns.proofs.NodesLemmas.{fresh_row, fresh_packed}
use Rattle.ntx_patterns.proofs.trie.Node.new.Goals as goal

pub returns-clause-rows : goal.returns-clause-rows
returns-clause-rows c = fresh_row _ c.new.ensures.items c.new-2.ensures.items

pub returns-clause-packed : goal.returns-clause-packed
returns-clause-packed c = fresh_packed _ (none_packed _ refl refl refl) c.new-2.ensures.items
