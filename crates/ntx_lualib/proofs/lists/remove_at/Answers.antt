use Rattle.std.proofs.Common.{arith}
use Rattle.ntx_values.specs.State.{table_of}
use Rattle.ntx_lualib.proofs.Numbering.{held_key}
use Rattle.ntx_lualib.proofs.Insertions.{remove_done}
use Rattle.ntx_lualib.proofs.lists.remove_at.Goals as goal

pub lower-requires-clause-held : goal.lower-requires-clause-held
lower-requires-clause-held c = λ k low high. held_key (table_of c.args.store.now c.args.table) k (omega arith) (omega arith)

pub returns-clause-changes : goal.returns-clause-changes
returns-clause-changes c = remove_done c.args.store.now c.lower.new.store c.args.table c.border-count.result c.args.p c.lower.result c.border-count.ensures.value c.lower.ensures.moves
