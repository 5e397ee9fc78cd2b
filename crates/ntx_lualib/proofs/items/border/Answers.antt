use Rattle.std.proofs.Common.{arith}
use Rattle.std.proofs.lemmas.Int.{ints}
use Rattle.ntx_values.specs.State.{table_of}
use Rattle.ntx_values.proofs.Borders.{border_of-le}
use Rattle.ntx_values.proofs.Lawful.{table_lawful}
use Rattle.ntx_lualib.proofs.items.border.Goals as goal

pub returns-clause-small : goal.returns-clause-small
returns-clause-small c =
    let le = border_of-le (table_of c.args.store.now c.args.table) in
    let few = (table_lawful c.args.store.now c.args.table c.lawful.ensures c.requires).few in
    omega (arith, ints, le, few, c.border.ensures)
