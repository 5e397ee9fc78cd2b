use Rattle.ntx_values.proofs.Lawful.{text-lawful}
use Rattle.ntx_values.proofs.Makings.{made_bytes}
use Rattle.ntx_values.proofs.store.Store.text.Goals as goal

pub invariant_of-self-2 : goal.invariant_of-self-2
invariant_of-self-2 c =
    text-lawful (record { texts = c.self.inside.texts; tables = c.self.inside.tables.items; functions = c.self.inside.functions }) c.args.bytes.now c.make.new.self c.in_ok-number.number
    c.in_ok-number.ensures c.self.invariant

pub returns-clause-bytes : goal.returns-clause-bytes
returns-clause-bytes c = (made_bytes c.args.bytes.now c.self.inside.texts c.make.new.self c.in_ok-number.number c.in_ok-number.ensures).1
