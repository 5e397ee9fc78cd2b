use Rattle.std.proofs.Common.{ap, sym, subst, ◌∙◌, IfOk}
use Rattle.std.specs.Option.{IfSome}
use Rattle.ntx_values.specs.Table.{next_of}
use Rattle.ntx_values.specs.State.{IsOf, IsLawful, table_of}
use Rattle.ntx_values.proofs.Lawful.{table_lawful, at_number}
use Rattle.ntx_values.proofs.Walks.{next_All}
use Rattle.ntx_values.proofs.store.Store.next.Goals as goal

pub returns-clause-of : goal.returns-clause-of
returns-clause-of c =
    let lawful = subst IsLawful c.self.view_is c.self.invariant in
    let at = at_number c.args.self.now c.self.inside.tables.items c.args.t c.index.result.now (ap (λ s. s.tables) c.self.view_is) c.requires c.index.ensures in
    let table = table_lawful c.args.self.now c.args.t lawful c.requires in
    subst (λ r. IfOk r (λ found. IfSome found (λ e. IsOf c.args.self.now e.0 × IsOf c.args.self.now e.1))) (sym (c.next.ensures ∙ ap (λ es. next_of es c.args.key) at))
    (next_All (λ e. IsOf c.args.self.now e.0 × IsOf c.args.self.now e.1) (table_of c.args.self.now c.args.t) c.args.key table.values)
