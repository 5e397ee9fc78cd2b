use Rattle.std.proofs.Common.{ap, sym, subst, ◌∙◌}
use Rattle.ntx_values.specs.Table.{value_at}
use Rattle.ntx_values.specs.State.{IsOf, IsLawful, table_of}
use Rattle.ntx_values.proofs.Lawful.{value-of, table_lawful, at_number}
use Rattle.ntx_values.proofs.store.Store.get.Goals as goal

pub returns-clause-of : goal.returns-clause-of
returns-clause-of c =
    let lawful = subst IsLawful c.self.view_is c.self.invariant in
    let at = at_number c.args.self.now c.self.inside.tables.items c.args.t c.index.result.now (ap (λ s. s.tables) c.self.view_is) c.requires c.index.ensures in
    subst (IsOf c.args.self.now) (sym (c.get.ensures ∙ ap (λ es. value_at es c.args.key) at))
    (value-of c.args.self.now (table_of c.args.self.now c.args.t) c.args.key (table_lawful c.args.self.now c.args.t lawful c.requires))
