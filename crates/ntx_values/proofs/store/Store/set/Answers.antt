use Rattle.std.proofs.Common.{sym, subst, slice_set}
use Rattle.ntx_num.specs.Answer.{Steps}
use Rattle.ntx_values.specs.Steps.{set_step}
use Rattle.ntx_values.specs.State.{StoreState, IsOf, IsLawfulTable}
use Rattle.ntx_values.specs.declared.value.Value.TheVariants.{Table}
use Rattle.ntx_values.proofs.Lawful.{set-lawful, stepped-lawful, stepped, table_lawful, at_number}
use Rattle.ntx_values.proofs.store.Store.set.Goals as goal

pub invariant_of-self : goal.invariant_of-self
invariant_of-self c =
    let store : StoreState = record { texts = c.self.inside.texts; tables = c.self.inside.tables.items; functions = c.self.inside.functions } in
    let of = subst (λ s. IsOf s (Table c.args.t)) (sym c.self.view_is) c.requires.table in
    let at = at_number store store.tables c.args.t c.index_mut-table.result.now (λ i. store.tables) of c.index_mut-table.ensures.value in
    let table = subst (IsLawfulTable store) (sym at) (table_lawful store c.args.t c.self.invariant of) in
    set-lawful store c.args.t.number c.set.new.self c.self.invariant
    (stepped-lawful store c.set.result c.index_mut-table.result.now c.set.new.self c.args.key c.args.v table
    (subst (λ s. IsOf s c.args.key) (sym c.self.view_is) c.requires.key) (subst (λ s. IsOf s c.args.v) (sym c.self.view_is) c.requires.value) c.set.ensures)

pub returns-clause-step : goal.returns-clause-step
returns-clause-step c =
    let store : StoreState = record { texts = c.self.inside.texts; tables = c.self.inside.tables.items; functions = c.self.inside.functions } in
    let of = subst (λ s. IsOf s (Table c.args.t)) (sym c.self.view_is) c.requires.table in
    let at = at_number store store.tables c.args.t c.index_mut-table.result.now (λ i. store.tables) of c.index_mut-table.ensures.value in
    let new : StoreState = record { texts = c.self.inside.texts; tables = slice_set c.self.inside.tables.items c.args.t.number c.set.new.self; functions = c.self.inside.functions } in
    subst (λ s. Steps c.set.result s new (set_step c.args.t c.args.key c.args.v s)) c.self.view_is
    (stepped store c.args.t c.set.result c.index_mut-table.result.now c.set.new.self c.args.key c.args.v at c.set.ensures)
