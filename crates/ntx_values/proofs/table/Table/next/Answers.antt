use Rattle.std.proofs.Common.{◌≡◌, ◌∙◌, sym, ap, is_some}
use Rattle.ntx_values.proofs.Walks.{next_found, next_missing}
use Rattle.ntx_values.proofs.table.Table.next.Goals as goal

pub returns-in-Some : goal.returns-in-Some
returns-in-Some c =
    next_found c.self.inside.entries.entries c.args.self.now c.args.key c.in-Some.place _ c.self.view_is (sym c.is_nil.ensures ∙ c.if-is_nil.false)
    (sym c.get_index_of.ensures.index ∙ c.in-Some.is) c.first_held-in-Some.ensures

pub returns-in-None : goal.returns-in-None
returns-in-None c =
    next_missing c.self.inside.entries.entries c.args.self.now c.args.key c.self.view_is (sym c.is_nil.ensures ∙ c.if-is_nil.false)
    (sym c.get_index_of.ensures.found ∙ ap is_some c.in-None.is)
