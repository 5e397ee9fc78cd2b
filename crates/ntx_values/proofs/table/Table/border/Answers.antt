use Rattle.std.proofs.Common.{◌≡◌, ap, ◌∙◌, arith}
use Rattle.ntx_values.specs.Table.{border_of}
use Rattle.ntx_values.proofs.Borders.{border_of-le}
use Rattle.ntx_values.proofs.table.Table.border.Goals as goal

pub returns-clause-within : goal.returns-clause-within
returns-clause-within c =
    let is : c.self.inside.border ≡ border_of c.args.self.now = c.self.invariant ∙ ap border_of c.self.view_is in
    omega (arith, is, border_of-le c.args.self.now)
