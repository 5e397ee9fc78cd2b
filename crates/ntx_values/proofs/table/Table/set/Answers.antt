use Rattle.std.proofs.Common.{◌≡◌, ◌≤◌, ◌<◌, ◌+◌, ℕ, subst, length, arith}
use Rattle.ntx_values.proofs.Borders.{border_of-le}
use Rattle.ntx_values.proofs.Sets.{start-le, held_after}
use Rattle.ntx_values.proofs.table.Table.set.Goals as goal

fits : (start from border len after more : ℕ) → start ≡ from → from ≤ border → border ≤ len → after ≡ len + more → start ≤ after
fits start from border len after more a b c d = omega arith

pub border_from-self-inside-requires-clause-within :
    goal.border_from-self-inside-requires-clause-within
border_from-self-inside-requires-clause-within c =
    let le : c.self.inside.border ≤ length c.self.inside.entries.entries = omega (arith, c.self.invariant, border_of-le c.self.inside.entries.entries) in
    fits _ _ _ _ _ _ c.border_start.ensures (start-le c.self.inside.border c.args.key c.args.v) le c.in_ok-insert.ensures.len

pub border_from-self-inside-requires-clause-held :
    goal.border_from-self-inside-requires-clause-held
border_from-self-inside-requires-clause-held c =
    λ k less. held_after c.self.inside.entries.entries c.insert.new.self.entries c.args.key c.args.v c.self.inside.border k c.in_ok-insert.ensures.updates.0 c.self.invariant
    (subst (λ n. k < n) c.border_start.ensures less)
