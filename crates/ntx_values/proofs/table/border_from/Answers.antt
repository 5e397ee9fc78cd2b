use Rattle.std.proofs.Common.{◌≡◌, ◌≤◌, ◌∙◌, sym, Bool, true, false, not, inl, inr, length, refl, arith}
use Rattle.ntx_values.proofs.Borders.{border_of-is}
use Rattle.ntx_values.proofs.table.border_from.Goals as goal

not_false : (b : Bool) → not b ≡ false → b ≡ true
not_false true h = refl
not_false false h = sym h

pub returns-else-holds : goal.returns-else-holds
returns-else-holds c =
    border_of-is c.args.entries.now.entries c.loop-border.border c.loop-border.invariant.0 c.loop-border.invariant.1
    (inr (not_false _ (sym c.holds.ensures ∙ c.if-holds.false)))

pub returns-after-loop-border : goal.returns-after-loop-border
returns-after-loop-border c =
    let most : length c.args.entries.now.entries ≤ c.loop-border.border = omega (arith, c.loop-border-test.false, c.len-keys.ensures.len) in
    border_of-is c.args.entries.now.entries c.loop-border.border c.loop-border.invariant.0 c.loop-border.invariant.1 (inl most)
