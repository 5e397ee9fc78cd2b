use Rattle.std.proofs.Common.{◌≡◌, ◌+◌, ◌∙◌, sym, ap, suc, drop, None, arith, rules}
use Rattle.ntx_values.specs.Table.{first_held}
use Rattle.ntx_values.proofs.Walks.{found_here, nothing_here}
use Rattle.ntx_values.proofs.table.first_held.Goals as goal

pub returns-in-Some : goal.returns-in-Some
returns-in-Some c =
    sym (c.loop-place.invariant ∙ found_here c.args.entries.now.entries c.loop-place.place c.in-Some.pair (sym c.held_at.ensures ∙ c.in-Some.is))

pub loop-place-preserved : goal.loop-place-preserved
loop-place-preserved c =
    let none : c.held_at.result ≡ None = first_of (grind (arith, c.in_default.is), search (rules, c.in_default.is), grind (arith, c.in_default.not-Some)) in
    let next : suc c.loop-place.place ≡ c.loop-place.place + 1 = omega arith in
    c.loop-place.invariant ∙ nothing_here c.args.entries.now.entries c.loop-place.place (sym c.held_at.ensures ∙ none)
    ∙ ap (λ n. first_held (drop n c.args.entries.now.entries)) next
