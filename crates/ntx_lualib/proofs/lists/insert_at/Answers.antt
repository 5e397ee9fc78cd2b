use Rattle.std.proofs.Common.{◌≤◌, arith}
use Rattle.std.proofs.lemmas.Result.{err_from_is_err_and}
use Rattle.ntx_values.specs.declared.value.Value.TheVariants.{Table}
use Rattle.ntx_values.proofs.Growth.{IsOf-grown}
use Rattle.ntx_lualib.proofs.Insertions.{first_set, held_after, insert_refused, insert_done}
use Rattle.ntx_lualib.proofs.lists.insert_at.Goals as goal

pub raise-requires-clause-held : goal.raise-requires-clause-held
raise-requires-clause-held c =
    let w = first_set c.args.store.now c.set_item-2.new.store c.args.table c.border-count.result c.item-last.result _ c.border-count.ensures.value c.item-last.ensures.value c.in_ok-set_item.ensures.step in
    held_after c.args.store.now c.set_item-2.new.store c.args.table c.border-count.result c.args.p c.requires.table c.border-count.ensures.value w c.requires.low

pub returns-in_err-set_item-clause-changes : goal.returns-in_err-set_item-clause-changes
returns-in_err-set_item-clause-changes c =
    let p = err_from_is_err_and c.from_residual.result c.from_residual.ensures.1 in
    let high : c.args.p ≤ c.border-count.result = omega arith in
    rw (p.1, p.2)
    (insert_refused c.args.store.now c.set_item-2.new.store c.args.table c.border-count.result c.args.p c.item-last.result c.args.value c.in_err-set_item.field-0.0 c.border-count.ensures.value c.item-last.ensures.value
    high c.in_err-set_item.ensures.step)

pub returns-clause-changes : goal.returns-clause-changes
returns-clause-changes c =
    let w = first_set c.args.store.now c.set_item-2.new.store c.args.table c.border-count.result c.item-last.result _ c.border-count.ensures.value c.item-last.ensures.value c.in_ok-set_item.ensures.step in
    let high : c.args.p ≤ c.border-count.result = omega arith in
    let of1 = IsOf-grown c.args.store.now c.set_item-2.new.store c.in_ok-set_item.ensures.grows (Table c.args.table) c.requires.table in
    insert_done c.args.store.now c.set_item-2.new.store c.raise.new.store c.set_item-3.new.store c.args.table c.border-count.result c.args.p c.args.value c.set_item-3.result c.requires.table of1 c.lawful.ensures
    c.border-count.ensures.value w c.requires.low high c.in_ok-raise.ensures.moves c.set_item-3.ensures.step
