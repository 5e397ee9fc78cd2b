use Rattle.std.proofs.Common.{◌≡◌, ◌∙◌, false, length, subst, sym, ap, arith}
use Rattle.std.specs.Prelude.{nat_le}
use Rattle.std.proofs.lemmas.Bool.Decides.{nat_tests}
use Rattle.ntx_values.specs.State.{table_of}
use Rattle.ntx_lualib.specs.Lists.{insert_at}
use Rattle.ntx_lualib.specs.inner.Moves.{Changes}
use Rattle.ntx_lualib.proofs.Insertions.{insert_place}
use Rattle.ntx_lualib.proofs.lists.insert.Goals as goal

pub returns-clause-changes : goal.returns-clause-changes
returns-clause-changes c =
    let es = table_of c.args.store.now c.args.table in
    let more : nat_le (length c.args.args.now) 2 ≡ false = grind (arith, nat_tests) in
    subst (Changes c.insert_at.result c.args.store.now c.insert_at.new.store c.args.table)
    (ap (insert_at es c.in_ok-place.place) c.argument-2.ensures.value ∙ sym (insert_place es c.args.args.now c.in_ok-place.place more c.in_ok-place.ensures.place)) c.insert_at.ensures.changes
