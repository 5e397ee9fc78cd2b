use Rattle.std.proofs.Common.{◌≡◌, ◌-◌, ◌∙◌, ap, subst, pos, Ok, Err, arith}
use Rattle.std.proofs.lemmas.Result.{err_from_is_err_and}
use Rattle.ntx_num.specs.Answer.{Steps}
use Rattle.ntx_values.specs.Table.{item_at}
use Rattle.ntx_values.specs.State.{StoreState, table_of}
use Rattle.ntx_values.specs.Steps.{set_step}
use Rattle.ntx_values.specs.declared.value.Value.{Value}
use Rattle.ntx_values.specs.declared.value.Value.TheVariants.{Int}
use Rattle.ntx_values.proofs.Growth.{Grows-same, Grows-then}
use Rattle.ntx_values.proofs.Lawful.{table_lawful}
use Rattle.ntx_lualib.specs.Lists.{refilled, with_table}
use Rattle.ntx_lualib.specs.inner.Moves.{raised}
use Rattle.ntx_lualib.proofs.Moves.{fill_start, fill_more, fill_fails, fill_item}
use Rattle.ntx_lualib.proofs.Numbering.{raised_start, raised_step, raised_kept}
use Rattle.ntx_lualib.proofs.lists.raise.Goals as goal

pub loop-k-init : goal.loop-k-init
loop-k-init c =
    let s = c.args.store.now in
    let es = table_of c.args.store.now c.args.table in
    let once = (table_lawful c.args.store.now c.args.table c.lawful.ensures c.requires.table).once in
    record {
      low = omega arith;
      high = omega arith;
      moved = fill_start s c.args.table c.requires.table once (raised es c.args.m c.args.m) (raised_start es c.args.m);
      grows = Grows-same s;
    }

pub loop-k-preserved : goal.loop-k-preserved
loop-k-preserved c =
    let s = c.args.store.now in
    let es = table_of c.args.store.now c.args.table in
    let once = (table_lawful c.args.store.now c.args.table c.lawful.ensures c.requires.table).once in
    let held = c.requires.held c.loop-k.k (omega arith) (omega arith) in
    let value : c.item-value.result ≡ item_at es (c.loop-k.k - 1) =
    c.item-value.ensures.value ∙ ap (λ (st : StoreState). item_at (table_of st c.args.table) (c.loop-k.k - 1)) c.loop-k.invariant.moved
    ∙ fill_item s c.args.table c.requires.table once (raised es c.loop-k.k c.args.m) (c.loop-k.k - 1) (raised_kept es c.loop-k.k c.args.m) in
    record {
      low = omega arith;
      high = omega arith;
      moved =
          fill_more s c.args.table c.requires.table once (raised es c.loop-k.k c.args.m) (raised es (c.loop-k.k - 1) c.args.m) c.loop-k.k (item_at es (c.loop-k.k - 1)) c.loop-k.store c.set_item.new.store _ c.loop-k.invariant.moved held
          (raised_step es c.loop-k.k c.args.m (omega arith) (omega arith))
          (subst (λ (v : Value). set_step c.args.table (Int (pos c.loop-k.k)) v c.loop-k.store ≡ Ok (_, c.set_item.new.store)) value c.in_ok-set_item.ensures.step);
      grows = Grows-then s c.loop-k.store c.set_item.new.store c.loop-k.invariant.grows c.in_ok-set_item.ensures.grows;
    }

pub returns-in_err-set_item-clause-moves : goal.returns-in_err-set_item-clause-moves
returns-in_err-set_item-clause-moves c =
    let s = c.args.store.now in
    let es = table_of c.args.store.now c.args.table in
    let once = (table_lawful c.args.store.now c.args.table c.lawful.ensures c.requires.table).once in
    let held = c.requires.held c.loop-k.k (omega arith) (omega arith) in
    let value : c.item-value.result ≡ item_at es (c.loop-k.k - 1) =
    c.item-value.ensures.value ∙ ap (λ (st : StoreState). item_at (table_of st c.args.table) (c.loop-k.k - 1)) c.loop-k.invariant.moved
    ∙ fill_item s c.args.table c.requires.table once (raised es c.loop-k.k c.args.m) (c.loop-k.k - 1) (raised_kept es c.loop-k.k c.args.m) in
    let p = err_from_is_err_and c.from_residual.result c.from_residual.ensures.1 in
    rw (p.1, p.2)
    (fill_fails s c.args.table c.requires.table once (raised es c.loop-k.k c.args.m) (raised es (c.loop-k.k - 1) c.args.m) c.loop-k.k (item_at es (c.loop-k.k - 1)) c.loop-k.store c.set_item.new.store c.set_item.new.store c.in_err-set_item.field-0.0 (raised es c.args.p c.args.m)
    c.loop-k.invariant.moved held (raised_step es c.loop-k.k c.args.m (omega arith) (omega arith))
    (subst (λ (v : Value). Steps {A = Unit {0}} (Err c.in_err-set_item.field-0.0) c.loop-k.store c.set_item.new.store (set_step c.args.table (Int (pos c.loop-k.k)) v c.loop-k.store)) value c.in_err-set_item.ensures.step))

pub returns-in_err-set_item-clause-grows : goal.returns-in_err-set_item-clause-grows
returns-in_err-set_item-clause-grows c = Grows-then c.args.store.now c.loop-k.store c.set_item.new.store c.loop-k.invariant.grows c.in_err-set_item.ensures.grows

pub returns-clause-moves : goal.returns-clause-moves
returns-clause-moves c =
    let s = c.args.store.now in
    let es = table_of c.args.store.now c.args.table in
    let last : c.loop-k.k ≡ c.args.p = omega arith in
    subst (λ n. c.loop-k.store ≡ with_table s c.args.table (refilled (raised es n c.args.m) es)) last c.loop-k.invariant.moved

pub returns-clause-grows : goal.returns-clause-grows
returns-clause-grows c = c.loop-k.invariant.grows
