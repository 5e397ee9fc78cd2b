use Rattle.std.proofs.Common.{◌≡◌, ◌<◌, ◌∙◌, ap, subst, sym, cond, List, ℕ, Err, arith}
use Rattle.std.specs.Prelude.{nat_eq}
use Rattle.std.proofs.lemmas.Result.{err_from_is_err_and}
use Rattle.ntx_num.specs.Answer.{Answers, result_map}
use Rattle.ntx_values.specs.Texts.{max_text}
use Rattle.ntx_values.specs.Table.{border_of}
use Rattle.ntx_values.specs.State.{table_of}
use Rattle.ntx_lualib.specs.Lists.{element_text}
use Rattle.ntx_lualib.specs.inner.Lines.{added}
use Rattle.ntx_lualib.proofs.Joins.{joined_start, joined_more, joined_fails, joined_end}
use Rattle.ntx_lualib.proofs.print.joined.Goals as goal

pub loop-k-init : goal.loop-k-init
loop-k-init c =
    joined_start (element_text c.args.store.now) (table_of c.args.store.now c.args.table) (border_of (table_of c.args.store.now c.args.table)) c.args.between.now c.new-line.result c.new-line.ensures

pub returns-in_err-part : goal.returns-in_err-part
returns-in_err-part c =
    let p = err_from_is_err_and c.from_residual.result c.from_residual.ensures.1 in
    let less : c.loop-k.k < border_of (table_of c.args.store.now c.args.table) = omega arith in
    rw (p.1, p.2)
    (joined_fails (element_text c.args.store.now) (table_of c.args.store.now c.args.table) (border_of (table_of c.args.store.now c.args.table)) c.args.between.now c.loop-k.line c.loop-k.k c.in_err-part.field-0.0
    less c.loop-k.invariant
    (subst (λ v. Answers {A = List ℕ} (Err c.in_err-part.field-0.0) (element_text c.args.store.now v)) c.item.ensures.value c.in_err-part.ensures))

pub loop-k-preserved : goal.loop-k-preserved
loop-k-preserved c =
    let less : c.loop-k.k < border_of (table_of c.args.store.now c.args.table) = omega arith in
    joined_more (element_text c.args.store.now) (table_of c.args.store.now c.args.table) (border_of (table_of c.args.store.now c.args.table)) c.args.between.now c.loop-k.line c.add_part.new.self c.loop-k.k
    c.in_ok-part.part.items less c.loop-k.invariant
    (ap (element_text c.args.store.now) (sym c.item.ensures.value) ∙ c.in_ok-part.ensures)
    (c.in_ok-add_part.ensures
    ∙ ap (added max_text (cond (nat_eq c.loop-k.k 0) c.loop-k.line (added max_text c.loop-k.line c.args.between.now))) c.deref.ensures.value)

pub returns : goal.returns
returns c =
    let last : c.loop-k.k ≡ border_of (table_of c.args.store.now c.args.table) = omega arith in
    subst (Answers (result_map (λ bytes. bytes.items) c.finish.result))
    (joined_end (element_text c.args.store.now) (table_of c.args.store.now c.args.table) (border_of (table_of c.args.store.now c.args.table)) c.args.between.now c.loop-k.line c.loop-k.k last c.loop-k.invariant)
    c.finish.ensures
