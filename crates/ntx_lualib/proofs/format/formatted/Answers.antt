use Rattle.std.proofs.Common.{◌≡◌, ◌∙◌, ap, subst, sym, ◌++◌, length, arith}
use Rattle.std.proofs.lemmas.Bool.Decides.{nat_tests}
use Rattle.std.proofs.lemmas.List.{nil_from_length}
use Rattle.std.proofs.lemmas.List.Elements.{All-drop}
use Rattle.std.proofs.lemmas.Result.{err_from_is_err_and}
use Rattle.ntx_values.specs.State.{AreOf, IsOf}
use Rattle.ntx_num.specs.Answer.{Answers, result_map}
use Rattle.ntx_lualib.specs.Formats.{formatted}
use Rattle.ntx_lualib.specs.inner.Pieces.{IsPiece}
use Rattle.ntx_lualib.proofs.Pieces.{IsRead, read_start, read_piece, read_end, take_fails}
use Rattle.ntx_lualib.proofs.format.formatted.Goals as goal

pub loop-rest-init : goal.loop-rest-init
loop-rest-init c =
    (c.requires, subst (λ o. IsRead o (formatted c.args.store.now c.args.format.now c.args.values.now) (formatted c.args.store.now c.args.format.now c.args.values.now)) (sym c.new-line.ensures) (read_start (formatted c.args.store.now c.args.format.now c.args.values.now)))

pub returns-in_err-taken : goal.returns-in_err-taken
returns-in_err-taken c =
    let p = err_from_is_err_and c.from_residual.result c.from_residual.ensures.1 in
    rw (p.1, p.2)
    (take_fails c.loop-rest.line c.take_piece.new.line (formatted c.args.store.now c.args.format.now c.args.values.now) c.args.store.now c.loop-rest.rest.now c.loop-rest.left.now
    c.in_err-taken.field-0.0 c.loop-rest.invariant.1 c.in_err-taken.ensures)

pub loop-rest-preserved : goal.loop-rest-preserved
loop-rest-preserved c =
    let e : IsPiece c.loop-rest.line c.take_piece.new.line c.args.store.now c.loop-rest.rest.now c.loop-rest.left.now c.in_ok-taken.taken.bytes c.in_ok-taken.taken.values = c.in_ok-taken.ensures in (
      subst (AreOf c.args.store.now) (sym c.after-left.ensures) (All-drop (IsOf c.args.store.now) c.in_ok-taken.taken.values c.loop-rest.left.now c.loop-rest.invariant.0),
      read_piece c.loop-rest.line c.take_piece.new.line e.piece (formatted c.args.store.now c.args.format.now c.args.values.now) (formatted c.args.store.now c.loop-rest.rest.now c.loop-rest.left.now)
          (formatted c.args.store.now c.skip-rest.result.now c.after-left.result.now) e.line
          (e.rest ∙ (λ i. result_map (λ after. e.piece ++ after) (formatted c.args.store.now (sym c.skip-rest.ensures i) (sym c.after-left.ensures i)))) c.loop-rest.invariant.1,
    )

pub returns : goal.returns
returns c =
    let none : length c.loop-rest.rest.now ≡ 0 = grind (arith, nat_tests) in
    let nil = nil_from_length c.loop-rest.rest.now none in
    let top = formatted c.args.store.now c.args.format.now c.args.values.now in
    subst (Answers (result_map (λ bytes. bytes.items) c.finish.result))
    (read_end c.loop-rest.line top (subst (IsRead c.loop-rest.line top) (ap (λ l. formatted c.args.store.now l c.loop-rest.left.now) nil) c.loop-rest.invariant.1)) c.finish.ensures
