use Rattle.std.proofs.Common.{◌≡◌, ◌∙◌, ap, subst, sym, true, false, get_or, arith}
use Rattle.std.specs.Prelude.{nat_eq}
use Rattle.std.proofs.lemmas.Bool.Decides.{nat_tests}
use Rattle.ntx_values.specs.Texts.{max_text}
use Rattle.ntx_lualib.specs.Formats.{directive}
use Rattle.ntx_lualib.specs.inner.Lines.{added}
use Rattle.ntx_lualib.specs.inner.Pieces.{IsPiece}
use Rattle.ntx_lualib.proofs.Pieces.{plain_piece, marked_piece}
use Rattle.ntx_lualib.proofs.format.take_piece.Goals as goal

pub returns-then-head-ne37 : goal.returns-then-head-ne37
returns-then-head-ne37 c =
    let plain : nat_eq (get_or c.args.format.now 0 0) 37 ≡ false = grind (arith, nat_tests) in
    plain_piece c.args.store.now c.args.line.now c.add.new.self c.args.format.now c.args.values.now c.requires.more plain c.in_ok-add.ensures

pub returns : goal.returns
returns c =
    let mark : nat_eq (get_or c.args.format.now 0 0) 37 ≡ true = grind (arith, nat_tests) in
    subst (IsPiece c.args.line.now c.add-2.new.self c.args.store.now c.args.format.now c.args.values.now 2) (sym c.values_taken.ensures)
    (marked_piece c.args.store.now c.args.line.now c.add-2.new.self c.args.format.now c.args.values.now c.in_ok-piece.piece.items (omega arith) mark
    (ap (directive c.args.store.now (get_or c.args.format.now 1 0)) (sym c.argument.ensures.value) ∙ c.in_ok-piece.ensures)
    (c.in_ok-add-2.ensures ∙ ap (added max_text c.args.line.now) c.deref.ensures.value))
