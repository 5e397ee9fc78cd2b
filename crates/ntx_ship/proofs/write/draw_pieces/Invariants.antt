-- What holds while pieces are written.
use Rattle.std.proofs.Common.{drop}
use Rattle.ntx_dvi.specs.Fonts.{AreKnown}
use Rattle.ntx_dvi.specs.Writer.{IsInPage}
use Rattle.ntx_ship.specs.Drawable.{AreDrawable}
use Rattle.ntx_ship.specs.Operations.{definition_at}
use Rattle.ntx_ship.proofs.Drawing.{GoesOn}
use Rattle.ntx_ship.proofs.write.draw_pieces.Given as goal

abbrev pub invariant-loop-piece : goal.invariant-loop-piece
invariant-loop-piece l = record {
  in_page : IsInPage l.dvi;
  drawable : AreDrawable l.dvi.progress.open_pushes (drop l.piece-index l.pieces);
  known : AreKnown l.dvi.progress.fonts (definition_at l.fonts);
  goes_on : GoesOn l.fonts l.fn.dvi l.fn.pen l.pieces l.dvi l.pen (drop l.piece-index l.pieces);
}
