use Rattle.std.proofs.Common.{sym, ◌∙◌}
use Rattle.std.proofs.lemmas.Result.{err_from_is_err_and}
use Rattle.ntx_run.proofs.FontSteps.{no_fonts, first_name, stops_at_first, no_memory_at_first, goes_on}
use Rattle.ntx_run.proofs.fonts.+read_from.Goals as goal

pub returns-then-is_empty : goal.returns-then-is_empty
returns-then-is_empty g t c = no_fonts _ _ _ _ _ c.requires.can_be_read (sym c.is_empty.ensures ∙ c.if-is_empty.true)

pub read_one-requires-clause-name : goal.read_one-requires-clause-name
read_one-requires-clause-name g t c = first_name _ _ _ _ c.requires.can_be_read (sym c.is_empty.ensures ∙ c.if-is_empty.false)

pub returns-in_err-font : goal.returns-in_err-font
returns-in_err-font g t c =
    let p = err_from_is_err_and c.from_residual.result c.from_residual.ensures.1 in
    rw (p.1, p.2) (stops_at_first _ _ _ _ _ _ _ _ _ c.requires.can_be_read (sym c.is_empty.ensures ∙ c.if-is_empty.false) c.in_err-font.ensures)

pub returns-in_err-add_font : goal.returns-in_err-add_font
returns-in_err-add_font g t c =
    let p = err_from_is_err_and c.from_residual-in_err-add_font.result c.from_residual-in_err-add_font.ensures.1 in
    rw (p.1, p.2) (no_memory_at_first _ _ _ _ _ _ _ _ _ c.requires.can_be_read (sym c.is_empty.ensures ∙ c.if-is_empty.false) c.in_ok-font.ensures)

pub returns : goal.returns
returns g t c = goes_on _ _ _ _ _ _ _ _ _ _ _ c.requires.can_be_read (sym c.is_empty.ensures ∙ c.if-is_empty.false) c.in_ok-font.ensures (rw (sym c.in_ok-add_font.ensures) c.read_from.ensures)
