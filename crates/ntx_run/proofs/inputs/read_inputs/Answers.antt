use Rattle.std.proofs.Common.{refl, Ok, Err}
use Rattle.std.proofs.lemmas.Result.{err_from_is_err_and}
use Rattle.ntx_run.specs.inner.Parts.{AtDocument, AtScript, AtPatterns, AtFonts}
use Rattle.ntx_run.proofs.Reading.{beside_feeds}
use Rattle.ntx_run.proofs.inputs.read_inputs.Goals as goal

pub read_empty-requires : goal.read_empty-requires
read_empty-requires g c = (_, refl)

pub returns-in_err-commands-clause-reads : goal.returns-in_err-commands-clause-reads
returns-in_err-commands-clause-reads g c =
    let p = err_from_is_err_and c.from_residual.result c.from_residual.ensures.1 in
    rw (p.1, p.2) (AtDocument _ (beside_feeds _ c.args.feeds.now _ _ (Err _) c.in_err-commands.ensures.reads) refl refl refl)

pub returns-in_err-read_empty-clause-reads : goal.returns-in_err-read_empty-clause-reads
returns-in_err-read_empty-clause-reads g c =
    let p = err_from_is_err_and c.from_residual-in_err-read_empty.result c.from_residual-in_err-read_empty.ensures.1 in
    rw (p.1, p.2) (AtScript _ _ (beside_feeds _ c.args.feeds.now _ _ (Ok _) c.in_ok-commands.ensures.reads) c.in_err-read_empty.ensures refl refl)

pub returns-in_err-read_empty-2-clause-reads : goal.returns-in_err-read_empty-2-clause-reads
returns-in_err-read_empty-2-clause-reads g c =
    let p = err_from_is_err_and c.from_residual-in_err-read_empty-2.result c.from_residual-in_err-read_empty-2.ensures.1 in
    rw (p.1, p.2) (AtPatterns _ _ (beside_feeds _ c.args.feeds.now _ _ (Ok _) c.in_ok-commands.ensures.reads) c.in_ok-read_empty.ensures c.in_err-read_empty-2.ensures refl)

pub returns-in_err-fonts-clause-reads : goal.returns-in_err-fonts-clause-reads
returns-in_err-fonts-clause-reads g c =
    let p = err_from_is_err_and c.from_residual-in_err-fonts.result c.from_residual-in_err-fonts.ensures.1 in
    rw (p.1, p.2) (AtFonts _ _ (beside_feeds _ c.args.feeds.now _ _ (Ok _) c.in_ok-commands.ensures.reads) c.in_ok-read_empty.ensures c.in_ok-read_empty-2.ensures c.in_err-fonts.ensures)

pub returns-clause-reads : goal.returns-clause-reads
returns-clause-reads g c =
    AtFonts _ _ (beside_feeds _ c.args.feeds.now _ _ (Ok _) c.in_ok-commands.ensures.reads) c.in_ok-read_empty.ensures c.in_ok-read_empty-2.ensures c.in_ok-fonts.ensures
