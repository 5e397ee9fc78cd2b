use Rattle.std.proofs.Common.{◌≡◌, ◌-◌, ◌∙◌, ap, sym, take, drop}
use Rattle.std.specs.Prelude.{min}
use Rattle.ntx_legal.specs.LineSums.{sums_of}
use Rattle.ntx_legal.proofs.TotalsLemmas.{kept_later, kept_start}
use Rattle.ntx_legal.proofs.totals.LineTotals.start.Goals as goal

pub returns-clause-value : goal.returns-clause-value
returns-clause-value c =
    let items = c.args.items.now in
    let start : c.min.result ≡ kept_start items c.args.from c.args.to = c.min.ensures ∙ ap (λ e. min e.kept (c.args.to - 1)) c.entry-kept.ensures in
    ap sums_of (kept_later items c.args.from c.args.to c.requires.order (sym c.keeps_all.ensures ∙ c.if-keeps_all.false)
    ∙ ap (λ s. take (c.args.to - 1 - s) (drop s items)) (sym start))
