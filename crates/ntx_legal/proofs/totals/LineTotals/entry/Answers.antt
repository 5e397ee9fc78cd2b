use Rattle.std.proofs.Common.{◌≡◌, ◌+◌, length, ◌∙◌, ap, arith}
use Rattle.std.proofs.lemmas.List.FromFn.{length-map-range_with_len}
use Rattle.ntx_legal.specs.Totals.{entry_of}
use Rattle.ntx_legal.proofs.TotalsLemmas.{entry_at}
use Rattle.ntx_legal.proofs.totals.LineTotals.entry.Goals as goal

pub index-requires : goal.index-requires
index-requires c =
    let count : length c.args.self.now.entries.items ≡ length c.args.items.now + 1 = ap length c.requires.totals ∙ length-map-range_with_len (entry_of c.args.items.now) 0 (length c.args.items.now + 1) in
    grind arith

pub returns : goal.returns
returns c = c.index.ensures ∙ entry_at c.args.items.now c.args.self.now.entries.items c.args.n c.index.result.now c.requires.totals c.requires.n
