use Rattle.std.proofs.Common.{◌≡◌, ◌+◌, [], ◌∷◌, ◌++◌, map, ◌∙◌}
use Rattle.std.specs.List.{range_with_len}
use Rattle.ntx_legal.specs.Totals.{entry_of}
use Rattle.ntx_legal.proofs.TotalsLemmas.{entries_more}
use Rattle.ntx_legal.proofs.totals.LineTotals.new.Goals as goal

pub loop-i-preserved : goal.loop-i-preserved
loop-i-preserved c =
    let more : c.push-in-loop-i.new.self.items ≡ map (entry_of c.args.items.now) (range_with_len 0 (c.loop-i.i + 1 + 1)) =
    c.in_ok-push-2.ensures.items ∙ (λ j. c.loop-i.invariant.0 j ++ c.next_entry-entry.ensures j ∷ []) ∙ entries_more c.args.items.now c.loop-i.i in
    (more, c.next_entry-entry.ensures)
