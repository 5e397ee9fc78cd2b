use Rattle.std.proofs.Common.{max, get_or, ap, ◌∙◌, arith}
use Rattle.ntx_patterns.specs.Kept.{row}
use Rattle.ntx_patterns.specs.Points.{digit_at}
use Rattle.ntx_patterns.proofs.WalkLemmas.{walked_start, walked_on, walked_off}
use Rattle.ntx_patterns.proofs.gaps.raise_matches.Goals as goal

pub loop-symbol-init : goal.loop-symbol-init
loop-symbol-init c =
    walked_start (row c.args.trie.now) c.args.rest.now c.args.place c.args.values.now c.raise.new.values
    (λ gap inside. c.raise.ensures gap (omega arith) ∙ ap (λ digits. max (get_or c.args.values.now gap 0) (digit_at digits c.args.place gap)) c.digits.ensures)

pub returns-in-None : goal.returns-in-None
returns-in-None c =
    walked_off (row c.args.trie.now) (row c.loop-symbol.node.now) c.args.rest.now c.args.place c.loop-symbol.symbol-index c.args.values.now c.loop-symbol.values (omega arith)
    c.loop-symbol.invariant c.in-None.ensures

pub loop-symbol-preserved : goal.loop-symbol-preserved
loop-symbol-preserved c =
    walked_on (row c.args.trie.now) (row c.loop-symbol.node.now) (row c.in-Some.child.now) c.args.rest.now c.args.place c.loop-symbol.symbol-index
    c.args.values.now c.loop-symbol.values c.raise-in-Some.new.values (omega arith) c.loop-symbol.invariant c.in-Some.ensures
    (λ gap inside. c.raise-in-Some.ensures gap (omega arith) ∙ ap (λ digits. max (get_or c.loop-symbol.values gap 0) (digit_at digits c.args.place gap)) c.digits-in-Some.ensures)
