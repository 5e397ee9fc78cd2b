use Rattle.std.proofs.Common.{max, get_or, ap, ◌∙◌, arith}
use Rattle.std.proofs.lemmas.List.{get_or_read}
use Rattle.ntx_patterns.proofs.DigitsLemmas.{raised_within, raised_behind}
use Rattle.ntx_patterns.proofs.trie.raise.Goals as goal
use Rattle.ntx_patterns.proofs.trie.raise.Goals.{then-i-len, else-i-len+in_ok-push}

pub loop-i-preserved : goal.loop-i-preserved
loop-i-preserved c = elim c.if-i-len.branch [
  | then-i-len w ↦
      let greater = w.max.ensures ∙ ap (λ n. max n (get_or c.args.digits.now c.loop-i.i 0)) (get_or_read c.loop-i.kept.items c.loop-i.i _ (omega arith) w.index.ensures 0) in
      ap (λ v. v.items) w.kept-is ∙ raised_within c.args.kept.now.items c.args.digits.now c.loop-i.kept.items c.loop-i.i w.max.result c.loop-i.invariant (omega arith) (omega arith) greater
  | else-i-len+in_ok-push w ↦ ap (λ v. v.items) w.kept-is ∙ w.in_ok-push.ensures.items ∙ raised_behind c.args.kept.now.items c.args.digits.now c.loop-i.kept.items c.loop-i.i c.loop-i.invariant (omega arith) (omega arith)
]
