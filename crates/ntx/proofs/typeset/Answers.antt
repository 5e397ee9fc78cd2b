use Rattle.std.proofs.Common.{rules}
use Rattle.ntx.proofs.Feeds.{refused_with_made, some_font}
use Rattle.ntx.proofs.typeset.Goals as goal
use Rattle.ntx.proofs.typeset.Goals.{then-not-is_empty+else-loop-path-test, else-not-is_empty}

pub returns-clause-only : goal.returns-clause-only
returns-clause-only c = λ ended. elim c.if-not-is_empty.branch [
  | then-not-is_empty+else-loop-path-test w ↦ some_font _ _ c.in-Ok.ensures (let is = c.is_empty.ensures in let holds = w.if-not-is_empty.true in search rules)
  | else-not-is_empty w ↦ refused_with_made (λ v. v.items) _ _ _ _ w.feeds-is c.new-feeds.ensures.items (c.run.ensures.1.words_refused ended)
]
