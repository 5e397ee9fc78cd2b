use Rattle.std.proofs.Common.{◌≤◌, Ok}
use Rattle.ntx_parse.specs.inner.Reading.{readers}
use Rattle.ntx_parse.specs.inner.Reads.{Reads}
use Rattle.ntx_parse.proofs.Ranks.{rank}
use Rattle.ntx_parse.proofs.rules.Rules.level.Given as goal

-- What is read up to here has the operators of this precedence and of tighter ones.
abbrev pub invariant-loop-place : goal.invariant-loop-place
invariant-loop-place g l = record {
  reads : Reads (λ n. (readers n).exp l.place l.reached l.fn.parser.words) l.fn.parser (Ok l.exp) l.parser;
  rank : rank l.precedence ≤ rank l.reached;
}

abbrev pub decreases-loop-place : goal.decreases-loop-place
decreases-loop-place g l = rank l.reached
