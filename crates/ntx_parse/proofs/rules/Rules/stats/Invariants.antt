use Rattle.std.proofs.Common.{List, length, [], Result}
use Rattle.ntx_num.specs.declared.answer.Fail.{Fail}
use Rattle.ntx_syntax.specs.declared.fault.SyntaxFault.{SyntaxFault}
use Rattle.ntx_syntax.specs.declared.tree.Stat.{Stat}
use Rattle.ntx_parse.specs.inner.Reading.{readers}
use Rattle.ntx_parse.specs.inner.Input.{Input}
use Rattle.ntx_parse.specs.inner.Reads.{Reads}
use Rattle.ntx_parse.proofs.rules.Rules.stats.Given as goal

-- what is read from here on is what is read from the start
abbrev pub invariant-loop-terminal : goal.invariant-loop-terminal
invariant-loop-terminal g l = (r : Result (List Stat) (Fail SyntaxFault)) (new : Input)
    → Reads (λ n. (readers n).stats l.place l.stats l.parser.words) l.parser r new → Reads (λ n. (readers n).stats l.place [] l.fn.parser.words) l.fn.parser r new

abbrev pub decreases-loop-terminal : goal.decreases-loop-terminal
decreases-loop-terminal g l = length l.parser.words
