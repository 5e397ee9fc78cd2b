use Rattle.std.proofs.Common.{List, length, [], Result}
use Rattle.ntx_num.specs.declared.answer.Fail.{Fail}
use Rattle.ntx_syntax.specs.declared.fault.SyntaxFault.{SyntaxFault}
use Rattle.ntx_syntax.specs.declared.tree.Operation.{Operation}
use Rattle.ntx_parse.specs.inner.Reading.{readers}
use Rattle.ntx_parse.specs.inner.Input.{Input}
use Rattle.ntx_parse.specs.inner.Reads.{Reads}
use Rattle.ntx_parse.proofs.rules.Rules.operations_behind.Given as goal

-- what is read from here on is what is read from the start
abbrev pub invariant-loop-operator : goal.invariant-loop-operator
invariant-loop-operator g l = (r : Result (List Operation) (Fail SyntaxFault)) (new : Input)
    → Reads (λ n. (readers n).operations l.place l.precedence l.operations l.parser.words) l.parser r new → Reads (λ n. (readers n).operations l.place l.precedence [] l.fn.parser.words) l.fn.parser r new

abbrev pub decreases-loop-operator : goal.decreases-loop-operator
decreases-loop-operator g l = length l.parser.words
