use Rattle.std.proofs.Common.{List, ℕ, length, [], Result}
use Rattle.ntx_num.specs.declared.answer.Fail.{Fail}
use Rattle.ntx_syntax.specs.declared.fault.SyntaxFault.{SyntaxFault}
use Rattle.ntx_parse.specs.inner.Reading.{readers}
use Rattle.ntx_parse.specs.inner.Input.{Input}
use Rattle.ntx_parse.specs.inner.Reads.{Reads}
use Rattle.ntx_parse.proofs.names.path.Given as goal

-- what is read from here on is what is read from the start
abbrev pub invariant-loop-alloc : goal.invariant-loop-alloc
invariant-loop-alloc l = (r : Result (List (List ℕ)) (Fail SyntaxFault)) (new : Input)
    → Reads (λ n. (readers n).path l.place l.names l.parser.words) l.parser r new → Reads (λ n. (readers n).path l.place [] l.fn.parser.words) l.fn.parser r new

abbrev pub decreases-loop-alloc : goal.decreases-loop-alloc
decreases-loop-alloc l = length l.parser.words
