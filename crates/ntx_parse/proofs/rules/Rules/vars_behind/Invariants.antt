use Rattle.std.proofs.Common.{List, length, [], ◌∷◌, Result}
use Rattle.ntx_num.specs.declared.answer.Fail.{Fail}
use Rattle.ntx_syntax.specs.declared.fault.SyntaxFault.{SyntaxFault}
use Rattle.ntx_syntax.specs.declared.tree.Var.{Var}
use Rattle.ntx_parse.specs.inner.Reading.{readers}
use Rattle.ntx_parse.specs.inner.Input.{Input}
use Rattle.ntx_parse.specs.inner.Reads.{Reads}
use Rattle.ntx_parse.proofs.rules.Rules.vars_behind.Given as goal

-- what is read from here on is what is read from the start
abbrev pub invariant-loop-place : goal.invariant-loop-place
invariant-loop-place g l = (r : Result (List Var) (Fail SyntaxFault)) (new : Input)
    → Reads (λ n. (readers n).vars l.place l.vars l.parser.words) l.parser r new → Reads (λ n. (readers n).vars l.place (l.fn.first ∷ []) l.fn.parser.words) l.fn.parser r new

abbrev pub decreases-loop-place : goal.decreases-loop-place
decreases-loop-place g l = length l.parser.words
