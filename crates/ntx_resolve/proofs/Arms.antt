-- A part of an expression, said by what it is made of.
use Rattle.std.proofs.Common.{◌≡◌, List, Result, sym, subst}
use Rattle.ntx_num.specs.declared.answer.Fail.{Fail}
use Rattle.ntx_syntax.specs.declared.fault.SyntaxFault.{SyntaxFault}
use Rattle.ntx_resolve.specs.declared.code.Function.{Function}
use Rattle.ntx_resolve.specs.declared.state.State.{State}
use Rattle.ntx_resolve.specs.Scopes.{Scope}
use Rattle.ntx_resolve.specs.HasCode.{IsExp, IsField, IsHead, IsSuffix, IsVar}
use Rattle.ntx_resolve.specs.Limit.{excess_of_exp, excess_of_field, excess_of_head, excess_of_suffix, excess_of_var}
use Rattle.ntx_resolve.specs.inner.Resolves.{Resolves}
use Rattle.ntx_syntax.specs.declared.tree.Var as tree-var
use Rattle.ntx_resolve.specs.declared.code.Var.{Var}
use Rattle.ntx_syntax.specs.declared.tree.Operation as tree-operation
use Rattle.ntx_resolve.specs.declared.code.Operation.{Operation}
use Rattle.ntx_syntax.specs.declared.tree.Exp as tree-Exp
use Rattle.ntx_resolve.specs.declared.code.Exp.{Exp}
use Rattle.ntx_syntax.specs.declared.tree.Field as tree-Field
use Rattle.ntx_resolve.specs.declared.code.Field.{Field}
use Rattle.ntx_syntax.specs.declared.tree.Head as tree-Head
use Rattle.ntx_resolve.specs.declared.code.Head.{Head}
use Rattle.ntx_syntax.specs.declared.tree.Suffix as tree-Suffix
use Rattle.ntx_resolve.specs.declared.code.Suffix.{Suffix}

pub in_exp : {e e2 : tree-Exp.Exp} {old new : State} {r : Result Exp (Fail SyntaxFault)} → e ≡ e2
    → Resolves (excess_of_exp e2) (λ s all c. IsExp all s e2 c) old r new → Resolves (excess_of_exp e) (λ s all c. IsExp all s e c) old r new
in_exp {old = old} {new = new} {r = r} is h = subst (λ e. Resolves (excess_of_exp e) (λ s all c. IsExp all s e c) old r new) (sym is) h

pub in_field : {e e2 : tree-Field.Field} {old new : State} {r : Result Field (Fail SyntaxFault)} → e ≡ e2
    → Resolves (excess_of_field e2) (λ s all c. IsField all s e2 c) old r new → Resolves (excess_of_field e) (λ s all c. IsField all s e c) old r new
in_field {old = old} {new = new} {r = r} is h = subst (λ e. Resolves (excess_of_field e) (λ s all c. IsField all s e c) old r new) (sym is) h

pub in_head : {e e2 : tree-Head.Head} {old new : State} {r : Result Head (Fail SyntaxFault)} → e ≡ e2
    → Resolves (excess_of_head e2) (λ s all c. IsHead all s e2 c) old r new → Resolves (excess_of_head e) (λ s all c. IsHead all s e c) old r new
in_head {old = old} {new = new} {r = r} is h = subst (λ e. Resolves (excess_of_head e) (λ s all c. IsHead all s e c) old r new) (sym is) h

pub in_suffix : {e e2 : tree-Suffix.Suffix} {old new : State} {r : Result Suffix (Fail SyntaxFault)} → e ≡ e2
    → Resolves (excess_of_suffix e2) (λ s all c. IsSuffix all s e2 c) old r new → Resolves (excess_of_suffix e) (λ s all c. IsSuffix all s e c) old r new
in_suffix {old = old} {new = new} {r = r} is h = subst (λ e. Resolves (excess_of_suffix e) (λ s all c. IsSuffix all s e c) old r new) (sym is) h

abbrev pub IsOperation : List Function → Scope → tree-operation.Operation → Operation → Type 0
IsOperation all s o c = (c.operator ≡ o.operator) × IsExp all s o.operand c.operand

pub in_var : {e e2 : tree-var.Var} {old new : State} {r : Result Var (Fail SyntaxFault)} → e ≡ e2
    → Resolves (excess_of_var e2) (λ s all c. IsVar all s e2 c) old r new → Resolves (excess_of_var e) (λ s all c. IsVar all s e c) old r new
in_var {old = old} {new = new} {r = r} is h = subst (λ e. Resolves (excess_of_var e) (λ s all c. IsVar all s e c) old r new) (sym is) h
