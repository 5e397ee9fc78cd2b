use Rattle.std.proofs.Common.{◌≡◌, ◌+◌, ◌∙◌, refl, sym, ap, subst, [], ◌∷◌, length, map, None, Some, arith}
use Rattle.ntx_syntax.specs.declared.tree.StatKind.TheVariants as stat
use Rattle.ntx_syntax.specs.declared.tree.Block as tree-block
use Rattle.ntx_syntax.specs.declared.tree.FunctionBody as tree-body
use Rattle.ntx_syntax.specs.declared.tree.IfArm as tree-arm
use Rattle.ntx_resolve.specs.declared.code.StatKind.TheVariants as code-stat
use Rattle.ntx_resolve.specs.HasCode as code
use Rattle.ntx_resolve.specs.Limit as limit
use Rattle.ntx_resolve.specs.Scopes as scopes
use Rattle.ntx_resolve.specs.inner.Closed.{IsClosed, IsArm}
use Rattle.ntx_resolve.proofs.KindExcess as kinds
use Rattle.ntx_resolve.proofs.Allowing.{allowed, not_allowed}
use Rattle.ntx_resolve.proofs.Resolving.{said, ok, ok_in, stayed, err_by, last, last_here, last_err, last_err_by, no_memory_by, done}
use Rattle.ntx_resolve.proofs.Extending.{err_here, first_err_here, longer_after, longer_from, closed, enclosed, repeated, repeated_err, locals-entered, locals-declared, room}
use Rattle.ntx_resolve.proofs.IfExcess.{with_none, with_else}
use Rattle.ntx_resolve.proofs.Stats.{in_kind, plain, names}
use Rattle.ntx_resolve.proofs.resolver.Resolver.kind.Goals as goal

pub returns-in-Empty : goal.returns-in-Empty
returns-in-Empty g c = in_kind c.in-Empty.is (plain stat.Empty kinds.empty refl (done (λ all. code.empty)))

pub returns-in-Break : goal.returns-in-Break
returns-in-Break g c = in_kind c.in-Break.is (plain stat.Break kinds.break_ refl (done (λ all. code.break)))

pub returns-in-Assign : goal.returns-in-Assign
returns-in-Assign g c = in_kind (c.in-Assign.is ∙ ap (λ z. stat.Assign z (c.in-Assign.values)) (sym c.as_slice.ensures) ∙ ap (λ z. stat.Assign (c.as_slice.result.now) z) (sym c.as_slice-in-Assign.ensures)) (plain (stat.Assign (c.as_slice.result.now) (c.as_slice-in-Assign.result.now)) (kinds.assign (c.as_slice.result.now) (c.as_slice-in-Assign.result.now)) refl c.assignment.ensures)

pub returns-in-Call : goal.returns-in-Call
returns-in-Call g c = in_kind (c.in-Call.is ∙ ap (λ z. stat.Call z) (sym c.get.ensures)) (plain (stat.Call (c.get.result.now)) (kinds.call_stat (c.get.result.now)) refl c.call.ensures)

pub returns-in-Do : goal.returns-in-Do
returns-in-Do g c = in_kind (c.in-Do.is ∙ ap (λ z. stat.Do z) (sym c.get-in-Do.ensures)) (plain (stat.Do (c.get-in-Do.result.now)) (kinds.do_block (c.get-in-Do.result.now)) refl c.do_block.ensures)

pub returns-in-While : goal.returns-in-While
returns-in-While g c = in_kind (c.in-While.is ∙ ap (λ z. stat.While z (c.in-While.block)) (sym c.get-in-While.ensures) ∙ ap (λ z. stat.While (c.get-in-While.result.now) z) (sym c.get-in-While-2.ensures)) (plain (stat.While (c.get-in-While.result.now) (c.get-in-While-2.result.now)) (kinds.while (c.get-in-While.result.now) (c.get-in-While-2.result.now)) refl c.while_loop.ensures)

pub returns-in-Repeat : goal.returns-in-Repeat
returns-in-Repeat g c = in_kind (c.in-Repeat.is ∙ ap (λ z. stat.Repeat z (c.in-Repeat.condition)) (sym c.get-in-Repeat.ensures) ∙ ap (λ z. stat.Repeat (c.get-in-Repeat.result.now) z) (sym c.get-in-Repeat-2.ensures)) (plain (stat.Repeat (c.get-in-Repeat.result.now) (c.get-in-Repeat-2.result.now)) (kinds.repeat (c.get-in-Repeat.result.now) (c.get-in-Repeat-2.result.now)) refl c.repeat_loop.ensures)

pub returns-in-None : goal.returns-in-None
returns-in-None g c = in_kind (c.in-If.is ∙ ap (λ z. stat.If z c.in-If.other) (sym c.as_slice-arms.ensures) ∙ ap (stat.If c.as_slice-arms.result.now) c.in-None.is) (plain (stat.If c.as_slice-arms.result.now None) (kinds.if_none c.as_slice-arms.result.now) refl (said (with_none (scopes.locals c.args.state.now.scope) c.as_slice-arms.result.now) c.if_stat.ensures))

pub returns-in-Some : goal.returns-in-Some
returns-in-Some g c = in_kind (c.in-If.is ∙ ap (λ z. stat.If z c.in-If.other) (sym c.as_slice-arms.ensures) ∙ ap (stat.If c.as_slice-arms.result.now) (c.in-Some.is ∙ ap Some (sym c.get-other.ensures))) (plain (stat.If c.as_slice-arms.result.now (Some c.get-other.result.now)) (kinds.if_some c.as_slice-arms.result.now c.get-other.result.now) refl (said (with_else (scopes.locals c.args.state.now.scope) c.as_slice-arms.result.now c.get-other.result.now) c.if_else.ensures))

pub returns-in-None-step : goal.returns-in-None-step
returns-in-None-step g c = in_kind (c.in-NumericFor.is ∙ ap (λ z. stat.NumericFor z (c.in-NumericFor.from) (c.in-NumericFor.limit) (c.in-NumericFor.step) (c.in-NumericFor.block)) (sym c.get-name.ensures) ∙ ap (λ z. stat.NumericFor (c.get-name.result.now) z (c.in-NumericFor.limit) (c.in-NumericFor.step) (c.in-NumericFor.block)) (sym c.get-from.ensures) ∙ ap (λ z. stat.NumericFor (c.get-name.result.now) (c.get-from.result.now) z (c.in-NumericFor.step) (c.in-NumericFor.block)) (sym c.get-limit.ensures) ∙ ap (λ z. stat.NumericFor (c.get-name.result.now) (c.get-from.result.now) (c.get-limit.result.now) (c.in-NumericFor.step) z) (sym c.get-block.ensures) ∙ ap (λ z. stat.NumericFor (c.get-name.result.now) (c.get-from.result.now) (c.get-limit.result.now) z (c.get-block.result.now)) (c.in-None-step.is)) (plain (stat.NumericFor c.get-name.result.now c.get-from.result.now c.get-limit.result.now None c.get-block.result.now) (kinds.counted_for c.get-name.result.now c.get-from.result.now c.get-limit.result.now c.get-block.result.now) refl c.numeric_for.ensures)

pub returns-in-Some-step : goal.returns-in-Some-step
returns-in-Some-step g c = in_kind (c.in-NumericFor.is ∙ ap (λ z. stat.NumericFor z (c.in-NumericFor.from) (c.in-NumericFor.limit) (c.in-NumericFor.step) (c.in-NumericFor.block)) (sym c.get-name.ensures) ∙ ap (λ z. stat.NumericFor (c.get-name.result.now) z (c.in-NumericFor.limit) (c.in-NumericFor.step) (c.in-NumericFor.block)) (sym c.get-from.ensures) ∙ ap (λ z. stat.NumericFor (c.get-name.result.now) (c.get-from.result.now) z (c.in-NumericFor.step) (c.in-NumericFor.block)) (sym c.get-limit.ensures) ∙ ap (λ z. stat.NumericFor (c.get-name.result.now) (c.get-from.result.now) (c.get-limit.result.now) (c.in-NumericFor.step) z) (sym c.get-block.ensures) ∙ ap (λ z. stat.NumericFor (c.get-name.result.now) (c.get-from.result.now) (c.get-limit.result.now) z (c.get-block.result.now)) (c.in-Some-step.is ∙ ap Some (sym c.get-step.ensures))) (plain (stat.NumericFor c.get-name.result.now c.get-from.result.now c.get-limit.result.now (Some c.get-step.result.now) c.get-block.result.now) (kinds.stepped_for c.get-name.result.now c.get-from.result.now c.get-limit.result.now c.get-step.result.now c.get-block.result.now) refl c.stepped_for.ensures)

pub returns-in-GenericFor : goal.returns-in-GenericFor
returns-in-GenericFor g c = in_kind (c.in-GenericFor.is ∙ ap (λ z. stat.GenericFor z (c.in-GenericFor.values) (c.in-GenericFor.block)) (sym c.as_slice-in-GenericFor.ensures) ∙ ap (λ z. stat.GenericFor (c.as_slice-in-GenericFor.result.now) z (c.in-GenericFor.block)) (sym c.as_slice-in-GenericFor-2.ensures) ∙ ap (λ z. stat.GenericFor (c.as_slice-in-GenericFor.result.now) (c.as_slice-in-GenericFor-2.result.now) z) (sym c.get-in-GenericFor.ensures)) (plain (stat.GenericFor (c.as_slice-in-GenericFor.result.now) (c.as_slice-in-GenericFor-2.result.now) (c.get-in-GenericFor.result.now)) (kinds.generic_for (c.as_slice-in-GenericFor.result.now) (c.as_slice-in-GenericFor-2.result.now) (c.get-in-GenericFor.result.now)) refl c.generic_for.ensures)

pub returns-in-Function : goal.returns-in-Function
returns-in-Function g c = in_kind (c.in-Function.is ∙ ap (λ z. stat.Function (c.in-Function.name) z (c.in-Function.body)) (sym c.as_slice-in-Function.ensures) ∙ ap (λ z. stat.Function (c.in-Function.name) (c.as_slice-in-Function.result.now) z) (sym c.get-in-Function.ensures)) (plain (stat.Function (c.in-Function.name) (c.as_slice-in-Function.result.now) (c.get-in-Function.result.now)) (kinds.function_stat (c.in-Function.name) (c.as_slice-in-Function.result.now) (c.get-in-Function.result.now)) refl c.function_stat.ensures)

pub returns-in-LocalFunction : goal.returns-in-LocalFunction
returns-in-LocalFunction g c = in_kind (c.in-LocalFunction.is ∙ ap (λ z. stat.LocalFunction (c.in-LocalFunction.name) z) (sym c.get-in-LocalFunction.ensures)) (names (stat.LocalFunction (c.in-LocalFunction.name) (c.get-in-LocalFunction.result.now)) (kinds.local_function (c.in-LocalFunction.name) (c.get-in-LocalFunction.result.now)) c.local_function.ensures)

pub returns-in-Local : goal.returns-in-Local
returns-in-Local g c = in_kind (c.in-Local.is ∙ ap (λ z. stat.Local z (c.in-Local.values)) (sym c.as_slice-in-Local.ensures) ∙ ap (λ z. stat.Local (c.as_slice-in-Local.result.now) z) (sym c.as_slice-in-Local-2.ensures)) (names (stat.Local (c.as_slice-in-Local.result.now) (c.as_slice-in-Local-2.result.now)) (kinds.local (c.as_slice-in-Local.result.now) (c.as_slice-in-Local-2.result.now)) c.local.ensures)
