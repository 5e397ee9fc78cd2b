use Rattle.std.proofs.Common.{◌≡◌, ◌∙◌, refl, sym, ap, subst}
use Rattle.ntx_syntax.specs.declared.tree.Exp.TheVariants as exp
use Rattle.ntx_syntax.specs.declared.tree.Field.TheVariants as field
use Rattle.ntx_syntax.specs.declared.tree.Head.TheVariants as head
use Rattle.ntx_syntax.specs.declared.tree.Suffix.TheVariants as suffix
use Rattle.ntx_resolve.specs.declared.code.Exp.TheVariants as code-exp
use Rattle.ntx_resolve.specs.declared.code.Field.TheVariants as code-field
use Rattle.ntx_resolve.specs.declared.code.Head.TheVariants as code-head
use Rattle.ntx_resolve.specs.declared.code.Suffix.TheVariants as code-suffix
use Rattle.ntx_resolve.specs.HasCode as code
use Rattle.ntx_resolve.specs.Limit as limit
use Rattle.ntx_resolve.proofs.Arms.{in_exp, in_field, in_head, in_suffix, IsOperation}
use Rattle.ntx_resolve.proofs.Lists.{begun, failed_at, gone_on_at, ended_at}
use Rattle.ntx_resolve.proofs.Excess as excess
use Rattle.ntx_resolve.proofs.Resolving.{said, ok, err_by, last, last_err, last_err_by, no_memory_by, done}
use Rattle.ntx_resolve.proofs.resolver.Resolver.+exps.Goals as goal

pub boxed_exp-returns-in_err-code : goal.boxed_exp-returns-in_err-code
boxed_exp-returns-in_err-code g t c = last_err_by _ c.from_residual.ensures.1 c.in_err-code.ensures

pub boxed_exp-returns-in_err-new : goal.boxed_exp-returns-in_err-new
boxed_exp-returns-in_err-new g t c = no_memory_by _ c.from_residual-in_err-new.ensures.1

pub boxed_exp-returns : goal.boxed_exp-returns
boxed_exp-returns g t c = last c.in_ok-code.ensures (λ s all is. subst (λ z. code.IsExp all s c.args.exp.now z) (sym c.in_ok-new.ensures) is)

pub exp-returns-in-Nil : goal.exp-returns-in-Nil
exp-returns-in-Nil g t c = in_exp c.in-Nil.is (said excess.nil (done (λ all. code.nil)))

pub exp-returns-in-False : goal.exp-returns-in-False
exp-returns-in-False g t c = in_exp c.in-False.is (said excess.false_ (done (λ all. code.false_)))

pub exp-returns-in-True : goal.exp-returns-in-True
exp-returns-in-True g t c = in_exp c.in-True.is (said excess.true_ (done (λ all. code.true_)))

pub exp-returns-in-Numeral : goal.exp-returns-in-Numeral
exp-returns-in-Numeral g t c = in_exp c.in-Numeral.is (said (excess.numeral c.in-Numeral.value) (done (λ all. subst (λ z. code.IsExp all c.args.state.now.scope (exp.Numeral c.in-Numeral.value) z) (sym c.numeral.ensures) code.numeral)))

pub exp-returns-in_err-copied-in-Text : goal.exp-returns-in_err-copied-in-Text
exp-returns-in_err-copied-in-Text g t c = no_memory_by _ c.from_residual.ensures.1

pub exp-returns-in_ok-copied-in-Text : goal.exp-returns-in_ok-copied-in-Text
exp-returns-in_ok-copied-in-Text g t c = in_exp c.in-Text.is (said (excess.text c.in-Text.bytes) (done (λ all. subst (λ z. code.IsExp all c.args.state.now.scope (exp.Text c.in-Text.bytes) (code-exp.Text z)) (sym c.in_ok-copied-in-Text.ensures) code.text)))

pub exp-returns-in_err-number-in-Function : goal.exp-returns-in_err-number-in-Function
exp-returns-in_err-number-in-Function g t c = in_exp (c.in-Function.is ∙ ap exp.Function (sym c.get.ensures)) (said (excess.function c.get.result.now) (last_err_by _ c.from_residual-in_err-number-in-Function.ensures.1 c.in_err-number-in-Function.ensures))

pub exp-returns-in_ok-number-in-Function : goal.exp-returns-in_ok-number-in-Function
exp-returns-in_ok-number-in-Function g t c = in_exp (c.in-Function.is ∙ ap exp.Function (sym c.get.ensures)) (said (excess.function c.get.result.now) (last c.in_ok-number-in-Function.ensures (λ s all is. code.function_exp is)))

pub exp-returns-in_err-head-in-Prefix : goal.exp-returns-in_err-head-in-Prefix
exp-returns-in_err-head-in-Prefix g t c = in_exp c.in-Prefix.is (said (excess.prefix_exp c.in-Prefix.prefix ∙ excess.prefix c.in-Prefix.prefix) (err_by _ _ c.from_residual-in_err-head-in-Prefix.ensures.1 c.in_err-head-in-Prefix.ensures))

pub exp-returns-in_err-suffixes-in-Prefix : goal.exp-returns-in_err-suffixes-in-Prefix
exp-returns-in_err-suffixes-in-Prefix g t c = in_exp (c.in-Prefix.is ∙ ap (λ z. exp.Prefix (record { head = c.in-Prefix.prefix.head; suffixes = z })) (sym c.as_slice.ensures)) (said (excess.prefix_exp (record { head = c.in-Prefix.prefix.head; suffixes = c.as_slice.result.now }) ∙ excess.prefix (record { head = c.in-Prefix.prefix.head; suffixes = c.as_slice.result.now })) (ok c.in_ok-head-in-Prefix.ensures (last_err_by _ c.from_residual-in_err-suffixes-in-Prefix.ensures.1 c.in_err-suffixes-in-Prefix.ensures)))

pub exp-returns-in_ok-suffixes-in-Prefix : goal.exp-returns-in_ok-suffixes-in-Prefix
exp-returns-in_ok-suffixes-in-Prefix g t c = in_exp (c.in-Prefix.is ∙ ap (λ z. exp.Prefix (record { head = c.in-Prefix.prefix.head; suffixes = z })) (sym c.as_slice.ensures)) (said (excess.prefix_exp (record { head = c.in-Prefix.prefix.head; suffixes = c.as_slice.result.now }) ∙ excess.prefix (record { head = c.in-Prefix.prefix.head; suffixes = c.as_slice.result.now })) (ok c.in_ok-head-in-Prefix.ensures (last c.in_ok-suffixes-in-Prefix.ensures (λ s all suffixes head. code.prefix_exp (code.prefix head suffixes)))))

pub exp-returns-in_err-fields-in-Table : goal.exp-returns-in_err-fields-in-Table
exp-returns-in_err-fields-in-Table g t c = in_exp (c.in-Table.is ∙ ap exp.Table (sym c.as_slice-in-Table.ensures)) (said (excess.table c.as_slice-in-Table.result.now) (last_err_by _ c.from_residual-in_err-fields-in-Table.ensures.1 c.in_err-fields-in-Table.ensures))

pub exp-returns-in_ok-fields-in-Table : goal.exp-returns-in_ok-fields-in-Table
exp-returns-in_ok-fields-in-Table g t c = in_exp (c.in-Table.is ∙ ap exp.Table (sym c.as_slice-in-Table.ensures)) (said (excess.table c.as_slice-in-Table.result.now) (last c.in_ok-fields-in-Table.ensures (λ s all is. code.table is)))

pub exp-returns-in_err-first-in-Binary : goal.exp-returns-in_err-first-in-Binary
exp-returns-in_err-first-in-Binary g t c = in_exp (c.in-Binary.is ∙ ap (λ z. exp.Binary z c.in-Binary.others) (sym c.get-in-Binary.ensures)) (said (excess.binary c.get-in-Binary.result.now c.in-Binary.others) (err_by _ _ c.from_residual-in_err-first-in-Binary.ensures.1 c.in_err-first-in-Binary.ensures))

pub exp-returns-in_err-others-in-Binary : goal.exp-returns-in_err-others-in-Binary
exp-returns-in_err-others-in-Binary g t c = in_exp (c.in-Binary.is ∙ ap (λ z. exp.Binary z c.in-Binary.others) (sym c.get-in-Binary.ensures) ∙ ap (λ z. exp.Binary c.get-in-Binary.result.now z) (sym c.as_slice-in-Binary.ensures)) (said (excess.binary c.get-in-Binary.result.now c.as_slice-in-Binary.result.now) (ok c.in_ok-first-in-Binary.ensures (last_err_by _ c.from_residual-in_err-others-in-Binary.ensures.1 c.in_err-others-in-Binary.ensures)))

pub exp-returns-in_ok-others-in-Binary : goal.exp-returns-in_ok-others-in-Binary
exp-returns-in_ok-others-in-Binary g t c = in_exp (c.in-Binary.is ∙ ap (λ z. exp.Binary z c.in-Binary.others) (sym c.get-in-Binary.ensures) ∙ ap (λ z. exp.Binary c.get-in-Binary.result.now z) (sym c.as_slice-in-Binary.ensures)) (said (excess.binary c.get-in-Binary.result.now c.as_slice-in-Binary.result.now) (ok c.in_ok-first-in-Binary.ensures (last c.in_ok-others-in-Binary.ensures (λ s all others first. code.binary first others))))

pub exp-returns-in_err-operand-in-Unary : goal.exp-returns-in_err-operand-in-Unary
exp-returns-in_err-operand-in-Unary g t c = in_exp (c.in-Unary.is ∙ ap (exp.Unary c.in-Unary.operator) (sym c.get-in-Unary.ensures)) (said (excess.unary c.in-Unary.operator c.get-in-Unary.result.now) (last_err_by _ c.from_residual-in_err-operand-in-Unary.ensures.1 c.in_err-operand-in-Unary.ensures))

pub exp-returns-in_ok-operand-in-Unary : goal.exp-returns-in_ok-operand-in-Unary
exp-returns-in_ok-operand-in-Unary g t c = in_exp (c.in-Unary.is ∙ ap (exp.Unary c.in-Unary.operator) (sym c.get-in-Unary.ensures)) (said (excess.unary c.in-Unary.operator c.get-in-Unary.result.now) (last c.in_ok-operand-in-Unary.ensures (λ s all is. code.unary is)))

pub field-returns-in_err-key-in-Keyed : goal.field-returns-in_err-key-in-Keyed
field-returns-in_err-key-in-Keyed g t c = in_field (c.in-Keyed.is ∙ ap (λ z. field.Keyed z c.in-Keyed.value) (sym c.get.ensures)) (said (excess.keyed c.get.result.now c.in-Keyed.value) (err_by _ _ c.from_residual.ensures.1 c.in_err-key-in-Keyed.ensures))

pub field-returns-in_err-value-in-Keyed : goal.field-returns-in_err-value-in-Keyed
field-returns-in_err-value-in-Keyed g t c = in_field (c.in-Keyed.is ∙ ap (λ z. field.Keyed z c.in-Keyed.value) (sym c.get.ensures) ∙ ap (λ z. field.Keyed c.get.result.now z) (sym c.get-in-Keyed.ensures)) (said (excess.keyed c.get.result.now c.get-in-Keyed.result.now) (ok c.in_ok-key-in-Keyed.ensures (last_err_by _ c.from_residual-in_err-value-in-Keyed.ensures.1 c.in_err-value-in-Keyed.ensures)))

pub field-returns-in_ok-value-in-Keyed : goal.field-returns-in_ok-value-in-Keyed
field-returns-in_ok-value-in-Keyed g t c = in_field (c.in-Keyed.is ∙ ap (λ z. field.Keyed z c.in-Keyed.value) (sym c.get.ensures) ∙ ap (λ z. field.Keyed c.get.result.now z) (sym c.get-in-Keyed.ensures)) (said (excess.keyed c.get.result.now c.get-in-Keyed.result.now) (ok c.in_ok-key-in-Keyed.ensures (last c.in_ok-value-in-Keyed.ensures (λ s all value key. code.keyed key value))))

pub field-returns-in_err-value-in-Named : goal.field-returns-in_err-value-in-Named
field-returns-in_err-value-in-Named g t c = in_field (c.in-Named.is ∙ ap (field.Named c.in-Named.name) (sym c.get-in-Named.ensures)) (said (excess.named c.in-Named.name c.get-in-Named.result.now) (last_err_by _ c.from_residual-in_err-value-in-Named.ensures.1 c.in_err-value-in-Named.ensures))

pub field-returns-in_err-copied-in-Named : goal.field-returns-in_err-copied-in-Named
field-returns-in_err-copied-in-Named g t c = no_memory_by _ c.from_residual-in_err-copied-in-Named.ensures.1

pub field-returns-in_ok-copied-in-Named : goal.field-returns-in_ok-copied-in-Named
field-returns-in_ok-copied-in-Named g t c = in_field (c.in-Named.is ∙ ap (field.Named c.in-Named.name) (sym c.get-in-Named.ensures)) (said (excess.named c.in-Named.name c.get-in-Named.result.now) (last c.in_ok-value-in-Named.ensures (λ s all is. subst (λ z. code.IsField all s (field.Named c.in-Named.name c.get-in-Named.result.now) (code-field.Named z c.in_ok-value-in-Named.value)) (sym c.in_ok-copied-in-Named.ensures) (code.named is))))

pub field-returns-in_err-value-in-Positional : goal.field-returns-in_err-value-in-Positional
field-returns-in_err-value-in-Positional g t c = in_field c.in-Positional.is (said (excess.positional _) (last_err_by _ c.from_residual-in_err-value-in-Positional.ensures.1 c.in_err-value-in-Positional.ensures))

pub field-returns-in_ok-value-in-Positional : goal.field-returns-in_ok-value-in-Positional
field-returns-in_ok-value-in-Positional g t c = in_field c.in-Positional.is (said (excess.positional _) (last c.in_ok-value-in-Positional.ensures (λ s all is. code.positional is)))

pub head-returns-in_err-copied-in-Name : goal.head-returns-in_err-copied-in-Name
head-returns-in_err-copied-in-Name g t c = no_memory_by _ c.from_residual.ensures.1

pub head-returns-in_ok-copied-in-Name : goal.head-returns-in_ok-copied-in-Name
head-returns-in_ok-copied-in-Name g t c = in_head c.in-Name.is (said (excess.name_head c.in-Name.name) (done (λ all. subst (λ z. code.IsHead all c.args.state.now.scope (head.Name c.in-Name.name) (code-head.Name z c.variable-variable.result)) (sym c.in_ok-copied-in-Name.ensures) (code.name_head c.variable-variable.ensures))))

pub head-returns-in_err-exp-in-Parenthesized : goal.head-returns-in_err-exp-in-Parenthesized
head-returns-in_err-exp-in-Parenthesized g t c = in_head (c.in-Parenthesized.is ∙ ap head.Parenthesized (sym c.get.ensures)) (said (excess.parenthesized c.get.result.now) (last_err_by _ c.from_residual-in_err-exp-in-Parenthesized.ensures.1 c.in_err-exp-in-Parenthesized.ensures))

pub head-returns-in_ok-exp-in-Parenthesized : goal.head-returns-in_ok-exp-in-Parenthesized
head-returns-in_ok-exp-in-Parenthesized g t c = in_head (c.in-Parenthesized.is ∙ ap head.Parenthesized (sym c.get.ensures)) (said (excess.parenthesized c.get.result.now) (last c.in_ok-exp-in-Parenthesized.ensures (λ s all is. code.parenthesized is)))

pub suffix-returns-in_err-key-in-Index : goal.suffix-returns-in_err-key-in-Index
suffix-returns-in_err-key-in-Index g t c = in_suffix (c.in-Index.is ∙ ap suffix.Index (sym c.get.ensures)) (said (excess.index_suffix c.get.result.now) (last_err_by _ c.from_residual.ensures.1 c.in_err-key-in-Index.ensures))

pub suffix-returns-in_ok-key-in-Index : goal.suffix-returns-in_ok-key-in-Index
suffix-returns-in_ok-key-in-Index g t c = in_suffix (c.in-Index.is ∙ ap suffix.Index (sym c.get.ensures)) (said (excess.index_suffix c.get.result.now) (last c.in_ok-key-in-Index.ensures (λ s all is. code.index_suffix is)))

pub suffix-returns-in_err-copied-in-Field : goal.suffix-returns-in_err-copied-in-Field
suffix-returns-in_err-copied-in-Field g t c = no_memory_by _ c.from_residual-in_err-copied-in-Field.ensures.1

pub suffix-returns-in_ok-copied-in-Field : goal.suffix-returns-in_ok-copied-in-Field
suffix-returns-in_ok-copied-in-Field g t c = in_suffix c.in-Field.is (said (excess.field_suffix c.in-Field.name) (done (λ all. subst (λ z. code.IsSuffix all c.args.state.now.scope (suffix.Field c.in-Field.name) (code-suffix.Field z)) (sym c.in_ok-copied-in-Field.ensures) code.field_suffix)))

pub suffix-returns-in_err-arguments-in-Call : goal.suffix-returns-in_err-arguments-in-Call
suffix-returns-in_err-arguments-in-Call g t c = in_suffix (c.in-Call.is ∙ ap suffix.Call (sym c.as_slice.ensures)) (said (excess.call_suffix c.as_slice.result.now) (last_err_by _ c.from_residual-in_err-arguments-in-Call.ensures.1 c.in_err-arguments-in-Call.ensures))

pub suffix-returns-in_ok-arguments-in-Call : goal.suffix-returns-in_ok-arguments-in-Call
suffix-returns-in_ok-arguments-in-Call g t c = in_suffix (c.in-Call.is ∙ ap suffix.Call (sym c.as_slice.ensures)) (said (excess.call_suffix c.as_slice.result.now) (last c.in_ok-arguments-in-Call.ensures (λ s all is. code.call_suffix is)))

pub exps-loop-exp-init : goal.exps-loop-exp-init
exps-loop-exp-init g t c = begun limit.excess_of_exp (λ s all xs cs. code.IsExps all s xs cs) c.args.exps.now _ c.new-codes.ensures

pub exps-returns-in_err-exp : goal.exps-returns-in_err-exp
exps-returns-in_err-exp g t c = failed_at limit.excess_of_exp (λ s all xs cs. code.IsExps all s xs cs) (λ s all x y. code.IsExp all s x y) c.args.exps.now c.loop-exp.exp-index c.exp-item.result c.loop-exp.codes _ c.exp-item.is c.loop-exp-test.true c.loop-exp.invariant c.from_residual.ensures.1 c.in_err-exp.ensures

pub exps-returns-in_err-push : goal.exps-returns-in_err-push
exps-returns-in_err-push g t c = no_memory_by _ c.from_residual-in_err-push.ensures.1

pub exps-loop-exp-preserved : goal.exps-loop-exp-preserved
exps-loop-exp-preserved g t c = gone_on_at limit.excess_of_exp (λ s all xs cs. code.IsExps all s xs cs) (λ s all x y. code.IsExp all s x y) c.args.exps.now c.loop-exp.exp-index c.exp-item.result c.loop-exp.codes c.push.new.self (λ s all left x xs is are. code.next_exp is are) c.exp-item.is c.loop-exp-test.true c.loop-exp.invariant c.in_ok-exp.ensures c.in_ok-push.ensures.ok

pub exps-returns : goal.exps-returns
exps-returns g t c = ended_at limit.excess_of_exp (λ s all xs cs. code.IsExps all s xs cs) c.args.exps.now c.loop-exp.exp-index c.loop-exp.codes (λ s all. code.no_exps) c.loop-exp-test.false c.loop-exp.invariant

pub fields-loop-field-init : goal.fields-loop-field-init
fields-loop-field-init g t c = begun limit.excess_of_field (λ s all xs cs. code.IsFields all s xs cs) c.args.fields.now _ c.new-codes.ensures

pub fields-returns-in_err-field : goal.fields-returns-in_err-field
fields-returns-in_err-field g t c = failed_at limit.excess_of_field (λ s all xs cs. code.IsFields all s xs cs) (λ s all x y. code.IsField all s x y) c.args.fields.now c.loop-field.field-index c.field-item.result c.loop-field.codes _ c.field-item.is c.loop-field-test.true c.loop-field.invariant c.from_residual.ensures.1 c.in_err-field.ensures

pub fields-returns-in_err-push : goal.fields-returns-in_err-push
fields-returns-in_err-push g t c = no_memory_by _ c.from_residual-in_err-push.ensures.1

pub fields-loop-field-preserved : goal.fields-loop-field-preserved
fields-loop-field-preserved g t c = gone_on_at limit.excess_of_field (λ s all xs cs. code.IsFields all s xs cs) (λ s all x y. code.IsField all s x y) c.args.fields.now c.loop-field.field-index c.field-item.result c.loop-field.codes c.push.new.self (λ s all left x xs is are. code.next_field is are) c.field-item.is c.loop-field-test.true c.loop-field.invariant c.in_ok-field.ensures c.in_ok-push.ensures.ok

pub fields-returns : goal.fields-returns
fields-returns g t c = ended_at limit.excess_of_field (λ s all xs cs. code.IsFields all s xs cs) c.args.fields.now c.loop-field.field-index c.loop-field.codes (λ s all. code.no_fields) c.loop-field-test.false c.loop-field.invariant

pub suffixes-loop-suffix-init : goal.suffixes-loop-suffix-init
suffixes-loop-suffix-init g t c = begun limit.excess_of_suffix (λ s all xs cs. code.IsSuffixes all s xs cs) c.args.suffixes.now _ c.new-codes.ensures

pub suffixes-returns-in_err-suffix : goal.suffixes-returns-in_err-suffix
suffixes-returns-in_err-suffix g t c = failed_at limit.excess_of_suffix (λ s all xs cs. code.IsSuffixes all s xs cs) (λ s all x y. code.IsSuffix all s x y) c.args.suffixes.now c.loop-suffix.suffix-index c.suffix-item.result c.loop-suffix.codes _ c.suffix-item.is c.loop-suffix-test.true c.loop-suffix.invariant c.from_residual.ensures.1 c.in_err-suffix.ensures

pub suffixes-returns-in_err-push : goal.suffixes-returns-in_err-push
suffixes-returns-in_err-push g t c = no_memory_by _ c.from_residual-in_err-push.ensures.1

pub suffixes-loop-suffix-preserved : goal.suffixes-loop-suffix-preserved
suffixes-loop-suffix-preserved g t c = gone_on_at limit.excess_of_suffix (λ s all xs cs. code.IsSuffixes all s xs cs) (λ s all x y. code.IsSuffix all s x y) c.args.suffixes.now c.loop-suffix.suffix-index c.suffix-item.result c.loop-suffix.codes c.push.new.self (λ s all left x xs is are. code.next_suffix is are) c.suffix-item.is c.loop-suffix-test.true c.loop-suffix.invariant c.in_ok-suffix.ensures c.in_ok-push.ensures.ok

pub suffixes-returns : goal.suffixes-returns
suffixes-returns g t c = ended_at limit.excess_of_suffix (λ s all xs cs. code.IsSuffixes all s xs cs) c.args.suffixes.now c.loop-suffix.suffix-index c.loop-suffix.codes (λ s all. code.no_suffixes) c.loop-suffix-test.false c.loop-suffix.invariant

pub operations-loop-operation-init : goal.operations-loop-operation-init
operations-loop-operation-init g t c = begun limit.excess_of_operation (λ s all xs cs. code.IsOperations all s xs cs) c.args.operations.now _ c.new-codes.ensures

pub operations-returns-in_err-operand : goal.operations-returns-in_err-operand
operations-returns-in_err-operand g t c = failed_at limit.excess_of_operation (λ s all xs cs. code.IsOperations all s xs cs) (λ s all x y. IsOperation all s x y) c.args.operations.now c.loop-operation.operation-index c.operation-item.result c.loop-operation.codes {new = c.args.state.now} _ c.operation-item.is c.loop-operation-test.true c.loop-operation.invariant c.from_residual.ensures.1 (said (excess.operation c.operation-item.result) (last_err c.in_err-operand.ensures))

pub operations-returns-in_err-push : goal.operations-returns-in_err-push
operations-returns-in_err-push g t c = no_memory_by _ c.from_residual-in_err-push.ensures.1

pub operations-loop-operation-preserved : goal.operations-loop-operation-preserved
operations-loop-operation-preserved g t c = gone_on_at limit.excess_of_operation (λ s all xs cs. code.IsOperations all s xs cs) (λ s all x y. IsOperation all s x y) c.args.operations.now c.loop-operation.operation-index c.operation-item.result c.loop-operation.codes c.push.new.self (λ s all left x xs is are. code.next_operation is.0 is.1 are) c.operation-item.is c.loop-operation-test.true c.loop-operation.invariant (said (excess.operation c.operation-item.result) (last c.in_ok-operand.ensures (λ s all is. (refl, is)))) c.in_ok-push.ensures.ok

pub operations-returns : goal.operations-returns
operations-returns g t c = ended_at limit.excess_of_operation (λ s all xs cs. code.IsOperations all s xs cs) c.args.operations.now c.loop-operation.operation-index c.loop-operation.codes (λ s all. code.no_operations) c.loop-operation-test.false c.loop-operation.invariant
