-- Where the parts of expressions have a name too many.
use Rattle.std.proofs.Common.{◌≡◌, ℕ, ℤ, List, [], ◌∷◌, Option, None, Some, refl, sym, ◌∙◌, ap}
use Rattle.ntx_syntax.specs.declared.tree.UnaryOp.{UnaryOp}
use Rattle.ntx_syntax.specs.declared.tree.FunctionBody.{FunctionBody}
use Rattle.ntx_syntax.specs.declared.tree.Exp.{Exp}
use Rattle.ntx_syntax.specs.declared.tree.Field.{Field}
use Rattle.ntx_syntax.specs.declared.tree.Head.{Head}
use Rattle.ntx_syntax.specs.declared.tree.Suffix.{Suffix}
use Rattle.ntx_syntax.specs.declared.tree.Operation.{Operation}
use Rattle.ntx_syntax.specs.declared.tree.Prefix.{Prefix}
use Rattle.ntx_syntax.specs.declared.tree.Exp.TheVariants as exp
use Rattle.ntx_syntax.specs.declared.tree.Field.TheVariants as field
use Rattle.ntx_syntax.specs.declared.tree.Head.TheVariants as head
use Rattle.ntx_syntax.specs.declared.tree.Suffix.TheVariants as suffix
use Rattle.ntx_syntax.specs.declared.tree.Exp.TheOpen.{Exp-F, Field-F, Head-F, Suffix-F}
use Rattle.ntx_syntax.specs.declared.tree.Exp.TheFolds.{fold-roll-Exp, fold-roll-Field, fold-roll-Head, fold-roll-Suffix, fold_out-Prefix, fold_out-Operation}
use Rattle.ntx_resolve.specs.Limit.{Inner, Outer, Declaring, or_else, first, exp_layer, field_layer, head_layer, kind_layer, suffix_layer, var_layer, block_layer, call_layer, body_layer, arm_layer, operation_layer, prefix_layer, return_layer, stat_layer, excess_of_exp, excess_of_field, excess_of_head, excess_of_suffix, excess_of_operation, excess_of_prefix, excess_of_body, excess_of_exps, excess_of_fields, excess_of_suffixes, excess_of_operations}

pub nil : excess_of_exp (exp.Nil) ≡ None
nil = ap excess_of_exp (sym exp.rolls-Nil) ∙ fold-roll-Exp Inner Inner Inner Declaring Inner Inner Outer Inner Inner Outer Inner Inner Inner Declaring
    exp_layer field_layer head_layer kind_layer suffix_layer var_layer block_layer call_layer body_layer arm_layer operation_layer prefix_layer return_layer stat_layer (Exp-F.Nil)

pub false_ : excess_of_exp (exp.False) ≡ None
false_ = ap excess_of_exp (sym exp.rolls-False) ∙ fold-roll-Exp Inner Inner Inner Declaring Inner Inner Outer Inner Inner Outer Inner Inner Inner Declaring
    exp_layer field_layer head_layer kind_layer suffix_layer var_layer block_layer call_layer body_layer arm_layer operation_layer prefix_layer return_layer stat_layer (Exp-F.False)

pub true_ : excess_of_exp (exp.True) ≡ None
true_ = ap excess_of_exp (sym exp.rolls-True) ∙ fold-roll-Exp Inner Inner Inner Declaring Inner Inner Outer Inner Inner Outer Inner Inner Inner Declaring
    exp_layer field_layer head_layer kind_layer suffix_layer var_layer block_layer call_layer body_layer arm_layer operation_layer prefix_layer return_layer stat_layer (Exp-F.True)

pub numeral : (value : ℤ) → excess_of_exp (exp.Numeral value) ≡ None
numeral value = ap excess_of_exp (sym (exp.rolls-Numeral value)) ∙ fold-roll-Exp Inner Inner Inner Declaring Inner Inner Outer Inner Inner Outer Inner Inner Inner Declaring
    exp_layer field_layer head_layer kind_layer suffix_layer var_layer block_layer call_layer body_layer arm_layer operation_layer prefix_layer return_layer stat_layer (Exp-F.Numeral value)

pub text : (bytes : List ℕ) → excess_of_exp (exp.Text bytes) ≡ None
text bytes = ap excess_of_exp (sym (exp.rolls-Text bytes)) ∙ fold-roll-Exp Inner Inner Inner Declaring Inner Inner Outer Inner Inner Outer Inner Inner Inner Declaring
    exp_layer field_layer head_layer kind_layer suffix_layer var_layer block_layer call_layer body_layer arm_layer operation_layer prefix_layer return_layer stat_layer (Exp-F.Text bytes)

pub function : (body : FunctionBody) → excess_of_exp (exp.Function body) ≡ excess_of_body body
function body = ap excess_of_exp (sym (exp.rolls-Function body)) ∙ fold-roll-Exp Inner Inner Inner Declaring Inner Inner Outer Inner Inner Outer Inner Inner Inner Declaring
    exp_layer field_layer head_layer kind_layer suffix_layer var_layer block_layer call_layer body_layer arm_layer operation_layer prefix_layer return_layer stat_layer (Exp-F.Exp::Function body)

pub prefix_exp : (p : Prefix) → excess_of_exp (exp.Prefix p) ≡ excess_of_prefix p
prefix_exp p = ap excess_of_exp (sym (exp.rolls-Prefix p)) ∙ fold-roll-Exp Inner Inner Inner Declaring Inner Inner Outer Inner Inner Outer Inner Inner Inner Declaring
    exp_layer field_layer head_layer kind_layer suffix_layer var_layer block_layer call_layer body_layer arm_layer operation_layer prefix_layer return_layer stat_layer (Exp-F.Prefix p)

pub table : (fields : List Field) → excess_of_exp (exp.Table fields) ≡ excess_of_fields fields
table fields = ap excess_of_exp (sym (exp.rolls-Table fields)) ∙ fold-roll-Exp Inner Inner Inner Declaring Inner Inner Outer Inner Inner Outer Inner Inner Inner Declaring
    exp_layer field_layer head_layer kind_layer suffix_layer var_layer block_layer call_layer body_layer arm_layer operation_layer prefix_layer return_layer stat_layer (Exp-F.Table fields)

pub binary : (a : Exp) (others : List Operation) → excess_of_exp (exp.Binary a others) ≡ or_else (excess_of_exp a) (excess_of_operations others)
binary a others = ap excess_of_exp (sym (exp.rolls-Binary a others)) ∙ fold-roll-Exp Inner Inner Inner Declaring Inner Inner Outer Inner Inner Outer Inner Inner Inner Declaring
    exp_layer field_layer head_layer kind_layer suffix_layer var_layer block_layer call_layer body_layer arm_layer operation_layer prefix_layer return_layer stat_layer (Exp-F.Binary a others)

pub unary : (op : UnaryOp) (a : Exp) → excess_of_exp (exp.Unary op a) ≡ excess_of_exp a
unary op a = ap excess_of_exp (sym (exp.rolls-Unary op a)) ∙ fold-roll-Exp Inner Inner Inner Declaring Inner Inner Outer Inner Inner Outer Inner Inner Inner Declaring
    exp_layer field_layer head_layer kind_layer suffix_layer var_layer block_layer call_layer body_layer arm_layer operation_layer prefix_layer return_layer stat_layer (Exp-F.Unary op a)

pub keyed : (key : Exp) (value : Exp) → excess_of_field (field.Keyed key value) ≡ or_else (excess_of_exp key) (excess_of_exp value)
keyed key value = ap excess_of_field (sym (field.rolls-Keyed key value)) ∙ fold-roll-Field Inner Inner Inner Declaring Inner Inner Outer Inner Inner Outer Inner Inner Inner Declaring
    exp_layer field_layer head_layer kind_layer suffix_layer var_layer block_layer call_layer body_layer arm_layer operation_layer prefix_layer return_layer stat_layer (Field-F.Keyed key value)

pub named : (name : List ℕ) (value : Exp) → excess_of_field (field.Named name value) ≡ excess_of_exp value
named name value = ap excess_of_field (sym (field.rolls-Named name value)) ∙ fold-roll-Field Inner Inner Inner Declaring Inner Inner Outer Inner Inner Outer Inner Inner Inner Declaring
    exp_layer field_layer head_layer kind_layer suffix_layer var_layer block_layer call_layer body_layer arm_layer operation_layer prefix_layer return_layer stat_layer (Field-F.Named name value)

pub positional : (value : Exp) → excess_of_field (field.Positional value) ≡ excess_of_exp value
positional value = ap excess_of_field (sym (field.rolls-Positional value)) ∙ fold-roll-Field Inner Inner Inner Declaring Inner Inner Outer Inner Inner Outer Inner Inner Inner Declaring
    exp_layer field_layer head_layer kind_layer suffix_layer var_layer block_layer call_layer body_layer arm_layer operation_layer prefix_layer return_layer stat_layer (Field-F.Positional value)

pub name_head : (name : List ℕ) → excess_of_head (head.Name name) ≡ None
name_head name = ap excess_of_head (sym (head.rolls-Name name)) ∙ fold-roll-Head Inner Inner Inner Declaring Inner Inner Outer Inner Inner Outer Inner Inner Inner Declaring
    exp_layer field_layer head_layer kind_layer suffix_layer var_layer block_layer call_layer body_layer arm_layer operation_layer prefix_layer return_layer stat_layer (Head-F.Head::Name name)

pub parenthesized : (e : Exp) → excess_of_head (head.Parenthesized e) ≡ excess_of_exp e
parenthesized e = ap excess_of_head (sym (head.rolls-Parenthesized e)) ∙ fold-roll-Head Inner Inner Inner Declaring Inner Inner Outer Inner Inner Outer Inner Inner Inner Declaring
    exp_layer field_layer head_layer kind_layer suffix_layer var_layer block_layer call_layer body_layer arm_layer operation_layer prefix_layer return_layer stat_layer (Head-F.Parenthesized e)

pub index_suffix : (key : Exp) → excess_of_suffix (suffix.Index key) ≡ excess_of_exp key
index_suffix key = ap excess_of_suffix (sym (suffix.rolls-Index key)) ∙ fold-roll-Suffix Inner Inner Inner Declaring Inner Inner Outer Inner Inner Outer Inner Inner Inner Declaring
    exp_layer field_layer head_layer kind_layer suffix_layer var_layer block_layer call_layer body_layer arm_layer operation_layer prefix_layer return_layer stat_layer (Suffix-F.Suffix::Index key)

pub field_suffix : (name : List ℕ) → excess_of_suffix (suffix.Field name) ≡ None
field_suffix name = ap excess_of_suffix (sym (suffix.rolls-Field name)) ∙ fold-roll-Suffix Inner Inner Inner Declaring Inner Inner Outer Inner Inner Outer Inner Inner Inner Declaring
    exp_layer field_layer head_layer kind_layer suffix_layer var_layer block_layer call_layer body_layer arm_layer operation_layer prefix_layer return_layer stat_layer (Suffix-F.Suffix::Field name)

pub call_suffix : (arguments : List Exp) → excess_of_suffix (suffix.Call arguments) ≡ excess_of_exps arguments
call_suffix arguments = ap excess_of_suffix (sym (suffix.rolls-Call arguments)) ∙ fold-roll-Suffix Inner Inner Inner Declaring Inner Inner Outer Inner Inner Outer Inner Inner Inner Declaring
    exp_layer field_layer head_layer kind_layer suffix_layer var_layer block_layer call_layer body_layer arm_layer operation_layer prefix_layer return_layer stat_layer (Suffix-F.Suffix::Call arguments)

pub prefix : (p : Prefix) → excess_of_prefix p ≡ or_else (excess_of_head p.head) (excess_of_suffixes p.suffixes)
prefix p = fold_out-Prefix Inner Inner Inner Declaring Inner Inner Outer Inner Inner Outer Inner Inner Inner Declaring
    exp_layer field_layer head_layer kind_layer suffix_layer var_layer block_layer call_layer body_layer arm_layer operation_layer prefix_layer return_layer stat_layer p

pub operation : (o : Operation) → excess_of_operation o ≡ excess_of_exp o.operand
operation o = fold_out-Operation Inner Inner Inner Declaring Inner Inner Outer Inner Inner Outer Inner Inner Inner Declaring
    exp_layer field_layer head_layer kind_layer suffix_layer var_layer block_layer call_layer body_layer arm_layer operation_layer prefix_layer return_layer stat_layer o
