-- Where the parts of statements have a name too many.
use Rattle.std.proofs.Common.{◌≡◌, ℕ, List, ◌∷◌, [], Option, None, refl, sym, ◌∙◌, ap}
use Rattle.ntx_syntax.specs.declared.tree.FunctionBody.{FunctionBody}
use Rattle.ntx_syntax.specs.declared.tree.LocalName.{LocalName}
use Rattle.ntx_syntax.specs.declared.tree.Exp.{Exp}
use Rattle.ntx_syntax.specs.declared.tree.Prefix.{Prefix}
use Rattle.ntx_syntax.specs.declared.tree.Var.{Var}
use Rattle.ntx_syntax.specs.declared.tree.Call.{Call}
use Rattle.ntx_syntax.specs.declared.tree.Var.TheVariants as var
use Rattle.ntx_syntax.specs.declared.tree.Exp.TheOpen.{Var-F}
use Rattle.ntx_syntax.specs.declared.tree.Exp.TheFolds.{fold-roll-Var, fold_out-Call}
use Rattle.ntx_resolve.specs.Limit.{Inner, Outer, Declaring, or_else, first, exp_layer, field_layer, head_layer, kind_layer, suffix_layer, var_layer, block_layer, call_layer, body_layer, arm_layer, operation_layer, prefix_layer, return_layer, stat_layer, excess_of_exp, excess_of_var, excess_of_prefix, excess_of_call, excess_of_exps}

pub name_var : (name : List ℕ) → excess_of_var (var.Name name) ≡ None
name_var name = ap excess_of_var (sym (var.rolls-Name name)) ∙ fold-roll-Var Inner Inner Inner Declaring Inner Inner Outer Inner Inner Outer Inner Inner Inner Declaring
    exp_layer field_layer head_layer kind_layer suffix_layer var_layer block_layer call_layer body_layer arm_layer operation_layer prefix_layer return_layer stat_layer (Var-F.Var::Name name)

pub index_var : (p : Prefix) (key : Exp) → excess_of_var (var.Index p key) ≡ or_else (excess_of_prefix p) (excess_of_exp key)
index_var p key = ap excess_of_var (sym (var.rolls-Index p key)) ∙ fold-roll-Var Inner Inner Inner Declaring Inner Inner Outer Inner Inner Outer Inner Inner Inner Declaring
    exp_layer field_layer head_layer kind_layer suffix_layer var_layer block_layer call_layer body_layer arm_layer operation_layer prefix_layer return_layer stat_layer (Var-F.Var::Index p key)

pub field_var : (p : Prefix) (name : List ℕ) → excess_of_var (var.Field p name) ≡ excess_of_prefix p
field_var p name = ap excess_of_var (sym (var.rolls-Field p name)) ∙ fold-roll-Var Inner Inner Inner Declaring Inner Inner Outer Inner Inner Outer Inner Inner Inner Declaring
    exp_layer field_layer head_layer kind_layer suffix_layer var_layer block_layer call_layer body_layer arm_layer operation_layer prefix_layer return_layer stat_layer (Var-F.Var::Field p name)

pub call : (c : Call) → excess_of_call c ≡ or_else (excess_of_prefix c.function) (excess_of_exps c.arguments)
call c = fold_out-Call Inner Inner Inner Declaring Inner Inner Outer Inner Inner Outer Inner Inner Inner Declaring
    exp_layer field_layer head_layer kind_layer suffix_layer var_layer block_layer call_layer body_layer arm_layer operation_layer prefix_layer return_layer stat_layer c
