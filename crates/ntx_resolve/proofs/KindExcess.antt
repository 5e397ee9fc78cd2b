-- Where statements have a name too many, and how many they declare.
use Rattle.std.proofs.Common.{◌≡◌, ℕ, ◌+◌, List, ◌∷◌, [], length, map, Option, None, Some, refl, sym, ◌∙◌, ap}
use Rattle.std.specs.Option.{option_map}
use Rattle.ntx_syntax.specs.declared.tree.FunctionBody.{FunctionBody, out-FunctionBody}
use Rattle.ntx_syntax.specs.declared.tree.LocalName.{LocalName}
use Rattle.ntx_syntax.specs.declared.tree.Exp.{Exp}
use Rattle.ntx_syntax.specs.declared.tree.Var.{Var}
use Rattle.ntx_syntax.specs.declared.tree.Call.{Call}
use Rattle.ntx_syntax.specs.declared.tree.Block.{Block, out-Block, roll-Block}
use Rattle.ntx_syntax.specs.declared.tree.Exp.TheViews.{roll-out-Block}
use Rattle.ntx_syntax.specs.declared.tree.IfArm.{IfArm, out-IfArm}
use Rattle.ntx_syntax.specs.declared.tree.Stat.{Stat}
use Rattle.ntx_syntax.specs.declared.tree.Return.{Return}
use Rattle.ntx_syntax.specs.declared.tree.StatKind.{StatKind}
use Rattle.ntx_syntax.specs.declared.tree.StatKind.TheVariants as stat
use Rattle.ntx_syntax.specs.declared.tree.Exp.TheOpen.{StatKind-F}
use Rattle.ntx_syntax.specs.declared.tree.Exp.TheFolds.{fold-roll-StatKind, fold-roll-Block, fold_out-Stat, fold_out-Return, fold_out-IfArm, fold_out-FunctionBody}
use Rattle.ntx_resolve.specs.Limit.{Inner, Outer, Declaring, or_else, first, first_of, in_else, exp_layer, field_layer, head_layer, kind_layer, suffix_layer, var_layer, block_layer, call_layer, body_layer, arm_layer, operation_layer, prefix_layer, return_layer, stat_layer, excess_of_exp, excess_of_exps, excess_of_vars, excess_of_call, excess_of_body, excess_of_block, excess_of_arm, excess_of_return, excess_of_names, excess_of_stats, excess_of_last, of_kind, of_stat}

pub empty : of_kind (stat.Empty) ≡ record { excess = λ n. None; declares = 0 }
empty = ap of_kind (sym stat.rolls-Empty) ∙ fold-roll-StatKind Inner Inner Inner Declaring Inner Inner Outer Inner Inner Outer Inner Inner Inner Declaring
    exp_layer field_layer head_layer kind_layer suffix_layer var_layer block_layer call_layer body_layer arm_layer operation_layer prefix_layer return_layer stat_layer (StatKind-F.Empty)

pub break_ : of_kind (stat.Break) ≡ record { excess = λ n. None; declares = 0 }
break_ = ap of_kind (sym stat.rolls-Break) ∙ fold-roll-StatKind Inner Inner Inner Declaring Inner Inner Outer Inner Inner Outer Inner Inner Inner Declaring
    exp_layer field_layer head_layer kind_layer suffix_layer var_layer block_layer call_layer body_layer arm_layer operation_layer prefix_layer return_layer stat_layer (StatKind-F.Break)

pub assign : (vars : List Var) (values : List Exp) → of_kind (stat.Assign vars values) ≡ record { excess = λ n. or_else (excess_of_vars vars) (excess_of_exps values); declares = 0 }
assign vars values = ap of_kind (sym (stat.rolls-Assign vars values)) ∙ fold-roll-StatKind Inner Inner Inner Declaring Inner Inner Outer Inner Inner Outer Inner Inner Inner Declaring
    exp_layer field_layer head_layer kind_layer suffix_layer var_layer block_layer call_layer body_layer arm_layer operation_layer prefix_layer return_layer stat_layer (StatKind-F.Assign vars values)

pub call_stat : (c : Call) → of_kind (stat.Call c) ≡ record { excess = λ n. excess_of_call c; declares = 0 }
call_stat c = ap of_kind (sym (stat.rolls-Call c)) ∙ fold-roll-StatKind Inner Inner Inner Declaring Inner Inner Outer Inner Inner Outer Inner Inner Inner Declaring
    exp_layer field_layer head_layer kind_layer suffix_layer var_layer block_layer call_layer body_layer arm_layer operation_layer prefix_layer return_layer stat_layer (StatKind-F.StatKind::Call c)

pub do_block : (b : Block) → of_kind (stat.Do b) ≡ record { excess = λ n. excess_of_block b n; declares = 0 }
do_block b = ap of_kind (sym (stat.rolls-Do b)) ∙ fold-roll-StatKind Inner Inner Inner Declaring Inner Inner Outer Inner Inner Outer Inner Inner Inner Declaring
    exp_layer field_layer head_layer kind_layer suffix_layer var_layer block_layer call_layer body_layer arm_layer operation_layer prefix_layer return_layer stat_layer (StatKind-F.Do b)

pub while : (e : Exp) (b : Block) → of_kind (stat.While e b) ≡ record { excess = λ n. or_else (excess_of_exp e) (excess_of_block b n); declares = 0 }
while e b = ap of_kind (sym (stat.rolls-While e b)) ∙ fold-roll-StatKind Inner Inner Inner Declaring Inner Inner Outer Inner Inner Outer Inner Inner Inner Declaring
    exp_layer field_layer head_layer kind_layer suffix_layer var_layer block_layer call_layer body_layer arm_layer operation_layer prefix_layer return_layer stat_layer (StatKind-F.While e b)

pub repeat : (b : Block) (e : Exp) → of_kind (stat.Repeat b e) ≡ record { excess = λ n. or_else (excess_of_block b n) (excess_of_exp e); declares = 0 }
repeat b e = ap of_kind (sym (stat.rolls-Repeat b e)) ∙ fold-roll-StatKind Inner Inner Inner Declaring Inner Inner Outer Inner Inner Outer Inner Inner Inner Declaring
    exp_layer field_layer head_layer kind_layer suffix_layer var_layer block_layer call_layer body_layer arm_layer operation_layer prefix_layer return_layer stat_layer (StatKind-F.Repeat b e)

pub if_none : (arms : List IfArm) → of_kind (stat.If arms None) ≡ record { excess = λ n. or_else (first (map (λ a. a n) (map excess_of_arm arms))) None; declares = 0 }
if_none arms = ap of_kind (sym (stat.rolls-If arms None)) ∙ fold-roll-StatKind Inner Inner Inner Declaring Inner Inner Outer Inner Inner Outer Inner Inner Inner Declaring
    exp_layer field_layer head_layer kind_layer suffix_layer var_layer block_layer call_layer body_layer arm_layer operation_layer prefix_layer return_layer stat_layer (StatKind-F.If arms None)

pub if_some : (arms : List IfArm) (b : Block) → of_kind (stat.If arms (Some b)) ≡ record { excess = λ n. or_else (first (map (λ a. a n) (map excess_of_arm arms))) (excess_of_block b n); declares = 0 }
if_some arms b = ap of_kind (sym (stat.rolls-If arms (Some b))) ∙ fold-roll-StatKind Inner Inner Inner Declaring Inner Inner Outer Inner Inner Outer Inner Inner Inner Declaring
    exp_layer field_layer head_layer kind_layer suffix_layer var_layer block_layer call_layer body_layer arm_layer operation_layer prefix_layer return_layer stat_layer (StatKind-F.If arms (Some b))

pub counted_for : (name : LocalName) (from : Exp) (limit : Exp) (b : Block) → of_kind (stat.NumericFor name from limit None b) ≡ record { excess = λ n. or_else (excess_of_names n (name ∷ [])) (or_else (excess_of_exp from) (or_else (excess_of_exp limit) (excess_of_block b (n + 1)))); declares = 0 }
counted_for name from limit b = ap of_kind (sym (stat.rolls-NumericFor name from limit None b)) ∙ fold-roll-StatKind Inner Inner Inner Declaring Inner Inner Outer Inner Inner Outer Inner Inner Inner Declaring
    exp_layer field_layer head_layer kind_layer suffix_layer var_layer block_layer call_layer body_layer arm_layer operation_layer prefix_layer return_layer stat_layer (StatKind-F.NumericFor name from limit None b)

pub stepped_for : (name : LocalName) (from : Exp) (limit : Exp) (step : Exp) (b : Block) → of_kind (stat.NumericFor name from limit (Some step) b) ≡ record { excess = λ n. or_else (excess_of_names n (name ∷ [])) (or_else (excess_of_exp from) (or_else (excess_of_exp limit) (or_else (excess_of_exp step) (excess_of_block b (n + 1))))); declares = 0 }
stepped_for name from limit step b = ap of_kind (sym (stat.rolls-NumericFor name from limit (Some step) b)) ∙ fold-roll-StatKind Inner Inner Inner Declaring Inner Inner Outer Inner Inner Outer Inner Inner Inner Declaring
    exp_layer field_layer head_layer kind_layer suffix_layer var_layer block_layer call_layer body_layer arm_layer operation_layer prefix_layer return_layer stat_layer (StatKind-F.NumericFor name from limit (Some step) b)

pub generic_for : (names : List LocalName) (values : List Exp) (b : Block) → of_kind (stat.GenericFor names values b) ≡ record { excess = λ n. or_else (excess_of_names n names) (or_else (excess_of_exps values) (excess_of_block b (n + length names))); declares = 0 }
generic_for names values b = ap of_kind (sym (stat.rolls-GenericFor names values b)) ∙ fold-roll-StatKind Inner Inner Inner Declaring Inner Inner Outer Inner Inner Outer Inner Inner Inner Declaring
    exp_layer field_layer head_layer kind_layer suffix_layer var_layer block_layer call_layer body_layer arm_layer operation_layer prefix_layer return_layer stat_layer (StatKind-F.GenericFor names values b)

pub function_stat : (name : List ℕ) (path : List (List ℕ)) (body : FunctionBody) → of_kind (stat.Function name path body) ≡ record { excess = λ n. excess_of_body body; declares = 0 }
function_stat name path body = ap of_kind (sym (stat.rolls-Function name path body)) ∙ fold-roll-StatKind Inner Inner Inner Declaring Inner Inner Outer Inner Inner Outer Inner Inner Inner Declaring
    exp_layer field_layer head_layer kind_layer suffix_layer var_layer block_layer call_layer body_layer arm_layer operation_layer prefix_layer return_layer stat_layer (StatKind-F.StatKind::Function name path body)

pub local_function : (name : LocalName) (body : FunctionBody) → of_kind (stat.LocalFunction name body) ≡ record { excess = λ n. or_else (excess_of_names n (name ∷ [])) (excess_of_body body); declares = 1 }
local_function name body = ap of_kind (sym (stat.rolls-LocalFunction name body)) ∙ fold-roll-StatKind Inner Inner Inner Declaring Inner Inner Outer Inner Inner Outer Inner Inner Inner Declaring
    exp_layer field_layer head_layer kind_layer suffix_layer var_layer block_layer call_layer body_layer arm_layer operation_layer prefix_layer return_layer stat_layer (StatKind-F.LocalFunction name body)

pub local : (names : List LocalName) (values : List Exp) → of_kind (stat.Local names values) ≡ record { excess = λ n. or_else (excess_of_names n names) (excess_of_exps values); declares = length names }
local names values = ap of_kind (sym (stat.rolls-Local names values)) ∙ fold-roll-StatKind Inner Inner Inner Declaring Inner Inner Outer Inner Inner Outer Inner Inner Inner Declaring
    exp_layer field_layer head_layer kind_layer suffix_layer var_layer block_layer call_layer body_layer arm_layer operation_layer prefix_layer return_layer stat_layer (StatKind-F.Local names values)

pub statement : (t : Stat) → of_stat t ≡ of_kind t.kind
statement t = fold_out-Stat Inner Inner Inner Declaring Inner Inner Outer Inner Inner Outer Inner Inner Inner Declaring
    exp_layer field_layer head_layer kind_layer suffix_layer var_layer block_layer call_layer body_layer arm_layer operation_layer prefix_layer return_layer stat_layer t

pub return_values : (r : Return) → excess_of_return r ≡ excess_of_exps r.values
return_values r = fold_out-Return Inner Inner Inner Declaring Inner Inner Outer Inner Inner Outer Inner Inner Inner Declaring
    exp_layer field_layer head_layer kind_layer suffix_layer var_layer block_layer call_layer body_layer arm_layer operation_layer prefix_layer return_layer stat_layer r

pub arm : (a : IfArm) (n : ℕ) → excess_of_arm a n ≡ or_else (excess_of_exp (out-IfArm a).condition) (excess_of_block (out-IfArm a).block n)
arm a n = ap (λ f. f n) (fold_out-IfArm Inner Inner Inner Declaring Inner Inner Outer Inner Inner Outer Inner Inner Inner Declaring
    exp_layer field_layer head_layer kind_layer suffix_layer var_layer block_layer call_layer body_layer arm_layer operation_layer prefix_layer return_layer stat_layer a)

pub body : (b : FunctionBody) → excess_of_body b ≡ or_else (excess_of_names 0 (out-FunctionBody b).parameters) (excess_of_block (out-FunctionBody b).block (length (out-FunctionBody b).parameters))
body b = fold_out-FunctionBody Inner Inner Inner Declaring Inner Inner Outer Inner Inner Outer Inner Inner Inner Declaring
    exp_layer field_layer head_layer kind_layer suffix_layer var_layer block_layer call_layer body_layer arm_layer operation_layer prefix_layer return_layer stat_layer b

rolled_block : (ss : List Stat) (last : Option Return) (n : ℕ) → excess_of_block (roll-Block (record { stats = ss; last = last })) n ≡ or_else (excess_of_stats n ss) (excess_of_last last)
rolled_block ss None n = ap (λ f. f n) (fold-roll-Block Inner Inner Inner Declaring Inner Inner Outer Inner Inner Outer Inner Inner Inner Declaring
    exp_layer field_layer head_layer kind_layer suffix_layer var_layer block_layer call_layer body_layer arm_layer operation_layer prefix_layer return_layer stat_layer (record { stats = ss; last = None }))
rolled_block ss (Some r) n = ap (λ f. f n) (fold-roll-Block Inner Inner Inner Declaring Inner Inner Outer Inner Inner Outer Inner Inner Inner Declaring
    exp_layer field_layer head_layer kind_layer suffix_layer var_layer block_layer call_layer body_layer arm_layer operation_layer prefix_layer return_layer stat_layer (record { stats = ss; last = Some r }))

pub block : (b : Block) (n : ℕ) → excess_of_block b n ≡ or_else (excess_of_stats n (out-Block b).stats) (excess_of_last (out-Block b).last)
block b n = ap (λ z. excess_of_block z n) (sym (roll-out-Block b)) ∙ rolled_block (out-Block b).stats (out-Block b).last n

pub or_none : (o : Option ℕ) → or_else o None ≡ o
or_none None = refl
or_none (Some n) = refl

pub arms_same : (n : ℕ) (arms : List IfArm) → first (map (λ a. a n) (map excess_of_arm arms)) ≡ first (map (λ a. excess_of_arm a n) arms)
arms_same n [] = refl
arms_same n (a ∷ rest) = ap (or_else (excess_of_arm a n)) (arms_same n rest)
