-- Where a function of a script has more named local variables than it may (Lua 5.3 Reference Manual, section 3.5, has the scopes; the number is that of PUC-Lua 5.3).
-- A function may have 200 named local variables in scope at once. Its parameters are among them, and so are those that a later one of the same name hides; what a
-- loop keeps without a name is not. The names of a `local`, of a `local function` and of a loop stand before the values and the body of the statement,
-- so they come first in the order of the text.
--     excess_of_chunk chunk      the line of the first name of the script that is one too many
--     excess_of_block, ...       the same of its parts; where they can declare a name of their own, with this many local variables in scope
use Rattle.std.specs.Prelude.{ℕ, ◌+◌, nat_lt, List, [], ◌∷◌, map, length, Option, None, Some, if◌then◌else◌}
use Rattle.ntx_syntax.specs.declared.tree.LocalName.{LocalName}
use Rattle.ntx_syntax.specs.declared.tree.Chunk.{Chunk}
use Rattle.ntx_syntax.specs.declared.tree.Exp.{Exp, fold-Exp}
use Rattle.ntx_syntax.specs.declared.tree.Field.{Field, fold-Field}
use Rattle.ntx_syntax.specs.declared.tree.Head.{Head, fold-Head}
use Rattle.ntx_syntax.specs.declared.tree.StatKind.{StatKind, fold-StatKind}
use Rattle.ntx_syntax.specs.declared.tree.Suffix.{Suffix, fold-Suffix}
use Rattle.ntx_syntax.specs.declared.tree.Var.{Var, fold-Var}
use Rattle.ntx_syntax.specs.declared.tree.Block.{Block, fold-Block}
use Rattle.ntx_syntax.specs.declared.tree.Call.{Call, fold-Call}
use Rattle.ntx_syntax.specs.declared.tree.FunctionBody.{FunctionBody, fold-FunctionBody}
use Rattle.ntx_syntax.specs.declared.tree.IfArm.{IfArm, fold-IfArm}
use Rattle.ntx_syntax.specs.declared.tree.Operation.{Operation, fold-Operation}
use Rattle.ntx_syntax.specs.declared.tree.Prefix.{Prefix, fold-Prefix}
use Rattle.ntx_syntax.specs.declared.tree.Return.{Return, fold-Return}
use Rattle.ntx_syntax.specs.declared.tree.Stat.{Stat, fold-Stat}
use Rattle.ntx_syntax.specs.declared.tree.Exp.TheOpen.{Exp-F, Field-F, Head-F, StatKind-F, Suffix-F, Var-F, Block-F, Call-F, FunctionBody-F, IfArm-F, Operation-F, Prefix-F, Return-F, Stat-F}

-- how many named local variables of one function can be in scope at once
abbrev pub max_locals : ℕ
max_locals = 200

-- ---- the first of several

-- The first line, or the second if there is none.
abbrev pub or_else : Option ℕ → Option ℕ → Option ℕ
or_else (Some line) other = Some line
or_else None other = other

abbrev pub first : List (Option ℕ) → Option ℕ
first [] = None
first (o ∷ os) = or_else o (first os)

abbrev pub first_of : Option (Option ℕ) → Option ℕ
first_of None = None
first_of (Some o) = o

abbrev pub in_else : Option (ℕ → Option ℕ) → ℕ → Option ℕ
in_else None n = None
in_else (Some o) n = o n

-- The line of the first of these names that is one too many, if this many are in scope already.
abbrev pub excess_of_names : ℕ → List LocalName → Option ℕ
excess_of_names n [] = None
excess_of_names n (name ∷ names) = if nat_lt n max_locals then excess_of_names (n + 1) names else Some name.line

-- ---- the parts of a script

-- an expression, or another part that declares names only inside a function
abbrev pub Inner : Type 0
Inner = Option ℕ

-- a block, from the number of local variables of its function in scope where it begins
abbrev pub Outer : Type 0
Outer = ℕ → Option ℕ

-- a statement: the first excess in it, and how many names it declares for those that follow
pub record Declaring : Type 0 where
  pub excess : Outer
  pub declares : ℕ

abbrev declaring_none : Outer → Declaring
declaring_none excess = record { excess = excess; declares = 0 }

abbrev pub excess_of_each : ℕ → List Declaring → Option ℕ
excess_of_each n [] = None
excess_of_each n (s ∷ ss) = or_else (s.excess n) (excess_of_each (n + s.declares) ss)

abbrev pub exp_layer : Exp-F Inner Inner Inner Declaring Inner Inner Outer Inner Inner Outer Inner Inner Inner Declaring → Inner
exp_layer (Exp-F.Exp::Function body) = body
exp_layer (Exp-F.Prefix p) = p
exp_layer (Exp-F.Table fields) = first fields
exp_layer (Exp-F.Binary a operations) = or_else a (first operations)
exp_layer (Exp-F.Unary op a) = a
exp_layer _ = None

abbrev pub field_layer : Field-F Inner Inner Inner Declaring Inner Inner Outer Inner Inner Outer Inner Inner Inner Declaring → Inner
field_layer (Field-F.Keyed key value) = or_else key value
field_layer (Field-F.Named name value) = value
field_layer (Field-F.Positional value) = value

abbrev pub head_layer : Head-F Inner Inner Inner Declaring Inner Inner Outer Inner Inner Outer Inner Inner Inner Declaring → Inner
head_layer (Head-F.Head::Name name) = None
head_layer (Head-F.Parenthesized e) = e

abbrev pub kind_layer : StatKind-F Inner Inner Inner Declaring Inner Inner Outer Inner Inner Outer Inner Inner Inner Declaring → Declaring
kind_layer (StatKind-F.Assign vars values) = declaring_none (λ n. or_else (first vars) (first values))
kind_layer (StatKind-F.StatKind::Call call) = declaring_none (λ n. call)
kind_layer (StatKind-F.Do block) = declaring_none block
kind_layer (StatKind-F.While condition block) = declaring_none (λ n. or_else condition (block n))
kind_layer (StatKind-F.Repeat block condition) = declaring_none (λ n. or_else (block n) condition)
kind_layer (StatKind-F.If arms other) = declaring_none (λ n. or_else (first (map (λ a. a n) arms)) (in_else other n))
kind_layer (StatKind-F.NumericFor name from limit step block) =
    declaring_none (λ n. or_else (excess_of_names n (name ∷ [])) (or_else from (or_else limit (or_else (first_of step) (block (n + 1))))))
kind_layer (StatKind-F.GenericFor names values block) =
    declaring_none (λ n. or_else (excess_of_names n names) (or_else (first values) (block (n + length names))))
kind_layer (StatKind-F.StatKind::Function name path body) = declaring_none (λ n. body)
kind_layer (StatKind-F.LocalFunction name body) = record { excess = λ n. or_else (excess_of_names n (name ∷ [])) body; declares = 1 }
kind_layer (StatKind-F.Local names values) = record { excess = λ n. or_else (excess_of_names n names) (first values); declares = length names }
kind_layer _ = declaring_none (λ n. None)

abbrev pub suffix_layer : Suffix-F Inner Inner Inner Declaring Inner Inner Outer Inner Inner Outer Inner Inner Inner Declaring → Inner
suffix_layer (Suffix-F.Suffix::Index key) = key
suffix_layer (Suffix-F.Suffix::Field name) = None
suffix_layer (Suffix-F.Suffix::Call arguments) = first arguments

abbrev pub var_layer : Var-F Inner Inner Inner Declaring Inner Inner Outer Inner Inner Outer Inner Inner Inner Declaring → Inner
var_layer (Var-F.Var::Name name) = None
var_layer (Var-F.Var::Index p key) = or_else p key
var_layer (Var-F.Var::Field p name) = p

abbrev pub block_layer : Block-F Inner Inner Inner Declaring Inner Inner Outer Inner Inner Outer Inner Inner Inner Declaring → Outer
block_layer b n = or_else (excess_of_each n b.stats) (first_of b.last)

abbrev pub call_layer : Call-F Inner Inner Inner Declaring Inner Inner Outer Inner Inner Outer Inner Inner Inner Declaring → Inner
call_layer c = or_else c.function (first c.arguments)

abbrev pub body_layer : FunctionBody-F Inner Inner Inner Declaring Inner Inner Outer Inner Inner Outer Inner Inner Inner Declaring → Inner
body_layer b = or_else (excess_of_names 0 b.parameters) (b.block (length b.parameters))

abbrev pub arm_layer : IfArm-F Inner Inner Inner Declaring Inner Inner Outer Inner Inner Outer Inner Inner Inner Declaring → Outer
arm_layer a n = or_else a.condition (a.block n)

abbrev pub operation_layer : Operation-F Inner Inner Inner Declaring Inner Inner Outer Inner Inner Outer Inner Inner Inner Declaring → Inner
operation_layer o = o.operand

abbrev pub prefix_layer : Prefix-F Inner Inner Inner Declaring Inner Inner Outer Inner Inner Outer Inner Inner Inner Declaring → Inner
prefix_layer p = or_else p.head (first p.suffixes)

abbrev pub return_layer : Return-F Inner Inner Inner Declaring Inner Inner Outer Inner Inner Outer Inner Inner Inner Declaring → Inner
return_layer r = first r.values

abbrev pub stat_layer : Stat-F Inner Inner Inner Declaring Inner Inner Outer Inner Inner Outer Inner Inner Inner Declaring → Declaring
stat_layer s = s.kind

abbrev pub excess_of_exp : Exp → Option ℕ
excess_of_exp = fold-Exp Inner Inner Inner Declaring Inner Inner Outer Inner Inner Outer Inner Inner Inner Declaring
    exp_layer field_layer head_layer kind_layer suffix_layer var_layer block_layer call_layer body_layer arm_layer operation_layer prefix_layer return_layer stat_layer

abbrev pub excess_of_field : Field → Option ℕ
excess_of_field = fold-Field Inner Inner Inner Declaring Inner Inner Outer Inner Inner Outer Inner Inner Inner Declaring
    exp_layer field_layer head_layer kind_layer suffix_layer var_layer block_layer call_layer body_layer arm_layer operation_layer prefix_layer return_layer stat_layer

abbrev pub excess_of_head : Head → Option ℕ
excess_of_head = fold-Head Inner Inner Inner Declaring Inner Inner Outer Inner Inner Outer Inner Inner Inner Declaring
    exp_layer field_layer head_layer kind_layer suffix_layer var_layer block_layer call_layer body_layer arm_layer operation_layer prefix_layer return_layer stat_layer

abbrev pub of_kind : StatKind → Declaring
of_kind = fold-StatKind Inner Inner Inner Declaring Inner Inner Outer Inner Inner Outer Inner Inner Inner Declaring
    exp_layer field_layer head_layer kind_layer suffix_layer var_layer block_layer call_layer body_layer arm_layer operation_layer prefix_layer return_layer stat_layer

abbrev pub excess_of_suffix : Suffix → Option ℕ
excess_of_suffix = fold-Suffix Inner Inner Inner Declaring Inner Inner Outer Inner Inner Outer Inner Inner Inner Declaring
    exp_layer field_layer head_layer kind_layer suffix_layer var_layer block_layer call_layer body_layer arm_layer operation_layer prefix_layer return_layer stat_layer

abbrev pub excess_of_var : Var → Option ℕ
excess_of_var = fold-Var Inner Inner Inner Declaring Inner Inner Outer Inner Inner Outer Inner Inner Inner Declaring
    exp_layer field_layer head_layer kind_layer suffix_layer var_layer block_layer call_layer body_layer arm_layer operation_layer prefix_layer return_layer stat_layer

abbrev pub excess_of_block : Block → ℕ → Option ℕ
excess_of_block = fold-Block Inner Inner Inner Declaring Inner Inner Outer Inner Inner Outer Inner Inner Inner Declaring
    exp_layer field_layer head_layer kind_layer suffix_layer var_layer block_layer call_layer body_layer arm_layer operation_layer prefix_layer return_layer stat_layer

abbrev pub excess_of_call : Call → Option ℕ
excess_of_call = fold-Call Inner Inner Inner Declaring Inner Inner Outer Inner Inner Outer Inner Inner Inner Declaring
    exp_layer field_layer head_layer kind_layer suffix_layer var_layer block_layer call_layer body_layer arm_layer operation_layer prefix_layer return_layer stat_layer

abbrev pub excess_of_body : FunctionBody → Option ℕ
excess_of_body = fold-FunctionBody Inner Inner Inner Declaring Inner Inner Outer Inner Inner Outer Inner Inner Inner Declaring
    exp_layer field_layer head_layer kind_layer suffix_layer var_layer block_layer call_layer body_layer arm_layer operation_layer prefix_layer return_layer stat_layer

abbrev pub excess_of_arm : IfArm → ℕ → Option ℕ
excess_of_arm = fold-IfArm Inner Inner Inner Declaring Inner Inner Outer Inner Inner Outer Inner Inner Inner Declaring
    exp_layer field_layer head_layer kind_layer suffix_layer var_layer block_layer call_layer body_layer arm_layer operation_layer prefix_layer return_layer stat_layer

abbrev pub excess_of_operation : Operation → Option ℕ
excess_of_operation = fold-Operation Inner Inner Inner Declaring Inner Inner Outer Inner Inner Outer Inner Inner Inner Declaring
    exp_layer field_layer head_layer kind_layer suffix_layer var_layer block_layer call_layer body_layer arm_layer operation_layer prefix_layer return_layer stat_layer

abbrev pub excess_of_prefix : Prefix → Option ℕ
excess_of_prefix = fold-Prefix Inner Inner Inner Declaring Inner Inner Outer Inner Inner Outer Inner Inner Inner Declaring
    exp_layer field_layer head_layer kind_layer suffix_layer var_layer block_layer call_layer body_layer arm_layer operation_layer prefix_layer return_layer stat_layer

abbrev pub excess_of_return : Return → Option ℕ
excess_of_return = fold-Return Inner Inner Inner Declaring Inner Inner Outer Inner Inner Outer Inner Inner Inner Declaring
    exp_layer field_layer head_layer kind_layer suffix_layer var_layer block_layer call_layer body_layer arm_layer operation_layer prefix_layer return_layer stat_layer

abbrev pub of_stat : Stat → Declaring
of_stat = fold-Stat Inner Inner Inner Declaring Inner Inner Outer Inner Inner Outer Inner Inner Inner Declaring
    exp_layer field_layer head_layer kind_layer suffix_layer var_layer block_layer call_layer body_layer arm_layer operation_layer prefix_layer return_layer stat_layer

-- ---- lists of parts

abbrev pub excess_of_exps : List Exp → Option ℕ
excess_of_exps es = first (map excess_of_exp es)

abbrev pub excess_of_operations : List Operation → Option ℕ
excess_of_operations os = first (map excess_of_operation os)

abbrev pub excess_of_fields : List Field → Option ℕ
excess_of_fields fs = first (map excess_of_field fs)

abbrev pub excess_of_suffixes : List Suffix → Option ℕ
excess_of_suffixes ss = first (map excess_of_suffix ss)

abbrev pub excess_of_vars : List Var → Option ℕ
excess_of_vars vs = first (map excess_of_var vs)

abbrev pub excess_of_arms : List IfArm → ℕ → Option ℕ
excess_of_arms arms n = first (map (λ a. excess_of_arm a n) arms)

abbrev pub excess_of_stats : ℕ → List Stat → Option ℕ
excess_of_stats n ss = excess_of_each n (map of_stat ss)

abbrev pub excess_of_last : Option Return → Option ℕ
excess_of_last None = None
excess_of_last (Some r) = excess_of_return r

abbrev pub excess_of_step : Option Exp → Option ℕ
excess_of_step None = None
excess_of_step (Some e) = excess_of_exp e

abbrev pub excess_of_else : Option Block → ℕ → Option ℕ
excess_of_else None n = None
excess_of_else (Some b) n = excess_of_block b n

abbrev pub excess_of_chunk : Chunk → Option ℕ
excess_of_chunk chunk = excess_of_block chunk.block 0
