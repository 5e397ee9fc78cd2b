-- What expressions do, from what their parts do (Lua 5.3 Reference Manual, section 3.4). Parts are evaluated from the left, and a
-- part of which one value is wanted gives its first, or nil.
use Rattle.std.specs.Prelude.{ℕ, ◌+◌, true, false, List, [], ◌∷◌, ◌++◌, pos, if◌then◌else◌}
use Rattle.ntx_syntax.specs.declared.tree.FunctionBody.{FunctionBody}
use Rattle.ntx_syntax.specs.declared.tree.BinaryOp.{BinaryOp}
use Rattle.ntx_syntax.specs.declared.tree.Exp.TheOpen.{Exp-F, Field-F, Head-F, Suffix-F, Call-F, Prefix-F}
use Rattle.ntx_values.specs.Value.{is_nil}
use Rattle.ntx_values.specs.Steps.{new_table_step, new_function_step}
use Rattle.ntx_values.specs.declared.value.Value.{Value}
use Rattle.ntx_values.specs.declared.value.Value.TheVariants as value
use Rattle.ntx_values.specs.declared.value.Value.TheVariants.{Nil, Int, Table}
use Rattle.ntx_values.specs.declared.value.TableId.{TableId}
use Rattle.ntx_eval.specs.State.{Scope}
use Rattle.ntx_eval.specs.Ending.{Action, give, ◌>>=◌, ◌>>◌}
use Rattle.ntx_eval.specs.Operators.{binary_step, unary_of, is_decided}
use Rattle.ntx_eval.specs.Variables.{Here, on_store, of_store, text, read_name, first}
use Rattle.ntx_eval.specs.Setting.{Setting, call}
use Rattle.ntx_eval.specs.Fields.{read_field, write_field}
use Rattle.ntx_eval.specs.Parts.{Of, ExpMeaning, SuffixMeaning, FieldMeaning, OperationMeaning}

-- one value
abbrev pub one : {S : Type 0} → Action S Value → Action S (List Value)
one action = action >>= λ v. give (v ∷ [])

-- a part of which one value is wanted
abbrev pub first_of : {S : Type 0} → Action S (List Value) → Action S Value
first_of action = action >>= λ vs. give (first vs)

-- The last of several expressions gives all its values, and each other one.
abbrev pub all_values : {S : Type 0} → List (ExpMeaning S) → ExpMeaning S
all_values [] here = give []
all_values (m ∷ []) here = m here
all_values (m ∷ next ∷ ms) here = do
  v ← first_of (m here)
  vs ← all_values (next ∷ ms) here
  give (v ∷ vs)

-- a function with this body, which sees what is seen where it is made
abbrev pub new_function : {S : Type 0} → FunctionBody → Scope → Action S Value
new_function body scope s =
    let (f, store) = new_function_step s.store in
    give (value.Function f) (record s { store = store; functions = s.functions ++ record { body = body; scope = scope } ∷ [] })

abbrev pub new_table : {S : Type 0} → ℕ → Action S TableId
new_table line = on_store line new_table_step

-- ---- operators

-- `and` and `or` leave their second operand alone if the first decides.
abbrev pub operation : {S : Type 0} → BinaryOp → Value → ExpMeaning S → Here → Action S Value
operation op a m here =
    if is_decided op a then give a
    else first_of (m here) >>= λ b. on_store here.line (binary_step op a b)

-- each operation takes what those before it gave
abbrev pub operations : {S : Type 0} → List (OperationMeaning S) → Value → Here → Action S Value
operations [] a here = give a
operations (o ∷ os) a here = operation o.0 a o.1 here >>= λ b. operations os b here

-- ---- prefixes

abbrev pub suffixes : {S : Type 0} → List (SuffixMeaning S) → List Value → ExpMeaning S
suffixes [] vs here = give vs
suffixes (m ∷ ms) vs here = m (first vs) here >>= λ results. suffixes ms results here

-- ---- tables

-- The value has this number as its key. Nil takes its number too, and nothing is set.
abbrev pub place_value : {S : Type 0} → Setting S → TableId → ℕ → Value → Here → Action S ℕ
place_value run t n v here =
    if is_nil v then give (n + 1)
    else write_field run (Table t) (Int (pos n)) v here.line >> give (n + 1)

abbrev pub place_values : {S : Type 0} → Setting S → TableId → ℕ → List Value → Here → Action S ℕ
place_values run t n [] here = give n
place_values run t n (v ∷ vs) here = place_value run t n v here >>= λ next. place_values run t next vs here

abbrev pub fill : {S : Type 0} → List (FieldMeaning S) → TableId → ℕ → Here → Action S (Unit {0})
fill [] t n here = give tt
fill (m ∷ []) t n here = m t n true here >> give tt
fill (m ∷ other ∷ ms) t n here = m t n false here >>= λ next. fill (other ∷ ms) t next here

-- ---- each construct

abbrev pub field_layer : {S : Type 0} → Setting S → Of S Field-F → FieldMeaning S
field_layer run (Field-F.Keyed key m) t n last here = do
  k ← first_of (key here)
  v ← first_of (m here)
  write_field run (Table t) k v here.line
  give n
field_layer run (Field-F.Named name m) t n last here = do
  k ← text name here.line
  v ← first_of (m here)
  write_field run (Table t) k v here.line
  give n
field_layer run (Field-F.Positional m) t n true here = m here >>= λ vs. place_values run t n vs here
field_layer run (Field-F.Positional m) t n false here = first_of (m here) >>= λ v. place_value run t n v here

abbrev pub head_layer : {S : Type 0} → Of S Head-F → ExpMeaning S
head_layer (Head-F.Head::Name name) here = one (read_name name here)
head_layer (Head-F.Parenthesized m) here = one (first_of (m here))

abbrev pub suffix_layer : {S : Type 0} → Setting S → Of S Suffix-F → SuffixMeaning S
suffix_layer run (Suffix-F.Suffix::Index m) v here = first_of (m here) >>= λ key. one (read_field run v key here.line)
suffix_layer run (Suffix-F.Suffix::Field name) v here = text name here.line >>= λ key. one (read_field run v key here.line)
suffix_layer run (Suffix-F.Suffix::Call arguments) v here = all_values arguments here >>= λ vs. call run v vs here.line

abbrev pub prefix_layer : {S : Type 0} → Of S Prefix-F → ExpMeaning S
prefix_layer p here = p.head here >>= λ vs. suffixes p.suffixes vs here

abbrev pub call_layer : {S : Type 0} → Setting S → Of S Call-F → ExpMeaning S
call_layer run c here = do
  f ← first_of (c.function here)
  vs ← all_values c.arguments here
  call run f vs here.line

abbrev pub exp_layer : {S : Type 0} → Of S Exp-F → ExpMeaning S
exp_layer Exp-F.Nil here = one (give Nil)
exp_layer Exp-F.False here = one (give (value.Bool false))
exp_layer Exp-F.True here = one (give (value.Bool true))
exp_layer (Exp-F.Numeral n) here = one (give (Int n))
exp_layer (Exp-F.Text bytes) here = one (text bytes here.line)
exp_layer (Exp-F.Exp::Function body) here = one (new_function body.0 here.scope)
exp_layer (Exp-F.Prefix m) here = m here
exp_layer (Exp-F.Table fields) here = do
  t ← new_table here.line
  fill fields t 1 here
  give (Table t ∷ [])
exp_layer (Exp-F.Binary m os) here = first_of (m here) >>= λ a. one (operations os a here)
exp_layer (Exp-F.Unary op m) here = first_of (m here) >>= λ a. one (of_store here.line (unary_of op a))
