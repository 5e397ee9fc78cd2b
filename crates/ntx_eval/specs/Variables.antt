-- Variables (Lua 5.3 Reference Manual, sections 3.2 and 3.5): a name is a local variable if its scope has it, and else a field
-- of the table of globals.
--     bind names vs scope     new cells with these values, and the scope with these names
--     read_name, write_name   what a name holds, and what it is to hold
--     text bytes              the text with these bytes
use Rattle.std.specs.Prelude.{ℕ, nat_eq, List, [], ◌∷◌, ◌++◌, length, slice_index_or, slice_set, Option, None, Some, Result, Ok, Err}
use Rattle.std.specs.Map.{lookup}
use Rattle.std.specs.Cmp.Lexicographic.{pointwise}
use Rattle.ntx_num.specs.Answer.{result_map}
use Rattle.ntx_values.specs.Table.{value_at}
use Rattle.ntx_values.specs.State.{StoreState, table_of}
use Rattle.ntx_values.specs.Steps.{text_step, set_step}
use Rattle.ntx_values.specs.declared.value.Value.{Value}
use Rattle.ntx_values.specs.declared.value.Value.TheVariants.{Nil, Text}
use Rattle.ntx_values.specs.declared.value.TableId.{TableId}
use Rattle.ntx_values.specs.declared.why.LuaWhy.{LuaWhy}
use Rattle.ntx_eval.specs.State.{Scope}
use Rattle.ntx_eval.specs.Ending.{Action, Ending, give, fault, ◌>>=◌}

-- the place of a part of a script: the names that it sees, and the line of its statement
pub record Here : Type 0 where
  pub scope : Scope
  pub line : ℕ

-- a step on the store, whose refusal is a fault
abbrev pub on_store : {S A : Type 0} → ℕ → (StoreState → Result (A × StoreState) LuaWhy) → Action S A
on_store {S} {A} line step s = made (step s.store)
  where
    made : Result (A × StoreState) LuaWhy → Ending S A
    made (Ok (a, store)) = give a (record s { store = store })
    made (Err why) = fault line why s

-- a question to the store
abbrev pub of_store : {S A : Type 0} → ℕ → (StoreState → Result A LuaWhy) → Action S A
of_store line question = on_store line (λ store. result_map (λ a. (a, store)) (question store))

abbrev pub text : {S : Type 0} → List ℕ → ℕ → Action S Value
text bytes line = on_store line (λ store. result_map (λ made. (Text made.0, made.1)) (text_step bytes store))

-- the cell of a name, that of the innermost if several have it
abbrev pub cell_of : List ℕ → Scope → Option ℕ
cell_of name scope = lookup (pointwise nat_eq name) scope

abbrev pub new_cell : {S : Type 0} → Value → Action S ℕ
new_cell v s = give (length s.cells) (record s { cells = s.cells ++ v ∷ [] })

abbrev pub read_cell : {S : Type 0} → ℕ → Action S Value
read_cell cell s = give (slice_index_or s.cells cell Nil) s

abbrev pub write_cell : {S : Type 0} → ℕ → Value → Action S (Unit {0})
write_cell cell v s = give tt (record s { cells = slice_set s.cells cell v })

-- the first of several values, nil if there are none, and those after it
abbrev pub first : List Value → Value
first [] = Nil
first (v ∷ vs) = v

abbrev pub others : List Value → List Value
others [] = []
others (v ∷ vs) = vs

-- Each name gets a cell of its own. Values that are missing are nil, and those that are left over are dropped.
abbrev pub bind : {S : Type 0} → List (List ℕ) → List Value → Scope → Action S Scope
bind [] vs scope = give scope
bind (name ∷ names) vs scope = new_cell (first vs) >>= λ cell. bind names (others vs) ((name, cell) ∷ scope)

abbrev pub globals_of : {S : Type 0} → Action S TableId
globals_of s = give s.globals s

abbrev pub read_global : {S : Type 0} → List ℕ → ℕ → Action S Value
read_global name line = do
  globals ← globals_of
  key ← text name line
  of_store line (λ store. Ok (value_at (table_of store globals) key))

abbrev pub write_global : {S : Type 0} → List ℕ → Value → ℕ → Action S (Unit {0})
write_global name v line = do
  globals ← globals_of
  key ← text name line
  on_store line (set_step globals key v)

abbrev pub read_name : {S : Type 0} → List ℕ → Here → Action S Value
read_name {S} name here = held (cell_of name here.scope)
  where
    held : Option ℕ → Action S Value
    held (Some cell) = read_cell cell
    held None = read_global name here.line

abbrev pub write_name : {S : Type 0} → List ℕ → Value → Here → Action S (Unit {0})
write_name {S} name v here = held (cell_of name here.scope)
  where
    held : Option ℕ → Action S (Unit {0})
    held (Some cell) = write_cell cell v
    held None = write_global name v here.line
