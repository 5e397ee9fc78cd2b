-- Fields (Lua 5.3 Reference Manual, section 3.2): what a table holds at a key, and the fields of nodes, which the host knows.
--     read_field v key line       what is at the key; nil if a table has nothing there
--     write_field v key x line    sets it
use Rattle.std.specs.Prelude.{ℕ, [], ◌∷◌, Ok}
use Rattle.ntx_values.specs.Table.{value_at}
use Rattle.ntx_values.specs.State.{table_of}
use Rattle.ntx_values.specs.Steps.{set_step}
use Rattle.ntx_values.specs.declared.value.Value.{Value}
use Rattle.ntx_values.specs.declared.value.Value.TheVariants.{Text, Table, Node}
use Rattle.ntx_values.specs.declared.primitive.Primitive.TheVariants.{NodeGet, NodeSet}
use Rattle.ntx_values.specs.declared.why.LuaWhy.TheVariants.{WrongType}
use Rattle.ntx_eval.specs.Ending.{Action, give, fault, ◌>>=◌, ◌>>◌}
use Rattle.ntx_eval.specs.Variables.{on_store, of_store, first}
use Rattle.ntx_eval.specs.Setting.{Setting, host_call}

-- A field of a node has a text as its key. To read or set it is no call and is not charged.
abbrev pub read_node_field : {S : Type 0} → Setting S → Value → Value → ℕ → Action S Value
read_node_field run n (Text t) line = host_call run NodeGet (n ∷ Text t ∷ []) line >>= λ vs. give (first vs)
read_node_field run n _ line = fault line WrongType

abbrev pub write_node_field : {S : Type 0} → Setting S → Value → Value → Value → ℕ → Action S (Unit {0})
write_node_field run n (Text t) x line = host_call run NodeSet (n ∷ Text t ∷ x ∷ []) line >> give tt
write_node_field run n _ x line = fault line WrongType

abbrev pub read_field : {S : Type 0} → Setting S → Value → Value → ℕ → Action S Value
read_field run (Table t) key line = of_store line (λ store. Ok (value_at (table_of store t) key))
read_field run (Node n) key line = read_node_field run (Node n) key line
read_field run _ key line = fault line WrongType

abbrev pub write_field : {S : Type 0} → Setting S → Value → Value → Value → ℕ → Action S (Unit {0})
write_field run (Table t) key x line = on_store line (set_step t key x)
write_field run (Node n) key x line = write_node_field run (Node n) key x line
write_field run _ key x line = fault line WrongType
