-- Values as texts (Lua 5.3 Reference Manual, section 6.1, `tostring` and `type`). Tables and functions have no address here, and a
-- node has its name. Where this differs from the manual: a missing argument of `tostring` and `type` is nil, and no error.
--     shown store v        the bytes that `tostring` gives
--     type_name v          the bytes that `type` gives
--     joined between parts     parts with a text between each two
use Rattle.std.specs.Prelude.{ℕ, if◌then◌else◌, List, [], ◌∷◌, ◌++◌, codes, decimal}
use Rattle.std.specs.Fmt.{signed_decimal}
use Rattle.ntx_values.specs.State.{StoreState, bytes_of}
use Rattle.ntx_values.specs.declared.value.Value.{Value}
use Rattle.ntx_values.specs.declared.value.Value.TheVariants as value
use Rattle.ntx_values.specs.declared.value.Value.TheVariants.{Nil, Int, Text, Table, Function, Prim, Node}

abbrev pub shown : StoreState → Value → List ℕ
shown store Nil = codes "nil"
shown store (value.Bool b) = if b then codes "true" else codes "false"
shown store (Int n) = signed_decimal n
shown store (Text t) = bytes_of store t
shown store (Table t) = codes "table"
shown store (Function f) = codes "function"
shown store (Prim p) = codes "function"
shown store (Node n) = codes "node " ++ decimal n

abbrev pub type_name : Value → List ℕ
type_name Nil = codes "nil"
type_name (value.Bool b) = codes "boolean"
type_name (Int n) = codes "number"
type_name (Text t) = codes "string"
type_name (Table t) = codes "table"
type_name (Function f) = codes "function"
type_name (Prim p) = codes "function"
type_name (Node n) = codes "userdata"

abbrev pub joined : List ℕ → List (List ℕ) → List ℕ
joined between [] = []
joined between (part ∷ []) = part
joined between (part ∷ next ∷ parts) = part ++ between ++ joined between (next ∷ parts)
