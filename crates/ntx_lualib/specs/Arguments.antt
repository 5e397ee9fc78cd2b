-- Arguments of library functions. One that is missing is nil, and those beyond the last one that is named are dropped (Lua 5.3
-- Reference Manual, sections 3.4.11 and 6). An argument of another sort than is asked for is BadArgument.
--     argument args n          the argument after n others
--     text_of, integer_of, table_of, integer_or      what an argument of a sort says
--     each_of read vs          what each of a list says, or the first refusal
use Rattle.std.specs.Prelude.{ℕ, ℤ, List, [], ◌∷◌, slice_index_or, Result, Ok, Err}
use Rattle.ntx_num.specs.Answer.{result_and_then}
use Rattle.ntx_values.specs.State.{StoreState, bytes_of}
use Rattle.ntx_values.specs.declared.value.Value.{Value}
use Rattle.ntx_values.specs.declared.value.Value.TheVariants.{Nil, Int, Text, Table}
use Rattle.ntx_values.specs.declared.value.TableId.{TableId}
use Rattle.ntx_values.specs.declared.why.LuaWhy.{LuaWhy}
use Rattle.ntx_values.specs.declared.why.LuaWhy.TheVariants.{BadArgument}

-- one answer after another
infixl 10 ◌>>=◌
abbrev pub ◌>>=◌ : {A B E : Type 0} → Result A E → (A → Result B E) → Result B E
answer >>= f = result_and_then answer f

abbrev pub argument : List Value → ℕ → Value
argument args n = slice_index_or args n Nil

-- the bytes of a text
abbrev pub text_of : StoreState → Value → Result (List ℕ) LuaWhy
text_of store (Text t) = Ok (bytes_of store t)
text_of store _ = Err BadArgument

abbrev pub integer_of : Value → Result ℤ LuaWhy
integer_of (Int n) = Ok n
integer_of _ = Err BadArgument

-- an integer, or what nil means
abbrev pub integer_or : ℤ → Value → Result ℤ LuaWhy
integer_or default Nil = Ok default
integer_or default (Int n) = Ok n
integer_or default _ = Err BadArgument

abbrev pub table_of : Value → Result TableId LuaWhy
table_of (Table t) = Ok t
table_of _ = Err BadArgument

abbrev pub each_of : {A : Type 0} → (Value → Result A LuaWhy) → List Value → Result (List A) LuaWhy
each_of read [] = Ok []
each_of read (v ∷ vs) = read v >>= λ x. each_of read vs >>= λ xs. Ok (x ∷ xs)
