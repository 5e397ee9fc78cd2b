-- Operators on values (Lua 5.3 Reference Manual, sections 3.4.1 to 3.4.7). Arithmetic and the operators on bits take integers alone,
-- and an order is between two integers or two texts.
--     binary_step op a b store     the value of two operands, whichever operator it is, and the store after
--     unary_of op a store          the value of one operand
--     is_true v                    whether a condition holds: of all values but nil and false
--     is_decided op a              whether `and` or `or` gives its first operand and leaves the second alone
use Rattle.std.specs.Prelude.{ℕ, Bool, true, false, not, if◌then◌else◌, List, ◌++◌, length, ℤ, pos, Result, Ok, Err}
use Rattle.std.specs.Int.{w64, int_wrapping_add, int_wrapping_sub, int_wrapping_mul, int_wrapping_neg, int_bit_and, int_bit_or, int_bit_xor, int_bit_not}
use Rattle.std.specs.Ordering.{is_lt, is_gt, is_le, is_ge, int_cmp, nat_cmp}
use Rattle.std.specs.declared.cmp.Ordering.{Ordering}
use Rattle.std.specs.Cmp.Lexicographic.{slice_cmp}
use Rattle.std.specs.Fmt.{signed_decimal}
use Rattle.ntx_num.specs.Answer.{result_map, result_and_then}
use Rattle.ntx_syntax.specs.declared.tree.BinaryOp.{BinaryOp}
use Rattle.ntx_syntax.specs.declared.tree.BinaryOp.TheVariants as binary
use Rattle.ntx_syntax.specs.declared.tree.UnaryOp.{UnaryOp}
use Rattle.ntx_syntax.specs.declared.tree.UnaryOp.TheVariants as unary
use Rattle.ntx_values.specs.Value.{is_same}
use Rattle.ntx_values.specs.Table.{border_of}
use Rattle.ntx_values.specs.State.{StoreState, bytes_of, table_of}
use Rattle.ntx_values.specs.Steps.{text_step}
use Rattle.ntx_values.specs.declared.value.Value.{Value}
use Rattle.ntx_values.specs.declared.value.Value.TheVariants as value
use Rattle.ntx_values.specs.declared.value.Value.TheVariants.{Nil, Int, Text, Table}
use Rattle.ntx_values.specs.declared.why.LuaWhy.{LuaWhy}
use Rattle.ntx_values.specs.declared.why.LuaWhy.TheVariants.{WrongType}
use Rattle.ntx_eval.specs.Integers.{quotient, remainder, shifted_left, shifted_right}

abbrev pub is_true : Value → Bool
is_true Nil = false
is_true (value.Bool b) = b
is_true _ = true

abbrev pub is_decided : BinaryOp → Value → Bool
is_decided binary.And a = not (is_true a)
is_decided binary.Or a = is_true a
is_decided _ a = false

-- a step on a store that gives a value
abbrev pub ValueStep : Type 0
ValueStep = StoreState → Result (Value × StoreState) LuaWhy

abbrev pub integer_of : Value → Result ℤ LuaWhy
integer_of (Int n) = Ok n
integer_of _ = Err WrongType

-- The operators that take integers alone. Another one takes none.
abbrev pub arithmetic : BinaryOp → ℤ → ℤ → Result ℤ LuaWhy
arithmetic binary.BitOr x y = Ok (int_bit_or w64 x y)
arithmetic binary.BitXor x y = Ok (int_bit_xor w64 x y)
arithmetic binary.BitAnd x y = Ok (int_bit_and w64 x y)
arithmetic binary.ShiftLeft x y = Ok (shifted_left x y)
arithmetic binary.ShiftRight x y = Ok (shifted_right x y)
arithmetic binary.Add x y = Ok (int_wrapping_add w64 x y)
arithmetic binary.Subtract x y = Ok (int_wrapping_sub w64 x y)
arithmetic binary.Multiply x y = Ok (int_wrapping_mul w64 x y)
arithmetic binary.FloorDivide x y = quotient x y
arithmetic binary.Modulo x y = remainder x y
arithmetic _ x y = Err WrongType

abbrev pub on_integers : BinaryOp → Value → Value → Result Value LuaWhy
on_integers op a b = result_map Int (result_and_then (integer_of a) (λ x. result_and_then (integer_of b) (arithmetic op x)))

abbrev pub order_of : StoreState → Value → Value → Result Ordering LuaWhy
order_of store (Int a) (Int b) = Ok (int_cmp a b)
order_of store (Text a) (Text b) = Ok (slice_cmp nat_cmp (bytes_of store a) (bytes_of store b))
order_of store _ _ = Err WrongType

-- whether a comparison holds of two values that stand so to each other
abbrev pub holds : BinaryOp → Ordering → Bool
holds binary.Less o = is_lt o
holds binary.Greater o = is_gt o
holds binary.LessEqual o = is_le o
holds binary.GreaterEqual o = is_ge o
holds _ o = false

abbrev pub compared : BinaryOp → Value → Value → StoreState → Result Value LuaWhy
compared op a b store = result_map (λ o. value.Bool (holds op o)) (order_of store a b)

-- what `..` takes: a text, or an integer as its decimal digits
abbrev pub written : StoreState → Value → Result (List ℕ) LuaWhy
written store (Int n) = Ok (signed_decimal n)
written store (Text t) = Ok (bytes_of store t)
written store _ = Err WrongType

abbrev pub joined : Value → Value → StoreState → Result (List ℕ) LuaWhy
joined a b store = result_and_then (written store a) (λ xs. result_map (λ ys. xs ++ ys) (written store b))

abbrev pub text_of_bytes : Result (List ℕ) LuaWhy → ValueStep
text_of_bytes answer store = result_and_then answer (λ bytes. result_map (λ made. (Text made.0, made.1)) (text_step bytes store))

-- every operator but `..`, which makes a text
abbrev pub value_of : BinaryOp → Value → Value → StoreState → Result Value LuaWhy
value_of binary.Or a b store = Ok (if is_true a then a else b)
value_of binary.And a b store = Ok (if is_true a then b else a)
value_of binary.Equal a b store = Ok (value.Bool (is_same a b))
value_of binary.NotEqual a b store = Ok (value.Bool (not (is_same a b)))
value_of binary.Less a b store = compared binary.Less a b store
value_of binary.Greater a b store = compared binary.Greater a b store
value_of binary.LessEqual a b store = compared binary.LessEqual a b store
value_of binary.GreaterEqual a b store = compared binary.GreaterEqual a b store
value_of op a b store = on_integers op a b

abbrev pub binary_step : BinaryOp → Value → Value → ValueStep
binary_step binary.Concat a b store = text_of_bytes (joined a b store) store
binary_step op a b store = result_map (λ v. (v, store)) (value_of op a b store)

-- the bytes of a text, or the border of a table
abbrev pub length_of : Value → StoreState → Result Value LuaWhy
length_of (Text t) store = Ok (Int (pos (length (bytes_of store t))))
length_of (Table t) store = Ok (Int (pos (border_of (table_of store t))))
length_of _ store = Err WrongType

abbrev pub unary_of : UnaryOp → Value → StoreState → Result Value LuaWhy
unary_of unary.Not a store = Ok (value.Bool (not (is_true a)))
unary_of unary.Length a store = length_of a store
unary_of unary.Minus a store = result_map (λ n. Int (int_wrapping_neg w64 n)) (integer_of a)
unary_of unary.BitNot a store = result_map (λ n. Int (int_bit_not w64 n)) (integer_of a)
