-- Formats (Lua 5.3 Reference Manual, section 6.4, `string.format`), of which `%d`, `%s` and `%%` are known, without width and
-- precision. A missing value is nil, which `%s` takes; `%d` takes an integer alone.
--     directive store d v          what `%` and a byte give for a value
--     formatted store bytes vs     the bytes of a format with its values
--     string_format
use Rattle.std.specs.Prelude.{ℕ, nat_eq, if◌then◌else◌, List, [], ◌∷◌, ◌++◌, drop, Result, Ok, Err}
use Rattle.std.specs.Fmt.{signed_decimal}
use Rattle.ntx_values.specs.State.{StoreState}
use Rattle.ntx_values.specs.declared.value.Value.{Value}
use Rattle.ntx_values.specs.declared.why.LuaWhy.{LuaWhy}
use Rattle.ntx_values.specs.declared.why.LuaWhy.TheVariants.{BadArgument}
use Rattle.ntx_num.specs.Answer.{result_map}
use Rattle.ntx_lualib.specs.Arguments.{◌>>=◌, argument, text_of, integer_of}
use Rattle.ntx_lualib.specs.Shown.{shown}

-- What `%` and a byte give for a value: `%d` takes an integer, and `%s` any value by `tostring`. Any other byte is BadArgument.
abbrev pub directive : StoreState → ℕ → Value → Result (List ℕ) LuaWhy
directive store d v =
    if nat_eq d 37 then Ok (37 ∷ [])
    else if nat_eq d 100 then (integer_of v >>= λ n. Ok (signed_decimal n))
    else if nat_eq d 115 then Ok (shown store v)
    else Err BadArgument

-- how many values it takes
abbrev pub values_taken : ℕ → ℕ
values_taken d = if nat_eq d 37 then 0 else 1

-- Each directive takes the next value, nil where none is left. `%` at the end is BadArgument.
abbrev pub formatted : StoreState → List ℕ → List Value → Result (List ℕ) LuaWhy
formatted store [] vs = Ok []
formatted store (c ∷ []) vs = if nat_eq c 37 then Err BadArgument else Ok (c ∷ [])
formatted store (c ∷ d ∷ rest) vs =
    if nat_eq c 37 then (directive store d (argument vs 0) >>= λ bytes. result_map (λ after. bytes ++ after) (formatted store rest (drop (values_taken d) vs)))
    else result_map (λ after. c ∷ after) (formatted store (d ∷ rest) vs)

abbrev pub string_format : List Value → StoreState → Result (List ℕ) LuaWhy
string_format args store = do
  s ← text_of store (argument args 0)
  formatted store s (drop 1 args)
