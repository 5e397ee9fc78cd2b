-- Bytes that are put together under a limit, and are given up where they pass it.
use Rattle.std.specs.Prelude.{ℕ, nat_le, if◌then◌else◌, List, ◌++◌, length, Option, Some, None, ok_or, Result}
use Rattle.ntx_values.specs.Texts.{max_text}
use Rattle.ntx_values.specs.declared.why.LuaWhy.{LuaWhy}
use Rattle.ntx_values.specs.declared.why.LuaWhy.TheVariants.{TextsFull}
use Rattle.ntx_lualib.specs.Arguments.{◌>>=◌}

-- the bytes, if they are within the limit
abbrev pub bounded : ℕ → List ℕ → Option (List ℕ)
bounded limit bytes = if nat_le (length bytes) limit then Some bytes else None

-- with more of them
abbrev pub added : ℕ → Option (List ℕ) → List ℕ → Option (List ℕ)
added limit None more = None
added limit (Some bytes) more = bounded limit (bytes ++ more)

-- bytes that are too many for a text are refused before it is made
abbrev pub limited : Result (List ℕ) LuaWhy → Result (List ℕ) LuaWhy
limited answer = answer >>= λ bytes. ok_or (bounded max_text bytes) TextsFull
