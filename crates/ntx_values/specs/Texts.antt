-- The distinct texts of a run, in the order in which they were made (strings of Lua 5.3, Reference Manual, section 2.1, each
-- kept once).
--     place_of bytes texts     the place of a text, where it was made
--     made bytes texts         its place and the texts after its making, or the refusal
use Rattle.std.specs.Prelude.{ℕ, ◌+◌, ◌^◌, nat_le, nat_eq, Bool, ◌&&◌, if◌then◌else◌, List, [], ◌∷◌, ◌++◌, length, position, sum_by, Option, Result, Ok, Err}
use Rattle.std.specs.Option.{option_map_or}
use Rattle.std.specs.Cmp.Lexicographic.{pointwise}
use Rattle.ntx_values.specs.declared.why.LuaWhy.{LuaWhy}
use Rattle.ntx_values.specs.declared.why.LuaWhy.TheVariants.{TextsFull}

-- as many bytes may all texts have together, and as many may one
abbrev pub max_bytes : ℕ
max_bytes = 2 ^ 24

abbrev pub max_text : ℕ
max_text = 2 ^ 20

abbrev pub place_of : List ℕ → List (List ℕ) → Option ℕ
place_of bytes texts = position (pointwise nat_eq bytes) texts

-- whether a new text is within the limits
abbrev pub has_room_for : List ℕ → List (List ℕ) → Bool
has_room_for bytes texts = nat_le (length bytes) max_text && nat_le (sum_by length texts + length bytes) max_bytes

-- A text that was made has its place. A new one goes last, where there is room for it.
abbrev pub made : List ℕ → List (List ℕ) → Result (ℕ × List (List ℕ)) LuaWhy
made bytes texts =
    option_map_or (λ place. Ok (place, texts)) (place_of bytes texts)
    (if has_room_for bytes texts then Ok (length texts, texts ++ bytes ∷ []) else Err TextsFull)
