-- The classes of bytes that tokens are made of (Lua 5.3 Reference Manual, section 3.1).
use Rattle.std.specs.Prelude.{ℕ, Bool, ◌||◌, ◌==◌}
use Rattle.std.specs.Char.{is_ascii_alphabetic, is_ascii_alphanumeric}

-- space, tab, CR or LF
abbrev pub is_blank : ℕ → Bool
is_blank b = b == 32 || b == 9 || b == 13 || b == 10

-- Only LF ends a line.
abbrev pub is_line_end : ℕ → Bool
is_line_end b = b == 10

-- a letter or `_`
abbrev pub begins_name : ℕ → Bool
begins_name b = is_ascii_alphabetic b || b == 95

-- a letter, a digit or `_`
abbrev pub continues_name : ℕ → Bool
continues_name b = is_ascii_alphanumeric b || b == 95

-- a letter, `_` or `.`, which may not stand directly after a numeral
abbrev pub spoils_numeral : ℕ → Bool
spoils_numeral b = begins_name b || b == 46

-- `"` or `'`
abbrev pub is_quote : ℕ → Bool
is_quote b = b == 34 || b == 39
