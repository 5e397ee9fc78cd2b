-- What the grammar tells apart: each keyword and each symbol is a terminal of its own, and all names, numerals and texts are one each (Lua 5.3
-- Reference Manual, sections 3.1 and 9).
--     keywords, symbols        how each keyword and each symbol is spelled
--     terminal_of sort bytes   what a token of this sort is that these bytes spell
use Rattle.std.specs.Prelude.{ℕ, Bool, List, [], ◌∷◌, Option, None, Some, bytes_eq, codes, if◌then◌else◌}
use Rattle.std.specs.Option.{unwrap_or}
use denote.Enum.Bare.{sameb}
use Rattle.ntx_syntax.specs.contracts.terminal.Terminal.{the_type}
use Rattle.ntx_syntax.specs.declared.terminal.Terminal.{Terminal}
use Rattle.ntx_syntax.specs.declared.terminal.Terminal.TheVariants as terminal
use Rattle.ntx_syntax.specs.declared.token.Sort.{Sort}
use Rattle.ntx_syntax.specs.declared.token.Sort.TheVariants as sort

-- `==` on terminals
abbrev pub same_terminal : Terminal → Terminal → Bool
same_terminal = sameb the_type

unfoldable pub keywords : List (List ℕ × Terminal)
keywords =
    (codes "and", terminal.And) ∷ (codes "break", terminal.Break) ∷ (codes "do", terminal.Do) ∷ (codes "else", terminal.Else) ∷
    (codes "elseif", terminal.Elseif) ∷ (codes "end", terminal.End) ∷ (codes "false", terminal.False) ∷ (codes "for", terminal.For) ∷
    (codes "function", terminal.Function) ∷ (codes "goto", terminal.Goto) ∷ (codes "if", terminal.If) ∷ (codes "in", terminal.In) ∷
    (codes "local", terminal.Local) ∷ (codes "nil", terminal.Nil) ∷ (codes "not", terminal.Not) ∷ (codes "or", terminal.Or) ∷
    (codes "repeat", terminal.Repeat) ∷ (codes "return", terminal.Return) ∷ (codes "then", terminal.Then) ∷ (codes "true", terminal.True) ∷
    (codes "until", terminal.Until) ∷ (codes "while", terminal.While) ∷ []

unfoldable pub symbols : List (List ℕ × Terminal)
symbols =
    (codes "+", terminal.Plus) ∷ (codes "-", terminal.Minus) ∷ (codes "*", terminal.Star) ∷ (codes "//", terminal.DoubleSlash) ∷
    (codes "%", terminal.Percent) ∷ (codes "&", terminal.Ampersand) ∷ (codes "~", terminal.Tilde) ∷ (codes "|", terminal.Bar) ∷
    (codes "<<", terminal.ShiftLeft) ∷ (codes ">>", terminal.ShiftRight) ∷ (codes "#", terminal.Hash) ∷ (codes "==", terminal.Equal) ∷
    (codes "~=", terminal.NotEqual) ∷ (codes "<=", terminal.LessEqual) ∷ (codes ">=", terminal.GreaterEqual) ∷ (codes "<", terminal.Less) ∷
    (codes ">", terminal.Greater) ∷ (codes "=", terminal.Assign) ∷ (codes "(", terminal.LeftParenthesis) ∷ (codes ")", terminal.RightParenthesis) ∷
    (codes "{", terminal.LeftBrace) ∷ (codes "}", terminal.RightBrace) ∷ (codes "[", terminal.LeftBracket) ∷ (codes "]", terminal.RightBracket) ∷
    (codes ";", terminal.Semicolon) ∷ (codes ",", terminal.Comma) ∷ (codes ".", terminal.Dot) ∷ (codes "..", terminal.DoubleDot) ∷ []

-- what a table has for these bytes
abbrev pub entry_of : List (List ℕ × Terminal) → List ℕ → Option Terminal
entry_of [] bytes = None
entry_of (entry ∷ table) bytes = if bytes_eq entry.0 bytes then Some entry.1 else entry_of table bytes

-- What a token of this sort is that these bytes spell. The bytes of a keyword and those of a symbol are in their table, so that `Name` stands
-- for no other token there.
abbrev pub terminal_of : Sort → List ℕ → Terminal
terminal_of sort.Name bytes = terminal.Name
terminal_of sort.Numeral bytes = terminal.Numeral
terminal_of sort.Text bytes = terminal.Text
terminal_of sort.Keyword bytes = unwrap_or (entry_of keywords bytes) terminal.Name
terminal_of sort.Symbol bytes = unwrap_or (entry_of symbols bytes) terminal.Name
