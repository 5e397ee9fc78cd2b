-- What a parser has before it: the words that are not yet read, and the number of the script's last line.
use Rattle.std.specs.Prelude.{◌≡◌, ℕ, Bool, true, List, [], ◌∷◌, Option, None, Some, is_some, if◌then◌else◌}
use Rattle.std.specs.List.{list_all}
use Rattle.ntx_syntax.specs.Values.{numeral_value, text_value}
use Rattle.ntx_syntax.specs.declared.terminal.Terminal.{Terminal}
use Rattle.ntx_syntax.specs.declared.terminal.Terminal.TheVariants as terminal
use Rattle.ntx_parse.specs.declared.word.Word as code
use Rattle.ntx_parse.specs.Words.{Word}
use Rattle.ntx_parse.specs.inner.Reading.{begins_statement}

pub record Input : Type 0 where
  pub words : List Word
  pub last_line : ℕ

-- A word of the program, as a word.
abbrev pub seen : code.Word → Word
seen o = record { is = o.is; spelled = o.spelled.now; line = o.line }

-- The line of the next word, or the last line.
abbrev pub line_of : ℕ → List Word → ℕ
line_of last [] = last
line_of last (o ∷ words) = o.line

abbrev pub next_of : List Word → Option Terminal
next_of [] = None
next_of (o ∷ words) = Some o.is

-- What the next word is, and its line, if a statement begins with it.
abbrev pub statement_at : List Word → Option (Terminal × ℕ)
statement_at [] = None
statement_at (o ∷ words) = if begins_statement o.is then Some (o.is, o.line) else None

-- What spells a numeral or a text has a value.
abbrev pub value_test : Terminal → List ℕ → Bool
value_test terminal.Numeral spelled = is_some (numeral_value spelled)
value_test terminal.Text spelled = is_some (text_value spelled)
value_test _ spelled = true

abbrev pub has_value : Word → Bool
has_value o = value_test o.is o.spelled

abbrev pub HaveValues : List Word → Type 0
HaveValues words = list_all has_value words ≡ true
