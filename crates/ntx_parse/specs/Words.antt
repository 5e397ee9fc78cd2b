-- The words of a script: what its tokens are to the grammar (Lua 5.3 Reference Manual, sections 3.1 and 9).
--     words_of bytes tokens      the words
use Rattle.std.specs.Prelude.{ℕ, List, map, slice_range}
use Rattle.ntx_syntax.specs.declared.token.Token as token
use Rattle.ntx_syntax.specs.declared.terminal.Terminal.{Terminal}
use Rattle.ntx_syntax.specs.Terminals.{terminal_of}

-- A token: what it is, the bytes that spell it, and its line.
pub record Word : Type 0 where
  pub is : Terminal
  pub spelled : List ℕ
  pub line : ℕ

abbrev pub word_of : List ℕ → token.Token → Word
word_of bytes t =
    let spelled = slice_range bytes t.start t.end in record { is = terminal_of t.sort spelled; spelled = spelled; line = t.line }

abbrev pub words_of : List ℕ → List token.Token → List Word
words_of bytes tokens = map (word_of bytes) tokens
