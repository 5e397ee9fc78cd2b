-- The numerals and texts among the tokens of a script have values.
use Rattle.std.proofs.Common.{◌≡◌, ℕ, Bool, true, false, List, [], ◌∷◌, Option, None, Some, refl, ap, ◌∙◌, cond, bytes_eq, slice_range}
use Rattle.std.specs.Option.{unwrap_or}
use Rattle.std.proofs.lemmas.Bool.{false≢true}
use Rattle.ntx_syntax.specs.declared.token.Token as token
use Rattle.ntx_syntax.specs.declared.token.Sort.{Sort}
use Rattle.ntx_syntax.specs.declared.token.Sort.TheVariants as sort
use Rattle.ntx_syntax.specs.declared.piece.Piece.TheVariants.{Token}
use Rattle.ntx_syntax.specs.Pieces.{piece_of}
use Rattle.ntx_syntax.specs.Lexes.{StandInOrder, NumeralsHaveValues, TextsHaveValues}
use Rattle.ntx_syntax.specs.declared.terminal.Terminal.{Terminal}
use Rattle.ntx_syntax.specs.declared.terminal.Terminal.TheVariants as terminal
use Rattle.ntx_syntax.specs.Terminals.{same_terminal, keywords, symbols, entry_of, terminal_of}
use Rattle.ntx_parse.specs.Words.{word_of, words_of}
use Rattle.ntx_parse.proofs.TerminalLemmas.{other_terminal}
use Rattle.ntx_parse.proofs.stuck.Answers.{HasValue, EachHasValue}

-- ---- tables

-- No entry of the table is this.
is_nowhere : Terminal → List (List ℕ × Terminal) → Bool
is_nowhere t [] = true
is_nowhere t (entry ∷ table) = cond (same_terminal entry.1 t) false (is_nowhere t table)

neither : (one other : Bool) → cond one false other ≡ true → (one ≡ false) × (other ≡ true)
neither true other e = absurd (false≢true e)
neither false other e = (refl, e)

is_neither : (t here : Terminal) (others : Option Terminal) (test : Bool) → (here ≡ t → ⊥) → (unwrap_or others terminal.Name ≡ t → ⊥)
    → unwrap_or (cond test (Some here) others) terminal.Name ≡ t → ⊥
is_neither t here others true h g e = h e
is_neither t here others false h g e = g e

entry_is_not : (t : Terminal) (table : List (List ℕ × Terminal)) (bytes : List ℕ) → is_nowhere t table ≡ true → same_terminal terminal.Name t ≡ false
    → unwrap_or (entry_of table bytes) terminal.Name ≡ t → ⊥
unfolding is_nowhere
entry_is_not t [] bytes h g e = other_terminal terminal.Name t g e
entry_is_not t (entry ∷ table) bytes h g e =
    let both = neither (same_terminal entry.1 t) (is_nowhere t table) h in
    is_neither t entry.1 (entry_of table bytes) (bytes_eq entry.0 bytes) (other_terminal entry.1 t both.0) (entry_is_not t table bytes both.1 g) e

-- ---- tokens

numeral_sort : (s : Sort) (bytes : List ℕ) → terminal_of s bytes ≡ terminal.Numeral → s ≡ sort.Numeral
unfolding is_nowhere keywords symbols
numeral_sort sort.Name bytes e = absurd (other_terminal terminal.Name terminal.Numeral refl e)
numeral_sort sort.Numeral bytes e = refl
numeral_sort sort.Text bytes e = absurd (other_terminal terminal.Text terminal.Numeral refl e)
numeral_sort sort.Keyword bytes e = absurd (entry_is_not terminal.Numeral keywords bytes refl refl e)
numeral_sort sort.Symbol bytes e = absurd (entry_is_not terminal.Numeral symbols bytes refl refl e)

text_sort : (s : Sort) (bytes : List ℕ) → terminal_of s bytes ≡ terminal.Text → s ≡ sort.Text
unfolding is_nowhere keywords symbols
text_sort sort.Name bytes e = absurd (other_terminal terminal.Name terminal.Text refl e)
text_sort sort.Numeral bytes e = absurd (other_terminal terminal.Numeral terminal.Text refl e)
text_sort sort.Text bytes e = refl
text_sort sort.Keyword bytes e = absurd (entry_is_not terminal.Text keywords bytes refl refl e)
text_sort sort.Symbol bytes e = absurd (entry_is_not terminal.Text symbols bytes refl refl e)

module _ (numerals : NumeralsHaveValues) (texts : TextsHaveValues) (bytes : List ℕ) where
  token_has_value : (t : token.Token) → piece_of (slice_range bytes t.start t.end) ≡ Some (Token t.sort) → HasValue (word_of bytes t)
  token_has_value t spells = record {
    numeral = λ is. numerals (slice_range bytes t.start t.end) (spells ∙ ap (λ s. Some (Token s)) (numeral_sort t.sort (slice_range bytes t.start t.end) is));
    text = λ is. texts (slice_range bytes t.start t.end) (spells ∙ ap (λ s. Some (Token s)) (text_sort t.sort (slice_range bytes t.start t.end) is));
  }

  pub words_have_values : (from : ℕ) (tokens : List token.Token) → StandInOrder bytes from tokens → EachHasValue (words_of bytes tokens)
  words_have_values from [] h = tt
  words_have_values from (t ∷ tokens) h = (token_has_value t h.3, words_have_values t.end tokens h.5)
