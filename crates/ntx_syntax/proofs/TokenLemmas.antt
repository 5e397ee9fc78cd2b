-- What tokens of each sort spell: numerals and texts have values, and keywords and symbols are in their tables.
use Rattle.std.proofs.Common.{◌≡◌, ℕ, ◌+◌, Bool, true, false, ◌||◌, cond, List, [], ◌∷◌, length, drop, Option, Some, None, refl, sym, ap, ◌∙◌}
use Rattle.std.specs.Prelude.{is_some, not, nat_eq}
use Rattle.std.specs.List.{list_all}
use Rattle.std.specs.Char.{is_ascii_digit}
use Rattle.std.proofs.lemmas.Bool.{false≢true}
use Rattle.ntx_syntax.specs.declared.token.Sort.{Sort}
use Rattle.ntx_syntax.specs.declared.token.Sort.TheVariants.{Name, Keyword, Numeral, Symbol}
use Rattle.ntx_syntax.specs.declared.token.Sort.TheVariants as sort
use Rattle.ntx_syntax.specs.declared.terminal.Terminal.{Terminal}
use Rattle.ntx_syntax.specs.declared.fault.SyntaxWhy.TheVariants as why
use Rattle.ntx_syntax.specs.declared.piece.Piece.{Piece}
use Rattle.ntx_syntax.specs.declared.piece.Piece.TheVariants.{Gap, Token, Wrong}
use Rattle.ntx_syntax.specs.Bytes.{is_quote, is_line_end, is_blank, begins_name, continues_name}
use Rattle.ntx_syntax.specs.Terminals.{keywords, symbols, entry_of}
use Rattle.ntx_syntax.specs.Values.{is_decimal, numeral_value, text_value}
use Rattle.ntx_syntax.specs.Pieces.{piece_of, piece_if, is_among, refused_symbols, word_sort, word_piece, numeral_piece, is_spoiled, text_piece, comment_piece, comment_piece_at, long_comment_piece, ends_at_bracket, bracket_level, begins_comment, symbol_piece}
use Rattle.ntx_syntax.specs.Lexes.{NumeralsHaveValues, TextsHaveValues, KeywordsAreListed, SymbolsAreListed}
use Rattle.ntx_syntax.proofs.FrontLemmas.{choice, piece_of-cons}

-- ---- what is no token of another sort

not_if : (t : Bool) (q p : Piece) → (q ≡ p → ⊥) → piece_if t q ≡ Some p → ⊥
not_if true q p differ h = differ (same q p h)
  where
    same : (q p : Piece) → Some q ≡ Some p → q ≡ p
    same q p h = cc
not_if false q p differ h = cc

not_either : (t u : Bool) (q r p : Piece) → (q ≡ p → ⊥) → (r ≡ p → ⊥) → cond t (Some q) (piece_if u r) ≡ Some p → ⊥
not_either true u q r p differ other h = not_if true q p differ h
not_either false u q r p differ other h = not_if u r p other h

no_comment : (o : Option ℕ) (bytes : List ℕ) (s : Sort) → comment_piece_at o bytes ≡ Some (Token s) → ⊥
no_comment None bytes s h = not_if (list_all (λ b. not (is_line_end b)) bytes) Gap (Token s) (λ e. cc) h
no_comment (Some level) bytes s h = not_long (drop (level + 2) bytes) h
  where
    not_long : (rest : List ℕ) → long_comment_piece level rest ≡ Some (Token s) → ⊥
    not_long [] h = not_if true (Wrong why.Comment) (Token s) (λ e. cc) h
    not_long (b ∷ rest) h = not_if (ends_at_bracket level (b ∷ rest)) Gap (Token s) (λ e. cc) h

not_symbol : (t u v : Bool) (p : Piece) → (Token Symbol ≡ p → ⊥) → (Wrong why.Symbol ≡ p → ⊥) → (Wrong why.Byte ≡ p → ⊥) → cond t (Some (Token Symbol)) (cond u (Some (Wrong why.Symbol)) (piece_if v (Wrong why.Byte))) ≡ Some p → ⊥
not_symbol true u v p differ other third h = not_if true (Token Symbol) p differ h
not_symbol false u v p differ other third h = not_either u v (Wrong why.Symbol) (Wrong why.Byte) p other third h

no_symbol : (bytes : List ℕ) (s : Sort) → (Token Symbol ≡ Token s → ⊥) → symbol_piece bytes ≡ Some (Token s) → ⊥
unfolding symbol_piece
no_symbol bytes s differ h = not_symbol (is_some (entry_of symbols bytes)) (is_among refused_symbols bytes) (nat_eq (length bytes) 1) (Token s) differ (λ e. cc) (λ e. cc) h

no_word : (t u : Bool) (s : Sort) → (Token Keyword ≡ Token s → ⊥) → (Token Name ≡ Token s → ⊥) → piece_if t (Token (cond u Keyword Name)) ≡ Some (Token s) → ⊥
no_word t true s differ other h = not_if t (Token Keyword) (Token s) differ h
no_word t false s differ other h = not_if t (Token Name) (Token s) other h

-- ---- what is a token of its sort

numeral_some : (t u : Bool) → cond t (Some (Token Numeral)) (piece_if u (Wrong why.Number)) ≡ Some (Token Numeral) → t ≡ true
numeral_some true u h = refl
numeral_some false u h = absurd (not_if u (Wrong why.Number) (Token Numeral) (λ e. cc) h)

text_some : (t u : Bool) → cond t (Some (Token sort.Text)) (piece_if u (Wrong why.Text)) ≡ Some (Token sort.Text) → t ≡ true
text_some true u h = refl
text_some false u h = absurd (not_if u (Wrong why.Text) (Token sort.Text) (λ e. cc) h)

word_listed : (t u : Bool) → piece_if t (Token (cond u Keyword Name)) ≡ Some (Token Keyword) → u ≡ true
word_listed t true h = refl
word_listed t false h = absurd (not_if t (Token Name) (Token Keyword) (λ e. cc) h)

symbol_some : (t u v : Bool) → cond t (Some (Token Symbol)) (cond u (Some (Wrong why.Symbol)) (piece_if v (Wrong why.Byte))) ≡ Some (Token Symbol) → t ≡ true
symbol_some true u v h = refl
symbol_some false u v h = absurd (not_either u v (Wrong why.Symbol) (Wrong why.Byte) (Token Symbol) (λ e. cc) (λ e. cc) h)

symbol_listed : (bytes : List ℕ) → symbol_piece bytes ≡ Some (Token Symbol) → is_some (entry_of symbols bytes) ≡ true
unfolding symbol_piece
symbol_listed bytes h = symbol_some (is_some (entry_of symbols bytes)) (is_among refused_symbols bytes) (nat_eq (length bytes) 1) h

-- ---- all sorts

nothing : (p : Piece) → piece_of [] ≡ Some p → ⊥
unfolding piece_of
nothing p h = cc

-- What each kind of piece shows, the piece shows.
by_choice : {X : Type 0} (p : Piece) (blank name digit quote dashes : Bool) (gap word numeral text comment symbol : Option Piece) → choice blank name digit quote dashes gap word numeral text comment symbol ≡ Some p
    → (gap ≡ Some p → X) → (word ≡ Some p → X) → (numeral ≡ Some p → X) → (text ≡ Some p → X) → (comment ≡ Some p → X) → (symbol ≡ Some p → X) → X
by_choice p true name digit quote dashes gap word numeral text comment symbol h g w n t c s = g h
by_choice p false true digit quote dashes gap word numeral text comment symbol h g w n t c s = w h
by_choice p false false true quote dashes gap word numeral text comment symbol h g w n t c s = n h
by_choice p false false false true dashes gap word numeral text comment symbol h g w n t c s = t h
by_choice p false false false false true gap word numeral text comment symbol h g w n t c s = c h
by_choice p false false false false false gap word numeral text comment symbol h g w n t c s = s h

by_sort : {X : Type 0} (s : Sort) (b : ℕ) (bytes : List ℕ) → piece_of (b ∷ bytes) ≡ Some (Token s)
    → (word_piece (b ∷ bytes) ≡ Some (Token s) → X) → (numeral_piece (b ∷ bytes) ≡ Some (Token s) → X) → (text_piece (b ∷ bytes) ≡ Some (Token s) → X) → (symbol_piece (b ∷ bytes) ≡ Some (Token s) → X) → X
by_sort s b bytes h word numeral text symbol =
    by_choice (Token s) (is_blank b) (begins_name b) (is_ascii_digit b) (is_quote b) (begins_comment (b ∷ bytes)) (piece_if (nat_eq (length bytes) 0) Gap) (word_piece (b ∷ bytes)) (numeral_piece (b ∷ bytes)) (text_piece (b ∷ bytes)) (comment_piece (drop 1 bytes)) (symbol_piece (b ∷ bytes))
    (sym (piece_of-cons b bytes) ∙ h)
    (λ e. absurd (not_if (nat_eq (length bytes) 0) Gap (Token s) (λ e. cc) e))
    word numeral text
    (λ e. absurd (no_comment (bracket_level 91 (drop 1 bytes)) (drop 1 bytes) s e))
    symbol

module _ (b : ℕ) (bytes : List ℕ) where
  no_word_here : (s : Sort) → (Token Keyword ≡ Token s → ⊥) → (Token Name ≡ Token s → ⊥) → word_piece (b ∷ bytes) ≡ Some (Token s) → ⊥
  no_word_here s differ other h = no_word (list_all continues_name (b ∷ bytes)) (is_some (entry_of keywords (b ∷ bytes))) s differ other h

  no_numeral_here : (s : Sort) → (Token Numeral ≡ Token s → ⊥) → numeral_piece (b ∷ bytes) ≡ Some (Token s) → ⊥
  no_numeral_here s differ h = not_either (is_some (numeral_value (b ∷ bytes))) (is_decimal (b ∷ bytes) || is_spoiled (b ∷ bytes)) (Token Numeral) (Wrong why.Number) (Token s) differ (λ e. cc) h

  no_text_here : (s : Sort) → (Token sort.Text ≡ Token s → ⊥) → text_piece (b ∷ bytes) ≡ Some (Token s) → ⊥
  no_text_here s differ h = not_either (is_some (text_value (b ∷ bytes))) (nat_eq (length (b ∷ bytes)) 1) (Token sort.Text) (Wrong why.Text) (Token s) differ (λ e. cc) h

pub numerals_have_values : NumeralsHaveValues
numerals_have_values [] h = absurd (nothing (Token Numeral) h)
numerals_have_values (b ∷ bytes) h = by_sort Numeral b bytes h
    (λ e. absurd (no_word_here b bytes Numeral (λ e. cc) (λ e. cc) e))
    (λ e. numeral_some (is_some (numeral_value (b ∷ bytes))) (is_decimal (b ∷ bytes) || is_spoiled (b ∷ bytes)) e)
    (λ e. absurd (no_text_here b bytes Numeral (λ e. cc) e))
    (λ e. absurd (no_symbol (b ∷ bytes) Numeral (λ e. cc) e))

pub texts_have_values : TextsHaveValues
texts_have_values [] h = absurd (nothing (Token sort.Text) h)
texts_have_values (b ∷ bytes) h = by_sort sort.Text b bytes h
    (λ e. absurd (no_word_here b bytes sort.Text (λ e. cc) (λ e. cc) e))
    (λ e. absurd (no_numeral_here b bytes sort.Text (λ e. cc) e))
    (λ e. text_some (is_some (text_value (b ∷ bytes))) (nat_eq (length (b ∷ bytes)) 1) e)
    (λ e. absurd (no_symbol (b ∷ bytes) sort.Text (λ e. cc) e))

pub keywords_are_listed : KeywordsAreListed
keywords_are_listed [] h = absurd (nothing (Token Keyword) h)
keywords_are_listed (b ∷ bytes) h = by_sort Keyword b bytes h
    (λ e. word_listed (list_all continues_name (b ∷ bytes)) (is_some (entry_of keywords (b ∷ bytes))) e)
    (λ e. absurd (no_numeral_here b bytes Keyword (λ e. cc) e))
    (λ e. absurd (no_text_here b bytes Keyword (λ e. cc) e))
    (λ e. absurd (no_symbol (b ∷ bytes) Keyword (λ e. cc) e))

pub symbols_are_listed : SymbolsAreListed
symbols_are_listed [] h = absurd (nothing (Token Symbol) h)
symbols_are_listed (b ∷ bytes) h = by_sort Symbol b bytes h
    (λ e. absurd (no_word_here b bytes Symbol (λ e. cc) (λ e. cc) e))
    (λ e. absurd (no_numeral_here b bytes Symbol (λ e. cc) e))
    (λ e. absurd (no_text_here b bytes Symbol (λ e. cc) e))
    (λ e. symbol_listed (b ∷ bytes) e)

-- ---- look-ups that find nothing

pub keyword_found : (bytes : List ℕ) (s : Sort) (found : Option Terminal) → piece_of bytes ≡ Some (Token s) → s ≡ Keyword → found ≡ entry_of keywords bytes → found ≡ None → ⊥
keyword_found bytes s found spells is looked none = false≢true (ap is_some (sym none ∙ looked) ∙ keywords_are_listed bytes (spells ∙ ap (λ s. Some (Token s)) is))

pub symbol_found : (bytes : List ℕ) (s : Sort) (found : Option Terminal) → piece_of bytes ≡ Some (Token s) → s ≡ Symbol → found ≡ entry_of symbols bytes → found ≡ None → ⊥
symbol_found bytes s found spells is looked none = false≢true (ap is_some (sym none ∙ looked) ∙ symbols_are_listed bytes (spells ∙ ap (λ s. Some (Token s)) is))
