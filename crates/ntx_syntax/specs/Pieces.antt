-- What bytes spell that stand alone: a blank or a comment, a token, or what may not stand in a script (Lua 5.3 Reference Manual, section 3.1).
-- Unlike Lua it has integers alone, and no decimal one above 2^63-1; texts on one line, without the escapes `\z` and `\u`; no long texts; fewer
-- symbols; space, tab, CR and LF as the only blanks, and LF alone to end a line; and no letter, `_` or `.` directly after a numeral.
-- What may not stand is spelled too, so that the piece at a place is the longest that is spelled there, whatever it is: `3a` is not a numeral
-- and then a name, but a wrong number, and a quote that no text begins with is a wrong text by itself.
use Rattle.std.specs.Prelude.{ℕ, ◌+◌, ◌-◌, ◌==◌, ◌&&◌, ◌||◌, not, Bool, false, List, [], ◌∷◌, length, take, drop, slice_index, Option, None, Some, is_some, if◌then◌else◌, bytes_eq, codes}
use Rattle.std.specs.List.{list_all, list_any, prefix_len}
use Rattle.std.specs.Char.{is_ascii_digit}
use Rattle.ntx_syntax.specs.declared.token.Sort.TheVariants.{Name, Keyword, Numeral, Symbol}
use Rattle.ntx_syntax.specs.declared.token.Sort.TheVariants as sort
use Rattle.ntx_syntax.specs.declared.token.Sort.{Sort}
use Rattle.ntx_syntax.specs.declared.fault.SyntaxWhy.TheVariants as why
use Rattle.ntx_syntax.specs.declared.piece.Piece.{Piece}
use Rattle.ntx_syntax.specs.declared.piece.Piece.TheVariants.{Gap, Token, Wrong}
use Rattle.ntx_syntax.specs.Bytes.{is_blank, is_line_end, begins_name, continues_name, spoils_numeral, is_quote}
use Rattle.ntx_syntax.specs.Terminals.{keywords, symbols, entry_of}
use Rattle.ntx_syntax.specs.Values.{is_decimal, is_hexadecimal, numeral_value, text_value}

-- this piece, if the test holds
abbrev pub piece_if : Bool → Piece → Option Piece
piece_if test piece = if test then Some piece else None

-- ---- names

abbrev pub word_sort : List ℕ → Sort
word_sort bytes = if is_some (entry_of keywords bytes) then Keyword else Name

-- letters, digits and `_`, the first of which is no digit
abbrev pub word_piece : List ℕ → Option Piece
word_piece bytes = piece_if (list_all continues_name bytes) (Token (word_sort bytes))

-- ---- numerals

-- The bytes but the last have the form of a numeral, and the last may not stand after one.
abbrev pub is_spoiled : List ℕ → Bool
is_spoiled bytes =
    let numeral = take (length bytes - 1) bytes in
    (is_decimal numeral || is_hexadecimal numeral) && spoils_numeral (slice_index bytes (length bytes - 1))

abbrev pub numeral_piece : List ℕ → Option Piece
numeral_piece bytes =
    if is_some (numeral_value bytes) then Some (Token Numeral) else piece_if (is_decimal bytes || is_spoiled bytes) (Wrong why.Number)

-- ---- texts

-- A quote that no text begins with is wrong by itself.
abbrev pub text_piece : List ℕ → Option Piece
text_piece bytes = if is_some (text_value bytes) then Some (Token sort.Text) else piece_if (length bytes == 1) (Wrong why.Text)

-- ---- comments

-- The level of the long bracket at the beginning: this mark, as many `=` as the level says, and the mark again. `[` opens and `]` closes.
abbrev pub bracket_level : ℕ → List ℕ → Option ℕ
bracket_level mark bytes =
    let level = prefix_len (λ b. b == 61) (drop 1 bytes) in
    if slice_index bytes 0 == mark && slice_index bytes (level + 1) == mark then Some level else None

abbrev pub is_level : ℕ → Option ℕ → Bool
is_level level None = false
is_level level (Some n) = n == level

-- The first closing bracket of this level in the bytes is at their end.
abbrev pub ends_at_bracket : ℕ → List ℕ → Bool
ends_at_bracket level [] = false
ends_at_bracket level (b ∷ bytes) =
    if is_level level (bracket_level 93 (b ∷ bytes)) then length (b ∷ bytes) == level + 2 else ends_at_bracket level bytes

-- What stands after the opening bracket of a long comment. One that no closing bracket follows is wrong by itself.
abbrev pub long_comment_piece : ℕ → List ℕ → Option Piece
long_comment_piece level [] = Some (Wrong why.Comment)
long_comment_piece level (b ∷ bytes) = piece_if (ends_at_bracket level (b ∷ bytes)) Gap

-- What stands after the two dashes of a comment: without an opening bracket, anything on the line.
abbrev pub comment_piece_at : Option ℕ → List ℕ → Option Piece
comment_piece_at None bytes = piece_if (list_all (λ b. not (is_line_end b)) bytes) Gap
comment_piece_at (Some level) bytes = long_comment_piece level (drop (level + 2) bytes)

abbrev pub comment_piece : List ℕ → Option Piece
comment_piece bytes = comment_piece_at (bracket_level 91 bytes) bytes

abbrev pub begins_comment : List ℕ → Bool
begins_comment bytes = slice_index bytes 0 == 45 && slice_index bytes 1 == 45

-- ---- symbols

abbrev pub is_among : List (List ℕ) → List ℕ → Bool
is_among words bytes = list_any (λ word. bytes_eq word bytes) words

-- symbols and beginnings of long brackets of Lua that this language does not have
unfoldable pub refused_symbols : List (List ℕ)
refused_symbols = codes "..." ∷ codes "::" ∷ codes ":" ∷ codes "/" ∷ codes "^" ∷ codes "[[" ∷ codes "[=" ∷ []

-- Any other byte is wrong by itself.
unfoldable pub symbol_piece : List ℕ → Option Piece
symbol_piece bytes =
    if is_some (entry_of symbols bytes) then Some (Token Symbol)
    else (if is_among refused_symbols bytes then Some (Wrong why.Symbol)
    else piece_if (length bytes == 1) (Wrong why.Byte))

-- ---- pieces

-- What the bytes spell, if they spell one piece.
unfoldable pub piece_of : List ℕ → Option Piece
piece_of [] = None
piece_of (b ∷ bytes) =
    if is_blank b then piece_if (length bytes == 0) Gap
    else (if begins_name b then word_piece (b ∷ bytes)
    else (if is_ascii_digit b then numeral_piece (b ∷ bytes)
    else (if is_quote b then text_piece (b ∷ bytes)
    else (if begins_comment (b ∷ bytes) then comment_piece (drop 1 bytes)
    else symbol_piece (b ∷ bytes)))))
