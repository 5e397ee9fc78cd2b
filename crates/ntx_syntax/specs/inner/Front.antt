-- The piece at the beginning of bytes, and how its end is found.
use Rattle.std.specs.Prelude.{◌≡◌, ◌<◌, ◌≤◌, ℕ, zero, suc, ◌+◌, ◌==◌, ◌&&◌, ◌||◌, true, false, not, slice_index, nat_le, Bool, List, [], ◌∷◌, length, take, Option, None, Some, option_map, option_and_then, if◌then◌else◌}
use Rattle.std.specs.Char.{is_ascii_digit, is_ascii_hexdigit}
use Rattle.ntx_syntax.specs.declared.bytes.Class.{Class}
use Rattle.ntx_syntax.specs.declared.bytes.Class.TheVariants as class
use Rattle.ntx_syntax.specs.declared.piece.Piece.{Piece}
use Rattle.ntx_syntax.specs.Bytes.{is_line_end, continues_name}
use Rattle.ntx_syntax.specs.Values.{escape, is_decimal, is_hexadecimal}
use Rattle.ntx_syntax.specs.Pieces.{piece_of, bracket_level, is_level, comment_piece, symbol_piece}

-- The prefix of this length spells this piece, and no longer prefix spells one, as `spelled` has it.
pub record IsFrontOf (spelled : List ℕ → Option Piece) (bytes : List ℕ) (len : ℕ) (piece : Piece) : Type 0 where
  pub some : 0 < len
  pub within : len ≤ length bytes
  pub spells : spelled (take len bytes) ≡ Some piece
  pub longest : (n : ℕ) → len < n → n ≤ length bytes → spelled (take n bytes) ≡ None

abbrev pub IsFront : List ℕ → ℕ → Piece → Type 0
IsFront = IsFrontOf piece_of

-- ---- runs

abbrev pub is_in : Class → ℕ → Bool
is_in class.Word b = continues_name b
is_in class.Digit b = is_ascii_digit b
is_in class.HexDigit b = is_ascii_hexdigit b
is_in class.Line b = not (is_line_end b)
is_in class.EqualSign b = b == 61

-- ---- numerals

-- `0x` and a hexadecimal digit
abbrev pub begins_hexadecimal : List ℕ → Bool
begins_hexadecimal bytes = slice_index bytes 0 == 48 && slice_index bytes 1 == 120 && is_ascii_hexdigit (slice_index bytes 2)

-- So many bytes have the form of a numeral, and no more have.
pub record EndsForm (bytes : List ℕ) (len : ℕ) : Type 0 where
  pub some : 0 < len
  pub within : len ≤ length bytes
  pub form : (is_decimal (take len bytes) || is_hexadecimal (take len bytes)) ≡ true
  pub past : (n : ℕ) → len < n → n ≤ length bytes → (is_decimal (take n bytes) || is_hexadecimal (take n bytes)) ≡ false

-- ---- texts

-- How many of the bytes after an opening quote its text takes, the closing quote among them, if there is one. The number counts the bytes
-- at the beginning that belong to an escape.
abbrev pub quoted_len : ℕ → ℕ → List ℕ → Option ℕ
quoted_len quote escaped [] = None
quoted_len quote (suc escaped) (b ∷ bytes) = option_map suc (quoted_len quote escaped bytes)
quoted_len quote zero (b ∷ bytes) =
    if b == quote then Some 1
    else (if is_line_end b then None
    else (if b == 92 then option_and_then (λ e. option_map suc (quoted_len quote e.1 bytes)) (escape bytes)
    else option_map suc (quoted_len quote 0 bytes)))

-- the character at the beginning of bytes within a text, and how many bytes spell it
abbrev pub character : List ℕ → Option (ℕ × ℕ)
character [] = None
character (b ∷ bytes) = if b == 92 then option_map (λ e. (e.0, e.1 + 1)) (escape bytes) else Some (b, 1)

-- ---- comments

-- How many bytes stand up to the end of the first closing bracket of this level, if there is one.
abbrev pub bracketed_len : ℕ → List ℕ → Option ℕ
bracketed_len level [] = None
bracketed_len level (b ∷ bytes) =
    if is_level level (bracket_level 93 (b ∷ bytes)) then Some (level + 2) else option_map suc (bracketed_len level bytes)

-- After the dashes of a comment: so many bytes are this piece, and with more there is none.
pub record IsCommentRest (bytes : List ℕ) (len : ℕ) (piece : Piece) : Type 0 where
  pub within : len ≤ length bytes
  pub spells : comment_piece (take len bytes) ≡ Some piece
  pub longest : (n : ℕ) → len < n → n ≤ length bytes → comment_piece (take n bytes) ≡ None

-- ---- symbols

-- what so many bytes at the beginning spell as a symbol, if there are so many
abbrev pub symbol_at : ℕ → List ℕ → Option Piece
symbol_at len bytes = if nat_le len (length bytes) then symbol_piece (take len bytes) else None
