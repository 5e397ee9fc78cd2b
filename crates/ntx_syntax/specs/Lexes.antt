-- The tokens of a script: it is cut into pieces, each the longest that is spelled at its place, and the tokens are the pieces but blanks and
-- comments, each with its slice and its line (Lua 5.3 Reference Manual, section 3.1). The first piece that may not stand in a script
-- refuses it.
use Rattle.std.specs.Prelude.{◌≡◌, ◌↔◌, ◌<◌, ◌≤◌, ℕ, zero, suc, ◌+◌, ◌-◌, List, [], ◌∷◌, ◌++◌, length, take, count_by, slice_range, Option, None, Some, IsSome, is_some, Result, Ok, Err, if◌then◌else◌}
use Rattle.ntx_num.specs.Answer.{result_map}
use Rattle.ntx_syntax.specs.declared.token.Token as token
use Rattle.ntx_syntax.specs.declared.fault.SyntaxFault.{SyntaxFault}
use Rattle.ntx_syntax.specs.declared.piece.Piece.{Piece}
use Rattle.ntx_syntax.specs.declared.piece.Piece.TheVariants.{Gap, Token, Wrong}
use Rattle.ntx_syntax.specs.declared.token.Sort.TheVariants as sort
use Rattle.ntx_syntax.specs.Bytes.{is_line_end}
use Rattle.ntx_syntax.specs.Terminals.{keywords, symbols, entry_of}
use Rattle.ntx_syntax.specs.Values.{numeral_value, text_value}
use Rattle.ntx_syntax.specs.Pieces.{piece_of}

-- ---- the cut

-- This part, before this rest, spells a piece, and no longer prefix does.
pub record IsLongestPiece (part rest : List ℕ) : Type 0 where
  pub spelled : IsSome (piece_of part)
  pub longest : (more others : List ℕ) → rest ≡ more ++ others → 0 < length more → piece_of (part ++ more) ≡ None

-- The parts, one after the other, are the bytes, and each spells the longest piece at its place.
abbrev pub IsCut : List ℕ → List (List ℕ) → Type 0
IsCut bytes [] = bytes ≡ []
IsCut bytes (part ∷ parts) = (rest : List ℕ) × (bytes ≡ part ++ rest) × IsLongestPiece part rest × IsCut rest parts

-- ---- what the parts say

-- how many lines end in these bytes
abbrev pub line_ends : List ℕ → ℕ
line_ends bytes = count_by is_line_end bytes

-- What a piece says from this place to this end, on this line, before others that say this. A gap says nothing, nor does what spells no piece,
-- which no cut has.
abbrev pub said : Option Piece → ℕ → ℕ → ℕ → Result (List token.Token) SyntaxFault → Result (List token.Token) SyntaxFault
said None start end line others = others
said (Some Gap) start end line others = others
said (Some (Token sort)) start end line others = result_map (λ tokens. record { sort = sort; start = start; end = end; line = line } ∷ tokens) others
said (Some (Wrong why)) start end line others = Err (record { line = line; why = why })

-- The tokens of the parts that stand from this place on, the first of them on this line, or the first fault among them.
abbrev pub tokens_of : ℕ → ℕ → List (List ℕ) → Result (List token.Token) SyntaxFault
tokens_of start line [] = Ok []
tokens_of start line (part ∷ parts) =
    let end = start + length part in said (piece_of part) start end line (tokens_of end (line + line_ends part) parts)

-- ---- scripts

-- The script has these tokens.
abbrev pub Lexes : List ℕ → List token.Token → Type 0
Lexes bytes tokens = (parts : List (List ℕ)) × IsCut bytes parts × (tokens_of 0 1 parts ≡ Ok tokens)

-- The script is refused with this fault: the first of its pieces that may not stand in a script, on the line where that piece begins.
abbrev pub IsRefused : List ℕ → SyntaxFault → Type 0
IsRefused bytes fault = (parts : List (List ℕ)) × IsCut bytes parts × (tokens_of 0 1 parts ≡ Err fault)

-- ---- the same, computed

-- the length of the longest prefix, of this many bytes at most, that spells a piece
abbrev pub longest_front : ℕ → List ℕ → ℕ
longest_front zero bytes = 0
longest_front (suc n) bytes = if is_some (piece_of (take (suc n) bytes)) then suc n else longest_front n bytes

-- The parts of the bytes. The number counts the bytes at the beginning that belong to the part before.
abbrev pub cut_from : ℕ → List ℕ → List (List ℕ)
cut_from inside [] = []
cut_from (suc inside) (b ∷ bytes) = cut_from inside bytes
cut_from zero (b ∷ bytes) =
    let n = longest_front (length (b ∷ bytes)) (b ∷ bytes) in take n (b ∷ bytes) ∷ cut_from (n - 1) bytes

unfoldable pub parts_of : List ℕ → List (List ℕ)
parts_of bytes = cut_from 0 bytes

-- The tokens of a script, or its first fault.
abbrev pub lexed_of : List ℕ → Result (List token.Token) SyntaxFault
lexed_of bytes = tokens_of 0 1 (parts_of bytes)

-- ---- where tokens stand

-- The tokens stand in the bytes one after the other, from this place on: each has a slice that spells it, and its line is one more than the
-- lines that end before it.
abbrev pub StandInOrder : List ℕ → ℕ → List token.Token → Type 0
StandInOrder bytes from [] = Unit {0}
StandInOrder bytes from (t ∷ tokens) =
    (from ≤ t.start) × (t.start < t.end) × (t.end ≤ length bytes)
    × (piece_of (slice_range bytes t.start t.end) ≡ Some (Token t.sort))
    × (t.line ≡ 1 + line_ends (take t.start bytes))
    × StandInOrder bytes t.end tokens

-- ---- laws

-- Bytes are cut in one way.
abbrev pub CutIsOne : Type 0
CutIsOne = (bytes : List ℕ) → IsCut bytes (parts_of bytes) × ((parts : List (List ℕ)) → IsCut bytes parts → parts ≡ parts_of bytes)

-- A script has the tokens that are computed, and no others.
abbrev pub LexesAsComputed : Type 0
LexesAsComputed = (bytes : List ℕ) (tokens : List token.Token) → Lexes bytes tokens ↔ (lexed_of bytes ≡ Ok tokens)

-- A script is refused with the fault that is computed, and with no other.
abbrev pub IsRefusedAsComputed : Type 0
IsRefusedAsComputed = (bytes : List ℕ) (fault : SyntaxFault) → IsRefused bytes fault ↔ (lexed_of bytes ≡ Err fault)

-- Two lists of tokens of one script are one.
abbrev pub LexesOnce : Type 0
LexesOnce = (bytes : List ℕ) (tokens others : List token.Token) → Lexes bytes tokens → Lexes bytes others → tokens ≡ others

-- The tokens of a script stand in it.
abbrev pub TokensStandInOrder : Type 0
TokensStandInOrder = (bytes : List ℕ) (tokens : List token.Token) → Lexes bytes tokens → StandInOrder bytes 0 tokens

-- What spells a numeral or a text has a value.
abbrev pub NumeralsHaveValues : Type 0
NumeralsHaveValues = (bytes : List ℕ) → piece_of bytes ≡ Some (Token sort.Numeral) → IsSome (numeral_value bytes)

abbrev pub TextsHaveValues : Type 0
TextsHaveValues = (bytes : List ℕ) → piece_of bytes ≡ Some (Token sort.Text) → IsSome (text_value bytes)

-- What spells a keyword or a symbol is in its table.
abbrev pub KeywordsAreListed : Type 0
KeywordsAreListed = (bytes : List ℕ) → piece_of bytes ≡ Some (Token sort.Keyword) → IsSome (entry_of keywords bytes)

abbrev pub SymbolsAreListed : Type 0
SymbolsAreListed = (bytes : List ℕ) → piece_of bytes ≡ Some (Token sort.Symbol) → IsSome (entry_of symbols bytes)
