-- The longest symbol at the beginning.
use Rattle.std.proofs.Common.{◌≡◌, ℕ, suc, ◌<◌, ◌≤◌, Bool, true, false, ◌||◌, cond, List, [], ◌∷◌, length, take, Option, Some, None, refl, sym, ap, ◌∙◌, subst, ⊎_elim, arith}
use Rattle.std.specs.Prelude.{nat_lt, nat_le, nat_eq, bytes_eq, is_some}
use Rattle.std.specs.List.{list_all}
use Rattle.std.proofs.lemmas.Bool.{false≢true, cases_lt, and_parts, ltb-true, ne_eqb, le-leb, leb-true, or_from, false_from_ne_true}
use Rattle.std.proofs.lemmas.List.{length-take-le}
use lib.Pointwise.{pointwise_long}
use Rattle.ntx_syntax.specs.declared.token.Sort.TheVariants.{Symbol}
use Rattle.ntx_syntax.specs.declared.fault.SyntaxWhy.TheVariants as why
use Rattle.ntx_syntax.specs.declared.piece.Piece.{Piece}
use Rattle.ntx_syntax.specs.declared.piece.Piece.TheVariants.{Token, Wrong}
use Rattle.ntx_syntax.specs.declared.terminal.Terminal.{Terminal}
use Rattle.ntx_syntax.specs.Terminals.{symbols, entry_of}
use Rattle.ntx_syntax.specs.Pieces.{is_among, refused_symbols, symbol_piece, piece_if}
use Rattle.ntx_syntax.specs.inner.Front.{IsFrontOf, symbol_at}

-- words that are shorter are other words
not_among : (words : List (List ℕ)) (bytes : List ℕ) → list_all (λ word. nat_lt (length word) 4) words ≡ true → 4 ≤ length bytes → is_among words bytes ≡ false
not_among [] bytes short long = refl
not_among (word ∷ words) bytes short long =
    let parts = and_parts (nat_lt (length word) 4) (list_all (λ word. nat_lt (length word) 4) words) short in
    let less = ltb-true (length word) 4 parts.0 in
    or_from (bytes_eq word bytes) (is_among words bytes)
    (false_from_ne_true (bytes_eq word bytes) (λ same. let equal = pointwise_long nat_eq word bytes same in absurd (omega arith)))
    (not_among words bytes parts.1 long)

no_entry : (t : Bool) (found : Terminal) (others : Option Terminal) → t ≡ false → is_some others ≡ false → is_some (cond t (Some found) others) ≡ false
no_entry t found others p q = rw (p, q) refl

not_listed : (table : List (List ℕ × Terminal)) (bytes : List ℕ) → list_all (λ entry. nat_lt (length entry.0) 4) table ≡ true → 4 ≤ length bytes → is_some (entry_of table bytes) ≡ false
not_listed [] bytes short long = refl
not_listed (entry ∷ table) bytes short long =
    let parts = and_parts (nat_lt (length entry.0) 4) (list_all (λ entry. nat_lt (length entry.0) 4) table) short in
    let less = ltb-true (length entry.0) 4 parts.0 in
    no_entry (bytes_eq entry.0 bytes) entry.1 (entry_of table bytes)
    (false_from_ne_true (bytes_eq entry.0 bytes) (λ same. let equal = pointwise_long nat_eq entry.0 bytes same in absurd (omega arith)))
    (not_listed table bytes parts.1 long)

no_piece : (symbol refused one : Bool) → symbol ≡ false → refused ≡ false → one ≡ false → cond symbol (Some (Token Symbol)) (cond refused (Some (Wrong why.Symbol)) (piece_if one (Wrong why.Byte))) ≡ None
no_piece symbol refused one p q r = rw (p, q, r) refl

-- no symbol has four bytes
symbol_piece-long : (bytes : List ℕ) → 4 ≤ length bytes → symbol_piece bytes ≡ None
unfolding symbol_piece symbols refused_symbols
symbol_piece-long bytes long =
    no_piece (is_some (entry_of symbols bytes)) (is_among refused_symbols bytes) (nat_eq (length bytes) 1) (not_listed symbols bytes refl long) (not_among refused_symbols bytes refl long) (ne_eqb (length bytes) 1 (λ e. omega arith))

some_piece : (symbol refused one : Bool) → one ≡ true → cond symbol (Some (Token Symbol)) (cond refused (Some (Wrong why.Symbol)) (piece_if one (Wrong why.Byte))) ≡ None → ⊥
some_piece true refused one h e = cc
some_piece false true one h e = cc
some_piece false false true h e = cc
some_piece false false false h e = absurd (false≢true h)

-- each byte alone is a piece
pub symbol_piece-one : (b : ℕ) → symbol_piece (b ∷ []) ≡ None → ⊥
unfolding symbol_piece
symbol_piece-one b h = some_piece (is_some (entry_of symbols (b ∷ []))) (is_among refused_symbols (b ∷ [])) true refl h

pub symbol_at-one : (bytes : List ℕ) → 0 < length bytes → symbol_at 1 bytes ≡ None → ⊥
symbol_at-one [] some h = absurd (omega arith)
symbol_at-one (b ∷ bytes) some h = symbol_piece-one b (sym (ap (λ t. cond t (symbol_piece (b ∷ [])) None) (le-leb 1 (length (b ∷ bytes)) (omega arith))) ∙ h)

-- ---- prefixes

at_some : (test : Bool) (o : Option Piece) (piece : Piece) → cond test o None ≡ Some piece → (test ≡ true) × (o ≡ Some piece)
at_some true o piece h = (refl, h)
at_some false o piece h = cc

at_none : (n : ℕ) (bytes : List ℕ) → symbol_at n bytes ≡ None → n ≤ length bytes → symbol_piece (take n bytes) ≡ None
at_none n bytes h within = sym (ap (λ t. cond t (symbol_piece (take n bytes)) None) (le-leb n (length bytes) within)) ∙ h

front_at : (n : ℕ) (bytes : List ℕ) (piece : Piece) → 0 < n → symbol_at n bytes ≡ Some piece → ((m : ℕ) → n < m → m ≤ length bytes → symbol_piece (take m bytes) ≡ None) → IsFrontOf symbol_piece bytes n piece
front_at n bytes piece some h longer =
    let parts = at_some (nat_le n (length bytes)) (symbol_piece (take n bytes)) piece h in
    record { some = some; within = leb-true n (length bytes) parts.0; spells = parts.1; longest = longer }

long_at : (bytes : List ℕ) (m : ℕ) → 3 < m → m ≤ length bytes → symbol_piece (take m bytes) ≡ None
long_at bytes m more whole = symbol_piece-long (take m bytes) (omega (arith, length-take-le m bytes whole))

-- each length below has its own answer
next_at : (bytes : List ℕ) (n m : ℕ) → symbol_at (suc n) bytes ≡ None → ((k : ℕ) → suc n < k → k ≤ length bytes → symbol_piece (take k bytes) ≡ None) → n < m → m ≤ length bytes → symbol_piece (take m bytes) ≡ None
next_at bytes n m none longer more whole = ⊎_elim (λ past. longer m past whole) (λ here. let same : suc n ≡ m = omega arith in subst (λ k. symbol_piece (take k bytes) ≡ None) same (at_none (suc n) bytes none (omega arith))) (cases_lt (suc n) m)

pub three : (bytes : List ℕ) (piece : Piece) → symbol_at 3 bytes ≡ Some piece → IsFrontOf symbol_piece bytes 3 piece
three bytes piece h = front_at 3 bytes piece (omega arith) h (long_at bytes)

pub two : (bytes : List ℕ) (piece : Piece) → symbol_at 3 bytes ≡ None → symbol_at 2 bytes ≡ Some piece → IsFrontOf symbol_piece bytes 2 piece
two bytes piece none h = front_at 2 bytes piece (omega arith) h (λ m. next_at bytes 2 m none (long_at bytes))

pub one : (bytes : List ℕ) (piece : Piece) → symbol_at 3 bytes ≡ None → symbol_at 2 bytes ≡ None → symbol_at 1 bytes ≡ Some piece → IsFrontOf symbol_piece bytes 1 piece
one bytes piece none nor h = front_at 1 bytes piece (omega arith) h (λ m. next_at bytes 1 m nor (λ k. next_at bytes 2 k none (long_at bytes)))
