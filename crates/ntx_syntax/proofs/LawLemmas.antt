-- The laws of the tokens of a script.
use Rattle.std.proofs.Common.{◌≡◌, ℕ, zero, suc, ◌+◌, ◌-◌, ◌<◌, ◌≤◌, Bool, true, false, ◌&&◌, ◌||◌, cond, List, [], ◌∷◌, ◌++◌, length, take, drop, Option, Some, None, Result, Ok, Err, refl, sym, ap, ◌∙◌, subst, ⊎_elim, append_assoc, Vec, Global, arith}
use Rattle.std.specs.Prelude.{is_some, IfOk, nat_eq, slice_range, ◌↔◌}
use Rattle.std.specs.Char.{is_ascii_digit}
use Rattle.std.proofs.lemmas.Bool.{false≢true, cases_lt}
use Rattle.std.proofs.lemmas.List.{length-take-le, length-append, length-drop, take-append-drop, take_at, drop_at}
use Rattle.std.proofs.lemmas.List.Sums.{sum_by-append}
use Rattle.std.proofs.Math.Seq.{take-append-add, take-append_seam}
use Rattle.ntx_num.specs.Answer.{Answers, result_map}
use Rattle.ntx_num.specs.declared.answer.Fail.{Fail}
use Rattle.std.proofs.Math.Bool.{and-false}
use Rattle.ntx_syntax.specs.declared.token.Token as token
use Rattle.ntx_syntax.specs.declared.token.Sort.TheVariants as sort
use Rattle.ntx_syntax.specs.declared.fault.SyntaxFault.{SyntaxFault}
use Rattle.ntx_syntax.specs.declared.fault.SyntaxWhy.TheVariants as why
use Rattle.ntx_syntax.specs.declared.piece.Piece.{Piece}
use Rattle.ntx_syntax.specs.declared.piece.Piece.TheVariants.{Gap, Token, Wrong}
use Rattle.ntx_syntax.specs.Bytes.{is_blank, is_line_end, begins_name, is_quote}
use Rattle.ntx_syntax.specs.Values.{numeral_value, text_value}
use Rattle.ntx_syntax.specs.Pieces.{piece_of, piece_if, word_sort, word_piece, numeral_piece, is_spoiled, text_piece, comment_piece, begins_comment, symbol_piece}
use Rattle.ntx_syntax.specs.inner.Front.{IsFront}
use Rattle.ntx_syntax.specs.Lexes.{IsLongestPiece, IsCut, line_ends, said, tokens_of, Lexes, IsRefused, parts_of, lexed_of, StandInOrder, CutIsOne, LexesAsComputed, IsRefusedAsComputed, LexesOnce, TokensStandInOrder}
use Rattle.ntx_syntax.proofs.WordLemmas.{continues}
use Rattle.ntx_syntax.proofs.SymbolLemmas.{symbol_piece-one}
use Rattle.ntx_syntax.proofs.FrontLemmas.{piece_of-cons}
use Rattle.ntx_syntax.proofs.LexLemmas.{parts_of-front, parts_of-nil}

-- ---- each byte alone is a piece

none_some : {X : Type 0} (x : X) → Some x ≡ None → ⊥
none_some x e = cc

word_alone : (b : ℕ) → begins_name b ≡ true → word_piece (b ∷ []) ≡ None → ⊥
word_alone b h e = none_some (Token (word_sort (b ∷ []))) (sym (ap (λ t. piece_if (t && true) (Token (word_sort (b ∷ [])))) (continues b h)) ∙ e)

either_piece : (some one : Bool) (piece wrong : Piece) → one ≡ true → cond some (Some piece) (piece_if one wrong) ≡ None → ⊥
either_piece true one piece wrong h e = cc
either_piece false one piece wrong h e = none_some wrong (sym (ap (λ t. piece_if t wrong) h) ∙ e)

digit_alone : (b : ℕ) → is_ascii_digit b ≡ true → numeral_piece (b ∷ []) ≡ None → ⊥
digit_alone b h e = either_piece (is_some (numeral_value (b ∷ []))) ((is_ascii_digit b && true) || is_spoiled (b ∷ [])) (Token sort.Numeral) (Wrong why.Number) (ap (λ t. (t && true) || is_spoiled (b ∷ [])) h) e

quote_alone : (b : ℕ) → text_piece (b ∷ []) ≡ None → ⊥
quote_alone b e = either_piece (is_some (text_value (b ∷ []))) true (Token sort.Text) (Wrong why.Text) refl e

no_dashes : (b : ℕ) → begins_comment (b ∷ []) ≡ false
no_dashes b = and-false (nat_eq b 45)

one_of : {X : Type 0} (blank name digit quote dashes : Bool) (gap word numeral text comment symbol : Option X) → dashes ≡ false → (blank ≡ true → gap ≡ None → ⊥) → (name ≡ true → word ≡ None → ⊥) → (digit ≡ true → numeral ≡ None → ⊥) → (text ≡ None → ⊥) → (symbol ≡ None → ⊥) → cond blank gap (cond name word (cond digit numeral (cond quote text (cond dashes comment symbol)))) ≡ None → ⊥
one_of true name digit quote dashes gap word numeral text comment symbol d g w n t s e = g refl e
one_of false true digit quote dashes gap word numeral text comment symbol d g w n t s e = w refl e
one_of false false true quote dashes gap word numeral text comment symbol d g w n t s e = n refl e
one_of false false false true dashes gap word numeral text comment symbol d g w n t s e = t e
one_of false false false false true gap word numeral text comment symbol d g w n t s e = absurd (false≢true (sym d))
one_of false false false false false gap word numeral text comment symbol d g w n t s e = s e

byte_alone : (b : ℕ) → piece_of (b ∷ []) ≡ None → ⊥
byte_alone b e =
    one_of (is_blank b) (begins_name b) (is_ascii_digit b) (is_quote b) (begins_comment (b ∷ [])) (Some Gap) (word_piece (b ∷ [])) (numeral_piece (b ∷ [])) (text_piece (b ∷ [])) (comment_piece []) (symbol_piece (b ∷ []))
    (no_dashes b) (λ _. none_some Gap) (word_alone b) (digit_alone b) (quote_alone b) (symbol_piece-one b) (sym (piece_of-cons b []) ∙ e)

-- ---- bytes have a piece at the beginning

abbrev HasFront : List ℕ → Type 0
HasFront bytes = (len : ℕ) × (piece : Piece) × IsFront bytes len piece

-- the longest prefix of n bytes at most, if those above spell nothing
front_at : (b : ℕ) (bytes : List ℕ) (n : ℕ) → suc n ≤ length (b ∷ bytes) → ((m : ℕ) → suc n < m → m ≤ length (b ∷ bytes) → piece_of (take m (b ∷ bytes)) ≡ None) → (0 < n → ((m : ℕ) → n < m → m ≤ length (b ∷ bytes) → piece_of (take m (b ∷ bytes)) ≡ None) → HasFront (b ∷ bytes)) → (o : Option Piece) → piece_of (take (suc n) (b ∷ bytes)) ≡ o → HasFront (b ∷ bytes)
front_at b bytes n within longer below (Some piece) is = (suc n, piece, record { some = omega arith; within = within; spells = is; longest = longer })
front_at b bytes n within longer below None is = ⊎_elim
    (λ more. below more (λ m past whole. ⊎_elim (λ beyond. longer m beyond whole) (λ here. let same : suc n ≡ m = omega arith in subst (λ k. piece_of (take k (b ∷ bytes)) ≡ None) same is) (cases_lt (suc n) m)))
    (λ none. let same : n ≡ 0 = omega arith in absurd (byte_alone b (sym (ap (λ k. piece_of (take (suc k) (b ∷ bytes))) same) ∙ is)))
    (cases_lt 0 n)

front_below : (b : ℕ) (bytes : List ℕ) (n : ℕ) → n ≤ length (b ∷ bytes) → 0 < n → ((m : ℕ) → n < m → m ≤ length (b ∷ bytes) → piece_of (take m (b ∷ bytes)) ≡ None) → HasFront (b ∷ bytes)
front_below b bytes zero within some longer = absurd (omega arith)
front_below b bytes (suc n) within some longer = front_at b bytes n within longer (λ more above. front_below b bytes n (omega arith) more above) (piece_of (take (suc n) (b ∷ bytes))) refl

has_front : (b : ℕ) (bytes : List ℕ) → HasFront (b ∷ bytes)
has_front b bytes = front_below b bytes (length (b ∷ bytes)) (omega arith) (omega arith) (λ m past whole. absurd (omega arith))

-- ---- prefixes and longest pieces

longest_from_front : (bytes : List ℕ) (len : ℕ) (piece : Piece) → IsFront bytes len piece → IsLongestPiece (take len bytes) (drop len bytes)
longest_from_front bytes len piece h = record {
  spelled = ap is_some h.spells;
  longest = λ more others rest some.
      let whole : (take len bytes ++ more) ++ others ≡ bytes = append_assoc (take len bytes) more others ∙ ap (λ l. take len bytes ++ l) (sym rest) ∙ take-append-drop len bytes in
      let long : length (take len bytes ++ more) ≡ len + length more = length-append (take len bytes) more ∙ ap (λ n. n + length more) (length-take-le len bytes h.within) in
      let all : length (take len bytes ++ more) + length others ≡ length bytes = sym (length-append (take len bytes ++ more) others) ∙ ap length whole in
      let front : take (len + length more) bytes ≡ take len bytes ++ more = ap (take (len + length more)) (sym whole) ∙ take_at (take len bytes ++ more) others (len + length more) long in
      ap piece_of (sym front) ∙ h.longest (len + length more) (omega arith) (omega arith);
}

some_piece : (o : Option Piece) → is_some o ≡ true → (piece : Piece) × (o ≡ Some piece)
some_piece None h = absurd (false≢true h)
some_piece (Some piece) h = (piece, refl)

part_some : (part : List ℕ) → is_some (piece_of part) ≡ true → 0 < length part
unfolding piece_of
part_some [] h = absurd (false≢true h)
part_some (b ∷ part) h = omega arith

front_from_longest : (part rest : List ℕ) → IsLongestPiece part rest → (piece : Piece) × IsFront (part ++ rest) (length part) piece
front_from_longest part rest h =
    let found = some_piece (piece_of part) h.spelled in (
      found.0,
      record {
        some = part_some part h.spelled;
        within = omega (arith, length-append part rest);
        spells = ap piece_of (take-append_seam part rest) ∙ found.1;
        longest = λ n past whole.
            let more : length part + (n - length part) ≡ n = omega arith in
            let fits : n - length part ≤ length rest = omega (arith, length-append part rest) in
            let front : take n (part ++ rest) ≡ part ++ take (n - length part) rest = ap (λ k. take k (part ++ rest)) (sym more) ∙ take-append-add part rest (n - length part) in
            ap piece_of front ∙ h.longest (take (n - length part) rest) (drop (n - length part) rest) (sym (take-append-drop (n - length part) rest)) (omega (arith, length-take-le (n - length part) rest fits));
      },
    )

-- ---- one cut

cut_below : (n : ℕ) (bytes : List ℕ) → length bytes ≤ n → IsCut bytes (parts_of bytes)
cut_below n [] h = subst (IsCut []) (sym (parts_of-nil [] refl)) refl
cut_below zero (b ∷ bytes) h = absurd (omega arith)
cut_below (suc n) (b ∷ bytes) h =
    let found = has_front b bytes in
    let len = found.0 in
    let front : IsFront (b ∷ bytes) len found.1 = found.2 in
    subst (IsCut (b ∷ bytes)) (sym (parts_of-front (b ∷ bytes) len found.1 front))
    (drop len (b ∷ bytes), sym (take-append-drop len (b ∷ bytes)), longest_from_front (b ∷ bytes) len found.1 front, cut_below n (drop len (b ∷ bytes)) (omega (arith, length-drop len (b ∷ bytes), front.some)))

cut_is : (parts : List (List ℕ)) (bytes : List ℕ) → IsCut bytes parts → parts ≡ parts_of bytes
cut_is [] bytes h = sym (parts_of-nil bytes (ap length h))
cut_is (part ∷ parts) bytes h =
    let rest = h.0 in
    let front = front_from_longest part rest h.2 in
    sym (ap parts_of h.1 ∙ parts_of-front (part ++ rest) (length part) front.0 front.1
    ∙ (λ i. take-append_seam part rest i ∷ parts_of (drop_at part rest (length part) refl i))
    ∙ ap (λ l. part ∷ l) (sym (cut_is parts rest h.3)))

pub cut_is_one : CutIsOne
cut_is_one bytes = (cut_below (length bytes) bytes (omega arith), λ parts h. cut_is parts bytes h)

-- ---- what a cut says

said_as_computed : (bytes : List ℕ) (answer : Result (List token.Token) SyntaxFault) → ((parts : List (List ℕ)) × IsCut bytes parts × (tokens_of 0 1 parts ≡ answer)) ↔ (lexed_of bytes ≡ answer)
said_as_computed bytes answer = (λ h. ap (tokens_of 0 1) (sym (cut_is h.0 bytes h.1)) ∙ h.2, λ is. (parts_of bytes, cut_below (length bytes) bytes (omega arith), is))

pub lexes_as_computed : LexesAsComputed
lexes_as_computed bytes tokens = said_as_computed bytes (Ok tokens)

pub is_refused_as_computed : IsRefusedAsComputed
is_refused_as_computed bytes fault = said_as_computed bytes (Err fault)

same_tokens : (answer : Result (List token.Token) SyntaxFault) (tokens others : List token.Token) → answer ≡ Ok tokens → answer ≡ Ok others → tokens ≡ others
same_tokens answer tokens others p q = cc

pub lexes_once : LexesOnce
lexes_once bytes tokens others p q = same_tokens (lexed_of bytes) tokens others ((lexes_as_computed bytes tokens).0 p) ((lexes_as_computed bytes others).0 q)

-- ---- where tokens stand

line_ends-append : (xs ys : List ℕ) → line_ends (xs ++ ys) ≡ line_ends xs + line_ends ys
line_ends-append xs ys = sum_by-append (λ b. cond (is_line_end b) 1 0) xs ys

from_earlier : (bytes : List ℕ) (from later : ℕ) (tokens : List token.Token) → from ≤ later → StandInOrder bytes later tokens → StandInOrder bytes from tokens
from_earlier bytes from later [] h stand = tt
from_earlier bytes from later (t ∷ tokens) h stand = (omega (arith, stand.0), stand.1, stand.2, stand.3, stand.4, stand.5)

-- what stands after a prefix of the bytes
module _ (bytes : List ℕ) where
  ok_from : (first : token.Token) (answer : Result (List token.Token) SyntaxFault) (tokens : List token.Token) → result_map (λ others. first ∷ others) answer ≡ Ok tokens → (others : List token.Token) × (answer ≡ Ok others) × (first ∷ others ≡ tokens)
  ok_from first (Ok others) tokens h = (others, refl, cc)
  ok_from first (Err fault) tokens h = cc

  by_piece : (front part behind : List ℕ) (start line : ℕ) (answer : Result (List token.Token) SyntaxFault) (tokens : List token.Token) → bytes ≡ (front ++ part) ++ behind → start ≡ length front → line ≡ 1 + line_ends front → (o : Option Piece) → piece_of part ≡ o → 0 < length part → said o start (start + length part) line answer ≡ Ok tokens → ((others : List token.Token) → answer ≡ Ok others → StandInOrder bytes (start + length part) others) → StandInOrder bytes start tokens
  by_piece front part behind start line answer tokens whole at lines None piece some is others = from_earlier bytes start (start + length part) tokens (omega arith) (others tokens is)
  by_piece front part behind start line answer tokens whole at lines (Some Gap) piece some is others = from_earlier bytes start (start + length part) tokens (omega arith) (others tokens is)
  by_piece front part behind start line answer tokens whole at lines (Some (Wrong why)) piece some is others = cc
  by_piece front part behind start line answer tokens whole at lines (Some (Token sort)) piece some is others =
      let first : token.Token = record { sort = sort; start = start; end = start + length part; line = line } in
      let found = ok_from first answer tokens is in
      let before : take start bytes ≡ front = ap (take start) (whole ∙ append_assoc front part behind) ∙ take_at front (part ++ behind) start (sym at) in
      let after : drop start bytes ≡ part ++ behind = ap (drop start) (whole ∙ append_assoc front part behind) ∙ drop_at front (part ++ behind) start (sym at) in
      let width : start + length part - start ≡ length part = omega arith in
      let slice : slice_range bytes start (start + length part) ≡ part = (λ i. take (width i) (after i)) ∙ take-append_seam part behind in
      let long : length bytes ≡ length (front ++ part) + length behind = ap length whole ∙ length-append (front ++ part) behind in
      subst (StandInOrder bytes start) found.2
      (omega arith, omega arith, omega (arith, long, length-append front part, at), ap piece_of slice ∙ piece, lines ∙ ap (λ l. 1 + line_ends l) (sym before), others found.0 found.1)

  stand_behind : (parts : List (List ℕ)) (front rest : List ℕ) (start line : ℕ) (tokens : List token.Token) → bytes ≡ front ++ rest → start ≡ length front → line ≡ 1 + line_ends front → IsCut rest parts → tokens_of start line parts ≡ Ok tokens → StandInOrder bytes start tokens
  stand_behind [] front rest start line tokens whole at lines cut is = subst (StandInOrder bytes start) (same_tokens (Ok []) [] tokens refl is) tt
  stand_behind (part ∷ parts) front rest start line tokens whole at lines cut is =
      let behind = cut.0 in
      let whole' : bytes ≡ (front ++ part) ++ behind = whole ∙ ap (λ l. front ++ l) cut.1 ∙ sym (append_assoc front part behind) in
      let at' : start + length part ≡ length (front ++ part) = omega (arith, length-append front part, at) in
      let lines' : line + line_ends part ≡ 1 + line_ends (front ++ part) = omega (arith, line_ends-append front part, lines) in
      by_piece front part behind start line (tokens_of (start + length part) (line + line_ends part) parts) tokens whole' at lines (piece_of part) refl (part_some part cut.2.spelled) is
      (λ others said_is. stand_behind parts (front ++ part) behind (start + length part) (line + line_ends part) others whole' at' lines' cut.3 said_is)

pub tokens_stand_in_order : TokensStandInOrder
tokens_stand_in_order bytes tokens h = stand_behind bytes h.0 [] bytes 0 1 tokens refl refl refl h.1 h.2

-- ---- an answer that is computed

abbrev Answer : Type 0
Answer = Result (Vec token.Token Global) (Fail SyntaxFault)

abbrev IsComputed : List ℕ → Answer → Type 0
IsComputed bytes answer = Answers (result_map (λ tokens. tokens.items) answer) (lexed_of bytes)

pub answer_lexes : (bytes : List ℕ) (answer : Answer) → IsComputed bytes answer → IfOk answer (λ tokens. Lexes bytes tokens.items)
answer_lexes bytes (Ok tokens) h = (lexes_as_computed bytes tokens.items).1 h
answer_lexes bytes (Err fault) h = tt

pub answer_stands : (bytes : List ℕ) (answer : Answer) → IsComputed bytes answer → IfOk answer (λ tokens. StandInOrder bytes 0 tokens.items)
answer_stands bytes (Ok tokens) h = tokens_stand_in_order bytes tokens.items ((lexes_as_computed bytes tokens.items).1 h)
answer_stands bytes (Err fault) h = tt

pub answer_only : (bytes : List ℕ) (answer : Answer) → IsComputed bytes answer → (found : List token.Token) → Lexes bytes found → Answers (result_map (λ tokens. tokens.items) answer) (Ok found)
answer_only bytes answer h found lexes = subst (Answers (result_map (λ tokens. tokens.items) answer)) ((lexes_as_computed bytes found).0 lexes) h

pub answer_refused : (bytes : List ℕ) (answer : Answer) → IsComputed bytes answer → (fault : SyntaxFault) → IsRefused bytes fault → Answers (result_map (λ tokens. tokens.items) answer) (Err fault)
answer_refused bytes answer h fault refused = subst (Answers (result_map (λ tokens. tokens.items) answer)) ((is_refused_as_computed bytes fault).0 refused) h
