-- The cut of a script, step by step.
use Rattle.std.proofs.Common.{◌≡◌, ℕ, zero, suc, ◌+◌, ◌-◌, ◌<◌, ◌≤◌, cond, List, [], ◌∷◌, ◌++◌, length, take, drop, Option, Some, None, Result, Ok, Err, refl, sym, ap, ◌∙◌, ⊎_elim, append_assoc, arith}
use Rattle.std.specs.Prelude.{is_some}
use Rattle.std.proofs.lemmas.Bool.{cases_lt}
use Rattle.std.proofs.lemmas.List.{length-take-le, length-drop, drop-drop, append-nil}
use Rattle.ntx_num.specs.Answer.{result_map}
use Rattle.ntx_syntax.specs.declared.token.Token.{Token}
use Rattle.ntx_syntax.specs.declared.fault.SyntaxFault.{SyntaxFault}
use Rattle.ntx_syntax.specs.declared.piece.Piece.{Piece}
use Rattle.ntx_syntax.specs.declared.piece.Piece.TheVariants.{Gap}
use Rattle.ntx_syntax.specs.declared.piece.Piece.TheVariants as piece
use Rattle.ntx_syntax.specs.declared.token.Sort.{Sort}
use Rattle.ntx_syntax.specs.declared.fault.SyntaxWhy.{SyntaxWhy}
use Rattle.ntx_syntax.specs.Pieces.{piece_of}
use Rattle.ntx_syntax.specs.inner.Front.{IsFront}
use Rattle.ntx_syntax.specs.Lexes.{longest_front, cut_from, parts_of, tokens_of, said, line_ends}

longest_from : (o : Option Piece) (n len : ℕ) (bytes : List ℕ) → (o ≡ None → longest_front n bytes ≡ len) → ((piece : Piece) → o ≡ Some piece → suc n ≡ len) → cond (is_some o) (suc n) (longest_front n bytes) ≡ len
longest_from None n len bytes p q = p refl
longest_from (Some piece) n len bytes p q = q piece refl

none_some : (piece : Piece) → None ≡ Some piece → ⊥
none_some piece e = cc

-- The longest prefix is the piece at the beginning.
pub longest_front-is : (bytes : List ℕ) (len : ℕ) (piece : Piece) (n : ℕ) → IsFront bytes len piece → len ≤ n → n ≤ length bytes → longest_front n bytes ≡ len
longest_front-is bytes len piece zero h above within = absurd (omega (arith, h.some))
longest_front-is bytes len piece (suc n) h above within = ⊎_elim
    (λ past. longest_from (piece_of (take (suc n) bytes)) n len bytes (λ _. longest_front-is bytes len piece n h (omega arith) (omega arith)) (λ other is. absurd (none_some other (sym (h.longest (suc n) past within) ∙ is))))
    (λ here. let same : suc n ≡ len = omega arith in longest_from (piece_of (take (suc n) bytes)) n len bytes (λ none. absurd (none_some piece (sym none ∙ ap (λ m. piece_of (take m bytes)) same ∙ h.spells))) (λ _ _. same))
    (cases_lt len (suc n))

cut_from-drop : (n : ℕ) (bytes : List ℕ) → cut_from n bytes ≡ cut_from 0 (drop n bytes)
cut_from-drop zero bytes = refl
cut_from-drop (suc n) [] = refl
cut_from-drop (suc n) (b ∷ bytes) = cut_from-drop n bytes

drop-cons : (n b : ℕ) (bytes : List ℕ) → 0 < n → drop (n - 1) bytes ≡ drop n (b ∷ bytes)
drop-cons zero b bytes h = absurd (omega arith)
drop-cons (suc n) b bytes h = let e : suc n - 1 ≡ n = omega arith in ap (λ k. drop k bytes) e

-- the first part, and the parts of what is left
pub parts_of-front : (bytes : List ℕ) (len : ℕ) (piece : Piece) → IsFront bytes len piece → parts_of bytes ≡ take len bytes ∷ parts_of (drop len bytes)
unfolding parts_of
parts_of-front [] len piece h = absurd (omega (arith, h.some, h.within))
parts_of-front (b ∷ bytes) len piece h =
    ap (λ n. take n (b ∷ bytes) ∷ cut_from (n - 1) bytes) (longest_front-is (b ∷ bytes) len piece (length (b ∷ bytes)) h h.within (omega arith))
    ∙ ap (λ rest. take len (b ∷ bytes) ∷ rest) (cut_from-drop (len - 1) bytes ∙ ap (cut_from 0) (drop-cons len b bytes h.some))

pub parts_of-nil : (bytes : List ℕ) → length bytes ≡ 0 → parts_of bytes ≡ []
unfolding parts_of
parts_of-nil [] h = refl
parts_of-nil (b ∷ bytes) h = absurd (omega arith)

-- what the first part says, and what is left
pub tokens_of-front : (start line : ℕ) (bytes : List ℕ) (len : ℕ) (piece : Piece) → IsFront bytes len piece → tokens_of start line (parts_of bytes) ≡ said (Some piece) start (start + len) line (tokens_of (start + len) (line + line_ends (take len bytes)) (parts_of (drop len bytes)))
tokens_of-front start line bytes len piece h =
    let long : length (take len bytes) ≡ len = length-take-le len bytes h.within in
    ap (tokens_of start line) (parts_of-front bytes len piece h)
    ∙ (λ i. said (h.spells i) start (start + long i) line (tokens_of (start + long i) (line + line_ends (take len bytes)) (parts_of (drop len bytes))))

-- ---- the tokens so far, and the others

abbrev pub with_front : List Token → Result (List Token) SyntaxFault → Result (List Token) SyntaxFault
with_front front others = result_map (λ tokens. front ++ tokens) others

pub with_front-push : (front : List Token) (token : Token) (others : Result (List Token) SyntaxFault) → with_front front (result_map (λ tokens. token ∷ tokens) others) ≡ with_front (front ++ token ∷ []) others
with_front-push front token (Ok tokens) = ap Ok (sym (append_assoc front (token ∷ []) tokens))
with_front-push front token (Err fault) = refl

pub with_front-none : (front : List Token) → with_front front (Ok []) ≡ Ok front
with_front-none front = ap Ok (append-nil front)

-- ---- one piece of the loop over a script

module _ (items : List Token) (start line len : ℕ) (bytes : List ℕ) (total : Result (List Token) SyntaxFault) (so_far : with_front items (tokens_of start line (parts_of (drop start bytes))) ≡ total) where
  later : drop len (drop start bytes) ≡ drop (start + len) bytes
  later = drop-drop len start bytes

  next : (p : Piece) → IsFront (drop start bytes) len p → with_front items (said (Some p) start (start + len) line (tokens_of (start + len) (line + line_ends (take len (drop start bytes))) (parts_of (drop (start + len) bytes)))) ≡ total
  next p h =
      ap (λ rest. with_front items (said (Some p) start (start + len) line (tokens_of (start + len) (line + line_ends (take len (drop start bytes))) (parts_of rest)))) (sym later)
      ∙ sym (ap (with_front items) (tokens_of-front start line (drop start bytes) len p h)) ∙ so_far

  pub step_gap : (items' : List Token) (line' : ℕ) → IsFront (drop start bytes) len Gap → items' ≡ items → line' ≡ line + line_ends (take len (drop start bytes)) → with_front items' (tokens_of (start + len) line' (parts_of (drop (start + len) bytes))) ≡ total
  step_gap items' line' h same lines = (λ i. with_front (same i) (tokens_of (start + len) (lines i) (parts_of (drop (start + len) bytes)))) ∙ next Gap h

  pub step_token : (items' : List Token) (line' : ℕ) (sort : Sort) → IsFront (drop start bytes) len (piece.Token sort) → items' ≡ items ++ record { sort = sort; start = start; end = start + len; line = line } ∷ [] → line' ≡ line + line_ends (take len (drop start bytes)) → with_front items' (tokens_of (start + len) line' (parts_of (drop (start + len) bytes))) ≡ total
  step_token items' line' sort h same lines =
      (λ i. with_front (same i) (tokens_of (start + len) (lines i) (parts_of (drop (start + len) bytes))))
      ∙ sym (with_front-push items (record { sort = sort; start = start; end = start + len; line = line }) (tokens_of (start + len) (line + line_ends (take len (drop start bytes))) (parts_of (drop (start + len) bytes))))
      ∙ next (piece.Token sort) h

  pub step_wrong : (why : SyntaxWhy) → IsFront (drop start bytes) len (piece.Wrong why) → total ≡ Err (record { line = line; why = why })
  step_wrong why h = sym (next (piece.Wrong why) h)

pub at_end : (items : List Token) (start line : ℕ) (bytes : List ℕ) (total : Result (List Token) SyntaxFault) → with_front items (tokens_of start line (parts_of (drop start bytes))) ≡ total → length bytes ≤ start → total ≡ Ok items
at_end items start line bytes total so_far past =
    sym so_far ∙ ap (λ parts. with_front items (tokens_of start line parts)) (parts_of-nil (drop start bytes) (let long = length-drop start bytes in omega arith)) ∙ with_front-none items
