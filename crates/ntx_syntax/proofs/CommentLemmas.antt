-- The longest comment at the beginning.
use Rattle.std.proofs.Common.{◌≡◌, ℕ, zero, suc, ◌+◌, ◌-◌, ◌<◌, ◌≤◌, min, Bool, true, false, ◌&&◌, cond, List, [], ◌∷◌, length, take, drop, Option, Some, None, refl, sym, ap, ◌∙◌, subst, ⊎_elim, arith}
use Rattle.std.specs.Prelude.{slice_index, nat_eq, option_map, not, ◌==◌}
use Rattle.std.specs.List.{prefix_len, list_all}
use Rattle.std.specs.Option.{option_eq}
use Rattle.std.proofs.lemmas.Bool.{false≢true, cases_Bool, cases_lt, ne_eqb, eq-eqb, eqb-true, and_parts, false_from_ne_true}
use Rattle.std.proofs.lemmas.List.{at_drop_more, length-take-le, length-drop, drop-take}
use Rattle.std.proofs.lemmas.List.Sums.{prefix_len-le-length}
use Rattle.std.proofs.Math.Bool.{and-false}
use Rattle.ntx_syntax.specs.declared.fault.SyntaxWhy.TheVariants as why
use Rattle.ntx_syntax.specs.declared.piece.Piece.{Piece}
use Rattle.ntx_syntax.specs.declared.piece.Piece.TheVariants.{Gap, Wrong}
use Rattle.ntx_syntax.specs.Bytes.{is_line_end}
use Rattle.ntx_syntax.specs.Pieces.{bracket_level, is_level, ends_at_bracket, long_comment_piece, comment_piece_at, comment_piece, begins_comment, piece_if}
use Rattle.ntx_syntax.specs.inner.Front.{IsFrontOf, IsCommentRest, bracketed_len}
use Rattle.ntx_syntax.proofs.RunLemmas.{list_all-take, list_all-take_past, prefix_len-take, slice_index-take, slice_index-take_past}
use Rattle.ntx_syntax.proofs.OptionLemmas.{is_at, is_at-zero, is_at-suc, map-suc_more, choice_some, eqb_comm}

-- ---- brackets

abbrev signs : List ℕ → ℕ
signs bytes = prefix_len (λ b. b == 61) bytes

-- what a bracket of this level at the beginning is
pub record IsBracket (mark level : ℕ) (b : ℕ) (bytes : List ℕ) : Type 0 where
  pub level_is : signs bytes ≡ level
  pub first : nat_eq b mark ≡ true
  pub last : nat_eq (slice_index (b ∷ bytes) (level + 1)) mark ≡ true

bracket_from : (mark level b : ℕ) (bytes : List ℕ) → bracket_level mark (b ∷ bytes) ≡ Some level → IsBracket mark level b bytes
bracket_from mark level b bytes h =
    let parts = choice_some (nat_eq b mark && nat_eq (slice_index (b ∷ bytes) (signs bytes + 1)) mark) (signs bytes) level h in
    let tests = and_parts (nat_eq b mark) (nat_eq (slice_index (b ∷ bytes) (signs bytes + 1)) mark) parts.0 in
    record { level_is = parts.1; first = tests.0; last = ap (λ n. nat_eq (slice_index (b ∷ bytes) (n + 1)) mark) (sym parts.1) ∙ tests.1 }

bracket_to : (mark level b : ℕ) (bytes : List ℕ) → IsBracket mark level b bytes → bracket_level mark (b ∷ bytes) ≡ Some level
bracket_to mark level b bytes h =
    ap (λ n. cond (nat_eq b mark && nat_eq (slice_index (b ∷ bytes) (n + 1)) mark) (Some n) None) h.level_is ∙ rw (h.first, h.last) refl

-- A bracket stands in a prefix exactly if it stands in the whole and ends in the prefix.
bracket-take : (mark level b : ℕ) (bytes : List ℕ) (m : ℕ) → level + 2 ≤ suc m → bracket_level mark (b ∷ bytes) ≡ Some level → bracket_level mark (b ∷ take m bytes) ≡ Some level
bracket-take mark level b bytes m within h =
    let bracket = bracket_from mark level b bytes h in
    bracket_to mark level b (take m bytes) (record {
      level_is = prefix_len-take (λ b. b == 61) m bytes ∙ (let e : min m (signs bytes) ≡ level = omega (arith, bracket.level_is) in e);
      first = bracket.first;
      last = ap (λ c. nat_eq c mark) (slice_index-take (suc m) (b ∷ bytes) (level + 1) (omega arith)) ∙ bracket.last;
    })

bracket_in_front : (mark level b : ℕ) (bytes : List ℕ) (m : ℕ) → nat_eq 0 mark ≡ false → bracket_level mark (b ∷ take m bytes) ≡ Some level → (bracket_level mark (b ∷ bytes) ≡ Some level) × (level + 2 ≤ suc m)
bracket_in_front mark level b bytes m some h =
    let bracket = bracket_from mark level b (take m bytes) h in
    let inside : level + 1 < suc m = ⊎_elim (λ lt. lt) (λ past. absurd (false≢true (sym some ∙ ap (λ c. nat_eq c mark) (sym (slice_index-take_past (suc m) (b ∷ bytes) (level + 1) past)) ∙ bracket.last))) (cases_lt (level + 1) (suc m)) in
    let level_is : min m (signs bytes) ≡ level = sym (prefix_len-take (λ b. b == 61) m bytes) ∙ bracket.level_is in (
      bracket_to mark level b bytes (record {
        level_is = omega arith;
        first = bracket.first;
        last = ap (λ c. nat_eq c mark) (sym (slice_index-take (suc m) (b ∷ bytes) (level + 1) inside)) ∙ bracket.last;
      }),
      omega arith,
    )

no_bracket_in_front : (mark b : ℕ) (bytes : List ℕ) (m : ℕ) → nat_eq 0 mark ≡ false → bracket_level mark (b ∷ bytes) ≡ None → bracket_level mark (b ∷ take m bytes) ≡ None
no_bracket_in_front mark b bytes m some h = none_unless (bracket_level mark (b ∷ take m bytes)) (λ level is. absurd (none_some level (sym h ∙ (bracket_in_front mark level b bytes m some is).0)))
  where
    none_some : (level : ℕ) → None ≡ Some level → ⊥
    none_some level e = cc

    none_unless : (o : Option ℕ) → ((level : ℕ) → o ≡ Some level → o ≡ None) → o ≡ None
    none_unless None f = refl
    none_unless (Some level) f = f level refl

level_from : (level : ℕ) (o : Option ℕ) → is_level level o ≡ true → o ≡ Some level
level_from level None h = absurd (false≢true h)
level_from level (Some n) h = ap Some (eqb-true n level h)

level_to : (level : ℕ) (o : Option ℕ) → o ≡ Some level → is_level level o ≡ true
level_to level o h = ap (is_level level) h ∙ eq-eqb level level refl

-- ---- the end of a long comment

short_without_end : (level : ℕ) (bytes : List ℕ) → length bytes < level + 2 → ends_at_bracket level bytes ≡ false
short_without_end level [] h = refl
short_without_end level (b ∷ bytes) h =
    cond_false (is_level level (bracket_level 93 (b ∷ bytes))) _ _ (ne_eqb (length (b ∷ bytes)) (level + 2) (λ e. omega arith)) (short_without_end level bytes (omega arith))
  where
    cond_false : (t x y : Bool) → x ≡ false → y ≡ false → cond t x y ≡ false
    cond_false true x y p q = p
    cond_false false x y p q = q

pub bracketed-take : (level : ℕ) (bytes : List ℕ) (m : ℕ) → m ≤ length bytes → ends_at_bracket level (take m bytes) ≡ is_at m (bracketed_len level bytes)
bracketed-take level [] zero h = refl
bracketed-take level [] (suc m) h = refl
bracketed-take level (b ∷ bytes) zero h = sym (not_at_zero (is_level level (bracket_level 93 (b ∷ bytes))) (bracketed_len level bytes))
  where
    not_at_zero : (t : Bool) (o : Option ℕ) → is_at zero (cond t (Some (level + 2)) (option_map suc o)) ≡ false
    not_at_zero true o = ne_eqb (level + 2) 0 (λ e. omega arith)
    not_at_zero false o = is_at-zero o
bracketed-take level (b ∷ bytes) (suc m) h =
    ⊎_elim
    (λ here.
    let whole : is_at (suc m) (bracketed_len level (b ∷ bytes)) ≡ nat_eq (level + 2) (suc m) = ap (λ t. is_at (suc m) (cond t (Some (level + 2)) (option_map suc (bracketed_len level bytes)))) here in
    closed_here (level_from level (bracket_level 93 (b ∷ bytes)) here) ∙ sym whole)
    (λ not_here.
    let whole : is_at (suc m) (bracketed_len level (b ∷ bytes)) ≡ is_at (suc m) (option_map suc (bracketed_len level bytes)) = ap (λ t. is_at (suc m) (cond t (Some (level + 2)) (option_map suc (bracketed_len level bytes)))) not_here in
    let front : is_level level (bracket_level 93 (b ∷ take m bytes)) ≡ false = not_in_front not_here in
    ap (λ t. cond t (nat_eq (length (b ∷ take m bytes)) (level + 2)) (ends_at_bracket level (take m bytes))) front
    ∙ bracketed-take level bytes m (omega arith) ∙ sym (is_at-suc m (bracketed_len level bytes)) ∙ sym whole)
    (cases_Bool (is_level level (bracket_level 93 (b ∷ bytes))))
  where
    not_in_front : is_level level (bracket_level 93 (b ∷ bytes)) ≡ false → is_level level (bracket_level 93 (b ∷ take m bytes)) ≡ false
    not_in_front not_here = false_from_ne_true (is_level level (bracket_level 93 (b ∷ take m bytes))) (λ front. false≢true (sym not_here ∙ level_to level (bracket_level 93 (b ∷ bytes)) (bracket_in_front 93 level b bytes m refl (level_from level (bracket_level 93 (b ∷ take m bytes)) front)).0))

    closed_here : bracket_level 93 (b ∷ bytes) ≡ Some level → ends_at_bracket level (b ∷ take m bytes) ≡ nat_eq (level + 2) (suc m)
    closed_here bracket = ⊎_elim
        (λ short.
        short_without_end level (b ∷ take m bytes) (omega (arith, length-take-le m bytes (omega arith)))
        ∙ sym (ne_eqb (level + 2) (suc m) (λ e. omega arith)))
        (λ long.
        ap (λ t. cond t (nat_eq (length (b ∷ take m bytes)) (level + 2)) (ends_at_bracket level (take m bytes))) (level_to level (bracket_level 93 (b ∷ take m bytes)) (bracket-take 93 level b bytes m long bracket))
        ∙ ap (λ n. nat_eq (suc n) (level + 2)) (length-take-le m bytes (omega arith)) ∙ eqb_comm (suc m) (level + 2))
        (cases_lt (suc m) (level + 2))

-- ---- comments

-- What stands after an opening bracket is a comment where it ends at the first closing bracket.
long_piece : (level : ℕ) (bytes : List ℕ) → 0 < length bytes → long_comment_piece level bytes ≡ piece_if (ends_at_bracket level bytes) Gap
long_piece level [] h = absurd (omega arith)
long_piece level (b ∷ bytes) h = refl

none_of : (bytes : List ℕ) → bracket_level 91 bytes ≡ None → (n : ℕ) → bracket_level 91 (take n bytes) ≡ None
none_of bytes h zero = refl
none_of [] h (suc n) = h
none_of (b ∷ bytes) h (suc n) = no_bracket_in_front 91 b bytes n refl h

some_of : (bytes : List ℕ) (level : ℕ) → bracket_level 91 bytes ≡ Some level → (n : ℕ) → level + 2 ≤ n → bracket_level 91 (take n bytes) ≡ Some level
some_of bytes level h zero within = absurd (omega arith)
some_of [] level h (suc n) within = h
some_of (b ∷ bytes) level h (suc n) within = bracket-take 91 level b bytes n within h

line_piece : (bytes : List ℕ) → bracket_level 91 bytes ≡ None → (n : ℕ) (b : Bool) → list_all (λ b. not (is_line_end b)) (take n bytes) ≡ b → comment_piece (take n bytes) ≡ piece_if b Gap
line_piece bytes h n b all = ap (λ o. comment_piece_at o (take n bytes)) (none_of bytes h n) ∙ ap (λ t. piece_if t Gap) all

pub line_comment : (bytes : List ℕ) (len : ℕ) → bracket_level 91 bytes ≡ None → len ≡ prefix_len (λ b. not (is_line_end b)) bytes → IsCommentRest bytes len Gap
line_comment bytes len h len_is = record {
  within = omega (arith, len_is, prefix_len-le-length (λ b. not (is_line_end b)) bytes);
  spells = line_piece bytes h len true (list_all-take (λ b. not (is_line_end b)) len bytes (omega (arith, len_is)));
  longest = λ n more whole. line_piece bytes h n false (list_all-take_past (λ b. not (is_line_end b)) n bytes (omega (arith, len_is)) whole);
}

module _ (bytes : List ℕ) (level : ℕ) (bracket : bracket_level 91 bytes ≡ Some level) (opened : level + 2 ≤ length bytes) where
  body : List ℕ
  body = drop (level + 2) bytes

  behind : (m : ℕ) → comment_piece (take (level + 2 + m) bytes) ≡ long_comment_piece level (take m body)
  unfolding body
  behind m = ap (λ o. comment_piece_at o (take (level + 2 + m) bytes)) (some_of bytes level bracket (level + 2 + m) (omega arith)) ∙ ap (long_comment_piece level) (drop-take (level + 2) m bytes)

  body_long : length body ≡ length bytes - (level + 2)
  unfolding body
  body_long = length-drop (level + 2) bytes

  behind_some : (m : ℕ) → 0 < m → level + 2 + m ≤ length bytes → comment_piece (take (level + 2 + m) bytes) ≡ piece_if (is_at m (bracketed_len level body)) Gap
  behind_some m some whole =
      let fits : m ≤ length body = omega (arith, body_long) in
      behind m ∙ long_piece level (take m body) (omega (arith, length-take-le m body fits)) ∙ ap (λ t. piece_if t Gap) (bracketed-take level body m fits)

  -- at a place, a longer prefix
  at_place : (n : ℕ) → level + 2 ≤ n → (m : ℕ) × (level + 2 + m ≡ n)
  at_place n h = (n - (level + 2), omega arith)

  pub open_comment : bracketed_len level (drop (level + 2) bytes) ≡ None → IsCommentRest bytes (level + 2) (Wrong why.Comment)
  unfolding body
  open_comment none = record {
    within = opened;
    spells = (let at : level + 2 + 0 ≡ level + 2 = omega arith in subst (λ n. comment_piece (take n bytes) ≡ Some (Wrong why.Comment)) at (behind 0));
    longest = λ n more whole.
        let place = at_place n (omega arith) in
        subst (λ n. comment_piece (take n bytes) ≡ None) place.1 (behind_some place.0 (omega arith) (omega arith) ∙ ap (λ o. piece_if (is_at place.0 o) Gap) none);
  }

  pub closed_comment : (len : ℕ) → bracketed_len level (drop (level + 2) bytes) ≡ Some len → len ≤ length (drop (level + 2) bytes) → 0 < len → IsCommentRest bytes (level + 2 + len) Gap
  unfolding body
  closed_comment len closed fits some = record {
    within = omega (arith, body_long);
    spells = behind_some len some (omega (arith, body_long)) ∙ ap (λ o. piece_if (is_at len o) Gap) closed ∙ ap (λ t. piece_if t Gap) (eq-eqb len len refl);
    longest = λ n more whole.
        let place = at_place n (omega arith) in
        subst (λ n. comment_piece (take n bytes) ≡ None) place.1 (behind_some place.0 (omega arith) (omega arith) ∙ ap (λ o. piece_if (is_at place.0 o) Gap) closed ∙ ap (λ t. piece_if t Gap) (ne_eqb len place.0 (λ e. omega arith)));
  }

-- a long comment has its bracket
pub bracketed_some : (level : ℕ) (bytes : List ℕ) (len : ℕ) → bracketed_len level bytes ≡ Some len → 0 < len
bracketed_some level bytes zero h = absurd (false≢true (bracketed-take level bytes 0 (omega arith) ∙ ap (is_at 0) h))
bracketed_some level bytes (suc len) h = omega arith

-- ---- with its dashes

pub comment_front : (bytes : List ℕ) (len : ℕ) (piece : Piece) → 2 ≤ length bytes → IsCommentRest (drop 2 bytes) len piece → IsFrontOf (λ part. comment_piece (drop 2 part)) bytes (len + 2) piece
comment_front [] len piece dashes h = absurd (omega arith)
comment_front (a ∷ []) len piece dashes h = absurd (omega arith)
comment_front (a ∷ b ∷ bytes) len piece dashes h =
    let at : len + 2 ≡ suc (suc len) = omega arith in
    subst (λ n. IsFrontOf (λ part. comment_piece (drop 2 part)) (a ∷ b ∷ bytes) n piece) (sym at) (record {
      some = omega arith;
      within = omega (arith, h.within);
      spells = h.spells;
      longest = longer;
    })
  where
    longer : (n : ℕ) → suc (suc len) < n → n ≤ length (a ∷ b ∷ bytes) → comment_piece (drop 2 (take n (a ∷ b ∷ bytes))) ≡ None
    longer zero more whole = absurd (omega arith)
    longer (suc zero) more whole = absurd (omega arith)
    longer (suc (suc n)) more whole = h.longest n (omega arith) (omega arith)

-- ---- the search for the end

-- Up to a place no bracket has closed the comment: what is found from there on is what is found in all.
module _ (level at : ℕ) (bytes : List ℕ) (total : Option ℕ) (so_far : option_map (λ n. at + n) (bracketed_len level (drop at bytes)) ≡ total) (within : at < length bytes) where
  next_is : option_map (λ n. at + n) (bracketed_len level (slice_index bytes at ∷ drop (at + 1) bytes)) ≡ total
  next_is = sym (at_drop_more (λ rest. option_map (λ n. at + n) (bracketed_len level rest)) bytes at 0 within) ∙ so_far

  step_is : (here : Bool) → is_level level (bracket_level 93 (drop at bytes)) ≡ here → option_map (λ n. at + n) (cond here (Some (level + 2)) (option_map suc (bracketed_len level (drop (at + 1) bytes)))) ≡ total
  step_is here h = ap (λ t. option_map (λ n. at + n) (cond t (Some (level + 2)) (option_map suc (bracketed_len level (drop (at + 1) bytes))))) (sym h ∙ at_drop_more (λ rest. is_level level (bracket_level 93 rest)) bytes at 0 within) ∙ next_is

  pub closes_here : bracket_level 93 (drop at bytes) ≡ Some level → Some (at + (level + 2)) ≡ total
  closes_here h = step_is true (level_to level (bracket_level 93 (drop at bytes)) h)

  pub not_here : is_level level (bracket_level 93 (drop at bytes)) ≡ false → option_map (λ n. at + 1 + n) (bracketed_len level (drop (at + 1) bytes)) ≡ total
  not_here h = sym (map-suc_more at (bracketed_len level (drop (at + 1) bytes))) ∙ step_is false h

-- the test of the code
pub is_level-eq : (level : ℕ) (o : Option ℕ) → is_level level o ≡ option_eq nat_eq o (Some level)
is_level-eq level None = refl
is_level-eq level (Some n) = refl

pub two_dashes : (bytes : List ℕ) → begins_comment bytes ≡ true → 2 ≤ length bytes
two_dashes [] h = absurd (false≢true h)
two_dashes (a ∷ []) h = absurd (false≢true (sym (and-false (nat_eq a 45)) ∙ h))
two_dashes (a ∷ b ∷ bytes) h = omega arith
