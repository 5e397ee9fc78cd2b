-- The nodes ahead of a cursor, which are kept with the nearest one last.
use Rattle.std.proofs.Common.{◌≡◌, ℕ, zero, suc, ◌+◌, ◌-◌, ◌<◌, ◌≤◌, List, [], ◌∷◌, ◌++◌, reverse, length, slice_get, Some, None, refl, sym, ◌∙◌, ap, subst, arith}
use Rattle.std.specs.Prelude.{Option}
use Rattle.std.proofs.lemmas.List.{reverse-append, length-reverse, get_or-reverse}
use Rattle.std.proofs.lemmas.Option.{slice_get-get_or, slice_get_past}
use Rattle.ntx_num.proofs.Answers.{same_Some}
use Rattle.ntx_ligkern.specs.Ligatures.{Spot, spot_in, passed}
use Rattle.ntx_ligkern.specs.declared.cursor.Cursor.{Cursor}
use Rattle.ntx_ligkern.specs.inner.Cursors.{spot_of, spot_from}

pub one_more : (xs : List ℕ) (x : ℕ) → reverse (xs ++ x ∷ []) ≡ x ∷ reverse xs
one_more xs x = reverse-append xs (x ∷ [])

pub one_off : (old new : List ℕ) (x : ℕ) → old ≡ new ++ x ∷ [] → reverse old ≡ x ∷ reverse new
one_off old new x e = ap reverse e ∙ one_more new x

pub none_left : (xs : List ℕ) → length xs ≤ 0 → reverse xs ≡ []
none_left [] h = refl
none_left (x ∷ xs) h = let no : suc (length xs) ≤ 0 = h in absurd (omega arith)

-- ---- by place
pub from_end : (xs : List ℕ) (k : ℕ) → k < length xs → slice_get (reverse xs) k ≡ slice_get xs (length xs - 1 - k)
from_end xs k h =
    slice_get-get_or (reverse xs) k 0 (subst (λ n. k < n) (sym (length-reverse xs)) h) ∙ ap Some (get_or-reverse xs k 0 h) ∙ sym (slice_get-get_or xs (length xs - 1 - k) 0 (omega arith))

last_place : (n : ℕ) → suc n - 1 ≡ suc n - 1 - 0
last_place n = omega arith

pub nearest_is : (xs : List ℕ) → slice_get xs (length xs - 1) ≡ slice_get (reverse xs) 0
nearest_is [] = refl
nearest_is (x ∷ xs) = ap (slice_get (x ∷ xs)) (last_place (length xs)) ∙ sym (from_end (x ∷ xs) 0 (omega arith))

before_last : (n : ℕ) → n - 2 ≡ n - 1 - 1
before_last n = omega arith

pub second_is : (xs : List ℕ) → 1 < length xs → slice_get xs (length xs - 2) ≡ slice_get (reverse xs) 1
second_is xs h = ap (slice_get xs) (before_last (length xs)) ∙ sym (from_end xs 1 h)

pub no_second : (xs : List ℕ) → length xs ≤ 1 → None ≡ slice_get (reverse xs) 1
no_second xs h = sym (slice_get_past (reverse xs) 1 (subst (λ n. n ≤ 1) (sym (length-reverse xs)) h))

-- ---- taken
pub none_ahead : (before : Option ℕ) (count : ℕ) (xs : List ℕ) → length xs ≤ 0 → None ≡ spot_in before count (reverse xs)
none_ahead before count xs h = ap (spot_in before count) (sym (none_left xs h))

pub some_ahead : (before : Option ℕ) (count : ℕ) (old new : List ℕ) (x : ℕ) → old ≡ new ++ x ∷ [] → Some (record { before = before; at = x; ahead = reverse new; count = count }) ≡ spot_in before count (reverse old)
some_ahead before count old new x e = ap (spot_in before count) (sym (one_off old new x e))

-- ---- the first of them
abbrev pub tail_of : List ℕ → List ℕ
tail_of [] = []
tail_of (x ∷ xs) = xs

pub first_of : (xs : List ℕ) (x : ℕ) → Some x ≡ slice_get xs 0 → xs ≡ x ∷ tail_of xs
first_of [] x e = cc
first_of (y ∷ xs) x e = ap (λ n. n ∷ xs) (sym (same_Some x y e))

taken_names : (names new : List ℕ) (x : ℕ) (o : Option Cursor) → Some x ≡ slice_get names 0 → spot_from new o ≡ spot_in None 0 names → names ≡ x ∷ reverse new
taken_names [] new x o first e = cc
taken_names (y ∷ rest) new x None first e = cc
taken_names (y ∷ rest) new x (Some c) first e =
    let is : spot_of c new ≡ record { before = None; at = y; ahead = rest; count = 0 } = same_Some (spot_of c new) (record { before = None; at = y; ahead = rest; count = 0 }) e in
    let left : reverse new ≡ rest = ap (λ (s : Spot). s.ahead) is in
    ap (λ (xs : List ℕ). y ∷ xs) (sym left) ∙ ap (λ (n : ℕ). n ∷ reverse new) (sym (same_Some x y first))

pub taken : (old new : List ℕ) (x : ℕ) (o : Option Cursor) → Some x ≡ slice_get (reverse old) 0 → spot_from new o ≡ spot_in None 0 (reverse old) → reverse old ≡ x ∷ reverse new
taken old new x o first e = taken_names (reverse old) new x o first e

pub fewer_taken : (old new : List ℕ) (x : ℕ) → reverse old ≡ x ∷ reverse new → length new ≤ length old
fewer_taken old new x e =
    let both : length (reverse old) ≡ length (x ∷ reverse new) = ap length e in
    let before : length (reverse old) ≡ length old = length-reverse old in
    let after : length (reverse new) ≡ length new = length-reverse new in
    let one : length (x ∷ reverse new) ≡ length (reverse new) + 1 = omega arith in
    omega arith

-- ---- passed over
pub pass_none : (left count at : ℕ) (before : Option ℕ) (rest : List ℕ) → 0 < left → None ≡ spot_in (Some at) count rest → None ≡ passed left before count (at ∷ rest)
pass_none zero count at before rest h e = let no : 0 < 0 = h in absurd (omega arith)
pass_none (suc zero) count at before rest h e = e
pass_none (suc (suc left)) count at before [] h e = refl
pass_none (suc (suc left)) count at before (n ∷ rest) h e = cc

pub pass_some : (left count at : ℕ) (before : Option ℕ) (rest : List ℕ) (spot : Spot) → 0 < left → Some spot ≡ spot_in (Some at) count rest → passed (left - 1) spot.before spot.count (spot.at ∷ spot.ahead) ≡ passed left before count (at ∷ rest)
pass_some zero count at before rest spot h e = let no : 0 < 0 = h in absurd (omega arith)
pass_some (suc left) count at before [] spot h e = cc
pass_some (suc left) count at before (n ∷ rest) spot h e =
    let is : spot ≡ record { before = Some at; at = n; ahead = rest; count = count } = same_Some spot (record { before = Some at; at = n; ahead = rest; count = count }) e in
    let less : suc left - 1 ≡ left = omega arith in
    ap (λ k. passed k spot.before spot.count (spot.at ∷ spot.ahead)) less ∙ ap (λ (s : Spot). passed left s.before s.count (s.at ∷ s.ahead)) is

pub pass_done : (left count at : ℕ) (before : Option ℕ) (rest : List ℕ) → left ≤ 0 → Some (record { before = before; at = at; ahead = rest; count = count }) ≡ passed left before count (at ∷ rest)
pass_done left count at before rest h = let none : 0 ≡ left = omega arith in ap (λ k. passed k before count (at ∷ rest)) none

-- ---- lengths
pub spot_length : (before : Option ℕ) (count : ℕ) (names : List ℕ) (spot : Spot) → spot_in before count names ≡ Some spot → (length spot.ahead + 1 ≡ length names) × (spot.count ≡ count)
spot_length before count [] spot e = cc
spot_length before count (n ∷ rest) spot e =
    let is : record { before = before; at = n; ahead = rest; count = count } ≡ spot = same_Some (record { before = before; at = n; ahead = rest; count = count }) spot e in
    let long : length rest ≡ length spot.ahead = ap (λ (s : Spot). length s.ahead) is in
    (omega arith, sym (ap (λ (s : Spot). s.count) is))

pub passed_length : (over : ℕ) (before : Option ℕ) (count : ℕ) (names : List ℕ) (spot : Spot) → passed over before count names ≡ Some spot → (length spot.ahead + 1 + over ≤ length names) × (spot.count ≡ count)
passed_length zero before count names spot e = let l = spot_length before count names spot e in let long = l.0 in (omega arith, l.1)
passed_length (suc over) before count [] spot e = cc
passed_length (suc over) before count (n ∷ rest) spot e = let l = passed_length over (Some n) count rest spot e in let long = l.0 in (omega arith, l.1)
