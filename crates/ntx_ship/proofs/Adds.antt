-- What is put at the end of pieces.
use Rattle.std.proofs.Common.{◌≡◌, ℕ, suc, ℤ, pos, Bool, true, false, ◌&&◌, ◌+◌, ◌≤◌, ◌<◌, List, [], ◌∷◌, ◌++◌, length, drop, get_or, Ok, Err, refl, sym, ap, ◌∙◌, subst, append_assoc, append-nil, arith}
use Rattle.std.specs.Prelude.{Result, int_lt, int_le, ◌≤ℤ◌, if◌then◌else◌}
use Rattle.std.proofs.lemmas.Int.{ints}
use Rattle.std.proofs.lemmas.List.{at_drop_more, at_drop_all}
use Rattle.ntx_num.specs.Answer.{result_map, result_and_then}
use Rattle.ntx_num.proofs.Answers.{same_Ok}
use Rattle.ntx_num.specs.declared.answer.Fail.{Fail}
use Rattle.ntx_num.specs.declared.answer.Fail.TheVariants.{NoMemory, Is}
use Rattle.ntx_nodes.specs.Heap.{Heap}
use Rattle.ntx_nodes.specs.declared.trouble.Trouble.{Trouble}
use Rattle.ntx_nodes.specs.declared.trouble.Trouble.TheVariants.{Nest}
use Rattle.ntx_tfm.specs.Font.{FontTables}
use Rattle.ntx_pack.specs.declared.direction.Direction.{Direction}
use Rattle.ntx_ship.specs.declared.list.Inside.{Inside}
use Rattle.ntx_ship.specs.declared.piece.Piece.{Piece}
use Rattle.ntx_ship.specs.declared.piece.Piece.TheVariants.{Push}
use Rattle.ntx_ship.specs.declared.place.Place.{Place}
use Rattle.ntx_ship.specs.declared.station.Station.{Station}
use Rattle.ntx_ship.specs.Placed.{Pieces, Placer, joined, rule_mark, grouped, node_pieces, row_pieces, row_at, list_pieces}
use Rattle.ntx_ship.specs.inner.Adding.{Adds, closed, after}
use Rattle.ntx_ship.proofs.Groups.{closes, refuses}

-- ---- one call

pub adds_nothing : (a : Unit {0}) (old : List Piece) → Adds (Ok a) old old (Ok [])
adds_nothing a old = record { done = ap (λ (zs : List Piece). Ok zs) (append-nil old) }

pub adds_one : (a : Unit {0}) (old new : List Piece) (piece : Piece) → new ≡ old ++ piece ∷ [] → Adds (Ok a) old new (Ok (piece ∷ []))
adds_one a old new piece is = record { done = ap (λ (zs : List Piece). Ok zs) (sym is) }

pub adds_error : (why : Trouble) (old new : List Piece) → Adds (Err (Is why)) old new (Err why)
adds_error why old new = record { done = refl }

pub adds_no_memory : (old new : List Piece) (pieces : Pieces) → Adds (Err NoMemory) old new pieces
adds_no_memory old new pieces = record { done = tt }

-- The same pieces by another definition.
pub adds_as : {result : Result (Unit {0}) (Fail Trouble)} {old new : List Piece} {pieces same : Pieces} → pieces ≡ same → Adds result old new pieces → Adds result old new same
adds_as {result = result} {old = old} {new = new} e adds = subst (λ (ps : Pieces). Adds result old new ps) e adds

-- ---- rules that are no marks

hidden_by : (one two : Bool) (a : Unit {0}) (old : List Piece) (pieces : Pieces) → (one && two) ≡ false → Adds (Ok a) old old (if one && two then pieces else Ok [])
hidden_by one two a old pieces e = subst (λ (b : Bool). Adds (Ok a) old old (if b then pieces else Ok [])) (sym e) (adds_nothing a old)

not_above : (x : ℤ) → x ≤ℤ pos 0 → int_lt (pos 0) x ≡ false
not_above x h = grind (arith, ints)

pub at_most_none : (x : ℤ) → int_le x (pos 0) ≡ true → x ≤ℤ pos 0
at_most_none x h = grind (arith, ints)

neither : (one two : Bool) → two ≡ false → (one && two) ≡ false
neither true two e = e
neither false two e = refl

pub no_width : (a : Unit {0}) (old : List Piece) (here : Place) (height width : ℤ) → width ≤ℤ pos 0 → Adds (Ok a) old old (rule_mark here height width)
unfolding rule_mark
no_width a old here height width h =
    hidden_by (int_lt (pos 0) width) (int_lt (pos 0) height) a old _ (ap (λ (b : Bool). b && int_lt (pos 0) height) (not_above width h))

pub no_height : (a : Unit {0}) (old : List Piece) (here : Place) (height width : ℤ) → height ≤ℤ pos 0 → Adds (Ok a) old old (rule_mark here height width)
unfolding rule_mark
no_height a old here height width h =
    hidden_by (int_lt (pos 0) width) (int_lt (pos 0) height) a old _ (neither (int_lt (pos 0) width) (int_lt (pos 0) height) (not_above height h))

-- ---- boxes

pub box_refused : (e : Fail Trouble) (old filled new : List Piece) (list : Pieces) → Adds (Err e) (old ++ Push ∷ []) filled list → Adds (Err e) old new (result_map grouped list)
box_refused (Is why) old filled new list adds = record { done = refuses list why adds.done }
box_refused NoMemory old filled new list adds = record { done = tt }

pub box_closed : (a b : Unit {0}) (old filled new : List Piece) (full : ℕ) (list : Pieces) → full ≡ length (old ++ Push ∷ []) → Adds (Ok a) (old ++ Push ∷ []) filled list → new ≡ closed full filled → Adds (Ok b) old new (result_map grouped list)
box_closed a b old filled new full list count adds is = record { done = closes old filled new full list count adds.done is }

-- ---- rows

joined_after : (old xs : List Piece) (rest : Pieces) → after old (joined (Ok xs) rest) ≡ after (old ++ xs) rest
joined_after old xs (Ok ys) = ap (λ (zs : List Piece). Ok zs) (sym (append_assoc old xs ys))
joined_after old xs (Err why) = refl

joins : (old new : List Piece) (first rest : Pieces) → after old first ≡ Ok new → after old (joined first rest) ≡ after new rest
joins old new (Ok xs) rest e =
    joined_after old xs rest ∙ ap (λ (zs : List Piece). after zs rest) (same_Ok {E = Trouble} (old ++ xs) new e)
joins old new (Err why) rest e = cc

stops : (first rest : Pieces) (why : Trouble) → first ≡ Err why → joined first rest ≡ Err why
stops first rest why e = ap (λ (ps : Pieces). joined ps rest) e

error_before : (old : List Piece) (pieces : Pieces) (why : Trouble) → after old pieces ≡ Err why → pieces ≡ Err why
error_before old (Ok xs) why e = cc
error_before old (Err e) why is = is

-- the pieces of the stations from a place on
abbrev pub row_from : List FontTables → Placer → Direction → List Station → ℕ → Pieces
row_from fonts place direction row i = row_pieces fonts place direction (drop i row)

row_step : (fonts : List FontTables) (place : Placer) (direction : Direction) (row : List Station) (i : ℕ) (d : Station) → i < length row →
    row_from fonts place direction row i ≡ joined (node_pieces fonts place direction (get_or row i d).contents (get_or row i d).here) (row_from fonts place direction row (i + 1))
row_step fonts place direction row i d within = at_drop_more (row_pieces fonts place direction) row i d within

-- One station more.
pub row_more : (fonts : List FontTables) (place : Placer) (direction : Direction) (row : List Station) (i : ℕ) (d : Station) (a : Unit {0}) (old now new : List Piece) (whole : Pieces) → i < length row → after old whole ≡ after now (row_from fonts place direction row i) → Adds (Ok a) now new (node_pieces fonts place direction (get_or row i d).contents (get_or row i d).here) →
    after old whole ≡ after new (row_from fonts place direction row (i + 1))
row_more fonts place direction row i d a old now new whole within so_far adds =
    so_far ∙ ap (after now) (row_step fonts place direction row i d within)
    ∙ joins now new (node_pieces fonts place direction (get_or row i d).contents (get_or row i d).here) (row_from fonts place direction row (i + 1)) adds.done

-- A station that is refused.
pub row_refused : (fonts : List FontTables) (place : Placer) (direction : Direction) (row : List Station) (i : ℕ) (d : Station) (e : Fail Trouble) (old now new : List Piece) (whole : Pieces) → i < length row → after old whole ≡ after now (row_from fonts place direction row i) → Adds (Err e) now new (node_pieces fonts place direction (get_or row i d).contents (get_or row i d).here) →
    Adds (Err e) old new whole
row_refused fonts place direction row i d (Is why) old now new whole within so_far adds = record {
  done =
      error_before old whole why
      (so_far ∙ ap (after now)
      (row_step fonts place direction row i d within
      ∙ stops (node_pieces fonts place direction (get_or row i d).contents (get_or row i d).here) (row_from fonts place direction row (i + 1)) why adds.done));
}
row_refused fonts place direction row i d NoMemory old now new whole within so_far adds = record { done = tt }

pub row_ended : (fonts : List FontTables) (place : Placer) (direction : Direction) (row : List Station) (i : ℕ) (a : Unit {0}) (old now : List Piece) (whole : Pieces) → length row ≤ i → after old whole ≡ after now (row_from fonts place direction row i) → Adds (Ok a) old now whole
row_ended fonts place direction row i a old now whole past so_far = record {
  done =
      so_far ∙ ap (after now) (at_drop_all (row_pieces fonts place direction) row i past)
      ∙ ap (λ (zs : List Piece). Ok zs) (append-nil now);
}

-- ---- lists

list_none : (heap : Heap) (fonts : List FontTables) (inside : Inside) (here : Place) → list_pieces heap fonts 0 inside here ≡ Err Nest
unfolding list_pieces
list_none heap fonts inside here = refl

pub list_too_deep : (heap : Heap) (fonts : List FontTables) (levels : ℕ) (inside : Inside) (here : Place) (old new : List Piece) → levels ≡ 0 → Adds (Err (Is Nest)) old new (list_pieces heap fonts levels inside here)
list_too_deep heap fonts levels inside here old new e = record { done = ap (λ (k : ℕ). list_pieces heap fonts k inside here) e ∙ list_none heap fonts inside here }

list_is : (heap : Heap) (fonts : List FontTables) (lower : ℕ) (inside : Inside) (here : Place) → list_pieces heap fonts (suc lower) inside here ≡ result_and_then (row_at heap fonts inside here) (row_pieces fonts (list_pieces heap fonts lower) inside.direction)
unfolding list_pieces
list_is heap fonts lower inside here = refl

list_at : (heap : Heap) (fonts : List FontTables) (levels lower : ℕ) (inside : Inside) (here : Place) (row : Result (List Station) Trouble) → levels ≡ suc lower → row_at heap fonts inside here ≡ row → list_pieces heap fonts levels inside here ≡ result_and_then row (row_pieces fonts (list_pieces heap fonts lower) inside.direction)
list_at heap fonts levels lower inside here row e found =
    ap (λ (k : ℕ). list_pieces heap fonts k inside here) e ∙ list_is heap fonts lower inside here
    ∙ ap (λ (r : Result (List Station) Trouble). result_and_then r (row_pieces fonts (list_pieces heap fonts lower) inside.direction)) found

pub list_refused : (heap : Heap) (fonts : List FontTables) (levels lower : ℕ) (inside : Inside) (here : Place) (why : Trouble) (old new : List Piece) → levels ≡ suc lower → row_at heap fonts inside here ≡ Err why → Adds (Err (Is why)) old new (list_pieces heap fonts levels inside here)
list_refused heap fonts levels lower inside here why old new e found = record { done = list_at heap fonts levels lower inside here (Err why) e found }

pub list_row : (heap : Heap) (fonts : List FontTables) (levels lower : ℕ) (inside : Inside) (here : Place) (row : List Station) (result : Result (Unit {0}) (Fail Trouble)) (old new : List Piece) → levels ≡ suc lower → row_at heap fonts inside here ≡ Ok row → Adds result old new (row_pieces fonts (list_pieces heap fonts lower) inside.direction row) → Adds result old new (list_pieces heap fonts levels inside here)
list_row heap fonts levels lower inside here row result old new e found adds = adds_as (sym (list_at heap fonts levels lower inside here (Ok row) e found)) adds

-- ---- pieces put after none

pub from_none : (new old : List Piece) (pieces : Pieces) → old ≡ [] → after old pieces ≡ Ok new → pieces ≡ Ok new
from_none new old (Ok xs) none e = ap (λ (zs : List Piece). Ok (zs ++ xs)) (sym none) ∙ e
from_none new old (Err why) none e = cc
