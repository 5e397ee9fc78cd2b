-- What is known of the places where a line may end.
use Rattle.std.proofs.Common.{◌≡◌, ℕ, zero, suc, ◌+◌, ◌<◌, ◌≤◌, ℤ, pos, List, [], ◌∷◌, Bool, true, false, ◌&&◌, ◌||◌, not, Option, Some, None, length, get_or, refl, ap, sym, ◌∙◌, arith}
use Rattle.std.specs.Prelude.{nat_eq, int_lt, ◌<ℤ◌}
use Rattle.std.specs.List.{All, AllPairs, filter, range_with_len, slice_get}
use Rattle.std.proofs.lemmas.Int.{ints}
use Rattle.std.proofs.lemmas.Bool.Decides.{nat_tests}
use Rattle.std.proofs.lemmas.List.Elements.{All-filter, filter_passes}
use Rattle.std.proofs.lemmas.List.FromFn.{length-range_with_len, get_or-range_with_len}
use Rattle.std.proofs.lemmas.List.Kept.{AllPairs-filter}
use Rattle.ntx_item.specs.declared.item.Item.{Item}
use Rattle.ntx_item.specs.declared.item.Item.TheVariants.{Box, Glyph, Rule, Glue, Kern, Penalty, Disc}
use Rattle.ntx_item.specs.Settings.{Settings}
use Rattle.ntx_legal.specs.Places.{item_at, forbidding, is_there_with, disc_penalty, may_break, is_legal, places_of}
use Rattle.ntx_breaks.specs.Penalties.{penalty_of}
use Rattle.ntx_breaks.specs.inner.Search.{ArePlaces}

-- ---- the penalty of a place

below : (p : ℤ) → int_lt p forbidding ≡ true → p <ℤ pos 10000
below p e = grind (arith, ints)

both : (a b : Bool) → (a && b) ≡ true → b ≡ true
both true b e = e
both false true e = refl
both false false e = e

break_below : (params : Settings) (discs : Bool) (before : Option Item) (item : Item) (after : Option Item) → may_break params discs before item after ≡ true → penalty_of params (Some item) <ℤ pos 10000
break_below params discs before (Glue spec) after e = omega (arith, ints)
break_below params discs before (Kern w font) after e = omega (arith, ints)
break_below params discs before (Penalty p) after e = below p e
break_below params discs before (Disc pre post replace pre_empty post_empty regular) after e = below (disc_penalty params pre_empty) (both (discs || not regular) (int_lt (disc_penalty params pre_empty) forbidding) e)
break_below params discs before (Box size shift) after e = omega (arith, ints)
break_below params discs before (Glyph size) after e = omega (arith, ints)
break_below params discs before (Rule size) after e = omega (arith, ints)

-- an item is not at the end
inside : (items : List Item) (i : ℕ) (item : Item) → slice_get items i ≡ Some item → i < length items
inside [] i item e = cc
inside (x ∷ items) zero item e = omega arith
inside (x ∷ items) (suc i) item e = let lt : i < length items = inside items i item e in omega arith

there : (params : Settings) (discs : Bool) (before : Option Item) (o : Option Item) (after : Option Item) (b : Bool) →
    ((item : Item) → o ≡ Some item → b ≡ false) → (b || is_there_with (λ item. may_break params discs before item after) o) ≡ true → penalty_of params o <ℤ pos 10000
there params discs before None after b f e = omega (arith, ints)
there params discs before (Some item) after b f e =
    break_below params discs before item after (ap (λ t. t || may_break params discs before item after) (sym (f item refl)) ∙ e)

other : (i n : ℕ) → i < n → nat_eq i n ≡ false
other i n lt = grind (arith, nat_tests)

legal_below : (params : Settings) (discs : Bool) (items : List Item) (place : ℕ) → is_legal params discs items place ≡ true → penalty_of params (item_at items place) <ℤ pos 10000
legal_below params discs items zero e = omega (arith, ints)
legal_below params discs items (suc i) e =
    there params discs (item_at items i) (slice_get items i) (item_at items (i + 2)) (nat_eq i (length items)) (λ item s. other i (length items) (inside items i item s)) e

-- ---- all places

in_range : (n : ℕ) → All (λ k. (0 < k) × (k ≤ n)) (range_with_len 1 n)
in_range n = λ i d lt.
    let less : i < n = omega (arith, length-range_with_len 1 n) in
    let e = get_or-range_with_len 1 n i d less in
    (omega arith, omega arith)

rising : (n : ℕ) → AllPairs (λ (a b : ℕ). a < b) (range_with_len 1 n)
rising n = λ i j d lt end.
    let high : j < n = omega (arith, length-range_with_len 1 n) in
    let low : i < n = omega arith in
    let e = get_or-range_with_len 1 n i d low in
    let f = get_or-range_with_len 1 n j d high in
    omega arith

pub are_places : (params : Settings) (discs : Bool) (items : List Item) → ArePlaces params items (places_of params discs items)
are_places params discs items =
    let passes = filter_passes (is_legal params discs items) (range_with_len 1 (length items + 1)) in
    let ranges = All-filter (is_legal params discs items) (λ k. (0 < k) × (k ≤ length items + 1)) (range_with_len 1 (length items + 1)) (in_range (length items + 1)) in
    record {
      each = λ i d lt. record {
        low = (ranges i d lt).0;
        high = (ranges i d lt).1;
        penalty = legal_below params discs items (get_or (filter (is_legal params discs items) (range_with_len 1 (length items + 1))) i d) (passes i d lt);
      };
      ascending = AllPairs-filter (λ (a b : ℕ). a < b) (is_legal params discs items) (range_with_len 1 (length items + 1)) (rising (length items + 1));
    }
