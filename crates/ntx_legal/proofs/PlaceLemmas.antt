-- Which places are legal.
use Rattle.std.proofs.Common.{◌≡◌, ℕ, suc, ◌+◌, ◌<◌, List, [], ◌∷◌, ◌++◌, Bool, false, cond, length, get_or, ap, add-one, true, ◌||◌, append-nil, sym, ◌∙◌, arith}
use Rattle.std.specs.Prelude.{nat_eq}
use Rattle.std.specs.List.{filter, range_with_len, slice_get}
use Rattle.std.proofs.lemmas.Bool.Decides.{nat_tests}
use Rattle.std.proofs.lemmas.List.{map-id}
use Rattle.std.proofs.lemmas.List.FromFn.{filter_of_map_range_with_len_more}
use Rattle.std.proofs.lemmas.Option.{slice_get-get_or}
use Rattle.ntx_item.specs.declared.item.Item.{Item}
use Rattle.ntx_item.specs.Settings.{Settings}
use Rattle.ntx_legal.specs.Places.{item_at, is_there_with, may_break, is_legal}

-- one number more
pub filter_more : (p : ℕ → Bool) (n : ℕ) → filter p (range_with_len 1 (n + 1)) ≡ filter p (range_with_len 1 n) ++ cond (p (suc n)) (suc n ∷ []) []
filter_more p n =
    ap (filter p) (sym (map-id (range_with_len 1 (n + 1))))
    ∙ filter_of_map_range_with_len_more p (λ x. x) 1 n (suc n) (omega arith)
    ∙ ap (λ xs. filter p xs ++ cond (p (suc n)) (suc n ∷ []) []) (map-id (range_with_len 1 n))

-- whether a line may end at an item
is_legal_inside : (params : Settings) (discs : Bool) (items : List Item) (i : ℕ) (d : Item) → i < length items →
    is_legal params discs items (suc i) ≡ may_break params discs (item_at items i) (get_or items i d) (item_at items (i + 2))
is_legal_inside params discs items i d lt =
    let e : nat_eq i (length items) ≡ false = grind (arith, nat_tests) in
    ap (λ b. b || is_there_with (λ item. may_break params discs (item_at items i) item (item_at items (i + 2))) (slice_get items i)) e
    ∙ ap (is_there_with (λ item. may_break params discs (item_at items i) item (item_at items (i + 2)))) (slice_get-get_or items i d lt)

is_legal_end : (params : Settings) (discs : Bool) (items : List Item) → is_legal params discs items (suc (length items)) ≡ true
is_legal_end params discs items =
    let e : nat_eq (length items) (length items) ≡ true = grind (arith, nat_tests) in
    ap (λ b. b || is_there_with (λ item. may_break params discs (item_at items (length items)) item (item_at items (length items + 2))) (slice_get items (length items))) e

-- the next place is legal, or not
pub filter_taken : (p : ℕ → Bool) (n : ℕ) (places : List ℕ) → places ≡ filter p (range_with_len 1 n) → p (suc n) ≡ true → places ++ (n + 1) ∷ [] ≡ filter p (range_with_len 1 (n + 1))
filter_taken p n places so_far yes_p =
    ap (λ m. places ++ m ∷ []) (add-one n)
    ∙ ap (λ xs. xs ++ suc n ∷ []) so_far
    ∙ ap (λ b. filter p (range_with_len 1 n) ++ cond b (suc n ∷ []) []) (sym yes_p)
    ∙ sym (filter_more p n)

pub filter_passed : (p : ℕ → Bool) (n : ℕ) (places : List ℕ) → places ≡ filter p (range_with_len 1 n) → p (suc n) ≡ false → places ≡ filter p (range_with_len 1 (n + 1))
filter_passed p n places so_far no_p =
    so_far
    ∙ sym (append-nil (filter p (range_with_len 1 n)))
    ∙ ap (λ b. filter p (range_with_len 1 n) ++ cond b (suc n ∷ []) []) (sym no_p)
    ∙ sym (filter_more p n)

pub place_taken : (params : Settings) (discs : Bool) (items : List Item) (i : ℕ) (d : Item) (places : List ℕ) → i < length items →
    places ≡ filter (is_legal params discs items) (range_with_len 1 i) → may_break params discs (item_at items i) (get_or items i d) (item_at items (i + 2)) ≡ true →
    places ++ (i + 1) ∷ [] ≡ filter (is_legal params discs items) (range_with_len 1 (i + 1))
place_taken params discs items i d places lt so_far e = filter_taken (is_legal params discs items) i places so_far (is_legal_inside params discs items i d lt ∙ e)

pub place_passed : (params : Settings) (discs : Bool) (items : List Item) (i : ℕ) (d : Item) (places : List ℕ) → i < length items →
    places ≡ filter (is_legal params discs items) (range_with_len 1 i) → may_break params discs (item_at items i) (get_or items i d) (item_at items (i + 2)) ≡ false →
    places ≡ filter (is_legal params discs items) (range_with_len 1 (i + 1))
place_passed params discs items i d places lt so_far e = filter_passed (is_legal params discs items) i places so_far (is_legal_inside params discs items i d lt ∙ e)

pub end_taken : (params : Settings) (discs : Bool) (items : List Item) (places : List ℕ) →
    places ≡ filter (is_legal params discs items) (range_with_len 1 (length items)) → places ++ (length items + 1) ∷ [] ≡ filter (is_legal params discs items) (range_with_len 1 (length items + 1))
end_taken params discs items places so_far = filter_taken (is_legal params discs items) (length items) places so_far (is_legal_end params discs items)
