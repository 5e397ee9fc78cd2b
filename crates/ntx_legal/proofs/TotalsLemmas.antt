-- The totals of the first items, and what stands between two places.
use Rattle.std.proofs.Common.{◌≡◌, ℕ, zero, suc, ◌+◌, ◌-◌, ◌^◌, ◌<◌, ◌≤◌, ℤ, ◌-ℤ◌, List, [], ◌∷◌, ◌++◌, Bool, true, false, cond, length, take, drop, get_or, map, sym, ap, ◌∙◌, arith}
use Rattle.std.specs.Prelude.{min}
use Rattle.std.specs.Int.RustNames.{unsigned_abs}
use Rattle.std.specs.List.{range_with_len, prefix_len}
use Rattle.std.proofs.Math.Nat.{min-zero, zero-min}
use Rattle.std.proofs.lemmas.Int.{ints}
use Rattle.std.proofs.lemmas.List.{drop-take, drop-drop}
use Rattle.std.proofs.lemmas.List.FromFn.{get_or-map-range_with_len, map-range_with_len_more}
use Rattle.ntx_item.proofs.SumLemmas.{signed_sum-between}
use Rattle.ntx_item.specs.declared.item.Item.{Item}
use Rattle.ntx_item.specs.declared.glue_change.GlueChange.TheVariants.{Stretch}
use Rattle.ntx_item.specs.Items.{max_total}
use Rattle.ntx_item.specs.Sums.{natural_width, amount_in}
use Rattle.ntx_legal.specs.Kept.{is_discardable, keeps_all, items_between, kept_items}
use Rattle.ntx_legal.specs.LineSums.{shrink_of, sums_of, AreSumsWithin}
use Rattle.ntx_legal.specs.Totals.{sums_minus, entry_of}
use Rattle.ntx_legal.specs.declared.totals.Entry.{Entry}
use Rattle.ntx_legal.specs.declared.sums.Sums.{Sums}

-- one entry more
pub entries_more : (items : List Item) (n : ℕ) → map (entry_of items) (range_with_len 0 (n + 1)) ++ entry_of items (n + 1) ∷ [] ≡ map (entry_of items) (range_with_len 0 (n + 1 + 1))
entries_more items n = sym (map-range_with_len_more (entry_of items) 0 (n + 1) (n + 1) (omega arith))

-- an entry that is read
pub entry_at : (items : List Item) (entries : List Entry) (n : ℕ) (d : Entry) → entries ≡ map (entry_of items) (range_with_len 0 (length items + 1)) → n ≤ length items → get_or entries n d ≡ entry_of items n
entry_at items entries n d e le = ap (λ xs. get_or xs n d) e ∙ get_or-map-range_with_len (entry_of items) 0 (length items + 1) n n d (omega arith) (omega arith)

-- the sums between two places
pub sums_between : (items : List Item) (a b : ℕ) → a ≤ b → sums_of (take (b - a) (drop a items)) ≡ sums_minus (sums_of (take b items)) (sums_of (take a items))
sums_between items a b le =
    let w = signed_sum-between natural_width items a b le in
    let p = signed_sum-between (amount_in Stretch 0) items a b le in
    let q = signed_sum-between (amount_in Stretch 1) items a b le in
    let r = signed_sum-between (amount_in Stretch 2) items a b le in
    let t = signed_sum-between (amount_in Stretch 3) items a b le in
    let s = signed_sum-between shrink_of items a b le in
    λ j. record { width = w j; stretch = record { normal = p j; fil = q j; fill = r j; filll = t j }; shrink = s j }

absolute_difference : (a b : ℤ) → unsigned_abs (a -ℤ b) ≤ unsigned_abs a + unsigned_abs b
absolute_difference a b = omega (arith, ints)

pub minus_within : (a b : Sums) → AreSumsWithin max_total a → AreSumsWithin max_total b → AreSumsWithin (2 ^ 62) (sums_minus a b)
minus_within a b h k = record {
  width = omega (arith, h.width, k.width, absolute_difference a.width b.width);
  stretch = record {
    normal = omega (arith, h.stretch.normal, k.stretch.normal, absolute_difference a.stretch.normal b.stretch.normal);
    fil = omega (arith, h.stretch.fil, k.stretch.fil, absolute_difference a.stretch.fil b.stretch.fil);
    fill = omega (arith, h.stretch.fill, k.stretch.fill, absolute_difference a.stretch.fill b.stretch.fill);
    filll = omega (arith, h.stretch.filll, k.stretch.filll, absolute_difference a.stretch.filll b.stretch.filll);
  };
  shrink = omega (arith, h.shrink, k.shrink, absolute_difference a.shrink b.shrink);
}

min_more : (m b : ℕ) → 1 + min m b ≡ min (suc m) (1 + b)
min_more m b = omega arith

by_test : (b : Bool) (m n k : ℕ) → n ≡ min m k → cond b (1 + n) 0 ≡ min (suc m) (cond b (1 + k) 0)
by_test true m n k e = ap (λ x. 1 + x) e ∙ min_more m k
by_test false m n k e = sym (min-zero (suc m))

-- the prefix of a part
prefix_len-take : {X : Type 0} (p : X → Bool) (m : ℕ) (xs : List X) → prefix_len p (take m xs) ≡ min m (prefix_len p xs)
prefix_len-take p zero xs = sym (zero-min (prefix_len p xs))
prefix_len-take p (suc m) [] = sym (min-zero (suc m))
prefix_len-take p (suc m) (x ∷ xs) = by_test (p x) m (prefix_len p (take m xs)) (prefix_len p xs) (prefix_len-take p m xs)

-- where the items that count begin
abbrev pub kept_start : List Item → ℕ → ℕ → ℕ
kept_start items from to = min (from + prefix_len is_discardable (drop from items)) (to - 1)

-- dropping k of m items that begin at `from`
dropped : (items : List Item) (from m k : ℕ) → k ≤ m → drop k (take m (drop from items)) ≡ take (m - k) (drop (from + k) items)
dropped items from m k le =
    let e : m ≡ k + (m - k) = omega arith in
    ap (λ n. drop k (take n (drop from items))) e ∙ drop-take k (m - k) (drop from items) ∙ ap (take (m - k)) (drop-drop k from items)

pub kept_later : (items : List Item) (from to : ℕ) → from < to → keeps_all items from ≡ false →
    kept_items items from to ≡ take (to - 1 - kept_start items from to) (drop (kept_start items from to) items)
kept_later items from to lt e =
    let m : ℕ = to - from - 1 in
    let xs : List Item = drop from items in
    let k : ℕ = min m (prefix_len is_discardable xs) in
    let le : min (to - from - 1) (prefix_len is_discardable (drop from items)) ≤ to - from - 1 = omega arith in
    let start : from + min (to - from - 1) (prefix_len is_discardable (drop from items)) ≡ min (from + prefix_len is_discardable (drop from items)) (to - 1) = omega arith in
    let count : to - from - 1 - min (to - from - 1) (prefix_len is_discardable (drop from items)) ≡ to - 1 - min (from + prefix_len is_discardable (drop from items)) (to - 1) = omega arith in
    ap (λ b. cond b (items_between items from to) (drop (prefix_len is_discardable (items_between items from to)) (items_between items from to))) e
    ∙ ap (λ n. drop n (take m xs)) (prefix_len-take is_discardable m xs)
    ∙ dropped items from m k le
    ∙ (λ j. take (count j) (drop (start j) items))

pub kept_whole : (items : List Item) (from to : ℕ) → from < to → keeps_all items from ≡ true → kept_items items from to ≡ take (to - 1 - from) (drop from items)
kept_whole items from to lt e =
    let count : to - from - 1 ≡ to - 1 - from = omega arith in
    ap (λ b. cond b (items_between items from to) (drop (prefix_len is_discardable (items_between items from to)) (items_between items from to))) e
    ∙ ap (λ n. take n (drop from items)) count
