-- The table of a node, and what is left of it after a child or a pattern is added.
use Rattle.std.specs.Option.{option_map, unwrap_or}
use Rattle.std.proofs.Common.{◌≡◌, ◌≢◌, ℕ, ◌+◌, ◌-◌, ◌<◌, ◌≤◌, ◌⊎◌, true, false, List, [], ◌∷◌, ◌++◌, length, take, drop, set, get_or, Option, Some, None, IfSome, MatchOption, is_some, ltb, bytes_eq, nat_eq, if◌then◌else◌, refl, ap, sym, ◌∙◌, arith, inl, inr}
use Rattle.std.specs.List.{slice_get}
use Rattle.std.proofs.Common.{get_or-set_other, get_or-set_same}
use Rattle.std.proofs.Math.Path.{fun_ext}
use Rattle.std.proofs.Math.Seq.{get_or-append_seam}
use Rattle.std.proofs.lemmas.Bool.{cases_Bool, cases_lt}
use Rattle.std.proofs.lemmas.Bool.Decides.{nat_tests}
use Rattle.std.proofs.lemmas.Grind.{get_or_default_zero}
use Rattle.std.proofs.lemmas.List.{get_or_append_left, length-append, length-set, take_rest}
use Rattle.std.proofs.lemmas.Option.{slice_get-get_or, slice_get_past}
use Rattle.ntx_patterns.specs.declared.trie.Node.{Node}
use Rattle.ntx_patterns.specs.declared.trie.Node.TheOpen.{Node-F}
use Rattle.ntx_patterns.specs.declared.trie.Node.TheViews.{out-Node, roll-Node, out-roll-Node}
use Rattle.ntx_patterns.specs.Places.{symbol_index, place_of, IsPacked}
use Rattle.ntx_patterns.specs.Table.{greater_digits}
use Rattle.ntx_patterns.specs.Kept.{row, child_in}
use Rattle.ntx_patterns.specs.inner.Adding.{added}
use Rattle.ntx_patterns.specs.inner.Packed.{IsPackedAt, AllPacked, ArePacked, row_in}
use Rattle.ntx_patterns.proofs.PlacesLemmas.{few, place_cases, places_apart, more_packed}

-- ---- a node
pub rolled_digits : (x : Node-F Node) → (out-Node (roll-Node x)).digits.items ≡ x.digits.items
rolled_digits x = ap (λ (y : Node-F Node). y.digits.items) (out-roll-Node x)

pub rolled_places : (x : Node-F Node) → (out-Node (roll-Node x)).places ≡ x.places
rolled_places x = ap (λ (y : Node-F Node). y.places) (out-roll-Node x)

pub rolled_children : (x : Node-F Node) → (out-Node (roll-Node x)).children.items ≡ x.children.items
rolled_children x = ap (λ (y : Node-F Node). y.children.items) (out-roll-Node x)

pub row-nil : (node : Node) → row node [] ≡ (out-Node node).digits.items
unfolding row
row-nil node = refl

pub row-cons : (node : Node) (symbol : ℕ) (key : List ℕ) → row node (symbol ∷ key) ≡ row_in (out-Node node).places (out-Node node).children.items symbol key
unfolding row
row-cons node symbol key = refl

all_below : (o : Option Node) → ((way : List ℕ) → IfSome o (IsPackedAt way)) → IfSome o AllPacked
all_below (Some child) packed = λ way. packed way
all_below None packed = tt

some_below : (o : Option Node) (way : List ℕ) → IfSome o AllPacked → IfSome o (IsPackedAt way)
some_below (Some child) way packed = packed way
some_below None way packed = tt

pub opened_node : (node : Node) → AllPacked node → ArePacked (out-Node node).places (out-Node node).children.items
opened_node node packed = record { here = packed []; below = λ symbol. all_below (child_in (out-Node node).places (out-Node node).children.items symbol) (λ way. packed (symbol ∷ way)) }

pub closed_node : (node : Node) → ArePacked (out-Node node).places (out-Node node).children.items → AllPacked node
closed_node node packed [] = packed.here
closed_node node packed (symbol ∷ way) = some_below (child_in (out-Node node).places (out-Node node).children.items symbol) way (packed.below symbol)

-- ---- looking up a symbol
pub child_found : {B : Type 0} (found : Option B) (now : B → Node) (node : Node) (items : List Node) (symbol place : ℕ) → items ≡ (out-Node node).children.items → place ≡ place_of (out-Node node).places symbol
    → is_some found ≡ ltb place (length items) → IfSome found (λ child. now child ≡ get_or items place (now child))
    → MatchOption found ((key : List ℕ) → row node (symbol ∷ key) ≡ []) (λ child. (key : List ℕ) → row node (symbol ∷ key) ≡ row (now child) key)
child_found None now node items symbol place children placed there is = λ key.
    let past : length items ≤ place = grind (arith, nat_tests) in
    row-cons node symbol key ∙ ap (λ o. unwrap_or (option_map (λ below. row below key) o) []) (ap (λ i. slice_get (out-Node node).children.items i) (sym placed) ∙ ap (λ xs. slice_get xs place) (sym children) ∙ slice_get_past items place past)
child_found (Some child) now node items symbol place children placed there is = λ key.
    let within : place < length items = grind (arith, nat_tests) in
    row-cons node symbol key ∙ ap (λ o. unwrap_or (option_map (λ below. row below key) o) []) (ap (λ i. slice_get (out-Node node).children.items i) (sym placed) ∙ ap (λ xs. slice_get xs place) (sym children) ∙ slice_get-get_or items place (now child) within ∙ ap Some (sym is))

-- a child is packed
pub child_packed : (places : List ℕ) (children : List Node) (node : Node) (symbol place : ℕ) → ArePacked places children → place ≡ place_of places symbol → place < length children → node ≡ get_or children place node → AllPacked node
child_packed places children node symbol place packed placed within is =
    let some : child_in places children symbol ≡ Some node = ap (slice_get children) (sym placed) ∙ slice_get-get_or children place node within ∙ ap Some (sym is) in
    rw some at (packed.below symbol)

-- ---- a node with nothing
fresh_at : (node : Node) → (out-Node node).digits.items ≡ [] → (out-Node node).children.items ≡ [] → (key : List ℕ) → row node key ≡ []
fresh_at node no_digits no_children [] = row-nil node ∙ no_digits
fresh_at node no_digits no_children (symbol ∷ key) = row-cons node symbol key ∙ ap (λ children. row_in (out-Node node).places children symbol key) no_children

pub fresh_row : (x : Node-F Node) → x.digits.items ≡ [] → x.children.items ≡ [] → (key : List ℕ) → row (roll-Node x) key ≡ []
fresh_row x no_digits no_children = fresh_at (roll-Node x) (rolled_digits x ∙ no_digits) (rolled_children x ∙ no_children)

none_below : (places : List ℕ) (children : List Node) → IsPacked places 0 → children ≡ [] → ArePacked places children
none_below places children packed none = rw none (record { here = packed; below = λ symbol. tt })

-- a node is packed if its places and children are
pub rolled_packed : (x : Node-F Node) → ArePacked x.places x.children.items → AllPacked (roll-Node x)
rolled_packed x packed = closed_node (roll-Node x) (rw (rolled_places x, rolled_children x) packed)

pub fresh_packed : (x : Node-F Node) → IsPacked x.places 0 → x.children.items ≡ [] → AllPacked (roll-Node x)
fresh_packed x packed none = rolled_packed x (none_below x.places x.children.items packed none)

-- ---- a child is added
pub opened_child : (places : List ℕ) (children : List Node) (child : Node) (i next : ℕ) → IsPacked places (length children) → i < 27 → get_or places i 0 ≡ 255
    → ((child_in (set places i (length children)) (children ++ child ∷ []) next ≡ Some child) × (child_in places children next ≡ None))
    ⊎ (child_in (set places i (length children)) (children ++ child ∷ []) next ≡ child_in places children next)
opened_child places children child i next packed within none =
    let n = length children in
    elim (cases_Bool (nat_eq (symbol_index next) i)) [
      | inl same ↦
          let e : symbol_index next ≡ i = grind (arith, nat_tests) in
          let new : place_of (set places i n) next ≡ n = ap (λ j. get_or (set places i n) j 255) e ∙ get_or-set_same places i n 255 (omega (arith, packed.long)) in
          let old : place_of places next ≡ 255 = ap (λ j. get_or places j 255) e ∙ get_or_default_zero places i 255 (omega (arith, packed.long)) ∙ none in
          inl (
            ap (slice_get (children ++ child ∷ [])) new ∙ slice_get-get_or (children ++ child ∷ []) n child (omega (arith, length-append children (child ∷ []))) ∙ ap Some (get_or-append_seam children child [] child),
            ap (slice_get children) old ∙ slice_get_past children 255 (omega (arith, few places n packed)),
          )
      | inr other ↦
          let e : symbol_index next ≢ i = λ is. absurd (grind (arith, nat_tests)) in
          let place : place_of (set places i n) next ≡ place_of places next = get_or-set_other places i (symbol_index next) n 255 e in
          inr (ap (slice_get (children ++ child ∷ [])) place ∙ elim (place_cases places n (symbol_index next) packed) [
            | inl there ↦
                slice_get-get_or (children ++ child ∷ []) (place_of places next) child (omega (arith, there, length-append children (child ∷ [])))
                ∙ ap Some (get_or_append_left children (child ∷ []) child (place_of places next) there)
                ∙ sym (slice_get-get_or children (place_of places next) child there)
            | inr nowhere ↦
                slice_get_past (children ++ child ∷ []) (place_of places next) (omega (arith, nowhere, few places n packed, length-append children (child ∷ [])))
                ∙ sym (slice_get_past children (place_of places next) (omega (arith, nowhere, few places n packed)))
          ])
    ]

pub opened_rows : (places : List ℕ) (children : List Node) (child : Node) (i : ℕ) → IsPacked places (length children) → i < 27 → get_or places i 0 ≡ 255 → ((key : List ℕ) → row child key ≡ [])
    → (next : ℕ) (key : List ℕ) → row_in (set places i (length children)) (children ++ child ∷ []) next key ≡ row_in places children next key
opened_rows places children child i packed within none empty next key =
    let table : Option Node → List ℕ = λ o. unwrap_or (option_map (λ below. row below key) o) [] in
    elim (opened_child places children child i next packed within none) [
      | inl (new, old) ↦ ap table new ∙ empty key ∙ sym (ap table old)
      | inr same ↦ ap table same
    ]

pub opened_packed : (places : List ℕ) (children : List Node) (child : Node) (i : ℕ) → ArePacked places children → i < 27 → get_or places i 0 ≡ 255 → AllPacked child
    → ArePacked (set places i (length children)) (children ++ child ∷ [])
opened_packed places children child i packed within none whole = record {
  here = let e : length (children ++ child ∷ []) ≡ length children + 1 = length-append children (child ∷ []) in rw e (more_packed places (length children) i packed.here within none);
  below = λ next. elim (opened_child places children child i next packed.here within none) [
    | inl (new, old) ↦ rw new whole
    | inr same ↦ rw same (packed.below next)
  ];
}

-- ---- a child is changed
changed_child : (places : List ℕ) (children : List Node) (child : Node) (place next : ℕ) → place < length children
    → ((place_of places next ≡ place) × (child_in places (set children place child) next ≡ Some child))
    ⊎ ((place_of places next ≢ place) × (child_in places (set children place child) next ≡ child_in places children next))
changed_child places children child place next within =
    elim (cases_Bool (nat_eq (place_of places next) place)) [
      | inl same ↦
          let e : place_of places next ≡ place = grind (arith, nat_tests) in
          inl (e, ap (slice_get (set children place child)) e ∙ slice_get-get_or (set children place child) place child (omega (arith, length-set children place child)) ∙ ap Some (get_or-set_same children place child child within))
      | inr other ↦
          let e : place_of places next ≢ place = λ is. absurd (grind (arith, nat_tests)) in
          inr (
            e,
            elim (cases_lt (place_of places next) (length children)) [
              | inl there ↦
                  slice_get-get_or (set children place child) (place_of places next) child (omega (arith, there, length-set children place child))
                  ∙ ap Some (get_or-set_other children place (place_of places next) child child e)
                  ∙ sym (slice_get-get_or children (place_of places next) child there)
              | inr past ↦
                  slice_get_past (set children place child) (place_of places next) (omega (arith, past, length-set children place child))
                  ∙ sym (slice_get_past children (place_of places next) past)
            ],
          )
    ]

pub changed_packed : (places : List ℕ) (children : List Node) (child : Node) (place : ℕ) → ArePacked places children → place < length children → AllPacked child
    → ArePacked places (set children place child)
changed_packed places children child place packed within whole = record {
  here = let e : length (set children place child) ≡ length children = length-set children place child in rw e packed.here;
  below = λ next. elim (changed_child places children child place next within) [
    | inl (here, new) ↦ rw new whole
    | inr (other, same) ↦ rw same (packed.below next)
  ];
}

-- ---- a pattern is added
raised_at : (old new : Node) (symbols digits : List ℕ) → length symbols ≡ 0 → (out-Node new).digits.items ≡ greater_digits (out-Node old).digits.items digits
    → (out-Node new).places ≡ (out-Node old).places → (out-Node new).children.items ≡ (out-Node old).children.items → (key : List ℕ) → row new key ≡ added symbols digits (row old) key
raised_at old new [] digits none raised places children [] = row-nil new ∙ raised ∙ ap (λ d. greater_digits d digits) (sym (row-nil old))
raised_at old new [] digits none raised places children (symbol ∷ key) =
    row-cons new symbol key ∙ ap (λ p. row_in p (out-Node new).children.items symbol key) places ∙ ap (λ c. row_in (out-Node old).places c symbol key) children ∙ sym (row-cons old symbol key)
raised_at old new (s ∷ rest) digits none raised places children key = absurd (omega arith)

-- at the node itself
pub raised_node : (old : Node) (x : Node-F Node) (symbols digits : List ℕ) → length symbols ≡ 0 → x.digits.items ≡ greater_digits (out-Node old).digits.items digits
    → x.places ≡ (out-Node old).places → x.children.items ≡ (out-Node old).children.items → row (roll-Node x) ≡ added symbols digits (row old)
raised_node old x symbols digits none raised places children =
    fun_ext (raised_at old (roll-Node x) symbols digits none (rolled_digits x ∙ raised) (rolled_places x ∙ places) (rolled_children x ∙ children))

-- what a child is changed to, and what the places and children were before
pub record IsChanged (old new : Node) (places : List ℕ) (children : List Node) (child : Node) (place symbol : ℕ) : Type 0 where
  pub digits_kept : (out-Node new).digits.items ≡ (out-Node old).digits.items
  pub places_kept : (out-Node new).places ≡ places
  pub child_set : (out-Node new).children.items ≡ set children place child
  pub packed : IsPacked places (length children)
  pub rows : (next : ℕ) (key : List ℕ) → row_in places children next key ≡ row_in (out-Node old).places (out-Node old).children.items next key
  pub known : symbol_index symbol < 27
  pub placed : place ≡ place_of places symbol
  pub within : place < length children

changed_row : (old new : Node) (places : List ℕ) (children : List Node) (child : Node) (place symbol : ℕ) → IsChanged old new places children child place symbol
    → (next : ℕ) (key : List ℕ) → row new (next ∷ key) ≡ row_in places (set children place child) next key
changed_row old new places children child place symbol is next key =
    row-cons new next key ∙ ap (λ p. row_in p (out-Node new).children.items next key) is.places_kept ∙ ap (λ c. row_in places c next key) is.child_set

-- the table of the child before
child_row : (old new : Node) (places : List ℕ) (children : List Node) (child : Node) (place symbol : ℕ) → IsChanged old new places children child place symbol
    → (key : List ℕ) → row (get_or children place child) key ≡ row old (symbol ∷ key)
child_row old new places children child place symbol is key =
    sym (ap (λ o. unwrap_or (option_map (λ below. row below key) o) []) (ap (slice_get children) (sym is.placed) ∙ slice_get-get_or children place child is.within))
    ∙ is.rows symbol key ∙ sym (row-cons old symbol key)

added_at : (old new : Node) (places : List ℕ) (children : List Node) (child : Node) (place symbol : ℕ) (rest digits : List ℕ) → IsChanged old new places children child place symbol
    → ((key : List ℕ) → row child key ≡ added rest digits (row (get_or children place child)) key) → (key : List ℕ) → row new key ≡ added (symbol ∷ rest) digits (row old) key
added_at old new places children child place symbol rest digits is inner [] = row-nil new ∙ is.digits_kept ∙ sym (row-nil old)
added_at old new places children child place symbol rest digits is inner (next ∷ key) =
    let table : Option Node → List ℕ = λ o. unwrap_or (option_map (λ below. row below key) o) [] in
    elim (changed_child places children child place next is.within) [
      | inl (here, changed) ↦
          let same : symbol ≡ next = places_apart places (length children) symbol next is.packed is.known (omega (arith, is.placed, is.within)) (here ∙ is.placed) in
          let test : nat_eq symbol next ≡ true = grind (arith, nat_tests) in
          let before : row (get_or children place child) key ≡ row old (next ∷ key) = child_row old new places children child place symbol is key ∙ ap (λ s. row old (s ∷ key)) same in
          changed_row old new places children child place symbol is next key ∙ ap table changed ∙ inner key
          ∙ ap (λ d. if bytes_eq rest key then greater_digits d digits else d) before
          ∙ rw test refl
      | inr (other, same) ↦
          let differs : symbol ≢ next = λ e. other (ap (place_of places) (sym e) ∙ sym is.placed) in
          let test : nat_eq symbol next ≡ false = grind (arith, nat_tests) in
          changed_row old new places children child place symbol is next key ∙ ap table same ∙ is.rows next key ∙ sym (row-cons old next key)
          ∙ rw test refl
    ]

-- at a child: the symbols are those of a slice
pub added_child : (old new : Node) (places : List ℕ) (children : List Node) (child : Node) (place : ℕ) (symbols digits : List ℕ) → 0 < length symbols → IsChanged old new places children child place (get_or symbols 0 0)
    → row child ≡ added (take (length symbols - 1) (drop 1 symbols)) digits (row (get_or children place child)) → row new ≡ added symbols digits (row old)
added_child old new places children child place [] digits some is inner = absurd (omega arith)
added_child old new places children child place (symbol ∷ rest) digits some is inner =
    let all : take (length (symbol ∷ rest) - 1) (drop 1 (symbol ∷ rest)) ≡ rest = take_rest (symbol ∷ rest) 1 in
    fun_ext (added_at old new places children child place symbol rest digits is (λ key. ap (λ t. t key) inner ∙ ap (λ front. added front digits (row (get_or children place child)) key) all))
