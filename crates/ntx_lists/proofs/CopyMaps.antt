-- The nodes of a heap with copies, name by name, and how many they are.
use Rattle.std.proofs.Common.{◌≡◌, ℕ, zero, suc, ◌+◌, ◌-◌, ◌≤◌, ◌<◌, length, List, [], ◌∷◌, ◌++◌, Bool, true, false, cond, Some, None, refl, sym, ◌∙◌, ap, subst, arith}
use Rattle.std.specs.Prelude.{Option, is_some, nat_eq, ◌||◌}
use Rattle.std.specs.Ordering.{nat_cmp}
use Rattle.std.specs.Cmp.{nat_cmp_total, unsigned_tied}
use Rattle.std.specs.FinMap as map
use Rattle.std.proofs.lemmas.Bool.Decides.{nat_tests}
use Rattle.std.proofs.lemmas.Bool.{or_right}
use Rattle.ntx_nodes.specs.Heap.{Heap, IsLawful, is_live}
use Rattle.ntx_nodes.specs.Walk.{is_reached}
use Rattle.ntx_nodes.specs.declared.node.Node.{Node}
use Rattle.ntx_nodes.proofs.Walks.{nat_eq_same, is_reached-append}
use Rattle.ntx_lists.specs.Copies.{with_found, nodes_with, with_copies}
use Rattle.ntx_lists.specs.Copying.{AllLive}

abbrev pub Map : Type 0
Map = map.FinMap nat_cmp Node

abbrev pub Copier : Type 0
Copier = ℕ → Node → Node

-- ---- one entry more
pub get_put : (nodes : Map) (k : ℕ) (v : Node) (q : ℕ) → map.get (map.insert nodes k v) q ≡ cond (nat_eq q k) (Some v) (map.get nodes q)
get_put nodes k v q = map.get-insert nat_cmp_total nodes k v q ∙ ap (λ b. cond b (Some v) (map.get nodes q)) (unsigned_tied q k)

pub get_same : (nodes : Map) (k : ℕ) (v : Node) → map.get (map.insert nodes k v) k ≡ Some v
get_same nodes k v = get_put nodes k v k ∙ ap (λ b. cond b (Some v) (map.get nodes k)) (nat_eq_same k)

below_differs : (q k : ℕ) → q < k → nat_eq q k ≡ false
below_differs q k h = grind (arith, nat_tests)

above_differs : (q k : ℕ) → k < q → nat_eq q k ≡ false
above_differs q k h = grind (arith, nat_tests)

pub get_below : (nodes : Map) (k : ℕ) (v : Node) (q : ℕ) → q < k → map.get (map.insert nodes k v) q ≡ map.get nodes q
get_below nodes k v q h = get_put nodes k v q ∙ ap (λ b. cond b (Some v) (map.get nodes q)) (below_differs q k h)

pub get_above : (nodes : Map) (k : ℕ) (v : Node) (q : ℕ) → k < q → map.get (map.insert nodes k v) q ≡ map.get nodes q
get_above nodes k v q h = get_put nodes k v q ∙ ap (λ b. cond b (Some v) (map.get nodes q)) (above_differs q k h)

found_below : (at : ℕ) (copy : Node → Node) (nodes : Map) (o : Option Node) (q : ℕ) → q < at → map.get (with_found at copy nodes o) q ≡ map.get nodes q
found_below at copy nodes None q h = refl
found_below at copy nodes (Some node) q h = get_below nodes at (copy node) q h

found_above : (at : ℕ) (copy : Node → Node) (nodes : Map) (o : Option Node) (q : ℕ) → at < q → map.get (with_found at copy nodes o) q ≡ map.get nodes q
found_above at copy nodes None q h = refl
found_above at copy nodes (Some node) q h = get_above nodes at (copy node) q h

-- ---- below, above and at the copies
nodes_below : (old : Map) (copy : Copier) (first : ℕ) (names : List ℕ) (nodes : Map) (q : ℕ) → q < first → map.get (nodes_with old copy first names nodes) q ≡ map.get nodes q
nodes_below old copy first [] nodes q h = refl
nodes_below old copy first (n ∷ ns) nodes q h = nodes_below old copy (first + 1) ns _ q (omega arith) ∙ found_below first (copy n) nodes (map.get old n) q h

nodes_above : (old : Map) (copy : Copier) (first : ℕ) (names : List ℕ) (nodes : Map) (q : ℕ) → first + length names ≤ q → map.get (nodes_with old copy first names nodes) q ≡ map.get nodes q
nodes_above old copy first [] nodes q h = refl
nodes_above old copy first (n ∷ ns) nodes q h = nodes_above old copy (first + 1) ns _ q (omega arith) ∙ found_above first (copy n) nodes (map.get old n) q (omega arith)

nodes_at : (old : Map) (copy : Copier) (first : ℕ) (b : List ℕ) (n : ℕ) (r : List ℕ) (nodes : Map) (node : Node) (q : ℕ) → q ≡ first + length b → map.get old n ≡ Some node → map.get (nodes_with old copy first (b ++ n ∷ r) nodes) q ≡ Some (copy n node)
nodes_at old copy first [] n r nodes node q e live =
    let same : q ≡ first = omega arith in
    nodes_below old copy (first + 1) r _ q (omega arith) ∙ ap (λ o. map.get (with_found first (copy n) nodes o) q) live ∙ ap (map.get (map.insert nodes first (copy n node))) same ∙ get_same nodes first (copy n node)
nodes_at old copy first (m ∷ ms) n r nodes node q e live = nodes_at old copy (first + 1) ms n r _ node q (omega arith) live

nodes_more : (old : Map) (copy : Copier) (first : ℕ) (names : List ℕ) (n : ℕ) (nodes : Map) → nodes_with old copy first (names ++ n ∷ []) nodes ≡ with_found (first + length names) (copy n) (nodes_with old copy first names nodes) (map.get old n)
nodes_more old copy first [] n nodes = let same : first ≡ first + 0 = omega arith in ap (λ at. with_found at (copy n) nodes (map.get old n)) same
nodes_more old copy first (m ∷ ms) n nodes =
    let same : (first + 1) + length ms ≡ first + suc (length ms) = omega arith in
    nodes_more old copy (first + 1) ms n _ ∙ ap (λ at. with_found at (copy n) (nodes_with old copy (first + 1) ms (with_found first (copy m) nodes (map.get old m))) (map.get old n)) same

-- ---- the same of heaps
pub copies_below : (heap : Heap) (copy : Copier) (names : List ℕ) (q : ℕ) → q < heap.next → map.get (with_copies heap copy names).nodes q ≡ map.get heap.nodes q
copies_below heap copy names q h = nodes_below heap.nodes copy heap.next names heap.nodes q h

-- no node has a name that has not been given
pub not_given : (heap : Heap) (q : ℕ) → IsLawful heap → heap.next ≤ q → map.get heap.nodes q ≡ None
not_given heap q lawful h =
    elim (map.get heap.nodes q) as (λ o. map.get heap.nodes q ≡ o → o ≡ None) [
      | None ↦ λ _. refl
      | Some node ↦ λ e. let less : q < heap.next = lawful.names q node e in absurd (omega arith)
    ] refl

pub given : (heap : Heap) (n : ℕ) (node : Node) → IsLawful heap → map.get heap.nodes n ≡ Some node → n < heap.next
given heap n node lawful e = lawful.names n node e

pub copies_above : (heap : Heap) (copy : Copier) (names : List ℕ) (q : ℕ) → IsLawful heap → heap.next + length names ≤ q → map.get (with_copies heap copy names).nodes q ≡ None
copies_above heap copy names q lawful h = nodes_above heap.nodes copy heap.next names heap.nodes q h ∙ not_given heap q lawful (omega arith)

pub copy_at : (heap : Heap) (copy : Copier) (b : List ℕ) (n : ℕ) (r : List ℕ) (node : Node) (q : ℕ) → q ≡ heap.next + length b → map.get heap.nodes n ≡ Some node → map.get (with_copies heap copy (b ++ n ∷ r)).nodes q ≡ Some (copy n node)
copy_at heap copy b n r node q e live = nodes_at heap.nodes copy heap.next b n r heap.nodes node q e live

pub length_more : (ns : List ℕ) (n : ℕ) → length (ns ++ n ∷ []) ≡ length ns + 1
length_more [] n = refl
length_more (m ∷ ms) n = let e : length (ms ++ n ∷ []) ≡ length ms + 1 = length_more ms n in omega arith

-- a copy more
pub one_copy_more : (heap : Heap) (copy : Copier) (names : List ℕ) (n : ℕ) (node : Node) → map.get heap.nodes n ≡ Some node
    → record { next = (with_copies heap copy names).next + 1; nodes = map.insert (with_copies heap copy names).nodes (with_copies heap copy names).next (copy n node); current = heap.current } ≡ with_copies heap copy (names ++ n ∷ [])
one_copy_more heap copy names n node live =
    let longer : length (names ++ n ∷ []) ≡ length names + 1 = length_more names n in
    let next : (heap.next + length names) + 1 ≡ heap.next + length (names ++ n ∷ []) = omega arith in
    let nodes = sym (nodes_more heap.nodes copy heap.next names n heap.nodes ∙ ap (with_found (heap.next + length names) (copy n) (nodes_with heap.nodes copy heap.next names heap.nodes)) live) in
    λ i. record { next = next i; nodes = nodes i; current = heap.current }

pub no_copies : (heap : Heap) (copy : Copier) → with_copies heap copy [] ≡ heap
no_copies heap copy = let same : heap.next + 0 ≡ heap.next = omega arith in λ i. record { next = same i; nodes = heap.nodes; current = heap.current }

-- ---- how many there are
found_len : (at : ℕ) (copy : Node → Node) (nodes : Map) (o : Option Node) → map.get nodes at ≡ None → is_some o ≡ true → map.len (with_found at copy nodes o) ≡ map.len nodes + 1
found_len at copy nodes None new live = cc
found_len at copy nodes (Some node) new live = map.len-insert nat_cmp_total nodes at (copy node) ∙ ap (λ o. cond (is_some o) (map.len nodes) (map.len nodes + 1)) new

nodes_len : (old : Map) (copy : Copier) (first : ℕ) (names : List ℕ) (nodes : Map) → ((q : ℕ) → first ≤ q → map.get nodes q ≡ None) → ((n : ℕ) → is_reached names n ≡ true → is_some (map.get old n) ≡ true)
    → map.len (nodes_with old copy first names nodes) ≡ map.len nodes + length names
nodes_len old copy first [] nodes new live = omega arith
nodes_len old copy first (n ∷ ns) nodes new live =
    let here : is_some (map.get old n) ≡ true = live n (ap (λ b. b || is_reached ns n) (nat_eq_same n)) in
    let one : map.len (with_found first (copy n) nodes (map.get old n)) ≡ map.len nodes + 1 = found_len first (copy n) nodes (map.get old n) (new first (omega arith)) here in
    let rest : map.len (nodes_with old copy (first + 1) ns (with_found first (copy n) nodes (map.get old n))) ≡ map.len (with_found first (copy n) nodes (map.get old n)) + length ns =
    nodes_len old copy (first + 1) ns (with_found first (copy n) nodes (map.get old n))
    (λ q h. found_above first (copy n) nodes (map.get old n) q (omega arith) ∙ new q (omega arith))
    (λ m e. live m (or_right (nat_eq m n) (is_reached ns m) e)) in
    omega arith

pub copies_len : (heap : Heap) (copy : Copier) (names : List ℕ) → IsLawful heap → AllLive heap names → map.len (with_copies heap copy names).nodes ≡ map.len heap.nodes + length names
copies_len heap copy names lawful live = nodes_len heap.nodes copy heap.next names heap.nodes (λ q h. not_given heap q lawful h) live

-- ---- each copy is there
pub record Cut (names : List ℕ) (i : ℕ) : Type 0 where
  pub before : List ℕ
  pub n : ℕ
  pub rest : List ℕ
  pub is : names ≡ before ++ n ∷ rest
  pub at : length before ≡ i

pub cut : (names : List ℕ) (i : ℕ) → i < length names → Cut names i
cut [] i h = absurd (omega arith)
cut (n ∷ ns) zero h = record { before = []; n = n; rest = ns; is = refl; at = refl }
cut (n ∷ ns) (suc i) h =
    let c = cut ns i (omega arith) in
    record { before = n ∷ c.before; n = c.n; rest = c.rest; is = ap (λ x. n ∷ x) c.is; at = ap suc c.at }

pub reached_there : (b : List ℕ) (n : ℕ) (r : List ℕ) → is_reached (b ++ n ∷ r) n ≡ true
reached_there b n r = is_reached-append b (n ∷ r) n ∙ or_right (is_reached b n) (nat_eq n n || is_reached r n) (ap (λ x. x || is_reached r n) (nat_eq_same n))

pub some_node : (o : Option Node) → is_some o ≡ true → (node : Node) × (o ≡ Some node)
some_node None e = cc
some_node (Some node) e = (node, refl)

pub copies_stand : (heap : Heap) (copy : Copier) (names : List ℕ) (q : ℕ) → AllLive heap names → heap.next ≤ q → q < heap.next + length names → is_live (with_copies heap copy names) q ≡ true
copies_stand heap copy names q live low high =
    let c = cut names (q - heap.next) (omega arith) in
    let s = some_node (map.get heap.nodes c.n) (live c.n (subst (λ x. is_reached x c.n ≡ true) (sym c.is) (reached_there c.before c.n c.rest))) in
    let at : length c.before ≡ q - heap.next = c.at in
    ap is_some (ap (λ x. map.get (with_copies heap copy x).nodes q) c.is ∙ copy_at heap copy c.before c.n c.rest s.0 q (omega arith) s.1)
