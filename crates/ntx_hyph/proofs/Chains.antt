-- A list as a chain of links, and the walk along it.
use Rattle.std.proofs.Common.{◌≡◌, ℕ, zero, suc, ◌<◌, List, [], ◌∷◌, ◌++◌, length, Bool, true, false, Some, None, Ok, Err, refl, sym, ◌∙◌, ap, subst, append_assoc, append-nil, inl, inr, arith}
use Rattle.std.specs.Prelude.{Option, Result, is_some, nat_eq}
use Rattle.std.specs.FinMap as map
use Rattle.std.proofs.lemmas.Bool.{eqb-true, or_cases}
use Rattle.ntx_num.proofs.Answers.{same_Some}
use Rattle.ntx_nodes.specs.Heap.{Heap}
use Rattle.ntx_nodes.specs.Walk.{is_reached, node_reached, fuel_of, flat_walk}
use Rattle.ntx_nodes.specs.Walker.{whole_walk}
use Rattle.ntx_nodes.specs.WalkLaws.{AreFresh}
use Rattle.ntx_nodes.specs.declared.kind.ListKind.TheVariants.{H}
use Rattle.ntx_nodes.specs.declared.kind.Way.TheVariants.{Flat}
use Rattle.ntx_nodes.specs.declared.node.Node.{Node}
use Rattle.ntx_nodes.specs.declared.trouble.Trouble.{Trouble}
use Rattle.ntx_nodes.proofs.Fuel.{passes, unreached, unreached_less, unreached_most}
use Rattle.ntx_nodes.proofs.Walks.{is_reached-append, node_reached_Ok}
use Rattle.ntx_nodes.proofs.WalkSteps.{whole_None, whole_refused}
use Rattle.ntx_num.proofs.Answers.{same_Ok}
use Rattle.ntx_hyph.proofs.FlatWalks.{flat_at}

-- these names and no more, each linked to the next
abbrev pub Chain : Heap → Option ℕ → List ℕ → Type 0
Chain heap head [] = head ≡ None
Chain heap head (n ∷ names) = (node : Node) × (head ≡ Some n) × (map.get heap.nodes n ≡ Some node) × Chain heap node.fields.next names

pub chain_later : (heap : Heap) (head : Option ℕ) (front names : List ℕ) → Chain heap head (front ++ names) → (from : Option ℕ) × Chain heap from names
chain_later heap head [] names c = (head, c)
chain_later heap head (n ∷ front) names c = chain_later heap c.0.fields.next front names c.3

-- ---- from a walk
record Chained (heap : Heap) (r : List ℕ) (head : Option ℕ) (names : List ℕ) : Type 0 where
  pub more : List ℕ
  pub is : names ≡ r ++ more
  pub chain : Chain heap head more

abbrev Below : Heap → ℕ → Type 0
Below heap u = (r : List ℕ) (head : Option ℕ) (names : List ℕ) → unreached heap r < u → whole_walk heap Flat r head 0 H ≡ Ok names → Chained heap r head names

chained_at : (heap : Heap) (u : ℕ) → Below heap u → (r : List ℕ) (n : ℕ) (names : List ℕ) (tested : Result Node Trouble) → unreached heap r < suc u → whole_walk heap Flat r (Some n) 0 H ≡ Ok names → node_reached heap Flat r n 0 H ≡ tested
    → Chained heap r (Some n) names
chained_at heap u below r n names (Err why) lt e is = let refused = whole_refused heap Flat r n 0 H why is in cc
chained_at heap u below r n names (Ok node) lt e is =
    let p = passes heap Flat r n 0 H node is in
    let less : unreached heap (r ++ n ∷ []) < unreached heap r = unreached_less heap r n node p.live p.new in
    let rest = below (r ++ n ∷ []) node.fields.next names (omega arith) (sym (flat_at heap r n node is) ∙ e) in
    record { more = n ∷ rest.more; is = rest.is ∙ append_assoc r (n ∷ []) rest.more; chain = (node, refl, p.live, rest.chain) }

chained : (heap : Heap) (u : ℕ) → Below heap u
chained heap zero r head names lt e = absurd (omega arith)
chained heap (suc u) r None names lt e = record { more = []; is = sym (same_Ok r names (sym (whole_None heap Flat r 0 H) ∙ e)) ∙ sym (append-nil r); chain = refl }
chained heap (suc u) r (Some n) names lt e = chained_at heap u (chained heap u) r n names (node_reached heap Flat r n 0 H) lt e refl

pub chain_of : (heap : Heap) (head : Option ℕ) (names : List ℕ) → flat_walk heap head ≡ Ok names → Chain heap head names
chain_of heap head names e = let c = chained heap (fuel_of heap) [] head names (unreached_most heap []) e in subst (Chain heap head) (sym c.is) c.chain

-- ---- no name twice, since there is one chain from a name
same_length : (heap : Heap) (head : Option ℕ) (a b : List ℕ) → Chain heap head a → Chain heap head b → length a ≡ length b
same_length heap head [] [] c d = refl
same_length heap head [] (n ∷ b) c d = let e = d.1 in cc
same_length heap head (m ∷ a) [] c d = let e = c.1 in cc
same_length heap head (m ∷ a) (n ∷ b) c d =
    let name : m ≡ n = same_Some m n (sym c.1 ∙ d.1) in
    let node : c.0 ≡ d.0 = same_Some c.0 d.0 (sym c.2 ∙ ap (map.get heap.nodes) name ∙ d.2) in
    ap suc (same_length heap d.0.fields.next a b (subst (λ (x : Node). Chain heap x.fields.next a) node c.3) d.3)

-- the chain from each name that was reached is longer than what is left
abbrev Longer : Heap → List ℕ → List ℕ → Type 0
Longer heap r names = (q : ℕ) → is_reached r q ≡ true → (more : List ℕ) × Chain heap (Some q) more × (length names < length more)

not_before : (heap : Heap) (r : List ℕ) (n : ℕ) (names : List ℕ) (b : Bool) → is_reached r n ≡ b → Longer heap r (n ∷ names) → Chain heap (Some n) (n ∷ names) → is_reached r n ≡ false
not_before heap r n names true e l c =
    let x = l n e in
    let same : length x.0 ≡ suc (length names) = same_length heap (Some n) x.0 (n ∷ names) x.1 c in
    let less : suc (length names) < length x.0 = x.2 in
    absurd (omega arith)
not_before heap r n names false e l c = e

longer_on : (heap : Heap) (r : List ℕ) (n : ℕ) (names : List ℕ) → Longer heap r (n ∷ names) → Chain heap (Some n) (n ∷ names) → Longer heap (r ++ n ∷ []) names
longer_on heap r n names l c q e =
    elim (or_cases (is_reached r q) (is_reached (n ∷ []) q) (sym (is_reached-append r (n ∷ []) q) ∙ e)) [
      | inl x ↦ (let y = l q x in let less : suc (length names) < length y.0 = y.2 in (y.0, y.1, omega arith))
      | inr x ↦ elim (or_cases (nat_eq q n) false x) [
        | inl same ↦ (n ∷ names, subst (λ k. Chain heap (Some k) (n ∷ names)) (sym (eqb-true q n same)) c, omega arith)
        | inr never ↦ cc
      ]
    ]

fresh_from : (heap : Heap) (r : List ℕ) (head : Option ℕ) (names : List ℕ) → Longer heap r names → Chain heap head names → AreFresh heap r names
fresh_from heap r head [] l c = tt
fresh_from heap r head (n ∷ names) l c =
    let d : Chain heap (Some n) (n ∷ names) = (c.0, refl, c.2, c.3) in
    (ap is_some c.2, not_before heap r n names (is_reached r n) refl l d, fresh_from heap (r ++ n ∷ []) c.0.fields.next names (longer_on heap r n names l d) c.3)

pub chain_fresh : (heap : Heap) (head : Option ℕ) (names : List ℕ) → Chain heap head names → AreFresh heap [] names
chain_fresh heap head names c = fresh_from heap [] head names (λ q e. cc) c

-- ---- to a walk
walks_from : (heap : Heap) (r : List ℕ) (head : Option ℕ) (names : List ℕ) → Chain heap head names → AreFresh heap r names → whole_walk heap Flat r head 0 H ≡ Ok (r ++ names)
walks_from heap r head [] c f = ap (λ h. whole_walk heap Flat r h 0 H) c ∙ whole_None heap Flat r 0 H ∙ ap Ok (sym (append-nil r))
walks_from heap r head (n ∷ names) c f =
    ap (λ h. whole_walk heap Flat r h 0 H) c.1 ∙ flat_at heap r n c.0 (node_reached_Ok heap Flat r n 0 H c.0 c.2 f.1 refl refl)
    ∙ walks_from heap (r ++ n ∷ []) c.0.fields.next names c.3 f.2 ∙ ap Ok (append_assoc r (n ∷ []) names)

pub chain_walks : (heap : Heap) (head : Option ℕ) (names : List ℕ) → Chain heap head names → flat_walk heap head ≡ Ok names
chain_walks heap head names c = walks_from heap [] head names c (chain_fresh heap head names c)
