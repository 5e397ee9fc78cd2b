-- Walks by the inner lists of a node, and what leaves as they are freed.
use Rattle.std.proofs.Common.{◌≡◌, ℕ, zero, suc, ◌+◌, ◌-◌, ◌≤◌, ◌<◌, length, List, [], ◌∷◌, ◌++◌, Bool, true, false, cond, Some, None, Ok, Err, refl, sym, ◌∙◌, ap, subst, arith}
use Rattle.std.specs.Prelude.{Option, Result, not, nat_eq, ◌||◌, is_some}
use Rattle.std.specs.Ordering.{nat_cmp}
use Rattle.std.specs.Cmp.{nat_cmp_total, unsigned_tied}
use Rattle.std.specs.Option.{option_and_then}
use Rattle.std.specs.FinMap as map
use Rattle.std.specs.FinSet as set
use Rattle.ntx_num.specs.Answer.{result_map, result_and_then, StepsAtOnce}
use Rattle.ntx_nodes.specs.Heap.{Heap, Names}
use Rattle.ntx_nodes.specs.Steps.{of_found, visit_step, free_one_step}
use Rattle.std.proofs.lemmas.Bool.{leb-false}
use Rattle.ntx_nodes.specs.Walk.{is_reached, is_too_deep, max_depth, inner_lists, entered, node_reached, in_turn, enter, walk, fuel_of, plain_walk, tree_walk}
use Rattle.ntx_nodes.specs.Walker.{Marks, whole_walk, unvisited, WalksOn}
use Rattle.ntx_nodes.specs.declared.kind.ListKind.{ListKind}
use Rattle.ntx_nodes.specs.declared.kind.ListKind.TheVariants.{H}
use Rattle.ntx_nodes.specs.declared.kind.Way.TheVariants.{Plain}
use Rattle.ntx_nodes.specs.declared.fields.Contents.{Contents}
use Rattle.ntx_nodes.specs.declared.node.Node.{Node}
use Rattle.ntx_nodes.specs.declared.trouble.Trouble.{Trouble}
use Rattle.ntx_num.proofs.Answers.{same_Ok, mapped_Ok, went_Ok}
use Rattle.ntx_nodes.proofs.Oks.{at_Ok}
use Rattle.ntx_lists.proofs.Places.{one_mark}
use Rattle.ntx_nodes.proofs.Walks.{unvisited_less, failing-le, node_reached_Ok}
use Rattle.ntx_nodes.proofs.Fuel.{then_same, passes}
use Rattle.ntx_nodes.proofs.WalkSteps.{whole, whole_None, whole_Some}
use Rattle.ntx_lists.specs.Lists.{next_of}
use Rattle.ntx_lists.specs.Trees.{nodes_without, without, inner_of_found, inner_at, Frees, free_tree_step, flush_list_step}
use Rattle.ntx_nodes.specs.declared.inner.InnerLists.{InnerLists}

-- ---- the kind of a list makes no difference where kinds are not tested
kind_free : (heap : Heap) (fuel : ℕ) (r : List ℕ) (n : Option ℕ) (d : ℕ) (k j : ListKind) → walk heap Plain fuel r n d k ≡ walk heap Plain fuel r n d j
kind_free heap zero r n d k j = refl
kind_free heap (suc fuel) r None d k j = refl
kind_free heap (suc fuel) r (Some n) d k j =
    then_same {A = Node × List ℕ} (enter heap Plain (λ b to i l. walk heap Plain fuel b to i l) r n d k) (enter heap Plain (λ b to i l. walk heap Plain fuel b to i l) r n d j)
    (λ entry. walk heap Plain fuel entry.1 entry.0.fields.next d k) (λ entry. walk heap Plain fuel entry.1 entry.0.fields.next d j) refl (λ entry _. kind_free heap fuel entry.1 entry.0.fields.next d k j)

-- a list that does not lie too deep
pub not_deep : (depth : ℕ) → is_too_deep Plain depth ≡ false → depth ≤ max_depth
not_deep depth e = let less : depth < suc max_depth = leb-false (suc max_depth) depth e in omega arith

-- ---- the lists of a node one after another
abbrev pub Lister : Type 0
Lister = List ℕ → Option ℕ → ListKind → Result (List ℕ) Trouble

abbrev pub three_of : Lister → List ℕ → InnerLists → Result (List ℕ) Trouble
three_of f r i = result_and_then (f r i.first H) (λ a. result_and_then (f a i.second H) (λ b. f b i.third H))

lists_in_turn : (f : Lister) → ((r : List ℕ) (to : Option ℕ) (k j : ListKind) → f r to k ≡ f r to j) → (l : InnerLists) (r : List ℕ) → in_turn f r l ≡ three_of f r l
lists_in_turn f free l r =
    then_same (f r l.first l.kind) (f r l.first H) _ _ (free r l.first l.kind H) (λ a _. then_same (f a l.second l.kind) (f a l.second H) _ _ (free a l.second l.kind H) (λ b _. free b l.third l.kind H))

abbrev pub deeper : Heap → ℕ → Lister
deeper heap d r to k = whole_walk heap Plain r to (d + 1) k

pub lists_of : (heap : Heap) (d : ℕ) (c : Contents) (r : List ℕ) → in_turn (deeper heap d) r (inner_lists c) ≡ three_of (deeper heap d) r (inner_lists c)
lists_of heap d c r = lists_in_turn (deeper heap d) (λ b to k j. kind_free heap (fuel_of heap) b to (d + 1) k j) (inner_lists c) r

-- ---- a walk that ends well, node by node
pub record Three (heap : Heap) (d : ℕ) (i : InnerLists) (r names : List ℕ) : Type 0 where
  pub one : List ℕ
  pub two : List ℕ
  pub first : whole_walk heap Plain r i.first (d + 1) H ≡ Ok one
  pub second : whole_walk heap Plain one i.second (d + 1) H ≡ Ok two
  pub third : whole_walk heap Plain two i.third (d + 1) H ≡ Ok names

pub three_ended : (heap : Heap) (d : ℕ) (i : InnerLists) (r names : List ℕ) → three_of (deeper heap d) r i ≡ Ok names → Three heap d i r names
three_ended heap d i r names e =
    let f : Lister = deeper heap d in
    let a = went_Ok (λ a. result_and_then (f a i.second H) (λ b. f b i.third H)) (f r i.first H) names e in
    let b = went_Ok (λ b. f b i.third H) (f a.value i.second H) names a.gives in
    record { one = a.value; two = b.value; first = a.is; second = b.is; third = b.gives }

pub record Split (heap : Heap) (r : List ℕ) (n d : ℕ) (names : List ℕ) : Type 0 where
  pub node : Node
  pub here : node_reached heap Plain r n d H ≡ Ok node
  pub inside : List ℕ
  pub lists : Three heap d (inner_lists node.fields.contents) (r ++ n ∷ []) inside
  pub after : whole_walk heap Plain inside node.fields.next d H ≡ Ok names

pub split : (heap : Heap) (r : List ℕ) (n d : ℕ) (names : List ℕ) → whole_walk heap Plain r (Some n) d H ≡ Ok names → Split heap r n d names
split heap r n d names e =
    let w = went_Ok {A = Node × List ℕ} (λ entry. whole_walk heap Plain entry.1 entry.0.fields.next d H) (enter heap Plain (whole heap Plain) r n d H) names (sym (whole_Some heap Plain r n d H) ∙ e) in
    let v = went_Ok {B = Node × List ℕ} (λ node. result_map (λ names. (node, names)) (in_turn (deeper heap d) (r ++ n ∷ []) (entered Plain node.fields.contents))) (node_reached heap Plain r n d H) w.value w.is in
    let m = mapped_Ok {B = Node × List ℕ} (λ names. (v.value, names)) (in_turn (deeper heap d) (r ++ n ∷ []) (entered Plain v.value.fields.contents)) w.value v.gives in
    record {
      node = v.value;
      here = v.is;
      inside = m.value;
      lists = three_ended heap d (inner_lists v.value.fields.contents) (r ++ n ∷ []) m.value (sym (lists_of heap d v.value.fields.contents (r ++ n ∷ [])) ∙ m.is);
      after = subst (λ (p : Node × List ℕ). whole_walk heap Plain p.1 p.0.fields.next d H ≡ Ok names) (sym m.gives) w.gives;
    }

-- ---- what is left
without_last : (nodes : map.FinMap nat_cmp Node) (ns : List ℕ) (n : ℕ) → nodes_without nodes (ns ++ n ∷ []) ≡ map.remove (nodes_without nodes ns) n
without_last nodes [] n = refl
without_last nodes (m ∷ ms) n = without_last (map.remove nodes m) ms n

or_false : (a b : Bool) → (a || b) ≡ false → (a ≡ false) × (b ≡ false)
or_false true b e = cc
or_false false b e = (refl, e)

pub get_without : (nodes : map.FinMap nat_cmp Node) (ns : List ℕ) (n : ℕ) → is_reached ns n ≡ false → map.get (nodes_without nodes ns) n ≡ map.get nodes n
get_without nodes [] n e = refl
get_without nodes (m ∷ ms) n e =
    let p = or_false (nat_eq n m) (is_reached ms n) e in
    get_without (map.remove nodes m) ms n p.1 ∙ map.get-remove nat_cmp_total nodes m n ∙ ap (λ b. cond b None (map.get nodes n)) (unsigned_tied n m ∙ p.0)

-- ---- freeing on the way
-- from the head to a list that is left
abbrev pub FreesOn : Heap → Heap → Option ℕ → Option ℕ → ℕ → Type 0
FreesOn old new head at depth =
    (whole : Heap) (gone names : List ℕ) → old ≡ without whole gone → whole_walk whole Plain gone head depth H ≡ Ok names
    → (more : List ℕ) × (new ≡ without whole more) × (whole_walk whole Plain more at depth H ≡ Ok names)

pub frees_begun : (heap : Heap) (head : Option ℕ) (depth : ℕ) → FreesOn heap heap head head depth
frees_begun heap head depth whole gone names is e = (gone, is, e)

pub frees_ended : (old new : Heap) (head : Option ℕ) (depth : ℕ) → FreesOn old new head None depth → Frees old new head depth
frees_ended old new head depth frees whole gone names is e =
    let f = frees whole gone names is e in
    let same : f.0 ≡ names = same_Ok f.0 names (sym (whole_None whole Plain f.0 depth H) ∙ f.2) in
    f.1 ∙ ap (without whole) same

-- a live node that is freed
pub freed_is : (h h1 : Heap) (n : ℕ) (u : Unit {0}) → free_one_step n h ≡ Ok (u, h1) → (node : Node) × (map.get h.nodes n ≡ Some node) × (record h { nodes = map.remove h.nodes n } ≡ h1)
freed_is h h1 n u e =
    let a = at_Ok {A = Unit {0} × Heap} h n (λ _. Ok (tt, record h { nodes = map.remove h.nodes n })) (u, h1) e in
    (a.node, a.is, ap (λ p. p.1) (same_Ok _ _ a.gives))

is_there : (heap : Heap) (n : ℕ) (node : Node) → map.get heap.nodes n ≡ Some node → 0 < map.len heap.nodes
is_there heap n node live =
    let none : Names = set.empty in
    let less : unvisited heap (set.insert none n) < unvisited heap none = unvisited_less heap none n node live (set.contains-empty nat_cmp n) in
    let most : unvisited heap none ≤ length (map.entries heap.nodes) = failing-le (set.contains none) (map.entries heap.nodes) in
    let size : map.len heap.nodes ≡ length (map.entries heap.nodes) = map.len-entries heap.nodes in
    omega arith

len_case : (nodes : map.FinMap nat_cmp Node) (n : ℕ) → is_some (map.get nodes n) ≡ true → map.len (map.remove nodes n) ≡ map.len nodes - 1
len_case nodes n e = map.len-remove nat_cmp_total nodes n ∙ ap (λ b. cond b (map.len nodes - 1) (map.len nodes)) e

pub freed_less : (h h1 : Heap) (n : ℕ) (u : Unit {0}) → free_one_step n h ≡ Ok (u, h1) → map.len h1.nodes < map.len h.nodes
freed_less h h1 n u e =
    let f = freed_is h h1 n u e in
    let some : 0 < map.len h.nodes = is_there h n f.0 f.1 in
    let left : map.len (map.remove h.nodes n) ≡ map.len h.nodes - 1 = len_case h.nodes n (ap is_some f.1) in
    let same : map.len (map.remove h.nodes n) ≡ map.len h1.nodes = ap (λ (x : Heap). map.len x.nodes) f.2 in
    omega arith

-- a node that a walk comes to is there, where only what it reached before is gone
there : (whole h : Heap) (gone : List ℕ) (n depth : ℕ) (node : Node) → h ≡ without whole gone → node_reached whole Plain gone n depth H ≡ Ok node → map.get h.nodes n ≡ Some node
there whole h gone n depth node is here =
    let p = passes whole Plain gone n depth H node here in
    ap (λ (x : Heap). map.get x.nodes n) is ∙ get_without whole.nodes gone n p.new ∙ p.live

pub one_more : (whole h h1 : Heap) (gone : List ℕ) (n : ℕ) → h ≡ without whole gone → record h { nodes = map.remove h.nodes n } ≡ h1 → h1 ≡ without whole (gone ++ n ∷ [])
one_more whole h h1 gone n is e = sym e ∙ ap (λ (x : Heap). record x { nodes = map.remove x.nodes n }) is ∙ ap (λ nodes. record whole { nodes = nodes }) (sym (without_last whole.nodes gone n))

pub frees_more : (whole h h1 h2 h3 h4 : Heap) (gone inside : List ℕ) (n depth : ℕ) (node : Node) (lists : InnerLists) (u : Unit {0}) → h ≡ without whole gone → map.get h.nodes n ≡ Some node → Three whole depth (inner_lists node.fields.contents) (gone ++ n ∷ []) inside
    → lists ≡ inner_at h n → free_one_step n h ≡ Ok (u, h1) → Frees h1 h2 lists.first (depth + 1) → Frees h2 h3 lists.second (depth + 1) → Frees h3 h4 lists.third (depth + 1) → h4 ≡ without whole inside
frees_more whole h h1 h2 h3 h4 gone inside n depth node lists u is live ts lists_is e f1 f2 f3 =
    let l : inner_lists node.fields.contents ≡ lists = sym (lists_is ∙ ap inner_of_found live) in
    let s = subst (λ i. Three whole depth i (gone ++ n ∷ []) inside) l ts in
    let e1 = f1 whole (gone ++ n ∷ []) s.one (one_more whole h h1 gone n is (freed_is h h1 n u e).2) s.first in
    let e2 = f2 whole s.one s.two e1 s.second in
    f3 whole s.two inside e2 s.third

pub free_turn : (old h h1 h2 h3 h4 : Heap) (head at next : Option ℕ) (n depth : ℕ) (lists : InnerLists) (u : Unit {0}) → FreesOn old h head at depth → at ≡ Some n → lists ≡ inner_at h n → next ≡ next_of h n → free_one_step n h ≡ Ok (u, h1)
    → Frees h1 h2 lists.first (depth + 1) → Frees h2 h3 lists.second (depth + 1) → Frees h3 h4 lists.third (depth + 1) → FreesOn old h4 head next depth
free_turn old h h1 h2 h3 h4 head at next n depth lists u frees here lists_is next_is e f1 f2 f3 whole gone names is walks =
    let f = frees whole gone names is walks in
    let s = split whole f.0 n depth names (subst (λ o. whole_walk whole Plain f.0 o depth H ≡ Ok names) here f.2) in
    let live = there whole h f.0 n depth s.node f.1 s.here in
    let follows : s.node.fields.next ≡ next = sym (next_is ∙ ap (option_and_then (λ (node : Node). node.fields.next)) live) in (
      s.inside,
      frees_more whole h h1 h2 h3 h4 f.0 s.inside n depth s.node lists u f.1 live s.lists lists_is e f1 f2 f3,
      subst (λ o. whole_walk whole Plain s.inside o depth H ≡ Ok names) follows s.after,
    )

never : {X : Type 0} (h : Heap) (n : ℕ) (node : Node) (why : Trouble) → map.get h.nodes n ≡ Some node → free_one_step n h ≡ Err why → X
never h n node why live e =
    let done : free_one_step n h ≡ Ok (tt, record h { nodes = map.remove h.nodes n }) = ap (of_found {A = Unit {0} × Heap} n (λ _. Ok (tt, record h { nodes = map.remove h.nodes n }))) live in
    cc

pub free_refused : (old h new : Heap) (head at : Option ℕ) (n depth : ℕ) (why : Trouble) → FreesOn old h head at depth → at ≡ Some n → free_one_step n h ≡ Err why → Frees old new head depth
free_refused old h new head at n depth why frees here e whole gone names is walks =
    let f = frees whole gone names is walks in
    let s = split whole f.0 n depth names (subst (λ o. whole_walk whole Plain f.0 o depth H ≡ Ok names) here f.2) in
    never h n s.node why (there whole h f.0 n depth s.node f.1 s.here) e

-- ---- a node with its lists
second_of : (node : Node) (r : Result (List ℕ) Trouble) → result_map (λ (entry : Node × List ℕ). entry.1) (result_map {B = Node × List ℕ} (λ names. (node, names)) r) ≡ r
second_of node (Ok names) = refl
second_of node (Err why) = refl

pub tree_is : (heap : Heap) (n : ℕ) (node : Node) → map.get heap.nodes n ≡ Some node → tree_walk heap n ≡ three_of (deeper heap 0) (n ∷ []) (inner_lists node.fields.contents)
tree_is heap n node live =
    let f : Lister = deeper heap 0 in
    ap (λ x. result_map (λ (entry : Node × List ℕ). entry.1) (result_and_then x (λ (node : Node). result_map {B = Node × List ℕ} (λ names. (node, names)) (in_turn f (n ∷ []) (entered Plain node.fields.contents))))) (node_reached_Ok heap Plain [] n 0 H node live refl refl refl)
    ∙ second_of node (in_turn f (n ∷ []) (inner_lists node.fields.contents))
    ∙ lists_of heap 0 node.fields.contents (n ∷ [])

last_of_three : (heap : Heap) (v w : Names) (before : List ℕ) (to : Option ℕ) (r : Result (Unit {0}) Trouble) → Marks v before → WalksOn heap Plain to 1 H v w r → r ≡ result_map {B = Unit {0}} (λ _. tt) (whole_walk heap Plain before to 1 H)
last_of_three heap v w before to (Ok u) marks walks = sym (ap (result_map {B = Unit {0}} (λ _. tt)) (walks before marks).1)
last_of_three heap v w before to (Err why) marks walks = sym (ap (result_map {B = Unit {0}} (λ _. tt)) (walks before marks))

-- what stands when a walk has come to the node and looks at its lists
pub record Rooted (heap : Heap) (n : ℕ) (v : Names) (lists : InnerLists) : Type 0 where
  pub marks : Marks v (n ∷ [])
  pub is : tree_walk heap n ≡ three_of (deeper heap 0) (n ∷ []) lists

pub rooted : (heap h1 h2 : Heap) (n : ℕ) (v w : Names) (first : Bool) (lists : InnerLists) → h1 ≡ heap → h2 ≡ h1 → v ≡ set.empty → visit_step n h1 v ≡ Ok (first, w) → lists ≡ inner_at h2 n → Rooted heap n w lists
rooted heap h1 h2 n v w first lists e1 e2 e visits lists_is =
    let a = at_Ok {A = Bool × Names} h1 n (λ _. Ok (not (set.contains v n), set.insert v n)) (first, w) visits in
    let live : map.get heap.nodes n ≡ Some a.node = subst (λ (h : Heap). map.get h.nodes n ≡ Some a.node) e1 a.is in
    let l : inner_lists a.node.fields.contents ≡ lists = sym (lists_is ∙ ap (λ h. inner_at h n) (e2 ∙ e1) ∙ ap inner_of_found live) in
    record { marks = one_mark h1 n v w first e visits; is = tree_is heap n a.node live ∙ ap (three_of (deeper heap 0) (n ∷ [])) l }

pub tree_first : (heap h : Heap) (n : ℕ) (v w : Names) (lists : InnerLists) (why : Trouble) → Rooted heap n v lists → h ≡ heap → WalksOn h Plain lists.first 1 H v w (Err why) → Err why ≡ result_map {B = Unit {0}} (λ _. tt) (tree_walk heap n)
tree_first heap h n v w lists why r same walks =
    let f : Lister = deeper heap 0 in
    let e = subst (λ x. WalksOn x Plain lists.first 1 H v w (Err why)) same walks (n ∷ []) r.marks in
    sym (ap (result_map {B = Unit {0}} (λ _. tt)) (r.is ∙ ap (λ x. result_and_then x (λ a. result_and_then (f a lists.second H) (λ b. f b lists.third H))) e))

pub tree_second : (heap h k : Heap) (n : ℕ) (v w x : Names) (lists : InnerLists) (u : Unit {0}) (why : Trouble) → Rooted heap n v lists → h ≡ heap → WalksOn h Plain lists.first 1 H v w (Ok u) → k ≡ heap → WalksOn k Plain lists.second 1 H w x (Err why)
    → Err why ≡ result_map {B = Unit {0}} (λ _. tt) (tree_walk heap n)
tree_second heap h k n v w x lists u why r same walks same2 walks2 =
    let f : Lister = deeper heap 0 in
    let e = subst (λ y. WalksOn y Plain lists.first 1 H v w (Ok u)) same walks (n ∷ []) r.marks in
    let e2 = subst (λ y. WalksOn y Plain lists.second 1 H w x (Err why)) same2 walks2 e.0 e.2 in
    sym (ap (result_map {B = Unit {0}} (λ _. tt)) (r.is ∙ ap (λ x. result_and_then x (λ a. result_and_then (f a lists.second H) (λ b. f b lists.third H))) e.1 ∙ ap (λ x. result_and_then x (λ b. f b lists.third H)) e2))

pub tree_third : (heap h k l : Heap) (n : ℕ) (v w x y : Names) (lists : InnerLists) (u t : Unit {0}) (r : Result (Unit {0}) Trouble) → Rooted heap n v lists → h ≡ heap → WalksOn h Plain lists.first 1 H v w (Ok u) → k ≡ heap → WalksOn k Plain lists.second 1 H w x (Ok t)
    → l ≡ heap → WalksOn l Plain lists.third 1 H x y r → r ≡ result_map {B = Unit {0}} (λ _. tt) (tree_walk heap n)
tree_third heap h k l n v w x y lists u t r at same walks same2 walks2 same3 walks3 =
    let f : Lister = deeper heap 0 in
    let e = subst (λ z. WalksOn z Plain lists.first 1 H v w (Ok u)) same walks (n ∷ []) at.marks in
    let e2 = subst (λ z. WalksOn z Plain lists.second 1 H w x (Ok t)) same2 walks2 e.0 e.2 in
    last_of_three heap x y e2.0 lists.third r e2.2 (subst (λ z. WalksOn z Plain lists.third 1 H x y r) same3 walks3)
    ∙ sym (ap (result_map {B = Unit {0}} (λ _. tt)) (at.is ∙ ap (λ x. result_and_then x (λ a. result_and_then (f a lists.second H) (λ b. f b lists.third H))) e.1 ∙ ap (λ x. result_and_then x (λ b. f b lists.third H)) e2.1))

-- ---- freeing after a walk has ended
pub walked : (r : Result (List ℕ) Trouble) (u : Unit {0}) → Ok u ≡ result_map {B = Unit {0}} (λ _. tt) r → (names : List ℕ) × (r ≡ Ok names)
walked r u e = let m = mapped_Ok {B = Unit {0}} (λ _. tt) r u (sym e) in (m.value, m.is)

stopped : (heap : Heap) (r : Result (List ℕ) Trouble) (why : Trouble) → Err why ≡ result_map {B = Unit {0}} (λ _. tt) r → result_map {B = Unit {0} × Heap} (λ names. (tt, without heap names)) r ≡ Err why
stopped heap (Ok names) why e = cc
stopped heap (Err w) why e = let same : w ≡ why = cc in ap Err same

pub flush_refused : (heap h1 : Heap) (head : Option ℕ) (why : Trouble) → Err why ≡ result_map {B = Unit {0}} (λ _. tt) (plain_walk heap head) → h1 ≡ heap → StepsAtOnce {A = Unit {0}} (Err why) heap h1 (flush_list_step head heap)
flush_refused heap h1 head why e same = (stopped heap (plain_walk heap head) why e, same)

pub flush_done : (heap h1 h2 : Heap) (head : Option ℕ) (u : Unit {0}) → Ok u ≡ result_map {B = Unit {0}} (λ _. tt) (plain_walk heap head) → h1 ≡ heap → Frees h1 h2 head 0 → flush_list_step head heap ≡ Ok (tt, h2)
flush_done heap h1 h2 head u e same frees =
    let w = walked (plain_walk heap head) u e in
    ap (result_map {B = Unit {0} × Heap} (λ names. (tt, without heap names))) w.1 ∙ (λ i. Ok (tt, sym (frees heap [] w.0 same w.1) i))

pub free_tree_refused : (heap h1 : Heap) (n : ℕ) (why : Trouble) → Err why ≡ result_map {B = Unit {0}} (λ _. tt) (tree_walk heap n) → h1 ≡ heap → StepsAtOnce {A = Unit {0}} (Err why) heap h1 (free_tree_step n heap)
free_tree_refused heap h1 n why e same = (stopped heap (tree_walk heap n) why e, same)

pub tree_live : (heap : Heap) (n : ℕ) (names : List ℕ) → tree_walk heap n ≡ Ok names → (node : Node) × (map.get heap.nodes n ≡ Some node)
tree_live heap n names e =
    let f : Lister = deeper heap 0 in
    let m = mapped_Ok (λ (entry : Node × List ℕ). entry.1) (result_and_then (node_reached heap Plain [] n 0 H) (λ (node : Node). result_map {B = Node × List ℕ} (λ names. (node, names)) (in_turn f (n ∷ []) (entered Plain node.fields.contents)))) names e in
    let v = went_Ok {B = Node × List ℕ} (λ node. result_map (λ names. (node, names)) (in_turn f (n ∷ []) (entered Plain node.fields.contents))) (node_reached heap Plain [] n 0 H) m.value m.is in
    (v.value, (passes heap Plain [] n 0 H v.value v.is).live)

pub tree_not_freed : {X : Type 0} (heap h1 : Heap) (n : ℕ) (u : Unit {0}) (why : Trouble) → Ok u ≡ result_map {B = Unit {0}} (λ _. tt) (tree_walk heap n) → h1 ≡ heap → free_one_step n h1 ≡ Err why → X
tree_not_freed heap h1 n u why e same refused =
    let w = walked (tree_walk heap n) u e in
    let l = tree_live heap n w.0 w.1 in
    never heap n l.0 why l.1 (subst (λ h. free_one_step n h ≡ Err why) same refused)

pub free_tree_done : (heap h1 h2 h3 h4 h5 : Heap) (n : ℕ) (lists : InnerLists) (u t : Unit {0}) → Ok u ≡ result_map {B = Unit {0}} (λ _. tt) (tree_walk heap n) → h1 ≡ heap → lists ≡ inner_at h1 n → free_one_step n h1 ≡ Ok (t, h2)
    → Frees h2 h3 lists.first 1 → Frees h3 h4 lists.second 1 → Frees h4 h5 lists.third 1 → free_tree_step n heap ≡ Ok (tt, h5)
free_tree_done heap h1 h2 h3 h4 h5 n lists u t e same lists_is freed f1 f2 f3 =
    let w = walked (tree_walk heap n) u e in
    let l = tree_live heap n w.0 w.1 in
    let ts = three_ended heap 0 (inner_lists l.0.fields.contents) (n ∷ []) w.0 (sym (tree_is heap n l.0 l.1) ∙ w.1) in
    let live : map.get h1.nodes n ≡ Some l.0 = ap (λ (h : Heap). map.get h.nodes n) same ∙ l.1 in
    let left = frees_more heap h1 h2 h3 h4 h5 [] w.0 n 0 l.0 lists t same live ts lists_is freed f1 f2 f3 in
    ap (result_map {B = Unit {0} × Heap} (λ names. (tt, without heap names))) w.1 ∙ (λ i. Ok (tt, sym left i))
