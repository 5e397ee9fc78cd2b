-- What the calls that copy leave.
use Rattle.std.proofs.Common.{◌≡◌, ℕ, ◌≤◌, ◌<◌, length, List, [], ◌∷◌, Bool, true, false, cond, Some, None, Ok, Err, refl, sym, ◌∙◌, ap, subst, arith}
use Rattle.std.specs.Prelude.{Option, Result, nat_le, nat_eq, ◌||◌}
use Rattle.std.specs.Option.{option_and_then, option_map}
use Rattle.std.proofs.lemmas.Bool.Decides.{nat_tests}
use Rattle.std.proofs.lemmas.Bool.{le-leb as le_test, lt-leb as lt_test}
use Rattle.ntx_num.specs.Answer.{result_map}
use Rattle.ntx_num.specs.declared.answer.Fail.{Fail}
use Rattle.ntx_num.specs.declared.answer.Fail.TheVariants.{NoMemory, Is}
use Rattle.ntx_nodes.specs.Heap.{Heap}
use Rattle.ntx_nodes.specs.Walk.{plain_walk, tree_walk, inner_lists}
use Rattle.ntx_nodes.specs.Walker.{whole_walk}
use Rattle.ntx_nodes.specs.declared.kind.ListKind.TheVariants.{H}
use Rattle.ntx_nodes.specs.declared.kind.Way.TheVariants.{Plain}
use Rattle.ntx_nodes.specs.declared.node.Node.{Node}
use Rattle.ntx_nodes.specs.declared.trouble.Trouble.{Trouble}
use Rattle.ntx_nodes.proofs.Walks.{nat_eq_same}
use Rattle.ntx_nodes.proofs.Fuel.{passes}
use Rattle.ntx_nodes.proofs.WalkSteps.{whole_None}
use Rattle.ntx_lists.specs.Lists.{next_of}
use Rattle.ntx_lists.specs.Copies.{copy_before, list_copy, tree_copy, with_copies, moved_on, room, why_no_more, Left, copies_left, copy_list_step, copy_tree_step, Unfinished, Copies}
use Rattle.ntx_lists.specs.Copying.{LeavesCopies, CopiesNode}
use Rattle.ntx_lists.proofs.Trees.{split, walked, three_ended, tree_is, tree_live}
use Rattle.ntx_lists.proofs.CopyMaps.{Copier, no_copies}

-- ---- what is left
left_ok : {A : Type 0} (heap new : Heap) (copy : List ℕ → Copier) (names : List ℕ) (a b : A) → length names ≤ room heap → a ≡ b → new ≡ with_copies heap (copy names) names → copies_left heap copy a (Ok names) ≡ (Ok b, new)
left_ok {A} heap new copy names a b few same is =
    ap (λ t. cond {A = Left A} t (Ok a, with_copies heap (copy names) names) (Err (why_no_more heap), moved_on heap (room heap))) (le_test (length names) (room heap) few) ∙ (λ i. (Ok (same i), sym is i))

left_err : {A : Type 0} (heap new : Heap) (copy : List ℕ → Copier) (names : List ℕ) (a : A) (why : Trouble) → room heap < length names → why ≡ why_no_more heap → new ≡ moved_on heap (room heap) → copies_left heap copy a (Ok names) ≡ (Err why, new)
left_err {A} heap new copy names a why many why_is is =
    ap (λ t. cond {A = Left A} t (Ok a, with_copies heap (copy names) names) (Err (why_no_more heap), moved_on heap (room heap))) (lt_test (length names) (room heap) many) ∙ (λ i. (Err (sym why_is i), sym is i))

left_failed : {A : Type 0} (heap new : Heap) (copy : List ℕ → Copier) (names : List ℕ) (a : A) (e : Fail Trouble) (walk : Result (List ℕ) Trouble) → walk ≡ Ok names → LeavesCopies heap new (copy names) names (Err e) → Copies {A = A} (Err e) heap new walk (copies_left heap copy a walk)
left_failed heap new copy names a (Is why) walk is l = ap (copies_left heap copy a) is ∙ left_err heap new copy names a why l.0 l.1 l.2
left_failed heap new copy names a NoMemory walk is l = subst (Unfinished heap new) (sym is) l

left_done : {A : Type 0} (heap new : Heap) (copy : List ℕ → Copier) (names : List ℕ) (a b : A) (walk : Result (List ℕ) Trouble) → walk ≡ Ok names → a ≡ b → length names ≤ room heap → new ≡ with_copies heap (copy names) names → Copies (Ok b) heap new walk (copies_left heap copy a walk)
left_done heap new copy names a b walk is same few new_is = ap (copies_left heap copy a) is ∙ left_ok heap new copy names a b few same new_is

-- where the walk stops
walk_stopped : (r : Result (List ℕ) Trouble) (why : Trouble) → Err why ≡ result_map {B = Unit {0}} (λ _. tt) r → r ≡ Err why
walk_stopped (Ok names) why e = cc
walk_stopped (Err w) why e = let same : w ≡ why = cc in ap Err same

left_stopped : {A : Type 0} (heap h1 : Heap) (copy : List ℕ → Copier) (a : A) (walk : Result (List ℕ) Trouble) (why : Trouble) → Err why ≡ result_map {B = Unit {0}} (λ _. tt) walk → h1 ≡ heap → Copies {A = A} (Err (Is why)) heap h1 walk (copies_left heap copy a walk)
left_stopped heap h1 copy a walk why e same = ap (copies_left heap copy a) (walk_stopped walk why e) ∙ (λ i. (Err why, sym same i))

-- ---- a list
pub begins_there : (heap : Heap) (head : Option ℕ) (n : ℕ) (u : Unit {0}) → head ≡ Some n → Ok u ≡ result_map {B = Unit {0}} (λ _. tt) (plain_walk heap head) → Ok u ≡ result_map {B = Unit {0}} (λ _. tt) (plain_walk heap (Some n))
begins_there heap head n u here e = e ∙ ap (λ o. result_map {B = Unit {0}} (λ _. tt) (plain_walk heap o)) here

-- what copying the head, with all that the list reaches, leaves
record Leaves (heap new : Heap) (walk : Result (List ℕ) Trouble) (copy : List ℕ → Copier) (r : Result ℕ (Fail Trouble)) : Type 0 where
  names : List ℕ
  is : walk ≡ Ok names
  leaves : LeavesCopies heap new (copy names) names r

list_leaves : (heap h1 new : Heap) (n : ℕ) (next : Option ℕ) (u : Unit {0}) (r : Result ℕ (Fail Trouble)) → Ok u ≡ result_map {B = Unit {0}} (λ _. tt) (plain_walk heap (Some n)) → h1 ≡ heap → next ≡ next_of h1 n → CopiesNode h1 new n next r
    → Leaves heap new (plain_walk heap (Some n)) (list_copy heap.next) r
list_leaves heap h1 new n next u r e same next_is copies =
    let w = walked (plain_walk heap (Some n)) u e in
    let s = split heap [] n 0 w.0 w.1 in
    let live = (passes heap Plain [] n 0 H s.node s.here).live in
    let follows : s.node.fields.next ≡ next = sym (next_is ∙ ap (λ h. next_of h n) same ∙ ap (option_and_then (λ (node : Node). node.fields.next)) live) in
    let c = subst (λ h. CopiesNode h new n next r) same copies in
    record {
      names = w.0;
      is = w.1;
      leaves = c (list_copy heap.next w.0) s.node s.lists.one s.lists.two s.inside w.0 live (ap (λ o. copy_before heap.next w.0 o s.node) follows) (λ m other new. refl) s.lists.first s.lists.second s.lists.third
          (subst (λ o. whole_walk heap Plain s.inside o 0 H ≡ Ok w.0) follows s.after);
    }

pub list_done : (heap h1 new : Heap) (n first : ℕ) (next : Option ℕ) (u : Unit {0}) → Ok u ≡ result_map {B = Unit {0}} (λ _. tt) (plain_walk heap (Some n)) → h1 ≡ heap → next ≡ next_of h1 n → CopiesNode h1 new n next (Ok first)
    → Copies (Ok (Some first)) heap new (plain_walk heap (Some n)) (copy_list_step (Some n) heap)
list_done heap h1 new n first next u e same next_is copies =
    let l = list_leaves heap h1 new n next u (Ok first) e same next_is copies in
    left_done {A = Option ℕ} heap new (list_copy heap.next) l.names (Some heap.next) (Some first) (plain_walk heap (Some n)) l.is (ap Some (sym l.leaves.0)) l.leaves.1 l.leaves.2

pub list_failed : (heap h1 new : Heap) (n : ℕ) (next : Option ℕ) (u : Unit {0}) (why : Fail Trouble) → Ok u ≡ result_map {B = Unit {0}} (λ _. tt) (plain_walk heap (Some n)) → h1 ≡ heap → next ≡ next_of h1 n → CopiesNode h1 new n next (Err why)
    → Copies {A = Option ℕ} (Err why) heap new (plain_walk heap (Some n)) (copy_list_step (Some n) heap)
list_failed heap h1 new n next u why e same next_is copies =
    let l = list_leaves heap h1 new n next u (Err why) e same next_is copies in
    left_failed {A = Option ℕ} heap new (list_copy heap.next) l.names (Some heap.next) why (plain_walk heap (Some n)) l.is l.leaves

pub list_none : (heap h1 : Heap) → h1 ≡ heap → Copies {A = Option ℕ} (Ok None) heap h1 (plain_walk heap None) (copy_list_step None heap)
list_none heap h1 same = left_done {A = Option ℕ} heap h1 (list_copy heap.next) [] None None (plain_walk heap None) (whole_None heap Plain [] 0 H) refl (omega arith) (same ∙ sym (no_copies heap (list_copy heap.next [])))

pub list_stopped : (heap h1 : Heap) (head : Option ℕ) (why : Trouble) → Err why ≡ result_map {B = Unit {0}} (λ _. tt) (plain_walk heap head) → h1 ≡ heap → Copies {A = Option ℕ} (Err (Is why)) heap h1 (plain_walk heap head) (copy_list_step head heap)
list_stopped heap h1 head why e same = left_stopped {A = Option ℕ} heap h1 (list_copy heap.next) (option_map (λ _. heap.next) head) (plain_walk heap head) why e same

-- ---- a node with its inner lists
or_false : (a b : Bool) → (a || b) ≡ false → a ≡ false
or_false true b e = cc
or_false false b e = refl

tree_leaves : (heap h1 new : Heap) (n : ℕ) (u : Unit {0}) (r : Result ℕ (Fail Trouble)) → Ok u ≡ result_map {B = Unit {0}} (λ _. tt) (tree_walk heap n) → h1 ≡ heap → CopiesNode h1 new n None r → Leaves heap new (tree_walk heap n) (tree_copy n heap.next) r
tree_leaves heap h1 new n u r e same copies =
    let w = walked (tree_walk heap n) u e in
    let l = tree_live heap n w.0 w.1 in
    let ts = three_ended heap 0 (inner_lists l.0.fields.contents) (n ∷ []) w.0 (sym (tree_is heap n l.0 l.1) ∙ w.1) in
    let c = subst (λ h. CopiesNode h new n None r) same copies in
    record {
      names = w.0;
      is = w.1;
      leaves = c (tree_copy n heap.next w.0) l.0 ts.one ts.two w.0 w.0 l.1 (ap (λ t. copy_before heap.next w.0 (cond t None l.0.fields.next) l.0) (nat_eq_same n))
          (λ m other new. ap (λ t. copy_before heap.next w.0 (cond t None other.fields.next) other) (or_false (nat_eq m n) false new)) ts.first ts.second ts.third (whole_None heap Plain w.0 0 H);
    }

pub tree_done : (heap h1 new : Heap) (n first : ℕ) (u : Unit {0}) → Ok u ≡ result_map {B = Unit {0}} (λ _. tt) (tree_walk heap n) → h1 ≡ heap → CopiesNode h1 new n None (Ok first) → Copies (Ok first) heap new (tree_walk heap n) (copy_tree_step n heap)
tree_done heap h1 new n first u e same copies =
    let l = tree_leaves heap h1 new n u (Ok first) e same copies in
    left_done heap new (tree_copy n heap.next) l.names heap.next first (tree_walk heap n) l.is (sym l.leaves.0) l.leaves.1 l.leaves.2

pub tree_failed : (heap h1 new : Heap) (n : ℕ) (u : Unit {0}) (why : Fail Trouble) → Ok u ≡ result_map {B = Unit {0}} (λ _. tt) (tree_walk heap n) → h1 ≡ heap → CopiesNode h1 new n None (Err why) → Copies {A = ℕ} (Err why) heap new (tree_walk heap n) (copy_tree_step n heap)
tree_failed heap h1 new n u why e same copies =
    let l = tree_leaves heap h1 new n u (Err why) e same copies in
    left_failed heap new (tree_copy n heap.next) l.names heap.next why (tree_walk heap n) l.is l.leaves

pub tree_ends : (heap h1 new : Heap) (n : ℕ) (u : Unit {0}) (r : Result ℕ (Fail Trouble)) → Ok u ≡ result_map {B = Unit {0}} (λ _. tt) (tree_walk heap n) → h1 ≡ heap → CopiesNode h1 new n None r → Copies r heap new (tree_walk heap n) (copy_tree_step n heap)
tree_ends heap h1 new n u (Ok first) e same copies = tree_done heap h1 new n first u e same copies
tree_ends heap h1 new n u (Err why) e same copies = tree_failed heap h1 new n u why e same copies

pub tree_stopped : (heap h1 : Heap) (n : ℕ) (why : Trouble) → Err why ≡ result_map {B = Unit {0}} (λ _. tt) (tree_walk heap n) → h1 ≡ heap → Copies {A = ℕ} (Err (Is why)) heap h1 (tree_walk heap n) (copy_tree_step n heap)
tree_stopped heap h1 n why e same = left_stopped heap h1 (tree_copy n heap.next) heap.next (tree_walk heap n) why e same
