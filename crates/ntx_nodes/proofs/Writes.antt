-- What writing into a node leaves, write by write.
use Rattle.std.proofs.Common.{◌≡◌, ℕ, ◌+◌, ◌<◌, List, [], ◌∷◌, length, drop, get_or, drop-cons, add-one, IsOk, Bool, true, false, cond, Some, None, Ok, Err, refl, sym, ◌∙◌, ap, subst}
use Rattle.std.specs.Prelude.{Option, Result, is_some}
use Rattle.std.specs.Ordering.{nat_cmp, eq_by_cmp}
use Rattle.std.specs.Cmp.{nat_cmp_total}
use Rattle.std.specs.FinMap as map
use Rattle.ntx_num.specs.Answer.{result_map, result_and_then}
use Rattle.ntx_nodes.specs.Fields.{with_field}
use Rattle.ntx_nodes.specs.Heap.{Heap, is_live}
use Rattle.ntx_nodes.specs.Steps.{of_found, put, linkable, changed, put_fields, set_step}
use Rattle.ntx_nodes.specs.Writing.{write_step}
use Rattle.ntx_nodes.specs.declared.field.Field.{Field}
use Rattle.ntx_nodes.specs.declared.field.FieldValue.{FieldValue}
use Rattle.ntx_nodes.specs.declared.field.FieldValue.TheVariants.{Number, Link}
use Rattle.ntx_nodes.specs.declared.fields.Fields.{Fields}
use Rattle.ntx_nodes.specs.declared.node.Node.{Node}
use Rattle.ntx_nodes.specs.declared.trouble.Trouble.{Trouble}
use Rattle.ntx_nodes.proofs.Tables.{insert_same}
use Rattle.ntx_nodes.proofs.Walks.{nat_eq_same}
use Rattle.std.specs.Cmp.{unsigned_tied}

-- ---- one name of a map
twice : {X : Type 0} (b : Bool) (x y z : Option X) → cond b x (cond b y z) ≡ cond b x z
twice true x y z = refl
twice false x y z = refl

some_cond : (b : Bool) (node : Node) (o : Option Node) → is_some o ≡ true → is_some (cond b (Some node) o) ≡ true
some_cond true node o h = refl
some_cond false node o h = h

found_live : (m : ℕ) (o : Option Node) → is_some o ≡ true → of_found {A = Unit {0}} m (λ _. Ok tt) o ≡ Ok tt
found_live m None h = cc
found_live m (Some node) h = refl

pub get-put : (m : map.FinMap nat_cmp Node) (n : ℕ) (node : Node) → map.get (map.insert m n node) n ≡ Some node
get-put m n node = map.get-insert nat_cmp_total m n node n ∙ ap (λ b. cond b (Some node) (map.get m n)) (unsigned_tied n n ∙ nat_eq_same n)

pub put_same : (heap : Heap) (n : ℕ) (node : Node) → map.get heap.nodes n ≡ Some node → put heap n node ≡ heap
put_same heap n node at = ap (λ (m : map.FinMap nat_cmp Node). record heap { nodes = m }) (insert_same heap.nodes n node at)

pub insert_again : (m : map.FinMap nat_cmp Node) (n : ℕ) (a b : Node) → map.insert (map.insert m n a) n b ≡ map.insert m n b
insert_again m n a b = map.same_map nat_cmp_total map.nat_cmp-IsAntisymmetric _ _ (λ q.
    map.get-insert nat_cmp_total (map.insert m n a) n b q
    ∙ ap (cond (eq_by_cmp nat_cmp q n) (Some b)) (map.get-insert nat_cmp_total m n a q)
    ∙ twice (eq_by_cmp nat_cmp q n) (Some b) (Some a) (map.get m q)
    ∙ sym (map.get-insert nat_cmp_total m n b q))

-- what was live stays so
pub live_put : (heap : Heap) (n : ℕ) (node : Node) (m : ℕ) → is_live heap m ≡ true → is_live (record heap { nodes = map.insert heap.nodes n node }) m ≡ true
live_put heap n node m h = ap is_some (map.get-insert nat_cmp_total heap.nodes n node m) ∙ some_cond (eq_by_cmp nat_cmp m n) node (map.get heap.nodes m) h

-- ---- writes
-- a link in a value leads to a live node
abbrev pub LiveValue : Heap → FieldValue → Type 0
LiveValue heap (Number x) = Unit {0}
LiveValue heap (Link to) = (m : ℕ) → to ≡ Some m → is_live heap m ≡ true

live_linkable : (heap : Heap) (v : FieldValue) → LiveValue heap v → linkable heap v ≡ Ok tt
live_linkable heap (Number x) h = refl
live_linkable heap (Link None) h = refl
live_linkable heap (Link (Some m)) h = found_live m (map.get heap.nodes m) (h m refl)

pub set_live : (heap : Heap) (n : ℕ) (node : Node) (f : Field) (v : FieldValue) (fields : Fields) → map.get heap.nodes n ≡ Some node → with_field node.fields f v ≡ Ok fields → LiveValue heap v
    → set_step n f v heap ≡ Ok (tt, put_fields heap n node fields)
set_live heap n node f v fields at is live =
    let links : linkable heap v ≡ Ok tt = live_linkable heap v live in
    let new : changed heap node.fields f v ≡ Ok fields = ap (λ x. result_and_then x (λ written. result_map (λ _. written) (linkable heap v))) is ∙ ap (result_map (λ _. fields)) links in
    ap (of_found {A = Unit {0} × Heap} n (λ node. result_map (λ fields. (tt, put_fields heap n node fields)) (changed heap node.fields f v))) at
    ∙ ap (result_map {B = Unit {0} × Heap} (λ fields. (tt, put_fields heap n node fields))) new

-- ---- one write after another
first_ok : {A B E : Type 0} (r : Result A E) (f : A → Result B E) → IsOk (result_and_then r f) → IsOk r
first_ok (Ok a) f h = refl
first_ok (Err e) f h = h

pub taken_off : {A : Type 0} (i : ℕ) (ws : List A) (w : A) → i < length ws → drop i ws ≡ get_or ws i w ∷ drop (i + 1) ws
taken_off i ws w lt = drop-cons ws i w lt ∙ ap (λ k. get_or ws i w ∷ drop k ws) (sym (add-one i))

-- of writes that all succeed the next one does,
pub next_write : (n i : ℕ) (ws : List (Field × FieldValue)) (heap begun : Heap) (w : Field × FieldValue) → i < length ws → write_step n (drop i ws) heap ≡ write_step n ws begun → IsOk (write_step n ws begun)
    → IsOk (set_step n (get_or ws i w).0 (get_or ws i w).1 heap)
next_write n i ws heap begun w lt left ok =
    let next : Field × FieldValue = get_or ws i w in
    first_ok (set_step n next.0 next.1 heap) (λ done. write_step n (drop (i + 1) ws) done.1)
    (subst (λ x. IsOk (write_step n x heap)) (taken_off i ws w lt) (subst IsOk (sym left) ok))

-- and the others are left
pub write_on : (n i : ℕ) (ws : List (Field × FieldValue)) (heap new begun : Heap) (w : Field × FieldValue) → i < length ws → write_step n (drop i ws) heap ≡ write_step n ws begun
    → set_step n (get_or ws i w).0 (get_or ws i w).1 heap ≡ Ok (tt, new) → write_step n (drop (i + 1) ws) new ≡ write_step n ws begun
write_on n i ws heap new begun w lt left is =
    sym (ap (λ x. write_step n x heap) (taken_off i ws w lt) ∙ ap (λ x. result_and_then x (λ done. write_step n (drop (i + 1) ws) done.1)) is) ∙ left
