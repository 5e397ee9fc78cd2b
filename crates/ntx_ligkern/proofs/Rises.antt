-- The next name never falls, and rises where a node is made.
use Rattle.std.proofs.Common.{◌≡◌, ℕ, ◌+◌, ◌≤◌, Bool, true, false, if◌then◌else◌, List, Some, None, Ok, Err, refl, ap, arith}
use Rattle.std.specs.Prelude.{Option, Result, nat_le}
use Rattle.std.specs.FinMap as map
use Rattle.ntx_num.specs.Dimension.{max_nodes}
use Rattle.ntx_num.specs.Answer.{result_map}
use Rattle.ntx_num.specs.Trace.{Trace, stays, stepped, on_ending, trace_and_then}
use Rattle.ntx_num.proofs.Answers.{same_Ok, mapped_Ok, not_taken}
use Rattle.ntx_nodes.specs.Heap.{Heap, name_limit}
use Rattle.ntx_nodes.specs.Steps.{of_found, put_fields, changed, next_name, making, copy_of, copy_one_step, free_one_step, set_step}
use Rattle.ntx_nodes.specs.declared.field.Field.{Field}
use Rattle.ntx_nodes.specs.declared.field.FieldValue.{FieldValue}
use Rattle.ntx_nodes.specs.declared.fields.Fields.{Fields}
use Rattle.ntx_nodes.specs.declared.node.Node.{Node}
use Rattle.ntx_nodes.specs.declared.trouble.Trouble.{Trouble}

-- where it ends well, the next name is at least so much higher
abbrev pub Rises : {A : Type 0} → ℕ → Trace Heap A Trouble → Heap → Type 0
Rises {A} more t heap = (a : A) → t.ending ≡ Ok a → heap.next + more ≤ t.last.next

pub rises_stays : {A : Type 0} (heap : Heap) (r : Result A Trouble) → Rises 0 (stays heap r) heap
rises_stays heap r a e = omega arith

rises_on : {A B : Type 0} (heap : Heap) (one two : ℕ) (earlier : List Heap) (last : Heap) (r : Result A Trouble) (f : A → Heap → Trace Heap B Trouble) → Rises one (record { earlier = earlier; last = last; ending = r }) heap → ((a : A) (h : Heap) → Rises two (f a h) h)
    → Rises (one + two) (on_ending earlier last r f) heap
rises_on heap one two earlier last (Err e) f h k b is = cc
rises_on heap one two earlier last (Ok a) f h k b is =
    let first : heap.next + one ≤ last.next = h a refl in
    let second : last.next + two ≤ (f a last).last.next = k a last b is in
    omega arith

pub rises_then : {A B : Type 0} (heap : Heap) (one two : ℕ) (t : Trace Heap A Trouble) (f : A → Heap → Trace Heap B Trouble) → Rises one t heap → ((a : A) (h : Heap) → Rises two (f a h) h) → Rises (one + two) (trace_and_then t f) heap
rises_then heap one two t f h k = rises_on heap one two t.earlier t.last t.ending f h k

pub rises_if : {A : Type 0} (heap : Heap) (more : ℕ) (b : Bool) (x y : Trace Heap A Trouble) → Rises more x heap → Rises more y heap → Rises more (if b then x else y) heap
rises_if heap more true x y p q = p
rises_if heap more false x y p q = q

-- ---- steps
rises_step : {A : Type 0} (heap : Heap) (more : ℕ) (r : Result (A × Heap) Trouble) → ((done : A × Heap) → r ≡ Ok done → heap.next + more ≤ done.1.next) → Rises more (stepped r heap) heap
rises_step heap more (Ok done) h a e = h done refl
rises_step heap more (Err why) h a e = cc

set_found : (heap : Heap) (n : ℕ) (f : Field) (v : FieldValue) (o : Option Node) (done : Unit {0} × Heap) → of_found n (λ node. result_map (λ fields. (tt, put_fields heap n node fields)) (changed heap node.fields f v)) o ≡ Ok done → heap.next + 0 ≤ done.1.next
set_found heap n f v None done e = cc
set_found heap n f v (Some node) done e =
    let m = mapped_Ok (λ (fields : Fields). (tt, put_fields heap n node fields)) (changed heap node.fields f v) done e in
    let same : heap.next ≡ done.1.next = ap (λ (p : Unit {0} × Heap). p.1.next) m.gives in
    omega arith

pub rises_set : (n : ℕ) (f : Field) (v : FieldValue) (heap : Heap) → Rises 0 (stepped (set_step n f v heap) heap) heap
rises_set n f v heap = rises_step heap 0 (set_step n f v heap) (λ done e. set_found heap n f v (map.get heap.nodes n) done e)

free_found : (heap : Heap) (n : ℕ) (o : Option Node) (done : Unit {0} × Heap) → of_found n (λ (_ : Node). Ok (tt, record heap { nodes = map.remove heap.nodes n })) o ≡ Ok done → heap.next + 0 ≤ done.1.next
free_found heap n None done e = cc
free_found heap n (Some node) done e =
    let same : heap.next ≡ done.1.next = ap (λ (p : Unit {0} × Heap). p.1.next) (same_Ok {E = Trouble} (tt, record heap { nodes = map.remove heap.nodes n }) done e) in
    omega arith

pub rises_free : (n : ℕ) (heap : Heap) → Rises 0 (stepped (free_one_step n heap) heap) heap
rises_free n heap = rises_step heap 0 (free_one_step n heap) (λ done e. free_found heap n (map.get heap.nodes n) done e)

making_rises : (heap : Heap) (node : Node) (done : ℕ × Heap) → making node heap ≡ Ok done → heap.next + 1 ≤ done.1.next
making_rises heap node done e =
    let m = mapped_Ok {B = ℕ × Heap} (λ k. (k, record { next = k + 1; nodes = map.insert heap.nodes k node; current = heap.current })) (next_name heap) done e in
    let full = not_taken (nat_le max_nodes (map.len heap.nodes)) _ _ m.value m.is in
    let out = not_taken (nat_le name_limit heap.next) _ _ m.value full.1 in
    let name : heap.next ≡ m.value = same_Ok {E = Trouble} heap.next m.value out.1 in
    let next : m.value + 1 ≡ done.1.next = ap (λ (p : ℕ × Heap). p.1.next) m.gives in
    omega arith

copy_found : (heap : Heap) (n : ℕ) (o : Option Node) (done : ℕ × Heap) → of_found n (λ node. making (copy_of node) heap) o ≡ Ok done → heap.next + 1 ≤ done.1.next
copy_found heap n None done e = cc
copy_found heap n (Some node) done e = making_rises heap (copy_of node) done e

pub rises_copy : (n : ℕ) (heap : Heap) → Rises 1 (stepped (copy_one_step n heap) heap) heap
rises_copy n heap = rises_step heap 1 (copy_one_step n heap) (λ done e. copy_found heap n (map.get heap.nodes n) done e)
