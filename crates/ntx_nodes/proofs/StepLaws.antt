-- Each step of a lawful heap leaves a lawful heap.
use Rattle.std.proofs.Common.{◌≡◌, ℕ, ℤ, pos, ◌<◌, ◌≤◌, Some, None, Ok, Err, refl, sym, ◌∙◌, ap, subst, arith}
use Rattle.std.specs.Prelude.{Option, Result, IfSome}
use Rattle.std.specs.Ordering.{nat_cmp}
use Rattle.std.specs.FinMap as map
use Rattle.std.proofs.lemmas.Int.{ints}
use Rattle.ntx_num.specs.Answer.{result_map, Steps}
use Rattle.ntx_num.specs.declared.answer.Fail.{Fail}
use Rattle.ntx_num.specs.declared.answer.Fail.TheVariants.{NoMemory, Is}
use Rattle.ntx_nodes.specs.Fields.{kind_of, last_subtype, fresh, unlinked, with_field}
use Rattle.ntx_num.specs.Dimension.{IsDimension}
use Rattle.ntx_nodes.specs.Heap.{Attributes, Heap, IsLawfulNode, IsLawful, AreLawful}
use Rattle.ntx_nodes.specs.Steps.{of_found, at, new_node, copy_of, making, make_step, copy_one_step, free_one_step, linkable, changed, put_fields, put_attributes, with_glue_set, contents_with_ratio, with_ratio, with_attribute}
use Rattle.ntx_nodes.specs.Steps.{set_step, set_ratio_step, set_attr_step, unset_attr_step, same_attrs_step, set_current_step, unset_current_step, wear_current_step}
use Rattle.ntx_nodes.specs.declared.kind.Kind.{Kind}
use Rattle.ntx_nodes.specs.declared.kind.Kind.TheVariants as kind
use Rattle.ntx_nodes.specs.declared.field.Field.{Field}
use Rattle.ntx_nodes.specs.declared.field.FieldValue.{FieldValue}
use Rattle.ntx_nodes.specs.declared.field.FieldValue.TheVariants.{Number, Link}
use Rattle.ntx_nodes.specs.declared.contents.BoxFields.{BoxFields}
use Rattle.ntx_nodes.specs.declared.fields.Contents.{Contents}
use Rattle.ntx_nodes.specs.declared.fields.Contents.TheVariants as contents
use Rattle.ntx_nodes.specs.declared.fields.Fields.{Fields}
use Rattle.ntx_nodes.specs.declared.node.Node.{Node}
use Rattle.ntx_nodes.specs.declared.ratio.Ratio.{Ratio}
use Rattle.ntx_nodes.specs.declared.trouble.Trouble.{Trouble}
use Rattle.ntx_num.proofs.Answers.{same_Ok, same_Some, mapped_Ok, went_Ok}
use Rattle.ntx_nodes.proofs.Oks.{at_Ok}
use Rattle.ntx_nodes.proofs.Ranges.{IsGiven, IsLawfulBox, IsLawfulContents, IsLawfulFields}
use Rattle.ntx_nodes.proofs.Lawful.{IsGivenValue, with_field-lawful, fields_of_lawful, lawful_node, no_attributes, with_attribute-lawful, remove_attribute-lawful, put-lawful, making-lawful, remove-lawful, current-lawful}

-- ---- made nodes
zero : IsDimension (pos 0)
zero = (omega (arith, ints), omega (arith, ints))

nothing : (next : ℕ) → IsGiven next None
nothing next n e = cc

empty_box : (next : ℕ) → IsLawfulBox next (record { width = pos 0; height = pos 0; depth = pos 0; shift = pos 0; list = None; glue_sign = 0; glue_order = 0; glue_num = pos 0; glue_den = pos 1 })
empty_box next = record {
  width = zero;
  height = zero;
  depth = zero;
  shift = zero;
  list = nothing next;
  glue_sign = omega arith;
  glue_order = omega arith;
  glue_num = (omega (arith, ints), omega (arith, ints));
  glue_den = omega (arith, ints);
}

fresh_lawful : (next : ℕ) (k : Kind) → IsLawfulContents next (fresh k)
fresh_lawful next kind.Hlist = empty_box next
fresh_lawful next kind.Vlist = empty_box next
fresh_lawful next kind.Rule = (zero, zero, zero)
fresh_lawful next kind.Disc = (nothing next, nothing next, nothing next)
fresh_lawful next kind.Glue = (zero, zero, omega arith, zero, omega arith)
fresh_lawful next kind.Kern = zero
fresh_lawful next kind.Penalty = (omega (arith, ints), omega (arith, ints))
fresh_lawful next kind.Glyph = (omega arith, omega arith)

pub kind_of-fresh : (k : Kind) → kind_of (fresh k) ≡ k
kind_of-fresh kind.Hlist = refl
kind_of-fresh kind.Vlist = refl
kind_of-fresh kind.Rule = refl
kind_of-fresh kind.Disc = refl
kind_of-fresh kind.Glue = refl
kind_of-fresh kind.Kern = refl
kind_of-fresh kind.Penalty = refl
kind_of-fresh kind.Glyph = refl

new_node_lawful : (next : ℕ) (k : Kind) (subtype : ℕ) → subtype ≤ last_subtype k → IsLawfulNode next (new_node k subtype)
new_node_lawful next k subtype h =
    lawful_node next _ map.empty (record { subtype = subst (λ j. subtype ≤ last_subtype j) (sym (kind_of-fresh k)) h; link = nothing next; contents = fresh_lawful next k }) no_attributes

unlinked_lawful : (next : ℕ) (c : Contents) → IsLawfulContents next c → IsLawfulContents next (unlinked c)
unlinked_lawful next (contents.Hlist b) l = record { width = l.width; height = l.height; depth = l.depth; shift = l.shift; list = nothing next; glue_sign = l.glue_sign; glue_order = l.glue_order; glue_num = l.glue_num; glue_den = l.glue_den }
unlinked_lawful next (contents.Vlist b) l = record { width = l.width; height = l.height; depth = l.depth; shift = l.shift; list = nothing next; glue_sign = l.glue_sign; glue_order = l.glue_order; glue_num = l.glue_num; glue_den = l.glue_den }
unlinked_lawful next (contents.Disc d) l = (nothing next, nothing next, nothing next)
unlinked_lawful next (contents.Rule r) l = l
unlinked_lawful next (contents.Glue g) l = l
unlinked_lawful next (contents.Kern size) l = l
unlinked_lawful next (contents.Penalty cost) l = l
unlinked_lawful next (contents.Glyph g) l = l

pub kind_of-unlinked : (c : Contents) → kind_of (unlinked c) ≡ kind_of c
kind_of-unlinked (contents.Hlist b) = refl
kind_of-unlinked (contents.Vlist b) = refl
kind_of-unlinked (contents.Rule r) = refl
kind_of-unlinked (contents.Disc d) = refl
kind_of-unlinked (contents.Glue g) = refl
kind_of-unlinked (contents.Kern size) = refl
kind_of-unlinked (contents.Penalty cost) = refl
kind_of-unlinked (contents.Glyph g) = refl

copy_lawful : (next : ℕ) (node : Node) → IsLawfulNode next node → IsLawfulNode next (copy_of node)
copy_lawful next node l =
    let f = fields_of_lawful next node l in
    lawful_node next _ node.attributes (record { subtype = subst (λ k. node.fields.subtype ≤ last_subtype k) (sym (kind_of-unlinked node.fields.contents)) f.subtype; link = nothing next; contents = unlinked_lawful next node.fields.contents f.contents }) l.attributes

-- ---- steps
pub make_step-lawful : (heap : Heap) (k : Kind) (subtype : ℕ) (r : ℕ × Heap) → IsLawful heap → subtype ≤ last_subtype k → make_step k subtype heap ≡ Ok r → IsLawful r.1
make_step-lawful heap k subtype r l h e = making-lawful heap (new_node k subtype) r l (new_node_lawful heap.next k subtype h) e

pub copy_one_step-lawful : (heap : Heap) (n : ℕ) (r : ℕ × Heap) → IsLawful heap → copy_one_step n heap ≡ Ok r → IsLawful r.1
copy_one_step-lawful heap n r l e =
    let at = at_Ok heap n (λ node. making (copy_of node) heap) r e in
    making-lawful heap (copy_of at.node) r l (copy_lawful heap.next at.node (l.nodes n at.node at.is)) at.gives

-- the heap that a unit step leaves
left : (a b : Heap) (r : Unit {0} × Heap) → a ≡ b → ◌≡◌ {A = Result (Unit {0} × Heap) Trouble} (Ok (tt, b)) (Ok r) → IsLawful a → IsLawful r.1
left a b r is e l = let same : b ≡ r.1 = ap (λ p. p.1) (same_Ok (tt, b) r e) in subst IsLawful same (subst IsLawful is l)

pub free_one_step-lawful : (heap : Heap) (n : ℕ) (r : Unit {0} × Heap) → IsLawful heap → free_one_step n heap ≡ Ok r → IsLawful r.1
free_one_step-lawful heap n r l e =
    let at = at_Ok {A = Unit {0} × Heap} heap n (λ _. Ok (tt, record heap { nodes = map.remove heap.nodes n })) r e in
    left _ _ r refl at.gives (remove-lawful heap n l)

link_given : (heap : Heap) (v : FieldValue) (u : Unit {0}) → IsLawful heap → linkable heap v ≡ Ok u → IsGivenValue heap.next v
link_given heap (Number x) u l e = tt
link_given heap (Link None) u l e = nothing heap.next
link_given heap (Link (Some m)) u l e =
    let at = at_Ok heap m (λ _. Ok tt) u e in
    λ n is. subst (λ k. k < heap.next) (same_Some m n is) (l.names m at.node at.is)

-- new fields at a live node
put_fields-lawful : (heap : Heap) (n : ℕ) (node : Node) (fields : Fields) → IsLawful heap → map.get heap.nodes n ≡ Some node → IsLawfulFields heap.next fields → IsLawful (put_fields heap n node fields)
put_fields-lawful heap n node fields l at f = put-lawful heap n node _ l at (lawful_node heap.next fields node.attributes f (l.nodes n node at).attributes)

put_attributes-lawful : (heap : Heap) (n : ℕ) (node : Node) (a : Attributes) → IsLawful heap → map.get heap.nodes n ≡ Some node → AreLawful a → IsLawful (put_attributes heap n node a)
put_attributes-lawful heap n node a l at f = put-lawful heap n node _ l at (record { numbers = (l.nodes n node at).numbers; links = (l.nodes n node at).links; attributes = f })

pub set_step-lawful : (heap : Heap) (n : ℕ) (f : Field) (v : FieldValue) (r : Unit {0} × Heap) → IsLawful heap → set_step n f v heap ≡ Ok r → IsLawful r.1
set_step-lawful heap n f v r l e =
    let at = at_Ok {A = Unit {0} × Heap} heap n (λ node. result_map (λ fields. (tt, put_fields heap n node fields)) (changed heap node.fields f v)) r e in
    let m = mapped_Ok {B = Unit {0} × Heap} (λ fields. (tt, put_fields heap n at.node fields)) (changed heap at.node.fields f v) r at.gives in
    let went = went_Ok (λ written. result_map (λ _. written) (linkable heap v)) (with_field at.node.fields f v) m.value m.is in
    let linked = mapped_Ok (λ _. went.value) (linkable heap v) m.value went.gives in
    let new = with_field-lawful heap.next at.node.fields went.value f v (fields_of_lawful heap.next at.node (l.nodes n at.node at.is)) (link_given heap v linked.value l linked.is) went.is in
    subst IsLawful (ap (λ p. p.1) m.gives) (put_fields-lawful heap n at.node m.value l at.is (subst (IsLawfulFields heap.next) linked.gives new))

glue_set_lawful : (next : ℕ) (b : BoxFields) (sign order : ℕ) (r : Ratio) → IsLawfulBox next b → sign ≤ 2 → order ≤ 3 → IsLawfulBox next (with_glue_set b sign order r)
glue_set_lawful next b sign order r l s o = record {
  width = l.width;
  height = l.height;
  depth = l.depth;
  shift = l.shift;
  list = l.list;
  glue_sign = s;
  glue_order = o;
  glue_num = (r.above, r.below);
  glue_den = r.positive;
}

ratio_lawful : (next n sign order : ℕ) (r : Ratio) (c d : Contents) → IsLawfulContents next c → sign ≤ 2 → order ≤ 3 → contents_with_ratio n sign order r c ≡ Ok d → IsLawfulContents next d × (kind_of d ≡ kind_of c)
ratio_lawful next n sign order r (contents.Hlist b) d l s o e =
    let is : contents.Hlist (with_glue_set b sign order r) ≡ d = cc in (subst (IsLawfulContents next) is (glue_set_lawful next b sign order r l s o), sym (ap kind_of is))
ratio_lawful next n sign order r (contents.Vlist b) d l s o e =
    let is : contents.Vlist (with_glue_set b sign order r) ≡ d = cc in (subst (IsLawfulContents next) is (glue_set_lawful next b sign order r l s o), sym (ap kind_of is))
ratio_lawful next n sign order r _ d l s o e = cc

pub set_ratio_step-lawful : (heap : Heap) (n sign order : ℕ) (q : Ratio) (r : Unit {0} × Heap) → IsLawful heap → sign ≤ 2 → order ≤ 3 → set_ratio_step n sign order q heap ≡ Ok r → IsLawful r.1
set_ratio_step-lawful heap n sign order q r l s o e =
    let at = at_Ok {A = Unit {0} × Heap} heap n (λ node. result_map (λ fields. (tt, put_fields heap n node fields)) (with_ratio n sign order q node.fields)) r e in
    let m = mapped_Ok {B = Unit {0} × Heap} (λ fields. (tt, put_fields heap n at.node fields)) (with_ratio n sign order q at.node.fields) r at.gives in
    let c = mapped_Ok (λ d. record at.node.fields { contents = d }) (contents_with_ratio n sign order q at.node.fields.contents) m.value m.is in
    let f = fields_of_lawful heap.next at.node (l.nodes n at.node at.is) in
    let d = ratio_lawful heap.next n sign order q at.node.fields.contents c.value f.contents s o c.is in
    subst IsLawful (ap (λ p. p.1) m.gives) (put_fields-lawful heap n at.node m.value l at.is
    (subst (IsLawfulFields heap.next) c.gives (record { subtype = subst (λ k. at.node.fields.subtype ≤ last_subtype k) (sym d.1) f.subtype; link = f.link; contents = d.0 })))

pub set_attr_step-lawful : (heap : Heap) (n : ℕ) (id v : ℤ) (r : Unit {0} × Heap) → IsLawful heap → set_attr_step n id v heap ≡ Ok r → IsLawful r.1
set_attr_step-lawful heap n id v r l e =
    let at = at_Ok {A = Unit {0} × Heap} heap n (λ node. result_map (λ a. (tt, put_attributes heap n node a)) (with_attribute node.attributes id v)) r e in
    let m = mapped_Ok {B = Unit {0} × Heap} (λ a. (tt, put_attributes heap n at.node a)) (with_attribute at.node.attributes id v) r at.gives in
    subst IsLawful (ap (λ p. p.1) m.gives) (put_attributes-lawful heap n at.node m.value l at.is (with_attribute-lawful at.node.attributes m.value id v (l.nodes n at.node at.is).attributes m.is))

pub unset_attr_step-lawful : (heap : Heap) (n : ℕ) (id : ℤ) (r : Unit {0} × Heap) → IsLawful heap → unset_attr_step n id heap ≡ Ok r → IsLawful r.1
unset_attr_step-lawful heap n id r l e =
    let at = at_Ok {A = Unit {0} × Heap} heap n (λ node. Ok (tt, put_attributes heap n node (map.remove node.attributes id))) r e in
    left _ _ r refl at.gives (put_attributes-lawful heap n at.node (map.remove at.node.attributes id) l at.is (remove_attribute-lawful at.node.attributes id (l.nodes n at.node at.is).attributes))

pub same_attrs_step-lawful : (heap : Heap) (n from : ℕ) (r : Unit {0} × Heap) → IsLawful heap → same_attrs_step n from heap ≡ Ok r → IsLawful r.1
same_attrs_step-lawful heap n from r l e =
    let at_n = at_Ok {A = Unit {0} × Heap} heap n (λ node. at heap from (λ other. Ok (tt, put_attributes heap n node other.attributes))) r e in
    let other = at_Ok {A = Unit {0} × Heap} heap from (λ other. Ok (tt, put_attributes heap n at_n.node other.attributes)) r at_n.gives in
    left _ _ r refl other.gives (put_attributes-lawful heap n at_n.node other.node.attributes l at_n.is (l.nodes from other.node other.is).attributes)

pub set_current_step-lawful : (heap : Heap) (id v : ℤ) (r : Unit {0} × Heap) → IsLawful heap → set_current_step id v heap ≡ Ok r → IsLawful r.1
set_current_step-lawful heap id v r l e =
    let m = mapped_Ok {B = Unit {0} × Heap} (λ a. (tt, record heap { current = a })) (with_attribute heap.current id v) r e in
    subst IsLawful (ap (λ p. p.1) m.gives) (current-lawful heap m.value l (with_attribute-lawful heap.current m.value id v l.current m.is))

pub unset_current_step-lawful : (heap : Heap) (id : ℤ) (r : Unit {0} × Heap) → IsLawful heap → unset_current_step id heap ≡ Ok r → IsLawful r.1
unset_current_step-lawful heap id r l e = left _ _ r refl e (current-lawful heap (map.remove heap.current id) l (remove_attribute-lawful heap.current id l.current))

pub wear_current_step-lawful : (heap : Heap) (n : ℕ) (r : Unit {0} × Heap) → IsLawful heap → wear_current_step n heap ≡ Ok r → IsLawful r.1
wear_current_step-lawful heap n r l e =
    let at = at_Ok {A = Unit {0} × Heap} heap n (λ node. Ok (tt, put_attributes heap n node heap.current)) r e in
    left _ _ r refl at.gives (put_attributes-lawful heap n at.node heap.current l at.is l.current)

attributes_kept : (heap : Heap) (n : ℕ) (nodes : map.FinMap nat_cmp Node) (r : Result (Unit {0}) (Fail Trouble)) (change : Attributes → Result Attributes Trouble) (o : Option Node) → map.get heap.nodes n ≡ o
    → ((a b : Attributes) → AreLawful a → change a ≡ Ok b → AreLawful b) → IsLawful heap
    → Steps r heap.nodes nodes (of_found n (λ (node : Node). result_map {B = Unit {0} × map.FinMap nat_cmp Node} (λ b. (tt, map.insert heap.nodes n (record node { attributes = b }))) (change node.attributes)) o)
    → IsLawful (record heap { nodes = nodes })
attributes_kept heap n nodes (Ok u) change None at keeps l s = cc
attributes_kept heap n nodes (Ok u) change (Some node) at keeps l s =
    let m = mapped_Ok {B = Unit {0} × map.FinMap nat_cmp Node} (λ b. (tt, map.insert heap.nodes n (record node { attributes = b }))) (change node.attributes) (u, nodes) s in
    subst (λ (x : map.FinMap nat_cmp Node). IsLawful (record heap { nodes = x })) (ap (λ p. p.1) m.gives) (put_attributes-lawful heap n node m.value l at (keeps node.attributes m.value (l.nodes n node at).attributes m.is))
attributes_kept heap n nodes (Err (Is why)) change o at keeps l s = subst (λ (x : map.FinMap nat_cmp Node). IsLawful (record heap { nodes = x })) (sym s.1) l
attributes_kept heap n nodes (Err NoMemory) change o at keeps l s = subst (λ (x : map.FinMap nat_cmp Node). IsLawful (record heap { nodes = x })) (sym s) l

-- attributes of a node that may have been set,
pub set_attr-kept : (heap : Heap) (n : ℕ) (id v : ℤ) (nodes : map.FinMap nat_cmp Node) (r : Result (Unit {0}) (Fail Trouble)) → IsLawful heap
    → Steps r heap.nodes nodes (of_found n (λ (node : Node). result_map {B = Unit {0} × map.FinMap nat_cmp Node} (λ b. (tt, map.insert heap.nodes n (record node { attributes = b }))) (with_attribute node.attributes id v)) (map.get heap.nodes n))
    → IsLawful (record heap { nodes = nodes })
set_attr-kept heap n id v nodes r l s = attributes_kept heap n nodes r (λ a. with_attribute a id v) (map.get heap.nodes n) refl (λ a b lawful e. with_attribute-lawful a b id v lawful e) l s

-- or taken off,
pub unset_attr-kept : (heap : Heap) (n : ℕ) (id : ℤ) (nodes : map.FinMap nat_cmp Node) (r : Result (Unit {0}) (Fail Trouble)) → IsLawful heap
    → Steps r heap.nodes nodes (of_found n (λ (node : Node). Ok (tt, map.insert heap.nodes n (record node { attributes = map.remove node.attributes id }))) (map.get heap.nodes n))
    → IsLawful (record heap { nodes = nodes })
unset_attr-kept heap n id nodes r l s = attributes_kept heap n nodes r (λ a. Ok (map.remove a id)) (map.get heap.nodes n) refl (λ a b lawful e. subst AreLawful (same_Ok _ b e) (remove_attribute-lawful a id lawful)) l s

-- and current attributes that may have been set
pub set_current-kept : (heap : Heap) (new : Attributes) (id v : ℤ) (r : Result (Unit {0}) (Fail Trouble)) → IsLawful heap
    → Steps r heap.current new (result_map {B = Unit {0} × Attributes} (λ a. (tt, a)) (with_attribute heap.current id v)) → IsLawful (record heap { current = new })
set_current-kept heap new id v (Ok u) l e =
    let m = mapped_Ok {B = Unit {0} × Attributes} (λ a. (tt, a)) (with_attribute heap.current id v) (u, new) e in
    let same : m.value ≡ new = ap (λ p. p.1) m.gives in
    current-lawful heap new l (subst AreLawful same (with_attribute-lawful heap.current m.value id v l.current m.is))
set_current-kept heap new id v (Err (Is e)) l h = current-lawful heap new l (subst AreLawful (sym h.1) l.current)
set_current-kept heap new id v (Err NoMemory) l h = current-lawful heap new l (subst AreLawful (sym h) l.current)

-- ---- the plain heap's `set`, from the fields that it finds and writes
found_fields : (n : ℕ) (o : Option Node) (fields : Fields) → of_found n (λ (node : Node). Ok node.fields) o ≡ Ok fields → (node : Node) × (o ≡ Some node) × (node.fields ≡ fields)
found_fields n None fields e = cc
found_fields n (Some node) fields e = (node, refl, same_Ok node.fields fields e)

pub set_refused : (heap : Heap) (n : ℕ) (f : Field) (v : FieldValue) (fields : Fields) (why : Trouble) → of_found n (λ (node : Node). Ok node.fields) (map.get heap.nodes n) ≡ Ok fields
    → changed heap fields f v ≡ Err why → set_step n f v heap ≡ Err why
set_refused heap n f v fields why at e =
    let found = found_fields n (map.get heap.nodes n) fields at in
    ap (of_found n (λ node. result_map {B = Unit {0} × Heap} (λ written. (tt, put_fields heap n node written)) (changed heap node.fields f v))) found.1
    ∙ ap (λ g. result_map {B = Unit {0} × Heap} (λ written. (tt, put_fields heap n found.0 written)) (changed heap g f v)) found.2
    ∙ ap (result_map {B = Unit {0} × Heap} (λ written. (tt, put_fields heap n found.0 written))) e

pub set_done : (heap new : Heap) (n : ℕ) (f : Field) (v : FieldValue) (fields written : Fields) → of_found n (λ (node : Node). Ok node.fields) (map.get heap.nodes n) ≡ Ok fields
    → changed heap fields f v ≡ Ok written → IfSome (map.get heap.nodes n) (λ node. new.nodes ≡ map.insert heap.nodes n (record node { fields = written })) → new.next ≡ heap.next → new.current ≡ heap.current
    → set_step n f v heap ≡ Ok (tt, new)
set_done heap new n f v fields written at e puts next current =
    let found = found_fields n (map.get heap.nodes n) fields at in
    let put : new.nodes ≡ map.insert heap.nodes n (record { fields = written; attributes = found.0.attributes }) = subst (λ o. IfSome o (λ node. new.nodes ≡ map.insert heap.nodes n (record { fields = written; attributes = node.attributes }))) found.1 puts in
    ap (of_found n (λ node. result_map {B = Unit {0} × Heap} (λ w. (tt, put_fields heap n node w)) (changed heap node.fields f v))) found.1
    ∙ ap (λ g. result_map {B = Unit {0} × Heap} (λ w. (tt, put_fields heap n found.0 w)) (changed heap g f v)) found.2
    ∙ ap (result_map {B = Unit {0} × Heap} (λ w. (tt, put_fields heap n found.0 w))) e
    ∙ (let next' = sym next in let put' = sym put in let current' = sym current in λ i. Ok (tt, record { next = next' i; nodes = put' i; current = current' i }))
