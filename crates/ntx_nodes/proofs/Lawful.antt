-- Every step keeps a heap lawful.
use Rattle.std.proofs.Common.{◌≡◌, ℕ, ℤ, ◌+◌, ◌-◌, ◌^◌, ◌≤◌, ◌<◌, Bool, true, false, cond, not, ◌&&◌, Some, None, Ok, refl, sym, ◌∙◌, ap, subst, inl, inr, arith}
use Rattle.std.specs.Prelude.{Option, nat_le, ◌⊎◌}
use Rattle.std.specs.declared.cmp.Ordering.{Ordering}
use Rattle.std.proofs.lemmas.Bool.{leb-false, not-false}
use Rattle.std.specs.Ordering.{nat_cmp, int_cmp, eq_by_cmp}
use Rattle.std.specs.Cmp.{IsTotalOrder, Equal-is, nat_cmp_total, int_cmp_total}
use Rattle.std.specs.FinMap as map
use Rattle.ntx_nodes.specs.Fields.{dimension, order, number_to, link, box_with, rule_with, disc_with, glue_with, kern_with, penalty_with, glyph_with, contents_with, with_field, kind_of, last_subtype}
use Rattle.ntx_num.specs.Dimension.{IsWithin, IsDimension, max_nodes}
use Rattle.ntx_nodes.specs.Heap.{Attributes, Heap, IsLawfulNode, IsLawful, AreLawful, is_attribute, max_attributes}
use Rattle.ntx_nodes.proofs.Ranges.{Below, IsGiven, IsLawfulBox, IsLawfulContents, IsLawfulFields, fields_numbers, fields_links, fit_fields}
use Rattle.ntx_nodes.specs.Heap.{name_limit}
use Rattle.ntx_nodes.specs.Steps.{put, next_name, making, with_attribute, empty_heap}
use Rattle.ntx_nodes.specs.declared.field.Field.{Field}
use Rattle.ntx_nodes.specs.declared.field.Field.TheVariants as field
use Rattle.ntx_nodes.specs.declared.field.FieldValue.{FieldValue}
use Rattle.ntx_nodes.specs.declared.field.FieldValue.TheVariants.{Number, Link}
use Rattle.ntx_nodes.specs.declared.contents.BoxFields.{BoxFields}
use Rattle.ntx_nodes.specs.declared.contents.RuleFields.{RuleFields}
use Rattle.ntx_nodes.specs.declared.contents.DiscFields.{DiscFields}
use Rattle.ntx_nodes.specs.declared.contents.GlueFields.{GlueFields}
use Rattle.ntx_nodes.specs.declared.contents.GlyphFields.{GlyphFields}
use Rattle.ntx_nodes.specs.declared.fields.Contents.{Contents}
use Rattle.ntx_nodes.specs.declared.fields.Contents.TheVariants as contents
use Rattle.ntx_nodes.specs.declared.fields.Fields.{Fields}
use Rattle.ntx_nodes.specs.declared.node.Node.{Node}
use Rattle.ntx_num.proofs.Answers.{mapped_Ok, not_taken}
use Rattle.ntx_nodes.proofs.Oks.{number_within_Ok, number_to_Ok, link_Ok}

-- a value whose link, if it is one, has been given
abbrev pub IsGivenValue : ℕ → FieldValue → Type 0
IsGivenValue next (Number x) = Unit {0}
IsGivenValue next (Link to) = IsGiven next to

given_link : (next : ℕ) (v : FieldValue) (to : Option ℕ) → IsGivenValue next v → link v ≡ Ok to → IsGiven next to
given_link next v to given e = subst (λ w. IsGivenValue next w) (link_Ok v to e) given

dimension_Ok : (v : FieldValue) (x : ℤ) → dimension v ≡ Ok x → IsDimension x
dimension_Ok v x e = number_within_Ok _ v x e

-- ---- each kind
pub box_with-lawful : (next : ℕ) (b c : BoxFields) (f : Field) (v : FieldValue) → IsLawfulBox next b → IsGivenValue next v → box_with b f v ≡ Ok c → IsLawfulBox next c
box_with-lawful next b c field.Width v l given e =
    let m = mapped_Ok (λ x. record b { width = x }) (dimension v) c e in
    subst (λ d. IsLawfulBox next d) m.gives (record { width = dimension_Ok v m.value m.is; height = l.height; depth = l.depth; shift = l.shift; list = l.list; glue_sign = l.glue_sign; glue_order = l.glue_order; glue_num = l.glue_num; glue_den = l.glue_den })
box_with-lawful next b c field.Height v l given e =
    let m = mapped_Ok (λ x. record b { height = x }) (dimension v) c e in
    subst (λ d. IsLawfulBox next d) m.gives (record { width = l.width; height = dimension_Ok v m.value m.is; depth = l.depth; shift = l.shift; list = l.list; glue_sign = l.glue_sign; glue_order = l.glue_order; glue_num = l.glue_num; glue_den = l.glue_den })
box_with-lawful next b c field.Depth v l given e =
    let m = mapped_Ok (λ x. record b { depth = x }) (dimension v) c e in
    subst (λ d. IsLawfulBox next d) m.gives (record { width = l.width; height = l.height; depth = dimension_Ok v m.value m.is; shift = l.shift; list = l.list; glue_sign = l.glue_sign; glue_order = l.glue_order; glue_num = l.glue_num; glue_den = l.glue_den })
box_with-lawful next b c field.Shift v l given e =
    let m = mapped_Ok (λ x. record b { shift = x }) (dimension v) c e in
    subst (λ d. IsLawfulBox next d) m.gives (record { width = l.width; height = l.height; depth = l.depth; shift = dimension_Ok v m.value m.is; list = l.list; glue_sign = l.glue_sign; glue_order = l.glue_order; glue_num = l.glue_num; glue_den = l.glue_den })
box_with-lawful next b c field.List v l given e =
    let m = mapped_Ok (λ to. record b { list = to }) (link v) c e in
    subst (λ d. IsLawfulBox next d) m.gives (record { width = l.width; height = l.height; depth = l.depth; shift = l.shift; list = given_link next v m.value given m.is; glue_sign = l.glue_sign; glue_order = l.glue_order; glue_num = l.glue_num; glue_den = l.glue_den })
box_with-lawful next b c _ v l given e = cc

abbrev IsLawfulRule : RuleFields → Type 0
IsLawfulRule r = IsDimension r.width × IsDimension r.height × IsDimension r.depth

rule_with-lawful : (r s : RuleFields) (f : Field) (v : FieldValue) → IsLawfulRule r → rule_with r f v ≡ Ok s → IsLawfulRule s
rule_with-lawful r s field.Width v l e =
    let m = mapped_Ok (λ x. record r { width = x }) (dimension v) s e in
    subst IsLawfulRule m.gives (dimension_Ok v m.value m.is, l.1, l.2)
rule_with-lawful r s field.Height v l e =
    let m = mapped_Ok (λ x. record r { height = x }) (dimension v) s e in
    subst IsLawfulRule m.gives (l.0, dimension_Ok v m.value m.is, l.2)
rule_with-lawful r s field.Depth v l e =
    let m = mapped_Ok (λ x. record r { depth = x }) (dimension v) s e in
    subst IsLawfulRule m.gives (l.0, l.1, dimension_Ok v m.value m.is)
rule_with-lawful r s _ v l e = cc

abbrev IsLawfulDisc : ℕ → DiscFields → Type 0
IsLawfulDisc next d = IsGiven next d.pre × IsGiven next d.post × IsGiven next d.replace

disc_with-lawful : (next : ℕ) (d c : DiscFields) (f : Field) (v : FieldValue) → IsLawfulDisc next d → IsGivenValue next v → disc_with d f v ≡ Ok c → IsLawfulDisc next c
disc_with-lawful next d c field.Pre v l given e =
    let m = mapped_Ok (λ to. record d { pre = to }) (link v) c e in
    subst (IsLawfulDisc next) m.gives (given_link next v m.value given m.is, l.1, l.2)
disc_with-lawful next d c field.Post v l given e =
    let m = mapped_Ok (λ to. record d { post = to }) (link v) c e in
    subst (IsLawfulDisc next) m.gives (l.0, given_link next v m.value given m.is, l.2)
disc_with-lawful next d c field.Replace v l given e =
    let m = mapped_Ok (λ to. record d { replace = to }) (link v) c e in
    subst (IsLawfulDisc next) m.gives (l.0, l.1, given_link next v m.value given m.is)
disc_with-lawful next d c _ v l given e = cc

abbrev IsLawfulGlue : GlueFields → Type 0
IsLawfulGlue g = IsDimension g.width × IsDimension g.stretch × (g.stretch_order ≤ 3) × IsDimension g.shrink × (g.shrink_order ≤ 3)

glue_with-lawful : (g c : GlueFields) (f : Field) (v : FieldValue) → IsLawfulGlue g → glue_with g f v ≡ Ok c → IsLawfulGlue c
glue_with-lawful g c field.Width v l e =
    let m = mapped_Ok (λ x. record g { width = x }) (dimension v) c e in
    subst IsLawfulGlue m.gives (dimension_Ok v m.value m.is, l.1, l.2, l.3, l.4)
glue_with-lawful g c field.Stretch v l e =
    let m = mapped_Ok (λ x. record g { stretch = x }) (dimension v) c e in
    subst IsLawfulGlue m.gives (l.0, dimension_Ok v m.value m.is, l.2, l.3, l.4)
glue_with-lawful g c field.StretchOrder v l e =
    let m = mapped_Ok (λ n. record g { stretch_order = n }) (order v) c e in
    subst IsLawfulGlue m.gives (l.0, l.1, number_to_Ok 3 v m.value m.is, l.3, l.4)
glue_with-lawful g c field.Shrink v l e =
    let m = mapped_Ok (λ x. record g { shrink = x }) (dimension v) c e in
    subst IsLawfulGlue m.gives (l.0, l.1, l.2, dimension_Ok v m.value m.is, l.4)
glue_with-lawful g c field.ShrinkOrder v l e =
    let m = mapped_Ok (λ n. record g { shrink_order = n }) (order v) c e in
    subst IsLawfulGlue m.gives (l.0, l.1, l.2, l.3, number_to_Ok 3 v m.value m.is)
glue_with-lawful g c _ v l e = cc

kern_with-lawful : (x : ℤ) (f : Field) (v : FieldValue) → kern_with f v ≡ Ok x → IsDimension x
kern_with-lawful x field.Kern v e = dimension_Ok v x e
kern_with-lawful x _ v e = cc

penalty_with-lawful : (x : ℤ) (f : Field) (v : FieldValue) → penalty_with f v ≡ Ok x → IsWithin (2 ^ 31 - 1) x
penalty_with-lawful x field.Penalty v e = number_within_Ok _ v x e
penalty_with-lawful x _ v e = cc

abbrev IsLawfulGlyph : GlyphFields → Type 0
IsLawfulGlyph g = (g.char ≤ 255) × (g.font ≤ 63)

glyph_with-lawful : (g c : GlyphFields) (f : Field) (v : FieldValue) → IsLawfulGlyph g → glyph_with g f v ≡ Ok c → IsLawfulGlyph c
glyph_with-lawful g c field.Char v l e =
    let m = mapped_Ok (λ n. record g { char = n }) (number_to 255 v) c e in
    subst IsLawfulGlyph m.gives (number_to_Ok 255 v m.value m.is, l.1)
glyph_with-lawful g c field.Font v l e =
    let m = mapped_Ok (λ n. record g { font = n }) (number_to 63 v) c e in
    subst IsLawfulGlyph m.gives (l.0, number_to_Ok 63 v m.value m.is)
glyph_with-lawful g c _ v l e = cc

-- ---- all kinds
pub contents_with-lawful : (next : ℕ) (c d : Contents) (f : Field) (v : FieldValue) → IsLawfulContents next c → IsGivenValue next v → contents_with c f v ≡ Ok d → IsLawfulContents next d
contents_with-lawful next (contents.Hlist b) d f v l given e =
    let m = mapped_Ok contents.Hlist (box_with b f v) d e in subst (IsLawfulContents next) m.gives (box_with-lawful next b m.value f v l given m.is)
contents_with-lawful next (contents.Vlist b) d f v l given e =
    let m = mapped_Ok contents.Vlist (box_with b f v) d e in subst (IsLawfulContents next) m.gives (box_with-lawful next b m.value f v l given m.is)
contents_with-lawful next (contents.Rule r) d f v l given e =
    let m = mapped_Ok contents.Rule (rule_with r f v) d e in subst (IsLawfulContents next) m.gives (rule_with-lawful r m.value f v l m.is)
contents_with-lawful next (contents.Disc c) d f v l given e =
    let m = mapped_Ok contents.Disc (disc_with c f v) d e in subst (IsLawfulContents next) m.gives (disc_with-lawful next c m.value f v l given m.is)
contents_with-lawful next (contents.Glue g) d f v l given e =
    let m = mapped_Ok contents.Glue (glue_with g f v) d e in subst (IsLawfulContents next) m.gives (glue_with-lawful g m.value f v l m.is)
contents_with-lawful next (contents.Kern size) d f v l given e =
    let m = mapped_Ok contents.Kern (kern_with f v) d e in subst (IsLawfulContents next) m.gives (kern_with-lawful m.value f v m.is)
contents_with-lawful next (contents.Penalty cost) d f v l given e =
    let m = mapped_Ok contents.Penalty (penalty_with f v) d e in subst (IsLawfulContents next) m.gives (penalty_with-lawful m.value f v m.is)
contents_with-lawful next (contents.Glyph g) d f v l given e =
    let m = mapped_Ok contents.Glyph (glyph_with g f v) d e in subst (IsLawfulContents next) m.gives (glyph_with-lawful g m.value f v l m.is)

-- the kind stays
pub contents_with-kind : (c d : Contents) (f : Field) (v : FieldValue) → contents_with c f v ≡ Ok d → kind_of d ≡ kind_of c
contents_with-kind (contents.Hlist b) d f v e = let m = mapped_Ok contents.Hlist (box_with b f v) d e in sym (ap kind_of m.gives)
contents_with-kind (contents.Vlist b) d f v e = let m = mapped_Ok contents.Vlist (box_with b f v) d e in sym (ap kind_of m.gives)
contents_with-kind (contents.Rule r) d f v e = let m = mapped_Ok contents.Rule (rule_with r f v) d e in sym (ap kind_of m.gives)
contents_with-kind (contents.Disc c) d f v e = let m = mapped_Ok contents.Disc (disc_with c f v) d e in sym (ap kind_of m.gives)
contents_with-kind (contents.Glue g) d f v e = let m = mapped_Ok contents.Glue (glue_with g f v) d e in sym (ap kind_of m.gives)
contents_with-kind (contents.Kern size) d f v e = let m = mapped_Ok contents.Kern (kern_with f v) d e in sym (ap kind_of m.gives)
contents_with-kind (contents.Penalty cost) d f v e = let m = mapped_Ok contents.Penalty (penalty_with f v) d e in sym (ap kind_of m.gives)
contents_with-kind (contents.Glyph g) d f v e = let m = mapped_Ok contents.Glyph (glyph_with g f v) d e in sym (ap kind_of m.gives)

-- ---- the fields of a node
pub with_field-lawful : (next : ℕ) (fields changed : Fields) (f : Field) (v : FieldValue) → IsLawfulFields next fields → IsGivenValue next v → with_field fields f v ≡ Ok changed → IsLawfulFields next changed
with_field-lawful next fields changed field.Subtype v l given e =
    let m = mapped_Ok (λ k. record fields { subtype = k }) (number_to (last_subtype (kind_of fields.contents)) v) changed e in
    subst (IsLawfulFields next) m.gives (record { subtype = number_to_Ok _ v m.value m.is; link = l.link; contents = l.contents })
with_field-lawful next fields changed field.Next v l given e =
    let m = mapped_Ok (λ to. record fields { next = to }) (link v) changed e in
    subst (IsLawfulFields next) m.gives (record { subtype = l.subtype; link = given_link next v m.value given m.is; contents = l.contents })
with_field-lawful next fields changed f v l given e =
    let m = mapped_Ok (λ c. record fields { contents = c }) (contents_with fields.contents f v) changed e in
    subst (IsLawfulFields next) m.gives (record {
      subtype = subst (λ k. fields.subtype ≤ last_subtype k) (sym (contents_with-kind fields.contents m.value f v m.is)) l.subtype;
      link = l.link;
      contents = contents_with-lawful next fields.contents m.value f v l.contents given m.is;
    })

-- ---- a node
pub fields_of_lawful : (next : ℕ) (node : Node) → IsLawfulNode next node → IsLawfulFields next node.fields
fields_of_lawful next node l = fit_fields (Below next) node.fields l.numbers l.links

pub lawful_node : (next : ℕ) (fields : Fields) (attributes : Attributes) → IsLawfulFields next fields → AreLawful attributes → IsLawfulNode next (record { fields = fields; attributes = attributes })
lawful_node next fields attributes l a = record { numbers = fields_numbers (Below next) fields l; links = fields_links (Below next) fields l; attributes = a }

pub later_node : (next later : ℕ) (node : Node) → next ≤ later → IsLawfulNode next node → IsLawfulNode later node
later_node next later node h l = record { numbers = l.numbers; links = λ f n e. let below : n < next = l.links f n e in omega arith; attributes = l.attributes }

-- ---- attributes
pub no_attributes : AreLawful map.empty
no_attributes = record { few = rw (map.len-empty int_cmp ℤ) (omega arith); entries = λ id v e. let none = map.get-empty {X = ℤ} int_cmp id in cc }

few_after : (b : Bool) (n : ℕ) → n ≤ max_attributes → (not b && nat_le max_attributes n) ≡ false → cond b n (n + 1) ≤ max_attributes
few_after true n h e = h
few_after false n h e = let less : n < max_attributes = leb-false max_attributes n e in omega arith

one_more_le : (b : Bool) (n : ℕ) → n < max_nodes → cond b n (n + 1) ≤ max_nodes
one_more_le true n h = omega arith
one_more_le false n h = omega arith

-- what a map has after an insertion
inserted_Some : {K X : Type 0} {R : K → K → Ordering} (o : IsTotalOrder R) (same : map.IsAntisymmetric R) (m : map.FinMap R X) (k : K) (v : X) (q : K) (x : X) → map.get (map.insert m k v) q ≡ Some x → ((q ≡ k) × (v ≡ x)) ⊎ (map.get m q ≡ Some x)
inserted_Some {X = X} {R = R} o same m k v q x e =
    elim (eq_by_cmp R q k) as (λ b. eq_by_cmp R q k ≡ b → cond b (Some v) (map.get m q) ≡ Some x → ((q ≡ k) × (v ≡ x)) ⊎ (map.get m q ≡ Some x)) [
      | true ↦ λ t e. inl (same q k ((Equal-is (R q k)).0 t), cc)
      | false ↦ λ t e. inr e
    ] refl (sym (map.get-insert o m k v q) ∙ e)

removed_Some : {K X : Type 0} {R : K → K → Ordering} (o : IsTotalOrder R) (m : map.FinMap R X) (k : K) (q : K) (x : X) → map.get (map.remove m k) q ≡ Some x → map.get m q ≡ Some x
removed_Some {X = X} {R = R} o m k q x e =
    elim (eq_by_cmp R q k) as (λ b. cond b None (map.get m q) ≡ Some x → map.get m q ≡ Some x) [ true ↦ λ e. cc | false ↦ λ e. e ] (sym (map.get-remove o m k q) ∙ e)

len_removed : {K X : Type 0} {R : K → K → Ordering} (o : IsTotalOrder R) (m : map.FinMap R X) (k : K) → map.len (map.remove m k) ≤ map.len m
len_removed o m k = rw (map.len-remove o m k) (elim (map.contains_key m k) as (λ b. cond b (map.len m - 1) (map.len m) ≤ map.len m) [ true ↦ omega arith | false ↦ omega arith ])

pub with_attribute-lawful : (a b : Attributes) (id v : ℤ) → AreLawful a → with_attribute a id v ≡ Ok b → AreLawful b
with_attribute-lawful a b id v l e =
    let ranged = not_taken (not (is_attribute id v)) _ _ b e in
    let room = not_taken (not (map.contains_key a id) && nat_le max_attributes (map.len a)) _ _ b ranged.1 in
    let is : map.insert a id v ≡ b = cc in
    subst AreLawful is (record {
      few = rw (map.len-insert int_cmp_total a id v) (few_after (map.contains_key a id) (map.len a) l.few room.0);
      entries = λ q x at. elim (inserted_Some int_cmp_total map.int_cmp-IsAntisymmetric a id v q x at) [
        | inl here ↦ subst (λ i. is_attribute i x ≡ true) (sym here.0) (subst (λ y. is_attribute id y ≡ true) here.1 (not-false (is_attribute id v) ranged.0))
        | inr there ↦ l.entries q x there
      ];
    })

pub remove_attribute-lawful : (a : Attributes) (id : ℤ) → AreLawful a → AreLawful (map.remove a id)
remove_attribute-lawful a id l = record {
  few = let less : map.len (map.remove a id) ≤ map.len a = len_removed int_cmp_total a id in let most : map.len a ≤ max_attributes = l.few in omega arith;
  entries = λ q x at. l.entries q x (removed_Some int_cmp_total a id q x at);
}

-- ---- a heap
pub put-lawful : (heap : Heap) (n : ℕ) (old node : Node) → IsLawful heap → map.get heap.nodes n ≡ Some old → IsLawfulNode heap.next node → IsLawful (put heap n node)
put-lawful heap n old node l live new = record {
  next = l.next;
  few = rw (map.len-insert nat_cmp_total heap.nodes n node, live) l.few;
  names = λ q x at. elim (inserted_Some nat_cmp_total map.nat_cmp-IsAntisymmetric heap.nodes n node q x at) [
    | inl here ↦ subst (λ i. i < heap.next) (sym here.0) (l.names n old live)
    | inr there ↦ l.names q x there
  ];
  nodes = λ q x at. elim (inserted_Some nat_cmp_total map.nat_cmp-IsAntisymmetric heap.nodes n node q x at) [
    | inl here ↦ subst (IsLawfulNode heap.next) here.1 new
    | inr there ↦ l.nodes q x there
  ];
  current = l.current;
}

pub making-lawful : (heap : Heap) (node : Node) (r : ℕ × Heap) → IsLawful heap → IsLawfulNode heap.next node → making node heap ≡ Ok r → IsLawful r.1
making-lawful heap node r l new e =
    let made : ℕ → Heap = λ n. record { next = n + 1; nodes = map.insert heap.nodes n node; current = heap.current } in
    let m = mapped_Ok (λ n. (n, made n)) (next_name heap) r e in
    let few = not_taken (nat_le max_nodes (map.len heap.nodes)) _ _ m.value m.is in
    let left = not_taken (nat_le name_limit heap.next) _ _ m.value few.1 in
    let room : map.len heap.nodes < max_nodes = leb-false max_nodes (map.len heap.nodes) few.0 in
    let names : heap.next < name_limit = leb-false name_limit heap.next left.0 in
    let named : heap.next ≡ m.value = cc in
    let is : made heap.next ≡ r.1 = ap made named ∙ ap (λ p. p.1) m.gives in
    subst IsLawful is (record {
      next = omega arith;
      few = rw (map.len-insert nat_cmp_total heap.nodes heap.next node) (one_more_le (map.contains_key heap.nodes heap.next) (map.len heap.nodes) room);
      names = λ q x at. elim (inserted_Some nat_cmp_total map.nat_cmp-IsAntisymmetric heap.nodes heap.next node q x at) [
        | inl here ↦ (let same : q ≡ heap.next = here.0 in omega arith)
        | inr there ↦ (let below : q < heap.next = l.names q x there in omega arith)
      ];
      nodes = λ q x at. elim (inserted_Some nat_cmp_total map.nat_cmp-IsAntisymmetric heap.nodes heap.next node q x at) [
        | inl here ↦ later_node heap.next (heap.next + 1) x (omega arith) (subst (IsLawfulNode heap.next) here.1 new)
        | inr there ↦ later_node heap.next (heap.next + 1) x (omega arith) (l.nodes q x there)
      ];
      current = l.current;
    })

pub remove-lawful : (heap : Heap) (n : ℕ) → IsLawful heap → IsLawful (record heap { nodes = map.remove heap.nodes n })
remove-lawful heap n l = record {
  next = l.next;
  few = let less : map.len (map.remove heap.nodes n) ≤ map.len heap.nodes = len_removed nat_cmp_total heap.nodes n in let most : map.len heap.nodes ≤ max_nodes = l.few in omega arith;
  names = λ q x at. l.names q x (removed_Some nat_cmp_total heap.nodes n q x at);
  nodes = λ q x at. l.nodes q x (removed_Some nat_cmp_total heap.nodes n q x at);
  current = l.current;
}

pub current-lawful : (heap : Heap) (a : Attributes) → IsLawful heap → AreLawful a → IsLawful (record heap { current = a })
current-lawful heap a l lawful = record { next = l.next; few = l.few; names = l.names; nodes = l.nodes; current = lawful }

pub empty_heap-lawful : (first : ℕ) → first ≤ name_limit → IsLawful (empty_heap first)
empty_heap-lawful first h = record {
  next = h;
  few = rw (map.len-empty nat_cmp Node) (omega arith);
  names = λ n node e. let none = map.get-empty {X = Node} nat_cmp n in cc;
  nodes = λ n node e. let none = map.get-empty {X = Node} nat_cmp n in cc;
  current = no_attributes;
}
