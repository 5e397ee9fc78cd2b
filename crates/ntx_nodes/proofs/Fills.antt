-- The fields of a new node after they were copied from others.
use Rattle.std.proofs.Common.{◌≡◌, ℕ, ℤ, pos, ◌+◌, ◌^◌, ◌≤◌, ◌<◌, List, [], ◌∷◌, length, drop, get_or, Bool, true, false, cond, Some, None, Ok, Err, inl, inr, refl, sym, ◌∙◌, ap, subst, arith}
use Rattle.std.specs.Prelude.{◌⊎◌, Option, Result, nat_eq, nat_le, neg_ℤ, int_le, ◌≤ℤ◌}
use Rattle.std.specs.Ordering.{nat_cmp}
use Rattle.std.proofs.lemmas.Int.{ints}
use Rattle.std.proofs.lemmas.Bool.Decides.{nat_tests}
use Rattle.std.specs.Cmp.{nat_cmp_total, unsigned_tied}
use Rattle.std.specs.FinMap as map
use Rattle.ntx_num.specs.Answer.{result_map, result_and_then, Steps, StepsAtOnce}
use Rattle.ntx_num.specs.declared.answer.Fail.{Fail}
use Rattle.ntx_num.specs.declared.answer.Fail.TheVariants.{NoMemory, Is}
use Rattle.ntx_num.specs.Dimension.{IsWithin, is_within, max_dimension, max_penalty, max_order, max_nodes}
use Rattle.ntx_num.proofs.Answers.{same_Ok, same_Err, mapped_Ok, went_Ok, not_taken}
use Rattle.ntx_nodes.specs.Fields.{contents_field, field_of, with_field, kind_of, fresh, settable_fields}
use Rattle.ntx_nodes.specs.FieldTable.{held_in_box, IsHeld}
use Rattle.ntx_nodes.specs.Heap.{Attributes, Heap, IsInRange, IsLawful, is_live, name_limit}
use Rattle.ntx_nodes.specs.Steps.{of_found, at, put, next_name, making, new_node, make_step, fields_answer, put_fields, put_attributes, set_step, with_ratio, set_ratio_step, wear_current_step, same_attrs_step}
use Rattle.ntx_nodes.specs.Writing.{AreMakable, make_filled_step, make_current_step, make_like_step}
use Rattle.ntx_nodes.specs.inner.Fills.{copied, AreLinkable, CopiesFields, with_glue_of, CopiesGlue, Fills}
use Rattle.ntx_nodes.specs.declared.contents.BoxFields.{BoxFields}
use Rattle.ntx_nodes.specs.declared.field.Field.{Field}
use Rattle.ntx_nodes.specs.declared.field.Field.TheVariants as field
use Rattle.ntx_nodes.specs.declared.field.FieldValue.{FieldValue}
use Rattle.ntx_nodes.specs.declared.field.FieldValue.TheVariants.{Number, Link}
use Rattle.ntx_nodes.specs.declared.fields.Contents.{Contents}
use Rattle.ntx_nodes.specs.declared.fields.Contents.TheVariants as contents
use Rattle.ntx_nodes.specs.declared.fields.Fields.{Fields}
use Rattle.ntx_nodes.specs.declared.node.Node.{Node}
use Rattle.ntx_nodes.specs.declared.ratio.Ratio.{Ratio}
use Rattle.ntx_nodes.specs.declared.trouble.Trouble.{Trouble}
use Rattle.ntx_nodes.specs.declared.trouble.Trouble.TheVariants.{Stale}
use Rattle.ntx_nodes.proofs.Oks.{at_Ok}
use Rattle.ntx_nodes.proofs.Ranges.{down_to}
use Rattle.ntx_nodes.proofs.Writes.{get-put, insert_again, put_same, live_put, LiveValue, set_live, taken_off}

-- ---- field by field
left_at : (r : Result (Unit {0}) Trouble) (old new x : Heap) (step : Result (Unit {0} × Heap) Trouble) → StepsAtOnce r old new step → step ≡ Ok (tt, x) → new ≡ x
left_at (Ok u) old new x step s e = ap (λ p. p.1) (same_Ok (u, new) (tt, x) (sym s ∙ e))
left_at (Err why) old new x step s e = let no = s.0 in cc

live_of : (heap : Heap) (from : Fields) (f : Field) (v : FieldValue) → AreLinkable heap from → field_of from f ≡ Ok v → LiveValue heap v
live_of heap from f (Number x) live is = tt
live_of heap from f (Link to) live is = λ m e. live f m (is ∙ ap (λ o. Ok (Link o)) e)

pub copies_one : (old new : Heap) (n : ℕ) (from : Fields) (f : Field) (v : FieldValue) (r : Result (Unit {0}) Trouble) → field_of from f ≡ Ok v → StepsAtOnce r old new (set_step n f v old) → CopiesFields old new n from (f ∷ [])
copies_one old new n from f v r holds s node fields at is live =
    let takes = went_Ok (λ w. result_and_then (with_field node.fields f w) (λ more. Ok more)) (field_of from f) fields is in
    let gives = went_Ok (λ more. Ok more) (with_field node.fields f takes.value) fields takes.gives in
    let same : takes.value ≡ v = same_Ok {E = Trouble} _ _ (sym takes.is ∙ holds) in
    let written : with_field node.fields f v ≡ Ok fields = ap (with_field node.fields f) (sym same) ∙ gives.is ∙ gives.gives in
    left_at r old new (put_fields old n node fields) _ s (set_live old n node f v fields at written (live_of old from f v live holds))

pub copies_absent : (heap : Heap) (n : ℕ) (from : Fields) (f : Field) (why : Trouble) → field_of from f ≡ Err why → CopiesFields heap heap n from (f ∷ [])
copies_absent heap n from f why absent node fields at is live =
    let no : ◌≡◌ {A = Result Fields Trouble} (Err why) (Ok fields) = sym (ap (λ x. result_and_then x (λ v. result_and_then (with_field node.fields f v) (λ more. Ok more))) absent) ∙ is in cc

pub copies_none : (heap : Heap) (n : ℕ) (from : Fields) → CopiesFields heap heap n from []
copies_none heap n from node fields at is live = sym (put_same heap n node at) ∙ ap (put_fields heap n node) (same_Ok {E = Trouble} node.fields fields is)

pub copies_then : (old mid new : Heap) (n : ℕ) (from : Fields) (f : Field) (fs : List Field) → CopiesFields old mid n from (f ∷ []) → CopiesFields mid new n from fs → CopiesFields old new n from (f ∷ fs)
copies_then old mid new n from f fs first rest node fields at is live =
    let takes = went_Ok (λ v. result_and_then (with_field node.fields f v) (λ more. copied more from fs)) (field_of from f) fields is in
    let gives = went_Ok (λ more. copied more from fs) (with_field node.fields f takes.value) fields takes.gives in
    let one : copied node.fields from (f ∷ []) ≡ Ok gives.value = ap (λ x. result_and_then x (λ v. result_and_then (with_field node.fields f v) (λ more. Ok more))) takes.is ∙ ap (λ x. result_and_then x (λ more. Ok more)) gives.is in
    let begun : mid ≡ put_fields old n node gives.value = first node gives.value at one live in
    let there : Node = record node { fields = gives.value } in
    let ended : new ≡ put_fields mid n there fields =
    rest there fields (ap (λ (h : Heap). map.get h.nodes n) begun ∙ get-put old.nodes n there) gives.gives (λ g m e. subst (λ h. is_live h m ≡ true) (sym begun) (live_put old n there m (live g m e))) in
    ended ∙ ap (λ h. put_fields h n there fields) begun ∙ ap (λ (m : map.FinMap nat_cmp Node). record old { nodes = m }) (insert_again old.nodes n there (record node { fields = fields }))

-- one more of several
pub copies_on : (old mid begun : Heap) (n : ℕ) (from : Fields) (i : ℕ) (fs : List Field) (f : Field) → i < length fs → ((final : Heap) → CopiesFields old final n from (drop i fs) → CopiesFields begun final n from fs)
    → CopiesFields old mid n from (get_or fs i f ∷ []) → (final : Heap) → CopiesFields mid final n from (drop (i + 1) fs) → CopiesFields begun final n from fs
copies_on old mid begun n from i fs f lt left one final rest =
    left final (subst (CopiesFields old final n from) (sym (taken_off i fs f lt)) (copies_then old mid final n from (get_or fs i f) (drop (i + 1) fs) one rest))

-- ---- the glue of a box
glue_case : (old new : Heap) (n subtype : ℕ) (next : Option ℕ) (attributes : Attributes) (c : Contents) (b : BoxFields) (q : Ratio) (r : Result (Unit {0}) Trouble) → map.get old.nodes n ≡ Some (record { fields = record { subtype = subtype; next = next; contents = c }; attributes = attributes })
    → q.num ≡ b.glue_num → q.den ≡ b.glue_den → StepsAtOnce r old new (result_map {B = Unit {0} × Heap} (λ fields. (tt, put_fields old n (record { fields = record { subtype = subtype; next = next; contents = c }; attributes = attributes }) fields)) (with_ratio n b.glue_sign b.glue_order q (record { subtype = subtype; next = next; contents = c })))
    → new ≡ put old n (record { fields = record { subtype = subtype; next = next; contents = with_glue_of c b }; attributes = attributes })
glue_case old new n subtype next attributes (contents.Hlist a) b q r at num den s =
    left_at r old new _ _ s refl ∙ (λ i. put old n (record { fields = record { subtype = subtype; next = next; contents = contents.Hlist (record a { glue_sign = b.glue_sign; glue_order = b.glue_order; glue_num = num i; glue_den = den i }) }; attributes = attributes }))
glue_case old new n subtype next attributes (contents.Vlist a) b q r at num den s =
    left_at r old new _ _ s refl ∙ (λ i. put old n (record { fields = record { subtype = subtype; next = next; contents = contents.Vlist (record a { glue_sign = b.glue_sign; glue_order = b.glue_order; glue_num = num i; glue_den = den i }) }; attributes = attributes }))
glue_case old new n subtype next attributes c b q (Ok u) at num den s = cc
glue_case old new n subtype next attributes c b q (Err why) at num den s = s.1 ∙ sym (put_same old n _ at)

pub copies_glue : (old new : Heap) (n : ℕ) (b : BoxFields) (q : Ratio) (r : Result (Unit {0}) Trouble) → q.num ≡ b.glue_num → q.den ≡ b.glue_den → StepsAtOnce r old new (set_ratio_step n b.glue_sign b.glue_order q old) → CopiesGlue old new n b
copies_glue old new n b q r num den s node at =
    glue_case old new n node.fields.subtype node.fields.next node.attributes node.fields.contents b q r at num den
    (subst (λ o. StepsAtOnce r old new (of_found {A = Unit {0} × Heap} n (λ node. result_map (λ fields. (tt, put_fields old n node fields)) (with_ratio n b.glue_sign b.glue_order q node.fields)) o)) at s)

-- ---- all fields
within : (most : ℕ) (x : ℤ) → IsWithin most x → is_within most x ≡ true
within most x h =
    let low : int_le (neg_ℤ (pos most)) x ≡ true = grind (arith, ints, h.0) in
    let high : int_le x (pos most) ≡ true = grind (arith, ints, h.1) in
    rw (low, high) refl

up_to : (n last : ℕ) → n ≤ last → nat_le n last ≡ true
up_to n last h = grind arith

abbrev pub unglued : Contents → Contents
unglued (contents.Hlist b) = contents.Hlist (record b { glue_sign = 0; glue_order = 0; glue_num = pos 0; glue_den = pos 1 })
unglued (contents.Vlist b) = contents.Vlist (record b { glue_sign = 0; glue_order = 0; glue_num = pos 0; glue_den = pos 1 })
unglued c = c

abbrev all : ℕ → Option ℕ → Contents → Fields
all subtype next c = record { subtype = subtype; next = next; contents = c }

-- copied into the fields of a new node
copied_all : (subtype : ℕ) (next : Option ℕ) (c : Contents) → ((f : Field) (x : ℤ) → field_of (all subtype next c) f ≡ Ok (Number x) → IsInRange (kind_of c) f x)
    → copied (all subtype None (fresh (kind_of c))) (all subtype next c) (settable_fields (kind_of c)) ≡ Ok (all subtype next (unglued c))
copied_all subtype next (contents.Hlist b) in_range =
    rw (within max_dimension b.width (in_range field.Width b.width refl), within max_dimension b.height (in_range field.Height b.height refl), within max_dimension b.depth (in_range field.Depth b.depth refl), within max_dimension b.shift (in_range field.Shift b.shift refl)) refl
copied_all subtype next (contents.Vlist b) in_range =
    rw (within max_dimension b.width (in_range field.Width b.width refl), within max_dimension b.height (in_range field.Height b.height refl), within max_dimension b.depth (in_range field.Depth b.depth refl), within max_dimension b.shift (in_range field.Shift b.shift refl)) refl
copied_all subtype next (contents.Rule r) in_range =
    rw (within max_dimension r.width (in_range field.Width r.width refl), within max_dimension r.height (in_range field.Height r.height refl), within max_dimension r.depth (in_range field.Depth r.depth refl)) refl
copied_all subtype next (contents.Disc d) in_range = refl
copied_all subtype next (contents.Glue g) in_range =
    let stretch : nat_le g.stretch_order max_order ≡ true = up_to _ max_order (down_to g.stretch_order max_order (in_range field.StretchOrder (pos g.stretch_order) refl)) in
    let shrink : nat_le g.shrink_order max_order ≡ true = up_to _ max_order (down_to g.shrink_order max_order (in_range field.ShrinkOrder (pos g.shrink_order) refl)) in
    rw (within max_dimension g.width (in_range field.Width g.width refl), within max_dimension g.stretch (in_range field.Stretch g.stretch refl), stretch, within max_dimension g.shrink (in_range field.Shrink g.shrink refl), shrink) refl
copied_all subtype next (contents.Kern size) in_range = rw (within max_dimension size (in_range field.Kern size refl)) refl
copied_all subtype next (contents.Penalty cost) in_range = rw (within max_penalty cost (in_range field.Penalty cost refl)) refl
copied_all subtype next (contents.Glyph g) in_range =
    let char : nat_le g.char 255 ≡ true = up_to _ 255 (down_to g.char 255 (in_range field.Char (pos g.char) refl)) in
    let font : nat_le g.font 63 ≡ true = up_to _ 63 (down_to g.font 63 (in_range field.Font (pos g.font) refl)) in
    rw (char, font) refl

pub copied_fields : (fields : Fields) → ((f : Field) (x : ℤ) → field_of fields f ≡ Ok (Number x) → IsInRange (kind_of fields.contents) f x)
    → copied (all fields.subtype None (fresh (kind_of fields.contents))) fields (settable_fields (kind_of fields.contents)) ≡ Ok (all fields.subtype fields.next (unglued fields.contents))
copied_fields fields in_range = copied_all fields.subtype fields.next fields.contents in_range

-- ---- a new node
abbrev pub new_fields : Fields → Fields
new_fields fields = all fields.subtype None (fresh (kind_of fields.contents))

-- what is copied into it, and for a box its glue too, is all
glued_all : (c : Contents) (b : BoxFields) → (c ≡ contents.Hlist b) ⊎ (c ≡ contents.Vlist b) → with_glue_of (unglued c) b ≡ c
glued_all c b (inl e) = ap (λ x. with_glue_of (unglued x) b) e ∙ sym e
glued_all c b (inr e) = ap (λ x. with_glue_of (unglued x) b) e ∙ sym e

box_holds : (fields : Fields) (b : BoxFields) (f : Field) (x : ℤ) → (fields.contents ≡ contents.Hlist b) ⊎ (fields.contents ≡ contents.Vlist b) → contents_field (contents.Hlist b) f ≡ Ok (Number x) → contents_field fields.contents f ≡ Ok (Number x)
box_holds fields b f x (inl e) h = ap (λ c. contents_field c f) e ∙ h
box_holds fields b f x (inr e) h = ap (λ c. contents_field c f) e ∙ h

-- the glue of a box that can be made
glue_held : (c : Contents) (b : BoxFields) (f : Field) (x : ℤ) → (c ≡ contents.Hlist b) ⊎ (c ≡ contents.Vlist b) → IsInRange (kind_of c) f x → IsHeld (held_in_box f) x
glue_held c b f x (inl e) h = subst (λ d. IsInRange (kind_of d) f x) e h
glue_held c b f x (inr e) h = subst (λ d. IsInRange (kind_of d) f x) e h

pub glue_ranges : (heap : Heap) (fields : Fields) (b : BoxFields) → AreMakable heap fields → (fields.contents ≡ contents.Hlist b) ⊎ (fields.contents ≡ contents.Vlist b)
    → (b.glue_sign ≤ 2) × (b.glue_order ≤ 3) × IsWithin (2 ^ 32) b.glue_num × (pos 1 ≤ℤ b.glue_den)
glue_ranges heap fields b makable box =
    let at : (f : Field) (x : ℤ) → field_of fields f ≡ Ok (Number x) → IsHeld (held_in_box f) x = λ f x e. glue_held fields.contents b f x box (makable.numbers f x e) in (
      down_to b.glue_sign 2 (at field.GlueSign (pos b.glue_sign) (box_holds fields b field.GlueSign _ box refl)),
      down_to b.glue_order 3 (at field.GlueOrder (pos b.glue_order) (box_holds fields b field.GlueOrder _ box refl)),
      at field.GlueNum b.glue_num (box_holds fields b field.GlueNum _ box refl),
      (at field.GlueDen b.glue_den (box_holds fields b field.GlueDen _ box refl)).0,
    )

pub filled_box : (old mid new : Heap) (n : ℕ) (fields : Fields) (b : BoxFields) → AreMakable old fields → map.get old.nodes n ≡ Some (new_node (kind_of fields.contents) fields.subtype)
    → CopiesFields old mid n fields (settable_fields (kind_of fields.contents)) → CopiesGlue mid new n b → (fields.contents ≡ contents.Hlist b) ⊎ (fields.contents ≡ contents.Vlist b)
    → new ≡ put_fields old n (new_node (kind_of fields.contents) fields.subtype) fields
filled_box old mid new n fields b makable at copies glues box =
    let fresh_node : Node = new_node (kind_of fields.contents) fields.subtype in
    let part : Fields = all fields.subtype fields.next (unglued fields.contents) in
    let there : Node = record fresh_node { fields = part } in
    let one : mid ≡ put_fields old n fresh_node part = copies fresh_node part at (copied_fields fields makable.numbers) makable.links in
    let two : new ≡ put_fields mid n there (all fields.subtype fields.next (with_glue_of (unglued fields.contents) b)) = glues there (ap (λ (h : Heap). map.get h.nodes n) one ∙ get-put old.nodes n there) in
    two ∙ ap (λ (h : Heap). put_fields h n there (all fields.subtype fields.next (with_glue_of (unglued fields.contents) b))) one
    ∙ ap (λ (m : map.FinMap nat_cmp Node). record old { nodes = m }) (insert_again old.nodes n there _)
    ∙ ap (λ (c : Contents). put_fields old n fresh_node (all fields.subtype fields.next c)) (glued_all fields.contents b box)

no_box : (c : Contents) → ((b : BoxFields) → c ≡ contents.Hlist b → ⊥) → ((b : BoxFields) → c ≡ contents.Vlist b → ⊥) → unglued c ≡ c
no_box (contents.Hlist b) h v = absurd (h b refl)
no_box (contents.Vlist b) h v = absurd (v b refl)
no_box c h v = refl

pub filled : (old new : Heap) (n : ℕ) (fields : Fields) → AreMakable old fields → map.get old.nodes n ≡ Some (new_node (kind_of fields.contents) fields.subtype)
    → CopiesFields old new n fields (settable_fields (kind_of fields.contents)) → ((b : BoxFields) → fields.contents ≡ contents.Hlist b → ⊥) → ((b : BoxFields) → fields.contents ≡ contents.Vlist b → ⊥)
    → new ≡ put_fields old n (new_node (kind_of fields.contents) fields.subtype) fields
filled old new n fields makable at copies h v =
    copies (new_node (kind_of fields.contents) fields.subtype) (all fields.subtype fields.next (unglued fields.contents)) at (copied_fields fields makable.numbers) makable.links
    ∙ ap (λ (c : Contents). put_fields old n (new_node (kind_of fields.contents) fields.subtype) (all fields.subtype fields.next c)) (no_box fields.contents h v)

-- ---- making
pub record Made (old new : Heap) (node : Node) (n : ℕ) : Type 0 where
  pub at : map.get new.nodes n ≡ Some node
  pub name : n ≡ old.next
  pub current : new.current ≡ old.current
  pub live : (m : ℕ) → is_live old m ≡ true → is_live new m ≡ true
  pub other : (m : ℕ) (x : Node) → m < old.next → map.get old.nodes m ≡ Some x → map.get new.nodes m ≡ Some x
  pub again : (x : Node) → making x old ≡ Ok (n, put new n x)

apart : (m n : ℕ) → m < n → nat_eq m n ≡ false
apart m n h = grind (arith, nat_tests)

made_as : (old : Heap) (node : Node) → next_name old ≡ Ok old.next → Made old (record { next = old.next + 1; nodes = map.insert old.nodes old.next node; current = old.current }) node old.next
made_as old node named = record {
  at = get-put old.nodes old.next node;
  name = refl;
  current = refl;
  live = λ m h. live_put old old.next node m h;
  other = λ m x below h. map.get-insert nat_cmp_total old.nodes old.next node m ∙ ap (λ b. cond b (Some node) (map.get old.nodes m)) (unsigned_tied m old.next ∙ apart m old.next below) ∙ h;
  again = λ x.
      ap (result_map {B = ℕ × Heap} (λ k. (k, record { next = k + 1; nodes = map.insert old.nodes k x; current = old.current }))) named
      ∙ ap (λ (m : map.FinMap nat_cmp Node). Ok (old.next, record { next = old.next + 1; nodes = m; current = old.current })) (sym (insert_again old.nodes old.next node x));
}

pub made : (old new : Heap) (node : Node) (n : ℕ) → making node old ≡ Ok (n, new) → Made old new node n
made old new node n e =
    let m = mapped_Ok {B = ℕ × Heap} (λ k. (k, record { next = k + 1; nodes = map.insert old.nodes k node; current = old.current })) (next_name old) (n, new) e in
    let full = not_taken (nat_le max_nodes (map.len old.nodes)) _ _ m.value m.is in
    let out = not_taken (nat_le name_limit old.next) _ _ m.value full.1 in
    let named : next_name old ≡ Ok old.next = m.is ∙ sym out.1 in
    let result : ◌≡◌ {A = ℕ × Heap} (old.next, record { next = old.next + 1; nodes = map.insert old.nodes old.next node; current = old.current }) (n, new) = ap {B = ℕ × Heap} (λ k. (k, record { next = k + 1; nodes = map.insert old.nodes k node; current = old.current })) (same_Ok {E = Trouble} old.next m.value out.1) ∙ m.gives in
    subst (λ (p : ℕ × Heap). Made old p.1 node p.0) result (made_as old node named)

-- a refusal to make does not look at the node
refused_case : (old : Heap) (r : Result ℕ Trouble) (node other : Node) (why : Trouble)
    → result_map {B = ℕ × Heap} (λ k. (k, record { next = k + 1; nodes = map.insert old.nodes k node; current = old.current })) r ≡ Err why
    → result_map {B = ℕ × Heap} (λ k. (k, record { next = k + 1; nodes = map.insert old.nodes k other; current = old.current })) r ≡ Err why
refused_case old (Ok k) node other why e = cc
refused_case old (Err x) node other why e = ap Err (same_Err {A = ℕ × Heap} x why e)

pub refused_too : (old : Heap) (node other : Node) (why : Trouble) → making node old ≡ Err why → making other old ≡ Err why
refused_too old node other why e = refused_case old (next_name old) node other why e

-- ---- the calls that make
abbrev bare : Fields → Node
bare fields = record { fields = fields; attributes = map.empty }

-- a node that was made and filled
pub filled_made : (old mid new : Heap) (n : ℕ) (fields : Fields) → make_step (kind_of fields.contents) fields.subtype old ≡ Ok (n, mid) → Fills mid new n fields → make_filled_step fields old ≡ Ok (n, new)
filled_made old mid new n fields e fills = (made old mid _ n e).again (bare fields) ∙ ap {B = Result (ℕ × Heap) Trouble} (λ h. Ok (n, h)) (sym fills)

pub makable_on : (old new : Heap) (node : Node) (n : ℕ) (fields : Fields) → making node old ≡ Ok (n, new) → AreMakable old fields → AreMakable new fields
makable_on old new node n fields e makable = record { numbers = makable.numbers; links = λ f m h. (made old new node n e).live m (makable.links f m h) }

-- a made node that gets the current attributes,
pub current_made : (old mid new : Heap) (n : ℕ) (fields : Fields) → make_filled_step fields old ≡ Ok (n, mid) → wear_current_step n mid ≡ Ok (tt, new) → make_current_step fields old ≡ Ok (n, new)
current_made old mid new n fields e w =
    let m = made old mid (bare fields) n e in
    let worn : wear_current_step n mid ≡ Ok (tt, put mid n (record { fields = fields; attributes = mid.current })) = ap (of_found {A = Unit {0} × Heap} n (λ node. Ok (tt, put_attributes mid n node mid.current))) m.at in
    let is : put mid n (record { fields = fields; attributes = mid.current }) ≡ new = ap (λ p. p.1) (same_Ok {A = Unit {0} × Heap} {E = Trouble} (tt, put mid n (record { fields = fields; attributes = mid.current })) (tt, new) (sym worn ∙ w)) in
    ap (λ (a : Attributes). making (record { fields = fields; attributes = a }) old) (sym m.current) ∙ m.again (record { fields = fields; attributes = mid.current }) ∙ ap {B = Result (ℕ × Heap) Trouble} (λ h. Ok (n, h)) is

not_refused : (mid new x : Heap) (r : Result (Unit {0}) (Fail Trouble)) (why : Trouble) (step : Result (Unit {0} × Heap) Trouble) → r ≡ Err (Is why) → Steps r mid new step → step ≡ Ok (tt, x) → ⊥
not_refused mid new x (Ok u) why step is s e = cc
not_refused mid new x (Err NoMemory) why step is s e = cc
not_refused mid new x (Err (Is other)) why step is s e = let no = sym s.0 ∙ e in cc

pub current_refuses_nothing : (old mid new : Heap) (n : ℕ) (fields : Fields) (r : Result (Unit {0}) (Fail Trouble)) (why : Trouble) → make_filled_step fields old ≡ Ok (n, mid) → r ≡ Err (Is why) → Steps r mid new (wear_current_step n mid) → ⊥
current_refuses_nothing old mid new n fields r why e is s =
    not_refused mid new (put mid n (record { fields = fields; attributes = mid.current })) r why (wear_current_step n mid) is s (ap (of_found {A = Unit {0} × Heap} n (λ node. Ok (tt, put_attributes mid n node mid.current))) (made old mid (bare fields) n e).at)

-- or those of another
like_worn : (old mid : Heap) (n from : ℕ) (fields : Fields) (other : Node) → IsLawful old → map.get old.nodes from ≡ Some other → make_filled_step fields old ≡ Ok (n, mid)
    → same_attrs_step n from mid ≡ Ok (tt, put mid n (record { fields = fields; attributes = other.attributes }))
like_worn old mid n from fields other lawful there e =
    let m = made old mid (bare fields) n e in
    ap (of_found {A = Unit {0} × Heap} n (λ node. at mid from (λ x. Ok (tt, put_attributes mid n node x.attributes)))) m.at
    ∙ ap (of_found {A = Unit {0} × Heap} from (λ x. Ok (tt, put_attributes mid n (bare fields) x.attributes))) (m.other from other (lawful.names from other there) there)

pub like_made : (old mid new : Heap) (n from : ℕ) (fields own : Fields) → IsLawful old → fields_answer from old ≡ Ok own → make_filled_step fields old ≡ Ok (n, mid) → same_attrs_step n from mid ≡ Ok (tt, new) → make_like_step fields from old ≡ Ok (n, new)
like_made old mid new n from fields own lawful finds e w =
    let found = at_Ok {A = Fields} old from (λ node. Ok node.fields) own finds in
    let is : put mid n (record { fields = fields; attributes = found.node.attributes }) ≡ new = ap (λ p. p.1) (same_Ok {A = Unit {0} × Heap} {E = Trouble} (tt, put mid n (record { fields = fields; attributes = found.node.attributes })) (tt, new) (sym (like_worn old mid n from fields found.node lawful found.is e) ∙ w)) in
    ap (of_found {A = ℕ × Heap} from (λ other. making (record { fields = fields; attributes = other.attributes }) old)) found.is
    ∙ (made old mid (bare fields) n e).again (record { fields = fields; attributes = found.node.attributes }) ∙ ap {B = Result (ℕ × Heap) Trouble} (λ h. Ok (n, h)) is

pub like_refuses_nothing : (old mid new : Heap) (n from : ℕ) (fields own : Fields) (r : Result (Unit {0}) (Fail Trouble)) (why : Trouble) → IsLawful old → fields_answer from old ≡ Ok own → make_filled_step fields old ≡ Ok (n, mid) → r ≡ Err (Is why)
    → Steps r mid new (same_attrs_step n from mid) → ⊥
like_refuses_nothing old mid new n from fields own r why lawful finds e is s =
    let found = at_Ok {A = Fields} old from (λ node. Ok node.fields) own finds in
    not_refused mid new (put mid n (record { fields = fields; attributes = found.node.attributes })) r why (same_attrs_step n from mid) is s (like_worn old mid n from fields found.node lawful found.is e)

stale_case : {A : Type 0} (f : Node → Result A Trouble) (why : Trouble) (from : ℕ) (o : Option Node) → of_found {A = Fields} from (λ node. Ok node.fields) o ≡ Err why → of_found from f o ≡ Err why
stale_case f why from None e = ap Err (same_Err {A = Fields} (Stale from) why e)
stale_case f why from (Some node) e = cc

pub like_stale : (old : Heap) (from : ℕ) (fields : Fields) (why : Trouble) → fields_answer from old ≡ Err why → make_like_step fields from old ≡ Err why
like_stale old from fields why e = stale_case (λ other. making (record { fields = fields; attributes = other.attributes }) old) why from (map.get old.nodes from) e
