-- What the code's numbers of 64 bits are.
use Rattle.std.proofs.Common.{◌≡◌, ℕ, ◌≤◌, ◌+◌, ◌^◌, ◌==◌, true, ℤ, pos, ◌+ℤ◌, ◌-ℤ◌, List, [], ◌∷◌, length, false, to_z, of_z, w64, subst, sym, ◌∙◌, Ok, Err, refl, ap, arith}
use Rattle.std.specs.Int.RustNames.{unsigned_abs}
use Rattle.std.proofs.lemmas.Int.{ints}
use Rattle.std.specs.Prelude.{Option, Result, IfOk, int_lt}
use Rattle.std.proofs.lemmas.Bool.{cond-true, cond-false}
use Rattle.ntx_num.specs.Dimension.{IsDimension}
use Rattle.ntx_num.proofs.Answers.{same_Ok}
use Rattle.ntx_nodes.specs.Fields.{kind_of, field_of}
use Rattle.ntx_nodes.specs.Heap.{Heap, IsLawful, IsInRange}
use Rattle.ntx_nodes.specs.declared.kind.Kind.TheVariants as kind
use Rattle.ntx_nodes.specs.declared.field.Field.{Field}
use Rattle.ntx_nodes.specs.declared.field.Field.TheVariants as field
use Rattle.ntx_nodes.specs.declared.field.FieldValue.TheVariants.{Number}
use Rattle.ntx_nodes.specs.declared.contents.BoxFields.{BoxFields}
use Rattle.ntx_nodes.specs.declared.fields.Contents.{Contents}
use Rattle.ntx_nodes.specs.declared.fields.Contents.TheVariants as contents
use Rattle.ntx_nodes.specs.declared.trouble.Trouble.{Trouble}
use Rattle.ntx_nodes.proofs.Oks.{at_Ok}
use Rattle.ntx_item.specs.Settings.{Settings}
use Rattle.ntx_item.specs.declared.glue.GlueSpec.{GlueSpec}
use Rattle.ntx_item.specs.declared.item.Item.{Item}
use Rattle.ntx_item.specs.Items.{max_total}
use Rattle.ntx_pack.specs.GlueSet.{order_for, total_for, badness_by, badness_for, glue_set_in, box_glue, glue_set_answer}
use Rattle.ntx_pack.specs.declared.glue_set.GlueSet.{GlueSet}
use Rattle.ntx_pack.specs.Output.{IsRatio}
use Rattle.ntx_pack.specs.Vertical.{interline_glue}

-- a running total that moved on
pub moved_on : (t m v : ℤ) → unsigned_abs t ≤ max_total → m ≡ v → unsigned_abs (t +ℤ v) ≤ max_total → to_z w64 (of_z w64 (to_z w64 (of_z w64 t) +ℤ to_z w64 (of_z w64 m))) ≡ t +ℤ v
moved_on t m v a e b =
    let b' : unsigned_abs (t +ℤ m) ≤ max_total = subst (λ x. unsigned_abs (t +ℤ x) ≤ max_total) (sym e) b in
    let r : to_z w64 (of_z w64 (to_z w64 (of_z w64 t) +ℤ to_z w64 (of_z w64 m))) ≡ t +ℤ m = omega (arith, ints) in
    r ∙ ap (λ x. t +ℤ x) e

pub with_difference_is : (w a b r : ℤ) → unsigned_abs w ≤ max_total → unsigned_abs a ≤ 1000000000 → unsigned_abs b ≤ 1000000000
    → r ≡ to_z w64 (of_z w64 w) +ℤ (to_z w64 (of_z w64 a) -ℤ to_z w64 (of_z w64 b)) → to_z w64 (of_z w64 r) ≡ w +ℤ (a -ℤ b)
with_difference_is w a b r hw ha hb e = omega (arith, ints)

pub badness_is : (items : List Item) (x y : ℤ) (order : ℕ) (t r : ℤ) → (length items == 0) ≡ false → y ≡ x → order ≡ order_for items x → t ≡ total_for items x → r ≡ pos (badness_by y order t) → r ≡ pos (badness_for items x)
badness_is [] x y order t r e ey eo et er = cc
badness_is (i ∷ is) x y order t r e ey eo et er = er ∙ (λ j. pos (badness_by (ey j) (eo j) (et j)))

pub with_difference_le : (w a b : ℤ) → unsigned_abs a ≤ 1000000000 → unsigned_abs b ≤ 1000000000 → unsigned_abs (w +ℤ (a -ℤ b)) ≤ unsigned_abs w + 2000000000
with_difference_le w a b ha hb = omega (arith, ints)

pub difference_le : (a b : ℤ) → IsDimension a → IsDimension b → unsigned_abs (a -ℤ b) ≤ 2 ^ 32
difference_le a b p q = omega (arith, ints)

-- ---- the glue between two boxes
pub interline_then : (s : Settings) (depth height : ℤ) (glue : GlueSpec) → int_lt ((s.baselineskip.width -ℤ depth) -ℤ height) s.lineskiplimit ≡ true → glue ≡ s.lineskip → glue ≡ interline_glue s depth height
interline_then s depth height glue below e = e ∙ sym (cond-true _ s.lineskip (record s.baselineskip { width = (s.baselineskip.width -ℤ depth) -ℤ height }) below)

pub interline_else : (s : Settings) (depth height : ℤ) (glue : GlueSpec) → int_lt ((s.baselineskip.width -ℤ depth) -ℤ height) s.lineskiplimit ≡ false
    → glue ≡ record s.baselineskip { width = (s.baselineskip.width -ℤ depth) -ℤ height } → glue ≡ interline_glue s depth height
interline_else s depth height glue above e = e ∙ sym (cond-false _ s.lineskip (record s.baselineskip { width = (s.baselineskip.width -ℤ depth) -ℤ height }) above)

-- ---- the glue of a box of a lawful heap
-- what a box's glue may be
abbrev pub IsSettable : GlueSet → Type 0
IsSettable glue = IsRatio glue × (glue.sign ≤ 2) × (glue.order ≤ 3)

abbrev HasNumbers : ℕ → Option ℕ → Contents → Type 0
HasNumbers subtype next c = (f : Field) (x : ℤ) → field_of (record { subtype = subtype; next = next; contents = c }) f ≡ Ok (Number x) → IsInRange (kind_of c) f x

box_settable : (b : BoxFields) → IsInRange kind.Hlist field.GlueSign (pos b.glue_sign) → IsInRange kind.Hlist field.GlueOrder (pos b.glue_order) → IsInRange kind.Hlist field.GlueNum b.glue_num → IsInRange kind.Hlist field.GlueDen b.glue_den → IsSettable (glue_set_in b)
box_settable b sign order num den = (record { num = omega (arith, ints); den = omega (arith, ints) }, omega (arith, ints), omega (arith, ints))

settable : (subtype : ℕ) (next : Option ℕ) (c : Contents) (n : ℕ) (glue : GlueSet) → HasNumbers subtype next c → box_glue n c ≡ Ok glue → IsSettable glue
settable subtype next (contents.Hlist b) n glue r e = subst IsSettable (same_Ok {E = Trouble} (glue_set_in b) glue e) (box_settable b (r field.GlueSign (pos b.glue_sign) refl) (r field.GlueOrder (pos b.glue_order) refl) (r field.GlueNum b.glue_num refl) (r field.GlueDen b.glue_den refl))
settable subtype next (contents.Vlist b) n glue r e = subst IsSettable (same_Ok {E = Trouble} (glue_set_in b) glue e) (box_settable b (r field.GlueSign (pos b.glue_sign) refl) (r field.GlueOrder (pos b.glue_order) refl) (r field.GlueNum b.glue_num refl) (r field.GlueDen b.glue_den refl))
settable subtype next (contents.Rule x) n glue r e = cc
settable subtype next (contents.Disc x) n glue r e = cc
settable subtype next (contents.Glue x) n glue r e = cc
settable subtype next (contents.Kern x) n glue r e = cc
settable subtype next (contents.Penalty x) n glue r e = cc
settable subtype next (contents.Glyph x) n glue r e = cc

pub answer_settable : (heap : Heap) (n : ℕ) (r : Result GlueSet Trouble) → IsLawful heap → r ≡ glue_set_answer n heap → IfOk r IsSettable
answer_settable heap n (Err why) lawful e = tt
answer_settable heap n (Ok glue) lawful e =
    let found = at_Ok heap n (λ node. box_glue n node.fields.contents) glue (sym e) in
    settable found.node.fields.subtype found.node.fields.next found.node.fields.contents n glue (lawful.nodes n found.node found.is).numbers found.gives

pub ratio_in : (r : Result GlueSet Trouble) → IfOk r IsSettable → IfOk r IsRatio
ratio_in (Ok glue) s = s.0
ratio_in (Err why) s = tt

pub sign_in : (r : Result GlueSet Trouble) → IfOk r IsSettable → IfOk r (λ glue. glue.sign ≤ 2)
sign_in (Ok glue) s = s.1
sign_in (Err why) s = tt

pub order_in : (r : Result GlueSet Trouble) → IfOk r IsSettable → IfOk r (λ glue. glue.order ≤ 3)
order_in (Ok glue) s = s.2
order_in (Err why) s = tt
