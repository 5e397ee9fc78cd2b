-- The fields of a made box.
use Rattle.std.proofs.Common.{◌≡◌, ℕ, ◌+◌, ◌^◌, ◌≤◌, ℤ, pos, true, cond, Ok, Some, ◌∙◌, ap, subst, arith}
use Rattle.std.specs.Prelude.{Option, ◌≤ℤ◌}
use Rattle.std.specs.FinMap as fin
use Rattle.std.specs.Cmp.{nat_cmp_total, unsigned_tied}
use Rattle.std.proofs.lemmas.Int.{ints}
use Rattle.ntx_num.specs.Dimension.{IsWithin, IsDimension}
use Rattle.ntx_nodes.specs.Fields.{box_field, field_of, kind_of}
use Rattle.ntx_nodes.specs.Heap.{Heap, IsInRange, is_live}
use Rattle.ntx_nodes.specs.Steps.{put}
use Rattle.ntx_nodes.specs.Writing.{AreMakable}
use Rattle.ntx_nodes.specs.FieldTable.{IsHeld, held_in_box}
use Rattle.ntx_nodes.specs.declared.field.Field.{Field}
use Rattle.ntx_nodes.specs.declared.field.Field.TheVariants.{Subtype, Next, Width, Height, Depth, Shift, List, GlueSign, GlueOrder, GlueNum, GlueDen}
use Rattle.ntx_nodes.specs.declared.field.FieldValue.TheVariants.{Number, Link}
use Rattle.ntx_nodes.specs.declared.node.Node.{Node}
use Rattle.ntx_nodes.proofs.Walks.{nat_eq_same}
use Rattle.ntx_pack.specs.declared.direction.Direction.{Direction}
use Rattle.ntx_pack.specs.declared.direction.Direction.TheVariants.{Horizontal, Vertical}
use Rattle.ntx_pack.specs.declared.packed.Packed.{Packed}
use Rattle.ntx_pack.specs.Made.{IsMakable, IsLiveHead}
use Rattle.ntx_pack.specs.Pack.{box_fields, node_fields}

-- a node that was put is found
pub get_put : (heap : Heap) (n : ℕ) (node : Node) → fin.get (put heap n node).nodes n ≡ Some node
get_put heap n node = fin.get-insert nat_cmp_total heap.nodes n node n ∙ ap (λ b. cond b (Some node) (fin.get heap.nodes n)) (unsigned_tied n n ∙ nat_eq_same n)

-- the heap whose next name is above n
abbrev pub beyond : Heap → ℕ → Heap
beyond heap n = record heap { next = n + 1 }

-- each number of a box is in the range of its field
box_numbers : (head : Option ℕ) (box : Packed) → IsMakable box → (f : Field) (x : ℤ) → box_field (box_fields head box) f ≡ Ok (Number x) → IsHeld (held_in_box f) x
box_numbers head box m Width x e = let same : box.size.w ≡ x = cc in subst IsDimension same m.size.width
box_numbers head box m Height x e = let same : box.size.h ≡ x = cc in subst IsDimension same m.size.height
box_numbers head box m Depth x e = let same : box.size.d ≡ x = cc in subst IsDimension same m.size.depth
box_numbers head box m Shift x e = let same : pos 0 ≡ x = cc in subst IsDimension same (omega (arith, ints))
box_numbers head box m List x e = cc
box_numbers head box m GlueSign x e = let same : pos box.glue.sign ≡ x = cc in let le : box.glue.sign ≤ 2 = m.sign in subst (λ (z : ℤ). (pos 0 ≤ℤ z) × (z ≤ℤ pos 2)) same (omega (arith, ints))
box_numbers head box m GlueOrder x e = let same : pos box.glue.order ≡ x = cc in let le : box.glue.order ≤ 3 = m.order in subst (λ (z : ℤ). (pos 0 ≤ℤ z) × (z ≤ℤ pos 3)) same (omega (arith, ints))
box_numbers head box m GlueNum x e = let same : box.glue.num ≡ x = cc in let num = m.ratio.num in subst (IsWithin (2 ^ 32)) same (omega (arith, ints, num))
box_numbers head box m GlueDen x e = let same : box.glue.den ≡ x = cc in let den = m.ratio.den in subst (λ (z : ℤ). (pos 1 ≤ℤ z) × Unit {0}) same (omega (arith, ints, den), tt)
box_numbers head box m _ x e = cc

box_links : (heap : Heap) (head : Option ℕ) (box : Packed) → IsLiveHead heap head → (f : Field) (n : ℕ) → box_field (box_fields head box) f ≡ Ok (Link (Some n)) → is_live heap n ≡ true
box_links heap head box live List n e = let same : head ≡ Some n = cc in live n same
box_links heap head box live _ n e = cc

-- the fields of a box that is packed over a live list are those of a node that can be made
numbers_fit : (direction : Direction) (head : Option ℕ) (box : Packed) → IsMakable box → (f : Field) (x : ℤ) → field_of (node_fields direction head box) f ≡ Ok (Number x) → IsInRange (kind_of (node_fields direction head box).contents) f x
numbers_fit Horizontal head box m Subtype x e = let same : pos 0 ≡ x = cc in subst (λ (z : ℤ). (pos 0 ≤ℤ z) × (z ≤ℤ pos 255)) same (omega (arith, ints))
numbers_fit Horizontal head box m Next x e = cc
numbers_fit Horizontal head box m f x e = box_numbers head box m f x e
numbers_fit Vertical head box m Subtype x e = let same : pos 0 ≡ x = cc in subst (λ (z : ℤ). (pos 0 ≤ℤ z) × (z ≤ℤ pos 255)) same (omega (arith, ints))
numbers_fit Vertical head box m Next x e = cc
numbers_fit Vertical head box m f x e = box_numbers head box m f x e

links_live : (heap : Heap) (direction : Direction) (head : Option ℕ) (box : Packed) → IsLiveHead heap head → (f : Field) (n : ℕ) → field_of (node_fields direction head box) f ≡ Ok (Link (Some n)) → is_live heap n ≡ true
links_live heap direction head box live Subtype n e = cc
links_live heap direction head box live Next n e = cc
links_live heap Horizontal head box live f n e = box_links heap head box live f n e
links_live heap Vertical head box live f n e = box_links heap head box live f n e

pub box_makable : (heap : Heap) (direction : Direction) (head : Option ℕ) (box : Packed) → IsMakable box → IsLiveHead heap head → AreMakable heap (node_fields direction head box)
box_makable heap direction head box m live = record { numbers = numbers_fit direction head box m; links = links_live heap direction head box live }
