-- The laws of a node's fields, kind by kind.
use Rattle.std.proofs.Common.{◌≡◌, ℕ, ℤ, pos, ◌-◌, ◌^◌, ◌≤◌, ◌<◌, true, Some, Ok, refl, ap, subst, arith}
use Rattle.std.specs.Prelude.{Option, Result, ◌≤ℤ◌}
use Rattle.std.proofs.lemmas.Int.{ints}
use Rattle.ntx_nodes.specs.Fields.{box_field, contents_field, field_of, kind_of, last_subtype}
use Rattle.ntx_num.specs.Dimension.{IsWithin, IsDimension}
use Rattle.ntx_nodes.specs.FieldTable.{held_in_box, IsHeld}
use Rattle.ntx_nodes.specs.Heap.{Heap, IsInRange, is_live}
use Rattle.ntx_nodes.specs.Writing.{AreMakable}
use Rattle.ntx_nodes.specs.declared.kind.Kind.{Kind}
use Rattle.ntx_nodes.specs.declared.kind.Kind.TheVariants as kind
use Rattle.ntx_nodes.specs.declared.field.Field.{Field}
use Rattle.ntx_nodes.specs.declared.field.Field.TheVariants as field
use Rattle.ntx_nodes.specs.declared.field.FieldValue.{FieldValue}
use Rattle.ntx_nodes.specs.declared.field.FieldValue.TheVariants.{Number, Link}
use Rattle.ntx_nodes.specs.declared.contents.BoxFields.{BoxFields}
use Rattle.ntx_nodes.specs.declared.fields.Fields.{Fields}
use Rattle.ntx_nodes.specs.declared.trouble.Trouble.{Trouble}
use Rattle.ntx_nodes.specs.declared.fields.Contents.{Contents}
use Rattle.ntx_nodes.specs.declared.fields.Contents.TheVariants as contents

-- a link leads to a name of which this is true, or to nothing
abbrev pub Leads : (ℕ → Type 0) → Option ℕ → Type 0
Leads P to = (n : ℕ) → to ≡ Some n → P n

pub record IsFitBox (P : ℕ → Type 0) (b : BoxFields) : Type 0 where
  pub width : IsDimension b.width
  pub height : IsDimension b.height
  pub depth : IsDimension b.depth
  pub shift : IsDimension b.shift
  pub list : Leads P b.list
  pub glue_sign : b.glue_sign ≤ 2
  pub glue_order : b.glue_order ≤ 3
  pub glue_num : IsWithin (2 ^ 32) b.glue_num
  pub glue_den : pos 1 ≤ℤ b.glue_den

abbrev pub IsFitContents : (ℕ → Type 0) → Contents → Type 0
IsFitContents P (contents.Hlist b) = IsFitBox P b
IsFitContents P (contents.Vlist b) = IsFitBox P b
IsFitContents P (contents.Rule r) = IsDimension r.width × IsDimension r.height × IsDimension r.depth
IsFitContents P (contents.Disc d) = Leads P d.pre × Leads P d.post × Leads P d.replace
IsFitContents P (contents.Glue g) = IsDimension g.width × IsDimension g.stretch × (g.stretch_order ≤ 3) × IsDimension g.shrink × (g.shrink_order ≤ 3)
IsFitContents P (contents.Kern size) = IsDimension size
IsFitContents P (contents.Penalty cost) = IsWithin (2 ^ 31 - 1) cost
IsFitContents P (contents.Glyph g) = (g.char ≤ 255) × (g.font ≤ 63)

-- the number that a field holds
same_number : (x y : ℤ) → ◌≡◌ {A = Result FieldValue Trouble} (Ok (Number x)) (Ok (Number y)) → x ≡ y
same_number x y e = cc

same_link : (x y : Option ℕ) → ◌≡◌ {A = Result FieldValue Trouble} (Ok (Link x)) (Ok (Link y)) → x ≡ y
same_link x y e = cc

-- a number without a sign, among those with one
up_to : (n last : ℕ) → n ≤ last → (pos 0 ≤ℤ pos n) × (pos n ≤ℤ pos last)
up_to n last h = (omega (arith, ints), omega (arith, ints))

pub down_to : (n last : ℕ) → (pos 0 ≤ℤ pos n) × (pos n ≤ℤ pos last) → n ≤ last
down_to n last h = omega (arith, ints)

held_up_to : (n last : ℕ) (x : ℤ) → n ≤ last → ◌≡◌ {A = Result FieldValue Trouble} (Ok (Number (pos n))) (Ok (Number x)) → (pos 0 ≤ℤ x) × (x ≤ℤ pos last)
held_up_to n last x h e = subst (λ y. (pos 0 ≤ℤ y) × (y ≤ℤ pos last)) (same_number (pos n) x e) (up_to n last h)

holds : (Q : ℤ → Type 0) (y x : ℤ) → Q y → ◌≡◌ {A = Result FieldValue Trouble} (Ok (Number y)) (Ok (Number x)) → Q x
holds Q y x p e = subst Q (same_number y x e) p

held_link : (P : ℕ → Type 0) (to : Option ℕ) (n : ℕ) → Leads P to → ◌≡◌ {A = Result FieldValue Trouble} (Ok (Link to)) (Ok (Link (Some n))) → P n
held_link P to n given e = given n (same_link to (Some n) e)

-- ---- from the laws of the kinds to those of the fields
box_numbers : (P : ℕ → Type 0) (b : BoxFields) → IsFitBox P b → (f : Field) (x : ℤ) → box_field b f ≡ Ok (Number x) → IsHeld (held_in_box f) x
box_numbers P b l field.Width x e = holds IsDimension b.width x l.width e
box_numbers P b l field.Height x e = holds IsDimension b.height x l.height e
box_numbers P b l field.Depth x e = holds IsDimension b.depth x l.depth e
box_numbers P b l field.Shift x e = holds IsDimension b.shift x l.shift e
box_numbers P b l field.List x e = cc
box_numbers P b l field.GlueSign x e = held_up_to b.glue_sign 2 x l.glue_sign e
box_numbers P b l field.GlueOrder x e = held_up_to b.glue_order 3 x l.glue_order e
box_numbers P b l field.GlueNum x e = holds (IsWithin (2 ^ 32)) b.glue_num x l.glue_num e
box_numbers P b l field.GlueDen x e = (holds (λ y. pos 1 ≤ℤ y) b.glue_den x l.glue_den e, tt)
box_numbers P b l _ x e = cc

box_links : (P : ℕ → Type 0) (b : BoxFields) → IsFitBox P b → (f : Field) (n : ℕ) → box_field b f ≡ Ok (Link (Some n)) → P n
box_links P b l field.List n e = held_link P b.list n l.list e
box_links P b l _ n e = cc

pub contents_numbers : (P : ℕ → Type 0) (c : Contents) → IsFitContents P c → (f : Field) (x : ℤ) → contents_field c f ≡ Ok (Number x) → IsInRange (kind_of c) f x
contents_numbers P (contents.Hlist b) l f x e = box_numbers P b l f x e
contents_numbers P (contents.Vlist b) l f x e = box_numbers P b l f x e
contents_numbers P (contents.Rule r) l field.Width x e = holds IsDimension r.width x l.0 e
contents_numbers P (contents.Rule r) l field.Height x e = holds IsDimension r.height x l.1 e
contents_numbers P (contents.Rule r) l field.Depth x e = holds IsDimension r.depth x l.2 e
contents_numbers P (contents.Rule r) l _ x e = cc
contents_numbers P (contents.Disc d) l field.Pre x e = cc
contents_numbers P (contents.Disc d) l field.Post x e = cc
contents_numbers P (contents.Disc d) l field.Replace x e = cc
contents_numbers P (contents.Disc d) l _ x e = cc
contents_numbers P (contents.Glue g) l field.Width x e = holds IsDimension g.width x l.0 e
contents_numbers P (contents.Glue g) l field.Stretch x e = holds IsDimension g.stretch x l.1 e
contents_numbers P (contents.Glue g) l field.StretchOrder x e = held_up_to g.stretch_order 3 x l.2 e
contents_numbers P (contents.Glue g) l field.Shrink x e = holds IsDimension g.shrink x l.3 e
contents_numbers P (contents.Glue g) l field.ShrinkOrder x e = held_up_to g.shrink_order 3 x l.4 e
contents_numbers P (contents.Glue g) l _ x e = cc
contents_numbers P (contents.Kern size) l field.Kern x e = holds IsDimension size x l e
contents_numbers P (contents.Kern size) l _ x e = cc
contents_numbers P (contents.Penalty cost) l field.Penalty x e = holds (IsWithin (2 ^ 31 - 1)) cost x l e
contents_numbers P (contents.Penalty cost) l _ x e = cc
contents_numbers P (contents.Glyph g) l field.Char x e = held_up_to g.char 255 x l.0 e
contents_numbers P (contents.Glyph g) l field.Font x e = held_up_to g.font 63 x l.1 e
contents_numbers P (contents.Glyph g) l _ x e = cc

pub contents_links : (P : ℕ → Type 0) (c : Contents) → IsFitContents P c → (f : Field) (n : ℕ) → contents_field c f ≡ Ok (Link (Some n)) → P n
contents_links P (contents.Hlist b) l f n e = box_links P b l f n e
contents_links P (contents.Vlist b) l f n e = box_links P b l f n e
contents_links P (contents.Rule r) l field.Width n e = cc
contents_links P (contents.Rule r) l field.Height n e = cc
contents_links P (contents.Rule r) l field.Depth n e = cc
contents_links P (contents.Rule r) l _ n e = cc
contents_links P (contents.Disc d) l field.Pre n e = held_link P d.pre n l.0 e
contents_links P (contents.Disc d) l field.Post n e = held_link P d.post n l.1 e
contents_links P (contents.Disc d) l field.Replace n e = held_link P d.replace n l.2 e
contents_links P (contents.Disc d) l _ n e = cc
contents_links P (contents.Glue g) l field.Width n e = cc
contents_links P (contents.Glue g) l field.Stretch n e = cc
contents_links P (contents.Glue g) l field.StretchOrder n e = cc
contents_links P (contents.Glue g) l field.Shrink n e = cc
contents_links P (contents.Glue g) l field.ShrinkOrder n e = cc
contents_links P (contents.Glue g) l _ n e = cc
contents_links P (contents.Kern size) l field.Kern n e = cc
contents_links P (contents.Kern size) l _ n e = cc
contents_links P (contents.Penalty cost) l field.Penalty n e = cc
contents_links P (contents.Penalty cost) l _ n e = cc
contents_links P (contents.Glyph g) l field.Char n e = cc
contents_links P (contents.Glyph g) l field.Font n e = cc
contents_links P (contents.Glyph g) l _ n e = cc

-- ---- and back
abbrev Numbers : Contents → Type 0
Numbers c = (f : Field) (x : ℤ) → contents_field c f ≡ Ok (Number x) → IsInRange (kind_of c) f x

abbrev Links : (ℕ → Type 0) → Contents → Type 0
Links P c = (f : Field) (n : ℕ) → contents_field c f ≡ Ok (Link (Some n)) → P n

given : (P : ℕ → Type 0) (c : Contents) (f : Field) (to : Option ℕ) → Links P c → contents_field c f ≡ Ok (Link to) → Leads P to
given P c f to links is n e = links f n (subst (λ o. contents_field c f ≡ Ok (Link o)) e is)

pub fit_contents : (P : ℕ → Type 0) (c : Contents) → Numbers c → Links P c → IsFitContents P c
fit_contents P (contents.Hlist b) numbers links = record {
  width = numbers field.Width b.width refl;
  height = numbers field.Height b.height refl;
  depth = numbers field.Depth b.depth refl;
  shift = numbers field.Shift b.shift refl;
  list = given P (contents.Hlist b) field.List b.list links refl;
  glue_sign = down_to b.glue_sign 2 (numbers field.GlueSign (pos b.glue_sign) refl);
  glue_order = down_to b.glue_order 3 (numbers field.GlueOrder (pos b.glue_order) refl);
  glue_num = numbers field.GlueNum b.glue_num refl;
  glue_den = (numbers field.GlueDen b.glue_den refl).0;
}
fit_contents P (contents.Vlist b) numbers links = record {
  width = numbers field.Width b.width refl;
  height = numbers field.Height b.height refl;
  depth = numbers field.Depth b.depth refl;
  shift = numbers field.Shift b.shift refl;
  list = given P (contents.Vlist b) field.List b.list links refl;
  glue_sign = down_to b.glue_sign 2 (numbers field.GlueSign (pos b.glue_sign) refl);
  glue_order = down_to b.glue_order 3 (numbers field.GlueOrder (pos b.glue_order) refl);
  glue_num = numbers field.GlueNum b.glue_num refl;
  glue_den = (numbers field.GlueDen b.glue_den refl).0;
}
fit_contents P (contents.Rule r) numbers links = (numbers field.Width r.width refl, numbers field.Height r.height refl, numbers field.Depth r.depth refl)
fit_contents P (contents.Disc d) numbers links =
    (given P (contents.Disc d) field.Pre d.pre links refl, given P (contents.Disc d) field.Post d.post links refl, given P (contents.Disc d) field.Replace d.replace links refl)
fit_contents P (contents.Glue g) numbers links = (
  numbers field.Width g.width refl,
  numbers field.Stretch g.stretch refl,
  down_to g.stretch_order 3 (numbers field.StretchOrder (pos g.stretch_order) refl),
  numbers field.Shrink g.shrink refl,
  down_to g.shrink_order 3 (numbers field.ShrinkOrder (pos g.shrink_order) refl),
)
fit_contents P (contents.Kern size) numbers links = numbers field.Kern size refl
fit_contents P (contents.Penalty cost) numbers links = numbers field.Penalty cost refl
fit_contents P (contents.Glyph g) numbers links = (down_to g.char 255 (numbers field.Char (pos g.char) refl), down_to g.font 63 (numbers field.Font (pos g.font) refl))

-- ---- all fields
pub record IsFitFields (P : ℕ → Type 0) (fields : Fields) : Type 0 where
  pub subtype : fields.subtype ≤ last_subtype (kind_of fields.contents)
  pub link : Leads P fields.next
  pub contents : IsFitContents P fields.contents

contents_have_no_subtype : (c : Contents) (v : FieldValue) → contents_field c field.Subtype ≡ Ok v → ⊥
contents_have_no_subtype (contents.Hlist b) v e = cc
contents_have_no_subtype (contents.Vlist b) v e = cc
contents_have_no_subtype (contents.Rule r) v e = cc
contents_have_no_subtype (contents.Disc d) v e = cc
contents_have_no_subtype (contents.Glue g) v e = cc
contents_have_no_subtype (contents.Kern size) v e = cc
contents_have_no_subtype (contents.Penalty cost) v e = cc
contents_have_no_subtype (contents.Glyph g) v e = cc

contents_have_no_next : (c : Contents) (v : FieldValue) → contents_field c field.Next ≡ Ok v → ⊥
contents_have_no_next (contents.Hlist b) v e = cc
contents_have_no_next (contents.Vlist b) v e = cc
contents_have_no_next (contents.Rule r) v e = cc
contents_have_no_next (contents.Disc d) v e = cc
contents_have_no_next (contents.Glue g) v e = cc
contents_have_no_next (contents.Kern size) v e = cc
contents_have_no_next (contents.Penalty cost) v e = cc
contents_have_no_next (contents.Glyph g) v e = cc

subtype_held : (c : Contents) (x : ℤ) → (pos 0 ≤ℤ x) × (x ≤ℤ pos (last_subtype (kind_of c))) → IsInRange (kind_of c) field.Subtype x
subtype_held (contents.Hlist b) x h = h
subtype_held (contents.Vlist b) x h = h
subtype_held (contents.Rule r) x h = h
subtype_held (contents.Disc d) x h = h
subtype_held (contents.Glue g) x h = h
subtype_held (contents.Kern size) x h = h
subtype_held (contents.Penalty cost) x h = h
subtype_held (contents.Glyph g) x h = h

held_subtype : (c : Contents) (x : ℤ) → IsInRange (kind_of c) field.Subtype x → (pos 0 ≤ℤ x) × (x ≤ℤ pos (last_subtype (kind_of c)))
held_subtype (contents.Hlist b) x h = h
held_subtype (contents.Vlist b) x h = h
held_subtype (contents.Rule r) x h = h
held_subtype (contents.Disc d) x h = h
held_subtype (contents.Glue g) x h = h
held_subtype (contents.Kern size) x h = h
held_subtype (contents.Penalty cost) x h = h
held_subtype (contents.Glyph g) x h = h

-- a subtype in the range of its kind
pub subtype_fits : (c : Contents) (n : ℕ) → IsInRange (kind_of c) field.Subtype (pos n) → n ≤ last_subtype (kind_of c)
subtype_fits c n h = down_to n (last_subtype (kind_of c)) (held_subtype c (pos n) h)

pub fields_numbers : (P : ℕ → Type 0) (fields : Fields) → IsFitFields P fields → (f : Field) (x : ℤ) → field_of fields f ≡ Ok (Number x) → IsInRange (kind_of fields.contents) f x
fields_numbers P fields l field.Subtype x e = subtype_held fields.contents x (held_up_to fields.subtype (last_subtype (kind_of fields.contents)) x l.subtype e)
fields_numbers P fields l field.Next x e = cc
fields_numbers P fields l f x e = contents_numbers P fields.contents l.contents f x e

pub fields_links : (P : ℕ → Type 0) (fields : Fields) → IsFitFields P fields → (f : Field) (n : ℕ) → field_of fields f ≡ Ok (Link (Some n)) → P n
fields_links P fields l field.Subtype n e = cc
fields_links P fields l field.Next n e = held_link P fields.next n l.link e
fields_links P fields l f n e = contents_links P fields.contents l.contents f n e

inner_numbers : (fields : Fields) → ((f : Field) (x : ℤ) → field_of fields f ≡ Ok (Number x) → IsInRange (kind_of fields.contents) f x) → Numbers fields.contents
inner_numbers fields numbers field.Subtype x e = absurd (contents_have_no_subtype fields.contents (Number x) e)
inner_numbers fields numbers field.Next x e = absurd (contents_have_no_next fields.contents (Number x) e)
inner_numbers fields numbers f x e = numbers f x e

inner_links : (P : ℕ → Type 0) (fields : Fields) → ((f : Field) (n : ℕ) → field_of fields f ≡ Ok (Link (Some n)) → P n) → Links P fields.contents
inner_links P fields links field.Subtype n e = absurd (contents_have_no_subtype fields.contents (Link (Some n)) e)
inner_links P fields links field.Next n e = absurd (contents_have_no_next fields.contents (Link (Some n)) e)
inner_links P fields links f n e = links f n e

pub fit_fields : (P : ℕ → Type 0) (fields : Fields) → ((f : Field) (x : ℤ) → field_of fields f ≡ Ok (Number x) → IsInRange (kind_of fields.contents) f x)
    → ((f : Field) (n : ℕ) → field_of fields f ≡ Ok (Link (Some n)) → P n) → IsFitFields P fields
fit_fields P fields numbers links = record {
  subtype = subtype_fits fields.contents fields.subtype (numbers field.Subtype (pos fields.subtype) refl);
  link = λ n e. links field.Next n (ap (λ o. Ok (Link o)) e);
  contents = fit_contents P fields.contents (inner_numbers fields numbers) (inner_links P fields links);
}

-- ---- fields of nodes that are there
abbrev pub Below : ℕ → ℕ → Type 0
Below next n = n < next

abbrev pub IsGiven : ℕ → Option ℕ → Type 0
IsGiven next to = Leads (Below next) to

abbrev pub IsLawfulBox : ℕ → BoxFields → Type 0
IsLawfulBox next b = IsFitBox (Below next) b

abbrev pub IsLawfulContents : ℕ → Contents → Type 0
IsLawfulContents next c = IsFitContents (Below next) c

abbrev pub IsLawfulFields : ℕ → Fields → Type 0
IsLawfulFields next fields = IsFitFields (Below next) fields

-- ---- fields of a node that can be made
pub makable_fields : (heap : Heap) (fields : Fields) → IsFitFields (λ m. is_live heap m ≡ true) fields → AreMakable heap fields
makable_fields heap fields fit = record { numbers = fields_numbers (λ m. is_live heap m ≡ true) fields fit; links = fields_links (λ m. is_live heap m ≡ true) fields fit }
