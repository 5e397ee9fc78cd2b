-- Fields are read and set as their table says.
use Rattle.std.proofs.Common.{◌≡◌, ℕ, ℤ, pos, negsuc, Bool, true, false, cond, Ok, Err, refl, sym, ◌∙◌, ap, arith}
use Rattle.std.specs.Prelude.{Option, Result, nat_le, int_le, neg_ℤ, ◌&&◌}
use Rattle.ntx_num.specs.Answer.{result_map}
use Rattle.ntx_num.specs.Dimension.{is_within, max_dimension, max_penalty, max_order}
use Rattle.std.proofs.lemmas.Int.{ints}
use Rattle.ntx_nodes.specs.Fields.{number_within, number_to, link, kind_of, field_of, with_field}
use Rattle.ntx_nodes.specs.FieldTable.{Linked, Ranged, held, ReadsAs, accepts}
use Rattle.ntx_nodes.specs.declared.field.Field.{Field}
use Rattle.ntx_nodes.specs.declared.field.Field.TheVariants as field
use Rattle.ntx_nodes.specs.declared.field.FieldValue.{FieldValue}
use Rattle.ntx_nodes.specs.declared.field.FieldValue.TheVariants.{Number, Link}
use Rattle.ntx_nodes.specs.declared.fields.Contents.{Contents}
use Rattle.ntx_nodes.specs.declared.fields.Contents.TheVariants as contents
use Rattle.ntx_nodes.specs.declared.fields.Fields.{Fields}
use Rattle.ntx_nodes.specs.declared.trouble.Trouble.{Trouble}
use Rattle.ntx_nodes.specs.declared.trouble.Trouble.TheVariants.{BadValue}

-- ---- what is read
reads_contents : (subtype : ℕ) (next : Option ℕ) (c : Contents) (f : Field) → ReadsAs (held (kind_of c) f) (field_of (record { subtype = subtype; next = next; contents = c }) f)
reads_contents s n (contents.Hlist b) field.Subtype = (pos s, refl)
reads_contents s n (contents.Hlist b) field.Next = (n, refl)
reads_contents s n (contents.Hlist b) field.List = (b.list, refl)
reads_contents s n (contents.Hlist b) field.Width = (b.width, refl)
reads_contents s n (contents.Hlist b) field.Height = (b.height, refl)
reads_contents s n (contents.Hlist b) field.Depth = (b.depth, refl)
reads_contents s n (contents.Hlist b) field.Shift = (b.shift, refl)
reads_contents s n (contents.Hlist b) field.GlueSign = (pos b.glue_sign, refl)
reads_contents s n (contents.Hlist b) field.GlueOrder = (pos b.glue_order, refl)
reads_contents s n (contents.Hlist b) field.GlueNum = (b.glue_num, refl)
reads_contents s n (contents.Hlist b) field.GlueDen = (b.glue_den, refl)
reads_contents s n (contents.Hlist b) _ = refl
reads_contents s n (contents.Vlist b) field.Subtype = (pos s, refl)
reads_contents s n (contents.Vlist b) field.Next = (n, refl)
reads_contents s n (contents.Vlist b) field.List = (b.list, refl)
reads_contents s n (contents.Vlist b) field.Width = (b.width, refl)
reads_contents s n (contents.Vlist b) field.Height = (b.height, refl)
reads_contents s n (contents.Vlist b) field.Depth = (b.depth, refl)
reads_contents s n (contents.Vlist b) field.Shift = (b.shift, refl)
reads_contents s n (contents.Vlist b) field.GlueSign = (pos b.glue_sign, refl)
reads_contents s n (contents.Vlist b) field.GlueOrder = (pos b.glue_order, refl)
reads_contents s n (contents.Vlist b) field.GlueNum = (b.glue_num, refl)
reads_contents s n (contents.Vlist b) field.GlueDen = (b.glue_den, refl)
reads_contents s n (contents.Vlist b) _ = refl
reads_contents s n (contents.Rule r) field.Subtype = (pos s, refl)
reads_contents s n (contents.Rule r) field.Next = (n, refl)
reads_contents s n (contents.Rule r) field.Width = (r.width, refl)
reads_contents s n (contents.Rule r) field.Height = (r.height, refl)
reads_contents s n (contents.Rule r) field.Depth = (r.depth, refl)
reads_contents s n (contents.Rule r) _ = refl
reads_contents s n (contents.Disc d) field.Subtype = (pos s, refl)
reads_contents s n (contents.Disc d) field.Next = (n, refl)
reads_contents s n (contents.Disc d) field.Pre = (d.pre, refl)
reads_contents s n (contents.Disc d) field.Post = (d.post, refl)
reads_contents s n (contents.Disc d) field.Replace = (d.replace, refl)
reads_contents s n (contents.Disc d) _ = refl
reads_contents s n (contents.Glue g) field.Subtype = (pos s, refl)
reads_contents s n (contents.Glue g) field.Next = (n, refl)
reads_contents s n (contents.Glue g) field.Width = (g.width, refl)
reads_contents s n (contents.Glue g) field.Stretch = (g.stretch, refl)
reads_contents s n (contents.Glue g) field.StretchOrder = (pos g.stretch_order, refl)
reads_contents s n (contents.Glue g) field.Shrink = (g.shrink, refl)
reads_contents s n (contents.Glue g) field.ShrinkOrder = (pos g.shrink_order, refl)
reads_contents s n (contents.Glue g) _ = refl
reads_contents s n (contents.Kern size) field.Subtype = (pos s, refl)
reads_contents s n (contents.Kern size) field.Next = (n, refl)
reads_contents s n (contents.Kern size) field.Kern = (size, refl)
reads_contents s n (contents.Kern size) _ = refl
reads_contents s n (contents.Penalty cost) field.Subtype = (pos s, refl)
reads_contents s n (contents.Penalty cost) field.Next = (n, refl)
reads_contents s n (contents.Penalty cost) field.Penalty = (cost, refl)
reads_contents s n (contents.Penalty cost) _ = refl
reads_contents s n (contents.Glyph g) field.Subtype = (pos s, refl)
reads_contents s n (contents.Glyph g) field.Next = (n, refl)
reads_contents s n (contents.Glyph g) field.Char = (pos g.char, refl)
reads_contents s n (contents.Glyph g) field.Font = (pos g.font, refl)
reads_contents s n (contents.Glyph g) _ = refl

pub reads_as_held : (fields : Fields) (f : Field) → ReadsAs (held (kind_of fields.contents) f) (field_of fields f)
reads_as_held fields f = reads_contents fields.subtype fields.next fields.contents f

-- ---- what is set
once : {A B E : Type 0} (f : A → B) (r : Result A E) → result_map {B = Unit {0}} (λ _. tt) (result_map f r) ≡ result_map {B = Unit {0}} (λ _. tt) r
once f (Ok a) = refl
once f (Err e) = refl

thrice : {A B C D E : Type 0} (f : C → D) (g : B → C) (h : A → B) (r : Result A E) → result_map {B = Unit {0}} (λ _. tt) (result_map f (result_map g (result_map h r))) ≡ result_map {B = Unit {0}} (λ _. tt) r
thrice f g h (Ok a) = refl
thrice f g h (Err e) = refl

twice : {A B C E : Type 0} (f : B → C) (g : A → B) (r : Result A E) → result_map {B = Unit {0}} (λ _. tt) (result_map f (result_map g r)) ≡ result_map {B = Unit {0}} (λ _. tt) r
twice f g (Ok a) = refl
twice f g (Err e) = refl

tested : {A : Type 0} (b : Bool) (a : A) → result_map {B = Unit {0}} (λ _. tt) (cond b (Ok a) (Err BadValue)) ≡ cond b (Ok tt) (Err BadValue)
tested true a = refl
tested false a = refl

takes_within : (most : ℕ) (v : FieldValue) → result_map {B = Unit {0}} (λ _. tt) (number_within most v) ≡ accepts (Ranged (neg_ℤ (pos most)) (pos most)) v
takes_within most (Number x) = tested (is_within most x) x
takes_within most (Link to) = refl

not_negative : (n : ℕ) → int_le (pos 0) (pos n) ≡ true
not_negative n = grind (arith, ints)

same_test : (n last : ℕ) → (int_le (pos 0) (pos n) && int_le (pos n) (pos last)) ≡ nat_le n last
same_test n last = ap (λ b. b && int_le (pos n) (pos last)) (not_negative n)

takes_to : (last : ℕ) (v : FieldValue) → result_map {B = Unit {0}} (λ _. tt) (number_to last v) ≡ accepts (Ranged (pos 0) (pos last)) v
takes_to last (Number (pos n)) = tested (nat_le n last) n ∙ ap (λ b. cond b (Ok tt) (Err BadValue)) (sym (same_test n last))
takes_to last (Number (negsuc n)) = refl
takes_to last (Link to) = refl

takes_link : (v : FieldValue) → result_map {B = Unit {0}} (λ _. tt) (link v) ≡ accepts Linked v
takes_link (Number x) = refl
takes_link (Link to) = refl

abbrev Takes : Field → FieldValue → ℕ → Option ℕ → Contents → Type 0
Takes f v s n c = result_map {B = Unit {0}} (λ _. tt) (with_field (record { subtype = s; next = n; contents = c }) f v) ≡ accepts (held (kind_of c) f) v

takes_contents : (s : ℕ) (n : Option ℕ) (c : Contents) (f : Field) (v : FieldValue) → Takes f v s n c
takes_contents s n (contents.Hlist b) field.Subtype v = once _ (number_to 255 v) ∙ takes_to 255 v
takes_contents s n (contents.Hlist b) field.Next v = once _ (link v) ∙ takes_link v
takes_contents s n (contents.Hlist b) field.Width v = thrice _ _ _ (number_within max_dimension v) ∙ takes_within max_dimension v
takes_contents s n (contents.Hlist b) field.Height v = thrice _ _ _ (number_within max_dimension v) ∙ takes_within max_dimension v
takes_contents s n (contents.Hlist b) field.Depth v = thrice _ _ _ (number_within max_dimension v) ∙ takes_within max_dimension v
takes_contents s n (contents.Hlist b) field.Shift v = thrice _ _ _ (number_within max_dimension v) ∙ takes_within max_dimension v
takes_contents s n (contents.Hlist b) field.List v = thrice _ _ _ (link v) ∙ takes_link v
takes_contents s n (contents.Hlist b) _ v = refl
takes_contents s n (contents.Vlist b) field.Subtype v = once _ (number_to 255 v) ∙ takes_to 255 v
takes_contents s n (contents.Vlist b) field.Next v = once _ (link v) ∙ takes_link v
takes_contents s n (contents.Vlist b) field.Width v = thrice _ _ _ (number_within max_dimension v) ∙ takes_within max_dimension v
takes_contents s n (contents.Vlist b) field.Height v = thrice _ _ _ (number_within max_dimension v) ∙ takes_within max_dimension v
takes_contents s n (contents.Vlist b) field.Depth v = thrice _ _ _ (number_within max_dimension v) ∙ takes_within max_dimension v
takes_contents s n (contents.Vlist b) field.Shift v = thrice _ _ _ (number_within max_dimension v) ∙ takes_within max_dimension v
takes_contents s n (contents.Vlist b) field.List v = thrice _ _ _ (link v) ∙ takes_link v
takes_contents s n (contents.Vlist b) _ v = refl
takes_contents s n (contents.Rule r) field.Subtype v = once _ (number_to 255 v) ∙ takes_to 255 v
takes_contents s n (contents.Rule r) field.Next v = once _ (link v) ∙ takes_link v
takes_contents s n (contents.Rule r) field.Width v = thrice _ _ _ (number_within max_dimension v) ∙ takes_within max_dimension v
takes_contents s n (contents.Rule r) field.Height v = thrice _ _ _ (number_within max_dimension v) ∙ takes_within max_dimension v
takes_contents s n (contents.Rule r) field.Depth v = thrice _ _ _ (number_within max_dimension v) ∙ takes_within max_dimension v
takes_contents s n (contents.Rule r) _ v = refl
takes_contents s n (contents.Disc d) field.Subtype v = once _ (number_to 3 v) ∙ takes_to 3 v
takes_contents s n (contents.Disc d) field.Next v = once _ (link v) ∙ takes_link v
takes_contents s n (contents.Disc d) field.Pre v = thrice _ _ _ (link v) ∙ takes_link v
takes_contents s n (contents.Disc d) field.Post v = thrice _ _ _ (link v) ∙ takes_link v
takes_contents s n (contents.Disc d) field.Replace v = thrice _ _ _ (link v) ∙ takes_link v
takes_contents s n (contents.Disc d) _ v = refl
takes_contents s n (contents.Glue g) field.Subtype v = once _ (number_to 255 v) ∙ takes_to 255 v
takes_contents s n (contents.Glue g) field.Next v = once _ (link v) ∙ takes_link v
takes_contents s n (contents.Glue g) field.Width v = thrice _ _ _ (number_within max_dimension v) ∙ takes_within max_dimension v
takes_contents s n (contents.Glue g) field.Stretch v = thrice _ _ _ (number_within max_dimension v) ∙ takes_within max_dimension v
takes_contents s n (contents.Glue g) field.StretchOrder v = thrice _ _ _ (number_to max_order v) ∙ takes_to max_order v
takes_contents s n (contents.Glue g) field.Shrink v = thrice _ _ _ (number_within max_dimension v) ∙ takes_within max_dimension v
takes_contents s n (contents.Glue g) field.ShrinkOrder v = thrice _ _ _ (number_to max_order v) ∙ takes_to max_order v
takes_contents s n (contents.Glue g) _ v = refl
takes_contents s n (contents.Kern size) field.Subtype v = once _ (number_to 255 v) ∙ takes_to 255 v
takes_contents s n (contents.Kern size) field.Next v = once _ (link v) ∙ takes_link v
takes_contents s n (contents.Kern size) field.Kern v = twice _ _ (number_within max_dimension v) ∙ takes_within max_dimension v
takes_contents s n (contents.Kern size) _ v = refl
takes_contents s n (contents.Penalty cost) field.Subtype v = once _ (number_to 255 v) ∙ takes_to 255 v
takes_contents s n (contents.Penalty cost) field.Next v = once _ (link v) ∙ takes_link v
takes_contents s n (contents.Penalty cost) field.Penalty v = twice _ _ (number_within max_penalty v) ∙ takes_within max_penalty v
takes_contents s n (contents.Penalty cost) _ v = refl
takes_contents s n (contents.Glyph g) field.Subtype v = once _ (number_to 255 v) ∙ takes_to 255 v
takes_contents s n (contents.Glyph g) field.Next v = once _ (link v) ∙ takes_link v
takes_contents s n (contents.Glyph g) field.Char v = thrice _ _ _ (number_to 255 v) ∙ takes_to 255 v
takes_contents s n (contents.Glyph g) field.Font v = thrice _ _ _ (number_to 63 v) ∙ takes_to 63 v
takes_contents s n (contents.Glyph g) _ v = refl

pub takes_as_held : (fields : Fields) (f : Field) (v : FieldValue) → result_map {B = Unit {0}} (λ _. tt) (with_field fields f v) ≡ accepts (held (kind_of fields.contents) f) v
takes_as_held fields f v = takes_contents fields.subtype fields.next fields.contents f v
