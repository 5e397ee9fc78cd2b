-- The fields of each kind of node, the numbers that they take, and what a node holds at first
-- (LuaTeX Reference Manual, chapter "Nodes"; "TeX: The Program", sections 133 to 161).
--     field_of fields f        what field f holds, or that there is none
--     with_field fields f v    the fields with v in field f, or why it may not be there
--     kind_of contents         the kind of node with these fields
--     fresh kind               the fields of a new node: zeros and nothings, and a box's ratio 0 over 1
--     unlinked contents        the same numbers, and no links
use Rattle.std.specs.Prelude as prelude
use Rattle.std.specs.Prelude.{ℕ, [], ◌∷◌, ℤ, pos, negsuc, nat_le, if◌then◌else◌, Option, None, Result, Ok, Err}
use Rattle.ntx_num.specs.Answer.{result_map}
use Rattle.ntx_num.specs.Dimension.{is_within, max_dimension, max_penalty, max_order}
use Rattle.ntx_nodes.specs.declared.kind.Kind.{Kind}
use Rattle.ntx_nodes.specs.declared.kind.Kind.TheVariants as kind
use Rattle.ntx_nodes.specs.declared.field.Field.{Field}
use Rattle.ntx_nodes.specs.declared.field.Field.TheVariants.{Subtype, Next, Width, Height, Depth, Shift, List, GlueSign, GlueOrder, GlueNum, GlueDen, Pre, Post, Replace, Stretch, StretchOrder, Shrink, ShrinkOrder, Kern, Penalty, Char, Font}
use Rattle.ntx_nodes.specs.declared.field.FieldValue.{FieldValue}
use Rattle.ntx_nodes.specs.declared.field.FieldValue.TheVariants.{Number, Link}
use Rattle.ntx_nodes.specs.declared.contents.BoxFields.{BoxFields}
use Rattle.ntx_nodes.specs.declared.contents.RuleFields.{RuleFields}
use Rattle.ntx_nodes.specs.declared.contents.DiscFields.{DiscFields}
use Rattle.ntx_nodes.specs.declared.contents.GlueFields.{GlueFields}
use Rattle.ntx_nodes.specs.declared.contents.GlyphFields.{GlyphFields}
use Rattle.ntx_nodes.specs.declared.fields.Contents.{Contents}
use Rattle.ntx_nodes.specs.declared.fields.Contents.TheVariants as contents
use Rattle.ntx_nodes.specs.declared.fields.Fields.{Fields}
use Rattle.ntx_nodes.specs.declared.trouble.Trouble.{Trouble}
use Rattle.ntx_nodes.specs.declared.trouble.Trouble.TheVariants.{NoField, BadValue}

-- a number from -most to most
abbrev pub number_within : ℕ → FieldValue → Result ℤ Trouble
number_within most (Number x) = if is_within most x then Ok x else Err BadValue
number_within most (Link to) = Err BadValue

-- a number from 0 to last
abbrev pub number_to : ℕ → FieldValue → Result ℕ Trouble
number_to last (Number (pos n)) = if nat_le n last then Ok n else Err BadValue
number_to last (Number (negsuc n)) = Err BadValue
number_to last (Link to) = Err BadValue

-- a link
abbrev pub link : FieldValue → Result (Option ℕ) Trouble
link (Number x) = Err BadValue
link (Link to) = Ok to

abbrev pub dimension : FieldValue → Result ℤ Trouble
dimension v = number_within max_dimension v

abbrev pub order : FieldValue → Result ℕ Trouble
order v = number_to max_order v

-- The fields of a box. Its glue is set by its packing alone.
abbrev pub box_field : BoxFields → Field → Result FieldValue Trouble
box_field b Width = Ok (Number b.width)
box_field b Height = Ok (Number b.height)
box_field b Depth = Ok (Number b.depth)
box_field b Shift = Ok (Number b.shift)
box_field b List = Ok (Link b.list)
box_field b GlueSign = Ok (Number (pos b.glue_sign))
box_field b GlueOrder = Ok (Number (pos b.glue_order))
box_field b GlueNum = Ok (Number b.glue_num)
box_field b GlueDen = Ok (Number b.glue_den)
box_field b _ = Err NoField

abbrev pub box_with : BoxFields → Field → FieldValue → Result BoxFields Trouble
box_with b Width v = result_map (λ x. record b { width = x }) (dimension v)
box_with b Height v = result_map (λ x. record b { height = x }) (dimension v)
box_with b Depth v = result_map (λ x. record b { depth = x }) (dimension v)
box_with b Shift v = result_map (λ x. record b { shift = x }) (dimension v)
box_with b List v = result_map (λ to. record b { list = to }) (link v)
box_with b GlueSign v = Err BadValue
box_with b GlueOrder v = Err BadValue
box_with b GlueNum v = Err BadValue
box_with b GlueDen v = Err BadValue
box_with b _ v = Err NoField

abbrev pub rule_field : RuleFields → Field → Result FieldValue Trouble
rule_field r Width = Ok (Number r.width)
rule_field r Height = Ok (Number r.height)
rule_field r Depth = Ok (Number r.depth)
rule_field r _ = Err NoField

abbrev pub rule_with : RuleFields → Field → FieldValue → Result RuleFields Trouble
rule_with r Width v = result_map (λ x. record r { width = x }) (dimension v)
rule_with r Height v = result_map (λ x. record r { height = x }) (dimension v)
rule_with r Depth v = result_map (λ x. record r { depth = x }) (dimension v)
rule_with r _ v = Err NoField

abbrev pub disc_field : DiscFields → Field → Result FieldValue Trouble
disc_field d Pre = Ok (Link d.pre)
disc_field d Post = Ok (Link d.post)
disc_field d Replace = Ok (Link d.replace)
disc_field d _ = Err NoField

abbrev pub disc_with : DiscFields → Field → FieldValue → Result DiscFields Trouble
disc_with d Pre v = result_map (λ to. record d { pre = to }) (link v)
disc_with d Post v = result_map (λ to. record d { post = to }) (link v)
disc_with d Replace v = result_map (λ to. record d { replace = to }) (link v)
disc_with d _ v = Err NoField

abbrev pub glue_field : GlueFields → Field → Result FieldValue Trouble
glue_field g Width = Ok (Number g.width)
glue_field g Stretch = Ok (Number g.stretch)
glue_field g StretchOrder = Ok (Number (pos g.stretch_order))
glue_field g Shrink = Ok (Number g.shrink)
glue_field g ShrinkOrder = Ok (Number (pos g.shrink_order))
glue_field g _ = Err NoField

abbrev pub glue_with : GlueFields → Field → FieldValue → Result GlueFields Trouble
glue_with g Width v = result_map (λ x. record g { width = x }) (dimension v)
glue_with g Stretch v = result_map (λ x. record g { stretch = x }) (dimension v)
glue_with g StretchOrder v = result_map (λ n. record g { stretch_order = n }) (order v)
glue_with g Shrink v = result_map (λ x. record g { shrink = x }) (dimension v)
glue_with g ShrinkOrder v = result_map (λ n. record g { shrink_order = n }) (order v)
glue_with g _ v = Err NoField

abbrev pub kern_field : ℤ → Field → Result FieldValue Trouble
kern_field size Kern = Ok (Number size)
kern_field size _ = Err NoField

abbrev pub kern_with : Field → FieldValue → Result ℤ Trouble
kern_with Kern v = dimension v
kern_with _ v = Err NoField

abbrev pub penalty_field : ℤ → Field → Result FieldValue Trouble
penalty_field cost Penalty = Ok (Number cost)
penalty_field cost _ = Err NoField

abbrev pub penalty_with : Field → FieldValue → Result ℤ Trouble
penalty_with Penalty v = number_within max_penalty v
penalty_with _ v = Err NoField

abbrev pub glyph_field : GlyphFields → Field → Result FieldValue Trouble
glyph_field g Char = Ok (Number (pos g.char))
glyph_field g Font = Ok (Number (pos g.font))
glyph_field g _ = Err NoField

abbrev pub glyph_with : GlyphFields → Field → FieldValue → Result GlyphFields Trouble
glyph_with g Char v = result_map (λ n. record g { char = n }) (number_to 255 v)
glyph_with g Font v = result_map (λ n. record g { font = n }) (number_to 63 v)
glyph_with g _ v = Err NoField

-- The fields of each kind.
abbrev pub contents_field : Contents → Field → Result FieldValue Trouble
contents_field (contents.Hlist b) f = box_field b f
contents_field (contents.Vlist b) f = box_field b f
contents_field (contents.Rule r) f = rule_field r f
contents_field (contents.Disc d) f = disc_field d f
contents_field (contents.Glue g) f = glue_field g f
contents_field (contents.Kern size) f = kern_field size f
contents_field (contents.Penalty cost) f = penalty_field cost f
contents_field (contents.Glyph g) f = glyph_field g f

abbrev pub contents_with : Contents → Field → FieldValue → Result Contents Trouble
contents_with (contents.Hlist b) f v = result_map contents.Hlist (box_with b f v)
contents_with (contents.Vlist b) f v = result_map contents.Vlist (box_with b f v)
contents_with (contents.Rule r) f v = result_map contents.Rule (rule_with r f v)
contents_with (contents.Disc d) f v = result_map contents.Disc (disc_with d f v)
contents_with (contents.Glue g) f v = result_map contents.Glue (glue_with g f v)
contents_with (contents.Kern size) f v = result_map contents.Kern (kern_with f v)
contents_with (contents.Penalty cost) f v = result_map contents.Penalty (penalty_with f v)
contents_with (contents.Glyph g) f v = result_map contents.Glyph (glyph_with g f v)

abbrev pub kind_of : Contents → Kind
kind_of (contents.Hlist b) = kind.Hlist
kind_of (contents.Vlist b) = kind.Vlist
kind_of (contents.Rule r) = kind.Rule
kind_of (contents.Disc d) = kind.Disc
kind_of (contents.Glue g) = kind.Glue
kind_of (contents.Kern size) = kind.Kern
kind_of (contents.Penalty cost) = kind.Penalty
kind_of (contents.Glyph g) = kind.Glyph

-- the number of a kind
abbrev pub number_of : Kind → ℕ
number_of kind.Hlist = 1
number_of kind.Vlist = 2
number_of kind.Rule = 3
number_of kind.Disc = 4
number_of kind.Glue = 5
number_of kind.Kern = 6
number_of kind.Penalty = 7
number_of kind.Glyph = 8

-- the last subtype of a kind, from 0
abbrev pub last_subtype : Kind → ℕ
last_subtype kind.Disc = 3
last_subtype _ = 255

-- the fields of a kind that can be set, beside the subtype
abbrev pub settable_fields : Kind → prelude.List Field
settable_fields kind.Hlist = Next ∷ Width ∷ Height ∷ Depth ∷ Shift ∷ List ∷ []
settable_fields kind.Vlist = Next ∷ Width ∷ Height ∷ Depth ∷ Shift ∷ List ∷ []
settable_fields kind.Rule = Next ∷ Width ∷ Height ∷ Depth ∷ []
settable_fields kind.Disc = Next ∷ Pre ∷ Post ∷ Replace ∷ []
settable_fields kind.Glue = Next ∷ Width ∷ Stretch ∷ StretchOrder ∷ Shrink ∷ ShrinkOrder ∷ []
settable_fields kind.Kern = Next ∷ Kern ∷ []
settable_fields kind.Penalty = Next ∷ Penalty ∷ []
settable_fields kind.Glyph = Next ∷ Char ∷ Font ∷ []

-- an empty box, with a ratio of 0
abbrev pub fresh_box : BoxFields
fresh_box = record { width = pos 0; height = pos 0; depth = pos 0; shift = pos 0; list = None; glue_sign = 0; glue_order = 0; glue_num = pos 0; glue_den = pos 1 }

abbrev pub fresh : Kind → Contents
fresh kind.Hlist = contents.Hlist fresh_box
fresh kind.Vlist = contents.Vlist fresh_box
fresh kind.Rule = contents.Rule (record { width = pos 0; height = pos 0; depth = pos 0 })
fresh kind.Disc = contents.Disc (record { pre = None; post = None; replace = None })
fresh kind.Glue = contents.Glue (record { width = pos 0; stretch = pos 0; stretch_order = 0; shrink = pos 0; shrink_order = 0 })
fresh kind.Kern = contents.Kern (pos 0)
fresh kind.Penalty = contents.Penalty (pos 0)
fresh kind.Glyph = contents.Glyph (record { char = 0; font = 0 })

abbrev pub unlinked : Contents → Contents
unlinked (contents.Hlist b) = contents.Hlist (record b { list = None })
unlinked (contents.Vlist b) = contents.Vlist (record b { list = None })
unlinked (contents.Disc d) = contents.Disc (record { pre = None; post = None; replace = None })
unlinked c = c

-- what a field holds
abbrev pub field_of : Fields → Field → Result FieldValue Trouble
field_of fields Subtype = Ok (Number (pos fields.subtype))
field_of fields Next = Ok (Link fields.next)
field_of fields f = contents_field fields.contents f

-- the fields with the value in the field
abbrev pub with_field : Fields → Field → FieldValue → Result Fields Trouble
with_field fields Subtype v = result_map (λ k. record fields { subtype = k }) (number_to (last_subtype (kind_of fields.contents)) v)
with_field fields Next v = result_map (λ to. record fields { next = to }) (link v)
with_field fields f v = result_map (λ c. record fields { contents = c }) (contents_with fields.contents f v)
