-- The table of fields: what each field of each kind of node holds (LuaTeX Reference Manual, chapter "Nodes").
--     held kind f          what field f holds in nodes of a kind
--     IsHeld, ReadsAs      a number that it may hold; what is read there
--     accepts              whether a value can be set there
use Rattle.std.specs.Prelude.{◌≡◌, ◌^◌, ℤ, pos, neg_ℤ, ◌≤ℤ◌, int_le, ◌&&◌, if◌then◌else◌, ℕ, Option, None, Some, Result, Ok, Err}
use Rattle.ntx_num.specs.Dimension.{max_dimension, max_penalty, max_order}
use Rattle.ntx_nodes.specs.declared.kind.Kind.{Kind}
use Rattle.ntx_nodes.specs.declared.kind.Kind.TheVariants as kind
use Rattle.ntx_nodes.specs.declared.field.Field.{Field}
use Rattle.ntx_nodes.specs.declared.field.Field.TheVariants as field
use Rattle.ntx_nodes.specs.declared.field.FieldValue.{FieldValue}
use Rattle.ntx_nodes.specs.declared.field.FieldValue.TheVariants.{Number, Link}
use Rattle.ntx_nodes.specs.declared.trouble.Trouble.{Trouble}
use Rattle.ntx_nodes.specs.declared.trouble.Trouble.TheVariants.{NoField, BadValue}

pub data Held : Type 0 where
  -- nodes of the kind have no such field
  Missing : Held
  -- the name of a node, or nothing
  Linked : Held
  -- a number from the first to the second
  Ranged : ℤ → ℤ → Held
  -- a number that the setting of a box's glue alone sets: from the first to the second, if there is one
  Fixed : ℤ → Option ℤ → Held

-- a length, an order of infinity, and what a byte names
abbrev pub a_dimension : Held
a_dimension = Ranged (neg_ℤ (pos max_dimension)) (pos max_dimension)

abbrev pub an_order : Held
an_order = Ranged (pos 0) (pos max_order)

-- the fields of every kind
abbrev pub held_in_any : Field → Held
held_in_any field.Subtype = Ranged (pos 0) (pos 255)
held_in_any field.Next = Linked
held_in_any _ = Missing

abbrev pub held_in_box : Field → Held
held_in_box field.Width = a_dimension
held_in_box field.Height = a_dimension
held_in_box field.Depth = a_dimension
held_in_box field.Shift = a_dimension
held_in_box field.List = Linked
held_in_box field.GlueSign = Fixed (pos 0) (Some (pos 2))
held_in_box field.GlueOrder = Fixed (pos 0) (Some (pos max_order))
held_in_box field.GlueNum = Fixed (neg_ℤ (pos (2 ^ 32))) (Some (pos (2 ^ 32)))
held_in_box field.GlueDen = Fixed (pos 1) None
held_in_box f = held_in_any f

abbrev pub held_in_rule : Field → Held
held_in_rule field.Width = a_dimension
held_in_rule field.Height = a_dimension
held_in_rule field.Depth = a_dimension
held_in_rule f = held_in_any f

abbrev pub held_in_disc : Field → Held
held_in_disc field.Subtype = Ranged (pos 0) (pos 3)
held_in_disc field.Pre = Linked
held_in_disc field.Post = Linked
held_in_disc field.Replace = Linked
held_in_disc f = held_in_any f

abbrev pub held_in_glue : Field → Held
held_in_glue field.Width = a_dimension
held_in_glue field.Stretch = a_dimension
held_in_glue field.StretchOrder = an_order
held_in_glue field.Shrink = a_dimension
held_in_glue field.ShrinkOrder = an_order
held_in_glue f = held_in_any f

abbrev pub held_in_kern : Field → Held
held_in_kern field.Kern = a_dimension
held_in_kern f = held_in_any f

abbrev pub held_in_penalty : Field → Held
held_in_penalty field.Penalty = Ranged (neg_ℤ (pos max_penalty)) (pos max_penalty)
held_in_penalty f = held_in_any f

abbrev pub held_in_glyph : Field → Held
held_in_glyph field.Char = Ranged (pos 0) (pos 255)
held_in_glyph field.Font = Ranged (pos 0) (pos 63)
held_in_glyph f = held_in_any f

abbrev pub held : Kind → Field → Held
held kind.Hlist f = held_in_box f
held kind.Vlist f = held_in_box f
held kind.Rule f = held_in_rule f
held kind.Disc f = held_in_disc f
held kind.Glue f = held_in_glue f
held kind.Kern f = held_in_kern f
held kind.Penalty f = held_in_penalty f
held kind.Glyph f = held_in_glyph f

abbrev pub IsAtMost : ℤ → Option ℤ → Type 0
IsAtMost x None = Unit {0}
IsAtMost x (Some most) = x ≤ℤ most

-- whether such a field may hold a number
abbrev pub IsHeld : Held → ℤ → Type 0
IsHeld (Ranged least most) x = (least ≤ℤ x) × (x ≤ℤ most)
IsHeld (Fixed least most) x = (least ≤ℤ x) × IsAtMost x most
IsHeld _ x = ⊥

-- what is read there
abbrev pub ReadsAs : Held → Result FieldValue Trouble → Type 0
ReadsAs Missing r = r ≡ Err NoField
ReadsAs Linked r = (to : Option ℕ) × (r ≡ Ok (Link to))
ReadsAs (Ranged least most) r = (x : ℤ) × (r ≡ Ok (Number x))
ReadsAs (Fixed least most) r = (x : ℤ) × (r ≡ Ok (Number x))

-- whether a value can be set there, or why not; of a link it is not said here whether the node that it names is live
abbrev pub accepts : Held → FieldValue → Result (Unit {0}) Trouble
accepts Missing v = Err NoField
accepts Linked (Link to) = Ok tt
accepts (Ranged least most) (Number x) = if int_le least x && int_le x most then Ok tt else Err BadValue
accepts _ v = Err BadValue
