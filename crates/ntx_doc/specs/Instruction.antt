-- What a line says by itself, in any place: an instruction. It is read from the fields after the first one.
--     instruction form fields      what a line of this form says, or why it is refused
-- Each refusal here is a wrong number of fields or a wrong word (`Fields`), a name that no parameter has (`Name`), or a field
-- that is no number or out of range (`Number`, `Range`); the fields are read from the left.
use Rattle.std.specs.Prelude.{ℕ, List, [], ◌∷◌, pos, Result, Ok, Err, if◌then◌else◌, bytes_eq, codes}
use Rattle.ntx_num.specs.Answer.{result_map, result_and_then}
use Rattle.ntx_num.specs.declared.size.Size.{Size}
use Rattle.ntx_item.specs.Parameters.{param_named, glue_param_named, range_of}
use Rattle.ntx_item.specs.declared.glue.GlueSpec.{GlueSpec}
use Rattle.ntx_item.specs.declared.pack_to.PackTo.{PackTo}
use Rattle.ntx_item.specs.declared.pack_to.PackTo.TheVariants.{Exactly, Additional}
use Rattle.ntx_doc.specs.declared.command.Command.{Command}
use Rattle.ntx_doc.specs.declared.command.Command.TheVariants.{Set, SetGlue, Attr, NoAttr, Glue, Kern, Penalty, Rule}
use Rattle.ntx_doc.specs.declared.form.Form.{Form}
use Rattle.ntx_doc.specs.declared.form.Form.TheVariants as form
use Rattle.ntx_doc.specs.declared.fault.DocWhy.{DocWhy}
use Rattle.ntx_doc.specs.declared.fault.DocWhy.TheVariants as why
use Rattle.ntx_doc.specs.Refusal.{refused_without}
use Rattle.ntx_doc.specs.Numbers.{number_in, dimension_in, order_in, code_in, font_in, penalties, attributes, attribute_values}

pub data Instruction : Type 0 where
  -- put this command here
  Put : Command → Instruction
  -- make the font of this number the current one
  ChooseFont : ℕ → Instruction
  -- open a box that is packed to this width
  OpenBox : PackTo → Instruction
  -- close the innermost open box
  CloseBox : Instruction
  -- put the character of this code in the current font here
  PutChar : ℕ → Instruction
  -- put the space glue of the current font here
  PutSpace : Instruction
  -- put these words in the current font here; there is at least one
  PutWords : List (List ℕ) → Instruction

-- ---- parameters and attributes

-- `set NAME V`: the parameter of this name that is a number, and a value in its range
abbrev pub set : List (List ℕ) → Result Command DocWhy
set (name ∷ v ∷ []) = refused_without why.Name (param_named name) (λ p. result_map (Set p) (number_in (range_of p) v))
set _ = Err why.Fields

-- the glue of a width, a stretch and its order, a shrink and its order
abbrev pub glue_spec : List ℕ → List ℕ → List ℕ → List ℕ → List ℕ → Result GlueSpec DocWhy
glue_spec width stretch stretch_order shrink shrink_order =
    result_and_then (dimension_in width) (λ w.
    result_and_then (dimension_in stretch) (λ st.
    result_and_then (order_in stretch_order) (λ so.
    result_and_then (dimension_in shrink) (λ sh.
    result_and_then (order_in shrink_order) (λ ho.
    Ok (record { width = w; stretch = st; stretch_order = so; shrink = sh; shrink_order = ho }))))))

-- `setglue NAME W ST SO SH HO`: the parameter of this name that is glue
abbrev pub set_glue : List (List ℕ) → Result Command DocWhy
set_glue (name ∷ w ∷ st ∷ so ∷ sh ∷ ho ∷ []) =
    refused_without why.Name (glue_param_named name) (λ g. result_map (SetGlue g) (glue_spec w st so sh ho))
set_glue _ = Err why.Fields

-- `attr ID V`
abbrev pub attr : List (List ℕ) → Result Command DocWhy
attr (id ∷ v ∷ []) =
    result_and_then (number_in attributes id) (λ i. result_map (Attr i) (number_in attribute_values v))
attr _ = Err why.Fields

-- `noattr ID`
abbrev pub no_attr : List (List ℕ) → Result Command DocWhy
no_attr (id ∷ []) = result_map NoAttr (number_in attributes id)
no_attr _ = Err why.Fields

-- ---- nodes

-- `glue W ST SO SH HO`
abbrev pub glue : List (List ℕ) → Result Command DocWhy
glue (w ∷ st ∷ so ∷ sh ∷ ho ∷ []) = result_map Glue (glue_spec w st so sh ho)
glue _ = Err why.Fields

-- `kern W`
abbrev pub kern : List (List ℕ) → Result Command DocWhy
kern (w ∷ []) = result_map Kern (dimension_in w)
kern _ = Err why.Fields

-- `penalty P`
abbrev pub penalty : List (List ℕ) → Result Command DocWhy
penalty (p ∷ []) = result_map Penalty (number_in penalties p)
penalty _ = Err why.Fields

-- `rule W H D`
abbrev pub rule : List (List ℕ) → Result Command DocWhy
rule (width ∷ height ∷ depth ∷ []) =
    result_and_then (dimension_in width) (λ w.
    result_and_then (dimension_in height) (λ h.
    result_and_then (dimension_in depth) (λ d. Ok (Rule (record { w = w; h = h; d = d })))))
rule _ = Err why.Fields

-- ---- boxes, fonts and text

-- `hbox`, `hbox to W` or `hbox spread W`: a box of its natural width, of width W, or of its natural width and W more
abbrev pub box_width : List (List ℕ) → Result PackTo DocWhy
box_width [] = Ok (Additional (pos 0))
box_width (word ∷ w ∷ []) =
    if bytes_eq word (codes "to") then result_map Exactly (dimension_in w)
    else (if bytes_eq word (codes "spread") then result_map Additional (dimension_in w)
    else Err why.Fields)
box_width _ = Err why.Fields

-- `font K`
abbrev pub font_number : List (List ℕ) → Result ℕ DocWhy
font_number (k ∷ []) = font_in k
font_number _ = Err why.Fields

-- `char C`
abbrev pub code : List (List ℕ) → Result ℕ DocWhy
code (c ∷ []) = code_in c
code _ = Err why.Fields

-- `text` and one or more words
abbrev pub words : List (List ℕ) → Result (List (List ℕ)) DocWhy
words [] = Err why.Fields
words (word ∷ others) = Ok (word ∷ others)

-- `end` and `space` stand alone
abbrev pub alone : Instruction → List (List ℕ) → Result Instruction DocWhy
alone i [] = Ok i
alone i (field ∷ others) = Err why.Fields

-- ---- the forms

-- what a line of this form says, with these fields after its first one
abbrev pub instruction : Form → List (List ℕ) → Result Instruction DocWhy
instruction form.Set fields = result_map Put (set fields)
instruction form.SetGlue fields = result_map Put (set_glue fields)
instruction form.Font fields = result_map ChooseFont (font_number fields)
instruction form.Attr fields = result_map Put (attr fields)
instruction form.NoAttr fields = result_map Put (no_attr fields)
instruction form.HBox fields = result_map OpenBox (box_width fields)
instruction form.End fields = alone CloseBox fields
instruction form.Glue fields = result_map Put (glue fields)
instruction form.Kern fields = result_map Put (kern fields)
instruction form.Penalty fields = result_map Put (penalty fields)
instruction form.Rule fields = result_map Put (rule fields)
instruction form.Char fields = result_map PutChar (code fields)
instruction form.Space fields = alone PutSpace fields
instruction form.Text fields = result_map PutWords (words fields)
