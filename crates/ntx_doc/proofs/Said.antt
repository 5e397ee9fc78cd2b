-- What an instruction keeps that a line of this form says.
use Rattle.std.proofs.Common.{◌≡◌, ℕ, ◌≤◌, ℤ, pos, negsuc, Bool, true, false, List, [], ◌∷◌, refl, sym, ◌∙◌, true≢false, arith}
use Rattle.std.specs.Prelude.{Result, Ok, Err, IfOk, unsigned_abs, bytes_eq, codes, if◌then◌else◌}
use Rattle.std.proofs.lemmas.Bool.Decides.{nat_tests}
use Rattle.ntx_num.specs.Answer.{result_map}
use Rattle.ntx_num.specs.Dimension.{is_dimension, max_order}
use Rattle.ntx_item.specs.Parameters.{Range, is_in, is_glue_in_range, dimensions, param_named, glue_param_named, range_of}
use Rattle.ntx_item.specs.declared.pack_to.PackTo.TheVariants.{Exactly, Additional}
use Rattle.ntx_doc.specs.declared.command.Command.{Command}
use Rattle.ntx_doc.specs.declared.command.Command.TheVariants as kind
use Rattle.ntx_doc.specs.declared.form.Form.{Form}
use Rattle.ntx_doc.specs.declared.form.Form.TheVariants as form
use Rattle.ntx_doc.specs.declared.fault.DocWhy.{DocWhy}
use Rattle.ntx_doc.specs.declared.fault.DocWhy.TheVariants as why
use Rattle.ntx_doc.specs.Text.{number_of}
use Rattle.ntx_doc.specs.Numbers.{number_in, natural_in, dimension_in, order_in, font_in, penalties, attributes, attribute_values}
use Rattle.ntx_doc.specs.Instruction.{Instruction, Put, ChooseFont, OpenBox, CloseBox, PutChar, PutSpace, PutWords, set, glue_spec, set_glue, attr, no_attr, glue, kern, penalty, rule, box_width, font_number, code, words, alone, instruction}
use Rattle.ntx_doc.specs.Shape.{is_box_width}
use Rattle.ntx_doc.proofs.Answered.{if_ok_map, if_ok_then, if_ok_unless, if_ok_without}
use Rattle.ntx_doc.proofs.KeptCommands.{IsInner, IsPlainOuter, set_outer, set_glue_outer, attr_outer, no_attr_outer, attr_inner, no_attr_inner, glue_inner, kern_inner, penalty_inner, rule_inner}

-- ---- numbers

number_kept : (range : Range) (field : List ℕ) → IfOk (number_in range field) (λ z. is_in range z ≡ true)
number_kept range field =
    if_ok_without (λ z. is_in range z ≡ true) why.Number (number_of field) _ (λ z. if_ok_unless (λ z. is_in range z ≡ true) why.Range (is_in range z) (Ok z) (λ e. e))

natural_small : (most : ℕ) (z : ℤ) → is_in (record { low = pos 0; high = pos most }) z ≡ true → unsigned_abs z ≤ most
natural_small most (pos n) within = grind (arith, nat_tests)
natural_small most (negsuc n) within = cc

natural_kept : (most : ℕ) (field : List ℕ) → IfOk (natural_in most field) (λ n. n ≤ most)
natural_kept most field =
    if_ok_map (λ z. is_in (record { low = pos 0; high = pos most }) z ≡ true) (λ n. n ≤ most) unsigned_abs (number_in (record { low = pos 0; high = pos most }) field)
    (number_kept (record { low = pos 0; high = pos most }) field) (natural_small most)

dimension_kept : (field : List ℕ) → IfOk (dimension_in field) (λ z. is_dimension z ≡ true)
dimension_kept field = number_kept dimensions field

glue_in_range : (w st : ℤ) (so : ℕ) (sh : ℤ) (ho : ℕ) → is_dimension w ≡ true → is_dimension st ≡ true → so ≤ max_order → is_dimension sh ≡ true → ho ≤ max_order
    → is_glue_in_range (record { width = w; stretch = st; stretch_order = so; shrink = sh; shrink_order = ho }) ≡ true
glue_in_range w st so sh ho a b c d e = rw (a, b, d) (grind (arith, nat_tests))

glue_spec_kept : (w st so sh ho : List ℕ) → IfOk (glue_spec w st so sh ho) (λ spec. is_glue_in_range spec ≡ true)
glue_spec_kept width stretch stretch_order shrink shrink_order =
    if_ok_then (λ z. is_dimension z ≡ true) (λ spec. is_glue_in_range spec ≡ true) (dimension_in width) _ (dimension_kept width) (λ w a.
    if_ok_then (λ z. is_dimension z ≡ true) (λ spec. is_glue_in_range spec ≡ true) (dimension_in stretch) _ (dimension_kept stretch) (λ st b.
    if_ok_then (λ n. n ≤ max_order) (λ spec. is_glue_in_range spec ≡ true) (order_in stretch_order) _ (natural_kept max_order stretch_order) (λ so c.
    if_ok_then (λ z. is_dimension z ≡ true) (λ spec. is_glue_in_range spec ≡ true) (dimension_in shrink) _ (dimension_kept shrink) (λ sh d.
    if_ok_then (λ n. n ≤ max_order) (λ spec. is_glue_in_range spec ≡ true) (order_in shrink_order) _ (natural_kept max_order shrink_order) (λ ho e.
    glue_in_range w st so sh ho a b c d e)))))

-- ---- commands

abbrev pub IsOutside : Command → Type 0
IsOutside command = (fonts d : ℕ) → IsPlainOuter fonts d command

abbrev pub IsInside : Command → Type 0
IsInside command = (fonts d : ℕ) → IsInner fonts d command

abbrev IsAnywhere : Command → Type 0
IsAnywhere command = IsOutside command × IsInside command

set_kept : (fields : List (List ℕ)) → IfOk (set fields) IsOutside
set_kept [] = tt
set_kept (name ∷ []) = tt
set_kept (name ∷ v ∷ []) =
    if_ok_without IsOutside why.Name (param_named name) _ (λ p.
    if_ok_map (λ z. is_in (range_of p) z ≡ true) IsOutside (kind.Set p) (number_in (range_of p) v) (number_kept (range_of p) v) (λ z within fonts d. set_outer fonts d p z within))
set_kept (name ∷ v ∷ more ∷ others) = tt

set_glue_kept : (fields : List (List ℕ)) → IfOk (set_glue fields) IsOutside
set_glue_kept [] = tt
set_glue_kept (name ∷ []) = tt
set_glue_kept (name ∷ w ∷ []) = tt
set_glue_kept (name ∷ w ∷ st ∷ []) = tt
set_glue_kept (name ∷ w ∷ st ∷ so ∷ []) = tt
set_glue_kept (name ∷ w ∷ st ∷ so ∷ sh ∷ []) = tt
set_glue_kept (name ∷ w ∷ st ∷ so ∷ sh ∷ ho ∷ []) =
    if_ok_without IsOutside why.Name (glue_param_named name) _ (λ g.
    if_ok_map (λ spec. is_glue_in_range spec ≡ true) IsOutside (kind.SetGlue g) (glue_spec w st so sh ho) (glue_spec_kept w st so sh ho) (λ spec within fonts d. set_glue_outer fonts d g spec within))
set_glue_kept (name ∷ w ∷ st ∷ so ∷ sh ∷ ho ∷ more ∷ others) = tt

attr_kept : (fields : List (List ℕ)) → IfOk (attr fields) IsAnywhere
attr_kept [] = tt
attr_kept (id ∷ []) = tt
attr_kept (id ∷ v ∷ []) =
    if_ok_then (λ z. is_in attributes z ≡ true) IsAnywhere (number_in attributes id) _ (number_kept attributes id) (λ i x.
    if_ok_map (λ z. is_in attribute_values z ≡ true) IsAnywhere (kind.Attr i) (number_in attribute_values v) (number_kept attribute_values v) (λ z y.
    ((λ fonts d. attr_outer fonts d i z x y), (λ fonts d. attr_inner fonts d i z x y))))
attr_kept (id ∷ v ∷ more ∷ others) = tt

no_attr_kept : (fields : List (List ℕ)) → IfOk (no_attr fields) IsAnywhere
no_attr_kept [] = tt
no_attr_kept (id ∷ []) =
    if_ok_map (λ z. is_in attributes z ≡ true) IsAnywhere kind.NoAttr (number_in attributes id) (number_kept attributes id) (λ i x.
    ((λ fonts d. no_attr_outer fonts d i x), (λ fonts d. no_attr_inner fonts d i x)))
no_attr_kept (id ∷ more ∷ others) = tt

glue_kept : (fields : List (List ℕ)) → IfOk (glue fields) IsInside
glue_kept [] = tt
glue_kept (w ∷ []) = tt
glue_kept (w ∷ st ∷ []) = tt
glue_kept (w ∷ st ∷ so ∷ []) = tt
glue_kept (w ∷ st ∷ so ∷ sh ∷ []) = tt
glue_kept (w ∷ st ∷ so ∷ sh ∷ ho ∷ []) =
    if_ok_map (λ spec. is_glue_in_range spec ≡ true) IsInside kind.Glue (glue_spec w st so sh ho) (glue_spec_kept w st so sh ho) (λ spec within fonts d. glue_inner fonts d spec within)
glue_kept (w ∷ st ∷ so ∷ sh ∷ ho ∷ more ∷ others) = tt

kern_kept : (fields : List (List ℕ)) → IfOk (kern fields) IsInside
kern_kept [] = tt
kern_kept (w ∷ []) = if_ok_map (λ z. is_dimension z ≡ true) IsInside kind.Kern (dimension_in w) (dimension_kept w) (λ z within fonts d. kern_inner fonts d z within)
kern_kept (w ∷ more ∷ others) = tt

penalty_kept : (fields : List (List ℕ)) → IfOk (penalty fields) IsInside
penalty_kept [] = tt
penalty_kept (p ∷ []) =
    if_ok_map (λ z. is_in penalties z ≡ true) IsInside kind.Penalty (number_in penalties p) (number_kept penalties p) (λ z within fonts d. penalty_inner fonts d z within)
penalty_kept (p ∷ more ∷ others) = tt

rule_kept : (fields : List (List ℕ)) → IfOk (rule fields) IsInside
rule_kept [] = tt
rule_kept (width ∷ []) = tt
rule_kept (width ∷ height ∷ []) = tt
rule_kept (width ∷ height ∷ depth ∷ []) =
    if_ok_then (λ z. is_dimension z ≡ true) IsInside (dimension_in width) _ (dimension_kept width) (λ w x.
    if_ok_then (λ z. is_dimension z ≡ true) IsInside (dimension_in height) _ (dimension_kept height) (λ h y.
    if_ok_then (λ z. is_dimension z ≡ true) IsInside (dimension_in depth) _ (dimension_kept depth) (λ d z fonts n.
    rule_inner fonts n (record { w = w; h = h; d = d }) x y z)))
rule_kept (width ∷ height ∷ depth ∷ more ∷ others) = tt

-- ---- fonts and boxes

font_kept : (fields : List (List ℕ)) → IfOk (font_number fields) (λ n. n ≤ 63)
font_kept [] = tt
font_kept (k ∷ []) = natural_kept 63 k
font_kept (k ∷ more ∷ others) = tt

width_kept : (word w : List ℕ) (to_word spread_word : Bool)
    → IfOk (if to_word then result_map Exactly (dimension_in w) else (if spread_word then result_map Additional (dimension_in w) else Err why.Fields)) (λ to. is_box_width to ≡ true)
width_kept word w true spread_word = if_ok_map (λ z. is_dimension z ≡ true) (λ to. is_box_width to ≡ true) Exactly (dimension_in w) (dimension_kept w) (λ z within. within)
width_kept word w false true = if_ok_map (λ z. is_dimension z ≡ true) (λ to. is_box_width to ≡ true) Additional (dimension_in w) (dimension_kept w) (λ z within. within)
width_kept word w false false = tt

box_width_kept : (fields : List (List ℕ)) → IfOk (box_width fields) (λ to. is_box_width to ≡ true)
box_width_kept [] = refl
box_width_kept (word ∷ []) = tt
box_width_kept (word ∷ w ∷ []) = width_kept word w (bytes_eq word (codes "to")) (bytes_eq word (codes "spread"))
box_width_kept (word ∷ w ∷ more ∷ others) = tt

-- ---- instructions

-- a line of this form may stand outside of boxes, in a box
abbrev pub stands_outside : Form → Bool
stands_outside form.Set = true
stands_outside form.SetGlue = true
stands_outside form.Font = true
stands_outside form.Attr = true
stands_outside form.NoAttr = true
stands_outside form.HBox = true
stands_outside _ = false

abbrev pub stands_inside : Form → Bool
stands_inside form.Set = false
stands_inside form.SetGlue = false
stands_inside _ = true

abbrev pub IsSaid : Form → Instruction → Type 0
IsSaid f (Put command) = (stands_outside f ≡ true → IsOutside command) × (stands_inside f ≡ true → IsInside command)
IsSaid f (ChooseFont font) = font ≤ 63
IsSaid f (OpenBox to) = (f ≡ form.HBox) × (is_box_width to ≡ true)
IsSaid f CloseBox = Unit {0}
IsSaid f (PutChar code) = stands_outside f ≡ false
IsSaid f PutSpace = stands_outside f ≡ false
IsSaid f (PutWords words) = stands_outside f ≡ false

outside_said : (f : Form) (command : Result Command DocWhy) → stands_inside f ≡ false → IfOk command IsOutside → IfOk (result_map Put command) (IsSaid f)
outside_said f command e h = if_ok_map IsOutside (IsSaid f) Put command h (λ c k. ((λ x. k), (λ x. absurd (true≢false (sym x ∙ e)))))

inside_said : (f : Form) (command : Result Command DocWhy) → stands_outside f ≡ false → IfOk command IsInside → IfOk (result_map Put command) (IsSaid f)
inside_said f command e h = if_ok_map IsInside (IsSaid f) Put command h (λ c k. ((λ x. absurd (true≢false (sym x ∙ e))), (λ x. k)))

anywhere_said : (f : Form) (command : Result Command DocWhy) → IfOk command IsAnywhere → IfOk (result_map Put command) (IsSaid f)
anywhere_said f command h = if_ok_map IsAnywhere (IsSaid f) Put command h (λ c k. ((λ x. k.0), (λ x. k.1)))

alone_said : (f : Form) (i : Instruction) → IsSaid f i → (fields : List (List ℕ)) → IfOk (alone i fields) (IsSaid f)
alone_said f i said [] = said
alone_said f i said (field ∷ others) = tt

words_said : (fields : List (List ℕ)) → IfOk (result_map PutWords (words fields)) (IsSaid form.Text)
words_said [] = tt
words_said (word ∷ others) = refl

code_said : (codes : Result ℕ DocWhy) → IfOk (result_map PutChar codes) (IsSaid form.Char)
code_said (Ok c) = refl
code_said (Err e) = tt

pub instruction_said : (f : Form) (fields : List (List ℕ)) → IfOk (instruction f fields) (IsSaid f)
instruction_said form.Set fields = outside_said form.Set (set fields) refl (set_kept fields)
instruction_said form.SetGlue fields = outside_said form.SetGlue (set_glue fields) refl (set_glue_kept fields)
instruction_said form.Font fields = if_ok_map (λ n. n ≤ 63) (IsSaid form.Font) ChooseFont (font_number fields) (font_kept fields) (λ n low. low)
instruction_said form.Attr fields = anywhere_said form.Attr (attr fields) (attr_kept fields)
instruction_said form.NoAttr fields = anywhere_said form.NoAttr (no_attr fields) (no_attr_kept fields)
instruction_said form.HBox fields =
    if_ok_map (λ to. is_box_width to ≡ true) (IsSaid form.HBox) OpenBox (box_width fields) (box_width_kept fields) (λ to width. (refl, width))
instruction_said form.End fields = alone_said form.End CloseBox tt fields
instruction_said form.Glue fields = inside_said form.Glue (glue fields) refl (glue_kept fields)
instruction_said form.Kern fields = inside_said form.Kern (kern fields) refl (kern_kept fields)
instruction_said form.Penalty fields = inside_said form.Penalty (penalty fields) refl (penalty_kept fields)
instruction_said form.Rule fields = inside_said form.Rule (rule fields) refl (rule_kept fields)
instruction_said form.Char fields = code_said (code fields)
instruction_said form.Space fields = alone_said form.Space PutSpace refl fields
instruction_said form.Text fields = words_said fields
