-- Where a line leads to from a place, or why it is refused there.
--     after_line fonts line place      the place after this line, if there are as many fonts
-- The tests come in this order: the bytes of the line, its first field, whether that may stand here, the other fields
-- (`instruction` of Instruction.antt), and then fonts and depth (`follow` of Place.antt).
use Rattle.std.specs.Prelude.{ℕ, ◌==◌, ◌||◌, Bool, true, not, List, [], ◌∷◌, length, Result, Ok, if◌then◌else◌, slice_index}
use Rattle.std.specs.List.{list_all}
use Rattle.ntx_num.specs.Answer.{result_and_then}
use Rattle.ntx_doc.specs.declared.form.Form.{Form}
use Rattle.ntx_doc.specs.declared.form.Form.TheVariants as form
use Rattle.ntx_doc.specs.declared.fault.DocWhy.{DocWhy}
use Rattle.ntx_doc.specs.declared.fault.DocWhy.TheVariants as why
use Rattle.ntx_doc.specs.Refusal.{refused_unless, refused_without}
use Rattle.ntx_doc.specs.Text.{is_plain, fields_of}
use Rattle.ntx_doc.specs.Forms.{form_of_word}
use Rattle.ntx_doc.specs.Instruction.{instruction}
use Rattle.ntx_doc.specs.Place.{Place, follow}

-- no box is open
abbrev pub is_at_top : Place → Bool
is_at_top place = length place.groups == 0

-- Parameters are set outside of boxes; attributes and the current font change anywhere. A box opens in a box, and outside of
-- boxes once. All other lines stand in a box.
abbrev pub may_stand : Form → Place → Bool
may_stand form.Set place = is_at_top place
may_stand form.SetGlue place = is_at_top place
may_stand form.Font place = true
may_stand form.Attr place = true
may_stand form.NoAttr place = true
may_stand form.HBox place = not (is_at_top place) || not place.has_box
may_stand _ place = not (is_at_top place)

-- the place after a line of this form with these fields after its first one
abbrev pub carry_out : ℕ → Form → List (List ℕ) → Place → Result Place DocWhy
carry_out fonts f fields place = result_and_then (instruction f fields) (λ i. follow fonts i place)

-- `Command`: the first field is no form's, or a line of its form may not stand here.
abbrev pub after_command : ℕ → List ℕ → List (List ℕ) → Place → Result Place DocWhy
after_command fonts word fields place =
    refused_without why.Command (form_of_word word) (λ f.
    refused_unless why.Command (may_stand f place) (carry_out fonts f fields place))

-- a percent sign begins the field
abbrev pub is_comment : List ℕ → Bool
is_comment word = slice_index word 0 == 37

-- A line without fields is skipped, and so is one whose first field begins with a percent sign.
abbrev pub after_fields : ℕ → List (List ℕ) → Place → Result Place DocWhy
after_fields fonts [] place = Ok place
after_fields fonts (word ∷ fields) place = if is_comment word then Ok place else after_command fonts word fields place

-- the place after a line
abbrev pub after_line : ℕ → List ℕ → Place → Result Place DocWhy
after_line fonts line place = refused_unless why.Byte (list_all is_plain line) (after_fields fonts (fields_of line) place)
