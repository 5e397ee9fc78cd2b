-- What the commands of a document keep: line by line from the first place.
use Rattle.std.proofs.Common.{◌≡◌, ℕ, ◌+◌, ◌≤◌, ◌<◌, Bool, true, false, cond, not, ◌||◌, ◌&&◌, List, [], ◌∷◌, map, length, filter, reverse, refl, sym, ap, subst, ◌∙◌, true≢false, arith}
use Rattle.std.specs.Prelude.{nat_lt, Option, None, Some, Result, Ok, Err, IfOk, slice_index, ◌==◌, if◌then◌else◌}
use Rattle.std.specs.List.{AllByRecursion, list_all}
use Rattle.std.specs.Str.Lines.{lines}
use Rattle.std.proofs.lemmas.Bool.Decides.{nat_tests}
use Rattle.ntx_doc.specs.declared.command.Command.{Command}
use Rattle.ntx_doc.specs.declared.command.Command.TheVariants as kind
use Rattle.ntx_doc.specs.declared.group.Group.{Group}
use Rattle.ntx_doc.specs.declared.form.Form.{Form}
use Rattle.ntx_doc.specs.declared.form.Form.TheVariants as form
use Rattle.ntx_doc.specs.declared.fault.DocWhy.{DocWhy}
use Rattle.ntx_doc.specs.declared.fault.DocWhy.TheVariants as why
use Rattle.ntx_doc.specs.declared.fault.DocFault.{DocFault}
use Rattle.ntx_doc.specs.Text.{is_plain, fields_of}
use Rattle.ntx_doc.specs.Forms.{form_of_word}
use Rattle.ntx_doc.specs.Instruction.{Instruction, Put, ChooseFont, OpenBox, CloseBox, PutChar, PutSpace, PutWords, instruction}
use Rattle.ntx_doc.specs.Place.{Place, first_place, max_depth, put, with_font, opened, with_words, if_font, follow}
use Rattle.ntx_doc.specs.Lines.{is_at_top, may_stand, carry_out, after_command, is_comment, after_fields, after_line}
use Rattle.ntx_doc.specs.Document.{at_end, at_line, commands_after, document_of}
use Rattle.ntx_doc.specs.Shape.{has_numbers_in_range, has_fonts, may_stand_outside, is_box, greatest, box_depth}
use Rattle.ntx_doc.proofs.Answered.{if_ok_then, if_ok_unless, if_ok_without}
use Rattle.ntx_doc.proofs.KeptCommands.{IsOuter, glyph_inner, space_inner}
use Rattle.ntx_doc.proofs.Said.{stands_outside, stands_inside, IsSaid, instruction_said}
use Rattle.ntx_doc.proofs.KeptPlaces.{IsKept, IsKeptPlace, box_count, first_kept, put_kept, words_kept, font_kept, opened_kept, closed_kept, nonempty, at_most_one}

-- ---- where lines stand

top_stands : (f : Form) (place : Place) → place.groups ≡ [] → may_stand f place ≡ true → stands_outside f ≡ true
top_stands form.Set place top may = refl
top_stands form.SetGlue place top may = refl
top_stands form.Font place top may = refl
top_stands form.Attr place top may = refl
top_stands form.NoAttr place top may = refl
top_stands form.HBox place top may = refl
top_stands form.End place top may = rw top at may
top_stands form.Glue place top may = rw top at may
top_stands form.Kern place top may = rw top at may
top_stands form.Penalty place top may = rw top at may
top_stands form.Rule place top may = rw top at may
top_stands form.Char place top may = rw top at may
top_stands form.Space place top may = rw top at may
top_stands form.Text place top may = rw top at may

not_at_top : (n : ℕ) → (n == 0) ≡ true → 0 < n → ⊥
not_at_top n top some = grind (arith, nat_tests)

box_stands : (f : Form) (place : Place) → 0 < length place.groups → may_stand f place ≡ true → stands_inside f ≡ true
box_stands form.Set place some may = absurd (not_at_top (length place.groups) may some)
box_stands form.SetGlue place some may = absurd (not_at_top (length place.groups) may some)
box_stands form.Font place some may = refl
box_stands form.Attr place some may = refl
box_stands form.NoAttr place some may = refl
box_stands form.HBox place some may = refl
box_stands form.End place some may = refl
box_stands form.Glue place some may = refl
box_stands form.Kern place some may = refl
box_stands form.Penalty place some may = refl
box_stands form.Rule place some may = refl
box_stands form.Char place some may = refl
box_stands form.Space place some may = refl
box_stands form.Text place some may = refl

none_yet : (b : Bool) → not b ≡ true → b ≡ false
none_yet true e = sym e
none_yet false e = refl

first_box : (place : Place) → place.groups ≡ [] → may_stand form.HBox place ≡ true → place.has_box ≡ false
first_box place top may = none_yet place.has_box (rw top at may)

some_open : (f : Form) (place : Place) → stands_outside f ≡ false → may_stand f place ≡ true → 0 < length place.groups
some_open f place inner may = by place.groups (λ top. top_stands f place top may)
  where
    by : (groups : List Group) → (groups ≡ [] → stands_outside f ≡ true) → 0 < length groups
    by [] outer = absurd (true≢false (sym (outer refl) ∙ inner))
    by (group ∷ others) outer = omega arith

-- ---- one line

in_font : (fonts : ℕ) (place : Place) → (0 < fonts → IsKeptPlace fonts place) → IfOk (if_font fonts place) (IsKeptPlace fonts)
in_font fonts place kept = if_ok_unless (IsKeptPlace fonts) why.Font (nat_lt 0 fonts) (Ok place) (λ e. kept (grind (arith, nat_tests)))

follow_kept : (fonts : ℕ) (f : Form) (i : Instruction) (place : Place) → may_stand f place ≡ true → IsSaid f i → IsKeptPlace fonts place → IfOk (follow fonts i place) (IsKeptPlace fonts)
follow_kept fonts f (Put command) place may said kept =
    put_kept fonts command place (λ top. said.0 (top_stands f place top may) fonts max_depth) (λ some d. said.1 (box_stands f place some may) fonts d) kept
follow_kept fonts f (ChooseFont font) place may low kept =
    if_ok_unless (IsKeptPlace fonts) why.Font (nat_lt font fonts) (Ok (with_font font place)) (λ e. font_kept fonts font place low (grind (arith, nat_tests)) kept)
follow_kept fonts f (OpenBox to) place may said kept =
    if_ok_unless (IsKeptPlace fonts) why.Depth (nat_lt (length place.groups) max_depth) (Ok (opened to place)) (λ e.
    opened_kept fonts to place said.1 (grind (arith, nat_tests)) (λ top. first_box place top (subst (λ g. may_stand g place ≡ true) said.0 may)) kept)
follow_kept fonts f CloseBox place may said kept = closed_kept fonts place.groups place kept
follow_kept fonts f (PutChar code) place may inner kept =
    in_font fonts (put (kind.Glyph place.font code) place) (λ have.
    put_kept fonts (kind.Glyph place.font code) place (λ top. absurd (nonempty place.groups top (some_open f place inner may)))
    (λ _ d. glyph_inner fonts d place.font code kept.font_low (kept.font_there have)) kept)
follow_kept fonts f PutSpace place may inner kept =
    in_font fonts (put (kind.Space place.font) place) (λ have.
    put_kept fonts (kind.Space place.font) place (λ top. absurd (nonempty place.groups top (some_open f place inner may)))
    (λ _ d. space_inner fonts d place.font kept.font_low (kept.font_there have)) kept)
follow_kept fonts f (PutWords words) place may inner kept =
    in_font fonts (with_words words place) (λ have. words_kept fonts words place have (some_open f place inner may) kept)

command_kept : (fonts : ℕ) (word : List ℕ) (fields : List (List ℕ)) (place : Place) → IsKeptPlace fonts place → IfOk (after_command fonts word fields place) (IsKeptPlace fonts)
command_kept fonts word fields place kept =
    if_ok_without (IsKeptPlace fonts) why.Command (form_of_word word) _ (λ f.
    if_ok_unless (IsKeptPlace fonts) why.Command (may_stand f place) (carry_out fonts f fields place) (λ may.
    if_ok_then (IsSaid f) (IsKeptPlace fonts) (instruction f fields) _ (instruction_said f fields) (λ i said. follow_kept fonts f i place may said kept)))

comment_kept : (b : Bool) (P : Place → Type 0) (place : Place) (next : Result Place DocWhy) → P place → IfOk next P → IfOk (if b then Ok place else next) P
comment_kept true P place next here there = here
comment_kept false P place next here there = there

fields_kept : (fonts : ℕ) (fields : List (List ℕ)) (place : Place) → IsKeptPlace fonts place → IfOk (after_fields fonts fields place) (IsKeptPlace fonts)
fields_kept fonts [] place kept = kept
fields_kept fonts (word ∷ fields) place kept =
    comment_kept (is_comment word) (IsKeptPlace fonts) place (after_command fonts word fields place) kept (command_kept fonts word fields place kept)

line_kept : (fonts : ℕ) (line : List ℕ) (place : Place) → IsKeptPlace fonts place → IfOk (after_line fonts line place) (IsKeptPlace fonts)
line_kept fonts line place kept =
    if_ok_unless (IsKeptPlace fonts) why.Byte (list_all is_plain line) (after_fields fonts (fields_of line) place) (λ _. fields_kept fonts (fields_of line) place kept)

-- ---- all lines

pub record AreKept (fonts : ℕ) (commands : List Command) : Type 0 where
  pub each : AllByRecursion (IsOuter fonts max_depth) commands
  pub one_box : box_count commands ≤ 1

end_kept : (fonts last : ℕ) (done : List Command) (groups : List Group) (has_box : Bool) (font : ℕ) → IsKept fonts done groups has_box font → IfOk (at_end last done groups) (AreKept fonts)
end_kept fonts last done [] has_box font kept = record { each = kept.finished; one_box = omega (arith, kept.boxes, at_most_one has_box) }
end_kept fonts last done (group ∷ outer) has_box font kept = tt

at_line_kept : (fonts number : ℕ) (answer : Result Place DocWhy) (others : Place → Result (List Command) DocFault) → IfOk answer (IsKeptPlace fonts)
    → ((place : Place) → IsKeptPlace fonts place → IfOk (others place) (AreKept fonts)) → IfOk (at_line number answer others) (AreKept fonts)
at_line_kept fonts number (Ok place) others here there = there place here
at_line_kept fonts number (Err reason) others here there = tt

commands_kept : (fonts n : ℕ) (lines : List (List ℕ)) (place : Place) → IsKeptPlace fonts place → IfOk (commands_after fonts n lines place) (AreKept fonts)
commands_kept fonts n [] place kept = end_kept fonts n place.done place.groups place.has_box place.font kept
commands_kept fonts n (line ∷ others) place kept =
    at_line_kept fonts (n + 1) (after_line fonts line place) _ (line_kept fonts line place kept) (λ after there. commands_kept fonts (n + 1) others after there)

-- ---- the commands at the end

pub document_kept : (bytes : List ℕ) (fonts : ℕ) (commands : List Command) → document_of bytes fonts ≡ Ok commands → AreKept fonts commands
document_kept bytes fonts commands accepted = subst (λ r. IfOk r (AreKept fonts)) accepted (commands_kept fonts 0 (lines bytes) first_place (first_kept fonts))

none_open : (groups : List Group) → length groups ≡ 0 → reverse groups ≡ []
none_open [] none = refl
none_open (group ∷ outer) none = absurd (omega (arith, none))

-- a document whose last line leads to this place, where no box is open
pub read_kept : (bytes : List ℕ) (fonts n : ℕ) (rest : List (List ℕ)) (place : Place) (groups : List Group) → commands_after fonts n rest place ≡ document_of bytes fonts → rest ≡ []
    → place.groups ≡ reverse groups → length groups ≡ 0 → AreKept fonts place.done
read_kept bytes fonts n rest place groups same over are none =
    document_kept bytes fonts place.done
    (sym same ∙ ap (λ l. commands_after fonts n l place) over ∙ ap (λ g. at_end n place.done g) (are ∙ none_open groups none))

pub numbers_kept : (fonts : ℕ) (commands : List Command) → AllByRecursion (IsOuter fonts max_depth) commands → list_all has_numbers_in_range commands ≡ true
numbers_kept fonts [] all = refl
numbers_kept fonts (command ∷ commands) all = rw (all.0.numbers, numbers_kept fonts commands all.1) refl

pub fonts_kept : (fonts : ℕ) (commands : List Command) → AllByRecursion (IsOuter fonts max_depth) commands → list_all (has_fonts fonts) commands ≡ true
fonts_kept fonts [] all = refl
fonts_kept fonts (command ∷ commands) all = rw (all.0.fonts_there, fonts_kept fonts commands all.1) refl

pub places_kept : (fonts : ℕ) (commands : List Command) → AllByRecursion (IsOuter fonts max_depth) commands → list_all may_stand_outside commands ≡ true
places_kept fonts [] all = refl
places_kept fonts (command ∷ commands) all = rw (all.0.stands, places_kept fonts commands all.1) refl

pub depths_kept : (fonts : ℕ) (commands : List Command) → AllByRecursion (IsOuter fonts max_depth) commands → greatest (map box_depth commands) ≤ max_depth
depths_kept fonts [] all = omega arith
depths_kept fonts (command ∷ commands) all = omega (arith, all.0.depth, depths_kept fonts commands all.1)
