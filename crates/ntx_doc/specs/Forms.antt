-- The forms of lines, each known by its first field.
use Rattle.std.specs.Prelude.{ℕ, List, [], ◌∷◌, Option, bytes_eq, codes}
use Rattle.std.specs.List.{find}
use Rattle.ntx_doc.specs.declared.form.Form.{Form}
use Rattle.ntx_doc.specs.declared.form.Form.TheVariants as form

-- the first field of a form's lines
abbrev pub word_of : Form → List ℕ
word_of form.Set = codes "set"
word_of form.SetGlue = codes "setglue"
word_of form.Font = codes "font"
word_of form.Attr = codes "attr"
word_of form.NoAttr = codes "noattr"
word_of form.HBox = codes "hbox"
word_of form.End = codes "end"
word_of form.Glue = codes "glue"
word_of form.Kern = codes "kern"
word_of form.Penalty = codes "penalty"
word_of form.Rule = codes "rule"
word_of form.Char = codes "char"
word_of form.Space = codes "space"
word_of form.Text = codes "text"

abbrev pub all_forms : List Form
all_forms =
    form.Set ∷ form.SetGlue ∷ form.Font ∷ form.Attr ∷ form.NoAttr ∷ form.HBox ∷ form.End ∷ form.Glue ∷ form.Kern ∷ form.Penalty ∷
    form.Rule ∷ form.Char ∷ form.Space ∷ form.Text ∷ []

-- the form of the lines with this first field
abbrev pub form_of_word : List ℕ → Option Form
form_of_word word = find (λ f. bytes_eq (word_of f) word) all_forms
