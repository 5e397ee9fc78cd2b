-- The form of a command line by the order of its words, and by what each word is.
use Rattle.std.proofs.Common.{◌≡◌, ◌∙◌, ℕ, ◌==◌, ◌||◌, Bool, true, false, zero, suc, List, [], ◌∷◌, ◌++◌, Option, None, Some, refl, sym, ap, ap₂, subst, arith, codes, append_assoc}
use Rattle.std.specs.Prelude.{option_map, option_and_then, is_some, unwrap_or, if◌then◌else◌, ◌↔◌}
use Rattle.std.specs.List.{All, list_any, before_first, after_first}
use Rattle.std.specs.Str.{bytes_eq}
use Rattle.std.proofs.lemmas.Bool.Decides.{nat_tests}
use Rattle.std.proofs.lemmas.Slice.Eq.{bytes_eq-Decides}
use Rattle.ntx_words.specs.Kind.{Kind, option, option_with, last, unknown, plain, is_dashed, is_equals, is_steps, kind_of, steps_kind}
use Rattle.ntx_words.specs.Parts.{Parts, no_parts, parts_by, parts_from, parts_of, with_path, with_steps}
use Rattle.ntx_words.specs.Form.{HasForm, IsPath, IsWritable, Written, nowhere, apart, together, ending_paths, ending_written, value_written, written}
use Rattle.ntx_words.proofs.Sight.{after_next, before_next, plain_kind}

-- ---- words of each kind

path_kind : (word : List ℕ) → IsPath word → kind_of word ≡ plain
path_kind [] path = refl
path_kind (x ∷ []) path = go (x == 45) refl
  where
    go : (b : Bool) → (x == 45) ≡ b → kind_of (x ∷ []) ≡ plain
    go true e = let is : x ≡ 45 = grind (arith, nat_tests) in subst (λ y. kind_of (y ∷ []) ≡ plain) (sym is) refl
    go false e = plain_kind x [] e
path_kind (x ∷ y ∷ ys) path = plain_kind x (y ∷ ys) path

-- ---- lists of paths

path_first : (word : List ℕ) (words : List (List ℕ)) → IsPath word → All IsPath words → All IsPath (word ∷ words)
path_first word words path paths zero d lt = path
path_first word words path paths (suc k) d lt = paths k d (omega arith)

paths_rest : (word : List ℕ) (words : List (List ℕ)) → All IsPath (word ∷ words) → All IsPath words
paths_rest word words all = λ k d lt. all (suc k) d (omega arith)

paths_joined : (xs ys : List (List ℕ)) → All IsPath xs → All IsPath ys → All IsPath (xs ++ ys)
paths_joined [] ys a b = b
paths_joined (x ∷ xs) ys a b = path_first x (xs ++ ys) (a 0 x (omega arith)) (paths_joined xs ys (paths_rest x xs a) b)

-- ---- from the form to the parts

abbrev with_paths : List (List ℕ) → Parts → Parts
with_paths paths parts = record parts { paths = paths ++ parts.paths }

after_paths : (paths rest : List (List ℕ)) → All IsPath paths → parts_from false (paths ++ rest) ≡ option_map (with_paths paths) (parts_from false rest)
unfolding parts_from
after_paths [] rest all = as_it_is (parts_from false rest)
  where
    as_it_is : (o : Option Parts) → o ≡ option_map (with_paths []) o
    as_it_is None = refl
    as_it_is (Some parts) = refl
after_paths (path ∷ paths) rest all =
    rw (path_kind path (all 0 path (omega arith))) (ap (option_map (with_path path)) (after_paths paths rest (paths_rest path paths all)) ∙ both (parts_from false rest))
  where
    both : (o : Option Parts) → option_map (with_path path) (option_map (with_paths paths) o) ≡ option_map (with_paths (path ∷ paths)) o
    both None = refl
    both (Some parts) = refl

abbrev given_by : Written → Option Parts → Option Parts
given_by nowhere parts = parts
given_by (apart value) parts = option_and_then (with_steps value) parts
given_by (together value) parts = option_and_then (with_steps value) parts

after_option : (how : Written) (rest : List (List ℕ)) → IsWritable how → parts_from false (written how ++ rest) ≡ given_by how (parts_from false rest)
unfolding parts_from
after_option nowhere rest writable = refl
after_option (apart value) rest writable = rw (path_kind value writable) refl
after_option (together value) rest writable = refl

at_the_end : (ending : Option (List (List ℕ))) → parts_from false (ending_written ending) ≡ Some (record { steps = None; paths = ending_paths ending })
unfolding parts_from
at_the_end None = refl
at_the_end (Some words) = refl

all_given : (front middle : List (List ℕ)) (how : Written) (others : List (List ℕ))
    → option_map (with_paths front) (given_by how (option_map (with_paths middle) (Some (record { steps = None; paths = others }))))
    ≡ Some (record { steps = value_written how; paths = front ++ (middle ++ others) })
all_given front middle nowhere others = refl
all_given front middle (apart value) others = refl
all_given front middle (together value) others = refl

formed_parts : (words : List (List ℕ)) (parts : Parts) → HasForm words parts → parts_of words ≡ Some parts
formed_parts words parts form =
    ap parts_of form.words_are
    ∙ after_paths form.front (written form.option ++ (form.middle ++ ending_written form.ending)) form.front_paths
    ∙ ap (option_map (with_paths form.front)) (after_option form.option (form.middle ++ ending_written form.ending) form.writable
    ∙ ap (given_by form.option) (after_paths form.middle (ending_written form.ending) form.middle_paths
    ∙ ap (option_map (with_paths form.middle)) (at_the_end form.ending)))
    ∙ all_given form.front form.middle form.option (ending_paths form.ending)
    ∙ ap₂ made (sym form.steps_are) (sym form.paths_are)
  where
    made : Option (List ℕ) → List (List ℕ) → Option Parts
    made s p = Some (record { steps = s; paths = p })

-- ---- how a word of each kind is spelled

whole_before : (word : List ℕ) → list_any is_equals word ≡ false → before_first is_equals word ≡ word
whole_before [] none = refl
whole_before (x ∷ xs) none = go (is_equals x) refl none (whole_before xs)
  where
    go : (b : Bool) → is_equals x ≡ b → (b || list_any is_equals xs) ≡ false → (list_any is_equals xs ≡ false → before_first is_equals xs ≡ xs)
        → before_first is_equals (x ∷ xs) ≡ x ∷ xs
    go true e n rest = cc
    go false e n rest = before_next x xs e ∙ ap (λ t. x ∷ t) (rest n)

cut_word : (word : List ℕ) → list_any is_equals word ≡ true → word ≡ before_first is_equals word ++ 61 ∷ after_first is_equals word
cut_word [] some = cc
cut_word (x ∷ xs) some = go (is_equals x) refl some (cut_word xs)
  where
    go : (b : Bool) → is_equals x ≡ b → (b || list_any is_equals xs) ≡ true
        → (list_any is_equals xs ≡ true → xs ≡ before_first is_equals xs ++ 61 ∷ after_first is_equals xs)
        → x ∷ xs ≡ before_first is_equals (x ∷ xs) ++ 61 ∷ after_first is_equals (x ∷ xs)
    go true e n rest = let is : x ≡ 61 = grind (arith, nat_tests) in rw e (ap (λ y. y ∷ xs) is)
    go false e n rest = rw (before_next x xs e, after_next x xs e) (ap (λ t. x ∷ t) (rest n))

-- What a word of this kind is.
abbrev Spelled : List ℕ → Kind → Type 0
Spelled word plain = IsPath word
Spelled word option = word ≡ codes "--steps"
Spelled word (option_with value) = word ≡ codes "--steps=" ++ value
Spelled word last = word ≡ codes "--"
Spelled word unknown = Unit {0}

steps_spelled : (word : List ℕ) → is_steps word ≡ true → Spelled word (steps_kind word)
steps_spelled word e = go (list_any is_equals word) refl
  where
    name : before_first is_equals word ≡ codes "--steps"
    name = sym ((bytes_eq-Decides (codes "--steps") (before_first is_equals word)).0 e)

    go : (b : Bool) → list_any is_equals word ≡ b → Spelled word (if b then option_with (after_first is_equals word) else option)
    go true some = cut_word word some ∙ ap (λ t. t ++ 61 ∷ after_first is_equals word) name
    go false none = sym (whole_before word none) ∙ name

spelled : (word : List ℕ) → Spelled word (kind_of word)
spelled word = go (is_steps word) (bytes_eq word (codes "--")) (is_dashed word) refl refl refl
  where
    go : (a b d : Bool) → is_steps word ≡ a → bytes_eq word (codes "--") ≡ b → is_dashed word ≡ d
        → Spelled word (if a then steps_kind word else if b then last else if d then unknown else plain)
    go true b d e f g = steps_spelled word e
    go false true d e f g = (bytes_eq-Decides word (codes "--")).0 f
    go false false true e f g = tt
    go false false false e f g = g

-- ---- from the parts to the form

some_is : (a b : Parts) → Some a ≡ Some b → a ≡ b
some_is a b e = ap (λ o. unwrap_or o no_parts) e

nothing_written : (how : Written) → value_written how ≡ None → how ≡ nowhere
nothing_written nowhere e = refl
nothing_written (apart value) e = cc
nothing_written (together value) e = cc

no_form : HasForm [] no_parts
no_form = record {
  front = [];
  option = nowhere;
  middle = [];
  ending = None;
  front_paths = λ k d lt. absurd (omega arith);
  writable = tt;
  middle_paths = λ k d lt. absurd (omega arith);
  words_are = refl;
  steps_are = refl;
  paths_are = refl;
}

last_form : (words : List (List ℕ)) → HasForm (codes "--" ∷ words) (record { steps = None; paths = words })
last_form words = record {
  front = [];
  option = nowhere;
  middle = [];
  ending = Some words;
  front_paths = λ k d lt. absurd (omega arith);
  writable = tt;
  middle_paths = λ k d lt. absurd (omega arith);
  words_are = refl;
  steps_are = refl;
  paths_are = refl;
}

path_form : (word : List ℕ) (words : List (List ℕ)) (parts : Parts) → IsPath word → HasForm words parts → HasForm (word ∷ words) (with_path word parts)
path_form word words parts path form = record {
  front = word ∷ form.front;
  option = form.option;
  middle = form.middle;
  ending = form.ending;
  front_paths = path_first word form.front path form.front_paths;
  writable = form.writable;
  middle_paths = form.middle_paths;
  words_are = ap (λ t. word ∷ t) form.words_are;
  steps_are = form.steps_are;
  paths_are = ap (λ t. word ∷ t) form.paths_are;
}

option_form : (how : Written) (words : List (List ℕ)) (parts : Parts) → IsWritable how → parts.steps ≡ None → HasForm words parts
    → HasForm (written how ++ words) (record parts { steps = value_written how })
option_form how words parts writable none form = record {
  front = [];
  option = how;
  middle = form.front ++ form.middle;
  ending = form.ending;
  front_paths = λ k d lt. absurd (omega arith);
  writable = writable;
  middle_paths = paths_joined form.front form.middle form.front_paths form.middle_paths;
  words_are = ap (λ t. written how ++ t) (form.words_are ∙ ap (λ o. form.front ++ (written o ++ (form.middle ++ ending_written form.ending))) bare
      ∙ sym (append_assoc form.front form.middle (ending_written form.ending)));
  steps_are = refl;
  paths_are = form.paths_are ∙ sym (append_assoc form.front form.middle (ending_paths form.ending));
}
  where
    bare : form.option ≡ nowhere
    bare = nothing_written form.option (sym form.steps_are ∙ none)

-- the first word is the option's value
record HasValue (words : List (List ℕ)) (parts : Parts) : Type 0 where
  value : List ℕ
  after : List (List ℕ)
  later : Parts
  is_path : IsPath value
  form : HasForm after later
  no_value : later.steps ≡ None
  words_are : words ≡ value ∷ after
  parts_are : record later { steps = Some value } ≡ parts

-- what the parts after a value were
given_once : (value : List ℕ) (o : Option Parts) (parts : Parts) → option_and_then (with_steps value) o ≡ Some parts
    → (later : Parts) × (o ≡ Some later) × (later.steps ≡ None) × (record later { steps = Some value } ≡ parts)
given_once value None parts e = cc
given_once value (Some later) parts e = go later.steps refl e
  where
    go : (s : Option (List ℕ)) → later.steps ≡ s → (if is_some s then None else Some (record later { steps = Some value })) ≡ Some parts
        → (known : Parts) × (Some later ≡ Some known) × (known.steps ≡ None) × (record known { steps = Some value } ≡ parts)
    go None is e = (later, refl, is, some_is _ _ e)
    go (Some u) is e = cc

path_once : (word : List ℕ) (o : Option Parts) (parts : Parts) → option_map (with_path word) o ≡ Some parts
    → (later : Parts) × (o ≡ Some later) × (with_path word later ≡ parts)
path_once word None parts e = cc
path_once word (Some later) parts e = (later, refl, some_is _ _ e)

abbrev Forms : List (List ℕ) → Type 0
Forms words = (parts : Parts) → parts_from false words ≡ Some parts → HasForm words parts

abbrev Values : List (List ℕ) → Type 0
Values words = (parts : Parts) → parts_from true words ≡ Some parts → HasValue words parts

forms_next : (word : List ℕ) (words : List (List ℕ)) → Forms words → Values words → Forms (word ∷ words)
unfolding parts_from
forms_next word words forms values parts e = go (kind_of word) (spelled word) e
  where
    go : (kind : Kind) → Spelled word kind → parts_by false kind word words (λ next. parts_from next words) ≡ Some parts → HasForm (word ∷ words) parts
    go plain path is =
        let once = path_once word (parts_from false words) parts is in
        subst (HasForm (word ∷ words)) once.2 (path_form word words once.0 path (forms once.0 once.1))
    go option name is =
        let v = values parts is in
        let form = option_form (apart v.value) v.after v.later v.is_path v.no_value v.form in
        let first : HasForm (codes "--steps" ∷ words) parts = subst (λ w. HasForm (codes "--steps" ∷ w) parts) (sym v.words_are) (subst (HasForm _) v.parts_are form) in
        subst (λ w. HasForm (w ∷ words) parts) (sym name) first
    go (option_with value) name is =
        let once = given_once value (parts_from false words) parts is in
        let form = option_form (together value) words once.0 tt once.2 (forms once.0 once.1) in
        subst (λ w. HasForm (w ∷ words) parts) (sym name) (subst (HasForm _) once.3 form)
    go last name is = subst (λ w. HasForm (w ∷ words) parts) (sym name) (subst (HasForm _) (some_is _ _ is) (last_form words))
    go unknown name is = cc

values_next : (word : List ℕ) (words : List (List ℕ)) → Forms words → Values (word ∷ words)
unfolding parts_from
values_next word words forms parts e = go (kind_of word) (spelled word) e
  where
    go : (kind : Kind) → Spelled word kind → parts_by true kind word words (λ next. parts_from next words) ≡ Some parts → HasValue (word ∷ words) parts
    go plain path is =
        let once = given_once word (parts_from false words) parts is in
        record {
          value = word;
          after = words;
          later = once.0;
          is_path = path;
          form = forms once.0 once.1;
          no_value = once.2;
          words_are = refl;
          parts_are = once.3;
        }
    go option name is = cc
    go (option_with value) name is = cc
    go last name is = cc
    go unknown name is = cc

forms_both : (words : List (List ℕ)) → Forms words × Values words
unfolding parts_from
forms_both [] = ((λ parts e. subst (HasForm []) (some_is _ _ e) no_form), (λ parts e. cc))
forms_both (word ∷ words) =
    let below = forms_both words in
    (forms_next word words below.0 below.1, values_next word words below.0)

-- the form is that of the words which have parts
pub form_is : (words : List (List ℕ)) (parts : Parts) → (parts_of words ≡ Some parts) ↔ HasForm words parts
form_is words parts = ((forms_both words).0 parts, formed_parts words parts)
