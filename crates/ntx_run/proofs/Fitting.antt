-- The words of the command line and the feeds' names: what is accepted can be read.
use Rattle.std.proofs.Common.{◌≡◌, ℕ, ◌≤◌, ◌-◌, Bool, true, false, cond, ℤ, pos, List, [], ◌∷◌, map, Option, Some, None, Ok, Err, refl, ap, sym, ◌∙◌, subst, rules, arith, slice_index_or}
use Rattle.std.specs.Prelude.{◌≢◌, ◌==◌, ◌&&◌, length, drop, nat_le, option_map, option_and_then}
use Rattle.std.specs.List.{list_all}
use Rattle.std.specs.Option.{ForSome}
use Rattle.std.specs.Str.Parse.{digits_value}
use Rattle.std.proofs.lemmas.Bool.{and_parts, eqb-true}
use Rattle.std.proofs.lemmas.List.{length-map}
use Rattle.std.proofs.Math.Bool.{and-false}
use borrow.Rule.Slice.PartMut.{mid_of}
use Rattle.ntx_io.specs.Outside.{NamedInput}
use Rattle.ntx_words.specs.declared.words.BadWords.{BadWords}
use Rattle.ntx_words.specs.Parts.{Parts, parts_of}
use Rattle.ntx_words.specs.Number.{is_numeral, number_in}
use Rattle.ntx_words.specs.Font.{Halves, FontWord, halves_of, max_size, font_by, font_with, font_of}
use Rattle.ntx_words.specs.CommandLine.{CommandLine, is_count, steps_of, line_with, line_of, or_bad_words, command_line}
use Rattle.ntx_tfm.specs.Font.{IsSize}
use Rattle.ntx_run.specs.Run.{is_feed_name, has_feeds, fits_form, sizes_of, font_sizes}
use Rattle.ntx_run.specs.inner.Words.{CanBeRead, FitsWith, Fits}
use Rattle.ntx_run.proofs.FontSteps.{all_but_first}

-- ---- sizes

number_if : (c : Bool) (number n : ℕ) → cond c (Some number) None ≡ Some n → (c ≡ true) × (n ≡ number)
number_if true number n e = (refl, cc)
number_if false number n e = cc

-- A size that a word gives is one of a font.
size_if : (text : List ℕ) (n : ℕ) → number_in 9 max_size text ≡ Some n → IsSize (pos n)
size_if text n e =
    let number : ℕ = digits_value 10 text in
    let given = number_if (is_numeral 9 text && (nat_le 1 number && nat_le number max_size)) number n e in
    let within = and_parts (nat_le 1 number) (nat_le number max_size) (and_parts (is_numeral 9 text) (nat_le 1 number && nat_le number max_size) given.0).1 in
    let least : 1 ≤ number = search rules in
    let most : number ≤ max_size = search rules in
    rw given.1 (search rules)

sized_by : (word before : List ℕ) (text : List ℕ) (found : Option ℕ) → number_in 9 max_size text ≡ found → ForSome (font_by word before found).size IsSize
sized_by word before text None is size e = cc
sized_by word before text (Some n) is size e =
    let same : size ≡ pos n = cc in
    rw same (size_if text n is)

sized_with : (word : List ℕ) (halves : Option Halves) → ForSome (font_with word halves).size IsSize
sized_with word None size e = cc
sized_with word (Some halves) size e = sized_by word halves.before halves.after (number_in 9 max_size halves.after) refl size e

abbrev sizes_in : List (List ℕ) → List (Option ℤ)
sizes_in words = map (λ (font : FontWord). font.size) (map font_of words)

-- ---- what can be read

can_be_read : (words names : List (List ℕ)) → length names ≡ length (sizes_in words) → list_all is_feed_name names ≡ true → CanBeRead (sizes_in words) names
can_be_read [] [] count named = tt
can_be_read [] (name ∷ names) count named = cc
can_be_read (word ∷ words) [] count named = cc
can_be_read (word ∷ words) (name ∷ names) count named =
    let parts = and_parts (is_feed_name name) (list_all is_feed_name names) named in
    let fewer : length names ≡ length (sizes_in words) = omega arith in
    (sized_with word (halves_of word), parts.0, can_be_read words names fewer parts.1)

sizes_with : (paths : List (List ℕ)) (steps : Option ℕ) (line : CommandLine) → or_bad_words (option_map (line_with paths) steps) ≡ Ok line → line.sizes ≡ sizes_in (drop 4 paths)
sizes_with paths None line e = cc
sizes_with paths (Some steps) line e =
    let same : line ≡ line_with paths steps = cc in
    rw same refl

sizes_if : (c : Bool) (parts : Parts) (line : CommandLine) → or_bad_words (cond c (option_map (line_with parts.paths) (steps_of parts.steps)) None) ≡ Ok line → line.sizes ≡ sizes_in (drop 4 parts.paths)
sizes_if true parts line e = sizes_with parts.paths (steps_of parts.steps) line e
sizes_if false parts line e = cc

sizes_from : (found : Option Parts) (line : CommandLine) → or_bad_words (option_and_then line_of found) ≡ Ok line → (words : List (List ℕ)) × (line.sizes ≡ sizes_in words)
sizes_from None line e = cc
sizes_from (Some parts) line e = (drop 4 parts.paths, sizes_if (is_count (length parts.paths)) parts line e)

-- ---- names

-- One feed more.
pub named_more : {X : Type 0} (seen : X → NamedInput) (feeds : List X) (feed : X) (here others : Bool) → feed ≡ slice_index_or feeds 0 feed → here ≡ true → here ≡ is_feed_name (seen feed).name → 1 ≤ length feeds → others ≡ list_all is_feed_name (map (λ font. font.name) (map seen (mid_of 1 (length feeds - 1) feeds))) → others ≡ list_all is_feed_name (map (λ font. font.name) (map seen feeds))
named_more seen [] feed here others first holds is some rest =
    let no : ⊥ = omega arith in
    absurd no
named_more seen (other ∷ feeds) feed here others first holds is some rest =
    rest
    ∙ ap (λ xs. list_all is_feed_name (map (λ font. font.name) (map seen xs))) (all_but_first other feeds)
    ∙ ap (λ b. b && list_all is_feed_name (map (λ font. font.name) (map seen feeds))) (sym holds ∙ is ∙ ap (λ x. is_feed_name (seen x).name) first)

-- ---- what is accepted

same_number : (n m : ℕ) → n ≡ m → (n == m) ≡ true
same_number n m e = rw e (search rules)

module _ {X : Type 0} (seen : X → NamedInput) (words : List (List ℕ)) (feeds : List X) where
  abbrev names : List (List ℕ)
  names = map (λ font. font.name) (map seen feeds)

  count : length names ≡ length feeds
  count = length-map (map seen feeds) (λ font. font.name) ∙ length-map feeds seen

  pub fits : (line : CommandLine) (named : Bool) → command_line words ≡ Ok line → length line.sizes ≡ length feeds → named ≡ true → named ≡ list_all is_feed_name names → FitsWith words names line.sizes
  unfolding fits_form font_sizes
  fits line named is number holds named_is =
      let from = sizes_from (parts_of words) line is in
      let same : length names ≡ length line.sizes = count ∙ sym number in
      let all : list_all is_feed_name names ≡ true = sym named_is ∙ holds in
      let read : CanBeRead (sizes_in from.0) names = can_be_read from.0 names (same ∙ ap length from.1) all in
      record {
        fits = ap (λ r. has_feeds r names) is ∙ ap (λ b. b && list_all is_feed_name names) (same_number (length names) (length line.sizes) same) ∙ all;
        sizes_are = sym (ap sizes_of is);
        can_be_read = rw from.1 read;
      }

  -- There are not as many feeds as fonts.
  pub unfit_number : (line : CommandLine) → command_line words ≡ Ok line → length line.sizes ≢ length feeds → fits_form words names ≡ false
  unfolding fits_form
  unfit_number line is other =
      let apart : (length names == length line.sizes) ≡ false = elim (length names == length line.sizes) as (λ b. (length names == length line.sizes) ≡ b → b ≡ false) [
        | true ↦ λ same. absurd (other (sym (eqb-true (length names) (length line.sizes) same) ∙ count))
        | false ↦ λ same. refl
      ] refl in
      ap (λ r. has_feeds r names) is ∙ ap (λ b. b && list_all is_feed_name names) apart

  -- A feed has no name that it may have.
  pub unfit_name : (line : CommandLine) (named : Bool) → command_line words ≡ Ok line → named ≡ false → named ≡ list_all is_feed_name names → fits_form words names ≡ false
  unfolding fits_form
  unfit_name line named is fails named_is =
      ap (λ r. has_feeds r names) is ∙ ap (λ b. (length names == length line.sizes) && b) (sym named_is ∙ fails) ∙ and-false (length names == length line.sizes)

  pub no_words : (refusal : BadWords) → command_line words ≡ Err refusal → fits_form words names ≡ false
  unfolding fits_form
  no_words refusal is = ap (λ r. has_feeds r names) is

-- What was found of the words' fonts.
pub fits_none : {V : Type 0} (items : V → List (Option ℤ)) (words names : List (List ℕ)) (found : Option V) → found ≡ None → Fits words names (option_map items found) → fits_form words names ≡ false
fits_none items words names found is fit = subst (λ f. Fits words names (option_map items f)) is fit

pub fits_some : {V : Type 0} (items : V → List (Option ℤ)) (words names : List (List ℕ)) (found : Option V) (v : V) → found ≡ Some v → Fits words names (option_map items found) → FitsWith words names (items v)
fits_some items words names found v is fit = subst (λ f. Fits words names (option_map items f)) is fit
