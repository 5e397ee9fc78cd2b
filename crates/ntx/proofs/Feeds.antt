-- What it means if a run refuses the words.
use Rattle.std.proofs.Common.{◌≡◌, ℕ, true, false, List, [], map, Ok, Err, Result, refl, ap, sym, ◌∙◌, subst}
use Rattle.std.specs.Prelude.{◌==◌, ◌&&◌, length, IsErr}
use Rattle.std.proofs.lemmas.Bool.{true≢false, false≢true, eqb-true}
use Rattle.ntx_io.specs.Outside.{NamedInput}
use Rattle.ntx_words.specs.declared.words.BadWords.{BadWords}
use Rattle.ntx_words.specs.CommandLine.{CommandLine, command_line}
use Rattle.ntx_run.specs.Run.{has_feeds, fits_form}
use Rattle.ntx.specs.Fonts.{names_no_font}

no_font_of : (result : Result CommandLine BadWords) → has_feeds result [] ≡ false → names_no_font result ≡ false
no_font_of (Ok line) refused =
    elim (length line.sizes == 0) as (λ b. (length line.sizes == 0) ≡ b → b ≡ false) [
      | true ↦ λ none. absurd (true≢false (sym (ap (λ n. (0 == n) && true) (eqb-true (length line.sizes) 0 none)) ∙ refused))
      | false ↦ λ some. refl
    ] refl
no_font_of (Err refusal) refused = refl

pub refused_without_feeds : (words : List (List ℕ)) → fits_form words [] ≡ false → names_no_font (command_line words) ≡ false
unfolding fits_form
refused_without_feeds words refused = no_font_of (command_line words) refused

-- There are no feeds.
pub refused_with_none : {F : Type 0} (seen : F → NamedInput) (words : List (List ℕ)) (feeds : List F) → feeds ≡ [] → fits_form words (map (λ font. font.name) (map seen feeds)) ≡ false → names_no_font (command_line words) ≡ false
refused_with_none seen words feeds none refused =
    refused_without_feeds words (subst (λ fs. fits_form words (map (λ font. font.name) (map seen fs)) ≡ false) none refused)

-- The feeds are those that were made, which are none.
pub refused_with_made : {V F : Type 0} (items : V → List F) (seen : F → NamedInput) (words : List (List ℕ)) (feeds made : V) → feeds ≡ made → items made ≡ [] → fits_form words (map (λ font. font.name) (map seen (items feeds))) ≡ false → names_no_font (command_line words) ≡ false
refused_with_made items seen words feeds made are none refused =
    refused_with_none seen words (items feeds) (ap items are ∙ none) refused

-- The words name a font.
pub some_font : (words : List (List ℕ)) (line : CommandLine) → command_line words ≡ Ok line → (length line.sizes == 0) ≡ false → names_no_font (command_line words) ≡ false
some_font words line is some = ap names_no_font is ∙ some

-- Words that are not of the form are refused.
pub unfit : {F : Type 0} (seen : F → NamedInput) (words : List (List ℕ)) (feeds : List F) → IsErr (command_line words) → fits_form words (map (λ font. font.name) (map seen feeds)) ≡ false
unfolding fits_form
unfit seen words feeds err = unfit_of (command_line words) (map (λ font. font.name) (map seen feeds)) err
  where
    unfit_of : (result : Result CommandLine BadWords) (names : List (List ℕ)) → IsErr result → has_feeds result names ≡ false
    unfit_of (Ok line) names err = absurd (false≢true err)
    unfit_of (Err refusal) names err = refl
