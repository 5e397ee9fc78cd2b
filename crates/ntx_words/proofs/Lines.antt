-- What paths and a number of steps ask for.
use Rattle.std.proofs.Common.{◌≡◌, ◌∙◌, ℕ, ◌<◌, ◌≤◌, List, [], ◌∷◌, ◌++◌, map, length, take, drop, Option, None, Some, Result, Ok, Err, refl, sym, ap, ap₂, Bor, codes}
use Rattle.std.specs.Prelude.{ℤ, option_map, option_and_then, unwrap_or}
use Rattle.std.proofs.lemmas.List.{take-map, drop-map, length-map}
use Rattle.clap.specs.Words.{found_of, first_value, matched_of, raw_values}
use Rattle.clap.specs.declared.parser.matches.ArgMatches.{ArgMatches}
use Rattle.ntx_num.specs.Answer.{Answers}
use Rattle.ntx_num.specs.declared.answer.Fail.{Fail}
use Rattle.ntx_num.specs.declared.answer.Fail.TheVariants.{NoMemory, Is}
use Rattle.ntx_words.specs.declared.words.BadWords.{BadWords}
use Rattle.ntx_words.specs.Font.{FontWord, font_of}
use Rattle.ntx_words.specs.Parts.{Parts, parts_of}
use Rattle.ntx_words.specs.CommandLine.{CommandLine, command_line, line_of, line_with, or_bad_words, paths_of, sizes_of, steps_of}
use Rattle.ntx_words.specs.inner.Clap.{parts_found}
use Rattle.ntx_words.specs.inner.Views.{parts_given, texts_of}
use Rattle.ntx_words.proofs.Numbers.{gt_test, le_test}

-- ---- lists

map_twice : {A B C : Type 0} (g : B → C) (f : A → B) (xs : List A) → map g (map f xs) ≡ map (λ x. g (f x)) xs
map_twice g f [] = refl
map_twice g f (x ∷ xs) = ap (λ t. g (f x) ∷ t) (map_twice g f xs)

fonts_after : {A : Type 0} (g : FontWord → A) (words : List (Bor (List ℕ)))
    → map g (map font_of (drop 4 (texts_of words))) ≡ map (λ word. g (font_of word.now)) (drop 4 words)
fonts_after g words =
    ap (λ t. map g (map font_of t)) (drop-map (λ text. text.now) 4 words)
    ∙ map_twice g font_of (texts_of (drop 4 words)) ∙ map_twice (λ word. g (font_of word)) (λ text. text.now) (drop 4 words)

-- the lists of a command line, made of references
pub line_made : (words files fonts : List (Bor (List ℕ))) (steps : ℕ) (paths : List (List ℕ)) (sizes : List (Option ℤ))
    → files ≡ take 4 words → fonts ≡ drop 4 words
    → paths ≡ texts_of files ++ map (λ word. (font_of word.now).path) fonts → sizes ≡ map (λ word. (font_of word.now).size) fonts
    → record { steps = steps; demo = None; paths = paths; sizes = sizes } ≡ line_with (texts_of words) steps
line_made words files fonts steps paths sizes front back are have = ap₂ made first second
  where
    made : List (List ℕ) → List (Option ℤ) → CommandLine
    made p s = record { steps = steps; demo = None; paths = p; sizes = s }

    first : paths ≡ paths_of (texts_of words)
    first = are ∙ ap₂ (λ a b. texts_of a ++ map (λ word. (font_of word.now).path) b) front back
        ∙ ap₂ (λ a b. a ++ b) (sym (take-map (λ text. text.now) 4 words)) (sym (fonts_after (λ font. font.path) words))

    second : sizes ≡ sizes_of (texts_of words)
    second = have ∙ ap (map (λ word. (font_of word.now).size)) back ∙ sym (fonts_after (λ font. font.size) words)

-- ---- refusals

pub too_few : (value : Option (Bor (List ℕ))) (words : List (Bor (List ℕ))) → length words < 4
    → or_bad_words (line_of (parts_given value words)) ≡ Err (record {})
too_few value words few = rw (length-map, gt_test 4 (length words) few) refl

pub too_many : (value : Option (Bor (List ℕ))) (words : List (Bor (List ℕ))) → 4 ≤ length words → 68 < length words
    → or_bad_words (line_of (parts_given value words)) ≡ Err (record {})
too_many value words enough many =
    rw (length-map, le_test 4 (length words) enough, gt_test (length words) 68 many) refl

counted : (value : Option (Bor (List ℕ))) (words : List (Bor (List ℕ))) → 4 ≤ length words → length words ≤ 68
    → line_of (parts_given value words) ≡ option_map (line_with (texts_of words)) (steps_of (option_map (λ text. text.now) value))
counted value words enough few =
    rw (length-map, le_test 4 (length words) enough, le_test (length words) 68 few) refl

pub no_steps : (value : Option (Bor (List ℕ))) (words : List (Bor (List ℕ))) → 4 ≤ length words → length words ≤ 68
    → None ≡ steps_of (option_map (λ text. text.now) value) → or_bad_words (line_of (parts_given value words)) ≡ Err (record {})
no_steps value words enough few none = ap or_bad_words (counted value words enough few ∙ ap (option_map (line_with (texts_of words))) (sym none))

pub some_steps : (value : Option (Bor (List ℕ))) (words : List (Bor (List ℕ))) (steps : ℕ) → 4 ≤ length words → length words ≤ 68
    → Some steps ≡ steps_of (option_map (λ text. text.now) value) → or_bad_words (line_of (parts_given value words)) ≡ Ok (line_with (texts_of words) steps)
some_steps value words steps enough few some = ap or_bad_words (counted value words enough few ∙ ap (option_map (line_with (texts_of words))) (sym some))

-- ---- the whole

-- the getters of `clap` give what it found
pub given_are_found : (m : ArgMatches) (value : Option (Bor (List ℕ))) (paths : Option (Bor (List (Bor (List ℕ))))) (words : List (Bor (List ℕ)))
    → option_map (λ text. text.now) value ≡ first_value (found_of m) (codes "steps")
    → option_map (λ all. map (λ (text : Bor (List ℕ)). text.now) all.now) paths ≡ option_map raw_values (matched_of (found_of m) (codes "paths"))
    → unwrap_or (option_map (λ all. map (λ (text : Bor (List ℕ)). text.now) all.now) paths) [] ≡ texts_of words
    → parts_found m ≡ parts_given value words
given_are_found m value paths words first all are = ap₂ made (sym first) (ap (λ o. unwrap_or o []) (sym all) ∙ are)
  where
    made : Option (List ℕ) → List (List ℕ) → Parts
    made s p = record { steps = s; paths = p }

refused_parts : (o : Option Parts) (e : BadWords) → or_bad_words o ≡ Err e → or_bad_words (option_and_then line_of o) ≡ Err e
refused_parts None e is = refl
refused_parts (Some parts) e is = cc

pub refused_whole : (words : List (List ℕ)) (e : Fail BadWords) → Answers {A = Parts} (Err e) (or_bad_words (parts_of words))
    → Answers {A = CommandLine} (Err e) (command_line words)
refused_whole words NoMemory is = tt
refused_whole words (Is e) is = refused_parts (parts_of words) e is

accepted_parts : (o : Option Parts) (parts : Parts) → or_bad_words o ≡ Ok parts → or_bad_words (option_and_then line_of o) ≡ or_bad_words (line_of parts)
accepted_parts None parts is = cc
accepted_parts (Some known) parts is = go parts is
  where
    go : (p : Parts) → or_bad_words (Some known) ≡ Ok p → or_bad_words (line_of known) ≡ or_bad_words (line_of p)
    go p same = ap (λ r. told r) same
      where
        told : Result Parts BadWords → Result CommandLine BadWords
        told (Ok q) = or_bad_words (line_of q)
        told (Err e) = Err e

pub accepted_whole : (words : List (List ℕ)) (found given : Parts) → or_bad_words (parts_of words) ≡ Ok found → found ≡ given
    → or_bad_words (line_of given) ≡ command_line words
accepted_whole words found given is same = ap (λ p. or_bad_words (line_of p)) (sym same) ∙ sym (accepted_parts (parts_of words) found is)
