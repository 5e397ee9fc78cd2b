-- What was read of the inputs: in what order, and what the definition of a run makes of their bytes.
use Rattle.std.proofs.Common.{◌≡◌, ℕ, ℤ, List, [], ◌∷◌, map, Option, Some, Result, Ok, Err, ◌⊎◌, inl, inr, refl, ap, sym, ◌∙◌, subst}
use Rattle.std.specs.Prelude.{IsTrue, is_ok, length}
use Rattle.std.proofs.lemmas.List.{length-map}
use Rattle.ntx_num.specs.Answer.{result_and_then, result_map}
use Rattle.ntx_io.specs.Outside.{Input, NamedInput}
use Rattle.ntx_doc.specs.declared.command.Command.{Command}
use Rattle.ntx_tfm.specs.Font.{FontTables}
use Rattle.ntx_run.specs.declared.stop.StopReason.{StopReason}
use Rattle.ntx_run.specs.declared.stop.StopReason.TheVariants as stop
use Rattle.ntx_run.specs.declared.outcome.Which.{Which}
use Rattle.ntx_run.specs.declared.outcome.Which.TheVariants as which
use Rattle.ntx_run.specs.Run.{InputBytes, Job, job_of, read_document, read_script, read_patterns, read_fonts, read_inputs, fits_form, font_sizes}
use Rattle.ntx_run.specs.Outside.{Inputs, Turn, names_of, fonts_in_turn, in_turn, input_counts, Exposes, AreAtEnd, AreReadInTurn, AreReadInOrder, FailsAt}
use Rattle.ntx_run.specs.inner.Parts.{IsRefusalOf, ReadsInput, ReadsInputs, AtDocument, AtScript, AtPatterns, AtFonts}
use Rattle.ntx_run.proofs.FontReading.{accepted, font_counts, fonts_named, fonts_in_order, StopsAtFont, stops_at_font, AreFontsRead, fonts_read}

-- ---- names

firsts : {X B : Type 0} (name : X → List ℕ) (other : X → B) (xs : List X) → map (λ p. p.0) (map {B = List ℕ × B} (λ x. (name x, other x)) xs) ≡ map name xs
firsts name other [] = refl
firsts name other (x ∷ xs) = ap (λ rest. name x ∷ rest) (firsts name other xs)

-- The feeds' names are those of the fonts whose bytes they expose.
pub same_names : (inputs : Inputs) (bytes : InputBytes) → Exposes inputs bytes → names_of inputs ≡ map (λ font. font.name) bytes.fonts
same_names inputs bytes exposes =
    sym (firsts (λ font. font.name) (λ font. font.input.left) inputs.fonts)
    ∙ ap (map (λ p. p.0)) exposes.fonts
    ∙ firsts (λ font. font.name) (λ font. Some font.bytes) bytes.fonts

-- There are as many fonts as feeds that expose their bytes.
same_number : (inputs : Inputs) (bytes : InputBytes) → Exposes inputs bytes → length inputs.fonts ≡ length bytes.fonts
same_number inputs bytes exposes =
    sym (length-map inputs.fonts (λ font. font.name)) ∙ ap length (same_names inputs bytes exposes) ∙ length-map bytes.fonts (λ font. font.name)

-- The document, beside as many fonts as there are feeds.
pub beside_feeds : {X : Type 0} (seen : X → NamedInput) (feeds : List X) (before after : Input) (result : Result (List Command) StopReason) → ReadsInput which.Document (read_document (length feeds)) before after result → ReadsInput which.Document (read_document (length (map seen feeds))) before after result
beside_feeds seen feeds before after result reads = subst (λ n. ReadsInput which.Document (read_document n) before after result) (sym (length-map feeds seen)) reads

-- ---- the order

abbrev from_patterns : List (Option ℤ) → Input → List NamedInput → List Turn
from_patterns sizes patterns fonts =
    record { which = which.Patterns; accepts = λ bytes. is_ok (read_patterns bytes); input = patterns } ∷ fonts_in_turn 1 sizes fonts

abbrev from_script : List (Option ℤ) → Input → Input → List NamedInput → List Turn
from_script sizes script patterns fonts =
    record { which = which.Script; accepts = λ bytes. is_ok (read_script bytes); input = script } ∷ from_patterns sizes patterns fonts

same_from_patterns : (sizes : List (Option ℤ)) (before after : Inputs) → after.patterns ≡ before.patterns → after.fonts ≡ before.fonts → from_patterns sizes after.patterns after.fonts ≡ from_patterns sizes before.patterns before.fonts
same_from_patterns sizes before after patterns fonts =
    ap (λ (p : Input). from_patterns sizes p after.fonts) patterns ∙ ap (from_patterns sizes before.patterns) fonts

same_from_script : (sizes : List (Option ℤ)) (before after : Inputs) → after.script ≡ before.script → after.patterns ≡ before.patterns → after.fonts ≡ before.fonts → from_script sizes after.script after.patterns after.fonts ≡ from_script sizes before.script before.patterns before.fonts
same_from_script sizes before after script patterns fonts =
    ap (λ (s : Input). from_script sizes s after.patterns after.fonts) script
    ∙ ap (λ (p : Input). from_script sizes before.script p after.fonts) patterns
    ∙ ap (from_script sizes before.script before.patterns) fonts

module _ (sizes : List (Option ℤ)) (before after : Inputs) where
  read_in_turn : (result : Result Job StopReason) → ReadsInputs sizes before after result → AreReadInTurn (in_turn sizes before) (in_turn sizes after)
  read_in_turn _ (AtDocument why document script patterns fonts) =
      inl (same_from_script sizes before after script patterns fonts)
  read_in_turn _ (AtScript commands why document script patterns fonts) =
      inr (accepted _ commands before.document after.document document, inl (same_from_patterns sizes before after patterns fonts))
  read_in_turn _ (AtPatterns commands why document script patterns fonts) =
      inr (accepted _ commands before.document after.document document, inr (accepted _ tt before.script after.script script, inl (ap (fonts_in_turn 1 sizes) fonts)))
  read_in_turn _ (AtFonts commands result document script patterns fonts) =
      inr (accepted _ commands before.document after.document document, inr (accepted _ tt before.script after.script script, inr (accepted _ tt before.patterns after.patterns patterns, fonts_in_order 1 sizes before.fonts after.fonts result fonts)))

  read_named : (result : Result Job StopReason) → ReadsInputs sizes before after result → names_of after ≡ names_of before
  read_named _ (AtDocument why document script patterns fonts) = ap (map (λ font. font.name)) fonts
  read_named _ (AtScript commands why document script patterns fonts) = ap (map (λ font. font.name)) fonts
  read_named _ (AtPatterns commands why document script patterns fonts) = ap (map (λ font. font.name)) fonts
  read_named _ (AtFonts commands result document script patterns fonts) = fonts_named 1 sizes before.fonts after.fonts result fonts

pub in_order : (words : List (List ℕ)) (before after : Inputs) (result : Result Job StopReason) → IsTrue (fits_form words (names_of before)) → ReadsInputs (font_sizes words) before after result → AreReadInOrder words before after
in_order words before after result fits reads = record {
  words_first = inr fits;
  in_turn = read_in_turn (font_sizes words) before after result reads;
  names = read_named (font_sizes words) before after result reads;
}

-- ---- what the definition makes of the bytes

abbrev after_patterns : List (Option ℤ) → InputBytes → List Command → Result Job StopReason
after_patterns sizes bytes commands = result_map (job_of commands) (read_fonts 1 sizes bytes.fonts)

abbrev after_script : List (Option ℤ) → InputBytes → List Command → Result Job StopReason
after_script sizes bytes commands = result_and_then (read_patterns bytes.patterns) (λ _. after_patterns sizes bytes commands)

abbrev after_document : List (Option ℤ) → InputBytes → List Command → Result Job StopReason
after_document sizes bytes commands = result_and_then (read_script bytes.script) (λ _. after_script sizes bytes commands)

module _ (sizes : List (Option ℤ)) (inputs : Inputs) (bytes : InputBytes) (exposes : Exposes inputs bytes) where
  document_read : (result : Result (List Command) StopReason) → read_document (length inputs.fonts) bytes.document ≡ result → read_inputs sizes bytes ≡ result_and_then result (after_document sizes bytes)
  document_read result is =
      ap (λ r. result_and_then r (after_document sizes bytes)) (ap (λ n. read_document n bytes.document) (sym (same_number inputs bytes exposes)) ∙ is)

  script_read : (commands : List Command) (result : Result (Unit {0}) StopReason) → read_document (length inputs.fonts) bytes.document ≡ Ok commands → read_script bytes.script ≡ result → read_inputs sizes bytes ≡ result_and_then result (λ _. after_script sizes bytes commands)
  script_read commands result document is =
      document_read (Ok commands) document ∙ ap (λ r. result_and_then r (λ _. after_script sizes bytes commands)) is

  patterns_read : (commands : List Command) (result : Result (Unit {0}) StopReason) → read_document (length inputs.fonts) bytes.document ≡ Ok commands → read_script bytes.script ≡ Ok tt → read_patterns bytes.patterns ≡ result → read_inputs sizes bytes ≡ result_and_then result (λ _. after_patterns sizes bytes commands)
  patterns_read commands result document script is =
      script_read commands (Ok tt) document script ∙ ap (λ r. result_and_then r (λ _. after_patterns sizes bytes commands)) is

  all_fonts_read : (commands : List Command) (result : Result (List FontTables) StopReason) → read_document (length inputs.fonts) bytes.document ≡ Ok commands → read_script bytes.script ≡ Ok tt → read_patterns bytes.patterns ≡ Ok tt → read_fonts 1 sizes bytes.fonts ≡ result → read_inputs sizes bytes ≡ result_map (job_of commands) result
  all_fonts_read commands result document script patterns is =
      patterns_read commands (Ok tt) document script patterns ∙ ap (λ r. result_map (job_of commands) r) is

same_counts : (d d' s s' p p' : ℕ) (fs fs' : List ℕ) → d' ≡ d → s' ≡ s → p' ≡ p → fs' ≡ fs → ◌≡◌ {A = List ℕ} (d' ∷ s' ∷ p' ∷ fs') (d ∷ s ∷ p ∷ fs)
same_counts d d' s s' p p' fs fs' one two three four = cc

error_of_job : (commands : List Command) (result : Result (List FontTables) StopReason) (why : StopReason) → result_map (job_of commands) result ≡ Err why → result ≡ Err why
error_of_job commands (Ok fonts) why e = cc
error_of_job commands (Err other) why e = cc

fonts_of_job : (commands : List Command) (result : Result (List FontTables) StopReason) (job : Job) → result_map (job_of commands) result ≡ Ok job → (fonts : List FontTables) × (result ≡ Ok fonts) × (job ≡ job_of commands fonts)
fonts_of_job commands (Ok fonts) job e = (fonts, refl, cc)
fonts_of_job commands (Err why) job e = cc

module _ (sizes : List (Option ℤ)) (before after : Inputs) where
  counts_of_fonts : after.fonts ≡ before.fonts → font_counts after.fonts ≡ font_counts before.fonts
  counts_of_fonts same = ap font_counts same

  -- Reading stopped for this reason at one input: it is refused, as the definition says; its source failed; or memory ran out.
  pub record StopsAt (why : StopReason) : Type 0 where
    pub input : Which
    pub stops : (IsRefusalOf input why × (input_counts after ≡ input_counts before) × ((bytes : InputBytes) → Exposes before bytes → read_inputs sizes bytes ≡ Err why)) ⊎ (((why ≡ stop.Read input) × FailsAt input (in_turn sizes before) (in_turn sizes after)) ⊎ ((why ≡ stop.Memory) × (input_counts after ≡ input_counts before)))

  pub stops_at : (result : Result Job StopReason) (why : StopReason) → ReadsInputs sizes before after result → result ≡ Err why → StopsAt why
  stops_at _ why (AtDocument other document script patterns fonts) e =
      let same : other ≡ why = cc in
      let script_kept : after.script.faults ≡ before.script.faults = ap (λ (i : Input). i.faults) script in
      let patterns_kept : after.patterns.faults ≡ before.patterns.faults = ap (λ (i : Input). i.faults) patterns in
      rw (sym same) (record {
        input = which.Document;
        stops = elim document [
          | inl refusal ↦ inl (refusal.0, same_counts _ _ _ _ _ _ _ _ refusal.1.kept script_kept patterns_kept (counts_of_fonts fonts), λ bytes e. document_read sizes before bytes e (Err other) (refusal.1.gives bytes.document e.document))
          | inr others ↦ elim others [
            | inl failure ↦ inr (inl (failure.0, inl (refl, failure.1, same_from_script sizes before after script patterns fonts)))
            | inr memory ↦ inr (inr (memory.0, same_counts _ _ _ _ _ _ _ _ memory.1 script_kept patterns_kept (counts_of_fonts fonts)))
          ]
        ];
      })
  stops_at _ why (AtScript commands other document script patterns fonts) e =
      let same : other ≡ why = cc in
      let patterns_kept : after.patterns.faults ≡ before.patterns.faults = ap (λ (i : Input). i.faults) patterns in
      rw (sym same) (record {
        input = which.Script;
        stops = elim script [
          | inl refusal ↦ inl (refusal.0, same_counts _ _ _ _ _ _ _ _ document.kept refusal.1.kept patterns_kept (counts_of_fonts fonts), λ bytes e. script_read sizes before bytes e commands (Err other) (document.gives bytes.document e.document).0 (refusal.1.gives bytes.script e.script))
          | inr others ↦ elim others [
            | inl failure ↦ inr (inl (failure.0, inr (accepted _ commands before.document after.document document, inl (refl, failure.1, same_from_patterns sizes before after patterns fonts))))
            | inr memory ↦ inr (inr (memory.0, same_counts _ _ _ _ _ _ _ _ document.kept memory.1 patterns_kept (counts_of_fonts fonts)))
          ]
        ];
      })
  stops_at _ why (AtPatterns commands other document script patterns fonts) e =
      let same : other ≡ why = cc in
      rw (sym same) (record {
        input = which.Patterns;
        stops = elim patterns [
          | inl refusal ↦ inl (refusal.0, same_counts _ _ _ _ _ _ _ _ document.kept script.kept refusal.1.kept (counts_of_fonts fonts), λ bytes e. patterns_read sizes before bytes e commands (Err other) (document.gives bytes.document e.document).0 (script.gives bytes.script e.script).0 (refusal.1.gives bytes.patterns e.patterns))
          | inr others ↦ elim others [
            | inl failure ↦ inr (inl (failure.0, inr (accepted _ commands before.document after.document document, inr (accepted _ tt before.script after.script script, inl (refl, failure.1, ap (fonts_in_turn 1 sizes) fonts)))))
            | inr memory ↦ inr (inr (memory.0, same_counts _ _ _ _ _ _ _ _ document.kept script.kept memory.1 (counts_of_fonts fonts)))
          ]
        ];
      })
  stops_at _ why (AtFonts commands result document script patterns fonts) e =
      let at : StopsAtFont 1 sizes before.fonts after.fonts why = stops_at_font 1 sizes before.fonts after.fonts result why fonts (error_of_job commands result why e) in
      record {
        input = at.input;
        stops = elim at.stops [
          | inl refusal ↦ inl (refusal.0, same_counts _ _ _ _ _ _ _ _ document.kept script.kept patterns.kept refusal.1, λ bytes e. all_fonts_read sizes before bytes e commands (Err why) (document.gives bytes.document e.document).0 (script.gives bytes.script e.script).0 (patterns.gives bytes.patterns e.patterns).0 (refusal.2 bytes.fonts e.fonts))
          | inr others ↦ elim others [
            | inl failure ↦ inr (inl (failure.0, inr (accepted _ commands before.document after.document document, inr (accepted _ tt before.script after.script script, inr (accepted _ tt before.patterns after.patterns patterns, failure.1)))))
            | inr memory ↦ inr (inr (memory.0, same_counts _ _ _ _ _ _ _ _ document.kept script.kept patterns.kept memory.1))
          ]
        ];
      }

  -- All was read, to the ends.
  pub record IsAllRead (job : Job) : Type 0 where
    pub kept : input_counts after ≡ input_counts before
    pub gives : (bytes : InputBytes) → Exposes before bytes → (read_inputs sizes bytes ≡ Ok job) × AreAtEnd after

  pub all_read : (result : Result Job StopReason) (job : Job) → ReadsInputs sizes before after result → result ≡ Ok job → IsAllRead job
  all_read _ job (AtDocument why document script patterns fonts) e = cc
  all_read _ job (AtScript commands why document script patterns fonts) e = cc
  all_read _ job (AtPatterns commands why document script patterns fonts) e = cc
  all_read _ job (AtFonts commands result document script patterns reads) e =
      let parts = fonts_of_job commands result job e in
      let fonts : AreFontsRead 1 sizes before.fonts after.fonts parts.0 = fonts_read 1 sizes before.fonts after.fonts result parts.0 reads parts.1 in
      rw parts.2 (record {
        kept = same_counts _ _ _ _ _ _ _ _ document.kept script.kept patterns.kept fonts.kept;
        gives = λ bytes e.
            let first = document.gives bytes.document e.document in
            let second = script.gives bytes.script e.script in
            let third = patterns.gives bytes.patterns e.patterns in
            let others = fonts.gives bytes.fonts e.fonts in
            (all_fonts_read sizes before bytes e commands (Ok parts.0) first.0 second.0 third.0 others.0, (first.1, (second.1, (third.1, others.1))));
      })
