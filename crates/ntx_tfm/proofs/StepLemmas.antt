-- What the steps and programs of a file without fault keep.
use Rattle.std.proofs.Common.{◌≡◌, ℕ, ◌+◌, ◌-◌, ◌*◌, ◌<◌, ◌≤◌, true, nat_eq, List, length, Option, Some, None, slice_get, slice_index_or, is_some, IfSome, refl, sym, ap, ◌∙◌, subst, inl, inr, arith}
use Rattle.std.proofs.lemmas.Bool.{cases_lt, cases_Bool}
use Rattle.std.proofs.lemmas.List.{get_or_past}
use Rattle.std.proofs.lemmas.Option.{get_or_from_slice_get, slice_get_within, cond_some}
use Rattle.ntx_tfm.specs.declared.layout.Lengths.{Lengths}
use Rattle.ntx_tfm.specs.declared.words.CharInfo.{CharInfo}
use Rattle.ntx_tfm.specs.declared.step.LigStep.{LigStep}
use Rattle.ntx_tfm.specs.Each.{table}
use Rattle.ntx_tfm.specs.Words.{info_at, step_at, quad_at}
use Rattle.ntx_tfm.specs.Layout.{lengths_of, infos_at, steps_at, kerns_at}
use Rattle.ntx_tfm.specs.Scaling.{scaled}
use Rattle.ntx_tfm.specs.Faults.{is_there, is_ligature, begins_at_step, has_operands, is_good_step, are_good_steps, IsSound}
use Rattle.ntx_tfm.specs.Font.{start_of, start_from, character_of, tables_of, start_in, start_at, IsGoodStep}
use Rattle.ntx_tfm.proofs.EachLemmas.{each_passes, length-table, get-table}
use Rattle.ntx_tfm.proofs.SoundLemmas.{code_of, begins_of}

-- the step of a table at a place
step_is : (bytes : List ℕ) (l : Lengths) (i : ℕ) (step : LigStep) → slice_get (table (λ i. step_at bytes (steps_at l + i)) l.nl) i ≡ Some step → (i < l.nl) × (step ≡ step_at bytes (steps_at l + i))
step_is bytes l i step found =
    let f : ℕ → LigStep = λ i. step_at bytes (steps_at l + i) in
    let within : i < length (table f l.nl) = slice_get_within (table f l.nl) i step found in
    let below : i < l.nl = omega (arith, length-table f l.nl) in
    (below, sym (get_or_from_slice_get (table f l.nl) i step step found) ∙ get-table f l.nl i step below)

good_at : (bytes : List ℕ) (l : Lengths) (i : ℕ) → are_good_steps bytes l ≡ true → i < l.nl → is_good_step bytes l i (step_at bytes (steps_at l + i)) ≡ true
unfolding are_good_steps
good_at bytes l i good below = each_passes (λ i. is_good_step bytes l i (step_at bytes (steps_at l + i))) l.nl i below good

leads : (bytes : List ℕ) (l : Lengths) (i : ℕ) (step : LigStep) → is_good_step bytes l i step ≡ true → 128 < step.skip → 256 * step.op + step.rem < l.nl
unfolding is_good_step
leads bytes l i step good jump = grind arith

goes_on : (bytes : List ℕ) (l : Lengths) (i : ℕ) (step : LigStep) → is_good_step bytes l i step ≡ true → step.skip < 128 → i + step.skip + 1 < l.nl
unfolding is_good_step
goes_on bytes l i step good on = grind arith

operands : (bytes : List ℕ) (l : Lengths) (i : ℕ) (step : LigStep) → is_good_step bytes l i step ≡ true → step.skip ≤ 128 → has_operands bytes l step ≡ true
unfolding is_good_step
operands bytes l i step good applies = grind arith

kern_there : (bytes : List ℕ) (l : Lengths) (step : LigStep) → has_operands bytes l step ≡ true → 128 ≤ step.op → 256 * (step.op - 128) + step.rem < l.nk
unfolding has_operands
kern_there bytes l step has kern = grind arith

ligature_there : (bytes : List ℕ) (l : Lengths) (step : LigStep) → has_operands bytes l step ≡ true → step.op < 128 → (is_ligature step.op ≡ true) × (is_there bytes l step.rem ≡ true)
unfolding has_operands
ligature_there bytes l step has ligature = grind arith

-- the character of a code in the tables
character_is : (bytes : List ℕ) (l : Lengths) (z code : ℕ) → code < 256 → slice_index_or (table (character_of bytes l z) 256) code None ≡ character_of bytes l z code
character_is bytes l z code byte = get-table (character_of bytes l z) 256 code None byte

there_is : (bytes : List ℕ) (l : Lengths) (z code : ℕ) → l.ec ≤ 255 → is_there bytes l code ≡ true → is_some (slice_index_or (table (character_of bytes l z) 256) code None) ≡ true
unfolding character_of
there_is bytes l z code last there =
    let codes : (l.bc ≤ code) × (code ≤ l.ec) = code_of bytes l code there in
    rw (character_is bytes l z code (omega arith), there) refl

pub good_step : (bytes name : List ℕ) (z : ℕ) → IsSound bytes (lengths_of bytes) → (i : ℕ) (step : LigStep) → slice_get (tables_of bytes name z).steps i ≡ Some step → IsGoodStep (tables_of bytes name z) i step
unfolding tables_of
good_step bytes name z sound i step found =
    let l : Lengths = lengths_of bytes in
    let here : (i < l.nl) × (step ≡ step_at bytes (steps_at l + i)) = step_is bytes l i step found in
    let good : is_good_step bytes l i step ≡ true = rw here.1 (good_at bytes l i sound.steps here.0) in
    let count : length (table (λ i. step_at bytes (steps_at l + i)) l.nl) ≡ l.nl = length-table (λ i. step_at bytes (steps_at l + i)) l.nl in
    let kerns : length (table (λ k. scaled z (quad_at bytes (kerns_at l + k))) l.nk) ≡ l.nk = length-table (λ k. scaled z (quad_at bytes (kerns_at l + k))) l.nk in
    record {
      start = λ jump. subst (λ (n : ℕ). 256 * step.op + step.rem < n) (sym count) (leads bytes l i step good jump);
      kern = λ applies is_kern. subst (λ (n : ℕ). 256 * (step.op - 128) + step.rem < n) (sym kerns) (kern_there bytes l step (operands bytes l i step good applies) is_kern);
      ligature = λ applies small. let there = ligature_there bytes l step (operands bytes l i step good applies) small in (there.0, there_is bytes l z step.rem sound.laid_out.last_code there.1);
      next = λ on. subst (λ (n : ℕ). i + step.skip + 1 < n) (sym count) (goes_on bytes l i step good on);
    }

begins_inside : (l : Lengths) (info : CharInfo) → begins_at_step l info ≡ true → nat_eq info.tag 1 ≡ true → info.remainder < l.nl
unfolding begins_at_step
begins_inside l info begins tagged = grind arith

start_inside : (bytes : List ℕ) (l : Lengths) (info : CharInfo) (place : ℕ) → are_good_steps bytes l ≡ true → begins_at_step l info ≡ true → start_of bytes l info ≡ Some place → place < l.nl
unfolding start_of
start_inside bytes l info place good begins found =
    let first : LigStep = step_at bytes (steps_at l + info.remainder) in
    let parts = cond_some (nat_eq info.tag 1) (start_from info.remainder first) place found in
    let inside : info.remainder < l.nl = begins_inside l info begins parts.0 in
    let here : is_good_step bytes l info.remainder first ≡ true = good_at bytes l info.remainder good inside in
    let jump : 128 < first.skip → 256 * first.op + first.rem < l.nl = leads bytes l info.remainder first here in
    subst (λ (n : ℕ). n < l.nl) parts.1 (grind arith)

start_in_file : (bytes : List ℕ) (l : Lengths) (z code place : ℕ) → IsSound bytes l → start_in (character_of bytes l z code) ≡ Some place → place < l.nl
unfolding character_of
start_in_file bytes l z code place sound found =
    elim (cases_Bool (is_there bytes l code)) [
      | inl there ↦ start_inside bytes l (info_at bytes (infos_at l + (code - l.bc))) place sound.steps (begins_of bytes l code _ sound.begins there refl) (rw there at found)
      | inr not_there ↦ absurd (cc (rw not_there at found))
    ]

pub start_good : (bytes name : List ℕ) (z : ℕ) → IsSound bytes (lengths_of bytes) → (c place : ℕ) → start_at (tables_of bytes name z) c ≡ Some place → place < length (tables_of bytes name z).steps
unfolding tables_of
start_good bytes name z sound c place found =
    let l : Lengths = lengths_of bytes in
    let count : length (table (λ i. step_at bytes (steps_at l + i)) l.nl) ≡ l.nl = length-table (λ i. step_at bytes (steps_at l + i)) l.nl in
    let inside : place < l.nl = elim (cases_lt c 256) [
      | inl byte ↦ start_in_file bytes l z c place sound (sym (ap start_in (character_is bytes l z c byte)) ∙ found)
      | inr past ↦ absurd (cc (sym (ap start_in (get_or_past (table (character_of bytes l z) 256) c None (omega (arith, length-table (character_of bytes l z) 256)))) ∙ found))
    ] in
    subst (λ (n : ℕ). place < n) (sym count) inside

-- what holds of a start that is found
pub found_inside : (found start : Option ℕ) (n : ℕ) → ((place : ℕ) → start ≡ Some place → place < n) → found ≡ start → IfSome found (λ place. place < n)
found_inside None start n inside e = tt
found_inside (Some place) start n inside e = inside place (sym e)
