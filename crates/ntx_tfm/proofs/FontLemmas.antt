-- The tables of a file without fault make a font.
use Rattle.std.proofs.Common.{◌≡◌, ℕ, zero, suc, ◌+◌, ◌-◌, ◌*◌, ◌/◌, ◌<◌, ◌≤◌, ◌^◌, ℤ, pos, ◌-ℤ◌, Bool, true, false, cond, nat_eq, nat_lt, List, length, Option, Some, None, slice_index, slice_index_or, get_or, drop, All, refl, sym, ap, ◌∙◌, subst, arith}
use Rattle.std.proofs.lemmas.List.Elements.{All-nil, All-push}
use Rattle.std.specs.Prelude.{FitsSigned}
use Rattle.std.specs.Int.{w32}
use Rattle.std.proofs.lemmas.List.{get_or-drop}
use Rattle.std.proofs.lemmas.Bool.{cond_both}
use Rattle.std.proofs.lemmas.Int.{ints}
use Rattle.byteorder.specs.Endian.{twos_complement}
use Rattle.ntx_num.specs.Dimension.{IsDimension}
use Rattle.ntx_tfm.specs.declared.def.FontDef.{FontDef}
use Rattle.ntx_tfm.specs.declared.layout.Lengths.{Lengths}
use Rattle.ntx_tfm.specs.declared.words.CharInfo.{CharInfo}
use Rattle.ntx_tfm.specs.declared.step.LigStep.{LigStep}
use Rattle.ntx_tfm.specs.declared.tables.Character.{Character}
use Rattle.ntx_tfm.specs.Each.{table}
use Rattle.ntx_tfm.specs.Words.{word_at, signed_at, quad_at, info_at, step_at}
use Rattle.ntx_tfm.specs.Layout.{lengths_of, infos_at, steps_at, kerns_at, parameters_at}
use Rattle.ntx_tfm.specs.Scaling.{scaled}
use Rattle.ntx_tfm.specs.Faults.{is_there, has_size, IsSound}
use Rattle.ntx_tfm.specs.Font.{described, character_of, parameter_of, seven, design_of, definition_of, tables_of, IsSized, IsSizedCharacter, IsDefinition, IsFont}
use Rattle.ntx_tfm.proofs.EachLemmas.{length-table}
use Rattle.ntx_tfm.proofs.StepLemmas.{good_step, start_good}
use Rattle.ntx_tfm.proofs.ScalingLemmas.{scaled_small}

-- each byte is a byte
abbrev pub IsBytes : List ℕ → Type 0
IsBytes bytes = (i : ℕ) → slice_index bytes i < 256

All-table : {A : Type 0} (P : A → Type 0) (f : ℕ → A) (n : ℕ) → ((i : ℕ) → i < n → P (f i)) → All P (table f n)
unfolding table
All-table P f zero each = All-nil P
All-table P f (suc n) each = All-push P (table f n) (f n) (All-table P f n (λ i lt. each i (omega arith))) (each n (omega arith))

number_small : (bytes : List ℕ) (z i : ℕ) → IsBytes bytes → z < 2 ^ 26 → IsDimension (scaled z (quad_at bytes i))
unfolding quad_at
number_small bytes z i are-bytes small = scaled_small z _ small (are-bytes (4 * i + 1)) (are-bytes (4 * i + 2)) (are-bytes (4 * i + 3))

character_small : (bytes : List ℕ) (l : Lengths) (z code : ℕ) → IsBytes bytes → z < 2 ^ 26 → IsSizedCharacter (character_of bytes l z code)
unfolding character_of
character_small bytes l z code are-bytes small =
    let info : CharInfo = info_at bytes (infos_at l + (code - l.bc)) in
    let sized : IsSized (described bytes l z info).size = record { width = number_small bytes z _ are-bytes small; height = number_small bytes z _ are-bytes small; depth = number_small bytes z _ are-bytes small } in
    elim (is_there bytes l code) as (λ b. IsSizedCharacter (cond b (Some (described bytes l z info)) None)) [ true ↦ sized | false ↦ tt ]

parameter_small : (bytes : List ℕ) (l : Lengths) (z k : ℕ) → IsBytes bytes → z < 2 ^ 26 → 2 ≤ k → IsDimension (parameter_of bytes l z k)
unfolding parameter_of
parameter_small bytes l z k are-bytes small from-two =
    let number : IsDimension (scaled z (quad_at bytes (parameters_at l + (k - 1)))) = number_small bytes z _ are-bytes small in
    let later : nat_eq k 1 ≡ false = grind arith in
    rw later (elim (nat_lt l.np k) as (λ b. IsDimension (cond b (pos 0) (scaled z (quad_at bytes (parameters_at l + (k - 1)))))) [ true ↦ (omega (arith, ints), omega (arith, ints)) | false ↦ number ])

-- a word of four bytes is a number of 32 bits
word_small : (bytes : List ℕ) (i : ℕ) → IsBytes bytes → word_at bytes i < 2 ^ 32
unfolding word_at
word_small bytes i are-bytes =
    let byte : (k : ℕ) → slice_index (drop (4 * i) bytes) k < 256 = λ k. rw (get_or-drop (4 * i) bytes k 0) (are-bytes (4 * i + k)) in
    omega (arith, byte 0, byte 1, byte 2, byte 3)

-- read as two's complement, it fits a signed number of 32 bits
signed_fits : (x : ℕ) → x < 2 ^ 32 → FitsSigned w32 (twos_complement 4 x)
signed_fits x fits = cond_both (nat_lt x (2 ^ 31)) (pos x) (pos x -ℤ pos (2 ^ 32)) (λ z. FitsSigned w32 z)
    (λ low. let below : x < 2 ^ 31 = grind arith in omega (arith, ints))
    (λ high. let above : 2 ^ 31 ≤ x = grind arith in omega (arith, ints))

slant_fits : (bytes : List ℕ) (l : Lengths) (z : ℕ) → IsBytes bytes → FitsSigned w32 (parameter_of bytes l z 1)
unfolding parameter_of signed_at
slant_fits bytes l z are-bytes =
    cond_both (nat_lt l.np 1) (pos 0) (signed_at bytes (parameters_at l)) (λ z. FitsSigned w32 z) (λ _. omega (arith, ints)) (λ _. signed_fits _ (word_small bytes (parameters_at l) are-bytes))

seven_from_two : (f : ℕ → ℤ) (j : ℕ) → j ≤ 5 → slice_index_or (seven f) (j + 1) (pos 0) ≡ f (j + 2)
seven_from_two f zero high = refl
seven_from_two f (suc zero) high = refl
seven_from_two f (suc (suc zero)) high = refl
seven_from_two f (suc (suc (suc zero))) high = refl
seven_from_two f (suc (suc (suc (suc zero)))) high = refl
seven_from_two f (suc (suc (suc (suc (suc zero))))) high = refl
seven_from_two f (suc (suc (suc (suc (suc (suc j)))))) high = absurd (omega arith)

seven_at : (f : ℕ → ℤ) (k : ℕ) → 2 ≤ k → k ≤ 7 → slice_index_or (seven f) (k - 1) (pos 0) ≡ f k
seven_at f k low high =
    let first : k - 1 ≡ k - 2 + 1 = omega arith in
    let second : k - 2 + 2 ≡ k = omega arith in
    ap (λ i. slice_index_or (seven f) i (pos 0)) first ∙ seven_from_two f (k - 2) (omega arith) ∙ ap f second

definition_good : (bytes name : List ℕ) (z : ℕ) → has_size bytes ≡ true → 1 ≤ length name → length name ≤ 255 → 1 ≤ z → z < 2 ^ 26 → IsDefinition (definition_of bytes name z)
unfolding has_size design_of
definition_good bytes name z sized given short least most =
    let small : word_at bytes 7 < 1073741824 = grind arith in
    let large : 65536 ≤ word_at bytes 7 / 16 = grind arith in
    record {
      size_least = omega (arith, ints);
      size_most = omega (arith, ints);
      design_least = omega (arith, ints);
      design_most = omega (arith, ints);
      name_least = given;
      name_most = short;
    }

-- the fields of the font that is read are those of the tables
pub tables_are : (bytes name : List ℕ) (z : ℕ) (l : Lengths) (def : FontDef) (characters : List (Option Character)) (steps : List LigStep) (kerns parameters : List ℤ) → l ≡ lengths_of bytes
    → def ≡ definition_of bytes name z → characters ≡ table (character_of bytes l z) 256 → steps ≡ table (λ i. step_at bytes (steps_at l + i)) l.nl
    → kerns ≡ table (λ k. scaled z (quad_at bytes (kerns_at l + k))) l.nk → parameters ≡ seven (parameter_of bytes l z)
    → record { def = def; characters = characters; steps = steps; kerns = kerns; parameters = parameters } ≡ tables_of bytes name z
unfolding tables_of
tables_are bytes name z l def characters steps kerns parameters l-is def-is characters-are steps-are kerns-are parameters-are =
    rw (def-is, characters-are, steps-are, kerns-are, parameters-are, l-is) refl

pub is_font : (bytes name : List ℕ) (z : ℕ) → IsBytes bytes → IsSound bytes (lengths_of bytes) → 1 ≤ length name → length name ≤ 255 → 1 ≤ z → z < 2 ^ 26 → IsFont (tables_of bytes name z)
unfolding tables_of
is_font bytes name z are-bytes sound given short least most =
    let l : Lengths = lengths_of bytes in
    record {
      definition = definition_good bytes name z sound.size given short least most;
      codes = length-table (character_of bytes l z) 256;
      characters = All-table IsSizedCharacter (character_of bytes l z) 256 (λ code lt. character_small bytes l z code are-bytes most);
      steps = subst (λ (n : ℕ). n < 32768) (sym (length-table (λ i. step_at bytes (steps_at l + i)) l.nl)) sound.laid_out.steps;
      kerns = All-table IsDimension (λ k. scaled z (quad_at bytes (kerns_at l + k))) l.nk (λ k lt. number_small bytes z (kerns_at l + k) are-bytes most);
      good_steps = good_step bytes name z sound;
      starts = start_good bytes name z sound;
      slant = slant_fits bytes l z are-bytes;
      parameters = λ k low high. subst IsDimension (sym (seven_at (parameter_of bytes l z) k low high)) (parameter_small bytes l z k are-bytes most low);
    }

pub definition_is : (bytes name : List ℕ) (z checksum : ℕ) (size design : ℤ) (given : List ℕ) → checksum ≡ word_at bytes 6 → size ≡ pos z → design ≡ pos (design_of bytes) → given ≡ name
    → record { checksum = checksum; size = size; design = design; name = given } ≡ definition_of bytes name z
definition_is bytes name z checksum size design given checksum-is size-is design-is given-is = rw (checksum-is, size-is, design-is, given-is) refl
