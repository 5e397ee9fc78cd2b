-- Between two calls of a read to the end or of a whole write: what was given or taken so far.
use Rattle.std.specs.Prelude.{◌==◌, ◌≢◌, [], Bool, false}
use Rattle.std.proofs.Common.{◌≡◌, ℕ, ◌+◌, ◌<◌, ◌≤◌, List, ◌++◌, length, take, drop, Option, Some, None, Ok, Err, subst, sym, ap, ◌∙◌, append_assoc, arith, length-append}
use Rattle.std.proofs.Math.Seq.{drop-append-add}
use Rattle.std.proofs.lemmas.Bool.{true≢false}
use Rattle.std.proofs.lemmas.List.{take-append-drop}
use Rattle.ntx_io.specs.Outside.{GivesNext, ReadsBytes, TakesBytes, Adds, AddsProperPrefix}
use Rattle.ntx_io.specs.Whole.{IsLeftAfter, ReadsToEnd}
use Rattle.ntx_num.specs.declared.answer.Fail.TheVariants.{NoMemory, Is}
use Rattle.ntx_io.specs.declared.whole.ReadWhy.TheVariants.{TooLarge}

-- the first bytes of the text were taken, the others are the rest
pub record WrittenSoFar (old now : Option (List ℕ)) (text rest : List ℕ) : Type 0 where
  pub prefix : List ℕ
  pub parts : text ≡ prefix ++ rest
  pub taken : Adds old now prefix

-- the bytes given so far and those that are left are those that were left at first
abbrev pub GivenSoFar : Option (List ℕ) → Option (List ℕ) → List ℕ → Type 0
GivenSoFar (Some left) now bytes = (rest : List ℕ) × (left ≡ bytes ++ rest) × (now ≡ Some rest)
GivenSoFar None now bytes = now ≡ None

taken_more : (E : Type 0) (old now new : Option (List ℕ)) (prefix rest : List ℕ) (k : ℕ) → Adds old now prefix → TakesBytes {E = E} now new rest (Ok k) → Adds old new (prefix ++ take k rest)
taken_more E (Some taken) now new prefix rest k so_far takes =
    let step : TakesBytes {E = E} (Some (taken ++ prefix)) new rest (Ok k) = subst (λ n. TakesBytes {E = E} n new rest (Ok k)) so_far takes in
    step ∙ ap Some (append_assoc taken prefix (take k rest))
taken_more E None now new prefix rest k so_far takes =
    subst (λ n. TakesBytes {E = E} n new rest (Ok k)) so_far takes

-- A write of the rest that took k bytes of it goes on.
pub WrittenSoFar-more : (E : Type 0) (old now new : Option (List ℕ)) (text rest : List ℕ) (k : ℕ) → WrittenSoFar old now text rest → TakesBytes {E = E} now new rest (Ok k) → WrittenSoFar old new text (drop k rest)
WrittenSoFar-more E old now new text rest k so_far takes = record {
  prefix = so_far.prefix ++ take k rest;
  parts = so_far.parts ∙ ap (λ r. so_far.prefix ++ r) (sym (take-append-drop k rest)) ∙ sym (append_assoc so_far.prefix (take k rest) (drop k rest));
  taken = taken_more E old now new so_far.prefix rest k so_far.taken takes;
}

failed_adds : (E : Type 0) (old now new : Option (List ℕ)) (prefix rest : List ℕ) (e : E) → Adds old now prefix → TakesBytes {E = E} now new rest (Err e) → Adds old new prefix
failed_adds E (Some taken) now new prefix rest e so_far takes =
    subst (λ n. TakesBytes {E = E} n new rest (Err e)) so_far takes
failed_adds E None now new prefix rest e so_far takes =
    subst (λ n. TakesBytes {E = E} n new rest (Err e)) so_far takes

-- A rest that is not empty by its test.
has_rest : (rest : List ℕ) (empty : Bool) → empty ≡ (length rest == 0) → empty ≡ false → rest ≢ []
has_rest rest empty is test none = true≢false (sym (ap (λ r. length r == 0) none) ∙ sym is ∙ test)

-- A write that fails stops with what was taken so far, which is not all.
pub stops_written : (E : Type 0) (old now new : Option (List ℕ)) (text rest : List ℕ) (e : E) (empty : Bool) → WrittenSoFar old now text rest → empty ≡ (length rest == 0) → empty ≡ false → TakesBytes {E = E} now new rest (Err e) → AddsProperPrefix old new text
stops_written E old now new text rest e empty so_far is test takes = record {
  prefix = so_far.prefix;
  rest = rest;
  parts = so_far.parts;
  cut = has_rest rest empty is test;
  adds = failed_adds E old now new so_far.prefix rest e so_far.taken takes;
}

-- A read after bytes were given leaves what follows those that it gave.
left_after : (E : Type 0) (left rest : List ℕ) (new : Option (List ℕ)) (bytes buffer : List ℕ) (k : ℕ) → left ≡ bytes ++ rest → GivesNext rest new buffer k → IsLeftAfter (length bytes + k) left new
left_after E left rest new bytes buffer k parts gives = (
  rw (parts, length-append) (let enough = gives.enough in omega arith),
  gives.rest ∙ ap Some (sym (ap (drop (length bytes + k)) parts ∙ drop-append-add bytes rest k)),
)

-- Reading stops past the limit, or where memory ran out, after the bytes of its last read.
pub stops_too_large : (E : Type 0) (old now new : Option (List ℕ)) (bytes buffer : List ℕ) (k limit : ℕ) → GivenSoFar old now bytes → ReadsBytes {E = E} now new buffer (Ok k) → limit < length bytes + k → ReadsToEnd old new limit (Err (Is TooLarge))
stops_too_large E (Some left) now new bytes buffer k limit so_far reads more =
    let step : ReadsBytes {E = E} (Some so_far.0) new buffer (Ok k) = subst (λ n. ReadsBytes {E = E} n new buffer (Ok k)) so_far.2 reads in
    (length bytes + k, more, left_after E left so_far.0 new bytes buffer k so_far.1 step)
stops_too_large E None now new bytes buffer k limit so_far reads more =
    subst (λ n. ReadsBytes {E = E} n new buffer (Ok k)) so_far reads

pub stops_without_memory : (E : Type 0) (old now new : Option (List ℕ)) (bytes buffer : List ℕ) (k limit : ℕ) → GivenSoFar old now bytes → ReadsBytes {E = E} now new buffer (Ok k) → length bytes + k ≤ limit → ReadsToEnd old new limit (Err NoMemory)
stops_without_memory E (Some left) now new bytes buffer k limit so_far reads within =
    let step : ReadsBytes {E = E} (Some so_far.0) new buffer (Ok k) = subst (λ n. ReadsBytes {E = E} n new buffer (Ok k)) so_far.2 reads in
    (length bytes + k, within, left_after E left so_far.0 new bytes buffer k so_far.1 step)
stops_without_memory E None now new bytes buffer k limit so_far reads within =
    subst (λ n. ReadsBytes {E = E} n new buffer (Ok k)) so_far reads

length_of_rest : (old now : Option (List ℕ)) (text rest : List ℕ) → WrittenSoFar old now text rest → length text ≡ 0 → length rest ≡ 0
length_of_rest old now text rest so_far none =
    omega (arith, length-append so_far.prefix rest, ap length so_far.parts)

-- An empty text has no rest to write.
pub no_rest_of_nothing : (old now : Option (List ℕ)) (text rest : List ℕ) (empty : Bool) → WrittenSoFar old now text rest → length text ≡ 0 → empty ≡ (length rest == 0) → empty ≡ false → ⊥
no_rest_of_nothing old now text rest empty so_far none is test =
    true≢false (sym (ap (λ n. n == 0) (length_of_rest old now text rest so_far none)) ∙ sym is ∙ test)
