-- Going through the steps finds the least place that applies.
use Rattle.std.proofs.Common.{◌≡◌, ℕ, zero, suc, ◌+◌, ◌<◌, ◌≤◌, true, false, nat_lt, ◌⊎◌, inl, inr, List, [], ◌∷◌, length, Option, Some, None, slice_get, refl, sym, ap, ◌∙◌, subst, arith}
use Rattle.std.proofs.lemmas.Bool.{cases_lt, cases_Bool}
use Rattle.std.proofs.lemmas.Option.{slice_get_past, slice_get_cases}
use Rattle.ntx_num.proofs.Answers.{same_Some}
use Rattle.ntx_tfm.specs.declared.step.LigStep.{LigStep}
use Rattle.ntx_tfm.specs.Font.{FontTables, start_at}
use Rattle.ntx_pairs.specs.Pairs.{applies, Reaches, here, later, AppliesAt, Decides, deciding, command_in, IsPairFrom, IsPair}
use Rattle.ntx_pairs.specs.declared.command.Pair.{Pair}

pub deciding_end : (right place : ℕ) (steps : List LigStep) → slice_get steps place ≡ None → deciding right place steps ≡ None
deciding_end right place [] none = refl
deciding_end right zero (first ∷ steps) none = absurd cc
deciding_end right (suc place) (first ∷ steps) none = deciding_end right place steps none

pub deciding_found : (right place : ℕ) (steps : List LigStep) (step : LigStep) → slice_get steps place ≡ Some step → applies step right ≡ true → deciding right place steps ≡ Some step
deciding_found right place [] step found applied = absurd cc
deciding_found right zero (first ∷ steps) step found applied =
    let e : first ≡ step = same_Some first step found in
    rw (e, applied) refl
deciding_found right (suc place) (first ∷ steps) step found applied = deciding_found right place steps step found applied

pub deciding_on : (right place : ℕ) (steps : List LigStep) (step : LigStep) → slice_get steps place ≡ Some step → applies step right ≡ false → step.skip < 128
    → deciding right place steps ≡ deciding right (place + step.skip + 1) steps
deciding_on right place [] step found fails on = absurd cc
deciding_on right zero (first ∷ steps) step found fails on =
    let e : first ≡ step = same_Some first step found in
    let next : 0 + step.skip + 1 ≡ suc step.skip = omega arith in
    let goes : nat_lt step.skip 128 ≡ true = grind arith in
    rw (e, fails, goes, next) refl
deciding_on right (suc place) (first ∷ steps) step found fails on =
    let next : suc place + step.skip + 1 ≡ suc (place + step.skip + 1) = omega arith in
    rw next (deciding_on right place steps step found fails on)

pub deciding_stop : (right place : ℕ) (steps : List LigStep) (step : LigStep) → slice_get steps place ≡ Some step → applies step right ≡ false → 128 ≤ step.skip → deciding right place steps ≡ None
deciding_stop right place [] step found fails stop = refl
deciding_stop right zero (first ∷ steps) step found fails stop =
    let e : first ≡ step = same_Some first step found in
    let ends : nat_lt step.skip 128 ≡ false = grind arith in
    rw (e, fails, ends) refl
deciding_stop right (suc place) (first ∷ steps) step found fails stop = deciding_stop right place steps step found fails stop

reaches_le : (steps : List LigStep) (i j : ℕ) → Reaches steps i j → i ≤ j
reaches_le steps i j (here k) = omega arith
reaches_le steps i j (later k m step found on rest) = omega (arith, reaches_le steps (k + step.skip + 1) m rest)

-- a place is the first, or is reached from the next
first_or_later : (steps : List LigStep) (i j : ℕ) → Reaches steps i j → (i ≡ j) ⊎ ((step : LigStep) × (slice_get steps i ≡ Some step) × (step.skip < 128) × Reaches steps (i + step.skip + 1) j)
first_or_later steps i j (here k) = inl refl
first_or_later steps i j (later k m step found on rest) = inr (step, found, on, rest)

-- no step applies at a place without a step, or whose step does not apply
none_here : (steps : List LigStep) (right i : ℕ) (step other : LigStep) → slice_get steps i ≡ Some step → applies step right ≡ false → AppliesAt steps right i other → ⊥
none_here steps right i step other found fails at =
    let e : step ≡ other = same_Some step other (sym found ∙ at.found) in
    let passes : applies step right ≡ true = subst (λ (s : LigStep). applies s right ≡ true) (sym e) at.applied in
    let clash : true ≡ false = sym passes ∙ fails in
    cc

decides_end : (steps : List LigStep) (right i : ℕ) → slice_get steps i ≡ None → Decides steps i right None
decides_end steps right i none = λ j other reach at. elim (first_or_later steps i j reach) [
  | inl e ↦ let clash : Some other ≡ None = sym at.found ∙ sym (ap (slice_get steps) e) ∙ none in cc
  | inr r ↦ let clash : Some r.0 ≡ None = sym r.1 ∙ none in cc
]

decides_stop : (steps : List LigStep) (right i : ℕ) (step : LigStep) → slice_get steps i ≡ Some step → applies step right ≡ false → 128 ≤ step.skip → Decides steps i right None
decides_stop steps right i step found fails stop = λ j other reach at. elim (first_or_later steps i j reach) [
  | inl e ↦ none_here steps right i step other found fails (subst (λ (k : ℕ). AppliesAt steps right k other) (sym e) at)
  | inr r ↦
      let same : r.0 ≡ step = same_Some r.0 step (sym r.1 ∙ found) in
      let on : step.skip < 128 = subst (λ (s : LigStep). s.skip < 128) same r.2 in
      omega arith
]

decides_here : (steps : List LigStep) (right i : ℕ) (step : LigStep) → slice_get steps i ≡ Some step → applies step right ≡ true → Decides steps i right (Some step)
decides_here steps right i step found applied =
    (i, record { reached = here i; applied = record { found = found; applied = applied }; least = λ j other reach at. reaches_le steps i j reach })

decides_on : (steps : List LigStep) (right i : ℕ) (step : LigStep) (decided : Option LigStep) → slice_get steps i ≡ Some step → applies step right ≡ false → step.skip < 128
    → Decides steps (i + step.skip + 1) right decided → Decides steps i right decided
decides_on steps right i step None found fails on after = λ j other reach at. elim (first_or_later steps i j reach) [
  | inl e ↦ none_here steps right i step other found fails (subst (λ (k : ℕ). AppliesAt steps right k other) (sym e) at)
  | inr r ↦
      let same : r.0 ≡ step = same_Some r.0 step (sym r.1 ∙ found) in
      after j other (subst (λ (s : LigStep). Reaches steps (i + s.skip + 1) j) same r.3) at
]
decides_on steps right i step (Some decided) found fails on after =
    let least : (j : ℕ) (other : LigStep) → Reaches steps i j → AppliesAt steps right j other → after.0 ≤ j = λ j other reach at. elim (first_or_later steps i j reach) [
      | inl e ↦ absurd (none_here steps right i step other found fails (subst (λ (k : ℕ). AppliesAt steps right k other) (sym e) at))
      | inr r ↦
          let same : r.0 ≡ step = same_Some r.0 step (sym r.1 ∙ found) in
          after.1.least j other (subst (λ (s : LigStep). Reaches steps (i + s.skip + 1) j) same r.3) at
    ] in
    (after.0, record { reached = later i after.0 step found on after.1.reached; applied = after.1.applied; least = least })

pub decides_lem : (n : ℕ) (steps : List LigStep) (start right : ℕ) → length steps ≤ start + n → Decides steps start right (deciding right start steps)
decides_lem zero steps start right enough =
    let none : slice_get steps start ≡ None = slice_get_past steps start (omega arith) in
    subst (Decides steps start right) (sym (deciding_end right start steps none)) (decides_end steps right start none)
decides_lem (suc n) steps start right enough = elim ((slice_get_cases steps start).1) [
  | inl c ↦ elim (cases_Bool (applies c.0 right)) [
    | inl applied ↦ subst (Decides steps start right) (sym (deciding_found right start steps c.0 c.2 applied)) (decides_here steps right start c.0 c.2 applied)
    | inr fails ↦ elim (cases_lt c.0.skip 128) [
      | inl on ↦ subst (Decides steps start right) (sym (deciding_on right start steps c.0 c.2 fails on)) (decides_on steps right start c.0 _ c.2 fails on (decides_lem n steps (start + c.0.skip + 1) right (omega arith)))
      | inr stop ↦ subst (Decides steps start right) (sym (deciding_stop right start steps c.0 c.2 fails stop)) (decides_stop steps right start c.0 c.2 fails stop)
    ]
  ]
  | inr past ↦ subst (Decides steps start right) (sym (deciding_end right start steps past.1)) (decides_end steps right start past.1)
]

-- what goes through the program of a character gives its pair
pub is_pair : (t : FontTables) (left right start : ℕ) (pair : Pair) → Some start ≡ start_at t left → pair ≡ command_in t (deciding right start t.steps) → IsPair t left right pair
is_pair t left right start pair start-is pair-is =
    subst (λ (o : Option ℕ). IsPairFrom t right o pair) start-is (deciding right start t.steps, decides_lem (length t.steps) t.steps start right (omega arith), pair-is)
