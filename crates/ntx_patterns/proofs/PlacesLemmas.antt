-- The places of children.
use Rattle.std.specs.List.{sum_by, count_by, list_all}
use Rattle.std.proofs.Common.{cond, ◌≡◌, ◌≢◌, ℕ, ◌+◌, ◌<◌, ◌≤◌, ◌⊎◌, true, false, List, length, set, get_or, nat_eq, refl, ap, sym, ◌∙◌, arith, inl, inr}
use Rattle.std.proofs.Common.{get_or-set_other, get_or-set_same}
use Rattle.std.proofs.lemmas.Bool.{cases_Bool, cases_lt}
use Rattle.std.proofs.lemmas.Bool.Decides.{nat_tests}
use Rattle.std.proofs.lemmas.Grind.{get_or_default_zero}
use Rattle.std.proofs.lemmas.List.{get_or_past, length-set}
use Rattle.std.proofs.lemmas.List.Sums.{sum_by-set, AllPass-from_list_all}
use Rattle.ntx_patterns.specs.Places.{symbol_index, place_of, IsPacked}

-- symbols have different numbers
pub index_apart : (a b : ℕ) → symbol_index a < 27 → symbol_index a ≡ symbol_index b → a ≡ b
index_apart a b known same = grind (arith, nat_tests)

pub few : (places : List ℕ) (n : ℕ) → IsPacked places n → n ≤ 27
few places n packed = omega (arith, packed.filled)

-- with another default
within_default : (places : List ℕ) (n i : ℕ) → IsPacked places n → i < 27 → get_or places i 255 ≡ get_or places i 0
within_default places n i packed within = get_or_default_zero places i 255 (omega (arith, packed.long))

-- a place is that of a child, or there is none
pub place_cases : (places : List ℕ) (n i : ℕ) → IsPacked places n → (get_or places i 255 < n) ⊎ (get_or places i 255 ≡ 255)
place_cases places n i packed =
    elim (cases_lt i 27) [
      | inl within ↦
          let same = within_default places n i packed within in
          elim (cases_Bool (nat_eq (get_or places i 0) 255)) [
            | inl none ↦ let e : get_or places i 0 ≡ 255 = grind (arith, nat_tests) in inr (same ∙ e)
            | inr some ↦
                let e : get_or places i 0 ≢ 255 = λ is. absurd (grind (arith, nat_tests)) in
                inl (omega (arith, same, packed.inside i within e))
          ]
      | inr past ↦ inr (get_or_past places i 255 (omega (arith, packed.long)))
    ]

-- a place that is there
pub place_there : (places : List ℕ) (n symbol : ℕ) → IsPacked places n → symbol_index symbol < 27 → get_or places (symbol_index symbol) 0 ≢ 255
    → (get_or places (symbol_index symbol) 0 ≡ place_of places symbol) × (get_or places (symbol_index symbol) 0 < n)
place_there places n symbol packed known there =
    (sym (within_default places n (symbol_index symbol) packed known), packed.inside (symbol_index symbol) known there)

-- another symbol has another place
pub places_apart : (places : List ℕ) (n a b : ℕ) → IsPacked places n → symbol_index a < 27 → place_of places a < n → place_of places b ≡ place_of places a → a ≡ b
places_apart places n a b packed known there same =
    elim (cases_lt (symbol_index b) 27) [
      | inl within ↦
          let at_a = within_default places n (symbol_index a) packed known in
          let at_b = within_default places n (symbol_index b) packed within in
          let some : get_or places (symbol_index a) 0 ≢ 255 = λ none. absurd (omega (arith, at_a, none, there, few places n packed)) in
          index_apart a b known (packed.apart (symbol_index a) (symbol_index b) known within some (omega (arith, at_a, at_b, same)))
      | inr past ↦ absurd (omega (arith, get_or_past places (symbol_index b) 255 (omega (arith, packed.long)), same, there, few places n packed))
    ]

-- ---- no child
pub none_packed : (places : List ℕ) → length places ≡ 27 → list_all (λ place. nat_eq place 255) places ≡ true → count_by (λ place. nat_eq place 255) places ≡ 27 → IsPacked places 0
none_packed places long absent all =
    let none : (i : ℕ) → i < 27 → get_or places i 0 ≡ 255 = λ i within. let e : nat_eq (get_or places i 0) 255 ≡ true = AllPass-from_list_all (λ place. nat_eq place 255) places absent i 0 (omega arith) in grind (arith, nat_tests) in
    record {
      long = long;
      filled = omega (arith, all);
      inside = λ i within some. absurd (some (none i within));
      apart = λ i j within_i within_j some same. absurd (some (none i within_i));
    }

-- ---- one child more
pub room : (places : List ℕ) (n i : ℕ) → IsPacked places n → i < 27 → get_or places i 0 ≡ 255 → (n < 27) × (n + 1 + sum_by (λ place. cond (nat_eq place 255) 1 0) (set places i n) ≡ 27)
room places n i packed within none =
    let f : ℕ → ℕ = λ place. cond (nat_eq place 255) 1 0 in
    let counted : sum_by f (set places i n) + f (get_or places i 0) ≡ sum_by f places + f n = sum_by-set f places i n 0 (omega (arith, packed.long)) in
    let old : f (get_or places i 0) ≡ 1 = ap f none in
    let filled : n + sum_by f places ≡ 27 = packed.filled in
    let other : nat_eq n 255 ≡ false = grind (arith, nat_tests) in
    let new : f n ≡ 0 = rw other refl in
    (omega (arith, counted, old, filled, new), omega (arith, counted, old, filled, new))

pub more_packed : (places : List ℕ) (n i : ℕ) → IsPacked places n → i < 27 → get_or places i 0 ≡ 255 → IsPacked (set places i n) (n + 1)
more_packed places n i packed within none =
    let here : get_or (set places i n) i 0 ≡ n = get_or-set_same places i n 0 (omega (arith, packed.long)) in
    let there : (j : ℕ) → j ≢ i → get_or (set places i n) j 0 ≡ get_or places j 0 = λ j other. get_or-set_other places i j n 0 other in
    record {
      long = length-set places i n ∙ packed.long;
      filled = (room places n i packed within none).1;
      inside = λ j within_j some.
          elim (cases_Bool (nat_eq j i)) [
            | inl same ↦ let e : j ≡ i = grind (arith, nat_tests) in rw e (omega (arith, here))
            | inr other ↦
                let e : j ≢ i = λ is. absurd (grind (arith, nat_tests)) in
                omega (arith, there j e, packed.inside j within_j (λ none_j. some (there j e ∙ none_j)))
          ];
      apart = λ j k within_j within_k some same.
          elim (cases_Bool (nat_eq j i)) [
            | inl at_j ↦
                let e : j ≡ i = grind (arith, nat_tests) in
                elim (cases_Bool (nat_eq k i)) [
                  | inl at_k ↦ grind (arith, nat_tests)
                  | inr other_k ↦
                      let e_k : k ≢ i = λ is. absurd (grind (arith, nat_tests)) in
                      let equal : get_or places k 0 ≡ n = sym (there k e_k) ∙ sym same ∙ ap (λ m. get_or (set places i n) m 0) e ∙ here in
                      absurd (omega (arith, equal, packed.inside k within_k (λ none_k. absurd (omega (arith, none_k, equal, few places n packed)))))
                ]
            | inr other_j ↦
                let e_j : j ≢ i = λ is. absurd (grind (arith, nat_tests)) in
                let some_j : get_or places j 0 ≢ 255 = λ none_j. some (there j e_j ∙ none_j) in
                elim (cases_Bool (nat_eq k i)) [
                  | inl at_k ↦
                      let e : k ≡ i = grind (arith, nat_tests) in
                      let equal : get_or places j 0 ≡ n = sym (there j e_j) ∙ same ∙ ap (λ m. get_or (set places i n) m 0) e ∙ here in
                      absurd (omega (arith, equal, packed.inside j within_j some_j))
                  | inr other_k ↦
                      let e_k : k ≢ i = λ is. absurd (grind (arith, nat_tests)) in
                      packed.apart j k within_j within_k some_j (sym (there j e_j) ∙ same ∙ there k e_k)
                ]
          ];
    }
