-- The symbols of a pattern are letters and dots.
use Rattle.std.proofs.Common.{◌≡◌, ℕ, ◌+◌, ◌-◌, ◌<◌, Bool, true, false, not, ◌||◌, ◌&&◌, List, [], ◌∷◌, length, take, filter, nat_eq, nat_le, get_or, refl, ap, sym, ◌∙◌, arith, inl, inr}
use Rattle.std.specs.List.{All, list_all}
use Rattle.std.proofs.lemmas.Bool.{cases_Bool, and_parts, leb-true}
use Rattle.std.proofs.lemmas.Bool.Decides.{nat_tests}
use Rattle.std.proofs.lemmas.List.{take_all}
use Rattle.std.proofs.lemmas.List.Folds.{list_all_more}
use Rattle.std.proofs.lemmas.List.Sums.{AllPass-from_list_all}
use Rattle.ntx_patterns.specs.Pattern.{is_digit, is_letter, is_symbol, after_dot, before_dot, is_spaced, is_pattern}
use Rattle.ntx_patterns.specs.Places.{symbol_index}

-- a digit, a letter or a dot
abbrev is_written : ℕ → Bool
is_written byte = is_digit byte || (is_letter byte || nat_eq byte 46)

abbrev has_place : ℕ → Bool
has_place symbol = nat_le (symbol_index symbol) 26

both : (a b : Bool) → a ≡ true → b ≡ true → (a && b) ≡ true
both true b here there = there
both false b here there = here

spaced_written : (after : Bool) (bytes : List ℕ) → is_spaced after bytes ≡ true → list_all is_written bytes ≡ true
spaced_written after [] is = refl
spaced_written after (byte ∷ bytes) is =
    elim (cases_Bool (is_digit byte)) [
      | inl digit ↦
          let tests : (not after ≡ true) × (is_spaced true bytes ≡ true) = and_parts _ _ (rw digit at is) in
          rw digit (spaced_written true bytes tests.1)
      | inr other ↦
          let tests : (is_letter byte ≡ true) × (is_spaced false bytes ≡ true) = and_parts _ _ (rw other at is) in
          rw (other, tests.0) (spaced_written false bytes tests.1)
    ]

after_written : (word : List ℕ) → list_all is_written (after_dot word) ≡ true → list_all is_written word ≡ true
after_written [] is = refl
after_written (byte ∷ bytes) is =
    elim (cases_Bool (nat_eq byte 46)) [
      | inl dotted ↦
          let here : is_written byte ≡ true = grind (arith, nat_tests) in
          both (is_written byte) (list_all is_written bytes) here (rw dotted at is)
      | inr plain ↦ rw plain at is
    ]

before_written : (word : List ℕ) → list_all is_written (before_dot word) ≡ true → list_all is_written word ≡ true
before_written [] is = refl
before_written (byte ∷ bytes) is =
    let word : List ℕ = byte ∷ bytes in
    elim (cases_Bool (nat_eq (get_or word (length word - 1) 0) 46)) [
      | inl dotted ↦
          let last : is_written (get_or word (length word - 1) 0) ≡ true = grind (arith, nat_tests) in
          let whole : take (length word - 1 + 1) word ≡ word = take_all (length word - 1 + 1) word (omega arith) in
          ap (list_all is_written) (sym whole) ∙ list_all_more is_written word (length word - 1) 0 (omega arith)
          ∙ both (list_all is_written (take (length word - 1) word)) (is_written (get_or word (length word - 1) 0)) (rw dotted at is) last
      | inr plain ↦ rw plain at is
    ]

symbols_placed : (word : List ℕ) → list_all is_written word ≡ true → list_all has_place (filter is_symbol word) ≡ true
symbols_placed [] is = refl
symbols_placed (byte ∷ bytes) is =
    let tests : (is_written byte ≡ true) × (list_all is_written bytes ≡ true) = and_parts _ _ is in
    elim (cases_Bool (is_symbol byte)) [
      | inl symbol ↦
          let here : has_place byte ≡ true = grind (arith, nat_tests) in
          rw symbol (both (has_place byte) (list_all has_place (filter is_symbol bytes)) here (symbols_placed bytes tests.1))
      | inr digit ↦ rw digit (symbols_placed bytes tests.1)
    ]

pub known_symbols : (word : List ℕ) → is_pattern word ≡ true → All (λ symbol. symbol_index symbol < 27) (filter is_symbol word)
known_symbols word is k d within =
    let core : List ℕ = before_dot (after_dot word) in
    let spaced : is_spaced false core ≡ true = (and_parts _ _ (and_parts _ _ is).0).0 in
    let written : list_all is_written word ≡ true = after_written word (before_written (after_dot word) (spaced_written false core spaced)) in
    let placed : has_place (get_or (filter is_symbol word) k d) ≡ true = AllPass-from_list_all has_place (filter is_symbol word) (symbols_placed word written) k d within in
    omega (arith, leb-true _ _ placed)
