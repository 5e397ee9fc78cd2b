-- Walking down a trie along a text.
use Rattle.std.proofs.Common.{◌≡◌, ℕ, ◌+◌, ◌-◌, ◌<◌, ◌≤◌, max, List, [], ◌∷◌, ◌++◌, length, take, drop, get_or, refl, ap, sym, ◌∙◌, arith, append_assoc, append-nil}
use Rattle.std.proofs.lemmas.List.{take_more, take-append-drop, take-take}
use Rattle.ntx_patterns.specs.Table.{Table}
use Rattle.ntx_patterns.specs.Points.{greatest, digit_at, digit_in}
use Rattle.ntx_patterns.proofs.GapLemmas.{greatest-none, greatest-more, greatest-rest}
use Rattle.ntx_patterns.proofs.PairsLemmas.{digit_at-none}

-- After j symbols: the way to a table below, and the values raised so far.
pub record IsWalked (start here : Table) (rest : List ℕ) (place j : ℕ) (old values : List ℕ) : Type 0 where
  pub way : (key : List ℕ) → start (take j rest ++ key) ≡ here key
  pub raised : (gap : ℕ) → gap < length old → get_or values gap 0 ≡ max (get_or old gap 0) (greatest (j + 1) (λ count. digit_at (start (take count rest)) place gap))

more_way : (start here : Table) (rest : List ℕ) (j : ℕ) → j < length rest → ((key : List ℕ) → start (take j rest ++ key) ≡ here key)
    → (key : List ℕ) → start (take (j + 1) rest ++ key) ≡ here (get_or rest j 0 ∷ key)
more_way start here rest j within way key =
    ap start (ap (λ front. front ++ key) (take_more rest j 0 within) ∙ append_assoc (take j rest) (get_or rest j 0 ∷ []) key) ∙ way (get_or rest j 0 ∷ key)

-- one symbol more
pub walked_on : (start here below : Table) (rest : List ℕ) (place j : ℕ) (old values values' : List ℕ) → j < length rest
    → IsWalked start here rest place j old values → ((key : List ℕ) → here (get_or rest j 0 ∷ key) ≡ below key)
    → ((gap : ℕ) → gap < length old → get_or values' gap 0 ≡ max (get_or values gap 0) (digit_at (below []) place gap))
    → IsWalked start below rest place (j + 1) old values'
walked_on start here below rest place j old values values' within walked child raised = record {
  way = λ key. more_way start here rest j within walked.way key ∙ child key;
  raised = λ gap inside.
      let now : start (take (j + 1) rest) ≡ below [] = ap start (sym (append-nil (take (j + 1) rest))) ∙ more_way start here rest j within walked.way [] ∙ child [] in
      let last : digit_at (start (take (j + 1) rest)) place gap ≡ digit_at (below []) place gap = ap (λ d. digit_at d place gap) now in
      omega (arith, raised gap inside, walked.raised gap inside, greatest-more (j + 1) (λ count. digit_at (start (take count rest)) place gap), last);
}

-- the way ends
pub walked_off : (start here : Table) (rest : List ℕ) (place j : ℕ) (old values : List ℕ) → j < length rest
    → IsWalked start here rest place j old values → ((key : List ℕ) → here (get_or rest j 0 ∷ key) ≡ [])
    → (gap : ℕ) → gap < length old → get_or values gap 0 ≡ max (get_or old gap 0) (digit_in start rest place gap)
walked_off start here rest place j old values within walked none gap inside =
    let f : ℕ → ℕ = λ count. digit_at (start (take count rest)) place gap in
    let empty : (k : ℕ) → j + 1 ≤ k → f k ≡ 0 = λ k from.
    let key : List ℕ = drop (j + 1) (take k rest) in
    let more : take k rest ≡ take (j + 1) rest ++ key = sym (take-append-drop (j + 1) (take k rest)) ∙ ap (λ front. front ++ key) (take-take (j + 1) k rest from) in
    ap (λ d. digit_at d place gap) (ap start more ∙ more_way start here rest j within walked.way key ∙ none key) ∙ digit_at-none place gap in
    let all : greatest (length rest + 1) f ≡ greatest (j + 1) f =
    (let e : length rest + 1 ≡ (j + 1) + (length rest - j) = omega arith in ap (λ n. greatest n f) e) ∙ greatest-rest f (j + 1) (length rest - j) empty in
    walked.raised gap inside ∙ ap (λ n. max (get_or old gap 0) n) (sym all)

-- before the first symbol
pub walked_start : (start : Table) (rest : List ℕ) (place : ℕ) (old values : List ℕ)
    → ((gap : ℕ) → gap < length old → get_or values gap 0 ≡ max (get_or old gap 0) (digit_at (start []) place gap)) → IsWalked start start rest place 0 old values
walked_start start rest place old values raised = record {
  way = λ key. refl;
  raised = λ gap inside.
      omega (arith, raised gap inside, greatest-more 0 (λ count. digit_at (start (take count rest)) place gap), greatest-none (λ count. digit_at (start (take count rest)) place gap));
}
