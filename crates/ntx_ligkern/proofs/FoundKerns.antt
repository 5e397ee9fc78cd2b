-- Kerns as they are found, node by node.
use Rattle.std.proofs.Common.{◌≡◌, ℕ, zero, suc, ◌+◌, ◌≤◌, ◌<◌, List, [], ◌∷◌, ◌++◌, length, drop, get_or, slice_get, Some, refl, sym, ◌∙◌, ap, append_assoc, append-nil}
use Rattle.std.specs.Prelude.{Option}
use Rattle.std.proofs.lemmas.List.{drop_all}
use Rattle.ntx_nodes.specs.Heap.{Heap}
use Rattle.ntx_nodes.proofs.Writes.{taken_off}
use Rattle.ntx_tfm.specs.Font.{FontTables}
use Rattle.ntx_ligkern.specs.Kerns.{kerns_after, kerns_in, kerns_at, kerns_from}
use Rattle.ntx_ligkern.specs.declared.place.Kerning.{Kerning}

-- ---- places in a list
first_left : (names : List ℕ) (i : ℕ) → slice_get (drop i names) 0 ≡ slice_get names i
first_left [] zero = refl
first_left [] (suc i) = refl
first_left (m ∷ names) zero = refl
first_left (m ∷ names) (suc i) = first_left names i

-- ---- found so far, and to be found
regroup : (now found rest new total : List Kerning) → new ≡ now ++ found → now ++ (found ++ rest) ≡ total → new ++ rest ≡ total
regroup now found rest new total is e = ap (λ x. x ++ rest) is ∙ append_assoc now found rest ∙ e

pub one_in : (fonts : List FontTables) (heap : Heap) (names : List ℕ) (i d : ℕ) (next : Option ℕ) (now new total : List Kerning) → i < length names → next ≡ slice_get names (i + 1) → now ++ kerns_in fonts heap (drop i names) ≡ total
    → new ≡ now ++ kerns_after fonts heap (get_or names i d) next → new ++ kerns_in fonts heap (drop (i + 1) names) ≡ total
one_in fonts heap names i d next now new total within follows e is =
    let n : ℕ = get_or names i d in
    let first : slice_get (drop (i + 1) names) 0 ≡ next = first_left names (i + 1) ∙ sym follows in
    regroup now (kerns_after fonts heap n next) (kerns_in fonts heap (drop (i + 1) names)) new total is
    (ap (λ o. now ++ (kerns_after fonts heap n o ++ kerns_in fonts heap (drop (i + 1) names))) (sym first) ∙ ap (λ x. now ++ kerns_in fonts heap x) (sym (taken_off i names d within)) ∙ e)

pub one_from : (fonts : List FontTables) (heap : Heap) (names : List ℕ) (i d : ℕ) (before next : Option ℕ) (now new total : List Kerning) → i < length names → next ≡ slice_get names (i + 1)
    → now ++ kerns_from fonts heap before (drop i names) ≡ total → new ≡ now ++ kerns_at fonts heap before (get_or names i d) next → new ++ kerns_from fonts heap (Some (get_or names i d)) (drop (i + 1) names) ≡ total
one_from fonts heap names i d before next now new total within follows e is =
    let n : ℕ = get_or names i d in
    let first : slice_get (drop (i + 1) names) 0 ≡ next = first_left names (i + 1) ∙ sym follows in
    regroup now (kerns_at fonts heap before n next) (kerns_from fonts heap (Some n) (drop (i + 1) names)) new total is
    (ap (λ o. now ++ (kerns_at fonts heap before n o ++ kerns_from fonts heap (Some n) (drop (i + 1) names))) (sym first) ∙ ap (λ x. now ++ kerns_from fonts heap before x) (sym (taken_off i names d within)) ∙ e)

pub all_in : (fonts : List FontTables) (heap : Heap) (names : List ℕ) (i : ℕ) (now total : List Kerning) → length names ≤ i → now ++ kerns_in fonts heap (drop i names) ≡ total → now ≡ total
all_in fonts heap names i now total past e = sym (append-nil now) ∙ ap (λ x. now ++ kerns_in fonts heap x) (sym (drop_all i names past)) ∙ e

pub all_from : (fonts : List FontTables) (heap : Heap) (names : List ℕ) (i : ℕ) (before : Option ℕ) (now total : List Kerning) → length names ≤ i → now ++ kerns_from fonts heap before (drop i names) ≡ total → now ≡ total
all_from fonts heap names i before now total past e = sym (append-nil now) ∙ ap (λ x. now ++ kerns_from fonts heap before x) (sym (drop_all i names past)) ∙ e
