-- A final pass has a state at the end.
use Rattle.std.proofs.Common.{◌≡◌, ℕ, zero, suc, ◌+◌, ◌-◌, ◌<◌, ◌≤◌, ℤ, pos, ◌+ℤ◌, ◌-ℤ◌, List, [], ◌∷◌, ◌++◌, get_or, take, drop, map, Bool, true, false, not, ◌&&◌, ◌||◌, cond, Option, Some, None, length, refl, ap, sym, ◌∙◌, subst, length-append, length-drop, add-one, arith}
use Rattle.std.specs.Prelude.{int_lt, int_le, nat_lt, nat_eq, neg_ℤ, is_some, unsigned_abs}
use Rattle.std.specs.List.{All, AllPairs, filter, fold, list_all, list_any, range_with_len, slice_get}
use Rattle.std.proofs.lemmas.Bool.{eq-eqb}
use Rattle.std.proofs.lemmas.Bool.Decides.{nat_tests}
use Rattle.std.proofs.lemmas.List.{take_more, get_or_push, length_push, length-map}
use Rattle.std.proofs.lemmas.List.Elements.{All-nil, All-cons, All-append, All-drop, All-filter, All-map, All-weaker, All-push, filter-append}
use Rattle.ntx_item.specs.declared.item.Item.{Item}
use Rattle.ntx_item.specs.Settings.{Settings}
use Rattle.ntx_num.specs.Badness.{badness_of}
use Rattle.ntx_legal.specs.declared.fit.Line.{Line}
use Rattle.ntx_legal.specs.Fit.{stretched_class, shrunk_class, stretched, shrunk, fitted}
use Rattle.ntx_legal.specs.LineSums.{sums_of}
use Rattle.ntx_legal.specs.Lines.{parts_of, is_infinite, line_of}
use Rattle.ntx_legal.specs.Places.{is_legal, places_of}
use Rattle.ntx_legal.proofs.PlaceLemmas as legal
use Rattle.ntx_breaks.specs.declared.pass.Pass.{Pass}
use Rattle.ntx_breaks.specs.declared.state.State.{State}
use Rattle.ntx_breaks.specs.declared.way.Way.{Way}
use Rattle.ntx_breaks.specs.Penalties.{penalty_of, forcing, is_forced}
use Rattle.ntx_breaks.specs.States.{start_state, way_to, falls, is_wanted, is_alive, alive_states}
use Rattle.ntx_breaks.specs.Making.{last_way, ways_before_last, is_rescued, paid, free, candidates_at, add_states}
use Rattle.ntx_breaks.specs.Chosen.{Found, found_up_to, found_in, first_lesser, chosen, Answer, answer_with, answer_of}
use Rattle.ntx_breaks.specs.inner.Search.{ArePlaces, Extends}
use Rattle.ntx_breaks.proofs.FilterLemmas.{filter_every, list_all_every, states_of_ways, alive_more}
use Rattle.ntx_breaks.proofs.MakingLemmas.{added_is}
use Rattle.ntx_breaks.proofs.SearchLemmas.{later, earlier_below}
use Rattle.ntx_breaks.proofs.PlaceLemmas.{are_places}
use Rattle.ntx_breaks.proofs.FinalLemmas.{states_grow}

-- ---- classes

either : (P : Line → Type 0) (b : Bool) (x y : Line) → P x → P y → P (cond b x y)
either P true x y p q = p
either P false x y p q = q

one_of : (b : Bool) (m n : ℕ) → m ≤ 3 → n ≤ 3 → cond b m n ≤ 3
one_of true m n p q = p
one_of false m n p q = q

none_most : 0 ≤ 3
none_most = omega arith

two_most : 2 ≤ 3
two_most = omega arith

three_most : 3 ≤ 3
three_most = omega arith

stretched_most : (b : ℕ) → stretched_class b ≤ 3
stretched_most b = one_of (nat_lt 99 b) 0 (cond (nat_lt 12 b) 1 2) (omega arith) (one_of (nat_lt 12 b) 1 2 (omega arith) (omega arith))

shrunk_most : (b : ℕ) → shrunk_class b ≤ 3
shrunk_most b = one_of (nat_lt 12 b) 3 2 (omega arith) (omega arith)

abbrev HasClass : Line → Type 0
HasClass line = line.class ≤ 3

stretched_has : (shortfall : ℤ) (infinite : Bool) (stretch : ℤ) → HasClass (stretched shortfall infinite stretch)
stretched_has shortfall infinite stretch =
    let b : ℕ = badness_of (unsigned_abs shortfall) stretch in
    either HasClass infinite (record { shortfall = shortfall; b = pos 0; class = 2 })
    (cond (int_lt (pos 7230584) shortfall && int_lt stretch (pos 1663497)) (record { shortfall = shortfall; b = pos 10000; class = 0 }) (record { shortfall = shortfall; b = pos b; class = stretched_class b }))
    two_most
    (either HasClass (int_lt (pos 7230584) shortfall && int_lt stretch (pos 1663497)) (record { shortfall = shortfall; b = pos 10000; class = 0 })
    (record { shortfall = shortfall; b = pos b; class = stretched_class b }) none_most (stretched_most b))

shrunk_has : (shortfall shrink : ℤ) → HasClass (shrunk shortfall shrink)
shrunk_has shortfall shrink =
    let b : ℕ = badness_of (unsigned_abs shortfall) shrink in
    either HasClass (int_lt shrink (neg_ℤ shortfall)) (record { shortfall = shortfall; b = pos 10001; class = 3 })
    (record { shortfall = shortfall; b = pos b; class = shrunk_class b }) three_most (shrunk_most b)

line_has : (params : Settings) (items : List Item) (from to : ℕ) (extra : ℤ) → HasClass (line_of params items from to extra)
line_has params items from to extra =
    let sums = sums_of (parts_of params items from to) in
    either HasClass (int_lt (pos 0) (params.hsize -ℤ sums.width)) (stretched (params.hsize -ℤ sums.width) (is_infinite sums.stretch) (sums.stretch.normal +ℤ extra)) (shrunk (params.hsize -ℤ sums.width) sums.shrink)
    (stretched_has (params.hsize -ℤ sums.width) (is_infinite sums.stretch) (sums.stretch.normal +ℤ extra)) (shrunk_has (params.hsize -ℤ sums.width) sums.shrink)

-- ---- candidates

abbrev IsAt : ℕ → State → Type 0
IsAt to s = (s.place ≡ to) × (s.class ≤ 3)

candidates_are : (params : Settings) (items : List Item) (pass : Pass) (to : ℕ) (rescued : Bool) (ways : List Way) → All (λ (w : Way). w.line.class ≤ 3) ways → All (IsAt to) (candidates_at params items pass to rescued ways)
candidates_are params items pass to true ways h =
    All-map (IsAt to) (free to) (last_way ways) (λ k d lt. (refl, All-drop (λ (w : Way). w.line.class ≤ 3) (length ways - 1) ways h k d lt))
candidates_are params items pass to false ways h =
    All-map (IsAt to) (paid params items to) (filter (is_wanted pass) ways) (λ k d lt. (refl, All-filter (is_wanted pass) (λ (w : Way). w.line.class ≤ 3) ways h k d lt))

any_step : {X : Type 0} (b c : Bool) (x : X) (rest : List X) → (c ≡ true → 0 < length rest) → (b || c) ≡ true → 0 < length (cond b (x ∷ rest) rest)
any_step true c x rest f e = omega arith
any_step false c x rest f e = f e

any_kept : {X : Type 0} (p : X → Bool) (n : ℕ) (xs : List X) → list_any p (take n xs) ≡ true → 0 < length (filter p xs)
any_kept p zero xs e = let no : ⊥ = cc in elim no [ ]
any_kept p (suc n) [] e = let no : ⊥ = cc in elim no [ ]
any_kept p (suc n) (x ∷ xs) e = any_step (p x) (list_any p (take n xs)) x (filter p xs) (any_kept p n xs) e

stay_step : {X : Type 0} (b c : Bool) (x : X) (rest : List X) → (c ≡ false → 0 < length rest) → (b && c) ≡ false → 0 < length (cond (not b) (x ∷ rest) rest)
stay_step true c x rest f e = f e
stay_step false c x rest f e = omega arith

some_stay : {X : Type 0} (p : X → Bool) (xs : List X) → list_all p xs ≡ false → 0 < length (filter (λ x. not (p x)) xs)
some_stay p [] e = let no : ⊥ = cc in elim no [ ]
some_stay p (x ∷ xs) e = stay_step (p x) (list_all p xs) x (filter (λ y. not (p y)) xs) (some_stay p xs) e

last_left : (a b c d : Bool) → a ≡ true → b ≡ true → c ≡ true → (a && b && c && not d) ≡ false → d ≡ true
last_left a b c true p q r e = refl
last_left false b c false p q r e = cc
last_left true false c false p q r e = cc
last_left true true false false p q r e = cc
last_left true true true false p q r e = cc

some_by : (params : Settings) (items : List Item) (pass : Pass) (to : ℕ) (ways : List Way) (b : Bool) → (b ≡ false → list_any (is_wanted pass) (ways_before_last ways) ≡ true) → 0 < length ways →
    0 < length (candidates_at params items pass to b ways)
some_by params items pass to ways true f lt =
    let size : length (map (free to) (last_way ways)) ≡ length ways - (length ways - 1) = length-map (last_way ways) (free to) ∙ length-drop (length ways - 1) ways in
    let left : 0 < length ways - (length ways - 1) = omega arith in
    subst (λ n. 0 < n) (sym size) left
some_by params items pass to ways false f lt =
    let size : length (map (paid params items to) (filter (is_wanted pass) ways)) ≡ length (filter (is_wanted pass) ways) = length-map (filter (is_wanted pass) ways) (paid params items to) in
    let some : 0 < length (filter (is_wanted pass) ways) = any_kept (is_wanted pass) (length ways - 1) ways (f refl) in
    subst (λ n. 0 < n) (sym size) some

positive : (n : ℕ) → 0 < n → nat_lt 0 n ≡ true
positive n lt = grind (arith, nat_tests)

-- where all states of a final pass fall, there is a candidate
some_candidate : (params : Settings) (items : List Item) (pass : Pass) (to : ℕ) (forced : Bool) (ways : List Way) → pass.is_final ≡ true → 0 < length ways → list_all (falls forced) ways ≡ true →
    0 < length (candidates_at params items pass to (is_rescued pass forced ways) ways)
some_candidate params items pass to forced ways final lt all =
    some_by params items pass to ways (is_rescued pass forced ways)
    (last_left pass.is_final (nat_lt 0 (length ways)) (list_all (falls forced) ways) (list_any (is_wanted pass) (ways_before_last ways)) final (positive (length ways) lt) all) lt

-- ---- one place

record Lives (params : Settings) (items : List Item) (pass : Pass) (places : List ℕ) (n : ℕ) : Type 0 where
  before : All (λ (s : State). (j d : ℕ) → n ≤ j → j < length places → s.place < get_or places j d) (found_up_to params items pass places n).states
  alive : 0 < length (alive_states params items pass (take n places) (found_up_to params items pass places n).states)

some_one : 0 < 1
some_one = omega arith

lives_start : (params : Settings) (items : List Item) (pass : Pass) (places : List ℕ) → ArePlaces params items places → Lives params items pass places 0
lives_start params items pass places are = record {
  before =
      All-cons (λ (s : State). (j d : ℕ) → 0 ≤ j → j < length places → s.place < get_or places j d) start_state [] (λ j d le lt. (are.each j d lt).low)
      (All-nil (λ (s : State). (j d : ℕ) → 0 ≤ j → j < length places → s.place < get_or places j d));
  alive = some_one;
}

-- what was made at a place
made_at : (params : Settings) (items : List Item) (pass : Pass) (to : ℕ) (rescued : Bool) (live states : List State) →
    Extends (IsAt to) states (add_states params (candidates_at params items pass to rescued (map (way_to params items pass to) live)) states)
made_at params items pass to rescued live states =
    added_is (IsAt to) (λ s n h. h) params (candidates_at params items pass to rescued (map (way_to params items pass to) live)) states
    (candidates_are params items pass to rescued (map (way_to params items pass to) live)
    (All-map (λ (w : Way). w.line.class ≤ 3) (way_to params items pass to) live (λ k d lt. line_has params items (get_or live k d).place to pass.extra)))

made_some : (params : Settings) (items : List Item) (pass : Pass) (to : ℕ) (forced : Bool) (live states : List State) → pass.is_final ≡ true → 0 < length live →
    list_all (falls forced) (map (way_to params items pass to) live) ≡ true → 0 < length (made_at params items pass to (is_rescued pass forced (map (way_to params items pass to) live)) live states).made
made_some params items pass to forced live states final lt all =
    let ways = map (way_to params items pass to) live in
    let rescued = is_rescued pass forced (map (way_to params items pass to) live) in
    let ext = made_at params items pass to rescued live states in
    let many : 0 < length ways = subst (λ n. 0 < n) (sym (length-map live (way_to params items pass to))) lt in
    let candidates = candidates_at params items pass to rescued ways in
    let classes = All-weaker (IsAt to) (λ (s : State). s.class ≤ 3) (λ s h. h.1) candidates
    (candidates_are params items pass to rescued ways (All-map (λ (w : Way). w.line.class ≤ 3) (way_to params items pass to) live (λ k d less. line_has params items (get_or live k d).place to pass.extra))) in
    let grows : length states < length (add_states params candidates states) = states_grow params candidates states classes (some_candidate params items pass to forced ways final many all) in
    let size : length (add_states params candidates states) ≡ length states + length ext.made = ap length ext.is ∙ length-append states ext.made in
    omega (arith, grows, size)

old_later : (places : List ℕ) (n : ℕ) (s : State) → ((j d : ℕ) → n ≤ j → j < length places → s.place < get_or places j d) → (j d : ℕ) → suc n ≤ j → j < length places → s.place < get_or places j d
old_later places n s h j d le lt = h j d (omega arith) lt

new_later : (places : List ℕ) (n : ℕ) → AllPairs (λ (a b : ℕ). a < b) places → (s : State) → IsAt (get_or places n 0) s → (j d : ℕ) → suc n ≤ j → j < length places → s.place < get_or places j d
new_later places n up s h j d le lt = subst (λ p. p < get_or places j d) (sym h.0) (later places n j d up (omega arith) lt)

abbrev AreBefore : List ℕ → ℕ → List State → Type 0
AreBefore places n states = All (λ (s : State). (j d : ℕ) → n ≤ j → j < length places → s.place < get_or places j d) states

before_more : (places : List ℕ) (n : ℕ) (states more : List State) → AllPairs (λ (a b : ℕ). a < b) places → AreBefore places n states → Extends (IsAt (get_or places n 0)) states more → AreBefore places (suc n) more
before_more places n states more up before ext =
    subst (AreBefore places (suc n)) (sym ext.is)
    (All-append (λ (s : State). (j d : ℕ) → suc n ≤ j → j < length places → s.place < get_or places j d) states ext.made
    (All-weaker (λ (s : State). (j d : ℕ) → n ≤ j → j < length places → s.place < get_or places j d) (λ (s : State). (j d : ℕ) → suc n ≤ j → j < length places → s.place < get_or places j d)
    (old_later places n) states before)
    (All-weaker (IsAt (get_or places n 0)) (λ (s : State). (j d : ℕ) → suc n ≤ j → j < length places → s.place < get_or places j d) (new_later places n up) ext.made ext.each))

-- some states stay, or some are made
stay_or_made : (params : Settings) (items : List Item) (pass : Pass) (to : ℕ) (forced : Bool) (live states : List State) (b : Bool) → pass.is_final ≡ true → 0 < length live →
    list_all (falls forced) (map (way_to params items pass to) live) ≡ b →
    0 < length (filter (λ (s : State). not (falls forced (way_to params items pass to s))) live)
    + length (made_at params items pass to (is_rescued pass forced (map (way_to params items pass to) live)) live states).made
stay_or_made params items pass to forced live states true final lt e =
    omega (arith, made_some params items pass to forced live states final lt e)
stay_or_made params items pass to forced live states false final lt e =
    let kept = states_of_ways params items pass to (λ (w : Way). not (falls forced w)) live in
    let some : 0 < length (filter (λ (w : Way). not (falls forced w)) (map (way_to params items pass to) live)) = some_stay (falls forced) (map (way_to params items pass to) live) e in
    let size : length (filter (λ (s : State). not (falls forced (way_to params items pass to s))) live) ≡ length (filter (λ (w : Way). not (falls forced w)) (map (way_to params items pass to) live)) =
    ap length (sym kept) ∙ length-map (filter (λ (w : Way). not (falls forced w)) (map (way_to params items pass to) live)) (λ (w : Way). w.from) in
    omega (arith, some, size)

alive_at : (params : Settings) (items : List Item) (pass : Pass) (places : List ℕ) (n : ℕ) (states : List State) → n < length places → ArePlaces params items places → pass.is_final ≡ true →
    AreBefore places n states → 0 < length (alive_states params items pass (take n places) states) →
    0 < length (alive_states params items pass (take (suc n) places) (add_states params (candidates_at params items pass (get_or places n 0)
    (is_rescued pass (is_forced params items (get_or places n 0)) (map (way_to params items pass (get_or places n 0)) (alive_states params items pass (take n places) states)))
    (map (way_to params items pass (get_or places n 0)) (alive_states params items pass (take n places) states))) states))
alive_at params items pass places n states lt are final before alive =
    let forced = is_forced params items (get_or places n 0) in
    let live = alive_states params items pass (take n places) states in
    let ways = map (way_to params items pass (get_or places n 0)) live in
    let ext = made_at params items pass (get_or places n 0) (is_rescued pass forced ways) live states in
    let more = add_states params (candidates_at params items pass (get_or places n 0) (is_rescued pass forced ways) ways) states in
    let old : All (λ (s : State). s.place < get_or places n 0) states = λ i d less. before i d less n 0 (omega arith) lt in
    let new : All (λ (s : State). s.place ≡ get_or places n 0) ext.made = λ i d less. (ext.each i d less).0 in
    let below : All (λ m. m ≤ get_or places n 0) (take n places ++ get_or places n 0 ∷ []) =
    All-push (λ m. m ≤ get_or places n 0) (take n places) (get_or places n 0) (earlier_below places n are.ascending lt) (omega arith) in
    let split : alive_states params items pass (take (suc n) places) more ≡
    filter (λ (s : State). not (falls (is_forced params items (get_or places n 0)) (way_to params items pass (get_or places n 0) s))) live ++ ext.made =
    ap (λ m. alive_states params items pass (take m places) more) (sym (add-one n))
    ∙ ap (λ l. alive_states params items pass l more) (take_more places n 0 lt)
    ∙ ap (alive_states params items pass (take n places ++ get_or places n 0 ∷ [])) ext.is
    ∙ alive_more params items pass (take n places) (get_or places n 0) states ext.made old new below in
    let size : length (alive_states params items pass (take (suc n) places) more) ≡
    length (filter (λ (s : State). not (falls (is_forced params items (get_or places n 0)) (way_to params items pass (get_or places n 0) s))) live) + length ext.made =
    ap length split ∙ length-append (filter (λ (s : State). not (falls (is_forced params items (get_or places n 0)) (way_to params items pass (get_or places n 0) s))) live) ext.made in
    let some = stay_or_made params items pass (get_or places n 0) forced live states (list_all (falls forced) ways) final alive refl in
    subst (λ m. 0 < m) (sym size) some

lives_more : (params : Settings) (items : List Item) (pass : Pass) (places : List ℕ) (n : ℕ) → n < length places → ArePlaces params items places → pass.is_final ≡ true → Lives params items pass places n →
    Lives params items pass places (suc n)
lives_more params items pass places n lt are final h =
    let states = (found_up_to params items pass places n).states in
    let live = alive_states params items pass (take n places) states in
    record {
      before = before_more places n states (found_up_to params items pass places (suc n)).states are.ascending h.before
          (made_at params items pass (get_or places n 0) (is_rescued pass (is_forced params items (get_or places n 0)) (map (way_to params items pass (get_or places n 0)) live)) live states);
      alive = alive_at params items pass places n states lt are final h.before h.alive;
    }

lives : (params : Settings) (items : List Item) (pass : Pass) (places : List ℕ) (n : ℕ) → n ≤ length places → ArePlaces params items places → pass.is_final ≡ true → Lives params items pass places n
lives params items pass places zero le are final = lives_start params items pass places are
lives params items pass places (suc n) le are final =
    lives_more params items pass places n (omega arith) are final (lives params items pass places n (omega arith) are final)

-- ---- the end

past : (items : List Item) (i : ℕ) → length items ≤ i → slice_get items i ≡ None
past [] i le = refl
past (x ∷ items) zero le = let no : ⊥ = omega arith in elim no [ ]
past (x ∷ items) (suc i) le = past items i (omega arith)

end_forced : (params : Settings) (items : List Item) → is_forced params items (suc (length items)) ≡ true
end_forced params items = ap (λ o. int_le (penalty_of params o) forcing) (past items (length items) (omega arith))

first_either : (b : Bool) (s t : State) → is_some (cond b (Some s) (Some t)) ≡ true
first_either true s t = refl
first_either false s t = refl

first_some : (best : Option State) (s : State) → is_some (first_lesser best s) ≡ true
first_some None s = refl
first_some (Some b) s = first_either (int_lt s.total b.total) s b

fold_first : (best : Option State) (xs : List State) → is_some best ≡ true → is_some (fold first_lesser best xs) ≡ true
fold_first best [] h = h
fold_first best (x ∷ xs) h = fold_first (first_lesser best x) xs (first_some best x)

first_of_some : (xs : List State) → 0 < length xs → is_some (fold first_lesser None xs) ≡ true
first_of_some [] lt = let no : ⊥ = omega arith in elim no [ ]
first_of_some (x ∷ xs) lt = fold_first (Some x) xs refl

chosen_some : (to : ℕ) (states more : List State) (ext : Extends (IsAt to) states more) → 0 < length ext.made → is_some (chosen to more) ≡ true
chosen_some to states more ext lt =
    let at = λ (s : State). nat_eq s.place to in
    let kept : filter at more ≡ filter at states ++ ext.made =
    ap (filter at) ext.is ∙ filter-append at states ext.made ∙ ap (λ l. filter at states ++ l) (filter_every at ext.made (λ k d less. eq-eqb (get_or ext.made k d).place to (ext.each k d less).0)) in
    let size : length (filter at more) ≡ length (filter at states) + length ext.made = ap length kept ∙ length-append (filter at states) ext.made in
    first_of_some (filter at more) (omega (arith, size, lt))

answer_some : (pass : Pass) (found : Found) (o : Option State) → is_some o ≡ true → is_some (answer_with pass found o) ≡ true
answer_some pass found None h = h
answer_some pass found (Some s) h = refl

all_forced : (forced : Bool) (ways : List Way) → forced ≡ true → list_all (falls forced) ways ≡ true
all_forced forced ways e = list_all_every (falls forced) ways (λ k d lt. ap (λ b. b || int_lt (pos 10000) (get_or ways k d).line.b) e)

last_made : (params : Settings) (items : List Item) (pass : Pass) (places : List ℕ) (n : ℕ) → length places ≡ suc n → get_or places n 0 ≡ length items + 1 → ArePlaces params items places → pass.is_final ≡ true →
    is_some (chosen (length items + 1) (found_up_to params items pass places (length places)).states) ≡ true
last_made params items pass places n size last are final =
    let h = lives params items pass places n (omega arith) are final in
    let states = (found_up_to params items pass places n).states in
    let live = alive_states params items pass (take n places) states in
    let forced = is_forced params items (get_or places n 0) in
    let must : is_forced params items (get_or places n 0) ≡ true = ap (is_forced params items) (last ∙ add-one (length items)) ∙ end_forced params items in
    let some = made_some params items pass (get_or places n 0) forced live states final h.alive (all_forced forced (map (way_to params items pass (get_or places n 0)) live) must) in
    let ext = made_at params items pass (get_or places n 0) (is_rescued pass forced (map (way_to params items pass (get_or places n 0)) live)) live states in
    subst (λ m. is_some (chosen (length items + 1) (found_up_to params items pass places m).states) ≡ true) (sym size)
    (subst (λ e. is_some (chosen e (found_up_to params items pass places (suc n)).states) ≡ true) last
    (chosen_some (get_or places n 0) states (found_up_to params items pass places (suc n)).states ext some))

-- A final pass breaks each paragraph.
pub final_breaks : (params : Settings) (items : List Item) (pass : Pass) → pass.is_final ≡ true → is_some (answer_of params items pass) ≡ true
final_breaks params items pass final =
    let some = filter (is_legal params pass.discs items) (range_with_len 1 (length items)) in
    let ends : some ++ (length items + 1) ∷ [] ≡ places_of params pass.discs items = legal.end_taken params pass.discs items some refl in
    let size : length (places_of params pass.discs items) ≡ suc (length some) = ap length (sym ends) ∙ length_push some (length items + 1) ∙ add-one (length some) in
    let last : get_or (places_of params pass.discs items) (length some) 0 ≡ length items + 1 =
    ap (λ l. get_or l (length some) 0) (sym ends) ∙ get_or_push some (length items + 1) 0 (length some) refl in
    answer_some pass (found_in params items pass) (chosen (length items + 1) (found_in params items pass).states)
    (last_made params items pass (places_of params pass.discs items) (length some) size last (are_places params pass.discs items) final)
