-- One place more: what is known of a pass stays known.
use Rattle.std.proofs.Common.{◌≡◌, ℕ, ◌+◌, ◌<◌, ◌≤◌, List, [], ◌∷◌, ◌++◌, Bool, not, length, get_or, take, drop, map, Result, Ok, Err, OnOk, refl, ap, sym, ◌∙◌, subst, arith, add-one}
use Rattle.std.specs.List.{All, AllPairs, filter}
use Rattle.std.proofs.lemmas.List.{take_more, get_or-take, get_or_default, length-take-le, drop_at}
use Rattle.std.proofs.lemmas.List.Elements.{All-append, All-filter, All-push, All-weaker}
use Rattle.ntx_item.specs.declared.item.Item.{Item}
use Rattle.ntx_item.specs.Settings.{Settings}
use Rattle.ntx_breaks.specs.declared.pass.Pass.{Pass}
use Rattle.ntx_breaks.specs.declared.state.State.{State}
use Rattle.ntx_breaks.specs.declared.way.Way.{Way}
use Rattle.ntx_breaks.specs.declared.search.Search.{Search}
use Rattle.ntx_breaks.specs.Penalties.{is_forced}
use Rattle.ntx_breaks.specs.States.{way_to, falls, is_alive, alive_states}
use Rattle.ntx_breaks.specs.Making.{is_rescued}
use Rattle.ntx_breaks.specs.Chosen.{Found, found_with, found_at, found_up_to}
use Rattle.ntx_breaks.specs.inner.Bounds.{IsBefore, IsMade}
use Rattle.ntx_breaks.specs.inner.Search.{ArePlaces, Extends, IsBeforeRest, IsSound, found_seen}
use Rattle.ntx_breaks.proofs.FilterLemmas.{states_of_ways, alive_more}

-- ---- the states before a place

pub later : (places : List ℕ) (n j d : ℕ) → AllPairs (λ (a b : ℕ). a < b) places → n < j → j < length places → get_or places n 0 < get_or places j d
later places n j d h lt end =
    let inside : n < length places = omega arith in
    let e : get_or places n 0 ≡ get_or places n d = get_or_default places n 0 d inside in
    let f : get_or places n d < get_or places j d = h n j d lt end in
    omega (arith, e, f)

old_rest : (places : List ℕ) (n : ℕ) (s : State) → IsBeforeRest places n s → IsBeforeRest places (n + 1) s
old_rest places n s h = record { place = λ j d le lt. h.place j d (omega arith) lt; total = h.total }

new_rest : (places : List ℕ) (n : ℕ) → AllPairs (λ (a b : ℕ). a < b) places → (s : State) → IsMade (get_or places n 0) s → IsBeforeRest places (n + 1) s
new_rest places n h s m = record { place = λ j d le lt. subst (λ p. p < get_or places j d) (sym m.place) (later places n j d h (omega arith) lt); total = m.total }

pub rest_more : (places : List ℕ) (n : ℕ) (states more : List State) → AllPairs (λ (a b : ℕ). a < b) places → All (IsBeforeRest places n) states → Extends (IsMade (get_or places n 0)) states more →
    All (IsBeforeRest places (n + 1)) more
rest_more places n states more h before ext =
    subst (All (IsBeforeRest places (n + 1))) (sym ext.is)
    (All-append (IsBeforeRest places (n + 1)) states ext.made
    (All-weaker (IsBeforeRest places n) (IsBeforeRest places (n + 1)) (old_rest places n) states before)
    (All-weaker (IsMade (get_or places n 0)) (IsBeforeRest places (n + 1)) (new_rest places n h) ext.made ext.each))

-- the places so far are at most the last of them
pub earlier_below : (places : List ℕ) (n : ℕ) → AllPairs (λ (a b : ℕ). a < b) places → n < length places → All (λ m. m ≤ get_or places n 0) (take n places)
earlier_below places n h lt = λ i d less.
    let size : length (take n places) ≡ n = length-take-le n places (omega arith) in
    let at : i < n = omega (arith, size, less) in
    let e : get_or (take n places) i d ≡ get_or places i d = get_or-take n places i d at in
    let f : get_or places i d < get_or places n d = h i n d at lt in
    let g : get_or places n 0 ≡ get_or places n d = get_or_default places n 0 d lt in
    omega (arith, e, f, g)

-- ---- the live states

live_more : (params : Settings) (items : List Item) (pass : Pass) (places : List ℕ) (n : ℕ) (states more live : List State) →
    n < length places → AllPairs (λ (a b : ℕ). a < b) places → live ≡ alive_states params items pass (take n places) states → All (IsBeforeRest places n) states →
    Extends (IsMade (get_or places n 0)) states more →
    map (λ (w : Way). w.from) (filter (λ (w : Way). not (falls (is_forced params items (get_or places n 0)) w)) (map (way_to params items pass (get_or places n 0)) live)) ++ drop (length states) more ≡
    alive_states params items pass (take (n + 1) places) more
live_more params items pass places n states more live lt h e before ext =
    let q = λ (s : State). not (falls (is_forced params items (get_or places n 0)) (way_to params items pass (get_or places n 0) s)) in
    let kept : map (λ (w : Way). w.from) (filter (λ (w : Way). not (falls (is_forced params items (get_or places n 0)) w)) (map (way_to params items pass (get_or places n 0)) live)) ≡
    filter q (alive_states params items pass (take n places) states) =
    states_of_ways params items pass (get_or places n 0) (λ (w : Way). not (falls (is_forced params items (get_or places n 0)) w)) live ∙ ap (filter q) e in
    let made : drop (length states) more ≡ ext.made = ap (drop (length states)) ext.is ∙ drop_at states ext.made (length states) refl in
    let old : All (λ (s : State). s.place < get_or places n 0) states = λ i d less. (before i d less).place n 0 (omega arith) lt in
    let new : All (λ (s : State). s.place ≡ get_or places n 0) ext.made = λ i d less. (ext.each i d less).place in
    let below : All (λ m. m ≤ get_or places n 0) (take n places ++ get_or places n 0 ∷ []) =
    All-push (λ m. m ≤ get_or places n 0) (take n places) (get_or places n 0) (earlier_below places n h lt) (omega arith) in
    (λ j. kept j ++ made j)
    ∙ sym (alive_more params items pass (take n places) (get_or places n 0) states ext.made old new below)
    ∙ ap (λ l. alive_states params items pass l (states ++ ext.made)) (sym (take_more places n 0 lt))
    ∙ ap (alive_states params items pass (take (n + 1) places)) (sym ext.is)

-- ---- all of it

found_more : (params : Settings) (items : List Item) (pass : Pass) (places : List ℕ) (n : ℕ) (live : List State) (found : Found) →
    found ≡ found_up_to params items pass places n → live ≡ alive_states params items pass (take n places) found.states →
    found_with params items pass (get_or places n 0) (map (way_to params items pass (get_or places n 0)) live)
    (is_rescued pass (is_forced params items (get_or places n 0)) (map (way_to params items pass (get_or places n 0)) live)) found ≡ found_up_to params items pass places (n + 1)
found_more params items pass places n live found e h =
    ap (λ l. found_with params items pass (get_or places n 0) (map (way_to params items pass (get_or places n 0)) l)
    (is_rescued pass (is_forced params items (get_or places n 0)) (map (way_to params items pass (get_or places n 0)) l)) found) h
    ∙ ap (found_at params items pass (take n places) (get_or places n 0)) e
    ∙ ap (found_up_to params items pass places) (sym (add-one n))

pub sound_more : (params : Settings) (items : List Item) (pass : Pass) (places : List ℕ) (n : ℕ) (forced : Bool) (old new : Search) (ways : List Way) →
    n < length places → ArePlaces params items places → forced ≡ is_forced params items (get_or places n 0) → IsSound params items pass places n old →
    ways ≡ map (way_to params items pass (get_or places n 0)) old.live.items →
    found_seen new ≡ found_with params items pass (get_or places n 0) ways (is_rescued pass forced ways) (found_seen old) →
    Extends (IsMade (get_or places n 0)) old.states.items new.states.items →
    new.live.items ≡ map (λ (w : Way). w.from) (filter (λ (w : Way). not (falls forced w)) ways) ++ drop (length old.states.items) new.states.items →
    IsSound params items pass places (n + 1) new
sound_more params items pass places n forced old new ways lt are f sound w seen ext live = record {
  seen =
      seen
      ∙ ap (λ b. found_with params items pass (get_or places n 0) ways (is_rescued pass b ways) (found_seen old)) f
      ∙ ap (λ l. found_with params items pass (get_or places n 0) l (is_rescued pass (is_forced params items (get_or places n 0)) l) (found_seen old)) w
      ∙ found_more params items pass places n old.live.items (found_seen old) sound.seen sound.live;
  live =
      live
      ∙ ap (λ b. map (λ (way : Way). way.from) (filter (λ (way : Way). not (falls b way)) ways) ++ drop (length old.states.items) new.states.items) f
      ∙ ap (λ l. map (λ (way : Way). way.from) (filter (λ (way : Way). not (falls (is_forced params items (get_or places n 0)) way)) l) ++ drop (length old.states.items) new.states.items) w
      ∙ live_more params items pass places n old.states.items new.states.items old.live.items lt are.ascending sound.live sound.before ext;
  before = rest_more places n old.states.items new.states.items are.ascending sound.before ext;
}

-- three facts after an Ok give a fourth
pub on_three : {T E : Type 0} (A B C D : Type 0) (r : Result T E) → (A → B → C → D) → OnOk r A → OnOk r B → OnOk r C → OnOk r D
on_three A B C D (Ok x) f a b c = f a b c
on_three A B C D (Err e) f a b c = tt

-- ---- the live states stand before the next place

before_next : (places : List ℕ) (n : ℕ) → n < length places → (s : State) → IsBeforeRest places n s → IsBefore (get_or places n 0) s
before_next places n lt s h = record { place = h.place n 0 (omega arith) lt; total = h.total }

pub live_before : (params : Settings) (items : List Item) (pass : Pass) (places : List ℕ) (n : ℕ) (states : List State) → n < length places → All (IsBeforeRest places n) states →
    All (IsBefore (get_or places n 0)) (alive_states params items pass (take n places) states)
live_before params items pass places n states lt h =
    All-filter (is_alive params items pass (take n places)) (IsBefore (get_or places n 0)) states
    (All-weaker (IsBeforeRest places n) (IsBefore (get_or places n 0)) (before_next places n lt) states h)
