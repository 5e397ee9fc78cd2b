-- Filters, one after another, and the states that stay alive at a place.
use Rattle.std.proofs.Common.{◌≡◌, ℕ, ◌<◌, ◌≤◌, List, [], ◌∷◌, ◌++◌, get_or, Bool, true, false, ◌&&◌, ◌||◌, not, cond, map, refl, ap, ◌∙◌, arith}
use Rattle.std.specs.Prelude.{nat_le}
use Rattle.std.specs.List.{All, filter, list_all}
use Rattle.std.proofs.lemmas.Bool.Decides.{nat_tests}
use Rattle.std.proofs.lemmas.List.Elements.{All-head, All-tail, filter-append}
use Rattle.std.proofs.lemmas.List.Folds.{list_all-append}
use Rattle.ntx_item.specs.declared.item.Item.{Item}
use Rattle.ntx_item.specs.Settings.{Settings}
use Rattle.ntx_breaks.specs.declared.pass.Pass.{Pass}
use Rattle.ntx_breaks.specs.declared.state.State.{State}
use Rattle.ntx_breaks.specs.declared.way.Way.{Way}
use Rattle.ntx_breaks.specs.Penalties.{is_forced}
use Rattle.ntx_breaks.specs.States.{way_to, falls, is_alive, alive_states}

-- ---- filters

one_more : {X : Type 0} (q : X → Bool) (b : Bool) (x : X) (ys zs : List X) → ys ≡ filter q zs → cond (b && q x) (x ∷ ys) ys ≡ filter q (cond b (x ∷ zs) zs)
one_more q true x ys zs e = ap (λ l. cond (q x) (x ∷ l) l) e
one_more q false x ys zs e = e

-- one filter for two
pub filter_twice : {X : Type 0} (p q r : X → Bool) (xs : List X) → All (λ x. r x ≡ (p x && q x)) xs → filter r xs ≡ filter q (filter p xs)
filter_twice p q r [] h = refl
filter_twice p q r (x ∷ xs) h =
    ap (λ b. cond b (x ∷ filter r xs) (filter r xs)) (All-head (λ x. r x ≡ (p x && q x)) x xs h)
    ∙ one_more q (p x) x (filter r xs) (filter p xs) (filter_twice p q r xs (All-tail (λ x. r x ≡ (p x && q x)) x xs h))

-- a filter that each element passes
pub filter_every : {X : Type 0} (p : X → Bool) (xs : List X) → All (λ x. p x ≡ true) xs → filter p xs ≡ xs
filter_every p [] h = refl
filter_every p (x ∷ xs) h =
    ap (λ b. cond b (x ∷ filter p xs) (filter p xs)) (All-head (λ x. p x ≡ true) x xs h) ∙ ap (λ l. x ∷ l) (filter_every p xs (All-tail (λ x. p x ≡ true) x xs h))

pub list_all_every : {X : Type 0} (p : X → Bool) (xs : List X) → All (λ x. p x ≡ true) xs → list_all p xs ≡ true
list_all_every p [] h = refl
list_all_every p (x ∷ xs) h = ap (λ b. b && list_all p xs) (All-head (λ x. p x ≡ true) x xs h) ∙ list_all_every p xs (All-tail (λ x. p x ≡ true) x xs h)

-- ---- lines and their states

way_kept : (b : Bool) (way : Way) (ways : List Way) (states : List State) → map (λ (w : Way). w.from) ways ≡ states → map (λ (w : Way). w.from) (cond b (way ∷ ways) ways) ≡ cond b (way.from ∷ states) states
way_kept true way ways states e = ap (λ l. way.from ∷ l) e
way_kept false way ways states e = e

-- the states of the lines that pass a test
pub states_of_ways : (params : Settings) (items : List Item) (pass : Pass) (to : ℕ) (q : Way → Bool) (live : List State) →
    map (λ (w : Way). w.from) (filter q (map (way_to params items pass to) live)) ≡ filter (λ (s : State). q (way_to params items pass to s)) live
states_of_ways params items pass to q [] = refl
states_of_ways params items pass to q (s ∷ live) =
    way_kept (q (way_to params items pass to s)) (way_to params items pass to s) (filter q (map (way_to params items pass to) live)) (filter (λ (s : State). q (way_to params items pass to s)) live)
    (states_of_ways params items pass to q live)

-- ---- one place more

and_true : (b : Bool) → (b && true) ≡ b
and_true true = refl
and_true false = refl

abbrev stays : Settings → List Item → Pass → ℕ → State → Bool
stays params items pass m state = nat_le m state.place || not (falls (is_forced params items m) (way_to params items pass m state))

alive_split : (params : Settings) (items : List Item) (pass : Pass) (earlier : List ℕ) (k : ℕ) (s : State) →
    is_alive params items pass (earlier ++ k ∷ []) s ≡ (is_alive params items pass earlier s && stays params items pass k s)
alive_split params items pass earlier k s =
    list_all-append (λ m. stays params items pass m s) earlier (k ∷ []) ∙ ap (λ b. is_alive params items pass earlier s && b) (and_true (stays params items pass k s))

not_above : (k n : ℕ) → n < k → nat_le k n ≡ false
not_above k n lt = grind (arith, nat_tests)

at_most : (k n : ℕ) → k ≤ n → nat_le k n ≡ true
at_most k n le = grind (arith, nat_tests)

-- at a place after its own a state stays if it does not fall there
stays_old : (params : Settings) (items : List Item) (pass : Pass) (k : ℕ) (s : State) → s.place < k → stays params items pass k s ≡ not (falls (is_forced params items k) (way_to params items pass k s))
stays_old params items pass k s lt = ap (λ b. b || not (falls (is_forced params items k) (way_to params items pass k s))) (not_above k s.place lt)

stays_new : (params : Settings) (items : List Item) (pass : Pass) (k : ℕ) (s : State) → k ≤ s.place → stays params items pass k s ≡ true
stays_new params items pass k s le = ap (λ b. b || not (falls (is_forced params items k) (way_to params items pass k s))) (at_most k s.place le)

alive_old : (params : Settings) (items : List Item) (pass : Pass) (earlier : List ℕ) (k : ℕ) (states : List State) → All (λ (s : State). s.place < k) states →
    All (λ (s : State). is_alive params items pass (earlier ++ k ∷ []) s ≡ (is_alive params items pass earlier s && not (falls (is_forced params items k) (way_to params items pass k s)))) states
alive_old params items pass earlier k states h = λ i d lt.
    alive_split params items pass earlier k (get_or states i d) ∙ ap (λ b. is_alive params items pass earlier (get_or states i d) && b) (stays_old params items pass k (get_or states i d) (h i d lt))

alive_new : (params : Settings) (items : List Item) (pass : Pass) (earlier : List ℕ) (s : State) → All (λ m. m ≤ s.place) earlier → is_alive params items pass earlier s ≡ true
alive_new params items pass earlier s h = list_all_every (λ m. stays params items pass m s) earlier (λ i d lt. stays_new params items pass (get_or earlier i d) s (h i d lt))

all_alive : (params : Settings) (items : List Item) (pass : Pass) (earlier : List ℕ) (k : ℕ) (made : List State) → All (λ m. m ≤ k) earlier → All (λ (s : State). s.place ≡ k) made →
    All (λ (s : State). is_alive params items pass earlier s ≡ true) made
all_alive params items pass earlier k made h g = λ i d lt. alive_new params items pass earlier (get_or made i d) (λ j e le. let a = h j e le in let b = g i d lt in omega arith)

-- The states that are alive after a place: those that do not fall there, and those that were made there.
pub alive_more : (params : Settings) (items : List Item) (pass : Pass) (earlier : List ℕ) (k : ℕ) (states made : List State) →
    All (λ (s : State). s.place < k) states → All (λ (s : State). s.place ≡ k) made → All (λ m. m ≤ k) (earlier ++ k ∷ []) →
    alive_states params items pass (earlier ++ k ∷ []) (states ++ made) ≡
    filter (λ (s : State). not (falls (is_forced params items k) (way_to params items pass k s))) (alive_states params items pass earlier states) ++ made
alive_more params items pass earlier k states made old new below =
    filter-append (is_alive params items pass (earlier ++ k ∷ [])) states made
    ∙ (λ j. filter_twice (is_alive params items pass earlier) (λ (s : State). not (falls (is_forced params items k) (way_to params items pass k s))) (is_alive params items pass (earlier ++ k ∷ [])) states
    (alive_old params items pass earlier k states old) j
    ++ filter_every (is_alive params items pass (earlier ++ k ∷ [])) made (all_alive params items pass (earlier ++ k ∷ []) k made below new) j)
