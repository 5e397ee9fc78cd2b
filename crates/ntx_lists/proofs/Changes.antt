-- A list with one node more or less.
use Rattle.std.proofs.Common.{◌≡◌, ℕ, List, [], ◌∷◌, Bool, true, false, cond, Some, None, Ok, Err, refl, sym, ◌∙◌, ap, subst}
use Rattle.std.specs.Prelude.{Option, Result, is_some, nat_eq}
use Rattle.std.specs.Ordering.{nat_cmp, eq_by_cmp}
use Rattle.std.specs.Cmp.{nat_cmp_total}
use Rattle.std.specs.FinMap as map
use Rattle.ntx_num.specs.Answer.{result_map}
use Rattle.ntx_nodes.specs.Heap.{Heap, is_live}
use Rattle.ntx_num.specs.Answer.{StepsAtOnce}
use Rattle.ntx_nodes.specs.Steps.{of_found, at}
use Rattle.ntx_nodes.specs.declared.node.Node.{Node}
use Rattle.ntx_nodes.specs.declared.trouble.Trouble.{Trouble}
use Rattle.std.proofs.lemmas.Bool.{eqb-true}
use Rattle.ntx_nodes.proofs.Walks.{nat_eq_same}
use Rattle.ntx_num.proofs.Answers.{mapped_Ok}
use Rattle.ntx_nodes.proofs.Oks.{at_Ok}
use Rattle.ntx_lists.specs.Lists.{name_before, next_of, follow_by, with_next, with_next_at, list_with, head_with, room_for, place_in, inserted_before, insert_before_step, inserted_after, insert_after_step, removed, left_by, remove_step}
use Rattle.ntx_lists.specs.Survey.{IsLiveLink, FindsIn, FindsRoom, Follows, FollowsAt}

-- ---- what is live stays so
insert_live : (nodes : map.FinMap nat_cmp Node) (n m : ℕ) (node : Node) (b : Bool) → eq_by_cmp nat_cmp m n ≡ b → is_some (map.get nodes m) ≡ true → is_some (cond b (Some node) (map.get nodes m)) ≡ true
insert_live nodes n m node true e h = refl
insert_live nodes n m node false e h = h

follow_live : (heap : Heap) (n : ℕ) (to : Option ℕ) (o : Option Node) (m : ℕ) → is_live heap m ≡ true → is_live (follow_by heap n to o) m ≡ true
follow_live heap n to None m h = h
follow_live heap n to (Some node) m h = ap is_some (map.get-insert nat_cmp_total heap.nodes n _ m) ∙ insert_live heap.nodes n m _ (eq_by_cmp nat_cmp m n) refl h

with_live : (heap : Heap) (n : ℕ) (to : Option ℕ) (m : ℕ) → is_live heap m ≡ true → is_live (with_next heap n to) m ≡ true
with_live heap n to m h = follow_live heap n to (map.get heap.nodes n) m h

at_live : (heap : Heap) (n to : Option ℕ) (m : ℕ) → is_live heap m ≡ true → is_live (with_next_at heap n to) m ≡ true
at_live heap None to m h = h
at_live heap (Some n) to m h = with_live heap n to m h

link_live : (heap : Heap) (n : ℕ) → is_live heap n ≡ true → IsLiveLink heap (Some n)
link_live heap n h m e = let same : n ≡ m = cc in subst (λ x. is_live heap x ≡ true) same h

no_link : (heap : Heap) → IsLiveLink heap None
no_link heap m e = cc

-- ---- the names of the list
pub record Room {A : Type 0} (heap : Heap) (head cur new : ℕ) (f : List ℕ → A) (before : Option ℕ) : Type 0 where
  pub names : List ℕ
  pub is : name_before None names cur ≡ before
  pub gives : room_for heap head cur new f ≡ Ok (f names)

room_gives : {A : Type 0} (heap : Heap) (head cur new : ℕ) (f : List ℕ → A) (a b d : Node) (names : List ℕ) → map.get heap.nodes head ≡ Some a → map.get heap.nodes cur ≡ Some b → map.get heap.nodes new ≡ Some d
    → list_with heap (new ∷ []) head cur ≡ Ok names → room_for heap head cur new f ≡ Ok (f names)
room_gives heap head cur new f a b d names ea eb ed e =
    let r : Result (List ℕ) Trouble = list_with heap (new ∷ []) head cur in
    ap (of_found head (λ _. at heap cur (λ _. at heap new (λ _. result_map f r)))) ea ∙ ap (of_found cur (λ _. at heap new (λ _. result_map f r))) eb ∙ ap (of_found new (λ _. result_map f r)) ed ∙ ap (result_map f) e

room : {A : Type 0} (heap : Heap) (head cur new : ℕ) (f : List ℕ → A) (before : Option ℕ) → Ok before ≡ room_for heap head cur new (λ names. name_before None names cur) → Room heap head cur new f before
room heap head cur new f before e =
    let g : List ℕ → Option ℕ = λ names. name_before None names cur in
    let list : Result (List ℕ) Trouble = list_with heap (new ∷ []) head cur in
    let a = at_Ok heap head (λ _. at heap cur (λ _. at heap new (λ _. result_map g list))) before (sym e) in
    let b = at_Ok heap cur (λ _. at heap new (λ _. result_map g list)) before a.gives in
    let d = at_Ok heap new (λ _. result_map g list) before b.gives in
    let m = mapped_Ok g list before d.gives in
    record { names = m.value; is = m.gives; gives = room_gives heap head cur new f a.node b.node d.node m.value a.is b.is d.is m.is }

pub record Place {A : Type 0} (heap : Heap) (head cur : ℕ) (f : List ℕ → A) (before : Option ℕ) : Type 0 where
  pub names : List ℕ
  pub is : name_before None names cur ≡ before
  pub gives : place_in heap head cur f ≡ Ok (f names)

place_gives : {A : Type 0} (heap : Heap) (head cur : ℕ) (f : List ℕ → A) (a b : Node) (names : List ℕ) → map.get heap.nodes head ≡ Some a → map.get heap.nodes cur ≡ Some b → list_with heap [] head cur ≡ Ok names → place_in heap head cur f ≡ Ok (f names)
place_gives heap head cur f a b names ea eb e =
    let r : Result (List ℕ) Trouble = list_with heap [] head cur in
    ap (of_found head (λ _. at heap cur (λ _. result_map f r))) ea ∙ ap (of_found cur (λ _. result_map f r)) eb ∙ ap (result_map f) e

place : {A : Type 0} (heap : Heap) (head cur : ℕ) (f : List ℕ → A) (before : Option ℕ) → Ok before ≡ place_in heap head cur (λ names. name_before None names cur) → Place heap head cur f before
place heap head cur f before e =
    let g : List ℕ → Option ℕ = λ names. name_before None names cur in
    let list : Result (List ℕ) Trouble = list_with heap [] head cur in
    let a = at_Ok heap head (λ _. at heap cur (λ _. result_map g list)) before (sym e) in
    let b = at_Ok heap cur (λ _. result_map g list) before a.gives in
    let m = mapped_Ok g list before b.gives in
    record { names = m.value; is = m.gives; gives = place_gives heap head cur f a.node b.node m.value a.is b.is m.is }

-- ---- the new head
pub head_is : {A : Type 0} (head cur : ℕ) (a b : A) → head ≡ cur → head_with head cur a b ≡ a
head_is head cur a b e = ap (λ t. cond t a b) (subst (λ x. nat_eq head x ≡ true) e (nat_eq_same head))

pub head_stays : {A : Type 0} (head cur : ℕ) (a b : A) → (head ≡ cur → ⊥) → head_with head cur a b ≡ b
head_stays head cur a b h = elim (nat_eq head cur) as (λ t. nat_eq head cur ≡ t → cond t a b ≡ b) [ true ↦ λ e. absurd (h (eqb-true head cur e)) | false ↦ λ e. refl ] refl

-- ---- refusals
map_err : {A B : Type 0} (f : List ℕ → A) (g : List ℕ → B) (why : Trouble) (r : Result (List ℕ) Trouble) → Err why ≡ result_map g r → result_map f r ≡ Err why
map_err f g why (Ok names) e = cc
map_err f g why (Err w) e = let same : w ≡ why = cc in ap Err same

found_err : {A B : Type 0} (n : ℕ) (why : Trouble) (f : Node → Result A Trouble) (g : Node → Result B Trouble) (o : Option Node) → ((node : Node) → Err why ≡ g node → f node ≡ Err why) → Err why ≡ of_found n g o → of_found n f o ≡ Err why
found_err n why f g None h e = cc
found_err n why f g (Some node) h e = h node e

room_err : {A : Type 0} (heap : Heap) (head cur new : ℕ) (f : List ℕ → A) (why : Trouble) → Err why ≡ room_for heap head cur new (λ names. name_before None names cur) → room_for heap head cur new f ≡ Err why
room_err heap head cur new f why e =
    found_err head why _ _ (map.get heap.nodes head) (λ _ x. found_err cur why _ _ (map.get heap.nodes cur) (λ _ y. found_err new why _ _ (map.get heap.nodes new) (λ _ z. map_err f _ why (list_with heap (new ∷ []) head cur) z) y) x) e

place_err : {A : Type 0} (heap : Heap) (head cur : ℕ) (f : List ℕ → A) (why : Trouble) → Err why ≡ place_in heap head cur (λ names. name_before None names cur) → place_in heap head cur f ≡ Err why
place_err heap head cur f why e =
    found_err head why _ _ (map.get heap.nodes head) (λ _ x. found_err cur why _ _ (map.get heap.nodes cur) (λ _ y. map_err f _ why (list_with heap [] head cur) y) x) e

pub before_refused : (heap h1 : Heap) (head cur new : ℕ) (why : Trouble) → FindsRoom heap head cur new (Err why) → h1 ≡ heap → StepsAtOnce {A = ℕ} (Err why) heap h1 (insert_before_step head cur new heap)
before_refused heap h1 head cur new why finds same = (room_err {A = ℕ × Heap} heap head cur new (λ names. (head_with head cur new head, inserted_before heap names cur new)) why finds.0, same)

pub after_refused : (heap h1 : Heap) (head cur new : ℕ) (why : Trouble) → FindsRoom heap head cur new (Err why) → h1 ≡ heap → StepsAtOnce {A = ℕ} (Err why) heap h1 (insert_after_step head cur new heap)
after_refused heap h1 head cur new why finds same = (room_err {A = ℕ × Heap} heap head cur new (λ names. (head, inserted_after heap cur new)) why finds.0, same)

pub remove_refused : (heap h1 : Heap) (head cur : ℕ) (why : Trouble) → FindsIn heap head cur (Err why) → h1 ≡ heap → StepsAtOnce {A = Option ℕ × Option ℕ} (Err why) heap h1 (remove_step head cur heap)
remove_refused heap h1 head cur why finds same = (place_err {A = (Option ℕ × Option ℕ) × Heap} heap head cur (λ names. (left_by heap head cur, removed heap names cur)) why finds.0, same)

-- what is never refused
pub never : {X : Type 0} (why : Trouble) (r : Result (Unit {0}) Trouble) → r ≡ Ok tt → r ≡ Err why → X
never why r e f = cc

-- ---- insertion before
pub before_first : (heap h1 h2 : Heap) (head cur new : ℕ) (before : Option ℕ) (r : Result (Unit {0}) Trouble) → FindsRoom heap head cur new (Ok before) → h1 ≡ heap → Follows h1 h2 new (Some cur) r → (r ≡ Ok tt) × (h2 ≡ with_next heap new (Some cur))
before_first heap h1 h2 head cur new before r finds same follows =
    subst (λ h. Follows h h2 new (Some cur) r) same follows finds.1.3 (link_live heap cur finds.1.2)

pub before_second : (heap h1 h2 h3 : Heap) (head cur new : ℕ) (before : Option ℕ) (r s : Result (Unit {0}) Trouble) → FindsRoom heap head cur new (Ok before) → h1 ≡ heap → Follows h1 h2 new (Some cur) r → FollowsAt h2 h3 before (Some new) s
    → (s ≡ Ok tt) × (h3 ≡ with_next_at (with_next heap new (Some cur)) before (Some new))
before_second heap h1 h2 h3 head cur new before r s finds same follows last =
    let is = (before_first heap h1 h2 head cur new before r finds same follows).1 in
    let h : Heap = with_next heap new (Some cur) in
    subst (λ x. FollowsAt x h3 before (Some new) s) is last (λ m e. with_live heap new (Some cur) m (finds.1.0 m e)) (link_live h new (with_live heap new (Some cur) new finds.1.3))

pub before_done : (heap h1 h2 h3 : Heap) (head cur new : ℕ) (before : Option ℕ) (r s : Result (Unit {0}) Trouble) → FindsRoom heap head cur new (Ok before) → h1 ≡ heap → Follows h1 h2 new (Some cur) r → FollowsAt h2 h3 before (Some new) s
    → insert_before_step head cur new heap ≡ Ok (head_with head cur new head, h3)
before_done heap h1 h2 h3 head cur new before r s finds same follows last =
    let is = (before_second heap h1 h2 h3 head cur new before r s finds same follows last).1 in
    let p = room {A = ℕ × Heap} heap head cur new (λ names. (head_with head cur new head, inserted_before heap names cur new)) before finds.0 in
    p.gives ∙ (λ i. Ok (head_with head cur new head, (ap (λ b. with_next_at (with_next heap new (Some cur)) b (Some new)) p.is ∙ sym is) i))

-- ---- insertion after
pub after_first : (heap h1 h2 : Heap) (head cur new : ℕ) (before after : Option ℕ) (r : Result (Unit {0}) Trouble) → FindsRoom heap head cur new (Ok before) → h1 ≡ heap → after ≡ next_of h1 cur → Follows h1 h2 new after r → (r ≡ Ok tt) × (h2 ≡ with_next heap new (next_of heap cur))
after_first heap h1 h2 head cur new before after r finds same next follows =
    subst (λ h. Follows h h2 new (next_of heap cur) r) same (subst (λ o. Follows h1 h2 new o r) (next ∙ ap (λ h. next_of h cur) same) follows) finds.1.3 finds.1.1

pub after_second : (heap h1 h2 h3 : Heap) (head cur new : ℕ) (before after : Option ℕ) (r s : Result (Unit {0}) Trouble) → FindsRoom heap head cur new (Ok before) → h1 ≡ heap → after ≡ next_of h1 cur → Follows h1 h2 new after r → Follows h2 h3 cur (Some new) s
    → (s ≡ Ok tt) × (h3 ≡ inserted_after heap cur new)
after_second heap h1 h2 h3 head cur new before after r s finds same next follows last =
    let is = (after_first heap h1 h2 head cur new before after r finds same next follows).1 in
    let h : Heap = with_next heap new (next_of heap cur) in
    subst (λ x. Follows x h3 cur (Some new) s) is last (with_live heap new (next_of heap cur) cur finds.1.2) (link_live h new (with_live heap new (next_of heap cur) new finds.1.3))

pub after_done : (heap h1 h2 h3 : Heap) (head cur new : ℕ) (before after : Option ℕ) (r s : Result (Unit {0}) Trouble) → FindsRoom heap head cur new (Ok before) → h1 ≡ heap → after ≡ next_of h1 cur → Follows h1 h2 new after r → Follows h2 h3 cur (Some new) s
    → insert_after_step head cur new heap ≡ Ok (head, h3)
after_done heap h1 h2 h3 head cur new before after r s finds same next follows last =
    let is = (after_second heap h1 h2 h3 head cur new before after r s finds same next follows last).1 in
    let p = room {A = ℕ × Heap} heap head cur new (λ names. (head, inserted_after heap cur new)) before finds.0 in
    p.gives ∙ (λ i. Ok (head, sym is i))

-- ---- removal
pub remove_first : (heap h1 h2 : Heap) (head cur : ℕ) (before after : Option ℕ) (r : Result (Unit {0}) Trouble) → FindsIn heap head cur (Ok before) → h1 ≡ heap → after ≡ next_of h1 cur → FollowsAt h1 h2 before after r
    → (r ≡ Ok tt) × (h2 ≡ with_next_at heap before (next_of heap cur))
remove_first heap h1 h2 head cur before after r finds same next follows =
    subst (λ h. FollowsAt h h2 before (next_of heap cur) r) same (subst (λ o. FollowsAt h1 h2 before o r) (next ∙ ap (λ h. next_of h cur) same) follows) finds.1.0 finds.1.1

pub remove_second : (heap h1 h2 h3 : Heap) (head cur : ℕ) (before after : Option ℕ) (r s : Result (Unit {0}) Trouble) → FindsIn heap head cur (Ok before) → h1 ≡ heap → after ≡ next_of h1 cur → FollowsAt h1 h2 before after r → Follows h2 h3 cur None s
    → (s ≡ Ok tt) × (h3 ≡ with_next (with_next_at heap before (next_of heap cur)) cur None)
remove_second heap h1 h2 h3 head cur before after r s finds same next follows last =
    let is = (remove_first heap h1 h2 head cur before after r finds same next follows).1 in
    let h : Heap = with_next_at heap before (next_of heap cur) in
    subst (λ x. Follows x h3 cur None s) is last (at_live heap before (next_of heap cur) cur finds.1.2) (no_link h)

pub remove_done : (heap h1 h2 h3 : Heap) (head cur : ℕ) (before after : Option ℕ) (r s : Result (Unit {0}) Trouble) → FindsIn heap head cur (Ok before) → h1 ≡ heap → after ≡ next_of h1 cur → FollowsAt h1 h2 before after r → Follows h2 h3 cur None s
    → remove_step head cur heap ≡ Ok ((head_with head cur after (Some head), after), h3)
remove_done heap h1 h2 h3 head cur before after r s finds same next follows last =
    let is = (remove_second heap h1 h2 h3 head cur before after r s finds same next follows last).1 in
    let left : next_of heap cur ≡ after = sym (next ∙ ap (λ h. next_of h cur) same) in
    let p = place {A = (Option ℕ × Option ℕ) × Heap} heap head cur (λ names. (left_by heap head cur, removed heap names cur)) before finds.0 in
    p.gives ∙ (λ i. Ok ((head_with head cur (left i) (Some head), left i), (ap (λ b. with_next (with_next_at heap b (next_of heap cur)) cur None) p.is ∙ sym is) i))
