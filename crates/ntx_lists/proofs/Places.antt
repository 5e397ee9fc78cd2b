-- What is found on the way along one list.
use Rattle.std.proofs.Common.{◌≡◌, ℕ, List, [], ◌∷◌, ◌++◌, Bool, true, false, cond, length, Some, None, Ok, Err, refl, sym, ◌∙◌, ap, subst}
use Rattle.std.specs.Prelude.{Option, Result, IfOk, not, is_some, nat_eq, ◌||◌, drop}
use Rattle.std.specs.Ordering.{nat_cmp}
use Rattle.std.specs.Option.{option_and_then, unwrap_or}
use Rattle.std.specs.FinMap as map
use Rattle.std.specs.FinSet as set
use Rattle.std.proofs.Math.Seq.{drop-append_seam}
use Rattle.std.proofs.lemmas.Bool.{not-false, or_left, or_right}
use Rattle.ntx_num.specs.Answer.{result_map, result_and_then}
use Rattle.ntx_num.proofs.Answers.{same_Ok}
use Rattle.ntx_nodes.specs.Heap.{Heap, Names, is_live, AreLive}
use Rattle.ntx_nodes.specs.Fields.{kind_of}
use Rattle.ntx_nodes.specs.Steps.{of_found, at, kind_answer, visit_step}
use Rattle.ntx_nodes.specs.Walk.{is_reached, flat_walk}
use Rattle.ntx_nodes.specs.Walker.{Marks, whole_walk}
use Rattle.ntx_nodes.specs.WalkLaws.{Sound}
use Rattle.ntx_nodes.specs.declared.kind.Kind.{Kind}
use Rattle.ntx_nodes.specs.declared.kind.ListKind.TheVariants.{H}
use Rattle.ntx_nodes.specs.declared.kind.Way.TheVariants.{Flat}
use Rattle.ntx_nodes.specs.declared.node.Node.{Node}
use Rattle.ntx_nodes.specs.declared.trouble.Trouble.{Trouble}
use Rattle.ntx_nodes.specs.declared.trouble.Trouble.TheVariants.{NotInList}
use Rattle.ntx_nodes.proofs.Oks.{at_Ok}
use Rattle.ntx_nodes.proofs.SoundWalks.{sound_walk}
use Rattle.ntx_nodes.proofs.Walks.{is_reached-append, marks_more, nat_eq_same}
use Rattle.ntx_lists.specs.Lists.{last_of, name_before, next_of, tail_answer, length_answer, list_beside, list_with}
use Rattle.ntx_lists.specs.Survey.{last_from, survey_of, Surveys, IsLiveLink, Finds, FindsIn, FindsRoom}
use Rattle.ntx_lists.specs.declared.survey.Survey.{Survey}

-- ---- from no marks
pub no_marks : (v : Names) → v ≡ set.empty → Marks v []
no_marks v e q = ap (λ s. set.contains s q) e ∙ set.contains-empty nat_cmp q

pub flat_seen : (heap h : Heap) (head cur : ℕ) (v w : Names) (seen : Survey) → h ≡ heap → v ≡ set.empty → Surveys h head cur v w (Ok seen) → (names : List ℕ) × (flat_walk heap (Some head) ≡ Ok names) × (seen ≡ survey_of names cur)
flat_seen heap h head cur v w seen same e surveys = let s = surveys [] (no_marks v e) in (s.0, subst (λ x. flat_walk x (Some head) ≡ Ok s.0) same s.1, s.3)

pub flat_stopped : (heap h : Heap) (head cur : ℕ) (v w : Names) (why : Trouble) → h ≡ heap → v ≡ set.empty → Surveys h head cur v w (Err why) → flat_walk heap (Some head) ≡ Err why
flat_stopped heap h head cur v w why same e surveys = subst (λ x. flat_walk x (Some head) ≡ Err why) same (surveys [] (no_marks v e))

-- ---- the last node
last_same : (head : ℕ) (ns : List ℕ) (n : ℕ) → unwrap_or (last_from (Some n) ns) head ≡ last_of n ns
last_same head [] n = refl
last_same head (m ∷ ms) n = last_same head ms m

last_is : (head : ℕ) (ns : List ℕ) → unwrap_or (last_from None ns) head ≡ last_of head ns
last_is head [] = refl
last_is head (m ∷ ms) = last_same head ms m

pub tail_seen : (heap h : Heap) (head cur : ℕ) (v w : Names) (seen : Survey) → h ≡ heap → v ≡ set.empty → Surveys h head cur v w (Ok seen) → Ok (unwrap_or seen.last head) ≡ tail_answer head heap
tail_seen heap h head cur v w seen same e surveys =
    let s = flat_seen heap h head cur v w seen same e surveys in
    ap Ok (ap (λ (x : Survey). unwrap_or x.last head) s.2 ∙ last_is head s.0) ∙ sym (ap (result_map (last_of head)) s.1)

pub tail_stopped : (heap h : Heap) (head cur : ℕ) (v w : Names) (why : Trouble) → h ≡ heap → v ≡ set.empty → Surveys h head cur v w (Err why) → Err why ≡ tail_answer head heap
tail_stopped heap h head cur v w why same e surveys = sym (ap (result_map (last_of head)) (flat_stopped heap h head cur v w why same e surveys))

-- ---- how many there are
pub length_seen : (heap h : Heap) (head cur : ℕ) (v w : Names) (seen : Survey) → h ≡ heap → v ≡ set.empty → Surveys h head cur v w (Ok seen) → Ok seen.length ≡ length_answer (Some head) heap
length_seen heap h head cur v w seen same e surveys =
    let s = flat_seen heap h head cur v w seen same e surveys in
    ap Ok (ap (λ (x : Survey). x.length) s.2) ∙ sym (ap (result_map length) s.1)

pub length_stopped : (heap h : Heap) (head cur : ℕ) (v w : Names) (why : Trouble) → h ≡ heap → v ≡ set.empty → Surveys h head cur v w (Err why) → Err why ≡ length_answer (Some head) heap
length_stopped heap h head cur v w why same e surveys = sym (ap (result_map length) (flat_stopped heap h head cur v w why same e surveys))

-- ---- the node before
-- a name before another is one of them, or stood before
before_is : (P : ℕ → Type 0) (p : Option ℕ) (ns : List ℕ) (cur m : ℕ) → ((q : ℕ) → p ≡ Some q → P q) → ((q : ℕ) → is_reached ns q ≡ true → P q) → name_before p ns cur ≡ Some m → P m
before_is P p [] cur m first all e = cc
before_is P p (n ∷ ns) cur m first all e =
    elim (nat_eq cur n) as (λ b. cond b p (name_before (Some n) ns cur) ≡ Some m → P m) [
      | true ↦ λ x. first m x
      | false ↦ λ x. before_is P (Some n) ns cur m (λ q y. let same : n ≡ q = cc in subst P same (all n (or_left (nat_eq n n) (is_reached ns n) (nat_eq_same n)))) (λ q y. all q (or_right (nat_eq q n) (is_reached ns q) y)) x
    ] e

listed : (heap : Heap) (head : ℕ) (others names : List ℕ) → whole_walk heap Flat others (Some head) 0 H ≡ Ok (others ++ names) → list_beside heap others head ≡ Ok names
listed heap head others names e = ap (result_map (drop (length others))) e ∙ ap Ok (drop-append_seam others names)

with_cur : (heap : Heap) (head cur : ℕ) (others names : List ℕ) (b : Bool) → list_beside heap others head ≡ Ok names → is_reached names cur ≡ b → list_with heap others head cur ≡ cond b (Ok names) (Err (NotInList cur))
with_cur heap head cur others names b e is = ap (λ x. result_and_then x (λ (names : List ℕ). cond (is_reached names cur) (Ok names) (Err (NotInList cur)))) e ∙ ap (λ b. cond b (Ok names) (Err (NotInList cur))) is

next_is : (o : Option Node) (m : ℕ) → option_and_then (λ (node : Node). node.fields.next) o ≡ Some m → (node : Node) × (o ≡ Some node) × (node.fields.next ≡ Some m)
next_is None m e = cc
next_is (Some node) m e = (node, refl, e)

-- what follows a node of a list is live
next_live : (heap : Heap) (head cur : ℕ) (others names : List ℕ) → Sound heap Flat others (Some head) (others ++ names) → is_reached names cur ≡ true → ((q : ℕ) → is_reached (others ++ names) q ≡ true → is_live heap q ≡ true)
    → (m : ℕ) → next_of heap cur ≡ Some m → is_live heap m ≡ true
next_live heap head cur others names sound here live m e =
    let same : names ≡ sound.more = sym (drop-append_seam others names) ∙ ap (drop (length others)) sound.added ∙ drop-append_seam others sound.more in
    let n = next_is (map.get heap.nodes cur) m e in
    live m ((sound.closed cur n.0 (subst (λ x. is_reached x cur ≡ true) same here) n.1).next m n.2)

pub found_at : (heap h : Heap) (head cur : ℕ) (v w : Names) (seen : Survey) → h ≡ heap → AreLive h w → Surveys heap head cur v w (Ok seen) → not seen.found ≡ false → (others : List ℕ) → Marks v others → Finds heap head cur others (Ok seen.before)
found_at heap h head cur v w seen same live surveys found others marks =
    let s = surveys others marks in
    let names : List ℕ = s.0 in
    let all_live : (q : ℕ) → is_reached (others ++ names) q ≡ true → is_live heap q ≡ true = λ q e. subst (λ x. is_live x q ≡ true) same (live q (s.2 q ∙ e)) in
    let in_names : (q : ℕ) → is_reached names q ≡ true → is_reached (others ++ names) q ≡ true = λ q e. is_reached-append others names q ∙ or_right (is_reached others q) (is_reached names q) e in
    let here : is_reached names cur ≡ true = ap (λ (x : Survey). x.found) (sym s.3) ∙ not-false seen.found found in
    let prior : seen.before ≡ name_before None names cur = ap (λ (x : Survey). x.before) s.3 in (
      ap Ok prior ∙ sym (ap (result_map (λ names. name_before None names cur)) (with_cur heap head cur others names true (listed heap head others names s.1) here)),
      (
        λ m e. before_is (λ q. is_live heap q ≡ true) None names cur m (λ q x. cc) (λ q x. all_live q (in_names q x)) (sym prior ∙ e),
        λ m e. next_live heap head cur others names (sound_walk heap Flat others (Some head) 0 H (others ++ names) s.1) here all_live m e,
      ),
    )

pub missing_at : (heap : Heap) (head cur : ℕ) (v w : Names) (seen : Survey) → Surveys heap head cur v w (Ok seen) → seen.found ≡ false → (others : List ℕ) → Marks v others → Finds heap head cur others (Err (NotInList cur))
missing_at heap head cur v w seen surveys found others marks =
    let s = surveys others marks in
    let missing : is_reached s.0 cur ≡ false = ap (λ (x : Survey). x.found) (sym s.3) ∙ found in
    (sym (ap (result_map (λ names. name_before None names cur)) (with_cur heap head cur others s.0 false (listed heap head others s.0 s.1) missing)), tt)

pub stopped_at : (heap : Heap) (head cur : ℕ) (v w : Names) (why : Trouble) → Surveys heap head cur v w (Err why) → (others : List ℕ) → Marks v others → Finds heap head cur others (Err why)
stopped_at heap head cur v w why surveys others marks =
    (sym (ap (λ x. result_map (λ names. name_before None names cur) (result_and_then (result_map (drop (length others)) x) (λ (names : List ℕ). cond (is_reached names cur) (Ok names) (Err (NotInList cur))))) (surveys others marks)), tt)

-- ---- room for another node
pub live_of : (heap : Heap) (n : ℕ) (k : Kind × ℕ) → Ok k ≡ kind_answer n heap → (node : Node) × (map.get heap.nodes n ≡ Some node)
live_of heap n k e = let a = at_Ok {A = Kind × ℕ} heap n (λ node. Ok (kind_of node.fields.contents, node.fields.subtype)) k (sym e) in (a.node, a.is)

pub is_live_of : (heap : Heap) (n : ℕ) (k : Kind × ℕ) → Ok k ≡ kind_answer n heap → is_live heap n ≡ true
is_live_of heap n k e = ap is_some (live_of heap n k e).1

both_live : (heap : Heap) (head cur new : ℕ) (r : Result (Option ℕ) Trouble) → IfOk r (λ before. IsLiveLink heap before × IsLiveLink heap (next_of heap cur)) → is_live heap cur ≡ true → is_live heap new ≡ true
    → IfOk r (λ before. IsLiveLink heap before × IsLiveLink heap (next_of heap cur) × (is_live heap cur ≡ true) × (is_live heap new ≡ true))
both_live heap head cur new (Ok before) h p q = (h.0, h.1, p, q)
both_live heap head cur new (Err why) h p q = tt

-- the only name visited
pub one_mark : (heap : Heap) (n : ℕ) (v w : Names) (first : Bool) → v ≡ set.empty → visit_step n heap v ≡ Ok (first, w) → Marks w (n ∷ [])
one_mark heap n v w first e visits =
    let a = at_Ok {A = Bool × Names} heap n (λ _. Ok (not (set.contains v n), set.insert v n)) (first, w) visits in
    subst (λ (s : Names). Marks s (n ∷ [])) (ap (λ p. p.1) (same_Ok _ _ a.gives)) (marks_more v [] n (no_marks v e))

pub room_found : (heap h : Heap) (head cur new : ℕ) (a b d : Kind × ℕ) (w : Names) (r : Result (Option ℕ) Trouble) → h ≡ heap → Ok a ≡ kind_answer head heap → Ok b ≡ kind_answer cur heap → Ok d ≡ kind_answer new heap
    → Marks w (new ∷ []) → ((others : List ℕ) → Marks w others → Finds h head cur others r) → FindsRoom heap head cur new r
room_found heap h head cur new a b d w r same ea eb ed marks finds =
    let f = subst (λ x. Finds x head cur (new ∷ []) r) same (finds (new ∷ []) marks) in
    let answer : Result (Option ℕ) Trouble = result_map (λ names. name_before None names cur) (list_with heap (new ∷ []) head cur) in (
      f.0 ∙ sym (ap (of_found head (λ _. at heap cur (λ _. at heap new (λ _. answer)))) (live_of heap head a ea).1 ∙ ap (of_found cur (λ _. at heap new (λ _. answer))) (live_of heap cur b eb).1 ∙ ap (of_found new (λ _. answer)) (live_of heap new d ed).1),
      both_live heap head cur new r f.1 (is_live_of heap cur b eb) (is_live_of heap new d ed),
    )

-- ---- a place to be left
cur_live : (heap : Heap) (cur : ℕ) (r : Result (Option ℕ) Trouble) → IfOk r (λ before. IsLiveLink heap before × IsLiveLink heap (next_of heap cur)) → is_live heap cur ≡ true
    → IfOk r (λ before. IsLiveLink heap before × IsLiveLink heap (next_of heap cur) × (is_live heap cur ≡ true))
cur_live heap cur (Ok before) h p = (h.0, h.1, p)
cur_live heap cur (Err why) h p = tt

pub place_found : (heap h : Heap) (head cur : ℕ) (a b : Kind × ℕ) (v : Names) (r : Result (Option ℕ) Trouble) → h ≡ heap → Ok a ≡ kind_answer head heap → Ok b ≡ kind_answer cur heap
    → v ≡ set.empty → ((others : List ℕ) → Marks v others → Finds h head cur others r) → FindsIn heap head cur r
place_found heap h head cur a b v r same ea eb e finds =
    let f = subst (λ x. Finds x head cur [] r) same (finds [] (no_marks v e)) in
    let answer : Result (Option ℕ) Trouble = result_map (λ names. name_before None names cur) (list_with heap [] head cur) in (
      f.0 ∙ sym (ap (of_found head (λ _. at heap cur (λ _. answer))) (live_of heap head a ea).1 ∙ ap (of_found cur (λ _. answer)) (live_of heap cur b eb).1),
      cur_live heap cur r f.1 (is_live_of heap cur b eb),
    )
