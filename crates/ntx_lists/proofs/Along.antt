-- The way along one list: what is seen of it, and the walk that it follows.
use Rattle.std.proofs.Common.{◌≡◌, ℕ, ◌+◌, ◌≤◌, ◌<◌, List, [], ◌∷◌, ◌++◌, Bool, true, false, cond, length, Some, None, Ok, Err, refl, sym, ◌∙◌, ap, subst, append_assoc, append-nil, arith}
use Rattle.std.specs.Prelude.{Option, Result, not, ◌||◌, nat_eq}
use Rattle.std.specs.Option.{option_and_then}
use Rattle.std.specs.FinMap as map
use Rattle.std.specs.FinSet as set
use Rattle.std.proofs.lemmas.Bool.{not-false}
use Rattle.ntx_num.specs.Answer.{result_and_then}
use Rattle.ntx_num.specs.Dimension.{max_nodes}
use Rattle.ntx_num.proofs.Answers.{same_Ok}
use Rattle.ntx_nodes.specs.Heap.{Heap, Names, IsLawful}
use Rattle.ntx_nodes.specs.Steps.{of_found, at, visit_step}
use Rattle.ntx_nodes.specs.Walk.{is_reached, node_reached}
use Rattle.ntx_nodes.specs.Walker.{Marks, whole_walk, unvisited}
use Rattle.ntx_nodes.specs.declared.kind.ListKind.TheVariants.{H}
use Rattle.ntx_nodes.specs.declared.kind.Way.TheVariants.{Flat}
use Rattle.ntx_nodes.specs.declared.node.Node.{Node}
use Rattle.ntx_nodes.specs.declared.trouble.Trouble.{Trouble}
use Rattle.ntx_nodes.specs.declared.trouble.Trouble.TheVariants.{Loop}
use Rattle.ntx_nodes.proofs.Oks.{at_Ok}
use Rattle.ntx_nodes.proofs.Walks.{is_reached-append, marks_more, unvisited_less, failing-le, node_reached_Ok}
use Rattle.ntx_nodes.proofs.WalkSteps.{whole_None, whole_at, whole_refused}
use Rattle.ntx_lists.specs.Lists.{name_before, next_of}
use Rattle.ntx_lists.specs.Survey.{last_from, survey_of, survey_with, Surveys}
use Rattle.ntx_lists.specs.declared.survey.Survey.{Survey}

-- ---- one more name
last_more : (p : Option ℕ) (ns : List ℕ) (n : ℕ) → last_from p (ns ++ n ∷ []) ≡ Some n
last_more p [] n = refl
last_more p (m ∷ ms) n = last_more (Some m) ms n

length_more : (ns : List ℕ) (n : ℕ) → length (ns ++ n ∷ []) ≡ length ns + 1
length_more [] n = refl
length_more (m ∷ ms) n = let e : length (ms ++ n ∷ []) ≡ length ms + 1 = length_more ms n in omega arith

before_none : (e : Bool) (p : Option ℕ) → cond e p None ≡ cond (not e) None p
before_none true p = refl
before_none false p = refl

before_more : (p : Option ℕ) (ns : List ℕ) (n cur : ℕ) → name_before p (ns ++ n ∷ []) cur ≡ cond (is_reached ns cur || not (nat_eq cur n)) (name_before p ns cur) (last_from p ns)
before_more p [] n cur = before_none (nat_eq cur n) p
before_more p (m ∷ ms) n cur =
    elim (nat_eq cur m) as (λ b. cond b p (name_before (Some m) (ms ++ n ∷ []) cur) ≡ cond ((b || is_reached ms cur) || not (nat_eq cur n)) (cond b p (name_before (Some m) ms cur)) (last_from (Some m) ms)) [
      | true ↦ refl
      | false ↦ before_more (Some m) ms n cur
    ]

or_false : (a b : Bool) → (a || (b || false)) ≡ (a || b)
or_false true b = refl
or_false false true = refl
or_false false false = refl

found_more : (ns : List ℕ) (n cur : ℕ) → is_reached (ns ++ n ∷ []) cur ≡ (is_reached ns cur || nat_eq cur n)
found_more ns n cur = is_reached-append ns (n ∷ []) cur ∙ or_false (is_reached ns cur) (nat_eq cur n)

same_survey : (a b : Survey) → a.length ≡ b.length → a.last ≡ b.last → a.before ≡ b.before → a.found ≡ b.found → a ≡ b
same_survey a b p q r s = λ i. record { length = p i; last = q i; before = r i; found = s i }

pub survey_more : (names : List ℕ) (n cur : ℕ) → survey_with (survey_of names cur) n cur ≡ survey_of (names ++ n ∷ []) cur
survey_more names n cur = same_survey _ _ (sym (length_more names n)) (sym (last_more None names n)) (sym (before_more None names n cur)) (sym (found_more names n cur))

-- ---- one node further
flat_on : (heap : Heap) (r : List ℕ) (n : ℕ) (node : Node) → node_reached heap Flat r n 0 H ≡ Ok node → whole_walk heap Flat r (Some n) 0 H ≡ whole_walk heap Flat (r ++ n ∷ []) node.fields.next 0 H
flat_on heap r n node e =
    let w : List ℕ → Result (List ℕ) Trouble = λ a. whole_walk heap Flat a None 1 H in
    let on : List ℕ → Result (List ℕ) Trouble = λ c. whole_walk heap Flat c node.fields.next 0 H in
    let r0 : List ℕ = r ++ n ∷ [] in
    whole_at heap Flat r n 0 H node e
    ∙ ap (λ x. result_and_then (result_and_then x (λ a. result_and_then (w a) (λ b. w b))) on) (whole_None heap Flat r0 1 H)
    ∙ ap (λ x. result_and_then (result_and_then x (λ b. w b)) on) (whole_None heap Flat r0 1 H)
    ∙ ap (λ x. result_and_then x on) (whole_None heap Flat r0 1 H)

-- from the head to a node that is left, with names visited and seen on the way
abbrev pub Goes : Heap → ℕ → ℕ → Names → Option ℕ → Names → Survey → Type 0
Goes heap head cur v n w seen =
    (before : List ℕ) → Marks v before
    → (names : List ℕ) × (whole_walk heap Flat before (Some head) 0 H ≡ whole_walk heap Flat (before ++ names) n 0 H) × Marks w (before ++ names) × (seen ≡ survey_of names cur)

pub goes_begun : (heap : Heap) (head cur : ℕ) (v : Names) → Goes heap head cur v (Some head) v (record { length = 0; last = None; before = None; found = false })
goes_begun heap head cur v before marks = ([], ap (λ r. whole_walk heap Flat r (Some head) 0 H) (sym (append-nil before)), subst (Marks v) (sym (append-nil before)) marks, refl)

not_true : (b : Bool) → not b ≡ true → b ≡ false
not_true true e = cc
not_true false e = refl

pub goes_on : (heap : Heap) (head cur n : ℕ) (v w x : Names) (seen : Survey) (first : Bool) → Goes heap head cur v (Some n) w seen → visit_step n heap w ≡ Ok (first, x) → first ≡ true
    → Goes heap head cur v (next_of heap n) x (survey_with seen n cur) × (unvisited heap x < unvisited heap w)
goes_on heap head cur n v w x seen first goes visits is_first =
    let at = at_Ok {A = Bool × Names} heap n (λ _. Ok (not (set.contains w n), set.insert w n)) (first, x) visits in
    let new : set.contains w n ≡ false = not_true (set.contains w n) (ap (λ p. p.0) (same_Ok _ _ at.gives) ∙ is_first) in
    let marked : set.insert w n ≡ x = ap (λ p. p.1) (same_Ok _ _ at.gives) in
    let next : at.node.fields.next ≡ next_of heap n = sym (ap (option_and_then (λ (node : Node). node.fields.next)) at.is) in (
      λ before marks. (
          let g = goes before marks in
          let r : List ℕ = before ++ g.0 in
          let fresh : is_reached r n ≡ false = sym (g.2 n) ∙ new in
          let on = flat_on heap r n at.node (node_reached_Ok heap Flat r n 0 H at.node at.is fresh refl refl) in
          let grouped : r ++ n ∷ [] ≡ before ++ (g.0 ++ n ∷ []) = append_assoc before g.0 (n ∷ []) in (
            g.0 ++ n ∷ [],
            g.1 ∙ on ∙ (λ i. whole_walk heap Flat (grouped i) (next i) 0 H),
            subst (Marks x) grouped (subst (λ (s : Names). Marks s (r ++ n ∷ [])) marked (marks_more w r n g.2)),
            ap (λ s. survey_with s n cur) g.3 ∙ survey_more g.0 n cur,
          )
          ),
      subst (λ (s : Names). unvisited heap s < unvisited heap w) marked (unvisited_less heap w n at.node at.is new),
    )

pub goes_ended : (heap : Heap) (head cur : ℕ) (v w : Names) (seen : Survey) → Goes heap head cur v None w seen → Surveys heap head cur v w (Ok seen)
goes_ended heap head cur v w seen goes before marks = let g = goes before marks in (g.0, g.1 ∙ whole_None heap Flat (before ++ g.0) 0 H, g.2, g.3)

dead_at : (heap : Heap) (n : ℕ) (o : Option Node) (f : Node → Result (Bool × Names) Trouble) (g : Node → Result Node Trouble) (why : Trouble) → ((node : Node) → f node ≡ Err why → g node ≡ Err why) → of_found n f o ≡ Err why → of_found n g o ≡ Err why
dead_at heap n None f g why h e = cc
dead_at heap n (Some node) f g why h e = h node e

pub goes_dead : (heap : Heap) (head cur n : ℕ) (v w x : Names) (seen : Survey) (why : Trouble) → Goes heap head cur v (Some n) w seen → visit_step n heap w ≡ Err why → Surveys heap head cur v x (Err why)
goes_dead heap head cur n v w x seen why goes e before marks =
    let g = goes before marks in
    g.1 ∙ whole_refused heap Flat (before ++ g.0) n 0 H why (dead_at heap n (map.get heap.nodes n) (λ _. Ok (not (set.contains w n), set.insert w n)) _ why (λ node x. cc) e)

pub goes_back : (heap : Heap) (head cur n : ℕ) (v w x : Names) (seen : Survey) (first : Bool) → Goes heap head cur v (Some n) w seen → visit_step n heap w ≡ Ok (first, x) → first ≡ false → Surveys heap head cur v x (Err (Loop n))
goes_back heap head cur n v w x seen first goes visits not_first before marks =
    let g = goes before marks in
    let at = at_Ok {A = Bool × Names} heap n (λ _. Ok (not (set.contains w n), set.insert w n)) (first, x) visits in
    let old : set.contains w n ≡ true = not-false (set.contains w n) (ap (λ p. p.0) (same_Ok _ _ at.gives) ∙ not_first) in
    let reached : is_reached (before ++ g.0) n ≡ true = sym (g.2 n) ∙ old in
    let refused : node_reached heap Flat (before ++ g.0) n 0 H ≡ Err (Loop n) = rw (at.is, reached) refl in
    g.1 ∙ whole_refused heap Flat (before ++ g.0) n 0 H (Loop n) refused

-- as many nodes are left as are live
pub few_left : (heap : Heap) (v : Names) → IsLawful heap → unvisited heap v ≤ max_nodes
few_left heap v lawful =
    let most : unvisited heap v ≤ length (map.entries heap.nodes) = failing-le (set.contains v) (map.entries heap.nodes) in
    let size : map.len heap.nodes ≡ length (map.entries heap.nodes) = map.len-entries heap.nodes in
    let few : map.len heap.nodes ≤ max_nodes = lawful.few in
    omega arith

-- ---- one turn of the way
pub record Turn (heap : Heap) (head cur : ℕ) (v : Names) (next : Option ℕ) (w x : Names) (seen : Survey) : Type 0 where
  pub goes : Goes heap head cur v next x seen
  pub less : unvisited heap x < unvisited heap w
  pub few : seen.length + unvisited heap x ≤ max_nodes

pub turn : (h0 h1 h2 : Heap) (head cur n : ℕ) (at next : Option ℕ) (v w x : Names) (seen more : Survey) (first : Bool) → h1 ≡ h0 → h2 ≡ h1 → Goes h0 head cur v at w seen → at ≡ Some n
    → visit_step n h1 w ≡ Ok (first, x) → first ≡ true → more ≡ survey_with seen n cur → next ≡ next_of h2 n → seen.length + unvisited h0 w ≤ max_nodes → Turn h0 head cur v next w x more
turn h0 h1 h2 head cur n at next v w x seen more first e1 e2 goes here visits is_first seen_more next_is few =
    let on = goes_on h0 head cur n v w x seen first (subst (λ a. Goes h0 head cur v a w seen) here goes) (subst (λ h. ◌≡◌ {A = Result (Bool × Names) Trouble} (visit_step n h w) (Ok (first, x))) e1 visits) is_first in
    let less : unvisited h0 x < unvisited h0 w = on.1 in
    let longer : more.length ≡ seen.length + 1 = ap (λ (s : Survey). s.length) seen_more in
    let follows : next_of h0 n ≡ next = sym (next_is ∙ ap (λ h. next_of h n) (e2 ∙ e1)) in
    record {
      goes = subst (λ a. Goes h0 head cur v a x more) follows (subst (λ s. Goes h0 head cur v (next_of h0 n) x s) (sym seen_more) on.0);
      less = less;
      few = omega arith;
    }
