-- What copying leaves when it has come to its end.
use Rattle.std.proofs.Common.{◌≡◌, ℕ, ◌+◌, ◌-◌, ◌≤◌, ◌<◌, length, List, [], ◌∷◌, ◌++◌, Bool, true, false, cond, Some, Ok, Err, refl, sym, ◌∙◌, ap, subst, inl, inr, arith}
use Rattle.std.specs.Prelude.{Option, Result, nat_le, nat_eq, is_some, ◌||◌, ◌⊎◌}
use Rattle.std.specs.FinMap as map
use Rattle.std.proofs.Math.Nat.{le-min, min-eq_left, min-eq_right}
use Rattle.std.proofs.lemmas.Bool.{le-leb as le_test, lt-leb as lt_test, or_left, eqb-true, leb-true, leb-false}
use Rattle.std.proofs.lemmas.Bool.Decides.{nat_tests}
use Rattle.ntx_num.specs.Answer.{Steps}
use Rattle.ntx_num.specs.declared.answer.Fail.{Fail}
use Rattle.ntx_num.specs.declared.answer.Fail.TheVariants.{NoMemory, Is}
use Rattle.ntx_num.specs.Dimension.{max_nodes}
use Rattle.ntx_nodes.specs.Heap.{Heap, IsLawful, is_live, name_limit}
use Rattle.ntx_nodes.specs.Steps.{copy_of, next_name, copy_one_step}
use Rattle.ntx_nodes.specs.Walk.{is_reached, inner_lists}
use Rattle.ntx_nodes.specs.Walker.{whole_walk}
use Rattle.ntx_nodes.specs.declared.kind.ListKind.TheVariants.{H}
use Rattle.ntx_nodes.specs.declared.kind.Way.TheVariants.{Plain}
use Rattle.ntx_nodes.specs.declared.node.Node.{Node}
use Rattle.ntx_nodes.specs.declared.trouble.Trouble.{Trouble}
use Rattle.ntx_nodes.specs.declared.trouble.Trouble.TheVariants.{NodesFull, NamesOut}
use Rattle.ntx_nodes.proofs.Walks.{is_reached-append}
use Rattle.ntx_nodes.proofs.Fuel.{Extends, extends_on}
use Rattle.ntx_lists.specs.Trees.{inner_of_found, inner_at}
use Rattle.ntx_lists.specs.Copies.{moved_on, room, why_no_more}
use Rattle.ntx_lists.specs.Copying.{bare, AllLive, Made, MakesRest, FreesRun, LinksRest, LeavesCopies, CopiesNode}
use Rattle.ntx_nodes.specs.declared.inner.InnerLists.{InnerLists}
use Rattle.ntx_lists.proofs.CopyMaps.{Copier, copies_len, no_copies}
use Rattle.ntx_lists.proofs.CopyNames.{live_on}
use Rattle.ntx_lists.proofs.Making.{extends_whole, copied_is, one_made, copy_refused}
use Rattle.ntx_lists.proofs.FreedRuns.{freed_back}

-- ---- how many copies there is room for
pub fits : (whole : Heap) (names : List ℕ) → IsLawful whole → AllLive whole names → IsLawful (bare whole names) → length names ≤ room whole
fits whole names lawful live made =
    let len : map.len (bare whole names).nodes ≡ map.len whole.nodes + length names = copies_len whole (λ _ node. copy_of node) names lawful live in
    let few : map.len (bare whole names).nodes ≤ max_nodes = made.few in
    let next : whole.next + length names ≤ name_limit = made.next in
    let a : length names ≤ max_nodes - map.len whole.nodes = omega arith in
    let b : length names ≤ name_limit - whole.next = omega arith in
    le-min a b

-- why a making is refused
abbrev pub IsRefused : Heap → Trouble → Type 0
IsRefused h why = ((why ≡ NodesFull) × (max_nodes ≤ map.len h.nodes)) ⊎ ((why ≡ NamesOut) × (map.len h.nodes < max_nodes) × (name_limit ≤ h.next))

same_Err : {A E : Type 0} (a b : E) → ◌≡◌ {A = Result A E} (Err a) (Err b) → a ≡ b
same_Err a b e = cc

refused_cases : (h : Heap) (why : Trouble) (full out : Bool) → nat_le max_nodes (map.len h.nodes) ≡ full → nat_le name_limit h.next ≡ out → cond full (Err NodesFull) (cond out (Err NamesOut) (Ok h.next)) ≡ Err why → IsRefused h why
refused_cases h why true out f o e = inl (sym (same_Err {A = ℕ} NodesFull why e), leb-true max_nodes (map.len h.nodes) f)
refused_cases h why false true f o e = inr (sym (same_Err {A = ℕ} NamesOut why e), leb-false max_nodes (map.len h.nodes) f, leb-true name_limit h.next o)
refused_cases h why false false f o e = cc

pub refused : (h : Heap) (why : Trouble) → next_name h ≡ Err why → IsRefused h why
refused h why e = refused_cases h why (nat_le max_nodes (map.len h.nodes)) (nat_le name_limit h.next) refl refl e

-- where a making is refused, as many copies were made as there was room for
pub record Full (whole : Heap) (made : List ℕ) (why : Trouble) : Type 0 where
  pub count : length made ≡ room whole
  pub why_is : why ≡ why_no_more whole

pub full : (whole : Heap) (made : List ℕ) (why : Trouble) → IsLawful whole → AllLive whole made → IsLawful (bare whole made) → next_name (bare whole made) ≡ Err why → Full whole made why
full whole made why lawful live left e =
    let a : ℕ = max_nodes - map.len whole.nodes in
    let b : ℕ = name_limit - whole.next in
    let len : map.len (bare whole made).nodes ≡ map.len whole.nodes + length made = copies_len whole (λ _ node. copy_of node) made lawful live in
    let few : map.len (bare whole made).nodes ≤ max_nodes = left.few in
    let next : whole.next + length made ≤ name_limit = left.next in
    elim (refused (bare whole made) why e) [
      | inl x ↦
          let most : max_nodes ≤ map.len (bare whole made).nodes = x.1 in
          let here : length made ≡ max_nodes - map.len whole.nodes = omega arith in
          let first : max_nodes - map.len whole.nodes ≤ name_limit - whole.next = omega arith in
          record {
            count = here ∙ sym (min-eq_left first);
            why_is = x.0 ∙ sym (ap (λ t. cond t NodesFull NamesOut) (le_test (max_nodes - map.len whole.nodes) (name_limit - whole.next) first));
          }
      | inr x ↦
          let fewer : map.len (bare whole made).nodes < max_nodes = x.1 in
          let most : name_limit ≤ whole.next + length made = x.2 in
          let here : length made ≡ name_limit - whole.next = omega arith in
          let first : name_limit - whole.next < max_nodes - map.len whole.nodes = omega arith in
          let first_le : name_limit - whole.next ≤ max_nodes - map.len whole.nodes = omega arith in
          record {
            count = here ∙ sym (min-eq_right first_le);
            why_is = x.0 ∙ sym (ap (λ t. cond t NodesFull NamesOut) (lt_test (max_nodes - map.len whole.nodes) (name_limit - whole.next) first));
          }
    ]

-- ---- what is live
alone : (heap : Heap) (n : ℕ) (node : Node) → map.get heap.nodes n ≡ Some node → AllLive heap (n ∷ [])
alone heap n node live m reached =
    elim (nat_eq m n) as (λ b. nat_eq m n ≡ b → (b || false) ≡ true → is_live heap m ≡ true) [
      | true ↦ λ e _. subst (λ x. is_live heap x ≡ true) (sym (eqb-true m n e)) (ap is_some live)
      | false ↦ λ _ h. cc
    ] refl reached

part_live : (heap : Heap) (names made rest : List ℕ) → names ≡ made ++ rest → AllLive heap names → AllLive heap made
part_live heap names made rest is live m reached = live m (ap (λ x. is_reached x m) is ∙ is_reached-append made rest m ∙ or_left (is_reached made m) (is_reached rest m) reached)

length_part : (made : List ℕ) (n : ℕ) (rest names : List ℕ) → names ≡ made ++ n ∷ rest → length made < length names
length_part [] n rest names is = let e : length names ≡ length (n ∷ rest) = ap length is in omega arith
length_part (x ∷ xs) n rest names is =
    let e : length names ≡ length ((x ∷ xs) ++ n ∷ rest) = ap length is in
    let f : length xs < length (xs ++ n ∷ rest) = length_part xs n rest (xs ++ n ∷ rest) refl in
    omega arith

-- ---- the ends of copying a node
unfinished : (whole h new : Heap) (copy : Copier) (names : List ℕ) (e : Fail Trouble) → IsLawful whole → AllLive whole names → IsLawful h → ((made : List ℕ) → AllLive whole made → h ≡ bare whole made → new ≡ moved_on whole (length made))
    → Made whole names h (Err e) → LeavesCopies whole new copy names (Err e)
unfinished whole h new copy names (Is why) lawful live left back m =
    let s = m.0 in
    let part : AllLive whole s.made = part_live whole names s.made (s.n ∷ s.rest) s.is live in
    let f = full whole s.made why lawful part (subst IsLawful s.left left) (sym (ap next_name s.left) ∙ m.1) in
    let count : length s.made ≡ room whole = f.count in
    let less : length s.made < length names = length_part s.made s.n s.rest names s.is in
    (subst (λ x. x < length names) count less, f.why_is, back s.made part s.left ∙ ap (moved_on whole) count)
unfinished whole h new copy names NoMemory lawful live left back s =
    let part : AllLive whole s.made = part_live whole names s.made (s.n ∷ s.rest) s.is live in
    (length s.made, length_part s.made s.n s.rest names s.is, fits whole s.made lawful part (subst IsLawful s.left left), back s.made part s.left)

-- the nodes that the whole walk reaches are live
all_live : (heap : Heap) (n : ℕ) (node : Node) (one two three names : List ℕ) (lists : InnerLists) (next : Option ℕ) → map.get heap.nodes n ≡ Some node
    → whole_walk heap Plain (n ∷ []) lists.first 1 H ≡ Ok one → whole_walk heap Plain one lists.second 1 H ≡ Ok two → whole_walk heap Plain two lists.third 1 H ≡ Ok three → whole_walk heap Plain three next 0 H ≡ Ok names → AllLive heap names
all_live heap n node one two three names lists next live w1 w2 w3 w4 =
    live_on heap three next 0 names (live_on heap two lists.third 1 three (live_on heap one lists.second 1 two (live_on heap (n ∷ []) lists.first 1 one (alone heap n node live) w1) w2) w3) w4

first_made : (old h1 : Heap) (n first : ℕ) (node : Node) → map.get old.nodes n ≡ Some node → copy_one_step n old ≡ Ok (first, h1) → h1 ≡ bare old (n ∷ [])
first_made old h1 n first node live e = one_made old old h1 [] n first node (sym (no_copies old (λ _ node. copy_of node))) live live e

module _ (old h1 h2 new : Heap) (n first : ℕ) (next : Option ℕ) (lists : InnerLists) (lawful : IsLawful old) (step : copy_one_step n old ≡ Ok (first, h1)) (lists_are : lists ≡ inner_at old n) where
  pub node_done : (u : Unit {0}) → MakesRest h1 h2 lists next (Ok u) → IsLawful h2 → LinksRest h2 new lists next first → CopiesNode old new n next (Ok first)
  node_done u makes left links copy node one two three names live is_copy copies_as w1 w2 w3 w4 =
      let l : inner_lists node.fields.contents ≡ lists = sym (lists_are ∙ ap inner_of_found live) in
      let v1 = subst (λ (i : InnerLists). whole_walk old Plain (n ∷ []) i.first 1 H ≡ Ok one) l w1 in
      let v2 = subst (λ (i : InnerLists). whole_walk old Plain one i.second 1 H ≡ Ok two) l w2 in
      let v3 = subst (λ (i : InnerLists). whole_walk old Plain two i.third 1 H ≡ Ok three) l w3 in
      let all : AllLive old names = all_live old n node one two three names lists next live v1 v2 v3 w4 in
      let at : first ≡ old.next = (copied_is old h1 n first node live step).0 in
      let made : h2 ≡ bare old names = makes old n one two three names lawful (first_made old h1 n first node live step) v1 v2 v3 w4 in
      (at, fits old names lawful all (subst IsLawful made left), links old copy n node one two three names lawful all at made live (sym l) is_copy copies_as v1 v2 v3 w4)

  pub node_stopped : (e : Fail Trouble) → MakesRest h1 h2 lists next (Err e) → IsLawful h2 → FreesRun h2 new first → CopiesNode old new n next (Err e)
  node_stopped e makes left frees copy node one two three names live is_copy copies_as w1 w2 w3 w4 =
      let l : inner_lists node.fields.contents ≡ lists = sym (lists_are ∙ ap inner_of_found live) in
      let v1 = subst (λ (i : InnerLists). whole_walk old Plain (n ∷ []) i.first 1 H ≡ Ok one) l w1 in
      let v2 = subst (λ (i : InnerLists). whole_walk old Plain one i.second 1 H ≡ Ok two) l w2 in
      let v3 = subst (λ (i : InnerLists). whole_walk old Plain two i.third 1 H ≡ Ok three) l w3 in
      let all : AllLive old names = all_live old n node one two three names lists next live v1 v2 v3 w4 in
      let at : first ≡ old.next = (copied_is old h1 n first node live step).0 in
      unfinished old h2 new copy names e lawful all left (λ made part is. freed_back old h2 new made first lawful part is at frees)
      (makes old n one two three names lawful (first_made old h1 n first node live step) v1 v2 v3 w4)

-- nothing was made
none_made : (old new : Heap) (made : List ℕ) → new ≡ old → new ≡ bare old made → new ≡ moved_on old (length made)
none_made old new made same is =
    let next : old.next ≡ old.next + length made = ap (λ (h : Heap). h.next) (sym same ∙ is) in
    same ∙ (λ i. record old { next = next i })

begins : (heap : Heap) (n : ℕ) (one two three names : List ℕ) (lists : InnerLists) (next : Option ℕ) → whole_walk heap Plain (n ∷ []) lists.first 1 H ≡ Ok one → whole_walk heap Plain one lists.second 1 H ≡ Ok two → whole_walk heap Plain two lists.third 1 H ≡ Ok three
    → whole_walk heap Plain three next 0 H ≡ Ok names → Extends (n ∷ []) names
begins heap n one two three names lists next w1 w2 w3 w4 =
    extends_on (n ∷ []) one names (extends_whole heap (n ∷ []) lists.first 1 one w1)
    (extends_on one two names (extends_whole heap one lists.second 1 two w2) (extends_on two three names (extends_whole heap two lists.third 1 three w3) (extends_whole heap three next 0 names w4)))

kept : (old h1 : Heap) (n : ℕ) (e : Fail Trouble) → Steps {A = ℕ} (Err e) old h1 (copy_one_step n old) → h1 ≡ old
kept old h1 n (Is why) s = s.1
kept old h1 n NoMemory s = s

pub node_refused : (old h1 : Heap) (n : ℕ) (next : Option ℕ) (lists : InnerLists) (e : Fail Trouble) → IsLawful old → lists ≡ inner_at old n → Steps {A = ℕ} (Err e) old h1 (copy_one_step n old) → CopiesNode old h1 n next (Err e)
node_refused old h1 n next lists e lawful lists_are step copy node one two three names live is_copy copies_as w1 w2 w3 w4 =
    let same = kept old h1 n e step in
    let all : AllLive old names = all_live old n node one two three names (inner_lists node.fields.contents) next live w1 w2 w3 w4 in
    unfinished old h1 h1 copy names e lawful all (subst IsLawful (sym same) lawful) (λ made part is. none_made old h1 made same is)
    (copy_refused old old h1 [] n names node e (sym (no_copies old (λ _ node. copy_of node))) (begins old n one two three names (inner_lists node.fields.contents) next w1 w2 w3 w4) live step)
