-- The copy of a list, and of a node with its inner lists, by themselves.
use Rattle.std.proofs.Common.{◌≡◌, ℕ, ◌+◌, ◌-◌, ◌≤◌, ◌<◌, length, List, [], ◌∷◌, ◌++◌, Bool, true, false, cond, Some, None, Ok, Err, refl, sym, ◌∙◌, ap, subst, append_assoc, append-nil, inl, inr, arith}
use Rattle.std.specs.Prelude.{Option, Result, nat_eq, nat_le, is_some, ◌||◌}
use Rattle.std.specs.Option.{option_map}
use Rattle.std.specs.FinMap as map
use Rattle.std.proofs.Math.Nat.{min-le_left, min-le_right, min-eq_left, min-eq_right}
use Rattle.std.proofs.lemmas.Bool.{le-leb as le_test, lt-leb as lt_test, or_left, cases_lt, eqb-true}
use Rattle.std.proofs.lemmas.Bool.Decides.{nat_tests}
use Rattle.ntx_num.specs.Answer.{result_and_then}
use Rattle.ntx_num.specs.Dimension.{max_nodes}
use Rattle.ntx_nodes.specs.Heap.{Heap, IsLawful, is_live, name_limit}
use Rattle.ntx_nodes.specs.Steps.{next_name}
use Rattle.ntx_nodes.specs.Walk.{is_reached, walk, fuel_of, walk_from, plain_walk, tree_walk, inner_lists}
use Rattle.ntx_nodes.specs.Walker.{whole_walk}
use Rattle.ntx_nodes.specs.WalkLaws.{AreFresh, LeadsTo, LeadsOn}
use Rattle.ntx_nodes.specs.declared.fields.Contents.{Contents}
use Rattle.ntx_nodes.specs.declared.fields.Contents.TheVariants as contents
use Rattle.ntx_nodes.specs.declared.kind.ListKind.{ListKind}
use Rattle.ntx_nodes.specs.declared.kind.ListKind.TheVariants.{H}
use Rattle.ntx_nodes.specs.declared.kind.Way.{Way}
use Rattle.ntx_nodes.specs.declared.kind.Way.TheVariants.{Plain}
use Rattle.ntx_nodes.specs.declared.node.Node.{Node}
use Rattle.ntx_nodes.specs.declared.trouble.Trouble.{Trouble}
use Rattle.ntx_nodes.specs.declared.trouble.Trouble.TheVariants.{NodesFull, NamesOut}
use Rattle.ntx_nodes.proofs.Walks.{nat_eq_same, is_reached-append}
use Rattle.ntx_nodes.proofs.Fuel.{Extends, extends_on, fuel_enough}
use Rattle.ntx_nodes.proofs.SoundWalks.{sound_walk}
use Rattle.ntx_lists.specs.Copies.{copy_name, copied_link, copied_lists, with_lists, list_copy, tree_copy, copy_before, with_copies, moved_on, room, why_no_more, Left, copies_left, copy_list_step, copy_tree_step}
use Rattle.ntx_lists.specs.Copying.{AllLive}
use Rattle.ntx_lists.specs.CopyLaws.{names_from, with_name, copies_of, AreCopied, IsListCopy, IsTreeCopy, StopsRightly}
use Rattle.ntx_nodes.specs.declared.inner.InnerLists.{InnerLists}
use Rattle.ntx_lists.proofs.Trees.{three_of, deeper, three_ended, tree_is, tree_live}
use Rattle.ntx_lists.proofs.CopyMaps.{Copier, not_given, copies_below, copy_at, copies_len}
use Rattle.ntx_lists.proofs.CopyNames.{link_at, live_on}
use Rattle.ntx_lists.proofs.Making.{extends_whole}
use Rattle.ntx_lists.proofs.CopyWalks.{lists_alike, Alike, Within, Sim, walk_alike, name_there, copies_length, copies_all}

-- ---- what a call that was done left
pub record Done {A : Type 0} (heap new : Heap) (copy : List ℕ → Copier) (answer a : A) (walk : Result (List ℕ) Trouble) : Type 0 where
  pub names : List ℕ
  pub is : walk ≡ Ok names
  pub answers : answer ≡ a
  pub left : new ≡ with_copies heap (copy names) names

done_case : {A : Type 0} (heap new : Heap) (copy : List ℕ → Copier) (answer a : A) (names : List ℕ) (b : Bool) → cond {A = Left A} b (Ok answer, with_copies heap (copy names) names) (Err (why_no_more heap), moved_on heap (room heap)) ≡ (Ok a, new) → Done heap new copy answer a (Ok names)
done_case {A} heap new copy answer a names true e =
    let x : ◌≡◌ {A = Result A Trouble} (Ok answer) (Ok a) = ap (λ p. p.0) e in
    record { names = names; is = refl; answers = cc; left = sym (ap (λ p. p.1) e) }
done_case {A} heap new copy answer a names false e = let x : ◌≡◌ {A = Result A Trouble} (Err (why_no_more heap)) (Ok a) = ap (λ p. p.0) e in cc

pub done : {A : Type 0} (heap new : Heap) (copy : List ℕ → Copier) (answer a : A) (walk : Result (List ℕ) Trouble) → copies_left heap copy answer walk ≡ (Ok a, new) → Done heap new copy answer a walk
done heap new copy answer a (Ok names) e = done_case heap new copy answer a names (nat_le (length names) (room heap)) e
done {A} heap new copy answer a (Err why) e = let x : ◌≡◌ {A = Result A Trouble} (Err why) (Ok a) = ap (λ p. p.0) e in cc

pub are_copied : (heap : Heap) (copy : Copier) (names : List ℕ) → IsLawful heap → AllLive heap names → AreCopied heap (with_copies heap copy names) copy names
are_copied heap copy names lawful live = record {
  copies = λ b n rest node is here. ap (λ y. map.get (with_copies heap copy y).nodes (heap.next + length b)) is ∙ copy_at heap copy b n rest node (heap.next + length b) refl here;
  apart = λ q more. ap is_some (not_given heap q lawful more);
  kept = λ q less. copies_below heap copy names q less;
  count = copies_len heap copy names lawful live;
  next = refl;
}

none_live : (heap : Heap) → AllLive heap []
none_live heap n e = cc

-- ---- the copy of a list
within_none : (names : List ℕ) → Within names [] []
within_none names = record { inside = λ q e. cc; begun = λ q e. e }

there : (heap : Heap) (copy : Copier) (names : List ℕ) (n : ℕ) (node : Node) → is_reached names n ≡ true → map.get heap.nodes n ≡ Some node → (c : ℕ) × (copy_name heap.next names n ≡ Some c) × (map.get (with_copies heap copy names).nodes c ≡ Some (copy n node))
there heap copy names n node reached live =
    let t = name_there heap.next names n reached in
    let p = t.0 in
    (heap.next + length p.before, t.1, ap (λ y. map.get (with_copies heap copy y).nodes (heap.next + length p.before)) p.is ∙ copy_at heap copy p.before n p.rest node (heap.next + length p.before) refl live)

list_alike : (heap : Heap) (head : Option ℕ) (names : List ℕ) → plain_walk heap head ≡ Ok names → Alike heap (with_copies heap (list_copy heap.next names) names) heap.next names []
list_alike heap head names e =
    let s = sound_walk heap Plain [] head 0 H names e in
    record {
      copies = λ n node reached _ live. (
          let t = there heap (list_copy heap.next names) names n node reached live in
          (t.0, t.1, t.2, s.closed n node (subst (λ x. is_reached x n ≡ true) s.added reached) live)
          );
    }

more_fuel : (heap : Heap) (copy : Copier) (names : List ℕ) → IsLawful heap → AllLive heap names → fuel_of heap + length names ≡ fuel_of (with_copies heap copy names)
more_fuel heap copy names lawful live =
    let len : map.len (with_copies heap copy names).nodes ≡ map.len heap.nodes + length names = copies_len heap copy names lawful live in
    omega arith

pub list_copied : (heap : Heap) (head : Option ℕ) (names : List ℕ) → IsLawful heap → plain_walk heap head ≡ Ok names → IsListCopy heap (with_copies heap (list_copy heap.next names) names) head (option_map (λ _. heap.next) head) names
list_copied heap head names lawful e =
    let new : Heap = with_copies heap (list_copy heap.next names) names in
    let s = sound_walk heap Plain [] head 0 H names e in
    let live : AllLive heap names = live_on heap [] head 0 names (none_live heap) e in
    let at : heap.next ≡ heap.next + 0 = omega arith in
    let begins : copied_link heap.next names head ≡ option_map (λ _. heap.next) head = link_at heap heap.next heap.next [] head 0 names [] names e (sym (append-nil names)) at in
    let sims : (way : Way) (k : ListKind) (reached : List ℕ) → walk_from heap way head k ≡ Ok reached → Sim heap.next names [] reached (walk new way (fuel_of heap + length names) [] (copied_link heap.next names head) 0 k) =
    λ way k reached x. walk_alike heap new heap.next names [] (list_alike heap head names e) way (fuel_of heap + length names) [] head 0 k reached (within_none names) s.begins (fuel_enough heap way (length names) [] head 0 k ∙ x) in
    record {
      walks = λ way k reached x. (λ i. walk new way (sym (more_fuel heap (list_copy heap.next names) names lawful live) i) [] (sym begins i) 0 k) ∙ (sims way k reached x).is;
      as_many = λ way k reached x. copies_length heap.next names reached (sims way k reached x).within.inside;
      all = ap (λ x. copies_of heap.next x x) s.added ∙ copies_all heap heap.next [] s.more s.fresh ∙ (λ i. names_from (sym at i) (length (sym s.added i)));
    }

-- ---- the copy of a node with its inner lists
-- each node but the first leads on to those reached
AreClosed : Heap → ℕ → List ℕ → Type 0
AreClosed heap root r = (m : ℕ) (node : Node) → is_reached r m ≡ true → is_reached (root ∷ []) m ≡ false → map.get heap.nodes m ≡ Some node → LeadsOn Plain r node

leads_later : (a b : List ℕ) (to : Option ℕ) → Extends a b → LeadsTo a to → LeadsTo b to
leads_later a b to x h m e = ap (λ y. is_reached y m) x.is ∙ is_reached-append a x.more m ∙ or_left (is_reached a m) (is_reached x.more m) (h m e)

on_later : (a b : List ℕ) (node : Node) → Extends a b → LeadsOn Plain a node → LeadsOn Plain b node
on_later a b node x l = record { first = leads_later a b _ x l.first; second = leads_later a b _ x l.second; third = leads_later a b _ x l.third; next = leads_later a b _ x l.next }

closed_on : (heap : Heap) (root : ℕ) (r names : List ℕ) (to : Option ℕ) (d : ℕ) → AreClosed heap root r → whole_walk heap Plain r to d H ≡ Ok names → AreClosed heap root names
unfolding AreClosed
closed_on heap root r names to d closed e m node reached other live =
    let s = sound_walk heap Plain r to d H names e in
    elim (is_reached r m) as (λ b. is_reached r m ≡ b → (b || is_reached s.more m) ≡ true → LeadsOn Plain names node) [
      | true ↦ λ x _. on_later r names node (record { more = s.more; is = s.added }) (closed m node x other live)
      | false ↦ λ _ x. s.closed m node x live
    ] refl (sym (ap (λ y. is_reached y m) s.added ∙ is_reached-append r s.more m) ∙ reached)

closed_first : (heap : Heap) (root : ℕ) → AreClosed heap root (root ∷ [])
unfolding AreClosed
closed_first heap root m node reached other live = cc

or_false : (a b : Bool) → (a || b) ≡ false → a ≡ false
or_false true b e = cc
or_false false b e = refl

tree_alike : (heap : Heap) (n : ℕ) (names : List ℕ) → AreClosed heap n names → Alike heap (with_copies heap (tree_copy n heap.next names) names) heap.next names (n ∷ [])
unfolding AreClosed
tree_alike heap n names closed = record {
  copies = λ m node reached other live. (
      let t = there heap (tree_copy n heap.next names) names m node reached live in
      (t.0, t.1, t.2 ∙ ap (λ b. Some (copy_before heap.next names (cond b None node.fields.next) node)) (or_false (nat_eq m n) false other), closed m node reached other live)
      );
}

within_first : (names : List ℕ) (n : ℕ) → is_reached names n ≡ true → Within names (n ∷ []) (n ∷ [])
within_first names n here = record {
  inside = λ q e. elim (nat_eq q n) as (λ b. nat_eq q n ≡ b → (b || false) ≡ true → is_reached names q ≡ true) [
    | true ↦ λ x _. subst (λ z. is_reached names z ≡ true) (sym (eqb-true q n x)) here
    | false ↦ λ _ f. cc
  ] refl e;
  begun = λ q e. e;
}

-- one list of the node
list_in : (heap : Heap) (n : ℕ) (copy : Copier) (names r reached : List ℕ) (to : Option ℕ) → Alike heap (with_copies heap copy names) heap.next names (n ∷ []) → IsLawful heap → AllLive heap names → Within names (n ∷ []) r → LeadsTo names to → whole_walk heap Plain r to 1 H ≡ Ok reached
    → Sim heap.next names (n ∷ []) reached (whole_walk (with_copies heap copy names) Plain (copies_of heap.next names r) (copied_link heap.next names to) 1 H)
list_in heap n copy names r reached to like lawful live within leads e =
    let new : Heap = with_copies heap copy names in
    let s = walk_alike heap new heap.next names (n ∷ []) like Plain (fuel_of heap + length names) r to 1 H reached within leads (fuel_enough heap Plain (length names) r to 1 H ∙ e) in
    record {
      is = ap (λ t. walk new Plain t (copies_of heap.next names r) (copied_link heap.next names to) 1 H) (sym (more_fuel heap copy names lawful live)) ∙ s.is;
      within = s.within;
    }

begins_in : (heap : Heap) (r names all : List ℕ) (to : Option ℕ) → whole_walk heap Plain r to 1 H ≡ Ok names → Extends names all → LeadsTo all to
begins_in heap r names all to e x = leads_later names all to x (sound_walk heap Plain r to 1 H names e).begins

-- a node of which the first name is its own
record Rooted (heap : Heap) (n : ℕ) (names : List ℕ) : Type 0 where
  node : Node
  live : map.get heap.nodes n ≡ Some node
  one : List ℕ
  two : List ℕ
  first : whole_walk heap Plain (n ∷ []) (inner_lists node.fields.contents).first 1 H ≡ Ok one
  second : whole_walk heap Plain one (inner_lists node.fields.contents).second 1 H ≡ Ok two
  third : whole_walk heap Plain two (inner_lists node.fields.contents).third 1 H ≡ Ok names
  begun : Extends (n ∷ []) one
  on : Extends one two
  off : Extends two names

rooted : (heap : Heap) (n : ℕ) (names : List ℕ) → tree_walk heap n ≡ Ok names → Rooted heap n names
rooted heap n names e =
    let l = tree_live heap n names e in
    let ts = three_ended heap 0 (inner_lists l.0.fields.contents) (n ∷ []) names (sym (tree_is heap n l.0 l.1) ∙ e) in
    record {
      node = l.0;
      live = l.1;
      one = ts.one;
      two = ts.two;
      first = ts.first;
      second = ts.second;
      third = ts.third;
      begun = extends_whole heap (n ∷ []) (inner_lists l.0.fields.contents).first 1 ts.one ts.first;
      on = extends_whole heap ts.one (inner_lists l.0.fields.contents).second 1 ts.two ts.second;
      off = extends_whole heap ts.two (inner_lists l.0.fields.contents).third 1 names ts.third;
    }

first_live : (heap : Heap) (n : ℕ) (node : Node) → map.get heap.nodes n ≡ Some node → AllLive heap (n ∷ [])
first_live heap n node live m e =
    elim (nat_eq m n) as (λ b. nat_eq m n ≡ b → (b || false) ≡ true → is_live heap m ≡ true) [
      | true ↦ λ x _. subst (λ z. is_live heap z ≡ true) (sym (eqb-true m n x)) (ap is_some live)
      | false ↦ λ _ f. cc
    ] refl e

pub tree_names_live : (heap : Heap) (n : ℕ) (names : List ℕ) → tree_walk heap n ≡ Ok names → AllLive heap names
tree_names_live heap n names e =
    let r = rooted heap n names e in
    live_on heap r.two (inner_lists r.node.fields.contents).third 1 names (live_on heap r.one (inner_lists r.node.fields.contents).second 1 r.two (live_on heap (n ∷ []) (inner_lists r.node.fields.contents).first 1 r.one (first_live heap n r.node r.live) r.first) r.second) r.third

fresh_append : (heap : Heap) (r a b : List ℕ) → AreFresh heap r a → AreFresh heap (r ++ a) b → AreFresh heap r (a ++ b)
fresh_append heap r [] b p q = subst (λ x. AreFresh heap x b) (append-nil r) q
fresh_append heap r (n ∷ ns) b p q = (p.0, p.1, fresh_append heap (r ++ n ∷ []) ns b p.2 (subst (λ x. AreFresh heap x b) (sym (append_assoc r (n ∷ []) ns)) q))

fresh_on : (heap : Heap) (r names : List ℕ) (to : Option ℕ) → AreFresh heap [] r → whole_walk heap Plain r to 1 H ≡ Ok names → AreFresh heap [] names
fresh_on heap r names to fresh e =
    let s = sound_walk heap Plain r to 1 H names e in
    subst (AreFresh heap []) (sym s.added) (fresh_append heap [] r s.more fresh s.fresh)

tree_fresh : (heap : Heap) (n : ℕ) (names : List ℕ) → Rooted heap n names → AreFresh heap [] names
tree_fresh heap n names r =
    let begun : AreFresh heap [] (n ∷ []) = (ap is_some r.live, refl, tt) in
    fresh_on heap r.two names (inner_lists r.node.fields.contents).third (fresh_on heap r.one r.two (inner_lists r.node.fields.contents).second (fresh_on heap (n ∷ []) r.one (inner_lists r.node.fields.contents).first begun r.first) r.second) r.third

extends_self : (a : List ℕ) → Extends a a
extends_self a = record { more = []; is = sym (append-nil a) }

pub tree_copied : (heap : Heap) (n : ℕ) (names : List ℕ) → IsLawful heap → tree_walk heap n ≡ Ok names → IsTreeCopy heap (with_copies heap (tree_copy n heap.next names) names) heap.next names
tree_copied heap n names lawful e =
    let copy : Copier = tree_copy n heap.next names in
    let new : Heap = with_copies heap copy names in
    let r = rooted heap n names e in
    let lists : InnerLists = inner_lists r.node.fields.contents in
    let live : AllLive heap names = tree_names_live heap n names e in
    let closed = closed_on heap n r.two names lists.third 1 (closed_on heap n r.one r.two lists.second 1 (closed_on heap n (n ∷ []) r.one lists.first 1 (closed_first heap n) r.first) r.second) r.third in
    let like = tree_alike heap n names closed in
    let x = extends_on (n ∷ []) r.one names r.begun (extends_on r.one r.two names r.on r.off) in
    let here : is_reached names n ≡ true = ap (λ y. is_reached y n) x.is ∙ ap (λ b. b || is_reached x.more n) (nat_eq_same n) in
    let s1 = list_in heap n copy names (n ∷ []) r.one lists.first like lawful live (within_first names n here) (begins_in heap (n ∷ []) r.one names lists.first r.first (extends_on r.one r.two names r.on r.off)) r.first in
    let s2 = list_in heap n copy names r.one r.two lists.second like lawful live s1.within (begins_in heap r.one r.two names lists.second r.second r.off) r.second in
    let s3 = list_in heap n copy names r.two names lists.third like lawful live s2.within (begins_in heap r.two names names lists.third r.third (extends_self names)) r.third in
    let at : heap.next ≡ heap.next + 0 = omega arith in
    let name : copy_name heap.next names n ≡ Some heap.next = ap (λ y. copy_name heap.next y n) x.is ∙ ap (λ b. cond b (Some heap.next) (copy_name (heap.next + 1) x.more n)) (nat_eq_same n) in
    let first : copies_of heap.next names (n ∷ []) ≡ heap.next ∷ [] = ap (λ o. with_name o []) name in
    let there : map.get new.nodes heap.next ≡ Some (copy n r.node) = ap (λ y. map.get (with_copies heap copy y).nodes heap.next) x.is ∙ copy_at heap copy [] n x.more r.node heap.next at r.live in
    let f = deeper new 0 in
    let copied : InnerLists = copied_lists heap.next names lists in
    tree_is new heap.next (copy n r.node) there
    ∙ ap (three_of f (heap.next ∷ [])) (lists_alike heap.next names r.node.fields.contents)
    ∙ ap (λ y. three_of f y copied) (sym first)
    ∙ ap (λ y. result_and_then y (λ a. result_and_then (f a copied.second H) (λ b. f b copied.third H))) s1.is
    ∙ ap (λ y. result_and_then y (λ b. f b copied.third H)) s2.is
    ∙ s3.is
    ∙ ap Ok (copies_all heap heap.next [] names (tree_fresh heap n names r) ∙ ap (λ y. names_from y (length names)) (sym at))

-- ---- where copying stops
next_case : (heap : Heap) (full out : Bool) → nat_le max_nodes (map.len heap.nodes) ≡ full → nat_le name_limit heap.next ≡ out → next_name heap ≡ cond full (Err NodesFull) (cond out (Err NamesOut) (Ok heap.next))
next_case heap full out f o = λ i. cond (f i) (Err NodesFull) (cond (o i) (Err NamesOut) (Ok heap.next))

pub stops_rightly : (heap : Heap) (copy : Copier) (made : List ℕ) → IsLawful heap → AllLive heap made → StopsRightly heap (with_copies heap copy made) (length made)
stops_rightly heap copy made lawful live =
    let new : Heap = with_copies heap copy made in
    let len : map.len (with_copies heap copy made).nodes ≡ map.len heap.nodes + length made = copies_len heap copy made lawful live in
    let few : map.len heap.nodes ≤ max_nodes = lawful.few in
    let low : heap.next ≤ name_limit = lawful.next in
    record {
      goes = λ less. (
          let a : room heap ≤ max_nodes - map.len heap.nodes = min-le_left (max_nodes - map.len heap.nodes) (name_limit - heap.next) in
          let b : room heap ≤ name_limit - heap.next = min-le_right (max_nodes - map.len heap.nodes) (name_limit - heap.next) in
          next_case new false false (lt_test max_nodes (map.len (with_copies heap copy made).nodes) (omega arith)) (lt_test name_limit (heap.next + length made) (omega arith))
          );
      stops = λ same. elim (cases_lt (name_limit - heap.next) (max_nodes - map.len heap.nodes)) [
        | inl less ↦
            let some : name_limit - heap.next ≤ max_nodes - map.len heap.nodes = omega arith in
            let at : room heap ≡ name_limit - heap.next = min-eq_right some in
            next_case new false true (lt_test max_nodes (map.len (with_copies heap copy made).nodes) (omega arith)) (le_test name_limit (heap.next + length made) (omega arith))
            ∙ ap (λ t. Err (cond t NodesFull NamesOut)) (sym (lt_test (max_nodes - map.len heap.nodes) (name_limit - heap.next) less))
        | inr more ↦
            let at : room heap ≡ max_nodes - map.len heap.nodes = min-eq_left more in
            next_case new true (nat_le name_limit (heap.next + length made)) (le_test max_nodes (map.len (with_copies heap copy made).nodes) (omega arith)) refl
            ∙ ap (λ t. Err (cond t NodesFull NamesOut)) (sym (le_test (max_nodes - map.len heap.nodes) (name_limit - heap.next) more))
      ];
    }

-- ---- the laws
pub lists_are : (heap new : Heap) (head copy : Option ℕ) → IsLawful heap → copy_list_step head heap ≡ (Ok copy, new) → (names : List ℕ) × (plain_walk heap head ≡ Ok names) × AreCopied heap new (list_copy heap.next names) names × IsListCopy heap new head copy names
lists_are heap new head copy lawful e =
    let d = done {A = Option ℕ} heap new (list_copy heap.next) (option_map (λ _. heap.next) head) copy (plain_walk heap head) e in
    let live : AllLive heap d.names = live_on heap [] head 0 d.names (none_live heap) d.is in (
      d.names,
      d.is,
      subst (λ x. AreCopied heap x (list_copy heap.next d.names) d.names) (sym d.left) (are_copied heap (list_copy heap.next d.names) d.names lawful live),
      subst (λ x. IsListCopy heap x head copy d.names) (sym d.left) (subst (λ x. IsListCopy heap (with_copies heap (list_copy heap.next d.names) d.names) head x d.names) d.answers (list_copied heap head d.names lawful d.is)),
    )

pub trees_are : (heap new : Heap) (n copy : ℕ) → IsLawful heap → copy_tree_step n heap ≡ (Ok copy, new) → (names : List ℕ) × (tree_walk heap n ≡ Ok names) × AreCopied heap new (tree_copy n heap.next names) names × IsTreeCopy heap new copy names
trees_are heap new n copy lawful e =
    let d = done {A = ℕ} heap new (tree_copy n heap.next) heap.next copy (tree_walk heap n) e in
    let live : AllLive heap d.names = tree_names_live heap n d.names d.is in (
      d.names,
      d.is,
      subst (λ x. AreCopied heap x (tree_copy n heap.next d.names) d.names) (sym d.left) (are_copied heap (tree_copy n heap.next d.names) d.names lawful live),
      subst (λ x. IsTreeCopy heap x copy d.names) (sym d.left) (subst (λ x. IsTreeCopy heap (with_copies heap (tree_copy n heap.next d.names) d.names) x d.names) d.answers (tree_copied heap n d.names lawful d.is)),
    )
