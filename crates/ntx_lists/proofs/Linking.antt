-- Linking copies, in the order of a walk.
use Rattle.std.proofs.Common.{◌≡◌, ℕ, ◌+◌, ◌≤◌, ◌<◌, length, List, [], ◌∷◌, ◌++◌, true, false, Some, None, Ok, refl, sym, ◌∙◌, ap, subst, append_assoc, append-nil, inl, inr, arith}
use Rattle.std.specs.Prelude.{Option, Result, is_some}
use Rattle.std.specs.Option.{option_and_then}
use Rattle.std.specs.Result.{is_err}
use Rattle.std.specs.Cmp.{nat_cmp_total}
use Rattle.std.specs.FinMap as map
use Rattle.std.proofs.lemmas.Bool.{cases_lt}
use Rattle.ntx_num.proofs.Answers.{same_Ok}
use Rattle.ntx_nodes.specs.Heap.{Heap, IsLawful, is_live}
use Rattle.ntx_nodes.specs.Steps.{of_found, put, copy_of, kind_answer}
use Rattle.ntx_nodes.specs.Fields.{kind_of, unlinked}
use Rattle.ntx_nodes.specs.Walk.{is_reached, max_depth, inner_lists}
use Rattle.ntx_nodes.specs.Walker.{whole_walk}
use Rattle.ntx_nodes.specs.declared.fields.Contents.{Contents}
use Rattle.ntx_nodes.specs.declared.fields.Contents.TheVariants as contents
use Rattle.ntx_nodes.specs.declared.kind.Kind.{Kind}
use Rattle.ntx_nodes.specs.declared.kind.ListKind.TheVariants.{H}
use Rattle.ntx_nodes.specs.declared.kind.Way.TheVariants.{Plain}
use Rattle.ntx_nodes.specs.declared.node.Node.{Node}
use Rattle.ntx_nodes.specs.declared.trouble.Trouble.{Trouble}
use Rattle.ntx_nodes.proofs.Fuel.{passes, Extends, extends_on}
use Rattle.ntx_nodes.proofs.WalkSteps.{whole_None}
use Rattle.ntx_lists.specs.Lists.{next_of}
use Rattle.ntx_lists.specs.Survey.{IsLiveLink}
use Rattle.ntx_lists.specs.Trees.{inner_of_found, inner_at}
use Rattle.ntx_lists.specs.Copies.{with_lists, relinked, copied_lists, copied_link, copy_before, list_copy, with_copies}
use Rattle.ntx_lists.specs.Copying.{bare, AllLive, SetsLinks, link_to, Linkable, Linked, Links, LinksRest}
use Rattle.ntx_nodes.specs.declared.inner.InnerLists.{InnerLists}
use Rattle.ntx_lists.proofs.Trees.{not_deep, Three, Split, split}
use Rattle.ntx_lists.proofs.CopyMaps.{Copier, get_same, get_below, get_above, given, copies_below, copies_above, copy_at, copies_stand, length_more}
use Rattle.ntx_lists.proofs.CopyNames.{link_at, place_of, longer, not_reached}
use Rattle.ntx_lists.proofs.Making.{extends_whole, extends_three}

-- ---- one linked after another
pub linked_begun : (final heap : Heap) (first : ℕ) → Linked final heap heap first first
linked_begun final heap first = record { order = omega arith; done = λ q low high. absurd (omega arith); below = λ q h. refl; above = λ q h. refl; next = refl; current = refl }

done_on : (final a b c : Heap) (x y z q : ℕ) → Linked final a b x y → Linked final b c y z → x ≤ q → q < z → map.get c.nodes q ≡ map.get final.nodes q
done_on final a b c x y z q l m low high = elim (cases_lt q y) [ inl less ↦ m.below q less ∙ l.done q low less | inr more ↦ m.done q more high ]

pub linked_on : (final a b c : Heap) (x y z : ℕ) → Linked final a b x y → Linked final b c y z → Linked final a c x z
linked_on final a b c x y z l m =
    let p : x ≤ y = l.order in
    let r : y ≤ z = m.order in
    record {
      order = omega arith;
      done = λ q low high. done_on final a b c x y z q l m low high;
      below = λ q less. m.below q (omega arith) ∙ l.below q less;
      above = λ q more. m.above q more ∙ l.above q (omega arith);
      next = m.next ∙ l.next;
      current = m.current ∙ l.current;
    }

-- ---- the copy of a node, linked
linked_contents : (c : Contents) (lists : InnerLists) → with_lists (unlinked c) lists ≡ with_lists c lists
linked_contents (contents.Hlist b) lists = refl
linked_contents (contents.Vlist b) lists = refl
linked_contents (contents.Disc d) lists = refl
linked_contents (contents.Rule x) lists = refl
linked_contents (contents.Glue x) lists = refl
linked_contents (contents.Kern x) lists = refl
linked_contents (contents.Penalty x) lists = refl
linked_contents (contents.Glyph x) lists = refl

linked_node : (node : Node) (lists : InnerLists) (next : Option ℕ) → relinked (copy_of node) lists next ≡ relinked node lists next
linked_node node lists next = λ i. record { fields = record { subtype = node.fields.subtype; next = next; contents = linked_contents node.fields.contents lists i }; attributes = node.attributes }

-- the links of a copy, as the walk comes to them
abbrev pub links_at : InnerLists → ℕ → ℕ → ℕ → InnerLists
links_at lists a b c = record { first = link_to lists.first a; second = link_to lists.second b; third = link_to lists.third c; kind = lists.kind }

-- ---- a node whose copy is to be linked
pub record Copied (whole : Heap) (copy : Copier) (all mid : List ℕ) (n : ℕ) (node : Node) (lists : InnerLists) (next : Option ℕ) (h0 : Heap) (c : ℕ) : Type 0 where
  pub lawful : IsLawful whole
  pub live : AllLive whole all
  pub node_live : map.get whole.nodes n ≡ Some node
  pub lists_are : lists ≡ inner_lists node.fields.contents
  pub is_copy : copy n node ≡ copy_before whole.next all next node
  pub copies : (m : ℕ) (other : Node) → is_reached (mid ++ n ∷ []) m ≡ false → copy m other ≡ list_copy whole.next all m other
  pub at : c ≡ whole.next + length mid
  pub originals : (q : ℕ) → q < whole.next → map.get h0.nodes q ≡ map.get whole.nodes q
  pub unlinked : (q : ℕ) → c ≤ q → map.get h0.nodes q ≡ map.get (bare whole all).nodes q

-- the walk from it
pub record Walked (whole : Heap) (all mid : List ℕ) (n d dn : ℕ) (lists : InnerLists) (next : Option ℕ) (inside names : List ℕ) : Type 0 where
  pub three : Three whole d lists (mid ++ n ∷ []) inside
  pub after : whole_walk whole Plain inside next dn H ≡ Ok names
  pub rest : List ℕ
  pub is : all ≡ names ++ rest

regroup : (all a b rest : List ℕ) (x : Extends a b) → all ≡ b ++ rest → all ≡ a ++ (x.more ++ rest)
regroup all a b rest x is = is ∙ ap (λ y. y ++ rest) x.is ∙ append_assoc a x.more rest

-- what its lists want
lists_linkable : (whole : Heap) (copy : Copier) (all mid : List ℕ) (n d dn c : ℕ) (node : Node) (lists : InnerLists) (next : Option ℕ) (inside names r to : List ℕ) (h0 h : Heap) (first : ℕ)
    → Copied whole copy all mid n node lists next h0 c → Walked whole all mid n d dn lists next inside names → Extends (mid ++ n ∷ []) r → Extends to inside → first ≡ whole.next + length r
    → Linked (with_copies whole copy all) h0 h (c + 1) first → Linkable whole copy all r to h first
lists_linkable whole copy all mid n d dn c node lists next inside names r to h0 h first k w begins goes at l =
    let x : Extends to names = extends_on to inside names goes (extends_whole whole inside next dn names w.after) in
    let order : c + 1 ≤ first = l.order in
    let place : c ≡ whole.next + length mid = k.at in
    record {
      lawful = k.lawful;
      live = k.live;
      rest = x.more ++ w.rest;
      is = regroup all to names w.rest x w.is;
      copies = λ m other new. k.copies m other (not_reached (mid ++ n ∷ []) r m begins new);
      at = at;
      originals = λ q less. l.below q (omega arith) ∙ k.originals q less;
      unlinked = λ q more. l.above q more ∙ k.unlinked q (omega arith);
    }

extends_self : (a : List ℕ) → Extends a a
extends_self a = record { more = []; is = sym (append-nil a) }

-- what stands when its lists have been linked
pub record Inside (whole : Heap) (copy : Copier) (all mid : List ℕ) (n : ℕ) (inside one two : List ℕ) (h0 h3 : Heap) (c second third after : ℕ) : Type 0 where
  pub second_at : second ≡ whole.next + length one
  pub third_at : third ≡ whole.next + length two
  pub after_at : after ≡ whole.next + length inside
  pub linked : Linked (with_copies whole copy all) h0 h3 (c + 1) after

lists_linked : (whole : Heap) (copy : Copier) (all mid : List ℕ) (n d dn c second third after : ℕ) (node : Node) (lists : InnerLists) (next : Option ℕ) (inside names : List ℕ) (h0 h1 h2 h3 : Heap)
    → Copied whole copy all mid n node lists next h0 c → (w : Walked whole all mid n d dn lists next inside names)
    → Links h0 h1 lists.first (d + 1) (c + 1) second → Links h1 h2 lists.second (d + 1) second third → Links h2 h3 lists.third (d + 1) third after
    → Inside whole copy all mid n inside w.three.one w.three.two h0 h3 c second third after
lists_linked whole copy all mid n d dn c second third after node lists next inside names h0 h1 h2 h3 k w l1 l2 l3 =
    let final : Heap = with_copies whole copy all in
    let r0 : List ℕ = mid ++ n ∷ [] in
    let t = w.three in
    let place : c ≡ whole.next + length mid = k.at in
    let more : length r0 ≡ length mid + 1 = length_more mid n in
    let at0 : c + 1 ≡ whole.next + length r0 = omega arith in
    let x1 = extends_whole whole r0 lists.first (d + 1) t.one t.first in
    let x2 = extends_whole whole t.one lists.second (d + 1) t.two t.second in
    let x3 = extends_whole whole t.two lists.third (d + 1) inside t.third in
    let a = l1 whole copy all r0 t.one (lists_linkable whole copy all mid n d dn c node lists next inside names r0 t.one h0 h0 (c + 1) k w (extends_self r0) (extends_on t.one t.two inside x2 x3) at0 (linked_begun final h0 (c + 1))) t.first in
    let b = l2 whole copy all t.one t.two (lists_linkable whole copy all mid n d dn c node lists next inside names t.one t.two h0 h1 second k w x1 x3 a.0 a.1) t.second in
    let ab = linked_on final h0 h1 h2 (c + 1) second third a.1 b.1 in
    let e = l3 whole copy all t.two inside (lists_linkable whole copy all mid n d dn c node lists next inside names t.two inside h0 h2 third k w (extends_on r0 t.one t.two x1 x2) (extends_self inside) b.0 ab) t.third in
    record { second_at = a.0; third_at = b.0; after_at = e.0; linked = linked_on final h0 h2 h3 (c + 1) third after ab e.1 }

-- each copy from this on is live
stands : (whole : Heap) (copy : Copier) (all : List ℕ) (h0 h3 : Heap) (c after q : ℕ) → AllLive whole all → ((p : ℕ) → c ≤ p → map.get h0.nodes p ≡ map.get (bare whole all).nodes p) → Linked (with_copies whole copy all) h0 h3 (c + 1) after
    → whole.next ≤ c → c + 1 ≤ q → q < whole.next + length all → is_live h3 q ≡ true
stands whole copy all h0 h3 c after q live unlinked l begins low high =
    elim (cases_lt q after) [
      | inl less ↦ ap is_some (l.done q low less) ∙ copies_stand whole copy all q live (omega arith) high
      | inr more ↦ ap is_some (l.above q more ∙ unlinked q (omega arith)) ∙ copies_stand whole (λ _ node. copy_of node) all q live (omega arith) high
    ]

-- so a link to a copy is live
link_stands : (whole : Heap) (copy : Copier) (all : List ℕ) (h0 h3 : Heap) (c after x d : ℕ) (to : Option ℕ) (r names rest : List ℕ) → AllLive whole all → ((p : ℕ) → c ≤ p → map.get h0.nodes p ≡ map.get (bare whole all).nodes p)
    → Linked (with_copies whole copy all) h0 h3 (c + 1) after → whole.next ≤ c → x ≡ whole.next + length r → c + 1 ≤ x → whole_walk whole Plain r to d H ≡ Ok names → all ≡ names ++ rest → IsLiveLink h3 (link_to to x)
link_stands whole copy all h0 h3 c after x d None r names rest live unlinked l begins at low e is m here = cc
link_stands whole copy all h0 h3 c after x d (Some k) r names rest live unlinked l begins at low e is m here =
    let same : x ≡ m = cc in
    let place : length r < length all = place_of whole r k d names rest all e is in
    subst (λ y. is_live h3 y ≡ true) same (stands whole copy all h0 h3 c after x live unlinked l begins low (omega arith))

-- the node itself
pub one_linked : (final h0 h3 h4 : Heap) (c after : ℕ) (node : Node) → Linked final h0 h3 (c + 1) after → h4 ≡ put h3 c node → map.get final.nodes c ≡ Some node → Linked final h0 h4 c after
one_linked final h0 h3 h4 c after node l is here =
    let order : c + 1 ≤ after = l.order in
    subst (λ (x : Heap). Linked final h0 x c after) (sym is) (record {
      order = omega arith;
      done = λ q low high. elim (cases_lt c q) [
        | inl less ↦ get_above h3.nodes c node q less ∙ l.done q (omega arith) high
        | inr more ↦
            let same : q ≡ c = omega arith in
            ap (map.get (map.insert h3.nodes c node)) same ∙ get_same h3.nodes c node ∙ sym here ∙ sym (ap (map.get final.nodes) same)
      ];
      below = λ q less. get_below h3.nodes c node q less ∙ l.below q (omega arith);
      above = λ q more. get_above h3.nodes c node q (omega arith) ∙ l.above q more;
      next = l.next;
      current = l.current;
    })

-- where its copy stands
here_in : (all mid : List ℕ) (n : ℕ) (names rest : List ℕ) → (x : Extends (mid ++ n ∷ []) names) → all ≡ names ++ rest → all ≡ mid ++ n ∷ (x.more ++ rest)
here_in all mid n names rest x is = is ∙ ap (λ y. y ++ rest) (x.is ∙ append_assoc mid (n ∷ []) x.more) ∙ append_assoc mid (n ∷ x.more) rest

pub link_turn : (whole : Heap) (copy : Copier) (all mid : List ℕ) (n d dn c second third after : ℕ) (node : Node) (lists copies : InnerLists) (next to : Option ℕ) (inside names : List ℕ) (h0 h1 h2 h3 h4 : Heap)
    → Copied whole copy all mid n node lists next h0 c → Walked whole all mid n d dn lists next inside names
    → Links h0 h1 lists.first (d + 1) (c + 1) second → Links h1 h2 lists.second (d + 1) second third → Links h2 h3 lists.third (d + 1) third after
    → copies ≡ links_at lists (c + 1) second third → to ≡ link_to next after → SetsLinks h3 h4 c copies to
    → (after ≡ whole.next + length inside) × Linked (with_copies whole copy all) h0 h4 c after
link_turn whole copy all mid n d dn c second third after node lists copies next to inside names h0 h1 h2 h3 h4 k w l1 l2 l3 copies_are to_is sets =
    let final : Heap = with_copies whole copy all in
    let i = lists_linked whole copy all mid n d dn c second third after node lists next inside names h0 h1 h2 h3 k w l1 l2 l3 in
    let t = w.three in
    let r0 : List ℕ = mid ++ n ∷ [] in
    let place : c ≡ whole.next + length mid = k.at in
    let more : length r0 ≡ length mid + 1 = length_more mid n in
    let at0 : c + 1 ≡ whole.next + length r0 = omega arith in
    let begins : whole.next ≤ c = omega arith in
    let x1 = extends_whole whole r0 lists.first (d + 1) t.one t.first in
    let x2 = extends_whole whole t.one lists.second (d + 1) t.two t.second in
    let x3 = extends_whole whole t.two lists.third (d + 1) inside t.third in
    let x4 = extends_whole whole inside next dn names w.after in
    let x34 = extends_on t.two inside names x3 x4 in
    let x234 = extends_on t.one t.two names x2 x34 in
    let x01 : length r0 ≤ length t.one = longer r0 t.one x1 in
    let x12 : length t.one ≤ length t.two = longer t.one t.two x2 in
    let x23 : length t.two ≤ length inside = longer t.two inside x3 in
    let second_at : second ≡ whole.next + length t.one = i.second_at in
    let third_at : third ≡ whole.next + length t.two = i.third_at in
    let after_at : after ≡ whole.next + length inside = i.after_at in
    let is1 = regroup all t.one names w.rest x234 w.is in
    let is2 = regroup all t.two names w.rest x34 w.is in
    let is3 = regroup all inside names w.rest x4 w.is in
    let live1 : IsLiveLink h3 (link_to lists.first (c + 1)) = link_stands whole copy all h0 h3 c after (c + 1) (d + 1) lists.first r0 t.one (x234.more ++ w.rest) k.live k.unlinked i.linked begins at0 (omega arith) t.first is1 in
    let live2 : IsLiveLink h3 (link_to lists.second second) = link_stands whole copy all h0 h3 c after second (d + 1) lists.second t.one t.two (x34.more ++ w.rest) k.live k.unlinked i.linked begins second_at (omega arith) t.second is2 in
    let live3 : IsLiveLink h3 (link_to lists.third third) = link_stands whole copy all h0 h3 c after third (d + 1) lists.third t.two inside (x4.more ++ w.rest) k.live k.unlinked i.linked begins third_at (omega arith) t.third is3 in
    let live4 : IsLiveLink h3 (link_to next after) = link_stands whole copy all h0 h3 c after after dn next inside names w.rest k.live k.unlinked i.linked begins after_at (omega arith) w.after w.is in
    let x0 = extends_on r0 t.one names x1 x234 in
    let stood : all ≡ mid ++ n ∷ (x0.more ++ w.rest) = here_in all mid n names w.rest x0 w.is in
    let was : map.get h3.nodes c ≡ Some (copy_of node) =
    i.linked.below c (omega arith) ∙ k.unlinked c (omega arith) ∙ ap (λ y. map.get (bare whole y).nodes c) stood ∙ copy_at whole (λ _ node. copy_of node) mid n (x0.more ++ w.rest) node c place k.node_live in
    let left : h4 ≡ put h3 c (relinked (copy_of node) (links_at lists (c + 1) second third) (link_to next after)) =
    subst (λ x. SetsLinks h3 h4 c (links_at lists (c + 1) second third) x) to_is (subst (λ x. SetsLinks h3 h4 c x to) copies_are sets) (copy_of node) was (live1, live2, live3) live4 in
    let links : links_at lists (c + 1) second third ≡ copied_lists whole.next all lists = λ j. record {
      first = sym (link_at whole whole.next (c + 1) r0 lists.first (d + 1) t.one (x234.more ++ w.rest) all t.first is1 at0) j;
      second = sym (link_at whole whole.next second t.one lists.second (d + 1) t.two (x34.more ++ w.rest) all t.second is2 second_at) j;
      third = sym (link_at whole whole.next third t.two lists.third (d + 1) inside (x4.more ++ w.rest) all t.third is3 third_at) j;
      kind = lists.kind;
    } in
    let follows : link_to next after ≡ copied_link whole.next all next = sym (link_at whole whole.next after inside next dn names w.rest all w.after w.is after_at) in
    let made : relinked (copy_of node) (links_at lists (c + 1) second third) (link_to next after) ≡ copy n node =
    linked_node node (links_at lists (c + 1) second third) (link_to next after)
    ∙ (λ j. relinked node (links j) (follows j))
    ∙ ap (λ l. relinked node (copied_lists whole.next all l) (copied_link whole.next all next)) k.lists_are
    ∙ sym k.is_copy in
    let there : map.get final.nodes c ≡ Some (copy n node) = ap (λ y. map.get (with_copies whole copy y).nodes c) stood ∙ copy_at whole copy mid n (x0.more ++ w.rest) node c place k.node_live in
    (after_at, one_linked final h0 h3 h4 c after (copy n node) i.linked (left ∙ ap (put h3 c) made) there)

-- ---- links on the way
-- from the head to a list that is left
abbrev pub LinksOn : Heap → Heap → Option ℕ → Option ℕ → ℕ → ℕ → ℕ → Type 0
LinksOn old new head at depth first last =
    (whole : Heap) (copy : Copier) (all before names : List ℕ) → Linkable whole copy all before names old first → whole_walk whole Plain before head depth H ≡ Ok names
    → (mid : List ℕ) × (whole_walk whole Plain mid at depth H ≡ Ok names) × (last ≡ whole.next + length mid) × Extends before mid × Linked (with_copies whole copy all) old new first last

pub links_begun : (heap : Heap) (head : Option ℕ) (depth first : ℕ) → LinksOn heap heap head head depth first first
links_begun heap head depth first whole copy all before names k e = (before, e, k.at, extends_self before, linked_begun (with_copies whole copy all) heap first)

pub links_ended : (old new : Heap) (head : Option ℕ) (depth first last : ℕ) → LinksOn old new head None depth first last → Links old new head depth first last
links_ended old new head depth first last links whole copy all before names k e =
    let f = links whole copy all before names k e in
    let same : f.0 ≡ names = same_Ok f.0 names (sym (whole_None whole Plain f.0 depth H) ∙ f.1) in
    (f.2 ∙ ap (λ x. whole.next + length x) same, f.4)

-- the node at which the walk is, and its copy
pub record Found (whole : Heap) (copy : Copier) (all mid : List ℕ) (n depth c : ℕ) (names : List ℕ) (h : Heap) : Type 0 where
  pub split : Split whole mid n depth names
  pub live : map.get whole.nodes n ≡ Some split.node
  pub there : map.get h.nodes n ≡ Some split.node
  pub shallow : depth ≤ max_depth
  pub copied : map.get h.nodes c ≡ Some (copy_of split.node)
  pub new : is_reached mid n ≡ false

pub found : (whole : Heap) (copy : Copier) (all before mid names : List ℕ) (old h : Heap) (first n depth c : ℕ) → Linkable whole copy all before names old first → whole_walk whole Plain mid (Some n) depth H ≡ Ok names → c ≡ whole.next + length mid
    → Extends before mid → Linked (with_copies whole copy all) old h first c → Found whole copy all mid n depth c names h
found whole copy all before mid names old h first n depth c k e at x l =
    let s = split whole mid n depth names e in
    let p = passes whole Plain mid n depth H s.node s.here in
    let x0 = extends_on (mid ++ n ∷ []) s.inside names (extends_three whole depth (inner_lists s.node.fields.contents) (mid ++ n ∷ []) s.inside s.lists) (extends_whole whole s.inside s.node.fields.next depth names s.after) in
    let stood : all ≡ mid ++ n ∷ (x0.more ++ k.rest) = here_in all mid n names k.rest x0 k.is in
    let low : n < whole.next = given whole n s.node k.lawful p.live in
    let first_at : first ≡ whole.next + length before = k.at in
    let order : first ≤ c = l.order in
    record {
      split = s;
      live = p.live;
      there = l.below n (omega arith) ∙ k.originals n low ∙ p.live;
      shallow = not_deep depth p.shallow;
      copied = l.above c (omega arith) ∙ k.unlinked c order ∙ ap (λ y. map.get (bare whole y).nodes c) stood ∙ copy_at whole (λ _ node. copy_of node) mid n (x0.more ++ k.rest) s.node c at p.live;
      new = p.new;
    }

pub links_turn : (old h h1 h2 h3 h4 : Heap) (head at next to : Option ℕ) (n depth first c second third after : ℕ) (lists copies : InnerLists) → LinksOn old h head at depth first c → at ≡ Some n → lists ≡ inner_at h n → next ≡ next_of h n
    → Links h h1 lists.first (depth + 1) (c + 1) second → Links h1 h2 lists.second (depth + 1) second third → Links h2 h3 lists.third (depth + 1) third after
    → copies ≡ links_at lists (c + 1) second third → to ≡ link_to next after → SetsLinks h3 h4 c copies to → LinksOn old h4 head next depth first after
links_turn old h h1 h2 h3 h4 head at next to n depth first c second third after lists copies links comes lists_is next_is l1 l2 l3 copies_are to_is sets whole copy all before names k e =
    let f = links whole copy all before names k e in
    let mid : List ℕ = f.0 in
    let x = found whole copy all before mid names old h first n depth c k (subst (λ o. whole_walk whole Plain mid o depth H ≡ Ok names) comes f.1) f.2 f.3 f.4 in
    let l : inner_lists x.split.node.fields.contents ≡ lists = sym (lists_is ∙ ap inner_of_found x.there) in
    let follows : x.split.node.fields.next ≡ next = sym (next_is ∙ ap (option_and_then (λ (node : Node). node.fields.next)) x.there) in
    let order : first ≤ c = f.4.order in
    let first_at : first ≡ whole.next + length before = k.at in
    let copied : Copied whole copy all mid n x.split.node lists next h c = record {
      lawful = k.lawful;
      live = k.live;
      node_live = x.live;
      lists_are = sym l;
      is_copy = k.copies n x.split.node (not_reached before mid n f.3 x.new) ∙ ap (λ o. copy_before whole.next all o x.split.node) follows;
      copies = λ m other new. k.copies m other (not_reached before mid m f.3 (not_reached mid (mid ++ n ∷ []) m (record { more = n ∷ []; is = refl }) new));
      at = f.2;
      originals = λ q less. f.4.below q (omega arith) ∙ k.originals q less;
      unlinked = λ q more. f.4.above q more ∙ k.unlinked q (omega arith);
    } in
    let walked : Walked whole all mid n depth depth lists next x.split.inside names = record {
      three = subst (λ i. Three whole depth i (mid ++ n ∷ []) x.split.inside) l x.split.lists;
      after = subst (λ o. whole_walk whole Plain x.split.inside o depth H ≡ Ok names) follows x.split.after;
      rest = k.rest;
      is = k.is;
    } in
    let t = link_turn whole copy all mid n depth depth c second third after x.split.node lists copies next to x.split.inside names h h1 h2 h3 h4 copied walked l1 l2 l3 copies_are to_is sets in
    let further = extends_on (mid ++ n ∷ []) x.split.inside x.split.inside (extends_three whole depth (inner_lists x.split.node.fields.contents) (mid ++ n ∷ []) x.split.inside x.split.lists) (extends_self x.split.inside) in (
      x.split.inside,
      walked.after,
      t.0,
      extends_on before mid x.split.inside f.3 (extends_on mid (mid ++ n ∷ []) x.split.inside (record { more = n ∷ []; is = refl }) further),
      linked_on (with_copies whole copy all) old h h4 first c after f.4 t.1,
    )

-- where the walk is too deep, or there is no copy, no walk has come to its end
pub links_deep : (old h new : Heap) (head at : Option ℕ) (n depth first c last : ℕ) → LinksOn old h head at depth first c → at ≡ Some n → max_depth < depth → Links old new head depth first last
links_deep old h new head at n depth first c last links comes deep whole copy all before names k e =
    let f = links whole copy all before names k e in
    let x = found whole copy all before f.0 names old h first n depth c k (subst (λ o. whole_walk whole Plain f.0 o depth H ≡ Ok names) comes f.1) f.2 f.3 f.4 in
    let shallow : depth ≤ max_depth = x.shallow in
    absurd (omega arith)

-- a node that is not found
pub not_found : (heap : Heap) (n : ℕ) (r : Result (Kind × ℕ) Trouble) → true ≡ is_err r → r ≡ kind_answer n heap → map.get heap.nodes n ≡ None
not_found heap n r e is =
    elim (map.get heap.nodes n) as (λ o. true ≡ is_err (of_found {A = Kind × ℕ} n (λ (node : Node). Ok (kind_of node.fields.contents, node.fields.subtype)) o) → o ≡ None) [
      | None ↦ λ _. refl
      | Some node ↦ λ x. cc
    ] (e ∙ ap is_err is)

pub links_missing : (old h new : Heap) (head at : Option ℕ) (n depth first c last : ℕ) → LinksOn old h head at depth first c → at ≡ Some n → map.get h.nodes c ≡ None → Links old new head depth first last
links_missing old h new head at n depth first c last links comes missing whole copy all before names k e =
    let f = links whole copy all before names k e in
    let x = found whole copy all before f.0 names old h first n depth c k (subst (λ o. whole_walk whole Plain f.0 o depth H ≡ Ok names) comes f.1) f.2 f.3 f.4 in
    let copied : map.get h.nodes c ≡ Some (copy_of x.split.node) = x.copied in
    cc

-- ---- all copies
same_at : (whole new : Heap) (copy : Copier) (all : List ℕ) (q : ℕ) → IsLawful whole → Linked (with_copies whole copy all) (bare whole all) new whole.next (whole.next + length all) → map.get new.nodes q ≡ map.get (with_copies whole copy all).nodes q
same_at whole new copy all q lawful l =
    elim (cases_lt q whole.next) [
      | inl less ↦ l.below q less ∙ copies_below whole (λ _ node. copy_of node) all q less ∙ sym (copies_below whole copy all q less)
      | inr more ↦ elim (cases_lt q (whole.next + length all)) [
        | inl inside ↦ l.done q more inside
        | inr outside ↦ l.above q outside ∙ copies_above whole (λ _ node. copy_of node) all q lawful outside ∙ sym (copies_above whole copy all q lawful outside)
      ]
    ]

all_linked : (whole old new : Heap) (copy : Copier) (all : List ℕ) → IsLawful whole → old ≡ bare whole all → Linked (with_copies whole copy all) old new whole.next (whole.next + length all) → new ≡ with_copies whole copy all
all_linked whole old new copy all lawful is links =
    let l = subst (λ x. Linked (with_copies whole copy all) x new whole.next (whole.next + length all)) is links in
    let nodes : new.nodes ≡ (with_copies whole copy all).nodes = map.same_map nat_cmp_total map.nat_cmp-IsAntisymmetric _ _ (λ q. same_at whole new copy all q lawful l) in
    λ i. record { next = l.next i; nodes = nodes i; current = l.current i }

pub rest_linked : (old h1 h2 h3 h4 new : Heap) (lists copies : InnerLists) (next to : Option ℕ) (first second third after last : ℕ)
    → Links old h1 lists.first 1 (first + 1) second → Links h1 h2 lists.second 1 second third → Links h2 h3 lists.third 1 third after
    → copies ≡ links_at lists (first + 1) second third → to ≡ link_to next after → SetsLinks h3 h4 first copies to → Links h4 new next 0 after last → LinksRest old new lists next first
rest_linked old h1 h2 h3 h4 new lists copies next to first second third after last l1 l2 l3 copies_are to_is sets l4 whole copy n node one two three all lawful live at is node_live lists_are is_copy copies_as w1 w2 w3 w4 =
    let final : Heap = with_copies whole copy all in
    let at0 : first ≡ whole.next + 0 = omega arith in
    let copied : Copied whole copy all [] n node lists next old first = record {
      lawful = lawful;
      live = live;
      node_live = node_live;
      lists_are = lists_are;
      is_copy = is_copy;
      copies = copies_as;
      at = at0;
      originals = λ q less. ap (λ (x : Heap). map.get x.nodes q) is ∙ copies_below whole (λ _ node. copy_of node) all q less;
      unlinked = λ q more. ap (λ (x : Heap). map.get x.nodes q) is;
    } in
    let walked : Walked whole all [] n 0 0 lists next three all = record { three = record { one = one; two = two; first = w1; second = w2; third = w3 }; after = w4; rest = []; is = sym (append-nil all) } in
    let t = link_turn whole copy all [] n 0 0 first second third after node lists copies next to three all old h1 h2 h3 h4 copied walked l1 l2 l3 copies_are to_is sets in
    let begins = extends_on (n ∷ []) one three (extends_whole whole (n ∷ []) lists.first 1 one w1) (extends_on one two three (extends_whole whole one lists.second 1 two w2) (extends_whole whole two lists.third 1 three w3)) in
    let order : first ≤ after = t.1.order in
    let u = l4 whole copy all three all (record {
      lawful = lawful;
      live = live;
      rest = [];
      is = sym (append-nil all);
      copies = λ m other new. copies_as m other (not_reached (n ∷ []) three m begins new);
      at = t.0;
      originals = λ q less. t.1.below q (omega arith) ∙ copied.originals q less;
      unlinked = λ q more. t.1.above q more ∙ copied.unlinked q (omega arith);
    }) w4 in
    let through = linked_on final old h4 new first after last t.1 u.1 in
    all_linked whole old new copy all lawful is (subst (λ x. Linked final old new x (whole.next + length all)) at (subst (λ x. Linked final old new first x) u.0 through))
