-- Where the walk through all lists ends well, the walk along one list does, and the nodes that its items are measured from were all reached.
use Rattle.std.proofs.Common.{◌≡◌, ℕ, zero, suc, ◌+◌, ◌≤◌, ◌<◌, List, [], ◌∷◌, ◌++◌, Bool, true, false, length, Some, None, Ok, Err, IsOk, refl, sym, ◌∙◌, ap, subst, append_assoc, append-nil, length-append, arith}
use Rattle.std.specs.Prelude.{Option, Result, ◌||◌, sum_by, is_some}
use Rattle.std.specs.List.{All, AllByRecursion}
use Rattle.std.specs.FinMap as map
use Rattle.std.proofs.lemmas.List.Elements.{All-from_recursion, All-nil, All-cons}
use Rattle.std.proofs.lemmas.List.Sums.{sum_by-cons}
use Rattle.ntx_num.specs.Answer.{result_and_then}
use Rattle.ntx_num.specs.Dimension.{max_nodes}
use Rattle.ntx_nodes.specs.Heap.{Heap, IsLawful}
use Rattle.ntx_nodes.specs.Walk.{is_reached, inner_lists, entered, node_reached, fuel_of, flat_walk, checked_walk}
use Rattle.ntx_nodes.specs.Walker.{whole_walk}
use Rattle.ntx_nodes.specs.declared.inner.InnerLists.{InnerLists}
use Rattle.ntx_nodes.specs.WalkLaws.{AreFresh, Sound}
use Rattle.ntx_nodes.specs.declared.kind.ListKind.{ListKind}
use Rattle.ntx_nodes.specs.declared.kind.ListKind.TheVariants.{H}
use Rattle.ntx_nodes.specs.declared.kind.Way.{Way}
use Rattle.ntx_nodes.specs.declared.kind.Way.TheVariants.{Checked, Flat}
use Rattle.ntx_nodes.specs.declared.fields.Contents.{Contents}
use Rattle.ntx_nodes.specs.declared.fields.Contents.TheVariants as contents
use Rattle.ntx_nodes.specs.declared.node.Node.{Node}
use Rattle.ntx_nodes.specs.declared.trouble.Trouble.{Trouble}
use Rattle.std.proofs.lemmas.Bool.{or_left, or_right}
use Rattle.ntx_num.proofs.Answers.{same_Ok, went_Ok}
use Rattle.ntx_nodes.proofs.Fuel.{passes, unreached, unreached_less, unreached_falls, unreached_most, Extends, extends_on, walk_extends}
use Rattle.ntx_nodes.proofs.Walks.{is_reached-append, node_reached_Ok}
use Rattle.ntx_nodes.proofs.WalkSteps.{whole_None, whole_at, whole_refused}
use Rattle.ntx_view.specs.View.{names_in, IsLiveAt, PartsEnd, PartsEndAt}
use Rattle.ntx_view.specs.Bounds.{list_length, parts_weight, weight_at}

-- each name of the first list is among those of the second
abbrev IsPart : List ℕ → List ℕ → Type 0
IsPart b r = (q : ℕ) → is_reached b q ≡ true → is_reached r q ≡ true

-- The walk along a list from names that this one had reached too: it ends well, with fewer names, and so do the weights of its nodes.
record Flattens (heap : Heap) (r : List ℕ) (to : Option ℕ) (names b : List ℕ) : Type 0 where
  pub fs : List ℕ
  pub walks : whole_walk heap Flat b to 0 H ≡ Ok (b ++ fs)
  pub counts : length fs + length r ≤ length names
  pub weighs : sum_by (weight_at heap) fs + length r ≤ length names
  pub parts : AllByRecursion (PartsEndAt heap) fs

not_in : (b r : List ℕ) (n : ℕ) → IsPart b r → is_reached r n ≡ false → (v : Bool) → is_reached b n ≡ v → is_reached b n ≡ false
not_in b r n within new true is = let there : is_reached r n ≡ true = within n is in cc
not_in b r n within new false is = is

part_or : (a c x : Bool) → (a ≡ true → x ≡ true) → (c ≡ true → x ≡ true) → (a || c) ≡ true → x ≡ true
part_or true c x f g e = f refl
part_or false c x f g e = g e

grown : (a b : List ℕ) (m : ℕ) → is_reached a m ≡ true → is_reached (a ++ b) m ≡ true
grown a b m h = is_reached-append a b m ∙ or_left (is_reached a m) (is_reached b m) h

-- one name more on both sides
part_more : (b r c : List ℕ) (n : ℕ) → IsPart b r → Extends (r ++ n ∷ []) c → IsPart (b ++ n ∷ []) c
part_more b r c n within more q is =
    let in_r : is_reached (r ++ n ∷ []) q ≡ true =
    is_reached-append r (n ∷ []) q ∙ part_or (is_reached b q) (is_reached (n ∷ []) q) (is_reached r q || is_reached (n ∷ []) q)
    (λ h. or_left (is_reached r q) (is_reached (n ∷ []) q) (within q h)) (λ h. or_right (is_reached r q) (is_reached (n ∷ []) q) h) (sym (is_reached-append b (n ∷ []) q) ∙ is) in
    subst (λ x. is_reached x q ≡ true) (sym more.is) (grown (r ++ n ∷ []) more.more q in_r)

-- a walk along one list at a node that passes
flat_at : (heap : Heap) (b : List ℕ) (n : ℕ) (node : Node) → node_reached heap Flat b n 0 H ≡ Ok node → whole_walk heap Flat b (Some n) 0 H ≡ whole_walk heap Flat (b ++ n ∷ []) node.fields.next 0 H
flat_at heap b n node is =
    whole_at heap Flat b n 0 H node is
    ∙ ap (λ x. result_and_then (result_and_then x (λ a. result_and_then (whole_walk heap Flat a None (0 + 1) H) (λ c. whole_walk heap Flat c None (0 + 1) H))) (λ c. whole_walk heap Flat c node.fields.next 0 H)) (whole_None heap Flat (b ++ n ∷ []) (0 + 1) H)
    ∙ ap (λ x. result_and_then (result_and_then x (λ c. whole_walk heap Flat c None (0 + 1) H)) (λ c. whole_walk heap Flat c node.fields.next 0 H)) (whole_None heap Flat (b ++ n ∷ []) (0 + 1) H)
    ∙ ap (λ x. result_and_then x (λ c. whole_walk heap Flat c node.fields.next 0 H)) (whole_None heap Flat (b ++ n ∷ []) (0 + 1) H)

-- the parts of a node are among its inner lists
parts_le : (heap : Heap) (c : Contents) →
    parts_weight heap c ≤ list_length heap (inner_lists c).first + list_length heap (inner_lists c).second + list_length heap (inner_lists c).third
parts_le heap (contents.Disc d) = omega arith
parts_le heap (contents.Hlist b) = omega arith
parts_le heap (contents.Vlist b) = omega arith
parts_le heap (contents.Rule x) = omega arith
parts_le heap (contents.Glue x) = omega arith
parts_le heap (contents.Kern x) = omega arith
parts_le heap (contents.Penalty x) = omega arith
parts_le heap (contents.Glyph x) = omega arith

ends : (heap : Heap) (to : Option ℕ) (fs : List ℕ) → whole_walk heap Flat [] to 0 H ≡ Ok ([] ++ fs) → IsOk (flat_walk heap to)
ends heap to fs e = subst IsOk (sym e) refl

-- the walks along the parts of a node end well
parts_end : (heap : Heap) (c : Contents) → IsOk (flat_walk heap (inner_lists c).first) → IsOk (flat_walk heap (inner_lists c).second) → IsOk (flat_walk heap (inner_lists c).third) → PartsEnd heap c
parts_end heap (contents.Disc d) a b c = (a, b, c)
parts_end heap (contents.Hlist x) a b c = tt
parts_end heap (contents.Vlist x) a b c = tt
parts_end heap (contents.Rule x) a b c = tt
parts_end heap (contents.Glue x) a b c = tt
parts_end heap (contents.Kern x) a b c = tt
parts_end heap (contents.Penalty x) a b c = tt
parts_end heap (contents.Glyph x) a b c = tt

end_at : (heap : Heap) (n : ℕ) (node : Node) → map.get heap.nodes n ≡ Some node → PartsEnd heap node.fields.contents → PartsEndAt heap n
end_at heap n node live end other is = let same : node ≡ other = cc in subst (λ (x : Node). PartsEnd heap x.fields.contents) same end

list_length_is : (heap : Heap) (to : Option ℕ) (fs : List ℕ) → whole_walk heap Flat [] to 0 H ≡ Ok ([] ++ fs) → list_length heap to ≡ length fs
list_length_is heap to fs e = ap (λ x. length (names_in x)) e

weight_is : (heap : Heap) (n : ℕ) (node : Node) → map.get heap.nodes n ≡ Some node → weight_at heap n ≡ 1 + parts_weight heap node.fields.contents
weight_is heap n node e = ap (λ x. elim x [ None ↦ 0 | Some node ↦ 1 + parts_weight heap node.fields.contents ]) e

none_part : (r : List ℕ) → IsPart [] r
none_part r q e = cc

abbrev Below : Heap → ℕ → Type 0
Below heap u = (r : List ℕ) (head : Option ℕ) (d : ℕ) (k : ListKind) (names : List ℕ) → unreached heap r < u → whole_walk heap Checked r head d k ≡ Ok names → (b : List ℕ) → IsPart b r → Flattens heap r head names b

flattens_at : (heap : Heap) (u : ℕ) → Below heap u → (r : List ℕ) (n d : ℕ) (k : ListKind) (names : List ℕ) (tested : Result Node Trouble) → unreached heap r < suc u → whole_walk heap Checked r (Some n) d k ≡ Ok names
    → node_reached heap Checked r n d k ≡ tested → (b : List ℕ) → IsPart b r → Flattens heap r (Some n) names b
flattens_at heap u below r n d k names (Err why) lt e is b within = let refused = whole_refused heap Checked r n d k why is in cc
flattens_at heap u below r n d k names (Ok node) lt e is b within =
    let p = passes heap Checked r n d k node is in
    let l : InnerLists = entered Checked node.fields.contents in
    let f : List ℕ → Option ℕ → ListKind → Result (List ℕ) Trouble = λ b to i. whole_walk heap Checked b to (d + 1) i in
    let r0 : List ℕ = r ++ n ∷ [] in
    let goes = went_Ok (λ c. whole_walk heap Checked c node.fields.next d k) (result_and_then (f r0 l.first l.kind) (λ a. result_and_then (f a l.second l.kind) (λ b. f b l.third l.kind))) names (sym (whole_at heap Checked r n d k node is) ∙ e) in
    let first = went_Ok (λ a. result_and_then (f a l.second l.kind) (λ b. f b l.third l.kind)) (f r0 l.first l.kind) goes.value goes.is in
    let second = went_Ok (λ b. f b l.third l.kind) (f first.value l.second l.kind) goes.value first.gives in
    let x1 : Extends r0 first.value = walk_extends heap Checked (fuel_of heap) r0 l.first (d + 1) l.kind first.value first.is in
    let x2 : Extends first.value second.value = walk_extends heap Checked (fuel_of heap) first.value l.second (d + 1) l.kind second.value second.is in
    let x3 : Extends second.value goes.value = walk_extends heap Checked (fuel_of heap) second.value l.third (d + 1) l.kind goes.value second.gives in
    let x : Extends r0 goes.value = extends_on r0 first.value goes.value x1 (extends_on first.value second.value goes.value x2 x3) in
    let less : unreached heap r0 < unreached heap r = unreached_less heap r n node p.live p.new in
    let less1 : unreached heap first.value ≤ unreached heap r0 = unreached_falls heap r0 first.value x1 in
    let less2 : unreached heap second.value ≤ unreached heap first.value = unreached_falls heap first.value second.value x2 in
    let less3 : unreached heap goes.value ≤ unreached heap second.value = unreached_falls heap second.value goes.value x3 in
    let f1 : Flattens heap r0 l.first first.value [] = below r0 l.first (d + 1) l.kind first.value (omega arith) first.is [] (none_part r0) in
    let f2 : Flattens heap first.value l.second second.value [] = below first.value l.second (d + 1) l.kind second.value (omega arith) second.is [] (none_part first.value) in
    let f3 : Flattens heap second.value l.third goes.value [] = below second.value l.third (d + 1) l.kind goes.value (omega arith) second.gives [] (none_part second.value) in
    let f4 : Flattens heap goes.value node.fields.next names (b ++ n ∷ []) = below goes.value node.fields.next d k names (omega arith) goes.gives (b ++ n ∷ []) (part_more b r goes.value n within x) in
    let reached : node_reached heap Flat b n 0 H ≡ Ok node = node_reached_Ok heap Flat b n 0 H node p.live (not_in b r n within p.new (is_reached b n) refl) refl refl in
    let on : whole_walk heap Flat (b ++ n ∷ []) node.fields.next 0 H ≡ Ok ((b ++ n ∷ []) ++ f4.fs) = f4.walks in
    let one_more : length r0 ≡ length r + 1 = length-append r (n ∷ []) in
    let l1 : list_length heap l.first ≡ length f1.fs = list_length_is heap l.first f1.fs f1.walks in
    let l2 : list_length heap l.second ≡ length f2.fs = list_length_is heap l.second f2.fs f2.walks in
    let l3 : list_length heap l.third ≡ length f3.fs = list_length_is heap l.third f3.fs f3.walks in
    let c1 : length f1.fs + length r0 ≤ length first.value = f1.counts in
    let c2 : length f2.fs + length first.value ≤ length second.value = f2.counts in
    let c3 : length f3.fs + length second.value ≤ length goes.value = f3.counts in
    let c4 : length f4.fs + length goes.value ≤ length names = f4.counts in
    let w4 : sum_by (weight_at heap) f4.fs + length goes.value ≤ length names = f4.weighs in
    let parts : parts_weight heap node.fields.contents ≤ list_length heap l.first + list_length heap l.second + list_length heap l.third = parts_le heap node.fields.contents in
    let own : weight_at heap n ≡ 1 + parts_weight heap node.fields.contents = weight_is heap n node p.live in
    let all : sum_by (weight_at heap) (n ∷ f4.fs) ≡ weight_at heap n + sum_by (weight_at heap) f4.fs = sum_by-cons (weight_at heap) n f4.fs in
    record {
      fs = n ∷ f4.fs;
      walks = flat_at heap b n node reached ∙ on ∙ ap Ok (append_assoc b (n ∷ []) f4.fs);
      counts = omega arith;
      weighs = omega arith;
      parts = (end_at heap n node p.live (parts_end heap node.fields.contents (ends heap l.first f1.fs f1.walks) (ends heap l.second f2.fs f2.walks) (ends heap l.third f3.fs f3.walks)), f4.parts);
    }

flattens_below : (heap : Heap) (u : ℕ) → Below heap u
flattens_below heap zero r head d k names lt e = absurd (omega arith)
flattens_below heap (suc u) r None d k names lt e = λ b within.
    let same : r ≡ names = same_Ok r names (sym (whole_None heap Checked r d k) ∙ e) in
    let le : length r ≤ length names = subst (λ x. length r ≤ length x) same (omega arith) in
    record {
      fs = [];
      walks = whole_None heap Flat b 0 H ∙ ap Ok (sym (append-nil b));
      counts = omega arith;
      weighs = omega arith;
      parts = tt;
    }
flattens_below heap (suc u) r (Some n) d k names lt e = flattens_at heap u (flattens_below heap u) r n d k names (node_reached heap Checked r n d k) lt e refl

-- What the list at a head is, where the walk through all its lists reaches these names.
pub record Measured (heap : Heap) (head : Option ℕ) (names : List ℕ) : Type 0 where
  pub along : List ℕ
  pub walks : flat_walk heap head ≡ Ok along
  pub counts : length along ≤ length names
  pub weighs : sum_by (weight_at heap) along ≤ length names
  pub parts : All (PartsEndAt heap) along

pub measured : (heap : Heap) (head : Option ℕ) (k : ListKind) (names : List ℕ) → checked_walk heap head k ≡ Ok names → Measured heap head names
measured heap head k names e =
    let f = flattens_below heap (fuel_of heap) [] head 0 k names (unreached_most heap []) e [] (none_part []) in
    let c : length f.fs + 0 ≤ length names = f.counts in
    let w : sum_by (weight_at heap) f.fs + 0 ≤ length names = f.weighs in
    record { along = f.fs; walks = f.walks; counts = omega arith; weighs = omega arith; parts = All-from_recursion (PartsEndAt heap) f.fs f.parts }

-- ---- no walk reaches more names than may be live
pub live_node : (o : Option Node) → is_some o ≡ true → (node : Node) × (o ≡ Some node)
live_node None e = cc
live_node (Some node) e = (node, refl)

fresh_few : (heap : Heap) (r names : List ℕ) → AreFresh heap r names → length names + unreached heap (r ++ names) ≤ unreached heap r
fresh_few heap r [] fresh = subst (λ x. 0 + unreached heap x ≤ unreached heap r) (sym (append-nil r)) (omega arith)
fresh_few heap r (n ∷ ns) fresh =
    let node = live_node (map.get heap.nodes n) fresh.0 in
    let less : unreached heap (r ++ n ∷ []) < unreached heap r = unreached_less heap r n node.0 node.1 fresh.1 in
    let rest : length ns + unreached heap ((r ++ n ∷ []) ++ ns) ≤ unreached heap (r ++ n ∷ []) = fresh_few heap (r ++ n ∷ []) ns fresh.2 in
    let whole : length ns + unreached heap (r ++ (n ∷ ns)) ≤ unreached heap (r ++ n ∷ []) = subst (λ x. length ns + unreached heap x ≤ unreached heap (r ++ n ∷ [])) (append_assoc r (n ∷ []) ns) rest in
    omega arith

pub sound_few : (heap : Heap) (way : Way) (head : Option ℕ) (names : List ℕ) → IsLawful heap → Sound heap way [] head names → length names ≤ max_nodes
sound_few heap way head names lawful s =
    let f : length s.more + unreached heap ([] ++ s.more) ≤ unreached heap [] = fresh_few heap [] s.more s.fresh in
    let most : unreached heap [] < fuel_of heap = unreached_most heap [] in
    let few : map.len heap.nodes ≤ max_nodes = lawful.few in
    let same : length names ≡ length s.more = ap length s.added in
    omega arith

pub all_live : (heap : Heap) (before names : List ℕ) → AreFresh heap before names → All (IsLiveAt heap) names
all_live heap before [] fresh = All-nil (IsLiveAt heap)
all_live heap before (n ∷ ns) fresh = All-cons (IsLiveAt heap) n ns fresh.0 (all_live heap (before ++ n ∷ []) ns fresh.2)

pub sound_live : (heap : Heap) (way : Way) (head : Option ℕ) (names : List ℕ) → Sound heap way [] head names → All (IsLiveAt heap) names
sound_live heap way head names s = subst (All (IsLiveAt heap)) (sym s.added) (all_live heap [] s.more s.fresh)
