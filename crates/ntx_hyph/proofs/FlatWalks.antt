-- Where the walk through all lists ends well, the walk along one list does.
use Rattle.std.proofs.Common.{◌≡◌, ℕ, zero, suc, ◌+◌, ◌≤◌, ◌<◌, List, [], ◌∷◌, ◌++◌, Bool, true, false, Some, None, Ok, Err, refl, sym, ◌∙◌, ap, append_assoc, append-nil, arith}
use Rattle.std.specs.Prelude.{Option, Result, ◌||◌}
use Rattle.ntx_num.specs.Answer.{result_and_then}
use Rattle.ntx_num.proofs.Answers.{went_Ok}
use Rattle.std.proofs.lemmas.Bool.{or_left, or_right}
use Rattle.ntx_nodes.specs.Heap.{Heap}
use Rattle.ntx_nodes.specs.Walk.{is_reached, entered, node_reached, fuel_of, flat_walk, checked_walk}
use Rattle.ntx_nodes.specs.Walker.{whole_walk}
use Rattle.ntx_nodes.specs.declared.inner.InnerLists.{InnerLists}
use Rattle.ntx_nodes.specs.declared.kind.ListKind.{ListKind}
use Rattle.ntx_nodes.specs.declared.kind.ListKind.TheVariants.{H}
use Rattle.ntx_nodes.specs.declared.kind.Way.TheVariants.{Checked, Flat}
use Rattle.ntx_nodes.specs.declared.node.Node.{Node}
use Rattle.ntx_nodes.specs.declared.trouble.Trouble.{Trouble}
use Rattle.ntx_nodes.proofs.Fuel.{passes, unreached, unreached_less, unreached_falls, unreached_most, Extends, extends_on, walk_extends}
use Rattle.ntx_nodes.proofs.Walks.{is_reached-append, node_reached_Ok}
use Rattle.ntx_nodes.proofs.WalkSteps.{whole_None, whole_at, whole_refused}
use Rattle.ntx_hyph.specs.Hyphenation.{list_names}

-- each name of the first list is among those of the second
abbrev IsPart : List ℕ → List ℕ → Type 0
IsPart b r = (q : ℕ) → is_reached b q ≡ true → is_reached r q ≡ true

-- The walk along a list, from names that the walk through all lists had reached too, ends well.
record Flattens (heap : Heap) (to : Option ℕ) (b : List ℕ) : Type 0 where
  pub more : List ℕ
  pub walks : whole_walk heap Flat b to 0 H ≡ Ok (b ++ more)

not_in : (b r : List ℕ) (n : ℕ) → IsPart b r → is_reached r n ≡ false → (v : Bool) → is_reached b n ≡ v → is_reached b n ≡ false
not_in b r n within new true is = let there : is_reached r n ≡ true = within n is in cc
not_in b r n within new false is = is

part_or : (a c x : Bool) → (a ≡ true → x ≡ true) → (c ≡ true → x ≡ true) → (a || c) ≡ true → x ≡ true
part_or true c x f g e = f refl
part_or false c x f g e = g e

grown : (a b : List ℕ) (m : ℕ) → is_reached a m ≡ true → is_reached (a ++ b) m ≡ true
grown a b m h = is_reached-append a b m ∙ or_left (is_reached a m) (is_reached b m) h

-- one name more on both sides
part_more : (b r c : List ℕ) (n : ℕ) → IsPart b r → Extends (r ++ n ∷ []) c → IsPart (b ++ n ∷ []) c
part_more b r c n within more q is =
    let in_r : is_reached (r ++ n ∷ []) q ≡ true =
    is_reached-append r (n ∷ []) q ∙ part_or (is_reached b q) (is_reached (n ∷ []) q) (is_reached r q || is_reached (n ∷ []) q)
    (λ h. or_left (is_reached r q) (is_reached (n ∷ []) q) (within q h)) (λ h. or_right (is_reached r q) (is_reached (n ∷ []) q) h) (sym (is_reached-append b (n ∷ []) q) ∙ is) in
    ap (λ x. is_reached x q) more.is ∙ grown (r ++ n ∷ []) more.more q in_r

-- a walk along one list at a node that passes
pub flat_at : (heap : Heap) (b : List ℕ) (n : ℕ) (node : Node) → node_reached heap Flat b n 0 H ≡ Ok node → whole_walk heap Flat b (Some n) 0 H ≡ whole_walk heap Flat (b ++ n ∷ []) node.fields.next 0 H
flat_at heap b n node is =
    whole_at heap Flat b n 0 H node is
    ∙ ap (λ x. result_and_then (result_and_then x (λ a. result_and_then (whole_walk heap Flat a None (0 + 1) H) (λ c. whole_walk heap Flat c None (0 + 1) H))) (λ c. whole_walk heap Flat c node.fields.next 0 H)) (whole_None heap Flat (b ++ n ∷ []) (0 + 1) H)
    ∙ ap (λ x. result_and_then (result_and_then x (λ c. whole_walk heap Flat c None (0 + 1) H)) (λ c. whole_walk heap Flat c node.fields.next 0 H)) (whole_None heap Flat (b ++ n ∷ []) (0 + 1) H)
    ∙ ap (λ x. result_and_then x (λ c. whole_walk heap Flat c node.fields.next 0 H)) (whole_None heap Flat (b ++ n ∷ []) (0 + 1) H)

abbrev Below : Heap → ℕ → Type 0
Below heap u = (r : List ℕ) (head : Option ℕ) (d : ℕ) (k : ListKind) (names : List ℕ) → unreached heap r < u → whole_walk heap Checked r head d k ≡ Ok names → (b : List ℕ) → IsPart b r → Flattens heap head b

flattens_at : (heap : Heap) (u : ℕ) → Below heap u → (r : List ℕ) (n d : ℕ) (k : ListKind) (names : List ℕ) (tested : Result Node Trouble) → unreached heap r < suc u → whole_walk heap Checked r (Some n) d k ≡ Ok names
    → node_reached heap Checked r n d k ≡ tested → (b : List ℕ) → IsPart b r → Flattens heap (Some n) b
flattens_at heap u below r n d k names (Err why) lt e is b within = let refused = whole_refused heap Checked r n d k why is in cc
flattens_at heap u below r n d k names (Ok node) lt e is b within =
    let p = passes heap Checked r n d k node is in
    let l : InnerLists = entered Checked node.fields.contents in
    let f : List ℕ → Option ℕ → ListKind → Result (List ℕ) Trouble = λ b to i. whole_walk heap Checked b to (d + 1) i in
    let r0 : List ℕ = r ++ n ∷ [] in
    let goes = went_Ok (λ c. whole_walk heap Checked c node.fields.next d k) (result_and_then (f r0 l.first l.kind) (λ a. result_and_then (f a l.second l.kind) (λ b. f b l.third l.kind))) names (sym (whole_at heap Checked r n d k node is) ∙ e) in
    let first = went_Ok (λ a. result_and_then (f a l.second l.kind) (λ b. f b l.third l.kind)) (f r0 l.first l.kind) goes.value goes.is in
    let second = went_Ok (λ b. f b l.third l.kind) (f first.value l.second l.kind) goes.value first.gives in
    let x1 : Extends r0 first.value = walk_extends heap Checked (fuel_of heap) r0 l.first (d + 1) l.kind first.value first.is in
    let x2 : Extends first.value second.value = walk_extends heap Checked (fuel_of heap) first.value l.second (d + 1) l.kind second.value second.is in
    let x3 : Extends second.value goes.value = walk_extends heap Checked (fuel_of heap) second.value l.third (d + 1) l.kind goes.value second.gives in
    let x : Extends r0 goes.value = extends_on r0 first.value goes.value x1 (extends_on first.value second.value goes.value x2 x3) in
    let less : unreached heap r0 < unreached heap r = unreached_less heap r n node p.live p.new in
    let less1 : unreached heap goes.value ≤ unreached heap r0 = unreached_falls heap r0 goes.value x in
    let rest : Flattens heap node.fields.next (b ++ n ∷ []) = below goes.value node.fields.next d k names (omega arith) goes.gives (b ++ n ∷ []) (part_more b r goes.value n within x) in
    let reached : node_reached heap Flat b n 0 H ≡ Ok node = node_reached_Ok heap Flat b n 0 H node p.live (not_in b r n within p.new (is_reached b n) refl) refl refl in
    record { more = n ∷ rest.more; walks = flat_at heap b n node reached ∙ rest.walks ∙ ap Ok (append_assoc b (n ∷ []) rest.more) }

flattens_below : (heap : Heap) (u : ℕ) → Below heap u
flattens_below heap zero r head d k names lt e = absurd (omega arith)
flattens_below heap (suc u) r None d k names lt e = λ b within. record { more = []; walks = whole_None heap Flat b 0 H ∙ ap Ok (sym (append-nil b)) }
flattens_below heap (suc u) r (Some n) d k names lt e = flattens_at heap u (flattens_below heap u) r n d k names (node_reached heap Checked r n d k) lt e refl

none_part : (r : List ℕ) → IsPart [] r
none_part r q e = cc

refused_case : (heap : Heap) (head : ℕ) (why : Trouble) (r : Result (List ℕ) Trouble) → checked_walk heap (Some head) H ≡ r → result_and_then r (λ _. flat_walk heap (Some head)) ≡ Err why → checked_walk heap (Some head) H ≡ Err why
refused_case heap head why (Err x) is e = is ∙ e
refused_case heap head why (Ok names) is e =
    let f = flattens_below heap (fuel_of heap) [] (Some head) 0 H names (unreached_most heap []) is [] (none_part []) in
    let no : flat_walk heap (Some head) ≡ Ok f.more = f.walks in cc

-- So it is the check alone that refuses a list.
pub list_refused : (heap : Heap) (head : ℕ) (why : Trouble) → list_names heap head ≡ Err why → checked_walk heap (Some head) H ≡ Err why
list_refused heap head why e = refused_case heap head why (checked_walk heap (Some head) H) refl e
