-- Every walk that ends well is sound.
use Rattle.std.proofs.Common.{◌≡◌, ℕ, zero, suc, ◌+◌, ◌≤◌, ◌<◌, List, [], ◌∷◌, ◌++◌, Bool, true, false, Some, None, Ok, Err, refl, sym, ◌∙◌, ap, subst, inl, inr, append_assoc, append-nil, arith}
use Rattle.std.specs.Prelude.{Option, Result, is_some, nat_eq, ◌||◌, ◌⊎◌}
use Rattle.std.specs.FinMap as map
use Rattle.std.proofs.lemmas.Bool.{eqb-true, or_left, or_cases}
use Rattle.ntx_num.specs.Answer.{result_and_then}
use Rattle.ntx_nodes.specs.Heap.{Heap}
use Rattle.ntx_nodes.specs.Walk.{is_reached, entered, node_reached, walk, fuel_of}
use Rattle.ntx_nodes.specs.Walker.{whole_walk}
use Rattle.ntx_nodes.specs.WalkLaws.{AreFresh, LeadsTo, LeadsOn, IsClosed, Sound}
use Rattle.ntx_nodes.specs.declared.kind.ListKind.{ListKind}
use Rattle.ntx_nodes.specs.declared.kind.Way.{Way}
use Rattle.ntx_nodes.specs.declared.inner.InnerLists.{InnerLists}
use Rattle.ntx_nodes.specs.declared.node.Node.{Node}
use Rattle.ntx_nodes.specs.declared.trouble.Trouble.{Trouble}
use Rattle.ntx_num.proofs.Answers.{same_Ok, went_Ok}
use Rattle.ntx_nodes.proofs.Walks.{is_reached-append}
use Rattle.ntx_nodes.proofs.Fuel.{passes, unreached, unreached_less, unreached_falls, unreached_most, Extends, extends_on, last_reached}
use Rattle.ntx_nodes.proofs.WalkSteps.{whole_None, whole_at, whole_refused}

-- ---- lists of names
grown : (a b : List ℕ) (m : ℕ) → is_reached a m ≡ true → is_reached (a ++ b) m ≡ true
grown a b m h = is_reached-append a b m ∙ or_left (is_reached a m) (is_reached b m) h

fresh_append : (heap : Heap) (r a b : List ℕ) → AreFresh heap r a → AreFresh heap (r ++ a) b → AreFresh heap r (a ++ b)
fresh_append heap r [] b p q = subst (λ x. AreFresh heap x b) (append-nil r) q
fresh_append heap r (n ∷ ns) b p q = (p.0, p.1, fresh_append heap (r ++ n ∷ []) ns b p.2 (subst (λ x. AreFresh heap x b) (sym (append_assoc r (n ∷ []) ns)) q))

leads_later : (a b : List ℕ) (to : Option ℕ) → Extends a b → LeadsTo a to → LeadsTo b to
leads_later a b to x h m e = subst (λ names. is_reached names m ≡ true) (sym x.is) (grown a x.more m (h m e))

on_later : (way : Way) (a b : List ℕ) (node : Node) → Extends a b → LeadsOn way a node → LeadsOn way b node
on_later way a b node x l = record { first = leads_later a b _ x l.first; second = leads_later a b _ x l.second; third = leads_later a b _ x l.third; next = leads_later a b _ x l.next }

closed_later : (heap : Heap) (way : Way) (a b of : List ℕ) → Extends a b → IsClosed heap way a of → IsClosed heap way b of
closed_later heap way a b of x h n node i e = on_later way a b node x (h n node i e)

closed_append : (heap : Heap) (way : Way) (names a b : List ℕ) → IsClosed heap way names a → IsClosed heap way names b → IsClosed heap way names (a ++ b)
closed_append heap way names a b p q n node i e =
    elim (or_cases (is_reached a n) (is_reached b n) (sym (is_reached-append a b n) ∙ i)) [ inl x ↦ p n node x e | inr x ↦ q n node x e ]

pub leads_none : (names : List ℕ) → LeadsTo names None
leads_none names m e = cc

begun : (names : List ℕ) (n : ℕ) → is_reached names n ≡ true → LeadsTo names (Some n)
begun names n h m e = let same : n ≡ m = cc in subst (λ x. is_reached names x ≡ true) same h

-- ---- one walk after another
pub sound_none : (heap : Heap) (way : Way) (r : List ℕ) → Sound heap way r None r
sound_none heap way r = record { more = []; added = sym (append-nil r); fresh = tt; begins = leads_none r; closed = λ n node i e. cc }

extends : (heap : Heap) (way : Way) (r : List ℕ) (head : Option ℕ) (names : List ℕ) → Sound heap way r head names → Extends r names
extends heap way r head names s = record { more = s.more; is = s.added }

closed_one : (heap : Heap) (way : Way) (names : List ℕ) (n : ℕ) (node : Node) → map.get heap.nodes n ≡ Some node → LeadsOn way names node → IsClosed heap way names (n ∷ [])
closed_one heap way names n node live on q other i e =
    let same : q ≡ n = eqb-true q n (elim (or_cases (nat_eq q n) false i) [ inl x ↦ x | inr x ↦ cc ]) in
    let found : map.get heap.nodes n ≡ Some other = ap (map.get heap.nodes) (sym same) ∙ e in
    let node_same : node ≡ other = cc in
    subst (λ (x : Node). LeadsOn way names x) node_same on

-- a node, its lists and what follows
sound_on : (heap : Heap) (way : Way) (r a b c names : List ℕ) (n : ℕ) (node : Node) → is_reached r n ≡ false → map.get heap.nodes n ≡ Some node
    → Sound heap way (r ++ n ∷ []) (entered way node.fields.contents).first a → Sound heap way a (entered way node.fields.contents).second b → Sound heap way b (entered way node.fields.contents).third c
    → Sound heap way c node.fields.next names → Sound heap way r (Some n) names
sound_on heap way r a b c names n node new live s1 s2 s3 s4 =
    let x4 : Extends c names = extends heap way c _ names s4 in
    let x3 : Extends b names = extends_on b c names (extends heap way b _ c s3) x4 in
    let x2 : Extends a names = extends_on a b names (extends heap way a _ b s2) x3 in
    let x1 : Extends (r ++ n ∷ []) names = extends_on (r ++ n ∷ []) a names (extends heap way (r ++ n ∷ []) _ a s1) x2 in
    let m1 : List ℕ = n ∷ s1.more in
    let m2 : List ℕ = m1 ++ s2.more in
    let m3 : List ℕ = m2 ++ s3.more in
    let at1 : a ≡ r ++ m1 = s1.added ∙ append_assoc r (n ∷ []) s1.more in
    let at2 : b ≡ r ++ m2 = s2.added ∙ ap (λ x. x ++ s2.more) at1 ∙ append_assoc r m1 s2.more in
    let at3 : c ≡ r ++ m3 = s3.added ∙ ap (λ x. x ++ s3.more) at2 ∙ append_assoc r m2 s3.more in
    let at4 : names ≡ r ++ (m3 ++ s4.more) = s4.added ∙ ap (λ x. x ++ s4.more) at3 ∙ append_assoc r m3 s4.more in
    let f1 : AreFresh heap r m1 = (ap is_some live, new, s1.fresh) in
    let f2 : AreFresh heap r m2 = fresh_append heap r m1 s2.more f1 (subst (λ x. AreFresh heap x s2.more) at1 s2.fresh) in
    let f3 : AreFresh heap r m3 = fresh_append heap r m2 s3.more f2 (subst (λ x. AreFresh heap x s3.more) at2 s3.fresh) in
    let f4 : AreFresh heap r (m3 ++ s4.more) = fresh_append heap r m3 s4.more f3 (subst (λ x. AreFresh heap x s4.more) at3 s4.fresh) in
    let on : LeadsOn way names node = record {
      first = leads_later a names _ x2 s1.begins;
      second = leads_later b names _ x3 s2.begins;
      third = leads_later c names _ x4 s3.begins;
      next = s4.begins;
    } in
    let c1 : IsClosed heap way names m1 = closed_append heap way names (n ∷ []) s1.more (closed_one heap way names n node live on) (closed_later heap way a names s1.more x2 s1.closed) in
    let c2 : IsClosed heap way names m2 = closed_append heap way names m1 s2.more c1 (closed_later heap way b names s2.more x3 s2.closed) in
    let c3 : IsClosed heap way names m3 = closed_append heap way names m2 s3.more c2 (closed_later heap way c names s3.more x4 s3.closed) in
    record {
      more = m3 ++ s4.more;
      added = at4;
      fresh = f4;
      begins = begun names n (subst (λ x. is_reached x n ≡ true) (sym x1.is) (grown (r ++ n ∷ []) x1.more n (last_reached r n)));
      closed = closed_append heap way names m3 s4.more c3 s4.closed;
    }

-- ---- every walk
-- from soundness of the walks with fewer live nodes left
abbrev Below : Heap → Way → ℕ → Type 0
Below heap way u = (r : List ℕ) (head : Option ℕ) (d : ℕ) (k : ListKind) (names : List ℕ) → unreached heap r < u → whole_walk heap way r head d k ≡ Ok names → Sound heap way r head names

sound_at : (heap : Heap) (way : Way) (u : ℕ) → Below heap way u → (r : List ℕ) (n d : ℕ) (k : ListKind) (names : List ℕ) (tested : Result Node Trouble) → unreached heap r < suc u → whole_walk heap way r (Some n) d k ≡ Ok names
    → node_reached heap way r n d k ≡ tested → Sound heap way r (Some n) names
sound_at heap way u below r n d k names (Err why) lt e is = let refused = whole_refused heap way r n d k why is in cc
sound_at heap way u below r n d k names (Ok node) lt e is =
    let p = passes heap way r n d k node is in
    let l : InnerLists = entered way node.fields.contents in
    let f : List ℕ → Option ℕ → ListKind → Result (List ℕ) Trouble = λ b to i. whole_walk heap way b to (d + 1) i in
    let r0 : List ℕ = r ++ n ∷ [] in
    let goes = went_Ok (λ c. whole_walk heap way c node.fields.next d k) (result_and_then (f r0 l.first l.kind) (λ a. result_and_then (f a l.second l.kind) (λ b. f b l.third l.kind))) names (sym (whole_at heap way r n d k node is) ∙ e) in
    let first = went_Ok (λ a. result_and_then (f a l.second l.kind) (λ b. f b l.third l.kind)) (f r0 l.first l.kind) goes.value goes.is in
    let second = went_Ok (λ b. f b l.third l.kind) (f first.value l.second l.kind) goes.value first.gives in
    let less : unreached heap r0 < unreached heap r = unreached_less heap r n node p.live p.new in
    let s1 = below r0 l.first (d + 1) l.kind first.value (omega arith) first.is in
    let less1 : unreached heap first.value ≤ unreached heap r0 = unreached_falls heap r0 first.value (extends heap way r0 l.first first.value s1) in
    let s2 = below first.value l.second (d + 1) l.kind second.value (omega arith) second.is in
    let less2 : unreached heap second.value ≤ unreached heap first.value = unreached_falls heap first.value second.value (extends heap way first.value l.second second.value s2) in
    let s3 = below second.value l.third (d + 1) l.kind goes.value (omega arith) second.gives in
    let less3 : unreached heap goes.value ≤ unreached heap second.value = unreached_falls heap second.value goes.value (extends heap way second.value l.third goes.value s3) in
    let s4 = below goes.value node.fields.next d k names (omega arith) goes.gives in
    sound_on heap way r first.value second.value goes.value names n node p.new p.live s1 s2 s3 s4

sound_below : (heap : Heap) (way : Way) (u : ℕ) → Below heap way u
sound_below heap way zero r head d k names lt e = absurd (omega arith)
sound_below heap way (suc u) r None d k names lt e =
    let same : r ≡ names = same_Ok r names (sym (whole_None heap way r d k) ∙ e) in
    subst (λ x. Sound heap way r None x) same (sound_none heap way r)
sound_below heap way (suc u) r (Some n) d k names lt e = sound_at heap way u (sound_below heap way u) r n d k names (node_reached heap way r n d k) lt e refl

-- Every walk that ends well is sound.
pub sound_walk : (heap : Heap) (way : Way) (r : List ℕ) (head : Option ℕ) (d : ℕ) (k : ListKind) (names : List ℕ) → walk heap way (fuel_of heap) r head d k ≡ Ok names → Sound heap way r head names
sound_walk heap way r head d k names e = sound_below heap way (fuel_of heap) r head d k names (unreached_most heap r) e
