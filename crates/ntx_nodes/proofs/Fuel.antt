-- A walk with fuel enough: more fuel changes nothing, and what it does at a node.
use Rattle.std.proofs.Common.{◌≡◌, ℕ, zero, suc, ◌+◌, ◌≤◌, ◌<◌, List, [], ◌∷◌, ◌++◌, Bool, true, false, cond, length, Some, None, Ok, Err, refl, sym, ◌∙◌, ap, subst, append_assoc, append-nil, zero-add, suc-add, add_comm, arith}
use Rattle.std.specs.Prelude.{Option, Result, not, ◌||◌, nat_lt}
use Rattle.std.specs.FinMap as map
use Rattle.ntx_num.specs.Answer.{result_map, result_and_then}
use Rattle.ntx_nodes.specs.Fields.{kind_of}
use Rattle.ntx_nodes.specs.Heap.{Heap}
use Rattle.ntx_nodes.specs.Walk.{is_reached, admits, entered, node_reached, in_turn, enter, walk, fuel_of, is_too_deep}
use Rattle.ntx_nodes.specs.Walker.{failing}
use Rattle.ntx_nodes.specs.declared.inner.InnerLists.{InnerLists}
use Rattle.ntx_nodes.specs.declared.kind.ListKind.{ListKind}
use Rattle.ntx_nodes.specs.declared.kind.Way.{Way}
use Rattle.ntx_nodes.specs.declared.node.Node.{Node}
use Rattle.ntx_nodes.specs.declared.trouble.Trouble.{Trouble}
use Rattle.ntx_nodes.specs.declared.trouble.Trouble.TheVariants.{Loop, Nest, WrongKind}
use Rattle.std.proofs.lemmas.Bool.{not-false, or_left}
use Rattle.ntx_num.proofs.Answers.{same_Ok, went_Ok, mapped_Ok, not_taken}
use Rattle.ntx_nodes.proofs.Oks.{at_Ok}
use Rattle.ntx_nodes.proofs.Walks.{falls, falls_at, failing-le, is_reached-append, nat_eq_same, or_true}

-- a walker, from the names reached
abbrev pub Walker : Type 0
Walker = List ℕ → Option ℕ → ℕ → ListKind → Result (List ℕ) Trouble

-- ---- names are added at the end
pub record Extends (before names : List ℕ) : Type 0 where
  pub more : List ℕ
  pub is : names ≡ before ++ more

pub extends_same : (a b : List ℕ) → a ≡ b → Extends a b
extends_same a b e = record { more = []; is = sym e ∙ sym (append-nil a) }

pub extends_on : (a b c : List ℕ) → Extends a b → Extends b c → Extends a c
extends_on a b c p q = record { more = p.more ++ q.more; is = q.is ∙ ap (λ x. x ++ q.more) p.is ∙ append_assoc a p.more q.more }

in_turn_extends : (f : List ℕ → Option ℕ → ListKind → Result (List ℕ) Trouble) → ((r : List ℕ) (n : Option ℕ) (k : ListKind) (names : List ℕ) → f r n k ≡ Ok names → Extends r names)
    → (r : List ℕ) (l : InnerLists) (names : List ℕ) → in_turn f r l ≡ Ok names → Extends r names
in_turn_extends f h r l names e =
    let one = went_Ok (λ a. result_and_then (f a l.second l.kind) (λ b. f b l.third l.kind)) (f r l.first l.kind) names e in
    let two = went_Ok (λ b. f b l.third l.kind) (f one.value l.second l.kind) names one.gives in
    extends_on r one.value names (h r l.first l.kind one.value one.is) (extends_on one.value two.value names (h one.value l.second l.kind two.value two.is) (h two.value l.third l.kind names two.gives))

-- ---- what a node that passes its tests is
pub record Passes (heap : Heap) (way : Way) (r : List ℕ) (n depth : ℕ) (k : ListKind) (node : Node) : Type 0 where
  pub live : map.get heap.nodes n ≡ Some node
  pub new : is_reached r n ≡ false
  pub shallow : is_too_deep way depth ≡ false
  pub kind : admits way k (kind_of node.fields.contents) ≡ true

pub passes : (heap : Heap) (way : Way) (r : List ℕ) (n depth : ℕ) (k : ListKind) (node : Node) → node_reached heap way r n depth k ≡ Ok node → Passes heap way r n depth k node
passes heap way r n depth k node e =
    let at = at_Ok heap n (λ node. cond (is_reached r n) (Err (Loop n)) (cond (is_too_deep way depth) (Err Nest) (cond (not (admits way k (kind_of node.fields.contents))) (Err (WrongKind n)) (Ok node)))) node e in
    let new = not_taken (is_reached r n) _ _ node at.gives in
    let shallow = not_taken (is_too_deep way depth) _ _ node new.1 in
    let kind = not_taken (not (admits way k (kind_of at.node.fields.contents))) _ _ node shallow.1 in
    let same : at.node ≡ node = same_Ok at.node node kind.1 in
    record {
      live = at.is ∙ ap Some same;
      new = new.0;
      shallow = shallow.0;
      kind = subst (λ (x : Node). admits way k (kind_of x.fields.contents) ≡ true) same (not-false _ kind.0);
    }

-- ---- live nodes that were not reached
abbrev pub unreached : Heap → List ℕ → ℕ
unreached heap reached = failing (is_reached reached) (map.entries heap.nodes)

still : (r more : List ℕ) (q : ℕ) → is_reached r q ≡ true → is_reached (r ++ more) q ≡ true
still r more q h = is_reached-append r more q ∙ or_left (is_reached r q) (is_reached more q) h

pub unreached_falls : (heap : Heap) (r names : List ℕ) → Extends r names → unreached heap names ≤ unreached heap r
unreached_falls heap r names e = subst (λ x. unreached heap x ≤ unreached heap r) (sym e.is) (falls (is_reached (r ++ e.more)) (is_reached r) (map.entries heap.nodes) (still r e.more))

pub last_reached : (r : List ℕ) (n : ℕ) → is_reached (r ++ n ∷ []) n ≡ true
last_reached r n = is_reached-append r (n ∷ []) n ∙ ap (λ b. is_reached r n || (b || false)) (nat_eq_same n) ∙ or_true (is_reached r n)

pub unreached_less : (heap : Heap) (r : List ℕ) (n : ℕ) (node : Node) → map.get heap.nodes n ≡ Some node → is_reached r n ≡ false → unreached heap (r ++ n ∷ []) < unreached heap r
unreached_less heap r n node live new =
    falls_at (is_reached (r ++ n ∷ [])) (is_reached r) (map.entries heap.nodes) n node (still r (n ∷ [])) (last_reached r n) new (sym (map.get-entries heap.nodes n) ∙ live)

pub unreached_most : (heap : Heap) (r : List ℕ) → unreached heap r < fuel_of heap
unreached_most heap r =
    let most : unreached heap r ≤ length (map.entries heap.nodes) = failing-le (is_reached r) (map.entries heap.nodes) in
    let size : map.len heap.nodes ≡ length (map.entries heap.nodes) = map.len-entries heap.nodes in
    omega arith

-- ---- a node with its lists
pub enter_extends : (heap : Heap) (way : Way) (w : Walker) → ((r : List ℕ) (n : Option ℕ) (d : ℕ) (k : ListKind) (names : List ℕ) → w r n d k ≡ Ok names → Extends r names)
    → (r : List ℕ) (n d : ℕ) (k : ListKind) (entry : Node × List ℕ) → enter heap way w r n d k ≡ Ok entry → Passes heap way r n d k entry.0 × Extends (r ++ n ∷ []) entry.1
enter_extends heap way w h r n d k entry e =
    let f : List ℕ → Option ℕ → ListKind → Result (List ℕ) Trouble = λ b to i. w b to (d + 1) i in
    let went = went_Ok {B = Node × List ℕ} (λ node. result_map (λ names. (node, names)) (in_turn f (r ++ n ∷ []) (entered way node.fields.contents))) (node_reached heap way r n d k) entry e in
    let m = mapped_Ok {B = Node × List ℕ} (λ names. (went.value, names)) (in_turn f (r ++ n ∷ []) (entered way went.value.fields.contents)) entry went.gives in (
      subst (λ (p : Node × List ℕ). Passes heap way r n d k p.0) m.gives (passes heap way r n d k went.value went.is),
      subst (λ (p : Node × List ℕ). Extends (r ++ n ∷ []) p.1) m.gives (in_turn_extends f (λ b to i names x. h b to (d + 1) i names x) (r ++ n ∷ []) (entered way went.value.fields.contents) m.value m.is),
    )

pub walk_extends : (heap : Heap) (way : Way) (fuel : ℕ) (r : List ℕ) (n : Option ℕ) (d : ℕ) (k : ListKind) (names : List ℕ) → walk heap way fuel r n d k ≡ Ok names → Extends r names
walk_extends heap way zero r n d k names e = extends_same r names (same_Ok r names e)
walk_extends heap way (suc fuel) r None d k names e = extends_same r names (same_Ok r names e)
walk_extends heap way (suc fuel) r (Some n) d k names e =
    let w : Walker = λ b to j i. walk heap way fuel b to j i in
    let went = went_Ok {A = Node × List ℕ} (λ entry. walk heap way fuel entry.1 entry.0.fields.next d k) (enter heap way w r n d k) names e in
    let entry = enter_extends heap way w (walk_extends heap way fuel) r n d k went.value went.is in
    extends_on r (r ++ n ∷ []) names (record { more = n ∷ []; is = refl })
    (extends_on (r ++ n ∷ []) went.value.1 names entry.1 (walk_extends heap way fuel went.value.1 went.value.0.fields.next d k names went.gives))

-- ---- more fuel changes nothing
pointwise : {A B E : Type 0} (r : Result A E) (f g : A → Result B E) → ((a : A) → r ≡ Ok a → f a ≡ g a) → result_and_then r f ≡ result_and_then r g
pointwise (Ok a) f g h = h a refl
pointwise (Err e) f g h = refl

pub then_same : {A B E : Type 0} (r s : Result A E) (f g : A → Result B E) → r ≡ s → ((a : A) → s ≡ Ok a → f a ≡ g a) → result_and_then r f ≡ result_and_then s g
then_same r s f g e h = ap (λ x. result_and_then x f) e ∙ pointwise s f g h

in_turn_same : (heap : Heap) (t : ℕ) (f g : List ℕ → Option ℕ → ListKind → Result (List ℕ) Trouble)
    → ((r : List ℕ) (n : Option ℕ) (k : ListKind) → unreached heap r < t → f r n k ≡ g r n k)
    → ((r : List ℕ) (n : Option ℕ) (k : ListKind) (names : List ℕ) → g r n k ≡ Ok names → Extends r names)
    → (r : List ℕ) (l : InnerLists) → unreached heap r < t → in_turn f r l ≡ in_turn g r l
in_turn_same heap t f g same extends r l lt =
    then_same (f r l.first l.kind) (g r l.first l.kind) _ _ (same r l.first l.kind lt) (λ a one.
    let fewer : unreached heap a ≤ unreached heap r = unreached_falls heap r a (extends r l.first l.kind a one) in
    then_same (f a l.second l.kind) (g a l.second l.kind) _ _ (same a l.second l.kind (omega arith)) (λ b two.
    let fewest : unreached heap b ≤ unreached heap a = unreached_falls heap a b (extends a l.second l.kind b two) in
    same b l.third l.kind (omega arith)))

pub enough : (heap : Heap) (way : Way) (fuel : ℕ) (r : List ℕ) (n : Option ℕ) (d : ℕ) (k : ListKind) → unreached heap r < fuel → walk heap way fuel r n d k ≡ walk heap way (suc fuel) r n d k
enough heap way zero r n d k lt = absurd (omega arith)
enough heap way (suc fuel) r None d k lt = refl
enough heap way (suc fuel) r (Some n) d k lt =
    let w : Walker = λ b to j i. walk heap way fuel b to j i in
    let v : Walker = λ b to j i. walk heap way (suc fuel) b to j i in
    then_same {A = Node × List ℕ} (enter heap way w r n d k) (enter heap way v r n d k) (λ entry. w entry.1 entry.0.fields.next d k) (λ entry. v entry.1 entry.0.fields.next d k)
    (pointwise (node_reached heap way r n d k) _ _ (λ node is.
    let p = passes heap way r n d k node is in
    let less : unreached heap (r ++ n ∷ []) < unreached heap r = unreached_less heap r n node p.live p.new in
    ap (result_map {B = Node × List ℕ} (λ names. (node, names))) (in_turn_same heap fuel (λ b to i. w b to (d + 1) i) (λ b to i. v b to (d + 1) i)
    (λ b to i below. enough heap way fuel b to (d + 1) i below) (λ b to i names x. walk_extends heap way (suc fuel) b to (d + 1) i names x) (r ++ n ∷ []) (entered way node.fields.contents) (omega arith))))
    (λ entry is.
    let e = enter_extends heap way v (walk_extends heap way (suc fuel)) r n d k entry is in
    let less : unreached heap (r ++ n ∷ []) < unreached heap r = unreached_less heap r n entry.0 e.0.live e.0.new in
    let fewer : unreached heap entry.1 ≤ unreached heap (r ++ n ∷ []) = unreached_falls heap (r ++ n ∷ []) entry.1 e.1 in
    enough heap way fuel entry.1 entry.0.fields.next d k (omega arith))

later : (heap : Heap) (way : Way) (more : ℕ) (r : List ℕ) (n : Option ℕ) (d : ℕ) (k : ListKind) → walk heap way (more + fuel_of heap) r n d k ≡ walk heap way (fuel_of heap) r n d k
later heap way zero r n d k = ap (λ t. walk heap way t r n d k) (zero-add (fuel_of heap))
later heap way (suc more) r n d k =
    let most : unreached heap r < fuel_of heap = unreached_most heap r in
    let below : unreached heap r < more + fuel_of heap = omega arith in
    ap (λ t. walk heap way t r n d k) (suc-add more (fuel_of heap)) ∙ sym (enough heap way (more + fuel_of heap) r n d k below) ∙ later heap way more r n d k

-- more fuel than there are live nodes changes nothing
pub fuel_enough : (heap : Heap) (way : Way) (more : ℕ) (r : List ℕ) (n : Option ℕ) (d : ℕ) (k : ListKind) → walk heap way (fuel_of heap + more) r n d k ≡ walk heap way (fuel_of heap) r n d k
fuel_enough heap way more r n d k = ap (λ t. walk heap way t r n d k) (add_comm (fuel_of heap) more) ∙ later heap way more r n d k
