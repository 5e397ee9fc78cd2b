-- Laws of walks.
use Rattle.std.proofs.Common.{◌≡◌, ℕ, suc, ◌+◌, ◌≤◌, ◌<◌, List, [], ◌∷◌, ◌++◌, Bool, true, false, cond, length, Some, Ok, refl, sym, ◌∙◌, ap, subst, arith}
use Rattle.std.specs.Prelude.{Option, Result, not, ◌||◌, nat_eq}
use Rattle.std.specs.Option.{option_map}
use Rattle.std.specs.Ordering.{nat_cmp, eq_by_cmp}
use Rattle.std.specs.Cmp.{nat_cmp_total, unsigned_tied, Equal-is}
use Rattle.std.specs.FinMap as map
use Rattle.std.specs.FinSet as set
use Rattle.ntx_nodes.specs.Fields.{kind_of}
use Rattle.ntx_nodes.specs.Heap.{Heap, Names}
use Rattle.ntx_nodes.specs.Steps.{fields_answer, visit_step}
use Rattle.ntx_nodes.specs.Walk.{is_reached, is_too_deep, admits, node_reached}
use Rattle.ntx_nodes.specs.Walker.{onward_of, Marks, Comes, failing, unvisited, Keeps}
use Rattle.ntx_nodes.specs.declared.kind.ListKind.{ListKind}
use Rattle.ntx_nodes.specs.declared.kind.Way.{Way}
use Rattle.ntx_nodes.specs.declared.fields.Fields.{Fields}
use Rattle.ntx_nodes.specs.declared.walk.Onward.{Onward}
use Rattle.ntx_nodes.specs.declared.node.Node.{Node}
use Rattle.std.proofs.lemmas.List.Folds.{list_any-append}
use Rattle.std.proofs.lemmas.Bool.Decides.{nat_tests}
use Rattle.ntx_num.proofs.Answers.{same_Ok}
use Rattle.ntx_nodes.proofs.Oks.{at_Ok}

pub nat_eq_same : (n : ℕ) → nat_eq n n ≡ true
nat_eq_same n = grind (arith, nat_tests)

-- ---- names reached
pub or_true : (a : Bool) → (a || true) ≡ true
or_true true = refl
or_true false = refl

swap_or : (a b : Bool) → (a || (b || false)) ≡ (b || a)
swap_or true true = refl
swap_or true false = refl
swap_or false true = refl
swap_or false false = refl

pub is_reached-append : (before more : List ℕ) (q : ℕ) → is_reached (before ++ more) q ≡ (is_reached before q || is_reached more q)
is_reached-append before more q = list_any-append (nat_eq q) before more

pub marks_more : (v : Names) (before : List ℕ) (n : ℕ) → Marks v before → Marks (set.insert v n) (before ++ n ∷ [])
marks_more v before n h q =
    set.contains-insert nat_cmp_total v n q ∙ (λ i. unsigned_tied q n i || h q i)
    ∙ sym (is_reached-append before (n ∷ []) q ∙ swap_or (is_reached before q) (nat_eq q n))

keeps_more : (v : Names) (n : ℕ) → Keeps v (set.insert v n)
keeps_more v n q h = set.contains-insert nat_cmp_total v n q ∙ ap (λ b. eq_by_cmp nat_cmp q n || b) h ∙ or_true (eq_by_cmp nat_cmp q n)

-- ---- live nodes that are left
-- fewer names fail a test that more of them pass
pub falls : (p q : ℕ → Bool) (es : List (ℕ × Node)) → ((n : ℕ) → q n ≡ true → p n ≡ true) → failing p es ≤ failing q es
falls p q [] h = omega arith
falls p q (e ∷ es) h =
    let rest : failing p es ≤ failing q es = falls p q es h in
    elim (q e.0) as (λ b. q e.0 ≡ b → cond (p e.0) 0 1 + failing p es ≤ cond b 0 1 + failing q es) [
      | true ↦ λ t. (let passes : p e.0 ≡ true = h e.0 t in rw passes (omega arith))
      | false ↦ λ t. elim (p e.0) as (λ b. cond b 0 1 + failing p es ≤ 1 + failing q es) [ true ↦ omega arith | false ↦ omega arith ]
    ] refl

pub falls_at : (p q : ℕ → Bool) (es : List (ℕ × Node)) (n : ℕ) (node : Node) → ((m : ℕ) → q m ≡ true → p m ≡ true) → p n ≡ true → q n ≡ false → map.find nat_cmp n es ≡ Some node → failing p es < failing q es
falls_at p q [] n node h pn qn e = cc
falls_at p q (e ∷ es) n node h pn qn is =
    elim (eq_by_cmp nat_cmp n e.0) as (λ b. eq_by_cmp nat_cmp n e.0 ≡ b → cond b (Some e.1) (map.find nat_cmp n es) ≡ Some node → cond (p e.0) 0 1 + failing p es < cond (q e.0) 0 1 + failing q es) [
      | true ↦ λ t _.
          let same : n ≡ e.0 = map.nat_cmp-IsAntisymmetric n e.0 ((Equal-is (nat_cmp n e.0)).0 t) in
          let passes : p e.0 ≡ true = subst (λ m. p m ≡ true) same pn in
          let fails : q e.0 ≡ false = subst (λ m. q m ≡ false) same qn in
          let rest : failing p es ≤ failing q es = falls p q es h in
          rw (passes, fails) (omega arith)
      | false ↦ λ _ there.
          let rest : failing p es < failing q es = falls_at p q es n node h pn qn there in
          elim (q e.0) as (λ b. q e.0 ≡ b → cond (p e.0) 0 1 + failing p es < cond b 0 1 + failing q es) [
            | true ↦ λ t. (let passes : p e.0 ≡ true = h e.0 t in rw passes (omega arith))
            | false ↦ λ t. elim (p e.0) as (λ b. cond b 0 1 + failing p es < 1 + failing q es) [ true ↦ omega arith | false ↦ omega arith ]
          ] refl
    ] refl is

pub failing-le : (p : ℕ → Bool) (es : List (ℕ × Node)) → failing p es ≤ length es
failing-le p [] = omega arith
failing-le p (e ∷ es) =
    let rest : failing p es ≤ length es = failing-le p es in
    elim (p e.0) as (λ b. cond b 0 1 + failing p es ≤ suc (length es)) [ true ↦ omega arith | false ↦ omega arith ]

pub unvisited_falls : (heap : Heap) (v w : Names) → Keeps v w → unvisited heap w ≤ unvisited heap v
unvisited_falls heap v w h = falls (set.contains w) (set.contains v) (map.entries heap.nodes) h

pub unvisited_less : (heap : Heap) (v : Names) (n : ℕ) (node : Node) → map.get heap.nodes n ≡ Some node → set.contains v n ≡ false → unvisited heap (set.insert v n) < unvisited heap v
unvisited_less heap v n node live new =
    falls_at (set.contains (set.insert v n)) (set.contains v) (map.entries heap.nodes) n node (keeps_more v n)
    (set.contains-insert nat_cmp_total v n n ∙ ap (λ b. b || set.contains v n) (unsigned_tied n n ∙ nat_eq_same n)) new (sym (map.get-entries heap.nodes n) ∙ live)

not_true : (b : Bool) → not b ≡ true → b ≡ false
not_true true e = cc
not_true false e = refl

-- the tests at a node that passes them
pub node_reached_Ok : (heap : Heap) (way : Way) (before : List ℕ) (n depth : ℕ) (k : ListKind) (node : Node) → map.get heap.nodes n ≡ Some node → is_reached before n ≡ false → is_too_deep way depth ≡ false → admits way k (kind_of node.fields.contents) ≡ true
    → node_reached heap way before n depth k ≡ Ok node
node_reached_Ok heap way before n depth k node live new shallow kinds = rw (live, new, shallow, kinds) refl

-- ---- a walker comes to a node
pub comes : (heap : Heap) (way : Way) (n depth : ℕ) (k : ListKind) (v w : Names) (old_names new_names : Option (List ℕ)) (fields : Fields) (onward : Onward) (first : Bool)
    → fields_answer n heap ≡ Ok fields → visit_step n heap v ≡ Ok (first, w) → first ≡ true → is_too_deep way depth ≡ false → admits way k (kind_of fields.contents) ≡ true → new_names ≡ option_map (λ names. names ++ n ∷ []) old_names
    → onward ≡ onward_of way fields → Comes heap way n depth k v old_names w new_names onward × (unvisited heap w < unvisited heap v) × Keeps v w
comes heap way n depth k v w old_names new_names fields onward first finds visits is_first shallow kinds hears goes =
    let found = at_Ok {A = Fields} heap n (λ node. Ok node.fields) fields finds in
    let seen = at_Ok {A = Bool × Names} heap n (λ _. Ok (not (set.contains v n), set.insert v n)) (first, w) visits in
    let new : set.contains v n ≡ false = not_true (set.contains v n) (ap (λ p. p.0) (same_Ok _ _ seen.gives) ∙ is_first) in
    let marked : set.insert v n ≡ w = ap (λ p. p.1) (same_Ok _ _ seen.gives) in
    let its_fields : found.node.fields ≡ fields = same_Ok _ _ found.gives in (
      λ before marks. (
        found.node,
        node_reached_Ok heap way before n depth k found.node found.is (sym (marks n) ∙ new) shallow (ap (λ (x : Fields). admits way k (kind_of x.contents)) its_fields ∙ kinds),
        goes ∙ ap (onward_of way) (sym its_fields),
        subst (λ (s : Names). Marks s (before ++ n ∷ [])) marked (marks_more v before n marks),
        hears,
      ),
      subst (λ (s : Names). unvisited heap s < unvisited heap v) marked (unvisited_less heap v n found.node found.is new),
      subst (λ (s : Names). Keeps v s) marked (keeps_more v n),
    )
