-- Copies that are freed again.
use Rattle.std.proofs.Common.{◌≡◌, ℕ, ◌+◌, ◌≤◌, ◌<◌, length, List, Bool, true, false, cond, Some, None, Ok, Err, refl, sym, ◌∙◌, ap, subst, inl, inr, arith}
use Rattle.std.specs.Prelude.{Option, Result, is_some, nat_eq}
use Rattle.std.specs.Cmp.{nat_cmp_total, unsigned_tied}
use Rattle.std.specs.FinMap as map
use Rattle.std.proofs.lemmas.Bool.{cases_lt}
use Rattle.std.proofs.lemmas.Bool.Decides.{nat_tests}
use Rattle.ntx_num.specs.Answer.{StepsAtOnce}
use Rattle.ntx_nodes.specs.Heap.{Heap, IsLawful}
use Rattle.ntx_nodes.specs.Steps.{of_found, copy_of, free_one_step}
use Rattle.ntx_nodes.specs.declared.node.Node.{Node}
use Rattle.ntx_nodes.specs.declared.trouble.Trouble.{Trouble}
use Rattle.ntx_nodes.proofs.Walks.{nat_eq_same}
use Rattle.ntx_lists.specs.Copies.{moved_on}
use Rattle.ntx_lists.specs.Copying.{bare, AllLive, HasFreed, FreesRun}
use Rattle.ntx_lists.proofs.Trees.{freed_is}
use Rattle.ntx_lists.proofs.CopyMaps.{Map, not_given, copies_below, copies_above, copies_stand}

-- ---- one node after another
get_left : (nodes : Map) (k q : ℕ) → map.get (map.remove nodes k) q ≡ cond (nat_eq q k) None (map.get nodes q)
get_left nodes k q = map.get-remove nat_cmp_total nodes k q ∙ ap (λ b. cond b None (map.get nodes q)) (unsigned_tied q k)

none_both : (b : Bool) (o : Option Node) → o ≡ None → cond b None o ≡ None
none_both true o e = refl
none_both false o e = e

left_other : (nodes : Map) (k q : ℕ) → nat_eq q k ≡ false → map.get (map.remove nodes k) q ≡ map.get nodes q
left_other nodes k q e = get_left nodes k q ∙ ap (λ b. cond b None (map.get nodes q)) e

differs_below : (q k : ℕ) → q < k → nat_eq q k ≡ false
differs_below q k h = grind (arith, nat_tests)

differs_above : (q k : ℕ) → k < q → nat_eq q k ≡ false
differs_above q k h = grind (arith, nat_tests)

pub freed_begun : (heap : Heap) (first : ℕ) → HasFreed heap heap first first
freed_begun heap first = record { order = omega arith; gone = λ q low high. absurd (omega arith); below = λ q h. refl; above = λ q h. refl; next = refl; current = refl }

gone_with : (h : Heap) (first n q : ℕ) → ((p : ℕ) → first ≤ p → p < n → map.get h.nodes p ≡ None) → first ≤ q → q < n + 1 → map.get (map.remove h.nodes n) q ≡ None
gone_with h first n q gone low high =
    elim (cases_lt q n) [
      | inl less ↦ get_left h.nodes n q ∙ none_both (nat_eq q n) (map.get h.nodes q) (gone q low less)
      | inr more ↦
          let same : q ≡ n = omega arith in
          get_left h.nodes n q ∙ ap (λ b. cond b None (map.get h.nodes q)) (subst (λ x. nat_eq q x ≡ true) same (nat_eq_same q))
    ]

pub freed_on : (old h h1 : Heap) (first n : ℕ) (u : Unit {0}) → HasFreed old h first n → free_one_step n h ≡ Ok (u, h1) → HasFreed old h1 first (n + 1)
freed_on old h h1 first n u f e =
    let order : first ≤ n = f.order in
    let is = (freed_is h h1 n u e).2 in
    subst (λ (x : Heap). HasFreed old x first (n + 1)) is (record {
      order = omega arith;
      gone = λ q low high. gone_with h first n q f.gone low high;
      below = λ q less. left_other h.nodes n q (differs_below q n (omega arith)) ∙ f.below q less;
      above = λ q more. left_other h.nodes n q (differs_above q n (omega arith)) ∙ f.above q (omega arith);
      next = f.next;
      current = f.current;
    })

pub freed_low : (h h1 : Heap) (n : ℕ) (u : Unit {0}) → IsLawful h → free_one_step n h ≡ Ok (u, h1) → n < h.next
freed_low h h1 n u lawful e = let f = freed_is h h1 n u e in lawful.names n f.0 f.1

dead_is : (n : ℕ) (why : Trouble) (o : Option Node) (f : Node → Result (Unit {0} × Heap) Trouble) → ((node : Node) → f node ≡ Err why → ⊥) → of_found n f o ≡ Err why → o ≡ None
dead_is n why None f h e = refl
dead_is n why (Some node) f h e = absurd (h node e)

pub freed_ended : (old h h1 : Heap) (first n : ℕ) (why : Trouble) → HasFreed old h first n → StepsAtOnce {A = Unit {0}} (Err why) h h1 (free_one_step n h) → FreesRun old h1 first
freed_ended old h h1 first n why f s =
    let dead : map.get h.nodes n ≡ None = dead_is n why (map.get h.nodes n) (λ _. Ok (tt, record h { nodes = map.remove h.nodes n })) (λ node x. cc) s.0 in
    (n, subst (λ (x : Heap). HasFreed old x first n) (sym s.1) f, sym (f.above n (omega arith)) ∙ dead)

-- ---- all is as before
was_none : (o : Option Node) → is_some o ≡ true → o ≡ None → ⊥
was_none o live none = cc

gone_again : (whole new : Heap) (made : List ℕ) (last q : ℕ) → IsLawful whole → AllLive whole made → HasFreed (bare whole made) new whole.next last → map.get (bare whole made).nodes last ≡ None → whole.next ≤ q → map.get new.nodes q ≡ None
gone_again whole new made last q lawful live f dead low =
    let order : whole.next ≤ last = f.order in
    elim (cases_lt q last) [
      | inl less ↦ f.gone q low less
      | inr more ↦ elim (cases_lt q (whole.next + length made)) [
        | inl inside ↦ absurd (was_none _ (copies_stand whole (λ _ node. copy_of node) made last live order (omega arith)) dead)
        | inr outside ↦ f.above q more ∙ copies_above whole (λ _ node. copy_of node) made q lawful outside
      ]
    ]

as_before : (whole new : Heap) (made : List ℕ) (last q : ℕ) → IsLawful whole → AllLive whole made → HasFreed (bare whole made) new whole.next last → map.get (bare whole made).nodes last ≡ None → map.get new.nodes q ≡ map.get whole.nodes q
as_before whole new made last q lawful live f dead =
    elim (cases_lt q whole.next) [
      | inl less ↦ f.below q less ∙ copies_below whole (λ _ node. copy_of node) made q less
      | inr more ↦ gone_again whole new made last q lawful live f dead more ∙ sym (not_given whole q lawful more)
    ]

pub freed_back : (whole h new : Heap) (made : List ℕ) (first : ℕ) → IsLawful whole → AllLive whole made → h ≡ bare whole made → first ≡ whole.next → FreesRun h new first → new ≡ moved_on whole (length made)
freed_back whole h new made first lawful live is at frees =
    let f = subst (λ x. FreesRun (bare whole made) new x) at (subst (λ x. FreesRun x new first) is frees) in
    let nodes : new.nodes ≡ whole.nodes = map.same_map nat_cmp_total map.nat_cmp-IsAntisymmetric _ _ (λ q. as_before whole new made f.0 q lawful live f.1 f.2) in
    λ i. record { next = f.1.next i; nodes = nodes i; current = f.1.current i }
