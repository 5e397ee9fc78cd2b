-- The chain of a list goes on through the discretionaries that were made in its gaps.
use Rattle.std.proofs.Common.{◌≡◌, ℕ, ◌+◌, ◌<◌, ◌≤◌, List, [], ◌∷◌, ◌++◌, Bool, true, false, cond, Some, refl, sym, ◌∙◌, ap, subst, inl, inr, arith}
use Rattle.std.specs.Prelude.{Option, nat_eq, ◌⊎◌}
use Rattle.std.specs.Option.{option_map}
use Rattle.std.specs.FinMap as map
use Rattle.std.proofs.lemmas.Bool.{eqb-true}
use Rattle.ntx_num.proofs.Answers.{same_Some}
use Rattle.ntx_nodes.specs.Heap.{Heap, IsLawful}
use Rattle.ntx_nodes.specs.declared.node.Node.{Node}
use Rattle.ntx_nodes.proofs.Walks.{nat_eq_same}
use Rattle.ntx_hyph.specs.Hyphenation.{hyphen_fields}
use Rattle.ntx_hyph.specs.Laws.{whole_disc_fields, worn_like, followed_by, record_at, disc_after, with_discs}
use Rattle.ntx_hyph.specs.declared.letter.Gap.{Gap}
use Rattle.ntx_hyph.proofs.Chains.{Chain}
use Rattle.ntx_hyph.proofs.OneGap.{below_differs, above_differs}
use Rattle.ntx_hyph.proofs.EachGap.{AreAt, none_chosen}

-- the records of a name and of the discretionaries from a name on
abbrev Records : Heap → Heap → ℕ → ℕ → List Gap → ℕ → Type 0
Records heap new char first gaps n = (q : ℕ) → (q ≡ n) ⊎ (first ≤ q) → map.get new.nodes q ≡ record_at heap char first gaps q

third_chosen : (a b c : Bool) (x y z w : Option Node) → a ≡ false → b ≡ false → c ≡ true → cond a x (cond b y (cond c z w)) ≡ z
third_chosen true b c x y z w p q r = cc
third_chosen false true c x y z w p q r = cc
third_chosen false false true x y z w p q r = refl
third_chosen false false false x y z w p q r = cc

records_on : (heap new : Heap) (char first : ℕ) (gap : Gap) (gaps : List Gap) (n : ℕ) → n < heap.next → heap.next ≤ first → AreAt heap (gap ∷ gaps) → nat_eq n gap.before ≡ false → Records heap new char first (gap ∷ gaps) n → Records heap new char (first + 2) gaps n
records_on heap new char first gap gaps n below high at other records q (inl same) =
    records q (inl same)
    ∙ none_chosen (nat_eq q first) (nat_eq q (first + 1)) (nat_eq q gap.before) _ _ _ (record_at heap char (first + 2) gaps q) (below_differs q first (omega arith)) (below_differs q (first + 1) (omega arith)) (ap (λ k. nat_eq k gap.before) same ∙ other)
records_on heap new char first gap gaps n below high at other records q (inr more) =
    let low : gap.before < heap.next = at.0.below in
    records q (inr (omega arith))
    ∙ none_chosen (nat_eq q first) (nat_eq q (first + 1)) (nat_eq q gap.before) _ _ _ (record_at heap char (first + 2) gaps q) (above_differs q first (omega arith)) (above_differs q (first + 1) (omega arith)) (above_differs q gap.before (omega arith))

hop_at : (heap new : Heap) (char first : ℕ) (gap : Gap) (gaps : List Gap) (n : ℕ) (node : Node) (names : List ℕ) (b : Bool) → nat_eq n gap.before ≡ b → map.get heap.nodes n ≡ Some node → n < heap.next → heap.next ≤ first → AreAt heap (gap ∷ gaps)
    → Records heap new char first (gap ∷ gaps) n → Chain new node.fields.next names → (Records heap new char (first + 2) gaps n → Chain new (Some n) (n ∷ (disc_after (first + 2) gaps n ++ names)))
    → Chain new (Some n) (n ∷ (cond b (first ∷ []) (disc_after (first + 2) gaps n) ++ names))
hop_at heap new char first gap gaps n node names true e there below high at records c rest =
    let here : map.get heap.nodes gap.before ≡ Some node = ap (map.get heap.nodes) (sym (eqb-true n gap.before e)) ∙ there in
    let glyph : at.0.glyph ≡ node = same_Some at.0.glyph node (sym at.0.at ∙ here) in
    let next : node.fields.next ≡ Some gap.after = ap (λ (x : Node). x.fields.next) (sym glyph) ∙ at.0.next in
    let at_glyph : map.get new.nodes n ≡ Some (followed_by first node) =
    records n (inl refl) ∙ third_chosen (nat_eq n first) (nat_eq n (first + 1)) (nat_eq n gap.before) _ _ _ (record_at heap char (first + 2) gaps n) (below_differs n first (omega arith)) (below_differs n (first + 1) (omega arith)) e
    ∙ ap (option_map (followed_by first)) here in
    let rest_at : Option Node = cond (nat_eq first (first + 1)) (option_map (worn_like (hyphen_fields char gap)) (map.get heap.nodes gap.before))
    (cond (nat_eq first gap.before) (option_map (followed_by first) (map.get heap.nodes gap.before)) (record_at heap char (first + 2) gaps first)) in
    let at_disc : map.get new.nodes first ≡ Some (worn_like (whole_disc_fields gap (first + 1)) node) =
    records first (inr (omega arith)) ∙ ap (λ b. cond b (option_map (worn_like (whole_disc_fields gap (first + 1))) (map.get heap.nodes gap.before)) rest_at) (nat_eq_same first)
    ∙ ap (option_map (worn_like (whole_disc_fields gap (first + 1)))) here in
    (followed_by first node, refl, at_glyph, (worn_like (whole_disc_fields gap (first + 1)) node, refl, at_disc, subst (λ h. Chain new h names) next c))
hop_at heap new char first gap gaps n node names false e there below high at records c rest = rest (records_on heap new char first gap gaps n below high at e records)

hop : (heap new : Heap) (char first : ℕ) (gaps : List Gap) (n : ℕ) (node : Node) (names : List ℕ) → map.get heap.nodes n ≡ Some node → n < heap.next → heap.next ≤ first → AreAt heap gaps → Records heap new char first gaps n
    → Chain new node.fields.next names → Chain new (Some n) (n ∷ (disc_after first gaps n ++ names))
hop heap new char first [] n node names there below high at records c = (node, refl, records n (inl refl) ∙ there, c)
hop heap new char first (gap ∷ gaps) n node names there below high at records c =
    hop_at heap new char first gap gaps n node names (nat_eq n gap.before) refl there below high at records c (λ more. hop heap new char (first + 2) gaps n node names there below (omega arith) at.1 more c)

pub chain_on : (heap new : Heap) (char : ℕ) (gaps : List Gap) → IsLawful heap → AreAt heap gaps → ((q : ℕ) → map.get new.nodes q ≡ record_at heap char heap.next gaps q) → (names : List ℕ) (head : Option ℕ) → Chain heap head names
    → Chain new head (with_discs heap.next gaps names)
chain_on heap new char gaps lawful at records [] head c = c
chain_on heap new char gaps lawful at records (n ∷ names) head c =
    subst (λ h. Chain new h (with_discs heap.next gaps (n ∷ names))) (sym c.1)
    (hop heap new char heap.next gaps n c.0 (with_discs heap.next gaps names) c.2 (lawful.names n c.0 c.2) (omega arith) at (λ q _. records q) (chain_on heap new char gaps lawful at records names c.0.fields.next c.3))
