-- What the pass over a list leaves.
use Rattle.std.proofs.Common.{◌≡◌, ℕ, List, [], ◌∷◌, ◌++◌, Bool, true, false, Some, Ok, refl, sym, ◌∙◌, ap, subst, append_assoc, append-nil}
use Rattle.std.specs.Prelude.{Option, nat_eq, ◌||◌}
use Rattle.std.specs.FinMap as fin
use Rattle.std.proofs.lemmas.Bool.{eqb-true, or_left}
use Rattle.ntx_num.proofs.Answers.{went_Ok}
use Rattle.ntx_nodes.specs.Heap.{Heap, IsLawful}
use Rattle.ntx_nodes.specs.Walk.{is_reached, checked_walk, flat_walk}
use Rattle.ntx_nodes.specs.WalkLaws.{AreFresh}
use Rattle.ntx_nodes.specs.declared.kind.ListKind.TheVariants.{H}
use Rattle.ntx_nodes.specs.declared.node.Node.{Node}
use Rattle.ntx_nodes.proofs.Fuel.{last_reached}
use Rattle.ntx_nodes.proofs.Walks.{is_reached-append}
use Rattle.ntx_item.specs.Settings.{Settings}
use Rattle.ntx_num.specs.Trace.{each_in_turn}
use Rattle.ntx_hyph.specs.Hyphenation.{Points, points_with, list_names, hyphen_char, hyphens, hyphenated, hyphenated_list, hyphenation}
use Rattle.ntx_hyph.specs.Laws.{Ascend, gaps_of, with_discs, IsHyphenated}
use Rattle.ntx_hyph.specs.declared.letter.Gap.{Gap}
use Rattle.ntx_hyph.proofs.Chains.{Chain, chain_later, chain_of, chain_fresh, chain_walks}
use Rattle.ntx_hyph.proofs.DiscWalks.{chain_on}
use Rattle.ntx_hyph.proofs.GapOrder.{InOrder, in_order}
use Rattle.ntx_hyph.proofs.EachGap.{Differs, AreApart, AreAt, each_made}

-- ---- fresh names
no_either : (a b : Bool) → (a || b) ≡ false → (a ≡ false) × (b ≡ false)
no_either true b e = cc
no_either false b e = (refl, e)

fresh_later : (heap : Heap) (r front names : List ℕ) → AreFresh heap r (front ++ names) → AreFresh heap (r ++ front) names
fresh_later heap r [] names f = subst (λ x. AreFresh heap x names) (sym (append-nil r)) f
fresh_later heap r (n ∷ front) names f = subst (λ x. AreFresh heap x names) (append_assoc r (n ∷ []) front) (fresh_later heap (r ++ n ∷ []) front names f.2)

neither : (a b : Bool) → a ≡ false → b ≡ false → (a || b) ≡ false
neither a b p q = ap (λ x. x || b) p ∙ q

other_name : (r : List ℕ) (q n : ℕ) (b : Bool) → nat_eq q n ≡ b → is_reached r q ≡ true → is_reached r n ≡ false → nat_eq q n ≡ false
other_name r q n true e in_r out = let same = ap (is_reached r) (eqb-true q n e) in cc
other_name r q n false e in_r out = e

-- what was reached before is not among them
fresh_out : (heap : Heap) (r names : List ℕ) (q : ℕ) → AreFresh heap r names → is_reached r q ≡ true → is_reached names q ≡ false
fresh_out heap r [] q f h = refl
fresh_out heap r (n ∷ names) q f h =
    neither (nat_eq q n) (is_reached names q) (other_name r q n (nat_eq q n) refl h f.1)
    (fresh_out heap (r ++ n ∷ []) names q f.2 (is_reached-append r (n ∷ []) q ∙ or_left (is_reached r q) (is_reached (n ∷ []) q) h))

-- ---- gaps between them
differs_in : (gaps : List Gap) (names : List ℕ) (n : ℕ) → InOrder gaps names → is_reached names n ≡ false → Differs n gaps
differs_in [] names n o h = tt
differs_in (gap ∷ gaps) names n o h =
    let tail : List ℕ = gap.before ∷ gap.after ∷ o.1 in
    let parts = no_either (is_reached o.0 n) (is_reached tail n) (sym (is_reached-append o.0 tail n) ∙ ap (λ x. is_reached x n) (sym o.2) ∙ h) in
    let ends = no_either (nat_eq n gap.before) (is_reached (gap.after ∷ o.1) n) parts.1 in
    (ends.0, differs_in gaps (gap.after ∷ o.1) n o.3 ends.1)

gaps_stand : (heap : Heap) (gaps : List Gap) (r names : List ℕ) (head : Option ℕ) → IsLawful heap → AreFresh heap r names → Chain heap head names → InOrder gaps names → AreApart gaps × AreAt heap gaps
gaps_stand heap [] r names head lawful f c o = (tt, tt)
gaps_stand heap (gap ∷ gaps) r names head lawful f c o =
    let g = fresh_later heap r o.0 (gap.before ∷ gap.after ∷ o.1) (subst (AreFresh heap r) o.2 f) in
    let l = chain_later heap head o.0 (gap.before ∷ gap.after ∷ o.1) (subst (Chain heap head) o.2 c) in
    let glyph : Node = l.1.0 in
    let at : fin.get heap.nodes gap.before ≡ Some glyph = l.1.2 in
    let rest = gaps_stand heap gaps ((r ++ o.0) ++ gap.before ∷ []) (gap.after ∷ o.1) glyph.fields.next lawful g.2 l.1.3 o.3 in
    let out = fresh_out heap ((r ++ o.0) ++ gap.before ∷ []) (gap.after ∷ o.1) gap.before g.2 (last_reached (r ++ o.0) gap.before) in
    ((differs_in gaps (gap.after ∷ o.1) gap.before o.3 out, rest.0), (record { glyph = glyph; at = at; below = lawful.names gap.before glyph at; next = l.1.3.1 }, rest.1))

-- ---- the law
pub whole_lists : (points : Points) (s : Settings) (heap : Heap) (head char : ℕ) (names : List ℕ) → Ascend points → IsLawful heap → list_names heap head ≡ Ok names → hyphen_char s.hyphenchar ≡ Some char
    → (hyphenation points s head heap).ending ≡ Ok tt → IsHyphenated heap (hyphenation points s head heap).last head char (gaps_of points s heap names) names
whole_lists points s heap head char names ascend lawful e hyphen ends =
    let gaps : List Gap = gaps_of points s heap names in
    let is : hyphenation points s head heap ≡ each_in_turn (hyphenated char) gaps heap = ap (λ r. hyphenated_list points s r heap) e ∙ ap (λ o. hyphens o gaps heap) hyphen in
    let walked = went_Ok (λ _. flat_walk heap (Some head)) (checked_walk heap (Some head) H) names e in
    let chain = chain_of heap (Some head) names walked.gives in
    let order = in_order heap (points_with points s) names (λ word. ascend word _ _) in
    let stand = gaps_stand heap gaps [] names (Some head) lawful (chain_fresh heap (Some head) names chain) chain order in
    let last = each_in_turn (hyphenated char) gaps heap in
    let made = each_made char gaps heap stand.0 stand.1 (sym (ap (λ t. t.ending) is) ∙ ends) in
    let list = chain_walks last.last (Some head) (with_discs heap.next gaps names) (chain_on heap last.last char gaps lawful stand.1 made.records names (Some head) chain) in
    subst (λ t. IsHyphenated heap t.last head char gaps names) (sym is) (record { made = made; list = list })
