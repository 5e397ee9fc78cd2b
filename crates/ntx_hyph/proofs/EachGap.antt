-- What is there after discretionaries were made in one gap after another.
use Rattle.std.proofs.Common.{◌≡◌, ℕ, ◌+◌, ◌*◌, ◌<◌, ◌≤◌, List, [], ◌∷◌, length, Bool, true, false, cond, Some, Ok, refl, sym, ◌∙◌, ap, subst, arith}
use Rattle.std.specs.Prelude.{Option, nat_eq}
use Rattle.std.specs.Option.{option_map}
use Rattle.std.specs.FinMap as map
use Rattle.std.proofs.lemmas.Bool.{eqb-true}
use Rattle.std.proofs.lemmas.Bool.Decides.{nat_tests}
use Rattle.ntx_nodes.specs.Heap.{Heap}
use Rattle.ntx_nodes.specs.declared.node.Node.{Node}
use Rattle.ntx_nodes.specs.declared.trouble.Trouble.{Trouble}
use Rattle.ntx_num.specs.Trace.{Trace, each_in_turn}
use Rattle.ntx_hyph.specs.Hyphenation.{hyphen_fields, hyphenated}
use Rattle.ntx_hyph.specs.Laws.{whole_disc_fields, worn_like, followed_by, record_at, AreMade}
use Rattle.ntx_hyph.specs.declared.letter.Gap.{Gap}
use Rattle.ntx_hyph.proofs.OneGap.{went_well, below_differs, above_differs, OneMade, one_made}

-- ---- the glyphs before gaps
-- a name is none of theirs
abbrev pub Differs : ℕ → List Gap → Type 0
Differs n [] = Unit {0}
Differs n (gap ∷ gaps) = (nat_eq n gap.before ≡ false) × Differs n gaps

abbrev pub AreApart : List Gap → Type 0
AreApart [] = Unit {0}
AreApart (gap ∷ gaps) = Differs gap.before gaps × AreApart gaps

-- the glyph is in the heap, and the one after the gap follows
pub record IsAt (heap : Heap) (gap : Gap) : Type 0 where
  pub glyph : Node
  pub at : map.get heap.nodes gap.before ≡ Some glyph
  pub below : gap.before < heap.next
  pub next : glyph.fields.next ≡ Some gap.after

abbrev pub AreAt : Heap → List Gap → Type 0
AreAt heap [] = Unit {0}
AreAt heap (gap ∷ gaps) = IsAt heap gap × AreAt heap gaps

-- two heaps have the same there
abbrev Agree : Heap → Heap → List Gap → Type 0
Agree a b [] = Unit {0}
Agree a b (gap ∷ gaps) = (map.get a.nodes gap.before ≡ map.get b.nodes gap.before) × Agree a b gaps

differs_above : (heap : Heap) (n : ℕ) (gaps : List Gap) → heap.next ≤ n → AreAt heap gaps → Differs n gaps
differs_above heap n [] h at = tt
differs_above heap n (gap ∷ gaps) h at =
    let below : gap.before < heap.next = at.0.below in
    (above_differs n gap.before (omega arith), differs_above heap n gaps h at.1)

flipped : (q k : ℕ) → nat_eq q k ≡ false → nat_eq k q ≡ false
flipped q k h = grind (arith, nat_tests)

-- ---- choices
pub none_chosen : (a b c : Bool) (x y z w : Option Node) → a ≡ false → b ≡ false → c ≡ false → cond a x (cond b y (cond c z w)) ≡ w
none_chosen true b c x y z w p q r = cc
none_chosen false true c x y z w p q r = cc
none_chosen false false true x y z w p q r = cc
none_chosen false false false x y z w p q r = refl

one_chosen : (a b c : Bool) (x y z w v : Option Node) → (a ≡ false → b ≡ false → c ≡ false → ⊥) → cond a x (cond b y (cond c z w)) ≡ cond a x (cond b y (cond c z v))
one_chosen true b c x y z w v h = refl
one_chosen false true c x y z w v h = refl
one_chosen false false true x y z w v h = refl
one_chosen false false false x y z w v h = absurd (h refl refl refl)

-- ---- records
-- a name that no gap concerns
missed : (heap : Heap) (char first : ℕ) (gaps : List Gap) (n : ℕ) → n < first → Differs n gaps → record_at heap char first gaps n ≡ map.get heap.nodes n
missed heap char first [] n h d = refl
missed heap char first (gap ∷ gaps) n h d =
    none_chosen (nat_eq n first) (nat_eq n (first + 1)) (nat_eq n gap.before) _ _ _ (record_at heap char (first + 2) gaps n) (below_differs n first h) (below_differs n (first + 1) (omega arith)) d.0
    ∙ missed heap char (first + 2) gaps n (omega arith) d.1

same_record : (a b : Heap) (char first : ℕ) (gaps : List Gap) (n : ℕ) → Agree a b gaps → map.get a.nodes n ≡ map.get b.nodes n → record_at a char first gaps n ≡ record_at b char first gaps n
same_record a b char first [] n g e = e
same_record a b char first (gap ∷ gaps) n g e =
    let same = g.0 in
    let rest = same_record a b char (first + 2) gaps n g.1 e in
    λ i. cond (nat_eq n first) (option_map (worn_like (whole_disc_fields gap (first + 1))) (same i))
    (cond (nat_eq n (first + 1)) (option_map (worn_like (hyphen_fields char gap)) (same i)) (cond (nat_eq n gap.before) (option_map (followed_by first) (same i)) (rest i)))

-- ---- one gap, and then the others
agree_after : (heap new : Heap) (char : ℕ) (gap : Gap) (glyph : Node) (gaps : List Gap) → OneMade heap new char gap glyph → Differs gap.before gaps → AreAt heap gaps → Agree new heap gaps
agree_after heap new char gap glyph [] m d at = tt
agree_after heap new char gap glyph (next ∷ gaps) m d at =
    let below : next.before < heap.next = at.0.below in (
      m.records next.before
          ∙ none_chosen (nat_eq next.before heap.next) (nat_eq next.before (heap.next + 1)) (nat_eq next.before gap.before) _ _ _ (map.get heap.nodes next.before)
          (below_differs next.before heap.next below) (below_differs next.before (heap.next + 1) (omega arith)) (flipped gap.before next.before d.0),
      agree_after heap new char gap glyph gaps m d.1 at.1,
    )

at_after : (heap new : Heap) (gaps : List Gap) → heap.next ≤ new.next → Agree new heap gaps → AreAt heap gaps → AreAt new gaps
at_after heap new [] h g at = tt
at_after heap new (gap ∷ gaps) h g at =
    let below : gap.before < heap.next = at.0.below in
    (record { glyph = at.0.glyph; at = g.0 ∙ at.0.at; below = omega arith; next = at.0.next }, at_after heap new gaps h g.1 at.1)

-- a name that the first gap concerns
record_here : (heap new : Heap) (char : ℕ) (gap : Gap) (glyph : Node) (gaps : List Gap) (n : ℕ) → map.get heap.nodes gap.before ≡ Some glyph → OneMade heap new char gap glyph → n < heap.next + 2 → Differs n gaps
    → (nat_eq n heap.next ≡ false → nat_eq n (heap.next + 1) ≡ false → nat_eq n gap.before ≡ false → ⊥) → record_at new char (heap.next + 2) gaps n ≡ record_at heap char heap.next (gap ∷ gaps) n
record_here heap new char gap glyph gaps n there m low d one =
    let from = sym there in
    let a : Bool = nat_eq n heap.next in
    let b : Bool = nat_eq n (heap.next + 1) in
    let c : Bool = nat_eq n gap.before in
    missed new char (heap.next + 2) gaps n low d ∙ m.records n
    ∙ (λ i. cond a (option_map (worn_like (whole_disc_fields gap (heap.next + 1))) (from i)) (cond b (option_map (worn_like (hyphen_fields char gap)) (from i)) (cond c (option_map (followed_by heap.next) (from i)) (map.get heap.nodes n))))
    ∙ one_chosen a b c _ _ _ (map.get heap.nodes n) (record_at heap char (heap.next + 2) gaps n) one

-- and any other
record_other : (heap new : Heap) (char : ℕ) (gap : Gap) (glyph : Node) (gaps : List Gap) (n : ℕ) → OneMade heap new char gap glyph → Agree new heap gaps → nat_eq n heap.next ≡ false → nat_eq n (heap.next + 1) ≡ false → nat_eq n gap.before ≡ false
    → record_at new char (heap.next + 2) gaps n ≡ record_at heap char heap.next (gap ∷ gaps) n
record_other heap new char gap glyph gaps n m g p q r =
    same_record new heap char (heap.next + 2) gaps n g (m.records n ∙ none_chosen (nat_eq n heap.next) (nat_eq n (heap.next + 1)) (nat_eq n gap.before) _ _ _ (map.get heap.nodes n) p q r)
    ∙ sym (none_chosen (nat_eq n heap.next) (nat_eq n (heap.next + 1)) (nat_eq n gap.before) _ _ _ (record_at heap char (heap.next + 2) gaps n) p q r)

record_after : (heap new : Heap) (char : ℕ) (gap : Gap) (glyph : Node) (gaps : List Gap) (n : ℕ) → map.get heap.nodes gap.before ≡ Some glyph → gap.before < heap.next → OneMade heap new char gap glyph → Differs gap.before gaps → AreAt heap gaps
    → (a b c : Bool) → nat_eq n heap.next ≡ a → nat_eq n (heap.next + 1) ≡ b → nat_eq n gap.before ≡ c → record_at new char (heap.next + 2) gaps n ≡ record_at heap char heap.next (gap ∷ gaps) n
record_after heap new char gap glyph gaps n there below m d at true b c p q r =
    let same : n ≡ heap.next = eqb-true n heap.next p in
    record_here heap new char gap glyph gaps n there m (omega arith) (differs_above heap n gaps (omega arith) at) (λ x _ _. cc)
record_after heap new char gap glyph gaps n there below m d at false true c p q r =
    let same : n ≡ heap.next + 1 = eqb-true n (heap.next + 1) q in
    record_here heap new char gap glyph gaps n there m (omega arith) (differs_above heap n gaps (omega arith) at) (λ _ x _. cc)
record_after heap new char gap glyph gaps n there below m d at false false true p q r =
    let same : n ≡ gap.before = eqb-true n gap.before r in
    record_here heap new char gap glyph gaps n there m (omega arith) (subst (λ k. Differs k gaps) (sym same) d) (λ _ _ x. cc)
record_after heap new char gap glyph gaps n there below m d at false false false p q r = record_other heap new char gap glyph gaps n m (agree_after heap new char gap glyph gaps m d at) p q r

pub each_made : (char : ℕ) (gaps : List Gap) (heap : Heap) → AreApart gaps → AreAt heap gaps → (each_in_turn (hyphenated char) gaps heap).ending ≡ Ok tt → AreMade heap (each_in_turn (hyphenated char) gaps heap).last char gaps
each_made char [] heap apart at e = record { records = λ n. refl; next = omega arith; current = refl }
each_made char (gap ∷ gaps) heap apart at e =
    let first = hyphenated char gap heap in
    let new : Heap = first.last in
    let f : Unit {0} → Heap → Trace Heap (Unit {0}) Trouble = λ _ t. each_in_turn (hyphenated char) gaps t in
    let w = went_well first.earlier new first.ending f tt e in
    let m = one_made heap char gap at.0.glyph at.0.below at.0.at w.is in
    let higher : new.next ≡ heap.next + 2 = m.next in
    let rest = each_made char gaps new apart.1 (at_after heap new gaps (omega arith) (agree_after heap new char gap at.0.glyph gaps m apart.0 at.1) at.1) w.gives in
    let after : (f tt new).last.next ≡ new.next + 2 * length gaps = rest.next in
    record {
      records = λ n.
          ap (λ (h : Heap). map.get h.nodes n) w.ends ∙ rest.records n ∙ ap (λ k. record_at new char k gaps n) m.next
          ∙ record_after heap new char gap at.0.glyph gaps n at.0.at at.0.below m apart.0 at.1 (nat_eq n heap.next) (nat_eq n (heap.next + 1)) (nat_eq n gap.before) refl refl refl;
      next = ap (λ (h : Heap). h.next) w.ends ∙ omega arith;
      current = ap (λ (h : Heap). h.current) w.ends ∙ rest.current ∙ m.current;
    }
