-- How the pass over a list ends.
use Rattle.std.proofs.Common.{◌≡◌, ℕ, List, map, Some, None, Ok, Err, inl, inr, sym, ◌∙◌, ap, subst}
use Rattle.std.specs.Prelude.{Option, Result}
use Rattle.ntx_num.specs.Answer.{Answers}
use Rattle.ntx_num.specs.declared.answer.Fail.{Fail}
use Rattle.ntx_num.specs.declared.answer.Fail.TheVariants.{NoMemory, Is}
use Rattle.ntx_nodes.specs.Heap.{Heap}
use Rattle.ntx_nodes.specs.declared.trouble.Trouble.{Trouble}
use Rattle.ntx_item.specs.Settings.{Settings}
use Rattle.ntx_patterns.specs.Pattern.{Pattern}
use Rattle.ntx_patterns.specs.Points.{points_in, points_of}
use Rattle.ntx_patterns.specs.Table.{Table, table_of}
use Rattle.ntx_patterns.proofs.PairsLemmas.{points_agree}
use Rattle.ntx_num.specs.Trace.{each_in_turn, EndsAs}
use Rattle.ntx_lists.specs.MadeNodes.{RefusesMakings, RefusesAs}
use Rattle.ntx_hyph.specs.Words.{letter_at, gaps_in}
use Rattle.ntx_hyph.specs.Hyphenation.{Points, points_with, list_names, hyphen_char, hyphens, hyphenated, hyphenated_list, hyphenation}
use Rattle.ntx_hyph.specs.declared.letter.Gap.{Gap}
use Rattle.ntx_num.proofs.Traces.{Begins, begins_stays, begins_each, passes_first}
use Rattle.ntx_hyph.proofs.Hyphens.{begins_hyphenated}
use Rattle.ntx_hyph.proofs.FlatWalks.{list_refused}

-- the same points from the table and by all pairs
pub points_same : (patterns : List Pattern) (t : Table) → t ≡ table_of patterns → points_in t ≡ points_of patterns
points_same patterns t e = λ i word left right. points_agree patterns t word left right e i

begins_hyphens : (o : Option ℕ) (gaps : List Gap) (heap : Heap) → Begins (hyphens o gaps heap) heap
begins_hyphens None gaps heap = begins_stays heap (Ok tt)
begins_hyphens (Some char) gaps heap = begins_each (hyphenated char) gaps heap (begins_hyphenated char)

begins_list : (points : Points) (s : Settings) (r : Result (List ℕ) Trouble) (heap : Heap) → Begins (hyphenated_list points s r heap) heap
begins_list points s (Err why) heap = begins_stays heap (Err why)
begins_list points s (Ok names) heap = begins_hyphens (hyphen_char s.hyphenchar) (gaps_in (points_with points s) (map (letter_at heap) names)) heap

abbrev gaps_at : Points → Settings → List ℕ → Heap → List Gap
gaps_at points s names heap = gaps_in (points_with points s) (map (letter_at heap) names)

-- the trace where the list has these nodes
listed : (points : Points) (s : Settings) (head : ℕ) (heap : Heap) (names : List ℕ) (o : Option ℕ) → list_names heap head ≡ Ok names → o ≡ hyphen_char s.hyphenchar → hyphenation points s head heap ≡ hyphens o (gaps_at points s names heap) heap
listed points s head heap names o e c = ap (λ r. hyphenated_list points s r heap) e ∙ ap (λ x. hyphens x (gaps_at points s names heap) heap) (sym c)

pub memory_stops : (points : Points) (s : Settings) (head : ℕ) (heap new : Heap) → new ≡ heap → EndsAs {A = Unit {0}} (Err NoMemory) new (hyphenation points s head heap)
memory_stops points s head heap new same =
    subst (λ h. EndsAs {A = Unit {0}} (Err NoMemory) h (hyphenation points s head heap)) (sym same) (passes_first (hyphenation points s head heap) heap (begins_list points s (list_names heap head) heap))

-- the list is refused, or memory runs out before anything is made
pub list_stops : (points : Points) (s : Settings) (head : ℕ) (heap new : Heap) (e : Fail Trouble) → new ≡ heap → Answers (Err e) (list_names heap head) → EndsAs {A = Unit {0}} (Err e) new (hyphenation points s head heap)
list_stops points s head heap new (Is why) same a = (ap (λ r. (hyphenated_list points s r heap).ending) a, ap (λ r. (hyphenated_list points s r heap).last) a ∙ sym same)
list_stops points s head heap new NoMemory same a = memory_stops points s head heap new same

pub no_hyphen : (points : Points) (s : Settings) (head : ℕ) (heap new : Heap) (names : List ℕ) → new ≡ heap → list_names heap head ≡ Ok names → None ≡ hyphen_char s.hyphenchar → EndsAs (Ok tt) new (hyphenation points s head heap)
no_hyphen points s head heap new names same e c =
    let is = listed points s head heap names None e c in
    (ap (λ t. t.ending) is, ap (λ t. t.last) is ∙ sym same)

pub hyphens_made : (points : Points) (s : Settings) (head char : ℕ) (heap mid new : Heap) (names : List ℕ) (gaps found : List Gap) (r : Result (Unit {0}) (Fail Trouble)) → mid ≡ heap → list_names heap head ≡ Ok names → Some char ≡ hyphen_char s.hyphenchar
    → gaps ≡ found → found ≡ gaps_at points s names mid → EndsAs r new (each_in_turn (hyphenated char) gaps mid) → EndsAs r new (hyphenation points s head heap)
hyphens_made points s head char heap mid new names gaps found r same e c read is ends =
    let whole : each_in_turn (hyphenated char) gaps mid ≡ hyphenation points s head heap =
    ap (λ x. each_in_turn (hyphenated char) x mid) (read ∙ is) ∙ ap (λ h. each_in_turn (hyphenated char) (gaps_at points s names h) h) same ∙ sym (listed points s head heap names (Some char) e c) in
    subst (EndsAs r new) whole ends

-- ---- refusals
pub list_refuses : (heap : Heap) (head : ℕ) (e : Fail Trouble) → Answers (Err e) (list_names heap head) → RefusesAs {A = Unit {0}} heap head (Err e)
list_refuses heap head (Is why) a = inl (list_refused heap head why a)
list_refuses heap head NoMemory a = tt

pub makings_refuse : (heap : Heap) (head : ℕ) (r : Result (Unit {0}) (Fail Trouble)) → RefusesMakings r → RefusesAs heap head r
makings_refuse heap head (Ok u) m = tt
makings_refuse heap head (Err (Is why)) m = inr m
makings_refuse heap head (Err NoMemory) m = tt
