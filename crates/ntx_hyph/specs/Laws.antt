-- What the pass over a list leaves, where it ends well, in the words of the list and of its gaps alone ("TeX: The Program", section 918).
--     gaps_of                  the gaps of the list in which there is a point, from the left to the right
--     record_at                the record under each name afterwards
--     with_discs               the names of the list afterwards
--     IsHyphenated             the whole heap and the list afterwards
--     HyphenatedListsAreWhole  the law
use Rattle.std.specs.Prelude.{◌≡◌, ℕ, ◌+◌, ◌*◌, nat_eq, if◌then◌else◌, List, [], ◌∷◌, length, map, Option, None, Some, Ok}
use Rattle.std.specs.FinMap as fin
use Rattle.std.specs.List.{flat_map}
use Rattle.std.specs.List.Sorted.{IsStrictlyIncreasing}
use Rattle.std.specs.Option.{option_map}
use Rattle.ntx_nodes.specs.Heap.{Heap, IsLawful}
use Rattle.ntx_nodes.specs.Walk.{flat_walk}
use Rattle.ntx_nodes.specs.declared.fields.Contents.TheVariants as contents
use Rattle.ntx_nodes.specs.declared.fields.Fields.{Fields}
use Rattle.ntx_nodes.specs.declared.node.Node.{Node}
use Rattle.ntx_item.specs.Settings.{Settings}
use Rattle.ntx_hyph.specs.Words.{letter_at, gaps_in}
use Rattle.ntx_hyph.specs.Hyphenation.{Points, points_with, hyphen_fields, hyphen_char, list_names, hyphenation}
use Rattle.ntx_hyph.specs.declared.letter.Gap.{Gap}

-- the points of each word ascend
abbrev pub Ascend : Points → Type 0
Ascend points = (word : List ℕ) (left right : ℕ) → IsStrictlyIncreasing (points word left right)

abbrev pub gaps_of : Points → Settings → Heap → List ℕ → List Gap
gaps_of points s heap names = gaps_in (points_with points s) (map (letter_at heap) names)

-- ---- records
-- a discretionary in a gap, with this hyphen before the break
abbrev pub whole_disc_fields : Gap → ℕ → Fields
whole_disc_fields gap hyphen = record { subtype = 3; next = Some gap.after; contents = contents.Disc (record { pre = Some hyphen; post = None; replace = None }) }

-- these fields, with the attributes of a glyph
abbrev pub worn_like : Fields → Node → Node
worn_like fields glyph = record { fields = fields; attributes = glyph.attributes }

-- a glyph that this node follows
abbrev pub followed_by : ℕ → Node → Node
followed_by next glyph = record glyph { fields = record glyph.fields { next = Some next } }

-- The discretionary of the first gap has the name `first`, and its hyphen the next name; those of the second gap have the two names after these,
-- and so on. Both are made like the glyph before the gap, which the discretionary now follows. All else is as it was.
abbrev pub record_at : Heap → ℕ → ℕ → List Gap → ℕ → Option Node
record_at heap char first [] n = fin.get heap.nodes n
record_at heap char first (gap ∷ gaps) n =
    if nat_eq n first then option_map (worn_like (whole_disc_fields gap (first + 1))) (fin.get heap.nodes gap.before)
    else if nat_eq n (first + 1) then option_map (worn_like (hyphen_fields char gap)) (fin.get heap.nodes gap.before)
    else if nat_eq n gap.before then option_map (followed_by first) (fin.get heap.nodes gap.before)
    else record_at heap char (first + 2) gaps n

-- ---- the list
-- the discretionary after a name, if it is the name before a gap
abbrev pub disc_after : ℕ → List Gap → ℕ → List ℕ
disc_after first [] n = []
disc_after first (gap ∷ gaps) n = if nat_eq n gap.before then first ∷ [] else disc_after (first + 2) gaps n

-- the names of a list with the discretionaries in its gaps
abbrev pub with_discs : ℕ → List Gap → List ℕ → List ℕ
with_discs first gaps names = flat_map (λ n. n ∷ disc_after first gaps n) names

-- ---- the law
-- what the heap is afterwards
pub record AreMade (old new : Heap) (char : ℕ) (gaps : List Gap) : Type 0 where
  pub records : (n : ℕ) → fin.get new.nodes n ≡ record_at old char old.next gaps n
  pub next : new.next ≡ old.next + 2 * length gaps
  pub current : new.current ≡ old.current

-- and what the list is in it
pub record IsHyphenated (old new : Heap) (head char : ℕ) (gaps : List Gap) (names : List ℕ) : Type 0 where
  pub made : AreMade old new char gaps
  pub list : flat_walk new (Some head) ≡ Ok (with_discs old.next gaps names)

abbrev pub HyphenatedListsAreWhole : Type 0
HyphenatedListsAreWhole = (points : Points) (s : Settings) (heap : Heap) (head char : ℕ) (names : List ℕ) → Ascend points → IsLawful heap → list_names heap head ≡ Ok names → hyphen_char s.hyphenchar ≡ Some char
    → (hyphenation points s head heap).ending ≡ Ok tt → IsHyphenated heap (hyphenation points s head heap).last head char (gaps_of points s heap names) names
