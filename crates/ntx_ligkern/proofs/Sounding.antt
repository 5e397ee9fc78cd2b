-- The kerns that are found can be made: what they stand beside is live, and the links that are to lead to them can be set.
use Rattle.std.proofs.Common.{◌≡◌, ◌⊎◌, inl, inr, ℕ, List, [], ◌∷◌, ◌++◌, slice_get, true, Some, None, refl, sym, ◌∙◌, ap, subst}
use Rattle.std.specs.Prelude.{Option, All, is_some}
use Rattle.std.specs.Option.{option_and_then, option_or}
use Rattle.std.specs.FinMap as fin
use Rattle.std.proofs.lemmas.List.Elements.{All-nil, All-cons, All-append}
use Rattle.ntx_num.proofs.Answers.{same_Some}
use Rattle.ntx_nodes.specs.FieldTable.{held, Linked}
use Rattle.ntx_nodes.specs.Fields.{kind_of}
use Rattle.ntx_nodes.specs.Heap.{Heap, is_live, IsLiveLink}
use Rattle.ntx_nodes.specs.declared.contents.DiscFields.{DiscFields}
use Rattle.ntx_nodes.specs.declared.field.Field.{Field}
use Rattle.ntx_nodes.specs.declared.field.Field.TheVariants.{Next, Pre, Replace}
use Rattle.ntx_nodes.specs.declared.fields.Contents.{Contents}
use Rattle.ntx_nodes.specs.declared.fields.Contents.TheVariants as contents
use Rattle.ntx_nodes.specs.declared.kind.Kind.TheVariants as kind
use Rattle.ntx_nodes.specs.declared.node.Node.{Node}
use Rattle.ntx_lists.specs.MadeNodes.{TakesLink}
use Rattle.ntx_lists.proofs.MadeLinks.{takes_next}
use Rattle.ntx_tfm.specs.Font.{FontTables}
use Rattle.ntx_pairs.specs.declared.command.Pair.{Pair}
use Rattle.ntx_pairs.specs.declared.command.Pair.TheVariants as pairs
use Rattle.ntx_ligkern.specs.Along.{along}
use Rattle.ntx_ligkern.specs.Glyphs.{glyph_of, glyph_at, pair_of_glyphs, pair_of_two}
use Rattle.ntx_ligkern.specs.Kerns.{kerned_by, kerned, after_node, kerns_after, kerns_in, kerns_in_disc, kerns_at_end, last_of, kerns_around, kerns_by_contents, kerns_by, kerns_at, kerns_from, kerns_of}
use Rattle.ntx_ligkern.specs.inner.Sound.{IsPlaced}
use Rattle.ntx_ligkern.specs.declared.glyph.Glyph.{Glyph}
use Rattle.ntx_ligkern.specs.declared.place.Place.{Place}

-- ---- glyphs are live
found_glyph : (o : Option Node) (g : Glyph) → option_and_then (λ node. glyph_of node.fields.contents) o ≡ Some g → is_some o ≡ true
found_glyph None g e = cc
found_glyph (Some node) g e = refl

glyph_live : (heap : Heap) (n : ℕ) (g : Glyph) → glyph_at heap n ≡ Some g → is_live heap n ≡ true
glyph_live heap n g e = found_glyph (fin.get heap.nodes n) g e

-- ---- links
takes_part : (heap : Heap) (n : ℕ) (node : Node) (d : DiscFields) (f : Field) → fin.get heap.nodes n ≡ Some node → node.fields.contents ≡ contents.Disc d → held kind.Disc f ≡ Linked → TakesLink heap n f
takes_part heap n node d f at is linked = record { node = node; at = at; linked = ap (λ c. held (kind_of c) f) is ∙ linked }

-- ---- one kern
-- nothing follows it, or the right node does
abbrev Follows : Option ℕ → Place → Type 0
Follows right place = (place.next ≡ None) ⊎ (place.next ≡ right)

live_next : (heap : Heap) (place : Place) (r : ℕ) → is_live heap r ≡ true → Follows (Some r) place → IsLiveLink heap place.next
live_next heap place r alive (inl none) n e = let no : None ≡ Some n = sym none ∙ e in cc
live_next heap place r alive (inr is) n e = let same : r ≡ n = same_Some r n (sym is ∙ e) in subst (λ x. is_live heap x ≡ true) same alive

by_pair : (heap : Heap) (left : ℕ) (place : Place) (p : Pair) → is_live heap left ≡ true → IsLiveLink heap place.next → TakesLink heap place.at place.field → All (IsPlaced heap) (kerned_by left place p)
by_pair heap left place (pairs.Kern w) alive next link =
    All-cons (IsPlaced heap) (record { left = left; width = w; place = place }) [] (record { left = alive; next = next; link = link }) (All-nil (IsPlaced heap))
by_pair heap left place pairs.None alive next link = All-nil (IsPlaced heap)
by_pair heap left place (pairs.Lig op code) alive next link = All-nil (IsPlaced heap)

of_two : (fonts : List FontTables) (heap : Heap) (left r : ℕ) (place : Place) (a b : Option Glyph) → glyph_at heap left ≡ a → glyph_at heap r ≡ b → Follows (Some r) place → (is_live heap left ≡ true → TakesLink heap place.at place.field)
    → All (IsPlaced heap) (kerned_by left place (pair_of_two fonts a b))
of_two fonts heap left r place None b ea eb follows link = All-nil (IsPlaced heap)
of_two fonts heap left r place (Some a) None ea eb follows link = All-nil (IsPlaced heap)
of_two fonts heap left r place (Some a) (Some b) ea eb follows link =
    let alive = glyph_live heap left a ea in
    by_pair heap left place (pair_of_glyphs fonts a b) alive (live_next heap place r (glyph_live heap r b eb) follows) (link alive)

kerned_placed : (fonts : List FontTables) (heap : Heap) (left right : Option ℕ) (place : Place) → Follows right place → ((l : ℕ) → left ≡ Some l → is_live heap l ≡ true → TakesLink heap place.at place.field)
    → All (IsPlaced heap) (kerned fonts heap left right place)
kerned_placed fonts heap None right place follows link = All-nil (IsPlaced heap)
kerned_placed fonts heap (Some left) None place follows link = All-nil (IsPlaced heap)
kerned_placed fonts heap (Some left) (Some r) place follows link = of_two fonts heap left r place (glyph_at heap left) (glyph_at heap r) refl refl follows (link left refl)

-- ---- a list without discretionaries
same_live : (heap : Heap) (n l : ℕ) → Some n ≡ Some l → is_live heap l ≡ true → TakesLink heap n Next
same_live heap n l e alive = takes_next heap n (subst (λ x. is_live heap x ≡ true) (sym (same_Some n l e)) alive)

after_placed : (fonts : List FontTables) (heap : Heap) (n : ℕ) (next : Option ℕ) → All (IsPlaced heap) (kerns_after fonts heap n next)
after_placed fonts heap n next = kerned_placed fonts heap (Some n) next (after_node n next) (inr refl) (same_live heap n)

in_placed : (fonts : List FontTables) (heap : Heap) (names : List ℕ) → All (IsPlaced heap) (kerns_in fonts heap names)
in_placed fonts heap [] = All-nil (IsPlaced heap)
in_placed fonts heap (n ∷ rest) = All-append (IsPlaced heap) (kerns_after fonts heap n (slice_get rest 0)) (kerns_in fonts heap rest) (after_placed fonts heap n (slice_get rest 0)) (in_placed fonts heap rest)

-- ---- a discretionary
end_placed : (fonts : List FontTables) (heap : Heap) (last after : Option ℕ) → All (IsPlaced heap) (kerns_at_end fonts heap last after)
end_placed fonts heap None after = All-nil (IsPlaced heap)
end_placed fonts heap (Some last) after = kerned_placed fonts heap (Some last) after (after_node last None) (inl refl) (same_live heap last)

replace_follows : (replace after : Option ℕ) (disc : ℕ) → Follows (option_or replace after) (record { at = disc; field = Replace; next = replace })
replace_follows None after disc = inl refl
replace_follows (Some r) after disc = inr refl

disc_placed : (fonts : List FontTables) (heap : Heap) (before : Option ℕ) (n : ℕ) (node : Node) (d : DiscFields) (after : Option ℕ) → fin.get heap.nodes n ≡ Some node → node.fields.contents ≡ contents.Disc d
    → All (IsPlaced heap) (kerns_in_disc fonts heap d ++ kerns_around fonts heap before n d after)
disc_placed fonts heap before n node d after at is =
    let P = IsPlaced heap in
    let at_pre : Place = record { at = n; field = Pre; next = d.pre } in
    let at_replace : Place = record { at = n; field = Replace; next = d.replace } in
    let pre = kerns_in fonts heap (along heap d.pre) in
    let post = kerns_in fonts heap (along heap d.post) in
    let replace = kerns_in fonts heap (along heap d.replace) in
    let one = kerned fonts heap before d.pre at_pre in
    let two = kerned fonts heap before (option_or d.replace after) at_replace in
    let three = kerns_at_end fonts heap (last_of (along heap d.post)) after in
    let four = kerns_at_end fonts heap (last_of (along heap d.replace)) after in
    All-append P (kerns_in_disc fonts heap d) (kerns_around fonts heap before n d after)
    (All-append P (pre ++ post) replace (All-append P pre post (in_placed fonts heap (along heap d.pre)) (in_placed fonts heap (along heap d.post))) (in_placed fonts heap (along heap d.replace)))
    (All-append P (one ++ two ++ three) four
    (All-append P (one ++ two) three
    (All-append P one two
    (kerned_placed fonts heap before d.pre at_pre (inr refl) (λ l e alive. takes_part heap n node d Pre at is refl))
    (kerned_placed fonts heap before (option_or d.replace after) at_replace (replace_follows d.replace after n) (λ l e alive. takes_part heap n node d Replace at is refl)))
    (end_placed fonts heap (last_of (along heap d.post)) after))
    (end_placed fonts heap (last_of (along heap d.replace)) after))

-- ---- a list
contents_placed : (fonts : List FontTables) (heap : Heap) (before : Option ℕ) (n : ℕ) (node : Node) (after : Option ℕ) (c : Contents) → fin.get heap.nodes n ≡ Some node → node.fields.contents ≡ c
    → All (IsPlaced heap) (kerns_by_contents fonts heap before n after c)
contents_placed fonts heap before n node after (contents.Disc d) at is = disc_placed fonts heap before n node d after at is
contents_placed fonts heap before n node after (contents.Hlist b) at is = after_placed fonts heap n after
contents_placed fonts heap before n node after (contents.Vlist b) at is = after_placed fonts heap n after
contents_placed fonts heap before n node after (contents.Rule r) at is = after_placed fonts heap n after
contents_placed fonts heap before n node after (contents.Glue g) at is = after_placed fonts heap n after
contents_placed fonts heap before n node after (contents.Kern w) at is = after_placed fonts heap n after
contents_placed fonts heap before n node after (contents.Penalty p) at is = after_placed fonts heap n after
contents_placed fonts heap before n node after (contents.Glyph g) at is = after_placed fonts heap n after

node_placed : (fonts : List FontTables) (heap : Heap) (before : Option ℕ) (n : ℕ) (after : Option ℕ) (o : Option Node) → fin.get heap.nodes n ≡ o → All (IsPlaced heap) (kerns_by fonts heap before n after o)
node_placed fonts heap before n after None at = All-nil (IsPlaced heap)
node_placed fonts heap before n after (Some node) at = contents_placed fonts heap before n node after node.fields.contents at refl

from_placed : (fonts : List FontTables) (heap : Heap) (before : Option ℕ) (names : List ℕ) → All (IsPlaced heap) (kerns_from fonts heap before names)
from_placed fonts heap before [] = All-nil (IsPlaced heap)
from_placed fonts heap before (n ∷ rest) =
    All-append (IsPlaced heap) (kerns_at fonts heap before n (slice_get rest 0)) (kerns_from fonts heap (Some n) rest) (node_placed fonts heap before n (slice_get rest 0) (fin.get heap.nodes n) refl) (from_placed fonts heap (Some n) rest)

pub kerns_placed : (fonts : List FontTables) (heap : Heap) (names : List ℕ) → All (IsPlaced heap) (kerns_of fonts heap names)
kerns_placed fonts heap names = from_placed fonts heap None names
