-- The kerns of a list, in the order in which they are made ("TeX: The Program", section 1040; LuaTeX Reference Manual, chapter "Languages, characters,
-- fonts and glyphs").
--     kerned fonts heap left right place      the kern of two nodes, if their font has one, for this place
--     kerns_in fonts heap names               the kerns within a list without discretionaries
--     kerns_in_disc, kerns_around             those in the three lists of a discretionary, and those between these and the nodes before and after it
--     kerns_of fonts heap names               the kerns of a list, from the left to the right
-- A kern changes no node but for a link, so all are found in the list as it is before the first is made.
-- In a font whose pairs A V and V A have kerns w and v, over the nodes 1 = A, 2 = V, 3 = A of one list:
--     kerns_of = (left 1, width w, before 2, by the link `next` of 1), (left 2, width v, before 3, by the link `next` of 2)
-- and over 1 = A, a discretionary 2 with nothing in its lists, 3 = V: one kern alone, (left 1, width w, before nothing, by the link `replace` of 2).
use Rattle.std.specs.Prelude.{ℕ, ◌-◌, ℤ, List, [], ◌∷◌, ◌++◌, length, slice_get, Option, None, Some}
use Rattle.std.specs.Option.{option_or}
use Rattle.std.specs.FinMap as fin
use Rattle.ntx_nodes.specs.Heap.{Heap}
use Rattle.ntx_nodes.specs.declared.contents.DiscFields.{DiscFields}
use Rattle.ntx_nodes.specs.declared.field.Field.TheVariants.{Next, Pre, Replace}
use Rattle.ntx_nodes.specs.declared.fields.Contents.{Contents}
use Rattle.ntx_nodes.specs.declared.fields.Contents.TheVariants as contents
use Rattle.ntx_nodes.specs.declared.node.Node.{Node}
use Rattle.ntx_tfm.specs.Font.{FontTables}
use Rattle.ntx_pairs.specs.declared.command.Pair.{Pair}
use Rattle.ntx_pairs.specs.declared.command.Pair.TheVariants as pairs
use Rattle.ntx_ligkern.specs.Along.{along}
use Rattle.ntx_ligkern.specs.Glyphs.{pair_between}
use Rattle.ntx_ligkern.specs.declared.place.Place.{Place}
use Rattle.ntx_ligkern.specs.declared.place.Kerning.{Kerning}

-- ---- two nodes
-- a place before `next`, to which the link `field` of the node `at` leads
abbrev pub kerning : ℕ → Place → ℤ → Kerning
kerning left place width = record { left = left; width = width; place = place }

abbrev pub kerned_by : ℕ → Place → Pair → List Kerning
kerned_by left place (pairs.Kern width) = kerning left place width ∷ []
kerned_by left place _ = []

abbrev pub kerned : List FontTables → Heap → Option ℕ → Option ℕ → Place → List Kerning
kerned fonts heap None right place = []
kerned fonts heap (Some left) right place = kerned_by left place (pair_between fonts heap (Some left) right)

-- directly after a node of a list, before what follows it
abbrev pub after_node : ℕ → Option ℕ → Place
after_node n next = record { at = n; field = Next; next = next }

abbrev pub kerns_after : List FontTables → Heap → ℕ → Option ℕ → List Kerning
kerns_after fonts heap n next = kerned fonts heap (Some n) next (after_node n next)

-- ---- a list without discretionaries
abbrev pub kerns_in : List FontTables → Heap → List ℕ → List Kerning
kerns_in fonts heap [] = []
kerns_in fonts heap (n ∷ rest) = kerns_after fonts heap n (slice_get rest 0) ++ kerns_in fonts heap rest

-- ---- a discretionary
-- first its three lists by themselves,
abbrev pub kerns_in_disc : List FontTables → Heap → DiscFields → List Kerning
kerns_in_disc fonts heap d = kerns_in fonts heap (along heap d.pre) ++ kerns_in fonts heap (along heap d.post) ++ kerns_in fonts heap (along heap d.replace)

-- at the end of a list that is not empty, before the node `after` of another list
abbrev pub kerns_at_end : List FontTables → Heap → Option ℕ → Option ℕ → List Kerning
kerns_at_end fonts heap None after = []
kerns_at_end fonts heap (Some last) after = kerned fonts heap (Some last) after (after_node last None)

abbrev pub last_of : List ℕ → Option ℕ
last_of names = slice_get names (length names - 1)

-- The kerns of a discretionary with the nodes around it, in this order:
-- the node before it and the first of `pre`, at the beginning of `pre`;
-- the node before it and the first of `replace`, at its beginning; if `replace` is empty, the nodes before and after it, as its only node;
-- the last of `post` and the node after it, at its end;
-- the last of `replace` and the node after it, at its end.
abbrev pub kerns_around : List FontTables → Heap → Option ℕ → ℕ → DiscFields → Option ℕ → List Kerning
kerns_around fonts heap before disc d after =
    kerned fonts heap before d.pre (record { at = disc; field = Pre; next = d.pre })
    ++ kerned fonts heap before (option_or d.replace after) (record { at = disc; field = Replace; next = d.replace })
    ++ kerns_at_end fonts heap (last_of (along heap d.post)) after
    ++ kerns_at_end fonts heap (last_of (along heap d.replace)) after

-- ---- a list
-- between a node and what follows it, or at a discretionary
abbrev pub kerns_by_contents : List FontTables → Heap → Option ℕ → ℕ → Option ℕ → Contents → List Kerning
kerns_by_contents fonts heap before n after (contents.Disc d) = kerns_in_disc fonts heap d ++ kerns_around fonts heap before n d after
kerns_by_contents fonts heap before n after _ = kerns_after fonts heap n after

abbrev pub kerns_by : List FontTables → Heap → Option ℕ → ℕ → Option ℕ → Option Node → List Kerning
kerns_by fonts heap before n after None = []
kerns_by fonts heap before n after (Some node) = kerns_by_contents fonts heap before n after node.fields.contents

abbrev pub kerns_at : List FontTables → Heap → Option ℕ → ℕ → Option ℕ → List Kerning
kerns_at fonts heap before n after = kerns_by fonts heap before n after (fin.get heap.nodes n)

abbrev pub kerns_from : List FontTables → Heap → Option ℕ → List ℕ → List Kerning
kerns_from fonts heap before [] = []
kerns_from fonts heap before (n ∷ rest) = kerns_at fonts heap before n (slice_get rest 0) ++ kerns_from fonts heap (Some n) rest

abbrev pub kerns_of : List FontTables → Heap → List ℕ → List Kerning
kerns_of fonts heap names = kerns_from fonts heap None names
