-- Walks through the lists of a heap (LuaTeX Reference Manual, chapter "Nodes"; "TeX: The Program", sections 199 to 206).
--     allows k kind            whether a list may hold nodes of this kind
--     inner_lists contents     the lists of a node, all of one kind, in the order in which a walk enters them
--     checked_walk, plain_walk, flat_walk, tree_walk      the names that a walk reaches, in its order, or the first trouble
use Rattle.std.specs.Prelude.{ℕ, zero, suc, ◌+◌, List, [], ◌∷◌, ◌++◌, Bool, true, false, not, if◌then◌else◌, nat_eq, nat_lt, Option, None, Some, Result, Ok, Err}
use Rattle.std.specs.List.{list_any}
use Rattle.std.specs.FinMap as map
use Rattle.ntx_num.specs.Answer.{result_map, result_and_then}
use Rattle.ntx_nodes.specs.Fields.{kind_of}
use Rattle.ntx_nodes.specs.Heap.{Heap}
use Rattle.ntx_nodes.specs.declared.node.Node.{Node}
use Rattle.ntx_nodes.specs.Steps.{at}
use Rattle.ntx_nodes.specs.declared.kind.Kind.{Kind}
use Rattle.ntx_nodes.specs.declared.kind.Kind.TheVariants as kind
use Rattle.ntx_nodes.specs.declared.kind.ListKind.{ListKind}
use Rattle.ntx_nodes.specs.declared.kind.ListKind.TheVariants.{H, V, Part}
use Rattle.ntx_nodes.specs.declared.kind.Way.{Way}
use Rattle.ntx_nodes.specs.declared.kind.Way.TheVariants.{Checked, Plain, Flat}
use Rattle.ntx_nodes.specs.declared.inner.InnerLists.{InnerLists}
use Rattle.ntx_nodes.specs.declared.fields.Contents.{Contents}
use Rattle.ntx_nodes.specs.declared.fields.Contents.TheVariants as contents
use Rattle.ntx_nodes.specs.declared.trouble.Trouble.{Trouble}
use Rattle.ntx_nodes.specs.declared.trouble.Trouble.TheVariants.{Loop, Nest, WrongKind}

abbrev pub allows : ListKind → Kind → Bool
allows H _ = true
allows V kind.Disc = false
allows V kind.Glyph = false
allows V _ = true
allows Part kind.Disc = false
allows Part kind.Glue = false
allows Part kind.Penalty = false
allows Part _ = true

abbrev pub no_lists : InnerLists
no_lists = record { first = None; second = None; third = None; kind = H }

abbrev pub inner_lists : Contents → InnerLists
inner_lists (contents.Hlist b) = record { first = b.list; second = None; third = None; kind = H }
inner_lists (contents.Vlist b) = record { first = b.list; second = None; third = None; kind = V }
inner_lists (contents.Disc d) = record { first = d.pre; second = d.post; third = d.replace; kind = Part }
inner_lists _ = no_lists

-- lists lie no deeper inside one another
abbrev pub max_depth : ℕ
max_depth = 100

-- whether a list is too deep for a walk: one along a list alone enters none, and does not look at the depth
abbrev pub is_too_deep : Way → ℕ → Bool
is_too_deep Flat depth = false
is_too_deep _ depth = nat_lt max_depth depth

-- whether a name is among those reached
abbrev pub is_reached : List ℕ → ℕ → Bool
is_reached reached n = list_any (nat_eq n) reached

-- the lists that a walk enters at a node
abbrev pub entered : Way → Contents → InnerLists
entered Flat c = no_lists
entered _ c = inner_lists c

-- whether a walk lets a list hold nodes of this kind
abbrev pub admits : Way → ListKind → Kind → Bool
admits Checked k kind = allows k kind
admits _ k kind = true

-- The tests at a node: dead, reached before, too deep, and of a kind that its list may not hold.
abbrev pub node_reached : Heap → Way → List ℕ → ℕ → ℕ → ListKind → Result Node Trouble
node_reached heap way reached n depth k =
    at heap n (λ node.
    if is_reached reached n then Err (Loop n)
    else if is_too_deep way depth then Err Nest
    else if not (admits way k (kind_of node.fields.contents)) then Err (WrongKind n)
    else Ok node)

-- one inner list after another, from the names reached before
abbrev pub in_turn : (List ℕ → Option ℕ → ListKind → Result (List ℕ) Trouble) → List ℕ → InnerLists → Result (List ℕ) Trouble
in_turn walk reached lists =
    result_and_then (walk reached lists.first lists.kind) (λ one.
    result_and_then (walk one lists.second lists.kind) (λ two. walk two lists.third lists.kind))

-- The tests at a node, and then its lists, one deeper: the node, and the names reached.
abbrev pub enter : Heap → Way → (List ℕ → Option ℕ → ℕ → ListKind → Result (List ℕ) Trouble) → List ℕ → ℕ → ℕ → ListKind → Result (Node × List ℕ) Trouble
enter heap way walk reached n depth k =
    result_and_then (node_reached heap way reached n depth k) (λ node.
    result_map (λ names. (node, names)) (in_turn (λ before to inner. walk before to (depth + 1) inner) (reached ++ n ∷ []) (entered way node.fields.contents)))

-- The walk of a list of kind k at this depth: at each node the tests, then its lists, and then what follows it in its own list.
-- It ends, since each turn adds a live name that was not reached before: more fuel than there are live nodes changes nothing.
abbrev pub walk : Heap → Way → ℕ → List ℕ → Option ℕ → ℕ → ListKind → Result (List ℕ) Trouble
walk heap way zero reached n depth k = Ok reached
walk heap way (suc fuel) reached None depth k = Ok reached
walk heap way (suc fuel) reached (Some n) depth k =
    result_and_then (enter heap way (λ before to inner_depth inner. walk heap way fuel before to inner_depth inner) reached n depth k) (λ entry.
    walk heap way fuel entry.1 entry.0.fields.next depth k)

-- fuel enough for every walk through the heap
abbrev pub fuel_of : Heap → ℕ
fuel_of heap = map.len heap.nodes + 1

-- The names that a walk reaches, in its order, or the first trouble: of the list at a head, where it is one of this kind,
abbrev pub walk_from : Heap → Way → Option ℕ → ListKind → Result (List ℕ) Trouble
walk_from heap way head k = walk heap way (fuel_of heap) [] head 0 k

-- with kinds tested,
abbrev pub checked_walk : Heap → Option ℕ → ListKind → Result (List ℕ) Trouble
checked_walk heap head k = walk_from heap Checked head k

-- of any kinds,
abbrev pub plain_walk : Heap → Option ℕ → Result (List ℕ) Trouble
plain_walk heap head = walk_from heap Plain head H

-- along the list alone,
abbrev pub flat_walk : Heap → Option ℕ → Result (List ℕ) Trouble
flat_walk heap head = walk_from heap Flat head H

-- and of one node with its inner lists, without what follows it.
abbrev pub tree_walk : Heap → ℕ → Result (List ℕ) Trouble
tree_walk heap n = result_map (λ entry. entry.1) (enter heap Plain (λ before to depth k. walk heap Plain (fuel_of heap) before to depth k) [] n 0 H)
