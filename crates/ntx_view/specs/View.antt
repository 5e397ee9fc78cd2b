-- A list of nodes as items: what packing and line breaking look at ("TeX: The Program", sections 651 and 866).
--     items_answer heap fonts head k     the items of the list at a head, one for each node of it, or the first trouble
--     list_items heap fonts head         the items, where the walk along the list ends well
--     item_at heap fonts n               the item of a live node
--     IsOneEach heap fonts head items    one item for each node of a list
--     bare_items heap fonts to           the same, but with no size for the parts of discretionaries: within a part there are
--                                        no discretionaries
use Rattle.std.specs.Prelude.{◌≡◌, ℕ, nat_eq, pos, Bool, false, List, [], length, map, slice_get, Option, None, Some, is_none, unwrap_or, Result, Ok, Err, IsOk, IsTrue, All}
use Rattle.std.specs.List.{find, filter_map}
use Rattle.std.specs.Option.{option_map}
use Rattle.std.specs.FinMap as fin
use Rattle.ntx_num.specs.Answer.{result_and_then}
use Rattle.ntx_num.specs.declared.size.Size.{Size}
use Rattle.ntx_nodes.specs.Heap.{Heap, is_live}
use Rattle.ntx_nodes.specs.Walk.{checked_walk, flat_walk}
use Rattle.ntx_nodes.specs.declared.kind.ListKind.{ListKind}
use Rattle.ntx_nodes.specs.declared.contents.BoxFields.{BoxFields}
use Rattle.ntx_nodes.specs.declared.contents.RuleFields.{RuleFields}
use Rattle.ntx_nodes.specs.declared.contents.GlueFields.{GlueFields}
use Rattle.ntx_nodes.specs.declared.contents.GlyphFields.{GlyphFields}
use Rattle.ntx_nodes.specs.declared.fields.Contents.{Contents}
use Rattle.ntx_nodes.specs.declared.fields.Contents.TheVariants as contents
use Rattle.ntx_nodes.specs.declared.node.Node.{Node}
use Rattle.ntx_nodes.specs.declared.trouble.Trouble.{Trouble}
use Rattle.ntx_nodes.specs.declared.trouble.Trouble.TheVariants.{NoChar}
use Rattle.ntx_tfm.specs.Font.{FontTables, size_at}
use Rattle.ntx_item.specs.declared.glue.GlueSpec.{GlueSpec}
use Rattle.ntx_item.specs.declared.item.Item.{Item}
use Rattle.ntx_item.specs.declared.item.Item.TheVariants.{Box, Glyph, Rule, Glue, Kern, Penalty, Disc}
use Rattle.ntx_view.specs.Natural.{hlist_size}

-- ---- characters

-- the size of a character of a font, where both are there
abbrev pub size_in_font : ℕ → Option FontTables → Option Size
size_in_font char None = None
size_in_font char (Some font) = size_at font char

abbrev pub char_size : List FontTables → GlyphFields → Option Size
char_size fonts g = size_in_font g.char (slice_get fonts g.font)

-- a glyph whose font or character is not there
abbrev pub is_missing_char : List FontTables → Contents → Bool
is_missing_char fonts (contents.Glyph g) = is_none (char_size fonts g)
is_missing_char fonts _ = false

abbrev pub is_missing_char_at : List FontTables → Option Node → Bool
is_missing_char_at fonts None = false
is_missing_char_at fonts (Some node) = is_missing_char fonts node.fields.contents

-- the first name of such a glyph
abbrev pub first_missing_char : Heap → List FontTables → List ℕ → Option ℕ
first_missing_char heap fonts names = find (λ n. is_missing_char_at fonts (fin.get heap.nodes n)) names

-- ---- one node

abbrev pub no_size : Size
no_size = record { w = pos 0; h = pos 0; d = pos 0 }

abbrev pub box_size : BoxFields → Size
box_size b = record { w = b.width; h = b.height; d = b.depth }

abbrev pub rule_size : RuleFields → Size
rule_size r = record { w = r.width; h = r.height; d = r.depth }

abbrev pub glue_of : GlueFields → GlueSpec
glue_of g = record { width = g.width; stretch = g.stretch; stretch_order = g.stretch_order; shrink = g.shrink; shrink_order = g.shrink_order }

-- A node as an item, where a part of a discretionary has this size. A kern of subtype 0 comes from a font, and a discretionary of subtype 3 is
-- regular.
abbrev pub item_with : (Option ℕ → Size) → List FontTables → ℕ → Contents → Item
item_with part fonts subtype (contents.Hlist b) = Box (box_size b) b.shift
item_with part fonts subtype (contents.Vlist b) = Box (box_size b) b.shift
item_with part fonts subtype (contents.Rule r) = Rule (rule_size r)
item_with part fonts subtype (contents.Glyph g) = Glyph (unwrap_or (char_size fonts g) no_size)
item_with part fonts subtype (contents.Glue g) = Glue (glue_of g)
item_with part fonts subtype (contents.Kern w) = Kern w (nat_eq subtype 0)
item_with part fonts subtype (contents.Penalty p) = Penalty p
item_with part fonts subtype (contents.Disc d) = Disc (part d.pre) (part d.post) (part d.replace) (is_none d.pre) (is_none d.post) (nat_eq subtype 3)

-- ---- lists

abbrev pub names_in : Result (List ℕ) Trouble → List ℕ
names_in (Ok names) = names
names_in (Err why) = []

-- the live nodes of these names
abbrev pub nodes_named : Heap → List ℕ → List Node
nodes_named heap names = filter_map (λ n. fin.get heap.nodes n) names

-- the nodes of a list, one after another
abbrev pub list_nodes : Heap → Option ℕ → List Node
list_nodes heap to = nodes_named heap (names_in (flat_walk heap to))

abbrev pub bare_item : List FontTables → Node → Item
bare_item fonts node = item_with (λ _. no_size) fonts node.fields.subtype node.fields.contents

abbrev pub bare_items : Heap → List FontTables → Option ℕ → List Item
bare_items heap fonts to = map (bare_item fonts) (list_nodes heap to)

-- the natural size of a part of a discretionary, as a horizontal list
abbrev pub part_size : Heap → List FontTables → Option ℕ → Size
part_size heap fonts to = hlist_size (bare_items heap fonts to)

abbrev pub item_of : Heap → List FontTables → Node → Item
item_of heap fonts node = item_with (part_size heap fonts) fonts node.fields.subtype node.fields.contents

-- the item of the node of a name, if it is live
abbrev pub item_at : Heap → List FontTables → ℕ → Option Item
item_at heap fonts n = option_map (item_of heap fonts) (fin.get heap.nodes n)

abbrev pub list_items : Heap → List FontTables → Option ℕ → List Item
list_items heap fonts head = map (item_of heap fonts) (list_nodes heap head)

-- these items, unless there is a glyph without a character
abbrev pub unless_missing_char : Option ℕ → List Item → Result (List Item) Trouble
unless_missing_char None items = Ok items
unless_missing_char (Some n) items = Err (NoChar n)

-- The walk through all lists comes first, and then its glyphs, those of inner lists included.
abbrev pub items_answer : Heap → List FontTables → Option ℕ → ListKind → Result (List Item) Trouble
items_answer heap fonts head k = result_and_then (checked_walk heap head k) (λ names. unless_missing_char (first_missing_char heap fonts names) (list_items heap fonts head))

-- ---- no list is cut short

-- the node is live
abbrev pub IsLiveAt : Heap → ℕ → Type 0
IsLiveAt heap n = IsTrue (is_live heap n)

-- the walks along the parts of a discretionary end well
abbrev pub PartsEnd : Heap → Contents → Type 0
PartsEnd heap (contents.Disc d) = IsOk (flat_walk heap d.pre) × IsOk (flat_walk heap d.post) × IsOk (flat_walk heap d.replace)
PartsEnd heap _ = Unit {0}

abbrev pub PartsEndAt : Heap → ℕ → Type 0
PartsEndAt heap n = (node : Node) → fin.get heap.nodes n ≡ Some node → PartsEnd heap node.fields.contents

-- The walk along the list ends well, and so do those along the parts of its discretionaries; there is one item for each node of it, and item k is that
-- of the k-th node.
pub record IsOneEach (heap : Heap) (fonts : List FontTables) (head : Option ℕ) (items : List Item) : Type 0 where
  pub names : List ℕ
  pub walk : flat_walk heap head ≡ Ok names
  pub parts : All (PartsEndAt heap) names
  pub count : length items ≡ length names
  pub each : (k n : ℕ) → slice_get names k ≡ Some n → slice_get items k ≡ item_at heap fonts n
