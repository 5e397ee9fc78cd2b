-- Where the marks of a page stand ("TeX: The Program", sections 619 to 641, without leaders and whatsits).
--     placed heap fonts page      the marks of a page with the places where they stand, or why it cannot be shipped
-- An hlist puts its nodes along its baseline from the left to the right, and a vlist from its top down. A box in an hlist is moved down by its shift, one
-- in a vlist to the right. Glue is as large as the box's ratio makes it. A rule is a mark only if its width is above 0 and its height and
-- depth together are above 0.
use Rattle.std.specs.Prelude.{ℕ, zero, suc, ◌+◌, ℤ, pos, ◌+ℤ◌, ◌-ℤ◌, int_lt, Bool, ◌&&◌, if◌then◌else◌, List, [], ◌∷◌, ◌++◌, Option, Some, unwrap_or, Result, Ok, Err}
use Rattle.ntx_num.specs.Answer.{result_map, result_and_then}
use Rattle.ntx_num.specs.Dimension.{is_dimension}
use Rattle.ntx_nodes.specs.Heap.{Heap}
use Rattle.ntx_nodes.specs.Steps.{at}
use Rattle.ntx_nodes.specs.Walk.{flat_walk, max_depth}
use Rattle.ntx_nodes.specs.declared.kind.ListKind.TheVariants.{H, V, Part}
use Rattle.ntx_nodes.specs.declared.contents.BoxFields.{BoxFields}
use Rattle.ntx_nodes.specs.declared.contents.RuleFields.{RuleFields}
use Rattle.ntx_nodes.specs.declared.contents.GlyphFields.{GlyphFields}
use Rattle.ntx_nodes.specs.declared.fields.Contents.{Contents}
use Rattle.ntx_nodes.specs.declared.fields.Contents.TheVariants as contents
use Rattle.ntx_nodes.specs.declared.trouble.Trouble.{Trouble}
use Rattle.ntx_nodes.specs.declared.trouble.Trouble.TheVariants.{Nest, WrongKind, Dimension}
use Rattle.ntx_tfm.specs.Font.{FontTables}
use Rattle.ntx_item.specs.declared.item.Item.{Item}
use Rattle.ntx_item.specs.Sums.{natural_width}
use Rattle.ntx_view.specs.View.{char_size, no_size, item_of, items_answer}
use Rattle.ntx_pack.specs.declared.direction.Direction.{Direction}
use Rattle.ntx_pack.specs.declared.direction.Direction.TheVariants.{Horizontal, Vertical}
use Rattle.ntx_pack.specs.GlueSet.{glue_set_in, unset}
use Rattle.ntx_pack.specs.Output.{move, set_size}
use Rattle.ntx_pack.specs.Vertical.{extent}
use Rattle.ntx_ship.specs.declared.list.Inside.{Inside}
use Rattle.ntx_ship.specs.declared.piece.Piece.{Piece}
use Rattle.ntx_ship.specs.declared.piece.Piece.TheVariants.{Push, Pop, Glyph, Rule}
use Rattle.ntx_ship.specs.declared.place.Place.{Place}
use Rattle.ntx_ship.specs.declared.station.Station.{Station}

-- the pieces of a page or of a part of it, or why it cannot be shipped
abbrev pub Pieces : Type 0
Pieces = Result (List Piece) Trouble

-- one after another
abbrev pub joined : Pieces → Pieces → Pieces
joined first rest = result_and_then first (λ xs. result_map (λ ys. xs ++ ys) rest)

-- ---- marks

-- A mark of this width may stand here: its place, and the end of its width, are dimensions.
unfoldable pub may_stand : Place → ℤ → Bool
may_stand here width = (is_dimension here.h && is_dimension here.v) && is_dimension (here.h +ℤ width)

-- a character whose reference point is here
unfoldable pub glyph_mark : Place → GlyphFields → ℤ → Pieces
glyph_mark here g width =
    if may_stand here width then Ok (Glyph (record { h = here.h; v = here.v; font = g.font; code = g.char; width = width }) ∷ [])
    else Err Dimension

-- a rule of this height, its depth included, and width, whose left lower corner is here
unfoldable pub rule_mark : Place → ℤ → ℤ → Pieces
rule_mark here height width =
    if int_lt (pos 0) width && int_lt (pos 0) height then
    if may_stand here width then Ok (Rule (record { h = here.h; v = here.v; height = height; width = width }) ∷ [])
    else Err Dimension
    else Ok []

-- ---- boxes

-- what stands in an hlist, in a vlist, and of a discretionary where there is no break
abbrev pub hlist_inside : BoxFields → Inside
hlist_inside b = record { kind = H; direction = Horizontal; glue = glue_set_in b; head = b.list }

abbrev pub vlist_inside : BoxFields → Inside
vlist_inside b = record { kind = V; direction = Vertical; glue = glue_set_in b; head = b.list }

abbrev pub part_inside : Option ℕ → Inside
part_inside replace = record { kind = Part; direction = Horizontal; glue = unset; head = replace }

-- A box that holds a mark is between push and pop.
abbrev pub grouped : List Piece → List Piece
grouped [] = []
grouped (p ∷ ps) = Push ∷ (p ∷ ps) ++ Pop ∷ []

-- the pieces of a list that begins at a place
abbrev pub Placer : Type 0
Placer = Inside → Place → Pieces

-- where the list in a vlist begins whose reference point is here
abbrev pub top : BoxFields → Place → Place
top b here = record here { v = here.v -ℤ b.height }

-- ---- one node

-- the reference point of a box that stands here in a list
abbrev pub reference : Direction → BoxFields → Place → Place
reference Horizontal b here = record here { v = here.v +ℤ b.shift }
reference Vertical b here = record { h = here.h +ℤ b.shift; v = here.v +ℤ b.height }

-- the left lower corner of a rule that stands here in a list
abbrev pub corner : Direction → RuleFields → Place → Place
corner Horizontal r here = record here { v = here.v +ℤ r.depth }
corner Vertical r here = record here { v = here.v +ℤ (r.height +ℤ r.depth) }

-- A node that stands here in a list of this direction: boxes with what is in them, rules, characters, and of a discretionary the list that stands where
-- there is no break.
unfoldable pub node_pieces : List FontTables → Placer → Direction → Contents → Place → Pieces
node_pieces fonts place direction (contents.Hlist b) here = result_map grouped (place (hlist_inside b) (reference direction b here))
node_pieces fonts place direction (contents.Vlist b) here = result_map grouped (place (vlist_inside b) (top b (reference direction b here)))
node_pieces fonts place direction (contents.Rule r) here = rule_mark (corner direction r here) (r.height +ℤ r.depth) r.width
node_pieces fonts place direction (contents.Glyph g) here = glyph_mark here g (unwrap_or (char_size fonts g) no_size).w
node_pieces fonts place direction (contents.Disc d) here = place (part_inside d.replace) here
node_pieces fonts place direction _ here = Ok []

-- ---- lists

-- the size of an item in the direction of its list
abbrev pub own_size : Direction → Item → ℤ
own_size Horizontal item = natural_width item
own_size Vertical item = extent item

-- the place after a node of this size
abbrev pub moved : Direction → ℤ → Place → Place
moved Horizontal size here = record here { h = here.h +ℤ size }
moved Vertical size here = record here { v = here.v +ℤ size }

-- The nodes of these names with their places, one after another. The first stands here, and `total` is the running total of the glue before it.
unfoldable pub stations : Heap → List FontTables → Inside → List ℕ → ℤ → Place → Result (List Station) Trouble
stations heap fonts inside [] total here = Ok []
stations heap fonts inside (n ∷ ns) total here =
    at heap n (λ node.
    let item = item_of heap fonts node in
    result_map (λ rest. record { contents = node.fields.contents; here = here } ∷ rest)
    (stations heap fonts inside ns (total +ℤ move inside.glue item) (moved inside.direction (set_size inside.glue total (own_size inside.direction item) item) here)))

-- the pieces of nodes that stand so
abbrev pub row_pieces : List FontTables → Placer → Direction → List Station → Pieces
row_pieces fonts place direction [] = Ok []
row_pieces fonts place direction (s ∷ ss) = joined (node_pieces fonts place direction s.contents s.here) (row_pieces fonts place direction ss)

-- where the nodes of a list stand that begins here, if it is one that `items` accepts
unfoldable pub row_at : Heap → List FontTables → Inside → Place → Result (List Station) Trouble
row_at heap fonts inside here =
    result_and_then (items_answer heap fonts inside.head inside.kind) (λ items.
    result_and_then (flat_walk heap inside.head) (λ names. stations heap fonts inside names (pos 0) here))

-- A list that begins here, with at most so many levels of lists, itself included.
unfoldable pub list_pieces : Heap → List FontTables → ℕ → Placer
list_pieces heap fonts zero inside here = Err Nest
list_pieces heap fonts (suc levels) inside here =
    result_and_then (row_at heap fonts inside here) (row_pieces fonts (list_pieces heap fonts levels) inside.direction)

-- ---- pages

-- A page: its height and depth together, its width, and its pieces.
pub record Page : Type 0 where
  pub total : ℤ
  pub width : ℤ
  pub pieces : List Piece

-- A page whose lists are accepted has at most so many levels of lists.
abbrev pub max_levels : ℕ
max_levels = max_depth + 1

abbrev pub page_of : BoxFields → Pieces → Result Page Trouble
page_of b pieces = result_map (λ ps. record { total = b.height +ℤ b.depth; width = b.width; pieces = ps }) pieces

-- the upper left corner of a page, and the reference point of its box
abbrev pub page_corner : Place
page_corner = record { h = pos 0; v = pos 0 }

abbrev pub page_reference : BoxFields → Place
page_reference b = record { h = pos 0; v = b.height }

abbrev pub page_in : Placer → ℕ → Contents → Result Page Trouble
page_in place page (contents.Hlist b) = page_of b (place (hlist_inside b) (page_reference b))
page_in place page (contents.Vlist b) = page_of b (place (vlist_inside b) page_corner)
page_in place page _ = Err (WrongKind page)

-- The box of this name as a page. First come the refusals of the walk through all its lists and of its characters.
abbrev pub placed : Heap → List FontTables → ℕ → Result Page Trouble
placed heap fonts page =
    result_and_then (items_answer heap fonts (Some page) H) (λ items.
    at heap page (λ node. page_in (list_pieces heap fonts max_levels) page node.fields.contents))
