-- How far from a page's corner the nodes in its boxes can stand.
use Rattle.std.specs.Prelude.{◌≡◌, ℕ, ◌-◌, ◌*◌, ◌^◌, ◌≤◌, unsigned_abs, List, length, slice_get, Some}
use Rattle.ntx_nodes.specs.Heap.{Heap}
use Rattle.ntx_nodes.specs.declared.fields.Contents.{Contents}
use Rattle.ntx_nodes.specs.declared.fields.Contents.TheVariants as contents
use Rattle.ntx_tfm.specs.Font.{FontTables}
use Rattle.ntx_item.specs.declared.item.Item.{Item}
use Rattle.ntx_pack.specs.GlueSet.{glue_set_in}
use Rattle.ntx_pack.specs.Output.{IsRatio}
use Rattle.ntx_view.specs.Measured.{HasMeasures}
use Rattle.ntx_view.specs.View.{item_at}
use Rattle.ntx_ship.specs.declared.place.Place.{Place}
use Rattle.ntx_ship.specs.declared.station.Station.{Station}

-- The place is no farther than this from the page's corner, in either direction.
pub record IsPlaced (most : ℕ) (at : Place) : Type 0 where
  pub h : unsigned_abs at.h ≤ most
  pub v : unsigned_abs at.v ≤ most

-- The nodes of one list stand at most so far from its beginning.
abbrev pub list_reach : ℕ
list_reach = 2 ^ 52

-- A list with so many levels of lists, itself included, stands at most so far from the page's corner.
abbrev pub reach : ℕ → ℕ
reach levels = (102 - levels) * list_reach

-- the ratio of a box is in the range of rounding
abbrev pub HasRatio : Contents → Type 0
HasRatio (contents.Hlist b) = IsRatio (glue_set_in b)
HasRatio (contents.Vlist b) = IsRatio (glue_set_in b)
HasRatio _ = Unit {0}

-- the numbers by which a node is placed are in their ranges
pub record HasRanges (contents : Contents) : Type 0 where
  pub measures : HasMeasures contents
  pub ratio : HasRatio contents

-- a node that stands no farther than this from the page's corner, and by numbers in their ranges
pub record StandsWithin (most : ℕ) (station : Station) : Type 0 where
  pub place : IsPlaced most station.here
  pub ranges : HasRanges station.contents

-- one item for each node of these names
pub record AreItemsOf (heap : Heap) (fonts : List FontTables) (names : List ℕ) (items : List Item) : Type 0 where
  pub count : length items ≡ length names
  pub each : (k n : ℕ) → slice_get names k ≡ Some n → slice_get items k ≡ item_at heap fonts n
