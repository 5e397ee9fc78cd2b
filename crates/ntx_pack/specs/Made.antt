-- What can be made into a box.
use Rattle.std.specs.Prelude.{◌≡◌, ◌≤◌, ℕ, true, Option, Some}
use Rattle.ntx_nodes.specs.Heap.{Heap, is_live}
use Rattle.ntx_pack.specs.declared.packed.Packed.{Packed}
use Rattle.ntx_tfm.specs.Font.{IsSized}
use Rattle.ntx_pack.specs.Output.{IsRatio}

-- a box whose numbers the fields of a node take
pub record IsMakable (box : Packed) : Type 0 where
  pub size : IsSized box.size
  pub ratio : IsRatio box.glue
  pub sign : box.glue.sign ≤ 2
  pub order : box.glue.order ≤ 3

-- a head that is live, if there is one
abbrev pub IsLiveHead : Heap → Option ℕ → Type 0
IsLiveHead heap head = (m : ℕ) → head ≡ Some m → is_live heap m ≡ true
