-- proofs/laws/natural_boxes_are_unset/Answers.antt
use Rattle.std.proofs.Common.{◌≡◌, pos, ◌+ℤ◌, refl, arith}
use Rattle.std.proofs.lemmas.Int.{ints}
use Rattle.ntx_item.specs.declared.pack_to.PackTo.TheVariants.{Exactly, Additional}
use Rattle.ntx_pack.specs.Pack.{natural_size, along}
use Rattle.ntx_pack.proofs.PackedLemmas.{unset_if}
use Rattle.ntx_pack.proofs.laws.natural_boxes_are_unset.Goals as goal

pub returns : goal.returns
returns c = record {
  exactly = λ direction items box e. unset_if direction (Exactly (along direction (natural_size direction items))) items box refl e;
  additional = λ direction items box e. unset_if direction (Additional (pos 0)) items box (let n : along direction (natural_size direction items) +ℤ pos 0 ≡ along direction (natural_size direction items) = omega (arith, ints) in n) e;
}
