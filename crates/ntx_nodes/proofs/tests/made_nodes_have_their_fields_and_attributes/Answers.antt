use Rattle.std.proofs.Common.{None, negsuc, arith}
use Rattle.std.proofs.lemmas.Int.{ints}
use Rattle.ntx_nodes.specs.Heap.{Heap}
use Rattle.ntx_nodes.specs.Writing.{AreMakable}
use Rattle.ntx_nodes.specs.declared.fields.Contents.TheVariants as contents
use Rattle.ntx_nodes.proofs.Ranges.{makable_fields}
use Rattle.ntx_nodes.proofs.tests.made_nodes_have_their_fields_and_attributes.Goals as goal

kern : (heap : Heap) → AreMakable heap (record { subtype = 1; next = None; contents = contents.Kern (negsuc 6) })
kern heap = makable_fields heap _ (record { subtype = omega arith; link = λ n e. cc; contents = (omega (arith, ints), omega (arith, ints)) })

pub make_filled-requires : goal.make_filled-requires
make_filled-requires g c = kern _

pub make_current-requires : goal.make_current-requires
make_current-requires g c = kern _

pub make_like-requires : goal.make_like-requires
make_like-requires g c = kern _
