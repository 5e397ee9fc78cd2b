-- proofs/vertical/vlist_size/Answers.antt
use Rattle.std.proofs.Common.{◌≤◌, ◌^◌, subst, sym}
use Rattle.std.specs.Int.RustNames.{unsigned_abs}
use Rattle.ntx_num.specs.declared.size.Size.{Size}
use Rattle.ntx_pack.proofs.StackLemmas.{width_le, height_le, depth_le}
use Rattle.ntx_pack.proofs.vertical.vlist_size.Goals as goal

pub returns-clause-width : goal.returns-clause-width
returns-clause-width c = subst (λ (s : Size). unsigned_abs s.w ≤ 2 ^ 31) (sym c.size_of_all.ensures) (width_le c.args.items.now c.requires.measured)

pub returns-clause-height : goal.returns-clause-height
returns-clause-height c = subst (λ (s : Size). unsigned_abs s.h ≤ 2 ^ 51) (sym c.size_of_all.ensures) (height_le c.args.items.now c.requires.few c.requires.measured)

pub returns-clause-depth : goal.returns-clause-depth
returns-clause-depth c = subst (λ (s : Size). unsigned_abs s.d ≤ 2 ^ 31) (sym c.size_of_all.ensures) (depth_le c.args.items.now c.requires.measured)
