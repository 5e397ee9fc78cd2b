-- proofs/natural/hlist_size/Answers.antt
use Rattle.std.proofs.Common.{◌≤◌, subst, sym}
use Rattle.std.specs.List.{sum_by}
use Rattle.std.specs.Int.RustNames.{unsigned_abs}
use Rattle.ntx_num.specs.declared.size.Size.{Size}
use Rattle.ntx_item.specs.Items.{absolute_width}
use Rattle.ntx_view.specs.Natural.{max_reach}
use Rattle.ntx_view.proofs.Sizes.{width_within, height_within, depth_within}
use Rattle.ntx_view.proofs.natural.hlist_size.Goals as goal

pub returns-clause-width : goal.returns-clause-width
returns-clause-width c =
    subst (λ (s : Size). unsigned_abs s.w ≤ sum_by absolute_width c.args.items.now) (sym c.size_of_all.ensures) (width_within c.args.items.now)

pub returns-clause-height : goal.returns-clause-height
returns-clause-height c = subst (λ (s : Size). unsigned_abs s.h ≤ max_reach) (sym c.size_of_all.ensures) (height_within c.args.items.now c.requires.reaching)

pub returns-clause-depth : goal.returns-clause-depth
returns-clause-depth c = subst (λ (s : Size). unsigned_abs s.d ≤ max_reach) (sym c.size_of_all.ensures) (depth_within c.args.items.now c.requires.reaching)
