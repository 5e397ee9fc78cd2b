use Rattle.std.proofs.Common.{sym, subst}
use Rattle.ntx_item.specs.Items.{AreItemsInRange}
use Rattle.ntx_legal.proofs.PartLemmas.{kept_in_range}
use Rattle.ntx_legal.proofs.between.line.Goals as goal

pub sums_of-requires : goal.sums_of-requires
sums_of-requires c = subst AreItemsInRange (sym c.kept_items.ensures) (kept_in_range c.args.items.now c.args.from c.args.to c.requires.in_range)
