-- Only glue changes its size.
use Rattle.std.proofs.Common.{◌+◌, ◌≤◌, ◌^◌, sym, ◌∙◌, arith}
use Rattle.std.specs.Int.RustNames.{unsigned_abs}
use Rattle.ntx_item.specs.Items.{absolute_width, max_total}
use Rattle.ntx_pack.proofs.OutputLemmas.{other_sizes}
use Rattle.ntx_ship.specs.Placed.{own_size}
use Rattle.ntx_ship.proofs.Reaches.{no_glue, total_stays}
use Rattle.ntx_ship.proofs.Marks.{exact}
use Rattle.ntx_ship.proofs.size.set_size.Goals as goal

pub returns-in_default-clause-size : goal.returns-in_default-clause-size
returns-in_default-clause-size c =
    let item = c.args.item.now in
    let setter = c.args.setter.now in
    let own : unsigned_abs c.own_size.result ≤ absolute_width item + 2 ^ 31 = c.own_size.ensures.bounded in
    let wide : absolute_width item ≤ max_total = c.requires.bounded.width in
    exact c.own_size.result (omega (arith, own, wide)) ∙ c.own_size.ensures.value ∙ sym (other_sizes setter.glue setter.total (own_size c.args.direction item) item (no_glue item c.in_default.not-Glue))

pub returns-in_default-clause-total : goal.returns-in_default-clause-total
returns-in_default-clause-total c = total_stays c.args.setter.now.glue c.args.setter.now.total c.args.item.now (no_glue c.args.item.now c.in_default.not-Glue)
