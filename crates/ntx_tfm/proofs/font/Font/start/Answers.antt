use Rattle.std.proofs.Common.{◌≡◌, None, slice_index_or, arith}
use Rattle.std.proofs.lemmas.Grind.{common_steps}
use Rattle.ntx_tfm.specs.Font.{start_in}
use Rattle.ntx_tfm.proofs.StepLemmas.{found_inside}
use Rattle.ntx_tfm.proofs.font.Font.start.Goals as goal

pub returns-clause-inside : goal.returns-clause-inside
returns-clause-inside c =
    let value : c.and_then.result ≡ start_in (slice_index_or c.self.inside.characters.items c.args.c None) = grind (arith, common_steps) in
    rw (← c.self.view_is) (found_inside _ _ _ (c.self.invariant.starts c.args.c) value)
