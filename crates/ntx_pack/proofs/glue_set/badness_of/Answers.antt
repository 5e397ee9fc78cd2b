-- proofs/glue_set/badness_of/Answers.antt
use Rattle.std.proofs.Common.{w64, rules, sym, ◌∙◌}
use Rattle.std.specs.Int.RustNames.{FitsSigned}
use Rattle.std.proofs.lemmas.Int.{to_z-of_z}
use Rattle.ntx_pack.proofs.CodeNumbers.{badness_is}
use Rattle.ntx_pack.proofs.glue_set.badness_of.Goals as goal

pub returns-else-is_empty : goal.returns-else-is_empty
returns-else-is_empty c =
    let f : FitsSigned w64 c.badness_by.result = search rules in
    to_z-of_z w64 c.badness_by.result f
    ∙ badness_is c.args.items.now c.args.shortfall _ _ _ c.badness_by.result (sym c.is_empty.ensures ∙ c.if-is_empty.false) (to_z-of_z w64 c.args.shortfall c.ranges.shortfall) c.requires.order c.requires.total c.badness_by.ensures
