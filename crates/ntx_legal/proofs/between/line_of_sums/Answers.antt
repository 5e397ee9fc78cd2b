use Rattle.std.proofs.Common.{rules, FitsSigned, w64, ◌∙◌}
use Rattle.std.proofs.lemmas.Int.{to_z-of_z}
use Rattle.ntx_legal.specs.Lines.{fit_of}
use Rattle.ntx_legal.proofs.between.line_of_sums.Goals as goal

pub returns : goal.returns
returns c =
    let fits : FitsSigned w64 c.get.result = search rules in
    let extra_fits : FitsSigned w64 c.args.extra = search rules in
    c.fit_of.ensures ∙ (λ j. fit_of ((to_z-of_z w64 c.get.result fits ∙ c.get.ensures.value) j) (c.parts_sums.ensures.value j) (to_z-of_z w64 c.args.extra extra_fits j))
