use Rattle.std.proofs.Common.{◌≡◌, ◌+ℤ◌, to_z, of_z, w64, ap, ◌∙◌, arith, rules, FitsSigned}
use Rattle.std.proofs.lemmas.Int.{ints, to_z-of_z}
use Rattle.ntx_num.specs.Demerits.{demerits_of}
use Rattle.ntx_breaks.specs.Penalties.{penalty_at}
use Rattle.ntx_breaks.proofs.cost.line_cost.Goals as goal

pub returns-clause-value : goal.returns-clause-value
returns-clause-value c =
    let sum : to_z w64 (of_z w64 (to_z w64 (of_z w64 (to_z w64 (of_z w64 c.own_demerits.result) +ℤ to_z w64 (of_z w64 c.hyphen_demerits.result))) +ℤ to_z w64 (of_z w64 c.class_demerits.result))) ≡ c.own_demerits.result +ℤ c.hyphen_demerits.result +ℤ c.class_demerits.result = omega (arith, ints) in
    let fits : FitsSigned w64 c.args.line.b = search rules in
    let own : c.own_demerits.result ≡ demerits_of c.args.params.now.linepenalty c.args.line.b (penalty_at c.args.params.now c.args.items.now c.args.to) =
    c.own_demerits.ensures.value
    ∙ ap (λ b. demerits_of c.args.params.now.linepenalty b (penalty_at c.args.params.now c.args.items.now c.args.to)) (to_z-of_z w64 c.args.line.b fits) in
    sum ∙ (λ j. own j +ℤ c.hyphen_demerits.ensures.value j +ℤ c.class_demerits.ensures.value j)
