use Rattle.std.proofs.Common.{◌+◌, [], ◌∷◌, ◌∙◌, sym, subst}
use Rattle.ntx_num.specs.Dimension.{max_dimension}
use Rattle.ntx_item.specs.declared.item.Item.TheVariants.{Glue}
use Rattle.ntx_legal.specs.LineSums.{sums_of, sums_plus, AreSumsWithin}
use Rattle.ntx_legal.proofs.PartLemmas.{sums_append, plus_within}
use Rattle.ntx_legal.proofs.between.background.Goals as goal

pub returns-clause-value : goal.returns-clause-value
returns-clause-value c =
    c.plus.ensures
    ∙ (λ j. sums_plus (c.of_glue.ensures.value j) (c.of_glue-2.ensures.value j))
    ∙ (λ j. sums_plus (sums_of (Glue (c.get_glue.ensures.value j) ∷ [])) (sums_of (Glue (c.get_glue-2.ensures.value j) ∷ [])))
    ∙ sym (sums_append (Glue c.args.params.now.leftskip ∷ []) (Glue c.args.params.now.rightskip ∷ []))

pub returns-clause-bound : goal.returns-clause-bound
returns-clause-bound c =
    subst (AreSumsWithin (max_dimension + max_dimension)) (sym c.plus.ensures)
    (plus_within max_dimension max_dimension c.of_glue.result c.of_glue-2.result c.of_glue.ensures.bound c.of_glue-2.ensures.bound)
