use Rattle.std.proofs.Common.{◌≡◌, sym, ap, ◌∙◌, subst}
use Rattle.std.specs.Prelude.{map}
use Rattle.ntx_parse.specs.Faults.{IfRefused, IsRefused}
use Rattle.ntx_parse.specs.Grammar.{Accepts}
use Rattle.ntx_parse.specs.inner.Input.{HaveValues, seen}
use Rattle.ntx_parse.specs.Words.{words_of}
use Rattle.ntx_parse.proofs.ScriptLemmas.{script_is_accepted, no_other_tree, only_by, refused_by, all_values}
use Rattle.ntx_parse.proofs.faults.OneFault.{refused_is_none, err_with_its_fault}
use Rattle.ntx_parse.proofs.WordValues.{words_have_values}
use Rattle.ntx_parse.proofs.stuck.Answers.{EachHasValue}
use Rattle.ntx_parse.proofs.script.parse.Goals as goal

pub whole-requires : goal.whole-requires
whole-requires c =
    let same : map seen c.as_slice.result.now ≡ words_of c.args.bytes.now c.args.tokens.now = ap (map seen) c.as_slice.ensures.value ∙ c.in_ok-words.ensures in
    subst HaveValues (sym same) (all_values _ (words_have_values c.numerals_have_values.ensures c.texts_have_values.ensures c.args.bytes.now 0 c.args.tokens.now (c.tokens_stand_in_order.ensures _ _ c.requires)))

pub returns-in_err-block-clause-only : goal.returns-in_err-block-clause-only
returns-in_err-block-clause-only c chunk a =
    let same : map seen c.as_slice.result.now ≡ words_of c.args.bytes.now c.args.tokens.now = ap (map seen) c.as_slice.ensures.value ∙ c.in_ok-words.ensures in
    only_by _ c.from_residual-in_err-block.ensures.1 c.in_err-block.ensures chunk (subst (λ words. Accepts words chunk) (sym same) a)

pub returns-in_err-block-clause-refused : goal.returns-in_err-block-clause-refused
returns-in_err-block-clause-refused c =
    let same : map seen c.as_slice.result.now ≡ words_of c.args.bytes.now c.args.tokens.now = ap (map seen) c.as_slice.ensures.value ∙ c.in_ok-words.ensures in
    let values : EachHasValue (words_of c.args.bytes.now c.args.tokens.now) =
    words_have_values c.numerals_have_values.ensures c.texts_have_values.ensures c.args.bytes.now 0 c.args.tokens.now (c.tokens_stand_in_order.ensures _ _ c.requires) in
    subst (λ words. IfRefused c.from_residual-in_err-block.result (λ fault. IsRefused c.args.bytes.now words fault)) same
    (refused_by _ c.args.bytes.now c.from_residual-in_err-block.ensures.1 (subst EachHasValue (sym same) values) c.last_line.ensures c.in_err-block.ensures)

pub returns-in_err-block-clause-only_fault : goal.returns-in_err-block-clause-only_fault
returns-in_err-block-clause-only_fault c fault r =
    err_with_its_fault _ _ _ _ c.from_residual-in_err-block.ensures.1 (returns-in_err-block-clause-refused c) fault r

pub returns-clause-accepts : goal.returns-clause-accepts
returns-clause-accepts c =
    let same : map seen c.as_slice.result.now ≡ words_of c.args.bytes.now c.args.tokens.now = ap (map seen) c.as_slice.ensures.value ∙ c.in_ok-words.ensures in
    subst (λ words. Accepts words (record { block = c.in_ok-block.block })) same (script_is_accepted c.in_ok-block.ensures)

pub returns-clause-only : goal.returns-clause-only
returns-clause-only c chunk a =
    let same : map seen c.as_slice.result.now ≡ words_of c.args.bytes.now c.args.tokens.now = ap (map seen) c.as_slice.ensures.value ∙ c.in_ok-words.ensures in
    no_other_tree c.in_ok-block.ensures chunk (subst (λ words. Accepts words chunk) (sym same) a)

pub returns-clause-only_fault : goal.returns-clause-only_fault
returns-clause-only_fault c fault r = absurd (refused_is_none _ _ fault _ r (returns-clause-accepts c))
