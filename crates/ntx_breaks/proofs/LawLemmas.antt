-- Each paragraph has breaks.
use Rattle.std.proofs.Common.{◌≡◌, List, Bool, true, false, Option, Some, None, refl, sym, ◌∙◌, subst, pos}
use Rattle.std.specs.Prelude.{int_le, is_some}
use Rattle.std.specs.Option.{unwrap_or}
use Rattle.ntx_item.specs.declared.item.Item.{Item}
use Rattle.ntx_item.specs.Settings.{Settings}
use Rattle.ntx_breaks.specs.Passes.{second_pass, third_pass, early_passes, last_passes, passes_of}
use Rattle.ntx_breaks.specs.Chosen.{Answer, or_else, no_lines, answer_of, first_answer, breaks_of}
use Rattle.ntx_breaks.specs.Laws.{EachParagraphBreaks}
use Rattle.ntx_breaks.proofs.PassLemmas.{all_passes, last_is}
use Rattle.ntx_breaks.proofs.EndLemmas.{final_breaks}

left_some : (a b : Option Answer) → is_some a ≡ true → is_some (or_else a b) ≡ true
left_some None b e = cc
left_some (Some answer) b e = refl

right_some : (a b : Option Answer) → is_some b ≡ true → is_some (or_else a b) ≡ true
right_some None b e = e
right_some (Some answer) b e = refl

later_some : (params : Settings) (items : List Item) (b : Bool) → int_le params.emergencystretch (pos 0) ≡ b → is_some (or_else (answer_of params items (second_pass params)) (first_answer params items (last_passes params))) ≡ true
later_some params items true e =
    left_some (answer_of params items (second_pass params)) (first_answer params items (last_passes params)) (final_breaks params items (second_pass params) e)
later_some params items false e =
    right_some (answer_of params items (second_pass params)) (first_answer params items (last_passes params))
    (subst (λ o. is_some o ≡ true) (sym (last_is params items e)) (final_breaks params items (third_pass params) refl))

some_is : (o : Option Answer) (d : Answer) → is_some o ≡ true → o ≡ Some (unwrap_or o d)
some_is None d e = cc
some_is (Some answer) d e = refl

pub each_breaks : EachParagraphBreaks
each_breaks params items =
    some_is (first_answer params items (passes_of params)) no_lines
    (subst (λ o. is_some o ≡ true) (sym (all_passes params items))
    (right_some (first_answer params items (early_passes params)) (or_else (answer_of params items (second_pass params)) (first_answer params items (last_passes params)))
    (later_some params items (int_le params.emergencystretch (pos 0)) refl)))
