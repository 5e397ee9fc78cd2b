use Rattle.std.proofs.Common.{◌≡◌, true, false, ap, sym, ◌∙◌, subst, rules}
use Rattle.std.specs.Prelude.{is_some}
use Rattle.std.specs.Option.{option_map}
use Rattle.ntx_num.specs.Answer.{Gives, result_map}
use Rattle.ntx_breaks.specs.Passes.{last_passes}
use Rattle.ntx_breaks.specs.Chosen.{breaks_seen, or_else, answer_of, first_answer}
use Rattle.ntx_breaks.proofs.PassLemmas.{all_passes, pick_second, pick_last}
use Rattle.ntx_breaks.proofs.answer.first_answer.Goals as goal

pub returns-then-is_some-2 : goal.returns-then-is_some-2
returns-then-is_some-2 c =
    let params = c.args.params.now in let items = c.args.items.now in
    let none : is_some c.in_ok-first.first ≡ false = search rules in
    let some : is_some c.in_ok-second.second ≡ true = search rules in
    sym
    (all_passes params items
    ∙ (λ j. or_else (sym c.in_ok-first.ensures j) (or_else ((ap (answer_of params items) (sym c.second.ensures) ∙ sym c.in_ok-second.ensures) j) (first_answer params items (last_passes params))))
    ∙ pick_second c.in_ok-first.first c.in_ok-second.second (first_answer params items (last_passes params)) none some)

pub returns : goal.returns
returns c =
    let params = c.args.params.now in let items = c.args.items.now in
    let none : is_some c.in_ok-first.first ≡ false = search rules in
    let none_second : is_some c.in_ok-second.second ≡ false = search rules in
    subst (Gives (result_map (option_map breaks_seen) c.last_answer.result))
    (sym
    (all_passes params items
    ∙ (λ j. or_else (sym c.in_ok-first.ensures j) (or_else ((ap (answer_of params items) (sym c.second.ensures) ∙ sym c.in_ok-second.ensures) j) (first_answer params items (last_passes params))))
    ∙ pick_last c.in_ok-first.first c.in_ok-second.second (first_answer params items (last_passes params)) none none_second))
    c.last_answer.ensures
