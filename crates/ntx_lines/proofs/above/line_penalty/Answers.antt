use Rattle.std.proofs.Common.{◌∙◌, ap}
use Rattle.ntx_lines.specs.Above.{only_if}
use Rattle.ntx_lines.proofs.Words.{same_penalty, same_sum, penalty_kept, summed}
use Rattle.ntx_lines.proofs.above.line_penalty.Goals as goal

pub sum-requires : goal.sum-requires
sum-requires c = record {
  a = penalty_kept c.get-each.result c.get-each.ensures.in_range;
  b = penalty_kept c.only_if-at_first.result (c.only_if-at_first.ensures.in_range (penalty_kept c.get-club.result c.get-club.ensures.in_range));
  c = penalty_kept c.only_if-at_last.result (c.only_if-at_last.ensures.in_range (penalty_kept c.get-widow.result c.get-widow.ensures.in_range));
  d = penalty_kept c.only_if-at_hyphen.result (c.only_if-at_hyphen.ensures.in_range (penalty_kept c.get-broken.result c.get-broken.ensures.in_range));
}

pub returns-clause-value : goal.returns-clause-value
returns-clause-value c =
    let p = c.args.place in
    let club = c.get-club in
    let widow = c.get-widow in
    let broken = c.get-broken in
    let first = c.only_if-at_first in
    let last = c.only_if-at_last in
    let hyphen = c.only_if-at_hyphen in
    same_sum c.sum.result c.sum.ensures.in_range
    ∙ c.sum.ensures.value
    ∙ summed _ _ _ _ _ _ _ _ (same_penalty c.get-each.result c.get-each.ensures.in_range ∙ c.get-each.ensures.value)
    (same_penalty first.result (first.ensures.in_range (penalty_kept club.result club.ensures.in_range)) ∙ first.ensures.value ∙ ap (only_if p.is_first) (same_penalty club.result club.ensures.in_range ∙ club.ensures.value))
    (same_penalty last.result (last.ensures.in_range (penalty_kept widow.result widow.ensures.in_range)) ∙ last.ensures.value ∙ ap (only_if p.is_before_last) (same_penalty widow.result widow.ensures.in_range ∙ widow.ensures.value))
    (same_penalty hyphen.result (hyphen.ensures.in_range (penalty_kept broken.result broken.ensures.in_range)) ∙ hyphen.ensures.value ∙ ap (only_if p.is_hyphenated) (same_penalty broken.result broken.ensures.in_range ∙ broken.ensures.value))
