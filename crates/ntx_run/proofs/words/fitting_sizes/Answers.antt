use Rattle.std.proofs.Common.{rules, map, string_bytes, Err, subst}
use Rattle.ntx_num.specs.Answer.{Answers}
use Rattle.ntx_words.specs.CommandLine.{command_line}
use Rattle.ntx_run.proofs.Fitting.{fits, unfit_number, unfit_name, no_words}
use Rattle.ntx_run.proofs.words.fitting_sizes.Goals as goal
use Rattle.ntx_run.proofs.words.fitting_sizes.Goals.{else-len-feeds-via-then-len-feeds+else-are_named, else-len-feeds-via-else-len-feeds}

pub returns-in-Err-Is : goal.returns-in-Err-Is
returns-in-Err-Is g c = no_words _ _ _ c.in-Err-Is.field-0-0 (subst (λ e. Answers (Err e) (command_line (map string_bytes c.args.words.now))) c.in-Err-Is.field-0-is c.in-Err-Is.ensures)

pub returns-then-are_named : goal.returns-then-are_named
returns-then-are_named g c = fits _ _ _ _ _ c.in-Ok.ensures (search rules) c.if-are_named.true c.are_named.ensures

pub returns-else-len-feeds : goal.returns-else-len-feeds
returns-else-len-feeds g c = elim c.else-len-feeds.branch [
  | else-len-feeds-via-then-len-feeds+else-are_named w ↦ unfit_name _ _ _ _ _ c.in-Ok.ensures w.if-are_named.false w.are_named.ensures
  | else-len-feeds-via-else-len-feeds w ↦ unfit_number _ _ _ _ c.in-Ok.ensures (λ same. w.if-len-feeds.false (let length_is = c.len.ensures in search rules))
]
