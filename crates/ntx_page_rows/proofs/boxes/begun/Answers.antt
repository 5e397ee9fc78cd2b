use Rattle.std.proofs.Common.{ap, ◌∙◌}
use Rattle.ntx_dvi.proofs.FontsLemmas.{are_known_as, none_are_known}
use Rattle.ntx_page_rows.proofs.boxes.begun.Goals as goal

pub returns-clause-known : goal.returns-clause-known
returns-clause-known c known = are_known_as _ _ _ (c.begin.ensures.fonts ∙ ap (λ w. w.progress.fonts) c.in_ok-dvi.ensures) (none_are_known known)
