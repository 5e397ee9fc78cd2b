-- No font of a new file is defined.
use Rattle.ntx_dvi.proofs.FontsLemmas.{are_known_as, none_are_known}
use Rattle.ntx_dvi.proofs.tests.a_font_is_defined_once_and_chosen_when_it_changes.Goals as goal

pub set-requires-clause-known : goal.set-requires-clause-known
set-requires-clause-known g c = are_known_as _ _ _ c.in_ok-dvi.ensures.fonts (none_are_known _)
