-- Where the reading of a script stops, the script is refused there, for that reason.
--     refused_script       of the words of a script, each numeral and text of which has a value
--     refused_with_line    the same with the line of the word at which it stops
use Rattle.std.proofs.Common.{◌≡◌, ℕ, List, Some, Err, refl, ap, ◌∙◌}
use Rattle.ntx_parse.specs.Words.{Word}
use Rattle.ntx_parse.specs.Faults.{IsRefusedAt, IsRefused, line_at}
use Rattle.ntx_parse.specs.inner.Reading.{Stop, script_by}
use Rattle.ntx_parse.proofs.faults.Cannot.{cannot}
use Rattle.ntx_parse.proofs.stuck.Answers.{EachHasValue}
use Rattle.ntx_parse.proofs.stuck.Scripts.{stand, refused}

pub refused_script : (n : ℕ) (words : List Word) (s : Stop) → EachHasValue words → script_by n words ≡ Some (Err s) → IsRefusedAt s.why words s.words
refused_script n words s values e =
    refused (stand n words s values e) (λ front placed same expect_word.
    cannot n words front s.words placed same (e ∙ ap (λ reason. Some (Err (record { why = reason; words = s.words }))) expect_word))

-- a fault that has the reason of the stop, and the line of the word there
pub refused_with_line : (n : ℕ) (bytes : List ℕ) (words : List Word) (s : Stop) → EachHasValue words → script_by n words ≡ Some (Err s) → IsRefused bytes words (record { line = line_at bytes s.words; why = s.why })
refused_with_line n bytes words s values e = record { behind = s.words; at = refused_script n words s values e; line = refl }
