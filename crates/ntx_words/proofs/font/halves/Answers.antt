use Rattle.std.proofs.Common.{◌≡◌, ◌∙◌, ◌==◌, sym, ap₂, List, ℕ, Option, None, Some, option_map, Bor}
use Rattle.std.specs.Prelude.{MatchOption}
use Rattle.std.specs.Str.{NoCharPasses}
use Rattle.std.specs.Str.Pattern.{RFindsChar, SplitsAroundMatch}
use Rattle.ntx_words.specs.Font.{Halves, halves_of}
use Rattle.ntx_words.specs.inner.Views.{halves_seen}
use Rattle.ntx_words.proofs.Halves.{undivided, divided}
use Rattle.ntx_words.proofs.font.halves.Goals as goal

abbrev halved : List ℕ → List ℕ → Option Halves
halved before after = Some (record { before = before; after = after })

cut : (word : List ℕ) (r : Option (Bor (List ℕ) × Bor (List ℕ)))
    → MatchOption r (NoCharPasses (λ d. d == 64) word) (λ x. SplitsAroundMatch (RFindsChar 64) word x.0.now x.1.now)
    → option_map halves_seen r ≡ halves_of word
cut word None none = sym (undivided word none)
cut word (Some x) split = sym (divided word split.0 split.1 split.2.0 split.2.1 ∙ ap₂ halved (sym split.3) (sym split.4))

pub returns : goal.returns
returns c = cut c.args.word.now c.rsplit_once.result c.rsplit_once.ensures.cases
