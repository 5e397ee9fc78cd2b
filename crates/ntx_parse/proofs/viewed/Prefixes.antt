-- Two readings side by side: prefixes, bodies of functions, and tables.
use Rattle.std.proofs.Common.{List}
use Rattle.ntx_parse.specs.declared.part.Part.{Part}
use Rattle.ntx_parse.specs.declared.part.Part.TheVariants as part
use Rattle.ntx_parse.specs.declared.place.Place.{Place}
use Rattle.ntx_parse.specs.declared.precedence.Precedence.TheVariants as precedence
use Rattle.ntx_syntax.specs.declared.terminal.Terminal.TheVariants as terminal
use Rattle.ntx_parse.specs.Words.{Word}
use Rattle.ntx_parse.specs.Grammar.{within, within_function}
use Rattle.ntx_parse.specs.inner.Reading.{Readers, joined, read_index, read_arguments, suffixes_behind, read_parenthesized, read_prefix, read_parameters, read_body}
use Rattle.ntx_parse.proofs.viewed.Views.{View, Situation, At, Goes, goes_read, goes_then, goes_where, goes_taken, goes_expected}
use Rattle.ntx_parse.proofs.viewed.Lists.{Go, goes_name, goes_read_names, goes_read_exps}

module _ {V : View} {r other : Readers} (g : Go V r other) where
  pub goes_index : (p : Place) {s : Situation} {words others : List Word} → At V s words others → Goes V s (read_index r p words) (read_index other p others)
  goes_index p h =
      goes_then (goes_expected p terminal.LeftBracket h) (λ _ _ _ _ h.
      goes_then (g.exp p precedence.Or h) (λ key _ _ _ h.
      goes_then (goes_expected p terminal.RightBracket h) (λ _ _ _ _ h. goes_read h)))

  pub goes_arguments : (p : Place) {s : Situation} {words others : List Word} → At V s words others
      → Goes V s (read_arguments r p words) (read_arguments other p others)
  goes_arguments p h =
      goes_then (goes_expected p terminal.LeftParenthesis h) (λ _ _ _ _ h.
      goes_where terminal.RightParenthesis h
      (goes_then (goes_taken p h) (λ _ _ _ _ h. goes_read h))
      (goes_then (goes_read_exps g p h) (λ all _ _ _ h. goes_then (goes_expected p terminal.RightParenthesis h) (λ _ _ _ _ h. goes_read h))))

  pub goes_suffixes : (p : Place) (before : Part) {s : Situation} {words others : List Word} → At V s words others
      → Goes V s (suffixes_behind r p before words) (suffixes_behind other p before others)
  goes_suffixes p before h =
      goes_where terminal.LeftBracket h
      (goes_then (goes_index (within p) h) (λ key _ _ _ h. g.suffixes p (part.Index (joined before) key) h))
      (goes_where terminal.Dot h
      (goes_then (goes_taken p h) (λ _ _ _ _ h. goes_then (goes_name p h) (λ name _ _ _ h. g.suffixes p (part.Field (joined before) name) h)))
      (goes_where terminal.LeftParenthesis h
      (goes_then (goes_arguments (within p) h) (λ all _ _ _ h. g.suffixes p (part.Call (joined before) all) h))
      (goes_read h)))

  pub goes_parenthesized : (p : Place) {s : Situation} {words others : List Word} → At V s words others
      → Goes V s (read_parenthesized r p words) (read_parenthesized other p others)
  goes_parenthesized p h =
      goes_then (goes_expected p terminal.LeftParenthesis h) (λ _ _ _ _ h.
      goes_then (g.exp p precedence.Or h) (λ e _ _ _ h.
      goes_then (goes_expected p terminal.RightParenthesis h) (λ _ _ _ _ h. goes_read h)))

  pub goes_prefix : (p : Place) {s : Situation} {words others : List Word} → At V s words others → Goes V s (read_prefix r p words) (read_prefix other p others)
  goes_prefix p h =
      goes_where terminal.LeftParenthesis h
      (goes_then (goes_parenthesized (within p) h) (λ e _ _ _ h. g.suffixes p (part.Parenthesized e) h))
      (goes_then (goes_name p h) (λ name _ _ _ h. g.suffixes p (part.Name name) h))

  pub goes_parameters : (p : Place) {s : Situation} {words others : List Word} → At V s words others
      → Goes V s (read_parameters r p words) (read_parameters other p others)
  goes_parameters p h =
      goes_then (goes_expected p terminal.LeftParenthesis h) (λ _ _ _ _ h.
      goes_where terminal.RightParenthesis h
      (goes_then (goes_taken p h) (λ _ _ _ _ h. goes_read h))
      (goes_then (goes_read_names g p h) (λ names _ _ _ h. goes_then (goes_expected p terminal.RightParenthesis h) (λ _ _ _ _ h. goes_read h))))

  pub goes_body : (p : Place) {s : Situation} {words others : List Word} → At V s words others → Goes V s (read_body r p words) (read_body other p others)
  goes_body p h =
      goes_then (goes_parameters (within p) h) (λ parameters _ _ _ h.
      goes_then (g.block (within_function p) h) (λ block _ _ _ h.
      goes_then (goes_expected p terminal.End h) (λ _ _ _ _ h. goes_read h)))
