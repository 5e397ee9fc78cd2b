-- Two readings side by side: all of them, and names and lists.
use Rattle.std.proofs.Common.{◌≡◌, ℕ, true, nat_eq, nat_le, List, [], ◌∷◌, ◌++◌}
use Rattle.ntx_syntax.specs.declared.tree.LocalName.{LocalName}
use Rattle.ntx_syntax.specs.declared.tree.Var.{Var}
use Rattle.ntx_syntax.specs.declared.tree.Exp.{Exp}
use Rattle.ntx_syntax.specs.declared.tree.Operation.{Operation}
use Rattle.ntx_syntax.specs.declared.tree.Field.{Field}
use Rattle.ntx_syntax.specs.declared.tree.Stat.{Stat}
use Rattle.ntx_syntax.specs.declared.tree.IfArm.{IfArm}
use Rattle.ntx_syntax.specs.Terminals.{same_terminal}
use Rattle.ntx_parse.specs.declared.part.Part.{Part}
use Rattle.ntx_parse.specs.declared.place.Place.{Place}
use Rattle.ntx_parse.specs.declared.precedence.Precedence.{Precedence}
use Rattle.ntx_parse.specs.declared.precedence.Precedence.TheVariants as precedence
use Rattle.ntx_syntax.specs.declared.terminal.Terminal.TheVariants as terminal
use Rattle.ntx_parse.specs.Words.{Word}
use Rattle.ntx_parse.specs.Grammar.{max_nesting}
use Rattle.ntx_parse.specs.inner.Reading.{Readers, read_name, read_local_name, path_behind, names_behind, read_names, exps_behind, read_exps}
use Rattle.ntx_parse.proofs.viewed.DeepNames.{AreDeep}
use Rattle.ntx_parse.proofs.viewed.Views.{View, Situation, lost, At, Goes, goes_read, goes_then, goes_where, goes_taken, goes_expected}

-- Each reading of the first tells what that of the second tells. An expression that begins with a name after which nothing is looked at takes it; where it
-- is too deep, both stop at it or tell nothing.
pub record Go (V : View) (r other : Readers) : Type 0 where
  pub block : (p : Place) {s : Situation} {words others : List Word} → At V s words others → Goes V s (r.block p words) (other.block p others)
  pub stats : (p : Place) (before : List Stat) {s : Situation} {words others : List Word} → At V s words others
      → Goes V s (r.stats p before words) (other.stats p before others)
  pub arms : (p : Place) (before : List IfArm) {s : Situation} {words others : List Word} → At V s words others
      → Goes V s (r.arms p before words) (other.arms p before others)
  pub path : (p : Place) (before : List (List ℕ)) {s : Situation} {words others : List Word} → At V s words others
      → Goes V s (r.path p before words) (other.path p before others)
  pub names : (p : Place) (before : List LocalName) {s : Situation} {words others : List Word} → At V s words others
      → Goes V s (r.names p before words) (other.names p before others)
  pub exps : (p : Place) (before : List Exp) {s : Situation} {words others : List Word} → At V s words others
      → Goes V s (r.exps p before words) (other.exps p before others)
  pub vars : (p : Place) (before : List Var) {s : Situation} {words others : List Word} → At V s words others
      → Goes V s (r.vars p before words) (other.vars p before others)
  pub suffixes : (p : Place) (before : Part) {s : Situation} {words others : List Word} → At V s words others
      → Goes V s (r.suffixes p before words) (other.suffixes p before others)
  pub exp : (p : Place) (at : Precedence) {s : Situation} {words others : List Word} → At V s words others → Goes V s (r.exp p at words) (other.exp p at others)
  pub operations : (p : Place) (at : Precedence) (before : List Operation) {s : Situation} {words others : List Word} → At V s words others
      → Goes V s (r.operations p at before words) (other.operations p at before others)
  pub fields : (p : Place) (before : List Field) {s : Situation} {words others : List Word} → At V s words others
      → Goes V s (r.fields p before words) (other.fields p before others)
  pub named : (p : Place) (at : Precedence) (o : Word) (words : List Word) → same_terminal o.is terminal.Name ≡ true
      → nat_le p.nesting max_nesting ≡ true → V.Lost words → Goes V lost (r.exp p at (o ∷ words)) (other.exp p at (o ∷ words))
  pub deep : AreDeep r
  pub other_deep : AreDeep other

module _ {V : View} {s : Situation} {words others : List Word} (p : Place) (h : At V s words others) where
  pub goes_name : Goes V s (read_name p words) (read_name p others)
  goes_name = goes_then (goes_expected p terminal.Name h) (λ o _ _ _ h. goes_read h)

  pub goes_local_name : Goes V s (read_local_name p words) (read_local_name p others)
  goes_local_name = goes_then (goes_expected p terminal.Name h) (λ o _ _ _ h. goes_read h)

module _ {V : View} {r other : Readers} (g : Go V r other) {s : Situation} {words others : List Word} (p : Place) where
  pub goes_path : (before : List (List ℕ)) → At V s words others → Goes V s (path_behind r p before words) (path_behind other p before others)
  goes_path before h =
      goes_where terminal.Dot h
      (goes_then (goes_taken p h) (λ _ _ _ _ h. goes_then (goes_name p h) (λ name _ _ _ h. g.path p (before ++ name ∷ []) h)))
      (goes_read h)

  pub goes_names : (before : List LocalName) → At V s words others → Goes V s (names_behind r p before words) (names_behind other p before others)
  goes_names before h =
      goes_where terminal.Comma h
      (goes_then (goes_taken p h) (λ _ _ _ _ h. goes_then (goes_local_name p h) (λ name _ _ _ h. g.names p (before ++ name ∷ []) h)))
      (goes_read h)

  pub goes_read_names : At V s words others → Goes V s (read_names r p words) (read_names other p others)
  goes_read_names h = goes_then (goes_local_name p h) (λ name _ _ _ h. g.names p (name ∷ []) h)

  pub goes_exps : (before : List Exp) → At V s words others → Goes V s (exps_behind r p before words) (exps_behind other p before others)
  goes_exps before h =
      goes_where terminal.Comma h
      (goes_then (goes_taken p h) (λ _ _ _ _ h. goes_then (g.exp p precedence.Or h) (λ e _ _ _ h. g.exps p (before ++ e ∷ []) h)))
      (goes_read h)

  pub goes_read_exps : At V s words others → Goes V s (read_exps r p words) (read_exps other p others)
  goes_read_exps h = goes_then (g.exp p precedence.Or h) (λ e _ _ _ h. g.exps p (e ∷ []) h)
