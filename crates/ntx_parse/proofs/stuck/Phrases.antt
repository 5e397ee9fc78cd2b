-- All readings: what each answer of theirs tells.
use Rattle.std.proofs.Common.{ℕ, List}
use Rattle.ntx_syntax.specs.declared.tree.LocalName.{LocalName}
use Rattle.ntx_syntax.specs.declared.tree.Var.{Var}
use Rattle.ntx_syntax.specs.declared.tree.Exp.{Exp}
use Rattle.ntx_syntax.specs.declared.tree.Operation.{Operation}
use Rattle.ntx_syntax.specs.declared.tree.Field.{Field}
use Rattle.ntx_syntax.specs.declared.tree.Stat.{Stat}
use Rattle.ntx_syntax.specs.declared.tree.IfArm.{IfArm}
use Rattle.ntx_parse.specs.declared.part.Part.{Part}
use Rattle.ntx_parse.specs.declared.place.Place.{Place}
use Rattle.ntx_parse.specs.declared.precedence.Precedence.{Precedence}
use Rattle.ntx_parse.specs.Words.{Word}
use Rattle.ntx_parse.specs.Grammar.{IsPath, IsBlock, IsStats, IsArms, IsExp, IsFields}
use Rattle.ntx_parse.specs.inner.Reading.{Readers}
use Rattle.ntx_parse.proofs.sound.Phrases.{IsBehind, IsMoreNames, IsMoreExps, IsMoreVars, IsLonger, IsOperated}
use Rattle.ntx_parse.proofs.stuck.Answers.{any_words, no_call, IsViable}

-- Only a path stands before a parenthesis.
pub record AreViable (r : Readers) : Type 0 where
  pub block : (p : Place) (words : List Word) → IsViable no_call no_call (IsBlock p) words (r.block p words)
  pub stats : (p : Place) (before : List Stat) (words : List Word) → IsViable no_call no_call (IsBehind before (IsStats p)) words (r.stats p before words)
  pub arms : (p : Place) (before : List IfArm) (words : List Word) → IsViable no_call no_call (IsBehind before (IsArms p)) words (r.arms p before words)
  pub path : (p : Place) (before : List (List ℕ)) (words : List Word) → IsViable any_words any_words (IsBehind before (IsPath p)) words (r.path p before words)
  pub names : (p : Place) (before : List LocalName) (words : List Word) → IsViable no_call no_call (IsBehind before (IsMoreNames p)) words (r.names p before words)
  pub exps : (p : Place) (before : List Exp) (words : List Word) → IsViable no_call no_call (IsBehind before (IsMoreExps p)) words (r.exps p before words)
  pub vars : (p : Place) (before : List Var) (words : List Word) → IsViable no_call no_call (IsBehind before (IsMoreVars p)) words (r.vars p before words)
  pub suffixes : (p : Place) (before : Part) (words : List Word) → IsViable no_call no_call (IsLonger p before) words (r.suffixes p before words)
  pub exp : (p : Place) (at : Precedence) (words : List Word) → IsViable no_call no_call (IsExp p at) words (r.exp p at words)
  pub operations : (p : Place) (at : Precedence) (before : List Operation) (words : List Word) → IsViable no_call no_call (IsOperated p at before) words (r.operations p at before words)
  pub fields : (p : Place) (before : List Field) (words : List Word) → IsViable no_call no_call (IsBehind before (IsFields p)) words (r.fields p before words)
