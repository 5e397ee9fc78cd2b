-- Names and lists: what an answer of theirs tells.
use Rattle.std.proofs.Common.{ℕ, List, [], ◌∷◌, ◌++◌, refl}
use Rattle.ntx_syntax.specs.declared.tree.LocalName.{LocalName}
use Rattle.ntx_syntax.specs.declared.tree.Exp.{Exp}
use Rattle.ntx_parse.specs.declared.place.Place.{Place}
use Rattle.ntx_parse.specs.declared.precedence.Precedence.TheVariants as precedence
use Rattle.ntx_syntax.specs.declared.terminal.Terminal.TheVariants as terminal
use Rattle.ntx_parse.specs.Words.{Word}
use Rattle.ntx_parse.specs.Grammar.{IsPath, IsNames, IsExps, no_path}
use Rattle.ntx_parse.specs.inner.Reading.{Readers, begins, read_name, read_local_name, path_behind, names_behind, read_names, exps_behind, read_exps}
use Rattle.ntx_parse.proofs.sound.Phrases.{IsName, IsLocalName, IsBehind, behind_all, IsMoreNames, names_end, IsMoreExps, exps_end}
use Rattle.ntx_parse.proofs.sound.Lists.{name_taken, local_taken, path_on, names_on, exps_on, names_whole, exps_whole}
use Rattle.ntx_parse.proofs.stuck.Answers.{Ends, any_words, no_call, IsViable, viable_then}
use Rattle.ntx_parse.proofs.stuck.Words.{viable_read, viable_if, opened, viable_as, viable_taken, viable_expected, viable_where}
use Rattle.ntx_parse.proofs.stuck.Phrases.{AreViable}

pub viable_name : (c : Ends) (p : Place) (words : List Word) → IsViable no_call c (IsName p) words (read_name p words)
viable_name c p words = viable_then (viable_expected c p terminal.Name words refl refl) (λ o rest. viable_read (λ _ _ start take_word. name_taken take_word))

pub viable_local_name : (c : Ends) (p : Place) (words : List Word) → IsViable no_call c (IsLocalName p) words (read_local_name p words)
viable_local_name c p words = viable_then (viable_expected c p terminal.Name words refl refl) (λ o rest. viable_read (λ _ _ start take_word. local_taken take_word))

module _ (r : Readers) (v : AreViable r) where
  pub viable_path : (p : Place) (before : List (List ℕ)) (words : List Word) → IsViable any_words any_words (IsBehind before (IsPath p)) words (path_behind r p before words)
  viable_path p before words = viable_if (begins terminal.Dot words)
      (λ is. opened (viable_then (viable_taken no_call p terminal.Dot words refl refl is) (λ _ behind.
      viable_then (viable_name any_words p behind) (λ name others.
      viable_as (v.path p (before ++ name ∷ []) others) (λ _ _ _ h. λ _ is _ dot. path_on dot is h)))))
      (λ _. viable_read (λ _ _. behind_all no_path))

  pub viable_names : (p : Place) (before : List LocalName) (words : List Word) → IsViable no_call no_call (IsBehind before (IsMoreNames p)) words (names_behind r p before words)
  viable_names p before words = viable_where no_call p terminal.Comma words refl refl
      (λ _ behind. viable_then (viable_local_name no_call p behind) (λ name others.
      viable_as (v.names p (before ++ name ∷ []) others) (λ _ _ _ h. λ _ is _ comma. names_on comma is h)))
      (λ _. viable_read (λ _ _. behind_all names_end))

  pub viable_read_names : (p : Place) (words : List Word) → IsViable no_call no_call (IsNames p) words (read_names r p words)
  viable_read_names p words = viable_then (viable_local_name no_call p words) (λ name rest. viable_as (v.names p (name ∷ []) rest) (λ _ _ _ h. λ _ is. names_whole is h))

  pub viable_exps : (p : Place) (before : List Exp) (words : List Word) → IsViable no_call no_call (IsBehind before (IsMoreExps p)) words (exps_behind r p before words)
  viable_exps p before words = viable_where no_call p terminal.Comma words refl refl
      (λ _ behind. viable_then (v.exp p precedence.Or behind) (λ e others.
      viable_as (v.exps p (before ++ e ∷ []) others) (λ _ _ _ h. λ _ first _ comma. exps_on comma first h)))
      (λ _. viable_read (λ _ _. behind_all exps_end))

  pub viable_read_exps : (p : Place) (words : List Word) → IsViable no_call no_call (IsExps p) words (read_exps r p words)
  viable_read_exps p words = viable_then (v.exp p precedence.Or words) (λ e rest. viable_as (v.exps p (e ∷ []) rest) (λ _ _ _ h. λ _ first. exps_whole first h))
