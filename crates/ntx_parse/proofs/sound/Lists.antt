-- Names and lists: what is read of them is spelled.
use Rattle.std.proofs.Common.{ℕ, List, [], ◌∷◌, ◌++◌, refl, sym, subst}
use Rattle.ntx_syntax.specs.declared.tree.LocalName.{LocalName}
use Rattle.ntx_syntax.specs.declared.tree.Exp.{Exp}
use Rattle.ntx_parse.specs.declared.place.Place.{Place}
use Rattle.ntx_parse.specs.declared.precedence.Precedence.TheVariants as precedence
use Rattle.ntx_syntax.specs.declared.terminal.Terminal.TheVariants as terminal
use Rattle.ntx_parse.specs.Words.{Word}
use Rattle.ntx_parse.specs.Grammar.{Placed, IsPath, IsNames, IsExp, IsExps, no_path, more_path}
use Rattle.ntx_parse.specs.inner.Reading.{Readers, local_of, read_name, read_local_name, path_behind, names_behind, read_names, exps_behind, read_exps}
use Rattle.ntx_parse.proofs.sound.Answers.{IsSound, IsTaken, word_taken, sound_read, sound_as, sound_then, sound_expected, sound_where}
use Rattle.ntx_parse.proofs.sound.Phrases.{IsName, name_read, IsLocalName, local_read, IsBehind, behind_all, behind_one, IsMoreNames, names_end, name_more, names_from, IsMoreExps, exps_end, exp_more, exps_from, AreSound}

-- ---- names

pub name_taken : {p : Place} {o : Word} {words rest : List Placed} → IsTaken p terminal.Name o words rest → IsName p o.spelled words rest
name_taken (word_taken is) = name_read is

pub local_taken : {p : Place} {o : Word} {words rest : List Placed} → IsTaken p terminal.Name o words rest → IsLocalName p (local_of o) words rest
local_taken (word_taken is) = local_read is

pub sound_name : (p : Place) (words : List Word) → IsSound (IsName p) words (read_name p words)
sound_name p words = sound_then (sound_expected p terminal.Name words refl) (λ o rest. sound_read (λ _ _ start take_word. name_taken take_word))

pub sound_local_name : (p : Place) (words : List Word) → IsSound (IsLocalName p) words (read_local_name p words)
sound_local_name p words = sound_then (sound_expected p terminal.Name words refl) (λ o rest. sound_read (λ _ _ start take_word. local_taken take_word))

-- ---- lists

pub path_on : {p : Place} {o : Word} {name : List ℕ} {before all : List (List ℕ)} {words behind inner rest : List Placed} → IsTaken p terminal.Dot o words behind → IsName p name behind inner → IsBehind (before ++ name ∷ []) (IsPath p) all inner rest → IsBehind before (IsPath p) all words rest
path_on (word_taken dot) (name_read is) h = behind_one _ h (λ others path. more_path dot is path)

pub names_on : {p : Place} {o : Word} {name : LocalName} {before all : List LocalName} {words behind inner rest : List Placed} → IsTaken p terminal.Comma o words behind → IsLocalName p name behind inner → IsBehind (before ++ name ∷ []) (IsMoreNames p) all inner rest → IsBehind before (IsMoreNames p) all words rest
names_on (word_taken comma) (local_read is) h = behind_one _ h (λ others names. name_more comma is names)

pub exps_on : {p : Place} {o : Word} {e : Exp} {before all : List Exp} {words behind inner rest : List Placed} → IsTaken p terminal.Comma o words behind → IsExp p precedence.Or e behind inner → IsBehind (before ++ e ∷ []) (IsMoreExps p) all inner rest → IsBehind before (IsMoreExps p) all words rest
exps_on (word_taken comma) first h = behind_one _ h (λ others exps. exp_more comma first exps)

pub names_whole : {p : Place} {name : LocalName} {all : List LocalName} {words inner rest : List Placed} → IsLocalName p name words inner → IsBehind (name ∷ []) (IsMoreNames p) all inner rest → IsNames p all words rest
names_whole {p} {words = words} {rest = rest} (local_read is) h = subst (λ names. IsNames p names words rest) (sym h.all_are) (names_from is h.derives)

pub exps_whole : {p : Place} {e : Exp} {all : List Exp} {words inner rest : List Placed} → IsExp p precedence.Or e words inner → IsBehind (e ∷ []) (IsMoreExps p) all inner rest → IsExps p all words rest
exps_whole {p} {words = words} {rest = rest} first h = subst (λ exps. IsExps p exps words rest) (sym h.all_are) (exps_from first h.derives)

module _ (r : Readers) (s : AreSound r) where
  pub sound_path : (p : Place) (before : List (List ℕ)) (words : List Word) → IsSound (IsBehind before (IsPath p)) words (path_behind r p before words)
  sound_path p before words = sound_where p terminal.Dot words refl
      (λ _ behind. sound_then (sound_name p behind) (λ name others.
      sound_as (s.path p (before ++ name ∷ []) others) (λ _ _ _ h. λ _ is _ dot. path_on dot is h)))
      (λ _. sound_read (λ _ _. behind_all no_path))

  pub sound_names : (p : Place) (before : List LocalName) (words : List Word) → IsSound (IsBehind before (IsMoreNames p)) words (names_behind r p before words)
  sound_names p before words = sound_where p terminal.Comma words refl
      (λ _ behind. sound_then (sound_local_name p behind) (λ name others.
      sound_as (s.names p (before ++ name ∷ []) others) (λ _ _ _ h. λ _ is _ comma. names_on comma is h)))
      (λ _. sound_read (λ _ _. behind_all names_end))

  pub sound_read_names : (p : Place) (words : List Word) → IsSound (IsNames p) words (read_names r p words)
  sound_read_names p words = sound_then (sound_local_name p words) (λ name rest. sound_as (s.names p (name ∷ []) rest) (λ _ _ _ h. λ _ is. names_whole is h))

  pub sound_exps : (p : Place) (before : List Exp) (words : List Word) → IsSound (IsBehind before (IsMoreExps p)) words (exps_behind r p before words)
  sound_exps p before words = sound_where p terminal.Comma words refl
      (λ _ behind. sound_then (s.exp p precedence.Or behind) (λ e others.
      sound_as (s.exps p (before ++ e ∷ []) others) (λ _ _ _ h. λ _ first _ comma. exps_on comma first h)))
      (λ _. sound_read (λ _ _. behind_all exps_end))

  pub sound_read_exps : (p : Place) (words : List Word) → IsSound (IsExps p) words (read_exps r p words)
  sound_read_exps p words = sound_then (s.exp p precedence.Or words) (λ e rest. sound_as (s.exps p (e ∷ []) rest) (λ _ _ _ h. λ _ first. exps_whole first h))
