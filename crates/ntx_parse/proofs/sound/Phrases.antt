-- Phrases between those of the grammar: lists after their first part, prefixes by their last part, and runs that go on.
use Rattle.std.proofs.Common.{◌≡◌, ℕ, List, [], ◌∷◌, ◌++◌, sym, ◌∙◌, subst, append_assoc, append-nil}
use Rattle.ntx_syntax.specs.declared.tree.LocalName.{LocalName}
use Rattle.ntx_syntax.specs.declared.tree.Var.{Var}
use Rattle.ntx_syntax.specs.declared.tree.Prefix.{Prefix}
use Rattle.ntx_syntax.specs.declared.tree.Exp.{Exp}
use Rattle.ntx_syntax.specs.declared.tree.Operation.{Operation}
use Rattle.ntx_syntax.specs.declared.tree.Field.{Field}
use Rattle.ntx_syntax.specs.declared.tree.Stat.{Stat}
use Rattle.ntx_syntax.specs.declared.tree.IfArm.{IfArm}
use Rattle.ntx_parse.specs.declared.part.Part.{Part}
use Rattle.ntx_parse.specs.declared.part.Part.TheVariants as part
use Rattle.ntx_parse.specs.declared.place.Place.{Place}
use Rattle.ntx_parse.specs.declared.precedence.Precedence.{Precedence}
use Rattle.ntx_parse.specs.declared.precedence.Precedence.TheVariants as precedence
use Rattle.ntx_syntax.specs.declared.terminal.Terminal.TheVariants as terminal
use Rattle.ntx_parse.specs.Words.{Word}
use Rattle.ntx_parse.specs.Grammar.{Placed, Is, within, NotBefore, local_name, IsPath, IsNames, IsBlock, IsStats, IsArms, IsExp, IsExps, IsVar, IsVars, IsIndex, IsArguments, IsPrefix, IsRun, IsFields, one_name, more_names, one_exp, more_exps, one_var, more_vars}
use Rattle.ntx_parse.specs.inner.Reading.{Readers}
use Rattle.ntx_parse.proofs.sound.Answers.{Phrase, IsSound}

-- ---- words

pub data IsName : Place → List ℕ → List Placed → List Placed → Type 0 where
  name_read : {p : Place} {n : Placed} {rest : List Placed} → Is p terminal.Name n → IsName p n.word.spelled (n ∷ rest) rest

pub data IsLocalName : Place → LocalName → List Placed → List Placed → Type 0 where
  local_read : {p : Place} {n : Placed} {rest : List Placed} → Is p terminal.Name n → IsLocalName p (local_name n) (n ∷ rest) rest

-- ---- lists

-- These parts, and after them such a list.
pub record IsBehind {A : Type 0} (before : List A) (D : Phrase (List A)) (all : List A) (words rest : List Placed) : Type 0 where
  pub others : List A
  pub all_are : all ≡ before ++ others
  pub derives : D others words rest

module _ {A : Type 0} {D : Phrase (List A)} {words rest : List Placed} where
  pub behind_all : {before : List A} → D [] words rest → IsBehind before D before words rest
  behind_all {before} d = record { others = []; all_are = sym (append-nil before); derives = d }

  pub behind_one : {before all : List A} (x : A) {inner : List Placed} → IsBehind (before ++ x ∷ []) D all inner rest → ((others : List A) → D others inner rest → D (x ∷ others) words rest) → IsBehind before D all words rest
  behind_one {before} x h f = record {
    others = x ∷ h.others;
    all_are = h.all_are ∙ append_assoc before (x ∷ []) h.others;
    derives = f h.others h.derives;
  }

  pub behind_none : {all : List A} → IsBehind [] D all words rest → D all words rest
  behind_none h = subst (λ xs. D xs words rest) (sym h.all_are) h.derives

-- {, Name}
pub data IsMoreNames : Place → List LocalName → List Placed → List Placed → Type 0 where
  names_end : {p : Place} {rest : List Placed} → IsMoreNames p [] rest rest
  name_more : {p : Place} {c n : Placed} {names : List LocalName} {words rest : List Placed}
      → Is p terminal.Comma c → Is p terminal.Name n → IsMoreNames p names words rest → IsMoreNames p (local_name n ∷ names) (c ∷ n ∷ words) rest

pub names_from : {p : Place} {n : Placed} {names : List LocalName} {words rest : List Placed} → Is p terminal.Name n → IsMoreNames p names words rest → IsNames p (local_name n ∷ names) (n ∷ words) rest
names_from is names_end = one_name is
names_from is (name_more comma next more) = more_names is comma (names_from next more)

-- {, exp}
pub data IsMoreExps : Place → List Exp → List Placed → List Placed → Type 0 where
  exps_end : {p : Place} {rest : List Placed} → IsMoreExps p [] rest rest
  exp_more : {p : Place} {c : Placed} {e : Exp} {exps : List Exp} {words middle rest : List Placed}
      → Is p terminal.Comma c → IsExp p precedence.Or e words middle → IsMoreExps p exps middle rest → IsMoreExps p (e ∷ exps) (c ∷ words) rest

pub exps_from : {p : Place} {e : Exp} {exps : List Exp} {words middle rest : List Placed} → IsExp p precedence.Or e words middle → IsMoreExps p exps middle rest → IsExps p (e ∷ exps) words rest
exps_from first exps_end = one_exp first
exps_from first (exp_more comma next more) = more_exps first comma (exps_from next more)

-- {, var}
pub data IsMoreVars : Place → List Var → List Placed → List Placed → Type 0 where
  vars_end : {p : Place} {rest : List Placed} → IsMoreVars p [] rest rest
  var_more : {p : Place} {c : Placed} {v : Var} {vars : List Var} {words middle rest : List Placed}
      → Is p terminal.Comma c → IsVar p v words middle → IsMoreVars p vars middle rest → IsMoreVars p (v ∷ vars) (c ∷ words) rest

pub vars_from : {p : Place} {v : Var} {vars : List Var} {words middle rest : List Placed} → IsVar p v words middle → IsMoreVars p vars middle rest → IsVars p (v ∷ vars) words rest
vars_from first vars_end = one_var first
vars_from first (var_more comma next more) = more_vars first comma (vars_from next more)

-- ---- prefixes by their last part

pub data IsPart : Place → Part → List Placed → List Placed → Type 0 where
  name_part : {p : Place} {n : Placed} {rest : List Placed} → Is p terminal.Name n → IsPart p (part.Name n.word.spelled) (n ∷ rest) rest
  parenthesized_part : {p : Place} {o c : Placed} {e : Exp} {words rest : List Placed}
      → Is (within p) terminal.LeftParenthesis o → IsExp (within p) precedence.Or e words (c ∷ rest) → Is (within p) terminal.RightParenthesis c
      → IsPart p (part.Parenthesized e) (o ∷ words) rest
  index_part : {p : Place} {prefix : Prefix} {key : Exp} {words middle rest : List Placed}
      → IsPrefix p prefix words middle → IsIndex (within p) key middle rest → IsPart p (part.Index prefix key) words rest
  field_part : {p : Place} {d n : Placed} {prefix : Prefix} {words rest : List Placed}
      → IsPrefix p prefix words (d ∷ n ∷ rest) → Is p terminal.Dot d → Is p terminal.Name n → IsPart p (part.Field prefix n.word.spelled) words rest
  call_part : {p : Place} {prefix : Prefix} {arguments : List Exp} {words middle rest : List Placed}
      → IsPrefix p prefix words middle → IsArguments (within p) arguments middle rest → IsPart p (part.Call prefix arguments) words rest

-- The words go on from this part to that one, and no parenthesis opens after it.
pub record IsLonger (p : Place) (before found : Part) (words rest : List Placed) : Type 0 where
  pub derives : (start : List Placed) → IsPart p before start words → IsPart p found start rest
  pub ends : NotBefore terminal.LeftParenthesis rest

-- a prefix, after which no parenthesis opens
pub record IsWhole (p : Place) (found : Part) (words rest : List Placed) : Type 0 where
  pub derives : IsPart p found words rest
  pub ends : NotBefore terminal.LeftParenthesis rest

-- The words go on from a run with these operations to one with all of those.
abbrev pub IsOperated : Place → Precedence → List Operation → Phrase (List Operation)
IsOperated p at before = λ all words rest. (first : Exp) (start : List Placed) → IsRun p at first before start words → IsRun p at first all start rest

-- ---- all readings

-- What each of these readings reads is spelled by the words that it takes.
pub record AreSound (r : Readers) : Type 0 where
  pub block : (p : Place) (words : List Word) → IsSound (IsBlock p) words (r.block p words)
  pub stats : (p : Place) (before : List Stat) (words : List Word) → IsSound (IsBehind before (IsStats p)) words (r.stats p before words)
  pub arms : (p : Place) (before : List IfArm) (words : List Word) → IsSound (IsBehind before (IsArms p)) words (r.arms p before words)
  pub path : (p : Place) (before : List (List ℕ)) (words : List Word) → IsSound (IsBehind before (IsPath p)) words (r.path p before words)
  pub names : (p : Place) (before : List LocalName) (words : List Word) → IsSound (IsBehind before (IsMoreNames p)) words (r.names p before words)
  pub exps : (p : Place) (before : List Exp) (words : List Word) → IsSound (IsBehind before (IsMoreExps p)) words (r.exps p before words)
  pub vars : (p : Place) (before : List Var) (words : List Word) → IsSound (IsBehind before (IsMoreVars p)) words (r.vars p before words)
  pub suffixes : (p : Place) (before : Part) (words : List Word) → IsSound (IsLonger p before) words (r.suffixes p before words)
  pub exp : (p : Place) (at : Precedence) (words : List Word) → IsSound (IsExp p at) words (r.exp p at words)
  pub operations : (p : Place) (at : Precedence) (before : List Operation) (words : List Word) → IsSound (IsOperated p at before) words (r.operations p at before words)
  pub fields : (p : Place) (before : List Field) (words : List Word) → IsSound (IsBehind before (IsFields p)) words (r.fields p before words)
