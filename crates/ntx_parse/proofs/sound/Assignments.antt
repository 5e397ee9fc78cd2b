-- Assignments and calls: what is read of them is spelled.
use Rattle.std.proofs.Common.{◌≡◌, List, [], ◌∷◌, ◌++◌, Option, None, Some, refl, sym, subst}
use Rattle.std.proofs.lemmas.Option.{none-some, same_Some}
use Rattle.ntx_syntax.specs.declared.tree.StatKind.TheVariants as stat
use Rattle.ntx_syntax.specs.declared.tree.Var.{Var}
use Rattle.ntx_syntax.specs.declared.tree.Var.TheVariants as var
use Rattle.ntx_syntax.specs.declared.tree.Prefix.{Prefix}
use Rattle.ntx_syntax.specs.declared.tree.Exp.{Exp}
use Rattle.ntx_parse.specs.declared.part.Part.{Part}
use Rattle.ntx_parse.specs.declared.part.Part.TheVariants as part
use Rattle.ntx_parse.specs.declared.place.Place.{Place}
use Rattle.ntx_syntax.specs.declared.terminal.Terminal.TheVariants as terminal
use Rattle.ntx_parse.specs.Words.{Word}
use Rattle.ntx_parse.specs.Grammar as grammar
use Rattle.ntx_parse.specs.Grammar.{Placed, Is, IsKind, IsValues, IsExps, IsVar, IsVars, IsCall}
use Rattle.ntx_parse.specs.inner.Reading.{Readers, var_of, as_var, vars_behind, values_behind, assignment_to, statement_of, read_expression_statement}
use Rattle.ntx_parse.proofs.sound.Answers.{Completes, IsSound, IsTaken, word_taken, sound_read, sound_stopped, sound_as, sound_then, sound_expected, sound_where}
use Rattle.ntx_parse.proofs.sound.Phrases.{IsBehind, behind_all, behind_one, IsMoreVars, vars_end, var_more, vars_from, IsPart, name_part, parenthesized_part, index_part, field_part, call_part, IsWhole, AreSound}
use Rattle.ntx_parse.proofs.sound.Lists.{sound_read_exps}
use Rattle.ntx_parse.proofs.sound.Prefixes.{sound_prefix}

pub values_read : {p : Place} {o : Word} {all : List Exp} {words inner rest : List Placed} → IsTaken p terminal.Assign o words inner → IsExps p all inner rest → IsValues p all words rest
values_read (word_taken is) all = grammar.values is all

-- ---- what is assigned to

pub as_the_var : {p : Place} {found v : Var} {words rest : List Placed} → Some found ≡ Some v → IsVar p found words rest → IsVar p v words rest
as_the_var {p} {found} {v} {words} {rest} e h = subst (λ x. IsVar p x words rest) (same_Some found v e) h

pub part_var : {p : Place} {found : Part} {words rest : List Placed} (v : Var) → IsPart p found words rest → var_of found ≡ Some v → IsVar p v words rest
part_var v (name_part is) e = as_the_var e (grammar.name_var is)
part_var v (parenthesized_part open_ inside closed) e = absurd (none-some v e)
part_var v (index_part prefix key) e = as_the_var e (grammar.index_var prefix key)
part_var v (field_part prefix dot name) e = as_the_var e (grammar.field_var prefix dot name)
part_var v (call_part prefix all) e = absurd (none-some v e)

pub part_call : {p : Place} {prefix : Prefix} {all : List Exp} {words rest : List Placed} → IsPart p (part.Call prefix all) words rest → IsCall p (record { function = prefix; arguments = all }) words rest
part_call (call_part prefix all) = grammar.call prefix all

pub vars_on : {p : Place} {o : Word} {v : Var} {before all : List Var} {words behind inner rest : List Placed} → IsTaken p terminal.Comma o words behind → IsVar p v behind inner → IsBehind (before ++ v ∷ []) (IsMoreVars p) all inner rest → IsBehind before (IsMoreVars p) all words rest
vars_on (word_taken comma) first h = behind_one _ h (λ others vars. var_more comma first vars)

pub vars_whole : {p : Place} {v : Var} {all : List Var} {words inner rest : List Placed} → IsVar p v words inner → IsBehind (v ∷ []) (IsMoreVars p) all inner rest → IsVars p all words rest
vars_whole {p} {words = words} {rest = rest} first h = subst (λ vars. IsVars p vars words rest) (sym h.all_are) (vars_from first h.derives)

pub assignment_read : {p : Place} {o : Word} {first : Var} {vars : List Var} {values : List Exp} {words behind second inner rest : List Placed} → IsVar p first words behind → IsBehind (first ∷ []) (IsMoreVars p) vars behind second → IsTaken p terminal.Assign o second inner → IsExps p values inner rest → IsKind p (stat.Assign vars values) words rest
assignment_read first vars (word_taken is) all = grammar.assignment (vars_whole first vars) is all

sound_as_var : (p : Place) (found : Part) (this : Option Var) (words : List Word) → var_of found ≡ this → IsSound (Completes (IsWhole p) found (IsVar p)) words (as_var this words)
sound_as_var p found None words e = sound_stopped
sound_as_var p found (Some v) words e = sound_read (λ _ _ _ whole. part_var v whole.derives e)

module _ (r : Readers) (s : AreSound r) where
  pub sound_values : (p : Place) (words : List Word) → IsSound (IsValues p) words (values_behind r p words)
  sound_values p words = sound_where p terminal.Assign words refl
      (λ _ behind. sound_as (sound_read_exps r s p behind) (λ _ _ _ all. λ _ is. values_read is all))
      (λ _. sound_read (λ _ _. grammar.no_values))

  pub sound_vars : (p : Place) (before : List Var) (words : List Word) → IsSound (IsBehind before (IsMoreVars p)) words (vars_behind r p before words)
  sound_vars p before words = sound_where p terminal.Comma words refl
      (λ _ second. sound_then (sound_prefix r s p second) (λ found behind.
      sound_then (sound_as_var p found (var_of found) behind refl) (λ v others.
      sound_as (s.vars p (before ++ v ∷ []) others) (λ _ _ _ h. λ _ v first whole _ comma. vars_on comma (v first whole) h))))
      (λ _. sound_read (λ _ _. behind_all vars_end))

  sound_assignment : (p : Place) (first : Var) (words : List Word) → IsSound (Completes (IsVar p) first (IsKind p)) words (assignment_to r p first words)
  sound_assignment p first words =
      sound_then (s.vars p (first ∷ []) words) (λ vars behind.
      sound_then (sound_expected p terminal.Assign behind refl) (λ _ second.
      sound_then (sound_read_exps r s p second) (λ all rest.
      sound_read (λ _ _ _ all _ is _ vars _ first. assignment_read first vars is all))))

  assignment_to_part : (p : Place) (found : Part) (v : Var) (words : List Word) → var_of found ≡ Some v → IsSound (Completes (IsWhole p) found (IsKind p)) words (assignment_to r p v words)
  assignment_to_part p found v words e = sound_as (sound_assignment p v words) (λ _ _ _ h. λ first whole. h first (part_var v whole.derives e))

  sound_statement_of : (p : Place) (found : Part) (words : List Word) → IsSound (Completes (IsWhole p) found (IsKind p)) words (statement_of r p found words)
  sound_statement_of p (part.Name name) words = assignment_to_part p (part.Name name) (var.Name name) words refl
  sound_statement_of p (part.Parenthesized e) words = sound_stopped
  sound_statement_of p (part.Index before key) words = assignment_to_part p (part.Index before key) (var.Index before key) words refl
  sound_statement_of p (part.Field before name) words = assignment_to_part p (part.Field before name) (var.Field before name) words refl
  sound_statement_of p (part.Call before all) words = sound_read (λ _ _ _ whole. grammar.called (part_call whole.derives) whole.ends)

  pub sound_expression_statement : (p : Place) (words : List Word) → IsSound (IsKind p) words (read_expression_statement r p words)
  sound_expression_statement p words = sound_then (sound_prefix r s p words) (λ found rest. sound_statement_of p found rest)
