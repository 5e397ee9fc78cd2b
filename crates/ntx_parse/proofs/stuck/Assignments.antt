-- Assignments and calls: what an answer of theirs tells.
use Rattle.std.proofs.Common.{◌≡◌, List, [], ◌∷◌, ◌++◌, Option, None, Some, refl}
use Rattle.ntx_syntax.specs.declared.tree.Var.{Var}
use Rattle.ntx_syntax.specs.declared.tree.Var.TheVariants as var
use Rattle.ntx_parse.specs.declared.part.Part.{Part}
use Rattle.ntx_parse.specs.declared.part.Part.TheVariants as part
use Rattle.ntx_parse.specs.declared.place.Place.{Place}
use Rattle.ntx_syntax.specs.declared.terminal.Terminal.TheVariants as terminal
use Rattle.ntx_parse.specs.Words.{Word}
use Rattle.ntx_parse.specs.Grammar as grammar
use Rattle.ntx_parse.specs.Grammar.{IsKind, IsValues, IsVar}
use Rattle.ntx_parse.specs.Faults.{at_place}
use Rattle.ntx_parse.specs.inner.Reading.{Readers, joined, var_of, as_var, vars_behind, values_behind, assignment_to, statement_of, read_expression_statement}
use Rattle.ntx_parse.proofs.sound.Answers.{Completes}
use Rattle.ntx_parse.proofs.sound.Phrases.{IsBehind, behind_all, IsMoreVars, vars_end, IsWhole}
use Rattle.ntx_parse.proofs.sound.Prefixes.{joined_prefix}
use Rattle.ntx_parse.proofs.sound.Assignments.{values_read, part_var, part_call, vars_on, assignment_read}
use Rattle.ntx_parse.proofs.stuck.Answers.{no_call, HasPhrase, IsViable, whole_then, viable_then}
use Rattle.ntx_parse.proofs.stuck.Words.{some_word, viable_read, viable_stopped, viable_as, viable_expected, viable_where}
use Rattle.ntx_parse.proofs.stuck.Phrases.{AreViable}
use Rattle.ntx_parse.proofs.stuck.Lists.{viable_read_exps}
use Rattle.ntx_parse.proofs.stuck.Prefixes.{viable_prefix}

-- A field of what is read can be assigned to.
field_phrase : (p : Place) (found : Part) → HasPhrase no_call no_call (Completes (IsWhole p) found (IsVar p))
field_phrase p found = record {
  others = at_place (some_word terminal.Dot) p ∷ at_place (some_word terminal.Name) p ∷ [];
  tree = var.Field (joined found) [];
  derives = λ behind _ start whole. grammar.field_var (joined_prefix whole.derives) (record { is = refl; place = refl }) (record { is = refl; place = refl });
  begins = λ behind _. refl;
}

viable_as_var : (p : Place) (found : Part) (this : Option Var) (words : List Word) → var_of found ≡ this → IsViable no_call no_call (Completes (IsWhole p) found (IsVar p)) words (as_var this words)
viable_as_var p found None words e = viable_stopped (field_phrase p found)
viable_as_var p found (Some v) words e = viable_read (λ _ _ _ whole. part_var v whole.derives e)

module _ (r : Readers) (v : AreViable r) where
  pub viable_values : (p : Place) (words : List Word) → IsViable no_call no_call (IsValues p) words (values_behind r p words)
  viable_values p words = viable_where no_call p terminal.Assign words refl refl
      (λ _ behind. viable_as (viable_read_exps r v p behind) (λ _ _ _ all. λ _ is. values_read is all))
      (λ _. viable_read (λ _ _. grammar.no_values))

  pub viable_vars : (p : Place) (before : List Var) (words : List Word) → IsViable no_call no_call (IsBehind before (IsMoreVars p)) words (vars_behind r p before words)
  viable_vars p before words = viable_where no_call p terminal.Comma words refl refl
      (λ _ second. viable_then (viable_prefix r v p second) (λ found behind.
      viable_then (viable_as_var p found (var_of found) behind refl) (λ w others.
      viable_as (v.vars p (before ++ w ∷ []) others) (λ _ _ _ h. λ _ w first whole _ comma. vars_on comma (w first whole) h))))
      (λ _. viable_read (λ _ _. behind_all vars_end))

  viable_assignment : (p : Place) (first : Var) (words : List Word) → IsViable no_call no_call (Completes (IsVar p) first (IsKind p)) words (assignment_to r p first words)
  viable_assignment p first words =
      viable_then (v.vars p (first ∷ []) words) (λ vars behind.
      viable_then (viable_expected no_call p terminal.Assign behind refl refl) (λ _ second.
      viable_then (viable_read_exps r v p second) (λ all rest.
      viable_read (λ _ _ _ all _ is _ vars _ first. assignment_read first vars is all))))

  assignment_to_part : (p : Place) (found : Part) (w : Var) (words : List Word) → var_of found ≡ Some w → IsViable no_call no_call (Completes (IsWhole p) found (IsKind p)) words (assignment_to r p w words)
  assignment_to_part p found w words e = viable_as (viable_assignment p w words) (λ _ _ _ h. λ first whole. h first (part_var w whole.derives e))

  field_assigned : (p : Place) (found : Part) → HasPhrase no_call no_call (Completes (IsWhole p) found (IsKind p))
  field_assigned p found =
      let w : HasPhrase no_call no_call (Completes (IsWhole p) found (IsVar p)) = field_phrase p found in
      let h : IsViable no_call no_call (Completes (Completes (IsWhole p) found (IsVar p)) w.tree (Completes (IsWhole p) found (IsKind p))) [] (assignment_to r p w.tree []) =
      viable_as (viable_assignment p w.tree []) (λ _ _ _ h. λ _ var start whole. h start (var start whole)) in
      whole_then w h.whole

  viable_statement_of : (p : Place) (found : Part) (words : List Word) → IsViable no_call no_call (Completes (IsWhole p) found (IsKind p)) words (statement_of r p found words)
  viable_statement_of p (part.Name name) words = assignment_to_part p (part.Name name) (var.Name name) words refl
  viable_statement_of p (part.Parenthesized e) words = viable_stopped (field_assigned p (part.Parenthesized e))
  viable_statement_of p (part.Index before key) words = assignment_to_part p (part.Index before key) (var.Index before key) words refl
  viable_statement_of p (part.Field before name) words = assignment_to_part p (part.Field before name) (var.Field before name) words refl
  viable_statement_of p (part.Call before all) words = viable_read (λ _ _ _ whole. grammar.called (part_call whole.derives) whole.ends)

  pub viable_expression_statement : (p : Place) (words : List Word) → IsViable no_call no_call (IsKind p) words (read_expression_statement r p words)
  viable_expression_statement p words = viable_then (viable_prefix r v p words) (λ found rest. viable_statement_of p found rest)
