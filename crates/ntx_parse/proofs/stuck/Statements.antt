-- Statements: what an answer of theirs tells.
use Rattle.ntx_syntax.specs.declared.tree.StatKind.TheVariants as stat
use Rattle.ntx_syntax.specs.declared.tree.LocalName.{LocalName}
use Rattle.ntx_syntax.specs.declared.fault.SyntaxWhy.TheVariants as why
use Rattle.ntx_parse.specs.declared.place.Place.{Place}
use Rattle.ntx_parse.specs.declared.precedence.Precedence.TheVariants as precedence
use Rattle.ntx_syntax.specs.declared.terminal.Terminal.{Terminal}
use Rattle.ntx_syntax.specs.declared.terminal.Terminal.TheVariants as terminal
use Rattle.ntx_parse.specs.Words.{Word}
use Rattle.ntx_parse.specs.Grammar as grammar
use Rattle.ntx_parse.specs.Grammar.{max_nesting, Placed, Is, within, within_loop, IsPath, IsNames, IsBlock, IsKind, IsArm, arm, IsArms, no_arms, more_arms, IsElse, no_else, IsStep, no_step, IsValues, IsExp, IsExps, IsBody}
use Rattle.ntx_parse.specs.inner.Reading.{Readers, read, stopped, and_then, take_word, begins, block_to_end, read_do, loop_body, read_while, read_repeat, read_arm, arms_behind, else_behind, read_if, step_behind, numeric_for_behind, generic_for_behind, read_for, read_function, local_function_behind, locals_behind, read_local, kind_at}
use Rattle.ntx_parse.proofs.TerminalLemmas.{begins-true}
use Rattle.std.proofs.Common.{◌≡◌, Bool, true, false, cond, List, [], ◌∷◌, ◌++◌, nat_le, refl, leb-true, leb-false}
use Rattle.ntx_syntax.specs.declared.tree.IfArm.{IfArm}
use Rattle.ntx_parse.specs.Faults.{at_place}
use Rattle.ntx_parse.proofs.sound.Answers.{Completes, IsTaken, IsOther}
use Rattle.ntx_parse.proofs.sound.Phrases.{IsLocalName, IsBehind, behind_all}
use Rattle.ntx_parse.proofs.sound.Statements.{IsEnded, ended_read, do_read, IsLooped, looped_read, while_read, repeat_read, arm_read, arms_on, else_read, if_read, step_read, numeric_read, generic_read, function_read, local_function_read, locals_read, empty_read, break_read}
use Rattle.ntx_parse.proofs.stuck.Answers.{any_words, no_call, HasPhrase, IsViable, too_deep, no_loop, viable_then}
use Rattle.ntx_parse.proofs.stuck.Words.{some_word, IsNoCall, viable_read, viable_wrong, viable_if, viable_as, viable_taken, viable_taken_where, viable_expected, viable_where}
use Rattle.ntx_parse.proofs.stuck.Phrases.{AreViable}
use Rattle.ntx_parse.proofs.stuck.Lists.{viable_name, viable_local_name, viable_read_names, viable_read_exps}
use Rattle.ntx_parse.proofs.stuck.Tables.{viable_body}
use Rattle.ntx_parse.proofs.stuck.Assignments.{viable_values, viable_expression_statement}

-- ---- break

empty_phrase : (p : Place) → HasPhrase no_call no_call (IsKind p)
empty_phrase p = record {
  others = at_place (some_word terminal.Semicolon) p ∷ [];
  tree = stat.Empty;
  derives = λ behind _. grammar.empty (record { is = refl; place = refl });
  begins = λ behind _. refl;
}

-- A `break` outside of any loop: it is too deep, or is wrong there.
viable_break_outside : (p : Place) (o : Word) (words : List Word) (fits : Bool) → nat_le p.nesting max_nesting ≡ fits → p.in_loop ≡ false → o.is ≡ terminal.Break → IsViable no_call no_call (IsKind p) (o ∷ words) (and_then (cond fits (read o words) (stopped why.Depth (o ∷ words))) (λ _ rest. stopped why.Break (o ∷ words)))
viable_break_outside p o words true fits outside is = viable_wrong p o words (empty_phrase p) refl (no_loop (leb-true p.nesting max_nesting fits) is outside) (λ _. (stat.Break, λ behind. grammar.break (record { is = is; place = refl })))
viable_break_outside p o words false fits outside is = viable_wrong p o words (empty_phrase p) refl (too_deep (leb-false p.nesting max_nesting fits)) (λ _. (stat.Break, λ behind. grammar.break (record { is = is; place = refl })))

viable_break_where : (p : Place) (in_loop : Bool) (o : Word) (words : List Word) → p.in_loop ≡ in_loop → o.is ≡ terminal.Break → IsViable no_call no_call (IsKind p) (o ∷ words) (and_then (take_word p (o ∷ words)) (λ _ rest. cond in_loop (read stat.Break rest) (stopped why.Break (o ∷ words))))
viable_break_where p true o words here is = viable_then (viable_taken_where no_call p terminal.Break (o ∷ words) (λ _. here) refl (begins-true terminal.Break o words is)) (λ _ rest. viable_read (λ _ _ _ is. break_read is))
viable_break_where p false o words here is = viable_break_outside p o words (nat_le p.nesting max_nesting) refl here is

-- ---- all statements

module _ (r : Readers) (v : AreViable r) where
  viable_ended : (p inside : Place) (words : List Word) → IsViable no_call no_call (IsEnded p inside) words (block_to_end r p inside words)
  viable_ended p inside words =
      viable_then (v.block inside words) (λ body behind.
      viable_then (viable_expected no_call p terminal.End behind refl refl) (λ _ rest. viable_read (λ _ _ _ e _ body. ended_read body e)))

  viable_do : (p : Place) (words : List Word) → begins terminal.Do words ≡ true → IsViable no_call no_call (IsKind p) words (read_do r p words)
  viable_do p words is =
      viable_then (viable_taken no_call p terminal.Do words refl refl is) (λ _ inside.
      viable_then (viable_ended p (within p) inside) (λ body rest. viable_read (λ _ _ _ body _ is. do_read is body)))

  viable_looped : (p : Place) (words : List Word) → IsViable no_call no_call (IsLooped p) words (loop_body r p words)
  viable_looped p words = viable_then (viable_expected no_call p terminal.Do words refl refl) (λ _ inside. viable_as (viable_ended p (within_loop p) inside) (λ _ _ _ body. λ _ is. looped_read is body))

  viable_while : (p : Place) (words : List Word) → begins terminal.While words ≡ true → IsViable no_call no_call (IsKind p) words (read_while r p words)
  viable_while p words is =
      viable_then (viable_taken no_call p terminal.While words refl refl is) (λ _ second.
      viable_then (v.exp p precedence.Or second) (λ condition behind.
      viable_then (viable_looped p behind) (λ body rest. viable_read (λ _ _ _ body _ condition _ is. while_read is condition body))))

  viable_repeat : (p : Place) (words : List Word) → begins terminal.Repeat words ≡ true → IsViable no_call no_call (IsKind p) words (read_repeat r p words)
  viable_repeat p words is =
      viable_then (viable_taken no_call p terminal.Repeat words refl refl is) (λ _ inside.
      viable_then (v.block (within_loop p) inside) (λ body behind.
      viable_then (viable_expected no_call p terminal.Until behind refl refl) (λ _ second.
      viable_then (v.exp p precedence.Or second) (λ condition rest. viable_read (λ _ _ _ condition _ until _ body _ is. repeat_read is body until condition)))))

  viable_arm : (p : Place) (t : Terminal) (words : List Word) → IsOther t → IsNoCall t → begins t words ≡ true → IsViable no_call no_call (IsArm p t) words (read_arm r p words)
  viable_arm p t words other none is =
      viable_then (viable_taken no_call p t words other none is) (λ _ second.
      viable_then (v.exp p precedence.Or second) (λ condition behind.
      viable_then (viable_expected no_call p terminal.Then behind refl refl) (λ _ inside.
      viable_then (v.block (within p) inside) (λ body rest. viable_read (λ _ _ _ body _ then _ condition _ is. arm_read is condition then body)))))

  pub viable_arms : (p : Place) (before : List IfArm) (words : List Word) → IsViable no_call no_call (IsBehind before (IsArms p)) words (arms_behind r p before words)
  viable_arms p before words = viable_if (begins terminal.Elseif words)
      (λ is. viable_then (viable_arm p terminal.Elseif words refl refl is) (λ first rest. viable_as (v.arms p (before ++ first ∷ []) rest) (λ _ _ _ h. λ _ first. arms_on first h)))
      (λ _. viable_read (λ _ _. behind_all no_arms))

  viable_else : (p : Place) (words : List Word) → IsViable no_call no_call (IsElse p) words (else_behind r p words)
  viable_else p words = viable_where no_call p terminal.Else words refl refl
      (λ _ inside. viable_then (v.block (within p) inside) (λ body rest. viable_read (λ _ _ _ body _ is. else_read is body)))
      (λ _. viable_read (λ _ _. no_else))

  viable_if_statement : (p : Place) (words : List Word) → begins terminal.If words ≡ true → IsViable no_call no_call (IsKind p) words (read_if r p words)
  viable_if_statement p words is =
      viable_then (viable_arm p terminal.If words refl refl is) (λ first behind_first.
      viable_then (v.arms p (first ∷ []) behind_first) (λ arms behind_arms.
      viable_then (viable_else p behind_arms) (λ other behind.
      viable_then (viable_expected no_call p terminal.End behind refl refl) (λ _ rest. viable_read (λ _ _ _ e _ other _ arms _ first. if_read first arms other e)))))

  viable_step : (p : Place) (words : List Word) → IsViable no_call no_call (IsStep p) words (step_behind r p words)
  viable_step p words = viable_where no_call p terminal.Comma words refl refl
      (λ _ second. viable_then (v.exp p precedence.Or second) (λ value rest. viable_read (λ _ _ _ value _ is. step_read is value)))
      (λ _. viable_read (λ _ _. no_step))

  viable_numeric : (p : Place) (f : Word) (name : LocalName) (words : List Word) → begins terminal.Assign words ≡ true → IsViable no_call no_call (Completes (IsLocalName p) name (Completes (IsTaken p terminal.For) f (IsKind p))) words (numeric_for_behind r p name words)
  viable_numeric p f name words is =
      viable_then (viable_taken no_call p terminal.Assign words refl refl is) (λ _ second.
      viable_then (v.exp p precedence.Or second) (λ first behind_first.
      viable_then (viable_expected no_call p terminal.Comma behind_first refl refl) (λ _ third.
      viable_then (v.exp p precedence.Or third) (λ limit behind_limit.
      viable_then (viable_step p behind_limit) (λ step behind_step.
      viable_then (viable_looped p behind_step) (λ body rest.
      viable_read (λ _ _ _ body _ step _ limit _ comma _ first _ assign _ name _ for. numeric_read for name assign first comma limit step body)))))))

  viable_generic : (p : Place) (f : Word) (name : LocalName) (words : List Word) → IsViable no_call no_call (Completes (IsLocalName p) name (Completes (IsTaken p terminal.For) f (IsKind p))) words (generic_for_behind r p name words)
  viable_generic p f name words =
      viable_then (v.names p (name ∷ []) words) (λ names behind_names.
      viable_then (viable_expected no_call p terminal.In behind_names refl refl) (λ _ second.
      viable_then (viable_read_exps r v p second) (λ all behind_values.
      viable_then (viable_looped p behind_values) (λ body rest.
      viable_read (λ _ _ _ body _ all _ inside _ more _ name _ for. generic_read for name more inside all body)))))

  viable_for : (p : Place) (words : List Word) → begins terminal.For words ≡ true → IsViable no_call no_call (IsKind p) words (read_for r p words)
  viable_for p words is =
      viable_then (viable_taken no_call p terminal.For words refl refl is) (λ f second.
      viable_then (viable_local_name no_call p second) (λ name behind.
      viable_if (begins terminal.Assign behind) (λ assign. viable_numeric p f name behind assign) (λ _. viable_generic p f name behind)))

  viable_function : (p : Place) (words : List Word) → begins terminal.Function words ≡ true → IsViable no_call no_call (IsKind p) words (read_function r p words)
  viable_function p words is =
      viable_then (viable_taken no_call p terminal.Function words refl refl is) (λ _ second.
      viable_then (viable_name any_words p second) (λ name behind_name.
      viable_then (v.path p [] behind_name) (λ fields behind.
      viable_then (viable_body r v (within p) behind) (λ body rest. viable_read (λ _ _ _ body _ path _ name _ is. function_read is name path body)))))

  viable_local_function : (p : Place) (l : Word) (words : List Word) → begins terminal.Function words ≡ true → IsViable no_call no_call (Completes (IsTaken p terminal.Local) l (IsKind p)) words (local_function_behind r p words)
  viable_local_function p l words is =
      viable_then (viable_taken no_call p terminal.Function words refl refl is) (λ _ second.
      viable_then (viable_local_name any_words p second) (λ name behind.
      viable_then (viable_body r v (within p) behind) (λ body rest. viable_read (λ _ _ _ body _ name _ function _ is. local_function_read is function name body))))

  viable_locals : (p : Place) (l : Word) (words : List Word) → IsViable no_call no_call (Completes (IsTaken p terminal.Local) l (IsKind p)) words (locals_behind r p words)
  viable_locals p l words =
      viable_then (viable_read_names r v p words) (λ names behind.
      viable_then (viable_values r v p behind) (λ all rest. viable_read (λ _ _ _ all _ names _ is. locals_read is names all)))

  viable_local : (p : Place) (words : List Word) → begins terminal.Local words ≡ true → IsViable no_call no_call (IsKind p) words (read_local r p words)
  viable_local p words is =
      viable_then (viable_taken no_call p terminal.Local words refl refl is) (λ l second.
      viable_if (begins terminal.Function second) (λ function. viable_local_function p l second function) (λ _. viable_locals p l second))

  pub viable_kind : (p : Place) (t : Terminal) (o : Word) (words : List Word) → o.is ≡ t → IsViable no_call no_call (IsKind p) (o ∷ words) (kind_at r p t (o ∷ words))
  viable_kind p terminal.Semicolon o words is = viable_then (viable_taken no_call p terminal.Semicolon (o ∷ words) refl refl (begins-true terminal.Semicolon o words is)) (λ _ rest. viable_read (λ _ _ _ is. empty_read is))
  viable_kind p terminal.Break o words is = viable_break_where p p.in_loop o words refl is
  viable_kind p terminal.Do o words is = viable_do p (o ∷ words) (begins-true terminal.Do o words is)
  viable_kind p terminal.While o words is = viable_while p (o ∷ words) (begins-true terminal.While o words is)
  viable_kind p terminal.Repeat o words is = viable_repeat p (o ∷ words) (begins-true terminal.Repeat o words is)
  viable_kind p terminal.If o words is = viable_if_statement p (o ∷ words) (begins-true terminal.If o words is)
  viable_kind p terminal.For o words is = viable_for p (o ∷ words) (begins-true terminal.For o words is)
  viable_kind p terminal.Function o words is = viable_function p (o ∷ words) (begins-true terminal.Function o words is)
  viable_kind p terminal.Local o words is = viable_local p (o ∷ words) (begins-true terminal.Local o words is)
  viable_kind p _ o words is = viable_expression_statement r v p (o ∷ words)
