-- Two readings side by side: statements.
use Rattle.std.proofs.Common.{List, [], ◌∷◌, ◌++◌, Option, None, Some, refl}
use Rattle.ntx_syntax.specs.declared.tree.IfArm.{IfArm}
use Rattle.ntx_syntax.specs.declared.tree.LocalName.{LocalName}
use Rattle.ntx_syntax.specs.declared.tree.Var.{Var}
use Rattle.ntx_syntax.specs.declared.tree.Var.TheVariants as var
use Rattle.ntx_parse.specs.declared.part.Part.{Part}
use Rattle.ntx_parse.specs.declared.part.Part.TheVariants as part
use Rattle.ntx_parse.specs.declared.place.Place.{Place}
use Rattle.ntx_parse.specs.declared.precedence.Precedence.TheVariants as precedence
use Rattle.ntx_syntax.specs.declared.terminal.Terminal.{Terminal}
use Rattle.ntx_syntax.specs.declared.terminal.Terminal.TheVariants as terminal
use Rattle.ntx_parse.specs.Words.{Word}
use Rattle.ntx_parse.specs.Grammar.{within, within_loop}
use Rattle.ntx_parse.specs.inner.Reading.{Readers, values_behind, as_var, var_of, vars_behind, assignment_to, statement_of, read_expression_statement, read_break, block_to_end, read_do, loop_body, read_while, read_repeat, read_arm, arms_behind, else_behind, read_if, step_behind, numeric_for_behind, generic_for_behind, read_for, read_function, local_function_behind, locals_behind, read_local, kind_at}
use Rattle.ntx_parse.proofs.viewed.Views.{View, Situation, At, Goes, goes_read, goes_stopped, goes_if, goes_then, goes_read_behind, goes_taking, goes_where, goes_taken, goes_expected}
use Rattle.ntx_parse.proofs.viewed.Lists.{Go, goes_name, goes_local_name, goes_read_names, goes_read_exps}
use Rattle.ntx_parse.proofs.viewed.Prefixes.{goes_prefix, goes_body}

-- ---- assignments

goes_as_var : {V : View} (found : Option Var) {s : Situation} {words others : List Word} → At V s words others
    → Goes V s (as_var found words) (as_var found others)
goes_as_var None h = goes_stopped h
goes_as_var (Some v) h = goes_read h

-- ---- break

goes_break : {V : View} (p : Place) {s : Situation} {words others : List Word} → At V s words others → Goes V s (read_break p words) (read_break p others)
goes_break p h = goes_taking p h (λ _ _ _ behind. goes_if p.in_loop p.in_loop refl (goes_read_behind behind) (goes_stopped h))

module _ {V : View} {r other : Readers} (g : Go V r other) where
  pub goes_values : (p : Place) {s : Situation} {words others : List Word} → At V s words others
      → Goes V s (values_behind r p words) (values_behind other p others)
  goes_values p h =
      goes_where terminal.Assign h
      (goes_then (goes_taken p h) (λ _ _ _ _ h. goes_read_exps g p h))
      (goes_read h)

  pub goes_vars : (p : Place) (before : List Var) {s : Situation} {words others : List Word} → At V s words others
      → Goes V s (vars_behind r p before words) (vars_behind other p before others)
  goes_vars p before h =
      goes_where terminal.Comma h
      (goes_then (goes_taken p h) (λ _ _ _ _ h.
      goes_then (goes_prefix g p h) (λ found _ _ _ h.
      goes_then (goes_as_var (var_of found) h) (λ v _ _ _ h. g.vars p (before ++ v ∷ []) h))))
      (goes_read h)

  goes_assignment : (p : Place) (first : Var) {s : Situation} {words others : List Word} → At V s words others
      → Goes V s (assignment_to r p first words) (assignment_to other p first others)
  goes_assignment p first h =
      goes_then (g.vars p (first ∷ []) h) (λ vars _ _ _ h.
      goes_then (goes_expected p terminal.Assign h) (λ _ _ _ _ h.
      goes_then (goes_read_exps g p h) (λ values _ _ _ h. goes_read h)))

  goes_statement_of : (p : Place) (found : Part) {s : Situation} {words others : List Word} → At V s words others
      → Goes V s (statement_of r p found words) (statement_of other p found others)
  goes_statement_of p (part.Name name) h = goes_assignment p (var.Name name) h
  goes_statement_of p (part.Parenthesized e) h = goes_stopped h
  goes_statement_of p (part.Index before key) h = goes_assignment p (var.Index before key) h
  goes_statement_of p (part.Field before name) h = goes_assignment p (var.Field before name) h
  goes_statement_of p (part.Call before arguments) h = goes_read h

  goes_expression_statement : (p : Place) {s : Situation} {words others : List Word} → At V s words others
      → Goes V s (read_expression_statement r p words) (read_expression_statement other p others)
  goes_expression_statement p h = goes_then (goes_prefix g p h) (λ found _ _ _ h. goes_statement_of p found h)

  -- ---- blocks

  goes_to_end : (p inside : Place) {s : Situation} {words others : List Word} → At V s words others
      → Goes V s (block_to_end r p inside words) (block_to_end other p inside others)
  goes_to_end p inside h =
      goes_then (g.block inside h) (λ body _ _ _ h.
      goes_then (goes_expected p terminal.End h) (λ _ _ _ _ h. goes_read h))

  goes_do : (p : Place) {s : Situation} {words others : List Word} → At V s words others → Goes V s (read_do r p words) (read_do other p others)
  goes_do p h = goes_then (goes_taken p h) (λ _ _ _ _ h. goes_then (goes_to_end p (within p) h) (λ body _ _ _ h. goes_read h))

  goes_loop : (p : Place) {s : Situation} {words others : List Word} → At V s words others → Goes V s (loop_body r p words) (loop_body other p others)
  goes_loop p h = goes_then (goes_expected p terminal.Do h) (λ _ _ _ _ h. goes_to_end p (within_loop p) h)

  goes_while : (p : Place) {s : Situation} {words others : List Word} → At V s words others → Goes V s (read_while r p words) (read_while other p others)
  goes_while p h =
      goes_then (goes_taken p h) (λ _ _ _ _ h.
      goes_then (g.exp p precedence.Or h) (λ condition _ _ _ h.
      goes_then (goes_loop p h) (λ body _ _ _ h. goes_read h)))

  goes_repeat : (p : Place) {s : Situation} {words others : List Word} → At V s words others → Goes V s (read_repeat r p words) (read_repeat other p others)
  goes_repeat p h =
      goes_then (goes_taken p h) (λ _ _ _ _ h.
      goes_then (g.block (within_loop p) h) (λ body _ _ _ h.
      goes_then (goes_expected p terminal.Until h) (λ _ _ _ _ h.
      goes_then (g.exp p precedence.Or h) (λ condition _ _ _ h. goes_read h))))

  -- ---- if

  goes_arm : (p : Place) {s : Situation} {words others : List Word} → At V s words others → Goes V s (read_arm r p words) (read_arm other p others)
  goes_arm p h =
      goes_then (goes_taken p h) (λ _ _ _ _ h.
      goes_then (g.exp p precedence.Or h) (λ condition _ _ _ h.
      goes_then (goes_expected p terminal.Then h) (λ _ _ _ _ h.
      goes_then (g.block (within p) h) (λ body _ _ _ h. goes_read h))))

  pub goes_arms : (p : Place) (before : List IfArm) {s : Situation} {words others : List Word} → At V s words others
      → Goes V s (arms_behind r p before words) (arms_behind other p before others)
  goes_arms p before h =
      goes_where terminal.Elseif h
      (goes_then (goes_arm p h) (λ arm _ _ _ h. g.arms p (before ++ arm ∷ []) h))
      (goes_read h)

  goes_else : (p : Place) {s : Situation} {words others : List Word} → At V s words others → Goes V s (else_behind r p words) (else_behind other p others)
  goes_else p h =
      goes_where terminal.Else h
      (goes_then (goes_taken p h) (λ _ _ _ _ h. goes_then (g.block (within p) h) (λ body _ _ _ h. goes_read h)))
      (goes_read h)

  goes_if_statement : (p : Place) {s : Situation} {words others : List Word} → At V s words others → Goes V s (read_if r p words) (read_if other p others)
  goes_if_statement p h =
      goes_then (goes_arm p h) (λ first _ _ _ h.
      goes_then (g.arms p (first ∷ []) h) (λ arms _ _ _ h.
      goes_then (goes_else p h) (λ otherwise _ _ _ h.
      goes_then (goes_expected p terminal.End h) (λ _ _ _ _ h. goes_read h))))

  -- ---- for

  goes_step : (p : Place) {s : Situation} {words others : List Word} → At V s words others → Goes V s (step_behind r p words) (step_behind other p others)
  goes_step p h =
      goes_where terminal.Comma h
      (goes_then (goes_taken p h) (λ _ _ _ _ h. goes_then (g.exp p precedence.Or h) (λ value _ _ _ h. goes_read h)))
      (goes_read h)

  goes_numeric : (p : Place) (name : LocalName) {s : Situation} {words others : List Word} → At V s words others
      → Goes V s (numeric_for_behind r p name words) (numeric_for_behind other p name others)
  goes_numeric p name h =
      goes_then (goes_taken p h) (λ _ _ _ _ h.
      goes_then (g.exp p precedence.Or h) (λ first _ _ _ h.
      goes_then (goes_expected p terminal.Comma h) (λ _ _ _ _ h.
      goes_then (g.exp p precedence.Or h) (λ limit _ _ _ h.
      goes_then (goes_step p h) (λ step _ _ _ h.
      goes_then (goes_loop p h) (λ body _ _ _ h. goes_read h))))))

  goes_generic : (p : Place) (name : LocalName) {s : Situation} {words others : List Word} → At V s words others
      → Goes V s (generic_for_behind r p name words) (generic_for_behind other p name others)
  goes_generic p name h =
      goes_then (g.names p (name ∷ []) h) (λ names _ _ _ h.
      goes_then (goes_expected p terminal.In h) (λ _ _ _ _ h.
      goes_then (goes_read_exps g p h) (λ values _ _ _ h.
      goes_then (goes_loop p h) (λ body _ _ _ h. goes_read h))))

  goes_for : (p : Place) {s : Situation} {words others : List Word} → At V s words others → Goes V s (read_for r p words) (read_for other p others)
  goes_for p h =
      goes_then (goes_taken p h) (λ _ _ _ _ h.
      goes_then (goes_local_name p h) (λ name _ _ _ h.
      goes_where terminal.Assign h (goes_numeric p name h) (goes_generic p name h)))

  -- ---- functions and locals

  goes_function : (p : Place) {s : Situation} {words others : List Word} → At V s words others
      → Goes V s (read_function r p words) (read_function other p others)
  goes_function p h =
      goes_then (goes_taken p h) (λ _ _ _ _ h.
      goes_then (goes_name p h) (λ name _ _ _ h.
      goes_then (g.path p [] h) (λ fields _ _ _ h.
      goes_then (goes_body g (within p) h) (λ body _ _ _ h. goes_read h))))

  goes_local_function : (p : Place) {s : Situation} {words others : List Word} → At V s words others
      → Goes V s (local_function_behind r p words) (local_function_behind other p others)
  goes_local_function p h =
      goes_then (goes_taken p h) (λ _ _ _ _ h.
      goes_then (goes_local_name p h) (λ name _ _ _ h.
      goes_then (goes_body g (within p) h) (λ body _ _ _ h. goes_read h)))

  goes_locals : (p : Place) {s : Situation} {words others : List Word} → At V s words others → Goes V s (locals_behind r p words) (locals_behind other p others)
  goes_locals p h =
      goes_then (goes_read_names g p h) (λ names _ _ _ h.
      goes_then (goes_values p h) (λ values _ _ _ h. goes_read h))

  goes_local : (p : Place) {s : Situation} {words others : List Word} → At V s words others → Goes V s (read_local r p words) (read_local other p others)
  goes_local p h =
      goes_then (goes_taken p h) (λ _ _ _ _ h.
      goes_where terminal.Function h (goes_local_function p h) (goes_locals p h))

  -- ---- all

  pub goes_kind : (p : Place) (t : Terminal) {s : Situation} {words others : List Word} → At V s words others
      → Goes V s (kind_at r p t words) (kind_at other p t others)
  goes_kind p terminal.Semicolon h = goes_then (goes_taken p h) (λ _ _ _ _ h. goes_read h)
  goes_kind p terminal.Break h = goes_break p h
  goes_kind p terminal.Do h = goes_do p h
  goes_kind p terminal.While h = goes_while p h
  goes_kind p terminal.Repeat h = goes_repeat p h
  goes_kind p terminal.If h = goes_if_statement p h
  goes_kind p terminal.For h = goes_for p h
  goes_kind p terminal.Function h = goes_function p h
  goes_kind p terminal.Local h = goes_local p h
  goes_kind p _ h = goes_expression_statement p h
