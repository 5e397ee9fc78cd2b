-- Each phrase of which a word is taken ends, where the readings of fewer words do.
use Rattle.std.specs.Prelude.{◌≡◌, ◌<◌, ℕ, suc, Bool, ◌||◌, List, [], ◌∷◌, ◌++◌, length, Option, None, Some}
use Rattle.std.proofs.Common.{arith}
use Rattle.ntx_syntax.specs.declared.terminal.Terminal.{Terminal}
use Rattle.ntx_syntax.specs.declared.terminal.Terminal.TheVariants as terminal
use Rattle.ntx_syntax.specs.declared.tree.BinaryOp.{BinaryOp}
use Rattle.ntx_syntax.specs.declared.tree.Exp.{Exp}
use Rattle.ntx_syntax.specs.declared.tree.Exp.TheVariants as exp
use Rattle.ntx_syntax.specs.declared.tree.IfArm.{IfArm}
use Rattle.ntx_syntax.specs.declared.tree.LocalName.{LocalName}
use Rattle.ntx_syntax.specs.declared.tree.Operation.{Operation}
use Rattle.ntx_syntax.specs.declared.tree.Stat.{Stat}
use Rattle.ntx_syntax.specs.declared.tree.UnaryOp.{UnaryOp}
use Rattle.ntx_syntax.specs.declared.tree.Var.{Var}
use Rattle.ntx_syntax.specs.declared.tree.Var.TheVariants as var
use Rattle.ntx_syntax.specs.Values.{numeral_value, text_value}
use Rattle.ntx_parse.specs.declared.part.Part.{Part}
use Rattle.ntx_parse.specs.declared.part.Part.TheVariants as part
use Rattle.ntx_parse.specs.declared.place.Place.{Place}
use Rattle.ntx_parse.specs.declared.precedence.Precedence.{Precedence}
use Rattle.ntx_parse.specs.declared.precedence.Precedence.TheVariants as precedence
use Rattle.ntx_parse.specs.Words.{Word}
use Rattle.ntx_parse.specs.Grammar.{within, within_loop, within_function, tighter}
use Rattle.ntx_parse.specs.inner.Reading.{Answer, Readers, begins, read_value, begins_statement, joined, var_of, operator_at, sign_at, ends_returned, read_name, read_local_name, path_behind, names_behind, read_names, exps_behind, read_exps, read_index, read_arguments, suffixes_behind, read_parenthesized, read_prefix, read_parameters, read_body, read_table, simple_at, read_simple, read_operand, concat_behind, operations_by, operations_behind, values_behind, as_var, vars_behind, assignment_to, statement_of, read_expression_statement, read_break, block_to_end, read_do, loop_body, read_while, read_repeat, read_arm, arms_behind, else_behind, read_if, step_behind, numeric_for_behind, generic_for_behind, read_for, read_function, local_function_behind, locals_behind, read_local, kind_at, stats_behind, semicolon_behind, returned_behind, last_behind}
use Rattle.ntx_parse.proofs.ends.Answers.{Ends, ends_ok, ends_err, Finishes, ends_more, ends_then, ends_if, ends_taken, ends_expected, ends_taken_also, ends_expected_also}

also : {m k : ℕ} → m < k → m < suc k
also h = omega (arith, h)

value_ends : {A : Type 0} (f : A → Exp) (value : Option A) (words rest : List Word) {k : ℕ} → length rest < k → Ends k (read_value f value words rest)
value_ends f None words rest h = ends_err
value_ends f (Some value) words rest h = ends_ok h

pub name_ends : (p : Place) (words : List Word) {k : ℕ} → length words < suc k → Ends k (read_name p words)
name_ends p words h = ends_then (ends_expected p terminal.Name words h) (λ o rest h. ends_ok h)

local_name_ends : (p : Place) (words : List Word) {k : ℕ} → length words < suc k → Ends k (read_local_name p words)
local_name_ends p words h = ends_then (ends_expected p terminal.Name words h) (λ o rest h. ends_ok h)

as_var_ends : (v : Option Var) (rest : List Word) {k : ℕ} → length rest < k → Ends k (as_var v rest)
as_var_ends None rest h = ends_err
as_var_ends (Some v) rest h = ends_ok h

break_ends : (p : Place) (words : List Word) {k : ℕ} → length words < suc k → Ends k (read_break p words)
break_ends p words h = ends_then (ends_taken p words h) (λ _ rest h. ends_if p.in_loop (ends_ok h) ends_err)

semicolon_ends : (p : Place) (words : List Word) {k : ℕ} → length words < k → Ends k (semicolon_behind p words)
semicolon_ends p words h = ends_if (begins terminal.Semicolon words) (ends_then (ends_taken_also p words h) (λ _ rest h. ends_ok h)) (ends_ok h)

module _ (r : Readers) (k : ℕ) (f : Finishes r k) where
  -- ---- parts, of which no word need be taken

  exps_end : (p : Place) (words : List Word) → length words < k → Ends k (read_exps r p words)
  exps_end p words h = ends_then (f.exp p precedence.Or words h) (λ e rest h. f.exps p (e ∷ []) rest h)

  names_end : (p : Place) (words : List Word) → length words < suc k → Ends k (read_names r p words)
  names_end p words h = ends_then (local_name_ends p words h) (λ name rest h. f.names p (name ∷ []) rest h)

  values_end : (p : Place) (words : List Word) → length words < k → Ends k (values_behind r p words)
  values_end p words h = ends_if (begins terminal.Assign words) (ends_then (ends_taken_also p words h) (λ _ rest h. exps_end p rest h)) (ends_ok h)

  step_ends : (p : Place) (words : List Word) → length words < k → Ends k (step_behind r p words)
  step_ends p words h = ends_if (begins terminal.Comma words)
      (ends_then (ends_taken_also p words h) (λ _ second h. ends_then (f.exp p precedence.Or second h) (λ value rest h. ends_ok h))) (ends_ok h)

  block_ends_at : (p inside : Place) (words : List Word) → length words < k → Ends k (block_to_end r p inside words)
  block_ends_at p inside words h =
      ends_then (f.block inside words h) (λ body behind h. ends_then (ends_expected_also p terminal.End behind h) (λ _ rest h. ends_ok h))

  loop_ends : (p : Place) (words : List Word) → length words < k → Ends k (loop_body r p words)
  loop_ends p words h = ends_then (ends_expected_also p terminal.Do words h) (λ _ inside h. block_ends_at p (within_loop p) inside h)

  else_ends : (p : Place) (words : List Word) → length words < k → Ends k (else_behind r p words)
  else_ends p words h = ends_if (begins terminal.Else words)
      (ends_then (ends_taken_also p words h) (λ _ inside h. ends_then (f.block (within p) inside h) (λ body rest h. ends_ok h))) (ends_ok h)

  assignment_ends : (p : Place) (first : Var) (words : List Word) → length words < k → Ends k (assignment_to r p first words)
  assignment_ends p first words h =
      ends_then (f.vars p (first ∷ []) words h) (λ vars behind h.
      ends_then (ends_expected_also p terminal.Assign behind h) (λ _ second h. ends_then (exps_end p second h) (λ values rest h. ends_ok h)))

  statement_ends : (p : Place) (found : Part) (words : List Word) → length words < k → Ends k (statement_of r p found words)
  statement_ends p (part.Name name) words h = assignment_ends p (var.Name name) words h
  statement_ends p (part.Parenthesized e) words h = ends_err
  statement_ends p (part.Index before key) words h = assignment_ends p (var.Index before key) words h
  statement_ends p (part.Field before name) words h = assignment_ends p (var.Field before name) words h
  statement_ends p (part.Call before arguments) words h = ends_ok h

  -- ---- prefixes, functions and tables

  pub index_ends : (p : Place) (words : List Word) → length words < suc k → Ends k (read_index r p words)
  index_ends p words h =
      ends_then (ends_expected p terminal.LeftBracket words h) (λ _ inside h.
      ends_then (f.exp p precedence.Or inside h) (λ key behind h.
      ends_then (ends_expected_also p terminal.RightBracket behind h) (λ _ rest h. ends_ok h)))

  arguments_end : (p : Place) (words : List Word) → length words < suc k → Ends k (read_arguments r p words)
  arguments_end p words h =
      ends_then (ends_expected p terminal.LeftParenthesis words h) (λ _ inside h.
      ends_if (begins terminal.RightParenthesis inside) (ends_then (ends_taken_also p inside h) (λ _ rest h. ends_ok h))
      (ends_then (exps_end p inside h) (λ arguments behind h. ends_then (ends_expected_also p terminal.RightParenthesis behind h) (λ _ rest h. ends_ok h))))

  parenthesized_ends : (p : Place) (words : List Word) → length words < suc k → Ends k (read_parenthesized r p words)
  parenthesized_ends p words h =
      ends_then (ends_expected p terminal.LeftParenthesis words h) (λ _ inside h.
      ends_then (f.exp p precedence.Or inside h) (λ e behind h.
      ends_then (ends_expected_also p terminal.RightParenthesis behind h) (λ _ rest h. ends_ok h)))

  prefix_ends : (p : Place) (words : List Word) → length words < suc k → Ends k (read_prefix r p words)
  prefix_ends p words h = ends_if (begins terminal.LeftParenthesis words)
      (ends_then (parenthesized_ends (within p) words h) (λ e rest h. f.suffixes p (part.Parenthesized e) rest h))
      (ends_then (name_ends p words h) (λ name rest h. f.suffixes p (part.Name name) rest h))

  parameters_end : (p : Place) (words : List Word) → length words < suc k → Ends k (read_parameters r p words)
  parameters_end p words h =
      ends_then (ends_expected p terminal.LeftParenthesis words h) (λ _ inside h.
      ends_if (begins terminal.RightParenthesis inside) (ends_then (ends_taken_also p inside h) (λ _ rest h. ends_ok h))
      (ends_then (names_end p inside (also h)) (λ names behind h. ends_then (ends_expected_also p terminal.RightParenthesis behind h) (λ _ rest h. ends_ok h))))

  body_ends : (p : Place) (words : List Word) → length words < suc k → Ends k (read_body r p words)
  body_ends p words h =
      ends_then (parameters_end (within p) words h) (λ parameters inside h.
      ends_then (f.block (within_function p) inside h) (λ block behind h.
      ends_then (ends_expected_also p terminal.End behind h) (λ _ rest h. ends_ok h)))

  table_ends : (p : Place) (words : List Word) → length words < suc k → Ends k (read_table r p words)
  table_ends p words h =
      ends_then (ends_expected p terminal.LeftBrace words h) (λ _ inside h.
      ends_then (f.fields p [] inside h) (λ fields behind h.
      ends_then (ends_expected_also p terminal.RightBrace behind h) (λ _ rest h. ends_ok h)))

  -- ---- operands

  simple_ends : (p : Place) (t : Terminal) (words : List Word) → length words < suc k → Ends k (simple_at r p t words)
  simple_ends p terminal.Nil words h = ends_then (ends_taken p words h) (λ _ rest h. ends_ok h)
  simple_ends p terminal.False words h = ends_then (ends_taken p words h) (λ _ rest h. ends_ok h)
  simple_ends p terminal.True words h = ends_then (ends_taken p words h) (λ _ rest h. ends_ok h)
  simple_ends p terminal.Numeral words h = ends_then (ends_taken p words h) (λ o rest h. value_ends exp.Numeral (numeral_value o.spelled) words rest h)
  simple_ends p terminal.Text words h = ends_then (ends_taken p words h) (λ o rest h. value_ends exp.Text (text_value o.spelled) words rest h)
  simple_ends p terminal.Function words h =
      ends_then (ends_taken p words h) (λ _ behind h. ends_then (body_ends (within p) behind (also h)) (λ body rest h. ends_ok h))
  simple_ends p terminal.LeftBrace words h = ends_then (table_ends (within p) words h) (λ fields rest h. ends_ok h)
  simple_ends p terminal.Name words h = ends_then (prefix_ends p words h) (λ found rest h. ends_ok h)
  simple_ends p terminal.LeftParenthesis words h = ends_then (prefix_ends p words h) (λ found rest h. ends_ok h)
  simple_ends p _ words h = ends_err

  first_ends : (p : Place) (words : List Word) → length words < suc k → Ends k (read_simple r p words)
  first_ends p [] h = ends_err
  first_ends p (o ∷ words) h = simple_ends p o.is (o ∷ words) h

  pub operand_ends : (p : Place) (sign : Option UnaryOp) (words : List Word) → length words < suc k → Ends k (read_operand r p sign words)
  operand_ends p None words h = first_ends p words h
  operand_ends p (Some op) words h =
      ends_then (ends_taken p words h) (λ _ behind h. ends_then (f.exp (within p) precedence.Unary behind h) (λ e rest h. ends_ok h))

  pub concat_ends : (p : Place) (left : Exp) (words : List Word) → length words < suc k → Ends (suc k) (concat_behind r p left words)
  concat_ends p left words h = ends_if (begins terminal.DoubleDot words)
      (ends_more (ends_then (ends_taken p words h) (λ _ behind h. ends_then (f.exp (within p) precedence.Concat behind h) (λ right rest h. ends_ok h)))) (ends_ok h)

  operations_by_end : (p : Place) (at : Precedence) (before : List Operation) (op : Option BinaryOp) (words : List Word) → length words < suc k
      → Ends (suc k) (operations_by r p at before op words)
  operations_by_end p at before None words h = ends_ok h
  operations_by_end p at before (Some op) words h =
      ends_more (ends_then (ends_taken p words h) (λ _ behind h. ends_then (f.exp (within p) (tighter at) behind h) (λ operand rest h. f.operations p at _ rest h)))

  -- ---- statements

  arm_ends : (p : Place) (words : List Word) → length words < suc k → Ends k (read_arm r p words)
  arm_ends p words h =
      ends_then (ends_taken p words h) (λ _ second h.
      ends_then (f.exp p precedence.Or second h) (λ condition behind h.
      ends_then (ends_expected_also p terminal.Then behind h) (λ _ inside h. ends_then (f.block (within p) inside h) (λ body rest h. ends_ok h))))

  while_ends : (p : Place) (words : List Word) → length words < suc k → Ends k (read_while r p words)
  while_ends p words h =
      ends_then (ends_taken p words h) (λ _ second h.
      ends_then (f.exp p precedence.Or second h) (λ condition behind h. ends_then (loop_ends p behind h) (λ body rest h. ends_ok h)))

  repeat_ends : (p : Place) (words : List Word) → length words < suc k → Ends k (read_repeat r p words)
  repeat_ends p words h =
      ends_then (ends_taken p words h) (λ _ inside h.
      ends_then (f.block (within_loop p) inside h) (λ body behind h.
      ends_then (ends_expected_also p terminal.Until behind h) (λ _ second h. ends_then (f.exp p precedence.Or second h) (λ condition rest h. ends_ok h))))

  if_ends : (p : Place) (words : List Word) → length words < suc k → Ends k (read_if r p words)
  if_ends p words h =
      ends_then (arm_ends p words h) (λ first behind_first h.
      ends_then (f.arms p (first ∷ []) behind_first h) (λ arms behind_arms h.
      ends_then (else_ends p behind_arms h) (λ other behind h. ends_then (ends_expected_also p terminal.End behind h) (λ _ rest h. ends_ok h))))

  numeric_for_ends : (p : Place) (name : LocalName) (words : List Word) → length words < k → Ends k (numeric_for_behind r p name words)
  numeric_for_ends p name words h =
      ends_then (ends_taken_also p words h) (λ _ second h.
      ends_then (f.exp p precedence.Or second h) (λ first behind_first h.
      ends_then (ends_expected_also p terminal.Comma behind_first h) (λ _ third h.
      ends_then (f.exp p precedence.Or third h) (λ limit behind_limit h.
      ends_then (step_ends p behind_limit h) (λ step behind_step h. ends_then (loop_ends p behind_step h) (λ body rest h. ends_ok h))))))

  generic_for_ends : (p : Place) (name : LocalName) (words : List Word) → length words < k → Ends k (generic_for_behind r p name words)
  generic_for_ends p name words h =
      ends_then (f.names p (name ∷ []) words h) (λ names behind_names h.
      ends_then (ends_expected_also p terminal.In behind_names h) (λ _ second h.
      ends_then (exps_end p second h) (λ values behind_values h. ends_then (loop_ends p behind_values h) (λ body rest h. ends_ok h))))

  for_ends : (p : Place) (words : List Word) → length words < suc k → Ends k (read_for r p words)
  for_ends p words h =
      ends_then (ends_taken p words h) (λ _ second h.
      ends_then (local_name_ends p second (also h)) (λ name behind h.
      ends_if (begins terminal.Assign behind) (numeric_for_ends p name behind h) (generic_for_ends p name behind h)))

  function_ends : (p : Place) (words : List Word) → length words < suc k → Ends k (read_function r p words)
  function_ends p words h =
      ends_then (ends_taken p words h) (λ _ second h.
      ends_then (name_ends p second (also h)) (λ name behind_name h.
      ends_then (f.path p [] behind_name h) (λ fields behind h. ends_then (body_ends (within p) behind (also h)) (λ body rest h. ends_ok h))))

  local_ends : (p : Place) (words : List Word) → length words < suc k → Ends k (read_local r p words)
  local_ends p words h =
      ends_then (ends_taken p words h) (λ _ second h.
      ends_if (begins terminal.Function second)
      (ends_then (ends_taken_also p second h) (λ _ third h.
      ends_then (local_name_ends p third (also h)) (λ name behind h. ends_then (body_ends (within p) behind (also h)) (λ body rest h. ends_ok h))))
      (ends_then (names_end p second (also h)) (λ names behind h. ends_then (values_end p behind h) (λ values rest h. ends_ok h))))

  kind_ends : (p : Place) (t : Terminal) (words : List Word) → length words < suc k → Ends k (kind_at r p t words)
  kind_ends p terminal.Semicolon words h = ends_then (ends_taken p words h) (λ _ rest h. ends_ok h)
  kind_ends p terminal.Break words h = break_ends p words h
  kind_ends p terminal.Do words h =
      ends_then (ends_taken p words h) (λ _ inside h. ends_then (block_ends_at p (within p) inside h) (λ body rest h. ends_ok h))
  kind_ends p terminal.While words h = while_ends p words h
  kind_ends p terminal.Repeat words h = repeat_ends p words h
  kind_ends p terminal.If words h = if_ends p words h
  kind_ends p terminal.For words h = for_ends p words h
  kind_ends p terminal.Function words h = function_ends p words h
  kind_ends p terminal.Local words h = local_ends p words h
  kind_ends p _ words h = ends_then (prefix_ends p words h) (λ found rest h. statement_ends p found rest h)

  returned_ends : (p : Place) (words : List Word) → length words < k → Ends k (returned_behind r p words)
  returned_ends p words h = ends_if (ends_returned words) (ends_ok h) (exps_end p words h)

  pub last_ends : (p : Place) (words : List Word) → length words < suc k → Ends (suc k) (last_behind r p words)
  last_ends p words h = ends_if (begins terminal.Return words)
      (ends_more (ends_then (ends_taken p words h) (λ o second h.
      ends_then (returned_ends p second h) (λ values behind h. ends_then (semicolon_ends p behind h) (λ _ rest h. ends_ok h))))) (ends_ok h)

  -- ---- lists

  pub stats_end : (p : Place) (before : List Stat) (words : List Word) → length words < suc k → Ends (suc k) (stats_behind r p before words)
  stats_end p before [] h = ends_ok h
  stats_end p before (o ∷ words) h = ends_if (begins_statement o.is)
      (ends_more (ends_then (kind_ends p o.is (o ∷ words) h) (λ kind rest h. f.stats p _ rest h))) (ends_ok h)

  pub arms_end : (p : Place) (before : List IfArm) (words : List Word) → length words < suc k → Ends (suc k) (arms_behind r p before words)
  arms_end p before words h = ends_if (begins terminal.Elseif words) (ends_more (ends_then (arm_ends p words h) (λ arm rest h. f.arms p _ rest h))) (ends_ok h)

  pub path_ends : (p : Place) (before : List (List ℕ)) (words : List Word) → length words < suc k → Ends (suc k) (path_behind r p before words)
  path_ends p before words h = ends_if (begins terminal.Dot words)
      (ends_more (ends_then (ends_taken p words h) (λ _ rest h. ends_then (name_ends p rest (also h)) (λ name others h. f.path p _ others h)))) (ends_ok h)

  pub names_behind_end : (p : Place) (before : List LocalName) (words : List Word) → length words < suc k → Ends (suc k) (names_behind r p before words)
  names_behind_end p before words h = ends_if (begins terminal.Comma words)
      (ends_more (ends_then (ends_taken p words h) (λ _ rest h. ends_then (local_name_ends p rest (also h)) (λ name others h. f.names p _ others h)))) (ends_ok h)

  pub exps_behind_end : (p : Place) (before : List Exp) (words : List Word) → length words < suc k → Ends (suc k) (exps_behind r p before words)
  exps_behind_end p before words h = ends_if (begins terminal.Comma words)
      (ends_more (ends_then (ends_taken p words h) (λ _ rest h. ends_then (f.exp p precedence.Or rest h) (λ e others h. f.exps p _ others h)))) (ends_ok h)

  pub vars_end : (p : Place) (before : List Var) (words : List Word) → length words < suc k → Ends (suc k) (vars_behind r p before words)
  vars_end p before words h = ends_if (begins terminal.Comma words)
      (ends_more (ends_then (ends_taken p words h) (λ _ second h.
      ends_then (prefix_ends p second (also h)) (λ found rest h. ends_then (as_var_ends (var_of found) rest h) (λ v others h. f.vars p _ others h))))) (ends_ok h)

  pub suffixes_end : (p : Place) (before : Part) (words : List Word) → length words < suc k → Ends (suc k) (suffixes_behind r p before words)
  suffixes_end p before words h = ends_if (begins terminal.LeftBracket words)
      (ends_more (ends_then (index_ends (within p) words h) (λ key rest h. f.suffixes p _ rest h)))
      (ends_if (begins terminal.Dot words)
      (ends_more (ends_then (ends_taken p words h) (λ _ behind h. ends_then (name_ends p behind (also h)) (λ name rest h. f.suffixes p _ rest h))))
      (ends_if (begins terminal.LeftParenthesis words)
      (ends_more (ends_then (arguments_end (within p) words h) (λ arguments rest h. f.suffixes p _ rest h))) (ends_ok h)))

  pub operations_end : (p : Place) (at : Precedence) (before : List Operation) (words : List Word) → length words < suc k → Ends (suc k) (operations_behind r p at before words)
  operations_end p at before words h = operations_by_end p at before (operator_at at words) words h
