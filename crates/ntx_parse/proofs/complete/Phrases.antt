-- Each phrase that derives is read, up to the boundary, where its words before the boundary are allowed and what ends it stands after it.
use Rattle.std.specs.Prelude.{◌≡◌, Bool, true, false, List, Option}
use Rattle.std.proofs.Common.{refl, ap, ◌∙◌, subst}
use Rattle.ntx_syntax.specs.declared.tree.Block.{Block}
use Rattle.ntx_syntax.specs.declared.tree.Return.{Return}
use Rattle.ntx_syntax.specs.declared.tree.Stat.{Stat}
use Rattle.ntx_syntax.specs.declared.tree.StatKind.{StatKind}
use Rattle.ntx_syntax.specs.declared.tree.IfArm.{IfArm}
use Rattle.ntx_syntax.specs.declared.tree.FunctionBody.{FunctionBody}
use Rattle.ntx_syntax.specs.declared.tree.Var.{Var}
use Rattle.ntx_syntax.specs.declared.tree.Prefix.{Prefix}
use Rattle.ntx_syntax.specs.declared.tree.Exp.{Exp}
use Rattle.ntx_syntax.specs.declared.tree.Operation.{Operation}
use Rattle.ntx_syntax.specs.declared.tree.Field.{Field}
use Rattle.ntx_parse.specs.declared.place.Place.{Place}
use Rattle.ntx_parse.specs.declared.precedence.Precedence.{Precedence}
use Rattle.ntx_parse.specs.declared.precedence.Precedence.TheVariants as precedence
use Rattle.ntx_syntax.specs.declared.terminal.Terminal.{Terminal}
use Rattle.ntx_syntax.specs.declared.terminal.Terminal.TheVariants as terminal
use Rattle.ntx_parse.specs.Grammar.{Placed, Is, tighter, IsBlock, block, IsStats, no_stats, more_stats, IsLast, no_return, last_return, IsReturned, returns_nothing, returns, IsStat, statement, IsKind, empty, assignment, called, break, do_end, while_do, repeat_until, if_then, numeric_for, generic_for, function, local_function, locals, IsArm, arm, IsArms, no_arms, more_arms, IsElse, no_else, else, IsStep, no_step, step, IsValues, no_values, values, IsExps, one_exp, more_exps, IsVars, one_var, more_vars, IsBody, body, IsVar, name_var, index_var, field_var, IsPrefix, name_prefix, index_prefix, field_prefix, call_prefix, parenthesized, IsIndex, index, call, IsArguments, no_arguments, arguments, IsExp, operations, concatenation, no_concatenation, operator, simple, IsRun, first_operand, more_operands, IsSimple, nil, false_, true_, numeral, text, function_exp, prefix_exp, table, IsFields, no_fields, last_field, more_fields, IsField, keyed, named_field, positional}
use Rattle.ntx_parse.specs.inner.Reading.{begins, readers, read_index, read_arguments, ends_return}
use Rattle.ntx_parse.proofs.complete.Begins.{plain, AreAllowedBefore, is_this, Follows, Starts, follows_also, starts_follows, passes, is_other, not_begins, not_before}
use Rattle.ntx_parse.proofs.complete.Follows.{ends_block, ends_stats, ends_stat, ends_arms, ends_exp, ends_exps, ends_field, return_ends_exps, stat_ends_exps, stat_ends_exp, exps_end_exp, field_ends_exp, end_ends_block, do_ends_exp, brace_ends_field}
use Rattle.ntx_parse.proofs.complete.Operators.{ends_tighter, operator_follows}
use Rattle.ntx_parse.proofs.complete.Starts.{prefix_starts, simple_starts, exp_starts, exps_start, index_starts, arguments_start, field_starts, vars_start, arm_starts, kind_starts, stats_follow, last_follows, semicolon_follows, else_follows, arms_follow, step_follows, values_no_comma, body_no_dot}
use Rattle.ntx_parse.proofs.complete.Named.{exp_names_none}
use Rattle.ntx_parse.proofs.complete.Comes.{Boundary}
use Rattle.ntx_parse.proofs.complete.Forms.{Done, ExpDone, ExpsDone, BlockDone, StatDone, PrefixDone, VarDone, VarsDone, RunDone}
use Rattle.ntx_parse.proofs.complete.Names.{names_done, names_start, behind_first, path_done, semicolon_done}
use Rattle.ntx_parse.proofs.complete.Prefixes.{NoSuffix, one_exp_done, more_exps_done, index_done, no_arguments_done, arguments_done, name_prefix_done, index_prefix_done, field_prefix_done, call_prefix_done, parenthesized_done, name_var_done, index_var_done, field_var_done, one_var_done, more_vars_done}
use Rattle.ntx_parse.proofs.complete.Expressions.{SimpleDone, nil_done, false_done, true_done, numeral_done, text_done, function_done, prefix_exp_done, table_done, operator_done, simple_done, concatenation_done, no_concatenation_done, first_operand_done, more_operands_done, operations_done}
use Rattle.ntx_parse.proofs.complete.Tables.{body_done, FieldDone, keyed_done, named_done, positional_done, FieldsDone, no_fields_done, last_field_done, more_fields_done, separator_ends_field}
use Rattle.ntx_parse.proofs.complete.Kinds.{KindDone, assignment_done, called_done, ValuesDone, no_values_done, values_done}
use Rattle.ntx_parse.proofs.complete.Statements.{empty_done, break_done, do_done, while_done, repeat_done, ArmDone, arm_done, ArmsDone, no_arms_done, more_arms_done, ElseDone, no_else_done, else_done, if_done, StepDone, no_step_done, step_done, numeric_for_done, generic_for_done, BodyDone, function_stat_done, local_function_done, locals_done}
use Rattle.ntx_parse.proofs.complete.Blocks.{stat_done, StatsDone, no_stats_done, more_stats_done, ReturnedDone, returns_nothing_done, returns_done, LastDone, no_return_done, last_return_done, block_done}

-- ---- what stands after

concat_follows : {p : Place} {o : Placed} (at : Precedence) → at ≡ precedence.Concat → Is p terminal.DoubleDot o → ends_exp (tighter at) o.word.is ≡ true
concat_follows {p} {o} at is i = ap (λ k. ends_exp (tighter k) o.word.is) is ∙ passes (ends_exp (tighter precedence.Concat)) i refl

unary_follows : (at : Precedence) (rest : List Placed) → at ≡ precedence.Unary → Follows (ends_exp at) rest → Follows (ends_exp precedence.Unary) rest
unary_follows at rest is h = subst (λ k. Follows (ends_exp k) rest) is h

no_suffix_of : (q : Terminal → Bool) (rest : List Placed) → q terminal.LeftBracket ≡ false → q terminal.Dot ≡ false → Follows q rest
    → begins terminal.LeftParenthesis (plain rest) ≡ false
    → NoSuffix (plain rest)
no_suffix_of q rest bracket dot h parenthesis = record {
  bracket = not_begins q terminal.LeftBracket rest bracket h;
  dot = not_begins q terminal.Dot rest dot h;
  parenthesis = parenthesis;
}

field_no_equals : (rest : List Placed) → Follows ends_field rest → begins terminal.Assign (plain rest) ≡ false
field_no_equals rest h = not_begins ends_field terminal.Assign rest refl h

-- ---- all together

mutual
  pub block_read : {boundary : Boundary} {p : Place} {b : Block} {words rest : List Placed} → IsBlock p b words rest → AreAllowedBefore boundary words
      → Follows ends_block rest
      → BlockDone boundary p b (plain words) rest
  block_read (block {words = w} {middle = m} ss last) allowed h = block_done w m (stats_read ss allowed (last_follows last h)) (λ f. last_read last f h)

  stats_read : {boundary : Boundary} {p : Place} {ss : List Stat} {words rest : List Placed} → IsStats p ss words rest → AreAllowedBefore boundary words
      → Follows ends_stats rest
      → StatsDone boundary p ss words rest
  stats_read (no_stats {rest = r}) allowed h = no_stats_done r h allowed
  stats_read (more_stats {words = w} {middle = m} s ss) allowed h = more_stats_done w m (stat_read s allowed (stats_follow ss h)) (λ f. stats_read ss f h)

  stat_read : {boundary : Boundary} {p : Place} {s : Stat} {words rest : List Placed} → IsStat p s words rest → AreAllowedBefore boundary words
      → Follows ends_stat rest
      → StatDone boundary p s (plain words) rest
  stat_read (statement {o = o} {words = w} kind) allowed h = stat_done o w (kind_starts kind) (kind_read kind allowed h)

  last_read : {boundary : Boundary} {p : Place} {last : Option Return} {words rest : List Placed} → IsLast p last words rest → AreAllowedBefore boundary words
      → Follows ends_block rest
      → LastDone boundary p last words rest
  last_read (no_return {p = p} {rest = r}) allowed h = no_return_done p r (not_begins ends_block terminal.Return r refl h) allowed
  last_read (last_return {words = w} {middle = m} {rest = r} o es s) allowed h =
      last_return_done w m o allowed.0 (returned_read es allowed.1 (semicolon_follows s h)) (λ f. semicolon_done s f (not_begins ends_block terminal.Semicolon r refl h))

  returned_read : {boundary : Boundary} {p : Place} {es : List Exp} {words rest : List Placed} → IsReturned p es words rest → AreAllowedBefore boundary words
      → Follows ends_return rest
      → ReturnedDone boundary p es words rest
  returned_read (returns_nothing {p = p} {rest = r}) allowed h = returns_nothing_done p r h allowed
  returned_read (returns {words = w} {rest = r} es) allowed h = returns_done w (exps_start es) (exps_read es allowed (follows_also ends_return ends_exps return_ends_exps r h))

  kind_read : {boundary : Boundary} {p : Place} {kind : StatKind} {words rest : List Placed} → IsKind p kind words rest → AreAllowedBefore boundary words
      → Follows ends_stat rest
      → KindDone boundary p kind words rest
  kind_read (empty o) allowed h = empty_done o allowed
  kind_read (assignment {words = w} {middle = m} {rest = r} vs o es) allowed h =
      assignment_done w m (vars_start vs) (vars_read vs allowed (passes (is_this terminal.Assign) o refl)) o (λ f. exps_read es f (follows_also ends_stat ends_exps stat_ends_exps r h))
  kind_read (called (call {words = w} {middle = m} {rest = r} prefix given) before) allowed h =
      called_done w m (prefix_starts prefix) (prefix_read prefix allowed) (arguments_start given) (λ f. arguments_read given f)
      (no_suffix_of ends_stat r refl refl h (not_before terminal.LeftParenthesis r before))
  kind_read (break o) allowed h = break_done o allowed
  kind_read (do_end {words = w} o inside e) allowed h = do_done w o allowed.0 (block_read inside allowed.1 (passes ends_block e refl)) e
  kind_read (while_do {words = w} {middle = m} o condition d inside e) allowed h =
      while_done w m o allowed.0 (exp_read condition allowed.1 (passes (ends_exp precedence.Or) d refl)) d (λ f. block_read inside f (passes ends_block e refl)) e
  kind_read (repeat_until {words = w} {middle = m} {rest = r} o inside u condition) allowed h =
      repeat_done w m o allowed.0 (block_read inside allowed.1 (passes ends_block u refl)) u (λ f. exp_read condition f (follows_also ends_stat (ends_exp precedence.Or) stat_ends_exp r h))
  kind_read (if_then {words = w} {behind_first = a} {behind_arms = b} first others last e) allowed h =
      if_done w a b (arm_starts (is_this terminal.If) refl first) (arm_read refl first allowed (arms_follow others (else_follows last (passes (is_this terminal.End) e refl))))
      (λ f. arms_read others f (else_follows last (passes (is_this terminal.End) e refl))) (λ f. else_read last f (passes (is_this terminal.End) e refl)) e
  kind_read (numeric_for {words = w} {behind_first = a} {behind_limit = b} {behind_step = c} f n is_assign first is_comma limit s d inside e) allowed h =
      numeric_for_done w a b c f n is_assign allowed (exp_read first allowed.1.1.1 (passes (ends_exp precedence.Or) is_comma refl)) is_comma
      (λ g. exp_read limit g (step_follows s (passes (is_this terminal.Do) d refl))) (λ g. step_read s g (passes (is_this terminal.Do) d refl)) d
      (λ g. block_read inside g (passes ends_block e refl)) e
  kind_read (generic_for {words = w} {behind_names = a} {behind_values = b} f names i es d inside e) allowed h =
      generic_for_done w a b f allowed.0 (names_done names allowed.1 (is_other terminal.Comma i refl))
      (behind_first _ terminal.Assign names allowed.1 (is_other terminal.Comma i refl) refl (is_other terminal.Assign i refl)) i
      (λ g. exps_read es g (passes ends_exps d refl)) d (λ g. block_read inside g (passes ends_block e refl)) e
  kind_read (function {words = w} {middle = m} f n path inside) allowed h = function_stat_done w m f n allowed (path_done path allowed.1.1 (body_no_dot inside)) (λ g. body_read inside g)
  kind_read (local_function {words = w} l f n inside) allowed h = local_function_done w l f n allowed (body_read inside allowed.1.1.1)
  kind_read (locals {words = w} {middle = m} l names es) allowed h =
      locals_done w m l allowed.0 (names_start terminal.Function names refl) (names_done names allowed.1 (values_no_comma es h)) (λ g. values_read es g h)

  arm_read : {boundary : Boundary} {p : Place} {t : Terminal} {a : IfArm} {words rest : List Placed} → is_this terminal.Break t ≡ false → IsArm p t a words rest → AreAllowedBefore boundary words
      → Follows ends_block rest
      → ArmDone boundary p a words rest
  arm_read other (arm {words = w} {middle = m} o condition t inside) allowed h =
      arm_done w m o other allowed.0 (exp_read condition allowed.1 (passes (ends_exp precedence.Or) t refl)) t (λ f. block_read inside f h)

  arms_read : {boundary : Boundary} {p : Place} {arms : List IfArm} {words rest : List Placed} → IsArms p arms words rest → AreAllowedBefore boundary words
      → Follows ends_arms rest
      → ArmsDone boundary p arms words rest
  arms_read (no_arms {rest = r}) allowed h = no_arms_done r (not_begins ends_arms terminal.Elseif r refl h) allowed
  arms_read (more_arms {words = w} {middle = m} first others) allowed h =
      more_arms_done w m (arm_starts (is_this terminal.Elseif) refl first) (arm_read refl first allowed (arms_follow others h)) (λ f. arms_read others f h)

  else_read : {boundary : Boundary} {p : Place} {other : Option Block} {words rest : List Placed} → IsElse p other words rest → AreAllowedBefore boundary words
      → Follows (is_this terminal.End) rest
      → ElseDone boundary p other words rest
  else_read (no_else {p = p} {rest = r}) allowed h = no_else_done p r (not_begins (is_this terminal.End) terminal.Else r refl h) allowed
  else_read (else {words = w} {rest = r} o inside) allowed h = else_done w o allowed.0 (block_read inside allowed.1 (follows_also (is_this terminal.End) ends_block end_ends_block r h))

  step_read : {boundary : Boundary} {p : Place} {s : Option Exp} {words rest : List Placed} → IsStep p s words rest → AreAllowedBefore boundary words
      → Follows (is_this terminal.Do) rest
      → StepDone boundary p s words rest
  step_read (no_step {p = p} {rest = r}) allowed h = no_step_done p r (not_begins (is_this terminal.Do) terminal.Comma r refl h) allowed
  step_read (step {words = w} {rest = r} c value) allowed h =
      step_done w c allowed.0 (exp_read value allowed.1 (follows_also (is_this terminal.Do) (ends_exp precedence.Or) do_ends_exp r h))

  values_read : {boundary : Boundary} {p : Place} {es : List Exp} {words rest : List Placed} → IsValues p es words rest → AreAllowedBefore boundary words
      → Follows ends_stat rest
      → ValuesDone boundary p es words rest
  values_read (no_values {p = p} {rest = r}) allowed h = no_values_done p r (not_begins ends_stat terminal.Assign r refl h) allowed
  values_read (values {words = w} {rest = r} a es) allowed h = values_done w a allowed.0 (exps_read es allowed.1 (follows_also ends_stat ends_exps stat_ends_exps r h))

  exps_read : {boundary : Boundary} {p : Place} {es : List Exp} {words rest : List Placed} → IsExps p es words rest → AreAllowedBefore boundary words
      → Follows ends_exps rest
      → ExpsDone boundary p es (plain words) rest
  exps_read (one_exp {rest = r} e) allowed h =
      one_exp_done (exp_read e allowed (follows_also ends_exps (ends_exp precedence.Or) exps_end_exp r h)) (not_begins ends_exps terminal.Comma r refl h)
  exps_read (more_exps {middle = m} e c es) allowed h = more_exps_done m (exp_read e allowed (passes (ends_exp precedence.Or) c refl)) c (λ f. exps_read es f h)

  vars_read : {boundary : Boundary} {p : Place} {vs : List Var} {words rest : List Placed} → IsVars p vs words rest → AreAllowedBefore boundary words
      → Follows (is_this terminal.Assign) rest
      → VarsDone boundary p vs (plain words) rest
  vars_read (one_var {rest = r} v) allowed h =
      one_var_done (var_read v allowed)
      (no_suffix_of (is_this terminal.Assign) r refl refl h (not_begins (is_this terminal.Assign) terminal.LeftParenthesis r refl h))
      (not_begins (is_this terminal.Assign) terminal.Comma r refl h)
  vars_read (more_vars {middle = m} v c vs) allowed h = more_vars_done m (var_read v allowed) c (λ f. vars_read vs f h)

  body_read : {boundary : Boundary} {p : Place} {b : FunctionBody} {words rest : List Placed} → IsBody p b words rest → AreAllowedBefore boundary words
      → BodyDone boundary p b words rest
  body_read (body {words = w} {middle = m} o names c inside e) allowed = body_done w m o names c allowed (λ f. block_read inside f (passes ends_block e refl)) e

  var_read : {boundary : Boundary} {p : Place} {v : Var} {words rest : List Placed} → IsVar p v words rest → AreAllowedBefore boundary words
      → VarDone boundary p v (plain words) rest
  var_read (name_var n) allowed = name_var_done n allowed
  var_read (index_var {middle = m} prefix key) allowed = index_var_done m (index_starts key) (prefix_read prefix allowed) (λ f. index_read key f)
  var_read (field_var prefix d n) allowed = field_var_done (prefix_read prefix allowed) d n

  prefix_read : {boundary : Boundary} {p : Place} {prefix : Prefix} {words rest : List Placed} → IsPrefix p prefix words rest → AreAllowedBefore boundary words
      → PrefixDone boundary p prefix (plain words) rest
  prefix_read (name_prefix n) allowed = name_prefix_done n allowed
  prefix_read (index_prefix {middle = m} prefix key) allowed = index_prefix_done m (index_starts key) (prefix_read prefix allowed) (λ f. index_read key f)
  prefix_read (field_prefix prefix d n) allowed = field_prefix_done (prefix_read prefix allowed) d n
  prefix_read (call_prefix {middle = m} prefix given) allowed = call_prefix_done m (arguments_start given) (prefix_read prefix allowed) (λ f. arguments_read given f)
  prefix_read (parenthesized o e c) allowed = parenthesized_done o allowed.0 (exp_read e allowed.1 (passes (ends_exp precedence.Or) c refl)) c

  index_read : {boundary : Boundary} {p : Place} {key : Exp} {words rest : List Placed} → IsIndex p key words rest → AreAllowedBefore boundary words
      → Done boundary (plain words) (λ n. read_index (readers n) p (plain words)) key rest
  index_read (index o key c) allowed = index_done o allowed.0 (exp_read key allowed.1 (passes (ends_exp precedence.Or) c refl)) c

  arguments_read : {boundary : Boundary} {p : Place} {es : List Exp} {words rest : List Placed} → IsArguments p es words rest → AreAllowedBefore boundary words
      → Done boundary (plain words) (λ n. read_arguments (readers n) p (plain words)) es rest
  arguments_read (no_arguments o c) allowed = no_arguments_done o c allowed
  arguments_read (arguments {words = w} o es c) allowed = arguments_done w o allowed.0 (exps_start es) (exps_read es allowed.1 (passes ends_exps c refl)) c

  exp_read : {boundary : Boundary} {p : Place} {at : Precedence} {e : Exp} {words rest : List Placed} → IsExp p at e words rest → AreAllowedBefore boundary words
      → Follows (ends_exp at) rest
      → ExpDone boundary p at e (plain words) rest
  exp_read (operations {at = at} {rest = r} left run) allowed h = operations_done left (run_read run allowed (ends_tighter at r h)) h
  exp_read (concatenation {at = at} {middle = m} is left o right) allowed h =
      concatenation_done m is (exp_read left allowed (concat_follows at is o)) o (λ f. exp_read right f h)
  exp_read (no_concatenation {at = at} {rest = r} is e) allowed h = no_concatenation_done is (exp_read e allowed (ends_tighter at r h)) h
  exp_read (operator is o e) allowed h = operator_done is o allowed.0 (exp_read e allowed.1 h)
  exp_read (simple {at = at} {words = w} {rest = r} is e) allowed h = simple_done w is (simple_starts e) (simple_read e allowed (unary_follows at r is h))

  run_read : {boundary : Boundary} {p : Place} {at : Precedence} {first : Exp} {others : List Operation} {words rest : List Placed}
      → IsRun p at first others words rest → AreAllowedBefore boundary words
      → Follows (ends_exp (tighter at)) rest → RunDone boundary p at first others (plain words) rest
  run_read (first_operand e) allowed h = first_operand_done (exp_read e allowed h)
  run_read (more_operands {at = at} op {middle = m} run same o operand) allowed h =
      more_operands_done op m (run_read run allowed (operator_follows at op o same)) same o (λ f. exp_read operand f h)

  simple_read : {boundary : Boundary} {p : Place} {e : Exp} {words rest : List Placed} → IsSimple p e words rest → AreAllowedBefore boundary words
      → Follows (ends_exp precedence.Unary) rest
      → SimpleDone boundary p e words rest
  simple_read (nil o) allowed h = nil_done o allowed
  simple_read (false_ o) allowed h = false_done o allowed
  simple_read (true_ o) allowed h = true_done o allowed
  simple_read (numeral o value) allowed h = numeral_done o value allowed
  simple_read (text o value) allowed h = text_done o value allowed
  simple_read (function_exp {words = w} f b) allowed h = function_done w f allowed.0 (body_read b allowed.1)
  simple_read (prefix_exp {words = w} {rest = r} prefix before) allowed h =
      prefix_exp_done w (prefix_starts prefix) (prefix_read prefix allowed) (no_suffix_of (ends_exp precedence.Unary) r refl refl h (not_before terminal.LeftParenthesis r before))
  simple_read (table {p = p} {words = w} o all c) allowed h = table_done p w o allowed.0 (fields_read all allowed.1 (passes (is_this terminal.RightBrace) c refl)) c

  fields_read : {boundary : Boundary} {p : Place} {fields : List Field} {words rest : List Placed} → IsFields p fields words rest → AreAllowedBefore boundary words
      → Starts (is_this terminal.RightBrace) rest
      → FieldsDone boundary p fields words rest
  fields_read (no_fields {rest = r}) allowed h = no_fields_done r h allowed
  fields_read (last_field {words = w} {rest = r} f) allowed h =
      last_field_done w r (field_starts f) (field_read f allowed (follows_also (is_this terminal.RightBrace) ends_field brace_ends_field r (starts_follows (is_this terminal.RightBrace) r h))) h
  fields_read (more_fields {words = w} {middle = m} f s others) allowed h =
      more_fields_done w m (field_starts f) (field_read f allowed (separator_ends_field s)) s (λ g. fields_read others g h)

  field_read : {boundary : Boundary} {p : Place} {f : Field} {words rest : List Placed} → IsField p f words rest → AreAllowedBefore boundary words
      → Follows ends_field rest
      → FieldDone boundary p f words rest
  field_read (keyed {words = w} {middle = m} {rest = r} key a value) allowed h =
      keyed_done w m (index_starts key) (index_read key allowed) a (λ g. exp_read value g (follows_also ends_field (ends_exp precedence.Or) field_ends_exp r h))
  field_read (named_field {words = w} {rest = r} n a value) allowed h =
      named_done w n a allowed.0 allowed.1.0 (exp_read value allowed.1.1 (follows_also ends_field (ends_exp precedence.Or) field_ends_exp r h))
  field_read (positional {words = w} {rest = r} value) allowed h =
      positional_done w (exp_starts value) (exp_names_none value (field_no_equals r h)) (exp_read value allowed (follows_also ends_field (ends_exp precedence.Or) field_ends_exp r h))
