-- What the words of a phrase begin with, and what can stand after the phrase before it.
use Rattle.std.specs.Prelude.{◌≡◌, Bool, true, false, List, Option}
use Rattle.std.proofs.Common.{refl}
use Rattle.ntx_syntax.specs.declared.tree.Block.{Block}
use Rattle.ntx_syntax.specs.declared.tree.Return.{Return}
use Rattle.ntx_syntax.specs.declared.tree.Stat.{Stat}
use Rattle.ntx_syntax.specs.declared.tree.StatKind.{StatKind}
use Rattle.ntx_syntax.specs.declared.tree.IfArm.{IfArm}
use Rattle.ntx_syntax.specs.declared.tree.FunctionBody.{FunctionBody}
use Rattle.ntx_syntax.specs.declared.tree.Var.{Var}
use Rattle.ntx_syntax.specs.declared.tree.Call.{Call}
use Rattle.ntx_syntax.specs.declared.tree.Prefix.{Prefix}
use Rattle.ntx_syntax.specs.declared.tree.Exp.{Exp}
use Rattle.ntx_syntax.specs.declared.tree.Operation.{Operation}
use Rattle.ntx_syntax.specs.declared.tree.Field.{Field}
use Rattle.ntx_parse.specs.declared.place.Place.{Place}
use Rattle.ntx_parse.specs.declared.precedence.Precedence.{Precedence}
use Rattle.ntx_parse.specs.declared.precedence.Precedence.TheVariants as precedence
use Rattle.ntx_syntax.specs.declared.terminal.Terminal.{Terminal}
use Rattle.ntx_syntax.specs.declared.terminal.Terminal.TheVariants as terminal
use Rattle.ntx_parse.specs.Grammar.{Placed, IsSemicolon, no_semicolon, semicolon, IsStats, no_stats, more_stats, IsLast, no_return, last_return, IsStat, statement, IsKind, empty, assignment, called, break, do_end, while_do, repeat_until, if_then, numeric_for, generic_for, function, local_function, locals, IsArm, arm, IsArms, no_arms, more_arms, IsElse, no_else, else, IsStep, no_step, step, IsValues, no_values, values, IsExps, one_exp, more_exps, IsVars, one_var, more_vars, IsBody, body, IsVar, name_var, index_var, field_var, IsPrefix, name_prefix, index_prefix, field_prefix, call_prefix, parenthesized, IsIndex, index, IsCall, call, IsArguments, no_arguments, arguments, IsExp, operations, concatenation, no_concatenation, operator, simple, IsRun, first_operand, more_operands, IsSimple, nil, false_, true_, numeral, text, function_exp, prefix_exp, table, IsField, keyed, named_field, positional}
use Rattle.ntx_parse.specs.inner.Reading.{begins, begins_statement, ends_return}
use Rattle.ntx_parse.proofs.complete.Begins.{plain, is_other, not_begins, is_this, Follows, Starts, follows_also, starts_also, starts_follows, passes}
use Rattle.ntx_parse.proofs.complete.Follows.{ends_block, ends_stats, ends_stat, ends_arms, ends_exp, arms_end_block, end_ends_arms, do_ends_exp, begins_prefix, begins_simple, begins_exp, begins_field, prefix_begins_simple, prefix_begins_statement, simple_begins_exp, exp_begins_field, bracket_begins_field, block_ends_return, unary_begins_exp, block_ends_stats, stats_end_stat, statement_ends_stat}

-- ---- expressions

mutual
  pub prefix_starts : {p : Place} {prefix : Prefix} {words rest : List Placed} → IsPrefix p prefix words rest → Starts begins_prefix words
  prefix_starts (name_prefix n) = passes begins_prefix n refl
  prefix_starts (index_prefix before key) = prefix_starts before
  prefix_starts (field_prefix before d n) = prefix_starts before
  prefix_starts (call_prefix before given) = prefix_starts before
  prefix_starts (parenthesized o e c) = passes begins_prefix o refl

  pub simple_starts : {p : Place} {e : Exp} {words rest : List Placed} → IsSimple p e words rest → Starts begins_simple words
  simple_starts (nil o) = passes begins_simple o refl
  simple_starts (false_ o) = passes begins_simple o refl
  simple_starts (true_ o) = passes begins_simple o refl
  simple_starts (numeral o value) = passes begins_simple o refl
  simple_starts (text o value) = passes begins_simple o refl
  simple_starts (function_exp f b) = passes begins_simple f refl
  simple_starts (prefix_exp prefix before) = starts_also begins_prefix begins_simple prefix_begins_simple _ (prefix_starts prefix)
  simple_starts (table o all c) = passes begins_simple o refl

  pub exp_starts : {p : Place} {at : Precedence} {e : Exp} {words rest : List Placed} → IsExp p at e words rest → Starts begins_exp words
  exp_starts (operations left run) = run_starts run
  exp_starts (concatenation is left o right) = exp_starts left
  exp_starts (no_concatenation is e) = exp_starts e
  exp_starts (operator {op = op} is o e) = passes begins_exp o (unary_begins_exp op)
  exp_starts (simple is e) = starts_also begins_simple begins_exp simple_begins_exp _ (simple_starts e)

  pub run_starts : {p : Place} {at : Precedence} {first : Exp} {others : List Operation} {words rest : List Placed} → IsRun p at first others words rest → Starts begins_exp words
  run_starts (first_operand e) = exp_starts e
  run_starts (more_operands op run is o operand) = run_starts run

pub exps_start : {p : Place} {es : List Exp} {words rest : List Placed} → IsExps p es words rest → Starts begins_exp words
exps_start (one_exp e) = exp_starts e
exps_start (more_exps e c es) = exp_starts e

pub index_starts : {p : Place} {key : Exp} {words rest : List Placed} → IsIndex p key words rest → Starts (is_this terminal.LeftBracket) words
index_starts (index o key c) = passes (is_this terminal.LeftBracket) o refl

pub arguments_start : {p : Place} {es : List Exp} {words rest : List Placed} → IsArguments p es words rest → Starts (is_this terminal.LeftParenthesis) words
arguments_start (no_arguments o c) = passes (is_this terminal.LeftParenthesis) o refl
arguments_start (arguments o es c) = passes (is_this terminal.LeftParenthesis) o refl

pub field_starts : {p : Place} {f : Field} {words rest : List Placed} → IsField p f words rest → Starts begins_field words
field_starts (keyed key a value) = starts_also _ begins_field bracket_begins_field _ (index_starts key)
field_starts (named_field n a value) = passes begins_field n refl
field_starts (positional value) = starts_also begins_exp begins_field exp_begins_field _ (exp_starts value)

-- ---- statements

pub var_starts : {p : Place} {v : Var} {words rest : List Placed} → IsVar p v words rest → Starts begins_prefix words
var_starts (name_var n) = passes begins_prefix n refl
var_starts (index_var prefix key) = prefix_starts prefix
var_starts (field_var prefix d n) = prefix_starts prefix

pub vars_start : {p : Place} {vs : List Var} {words rest : List Placed} → IsVars p vs words rest → Starts begins_prefix words
vars_start (one_var v) = var_starts v
vars_start (more_vars v c vs) = var_starts v

pub call_starts : {p : Place} {c : Call} {words rest : List Placed} → IsCall p c words rest → Starts begins_prefix words
call_starts (call prefix given) = prefix_starts prefix

pub arm_starts : {p : Place} {t : Terminal} {a : IfArm} {words rest : List Placed} (q : Terminal → Bool) → q t ≡ true → IsArm p t a words rest → Starts q words
arm_starts q e (arm o condition t inside) = passes q o e

pub kind_starts : {p : Place} {kind : StatKind} {words rest : List Placed} → IsKind p kind words rest → Starts begins_statement words
kind_starts (empty o) = passes begins_statement o refl
kind_starts (assignment vs o es) = starts_also begins_prefix begins_statement prefix_begins_statement _ (vars_start vs)
kind_starts (called c before) = starts_also begins_prefix begins_statement prefix_begins_statement _ (call_starts c)
kind_starts (break o) = passes begins_statement o refl
kind_starts (do_end o inside e) = passes begins_statement o refl
kind_starts (while_do o condition d inside e) = passes begins_statement o refl
kind_starts (repeat_until o inside u condition) = passes begins_statement o refl
kind_starts (if_then first others last e) = arm_starts begins_statement refl first
kind_starts (numeric_for f n a first c limit s d inside e) = passes begins_statement f refl
kind_starts (generic_for f names i es d inside e) = passes begins_statement f refl
kind_starts (function f n path inside) = passes begins_statement f refl
kind_starts (local_function l f n inside) = passes begins_statement l refl
kind_starts (locals l names es) = passes begins_statement l refl

pub stat_starts : {p : Place} {s : Stat} {words rest : List Placed} → IsStat p s words rest → Starts begins_statement words
stat_starts (statement kind) = kind_starts kind

-- ---- what stands after

pub stats_follow : {p : Place} {ss : List Stat} {words rest : List Placed} → IsStats p ss words rest → Follows ends_stats rest → Follows ends_stat words
stats_follow no_stats h = follows_also ends_stats ends_stat stats_end_stat _ h
stats_follow (more_stats s ss) h = starts_follows ends_stat _ (starts_also begins_statement ends_stat statement_ends_stat _ (stat_starts s))

pub last_follows : {p : Place} {last : Option Return} {words rest : List Placed} → IsLast p last words rest → Follows ends_block rest → Follows ends_stats words
last_follows no_return h = follows_also ends_block ends_stats block_ends_stats _ h
last_follows (last_return o es s) h = passes ends_stats o refl

pub semicolon_follows : {p : Place} {words rest : List Placed} → IsSemicolon p words rest → Follows ends_block rest → Follows ends_return words
semicolon_follows no_semicolon h = follows_also ends_block ends_return block_ends_return _ h
semicolon_follows (semicolon o) h = passes ends_return o refl

pub else_follows : {p : Place} {other : Option Block} {words rest : List Placed} → IsElse p other words rest → Follows (is_this terminal.End) rest → Follows ends_arms words
else_follows no_else h = follows_also (is_this terminal.End) ends_arms end_ends_arms _ h
else_follows (else o inside) h = passes ends_arms o refl

pub arms_follow : {p : Place} {arms : List IfArm} {words rest : List Placed} → IsArms p arms words rest → Follows ends_arms rest → Follows ends_block words
arms_follow no_arms h = follows_also ends_arms ends_block arms_end_block _ h
arms_follow (more_arms first others) h = starts_follows ends_block _ (arm_starts ends_block refl first)

pub step_follows : {p : Place} {s : Option Exp} {words rest : List Placed} → IsStep p s words rest → Follows (is_this terminal.Do) rest → Follows (ends_exp precedence.Or) words
step_follows no_step h = follows_also (is_this terminal.Do) (ends_exp precedence.Or) do_ends_exp _ h
step_follows (step c value) h = passes (ends_exp precedence.Or) c refl

pub values_no_comma : {p : Place} {es : List Exp} {words rest : List Placed} → IsValues p es words rest → Follows ends_stat rest → begins terminal.Comma (plain words) ≡ false
values_no_comma (no_values {rest = behind}) h = not_begins ends_stat terminal.Comma behind refl h
values_no_comma (values a es) h = is_other terminal.Comma a refl

pub body_no_dot : {p : Place} {b : FunctionBody} {words rest : List Placed} → IsBody p b words rest → begins terminal.Dot (plain words) ≡ false
body_no_dot (body o names c inside e) = is_other terminal.Dot o refl
