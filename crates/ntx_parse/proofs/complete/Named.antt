-- Which words name a field: an expression before them is none that begins so.
use Rattle.std.specs.Prelude.{◌≡◌, nat_eq, false, List, ◌∷◌}
use Rattle.std.proofs.Common.{refl}
use Rattle.std.proofs.lemmas.Bool.{and_left, and_right}
use Rattle.ntx_syntax.specs.declared.tree.BinaryOp.{BinaryOp}
use Rattle.ntx_syntax.specs.declared.tree.BinaryOp.TheVariants as binary
use Rattle.ntx_syntax.specs.declared.tree.UnaryOp.{UnaryOp}
use Rattle.ntx_syntax.specs.declared.tree.UnaryOp.TheVariants as unary
use Rattle.ntx_syntax.specs.declared.tree.Prefix.{Prefix}
use Rattle.ntx_syntax.specs.declared.tree.Exp.{Exp}
use Rattle.ntx_syntax.specs.declared.tree.Operation.{Operation}
use Rattle.ntx_syntax.specs.Terminals.{same_terminal}
use Rattle.ntx_parse.specs.declared.place.Place.{Place}
use Rattle.ntx_parse.specs.declared.precedence.Precedence.{Precedence}
use Rattle.ntx_syntax.specs.declared.terminal.Terminal.{Terminal}
use Rattle.ntx_syntax.specs.declared.terminal.Terminal.TheVariants as terminal
use Rattle.ntx_parse.specs.Grammar.{Placed, Is, binary_terminal, unary_terminal, IsPrefix, name_prefix, index_prefix, field_prefix, call_prefix, parenthesized, IsExp, operations, concatenation, no_concatenation, operator, simple, IsRun, first_operand, more_operands, IsSimple, nil, false_, true_, numeral, text, function_exp, prefix_exp, table}
use Rattle.ntx_parse.specs.inner.Reading.{begins, names_a_field}
use Rattle.ntx_parse.proofs.complete.Begins.{plain, is_this, is_other, not_begins, starts_follows}
use Rattle.ntx_parse.proofs.complete.Starts.{index_starts, arguments_start}

-- What begins with another word names no field.
begins_other : {p : Place} {t : Terminal} {o : Placed} (words : List Placed) → Is p t o → same_terminal t terminal.Name ≡ false
    → names_a_field (plain (o ∷ words)) ≡ false
begins_other words i e = and_left _ _ (is_other terminal.Name i e)

binary_no_equals : (op : BinaryOp) → same_terminal (binary_terminal op) terminal.Assign ≡ false
binary_no_equals binary.Or = refl
binary_no_equals _ = refl

unary_no_name : (op : UnaryOp) → same_terminal (unary_terminal op) terminal.Name ≡ false
unary_no_name unary.Not = refl
unary_no_name _ = refl

prefix_names_none : {p : Place} {prefix : Prefix} {words rest : List Placed} → IsPrefix p prefix words rest → begins terminal.Assign (plain rest) ≡ false
    → names_a_field (plain words) ≡ false
prefix_names_none (name_prefix n) h = and_right _ _ h
prefix_names_none (index_prefix before key) h =
    prefix_names_none before (not_begins (is_this terminal.LeftBracket) terminal.Assign _ refl (starts_follows _ _ (index_starts key)))
prefix_names_none (field_prefix before d n) h = prefix_names_none before (is_other terminal.Assign d refl)
prefix_names_none (call_prefix before given) h =
    prefix_names_none before (not_begins (is_this terminal.LeftParenthesis) terminal.Assign _ refl (starts_follows _ _ (arguments_start given)))
prefix_names_none (parenthesized {words = words} o e c) h = begins_other words o refl

simple_names_none : {p : Place} {e : Exp} {words rest : List Placed} → IsSimple p e words rest → begins terminal.Assign (plain rest) ≡ false
    → names_a_field (plain words) ≡ false
simple_names_none (nil {rest = behind} o) h = begins_other behind o refl
simple_names_none (false_ {rest = behind} o) h = begins_other behind o refl
simple_names_none (true_ {rest = behind} o) h = begins_other behind o refl
simple_names_none (numeral {rest = behind} o value) h = begins_other behind o refl
simple_names_none (text {rest = behind} o value) h = begins_other behind o refl
simple_names_none (function_exp {words = words} f b) h = begins_other words f refl
simple_names_none (prefix_exp prefix before) h = prefix_names_none prefix h
simple_names_none (table {words = words} o all c) h = begins_other words o refl

mutual
  pub exp_names_none : {p : Place} {at : Precedence} {e : Exp} {words rest : List Placed} → IsExp p at e words rest → begins terminal.Assign (plain rest) ≡ false
      → names_a_field (plain words) ≡ false
  exp_names_none (operations left run) h = run_names_none run h
  exp_names_none (concatenation is left o right) h = exp_names_none left (is_other terminal.Assign o refl)
  exp_names_none (no_concatenation is e) h = exp_names_none e h
  exp_names_none (operator {op = op} {words = words} is o e) h = begins_other words o (unary_no_name op)
  exp_names_none (simple is e) h = simple_names_none e h

  run_names_none : {p : Place} {at : Precedence} {first : Exp} {others : List Operation} {words rest : List Placed} → IsRun p at first others words rest
      → begins terminal.Assign (plain rest) ≡ false → names_a_field (plain words) ≡ false
  run_names_none (first_operand e) h = exp_names_none e h
  run_names_none (more_operands op run is o operand) h = run_names_none run (is_other terminal.Assign o (binary_no_equals op))
