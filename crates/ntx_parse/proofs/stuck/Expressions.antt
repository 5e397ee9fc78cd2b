-- Expressions: what an answer of theirs tells.
use Rattle.std.proofs.Common.{◌≡◌, ℕ, Bool, true, false, cond, List, [], ◌∷◌, ◌++◌, Option, None, Some, IsSome, nat_le, refl, sym, ap, ◌∙◌, subst, is_some, leb-true, leb-false}
use Rattle.std.proofs.lemmas.Bool.{false≢true}
use Rattle.ntx_syntax.specs.declared.fault.SyntaxWhy.TheVariants as why
use Rattle.ntx_syntax.specs.declared.tree.Exp.{Exp}
use Rattle.ntx_syntax.specs.declared.tree.Exp.TheVariants as exp
use Rattle.ntx_syntax.specs.declared.tree.Operation.{Operation}
use Rattle.ntx_syntax.specs.declared.tree.BinaryOp.{BinaryOp}
use Rattle.ntx_syntax.specs.declared.tree.BinaryOp.TheVariants as binary
use Rattle.ntx_syntax.specs.declared.tree.UnaryOp.{UnaryOp}
use Rattle.ntx_syntax.specs.declared.tree.UnaryOp.TheVariants as unary
use Rattle.ntx_syntax.specs.Values.{numeral_value, text_value}
use Rattle.ntx_parse.specs.declared.place.Place.{Place}
use Rattle.ntx_parse.specs.declared.precedence.Precedence.{Precedence}
use Rattle.ntx_parse.specs.declared.precedence.Precedence.TheVariants as precedence
use Rattle.ntx_syntax.specs.declared.terminal.Terminal.{Terminal}
use Rattle.ntx_syntax.specs.declared.terminal.Terminal.TheVariants as terminal
use Rattle.ntx_parse.specs.Words.{Word}
use Rattle.ntx_parse.specs.Grammar as grammar
use Rattle.ntx_parse.specs.Grammar.{within, tighter, binary_terminal, unary_terminal, associates_left, max_nesting, IsExp, first_operand, IsSimple}
use Rattle.ntx_parse.specs.Faults.{at_place}
use Rattle.ntx_parse.specs.inner.Reading.{Readers, read, stopped, and_then, joined, read_prefix, sign_at, operator_at, read_value, simple_at, read_simple, read_operand, concat_behind, operations_by, operations_behind, read_run, exp_at}
use Rattle.ntx_parse.proofs.TerminalLemmas.{begins-true, other_terminal}
use Rattle.ntx_parse.proofs.sound.Phrases.{IsOperated}
use Rattle.ntx_parse.proofs.sound.Expressions.{nil_read, false_read, true_read, function_read, table_exp, prefix_exp, other_unary, other_binary, begins_sign, begins_operator, unary_read, concat_read, operated_on}
use Rattle.ntx_parse.proofs.stuck.Answers.{any_words, no_call, EachHasValue, too_deep, HasPhrase, IsViable, viable_then}
use Rattle.ntx_parse.proofs.stuck.Words.{IsWordOf, viable_read, viable_stopped, viable_wrong, viable_one, viable_as, IsNoCall, some_word, viable_taken, viable_where}
use Rattle.ntx_parse.proofs.stuck.Phrases.{AreViable}
use Rattle.ntx_parse.proofs.stuck.Prefixes.{viable_prefix}
use Rattle.ntx_parse.proofs.stuck.Tables.{viable_body, viable_table}

-- ---- simple expressions

pub nil_phrase : (p : Place) → HasPhrase no_call no_call (IsSimple p)
nil_phrase p = record {
  others = at_place (some_word terminal.Nil) p ∷ [];
  tree = exp.Nil;
  derives = λ behind _. grammar.nil (record { is = refl; place = refl });
  begins = λ behind _. refl;
}

no_value : {X : Type 0} (found : Option X) → IsSome found → found ≡ None → ⊥
no_value found is none = false≢true (sym (ap is_some none) ∙ is)

-- A word that has a value: it represents this, or it does not lie too deep.
viable_value : {X : Type 0} (p : Place) (o : Word) (words : List Word) (f : X → Exp) (value : List ℕ → Option X) (found : Option X) (fits : Bool) → value o.spelled ≡ found → nat_le p.nesting max_nesting ≡ fits → (o.is ≡ terminal.Break → ⊥) → (EachHasValue (o ∷ words) → IsSome (value o.spelled)) → ((x : X) → value o.spelled ≡ Some x → IsWordOf (IsSimple p) o p (f x)) → IsViable no_call no_call (IsSimple p) (o ∷ words) (and_then (cond fits (read o words) (stopped why.Depth (o ∷ words))) (λ n rest. read_value f (value n.spelled) (o ∷ words) rest))
viable_value p o words f value None true e fits other has h = subst (λ x. IsViable no_call no_call (IsSimple p) (o ∷ words) (read_value f x (o ∷ words) words)) (sym e) (viable_stopped (nil_phrase p))
viable_value p o words f value (Some x) true e fits other has h = subst (λ x. IsViable no_call no_call (IsSimple p) (o ∷ words) (read_value f x (o ∷ words) words)) (sym e) (viable_one p o words (nil_phrase p) (record { nesting = leb-true p.nesting max_nesting fits; in_loop = λ breaks. absurd (other breaks) }) (h x e))
viable_value p o words f value None false e fits other has h = viable_wrong p o words (nil_phrase p) refl (too_deep (leb-false p.nesting max_nesting fits)) (λ values. absurd (no_value (value o.spelled) (has values) e))
viable_value p o words f value (Some x) false e fits other has h = viable_wrong p o words (nil_phrase p) refl (too_deep (leb-false p.nesting max_nesting fits)) (λ values. (f x, h x e))

-- ---- operators

no_call_unary : (op : UnaryOp) → IsNoCall (unary_terminal op)
no_call_unary unary.Not = refl
no_call_unary _ = refl

no_call_binary : (op : BinaryOp) → IsNoCall (binary_terminal op)
no_call_binary binary.Or = refl
no_call_binary _ = refl

module _ (r : Readers) (v : AreViable r) where
  viable_prefix_exp : (p : Place) (words : List Word) → IsViable no_call no_call (IsSimple p) words (and_then (read_prefix r p words) (λ found rest. read (exp.Prefix (joined found)) rest))
  viable_prefix_exp p words = viable_then (viable_prefix r v p words) (λ found rest. viable_read (λ _ _ _ h. prefix_exp h))

  viable_simple_at : (p : Place) (t : Terminal) (o : Word) (words : List Word) → o.is ≡ t → IsViable no_call no_call (IsSimple p) (o ∷ words) (simple_at r p t (o ∷ words))
  viable_simple_at p terminal.Nil o words is = viable_then (viable_taken no_call p terminal.Nil (o ∷ words) refl refl (begins-true terminal.Nil o words is)) (λ _ rest. viable_read (λ _ _ _ is. nil_read is))
  viable_simple_at p terminal.False o words is = viable_then (viable_taken no_call p terminal.False (o ∷ words) refl refl (begins-true terminal.False o words is)) (λ _ rest. viable_read (λ _ _ _ is. false_read is))
  viable_simple_at p terminal.True o words is = viable_then (viable_taken no_call p terminal.True (o ∷ words) refl refl (begins-true terminal.True o words is)) (λ _ rest. viable_read (λ _ _ _ is. true_read is))
  viable_simple_at p terminal.Numeral o words is = viable_value p o words exp.Numeral numeral_value (numeral_value o.spelled) (nat_le p.nesting max_nesting) refl refl
      (λ breaks. other_terminal terminal.Numeral terminal.Break refl (sym is ∙ breaks)) (λ values. (values.0).numeral is) (λ x spells behind. grammar.numeral (record { is = is; place = refl }) spells)
  viable_simple_at p terminal.Text o words is = viable_value p o words exp.Text text_value (text_value o.spelled) (nat_le p.nesting max_nesting) refl refl
      (λ breaks. other_terminal terminal.Text terminal.Break refl (sym is ∙ breaks)) (λ values. (values.0).text is) (λ x spells behind. grammar.text (record { is = is; place = refl }) spells)
  viable_simple_at p terminal.Function o words is =
      viable_then (viable_taken any_words p terminal.Function (o ∷ words) refl refl (begins-true terminal.Function o words is)) (λ _ behind.
      viable_then (viable_body r v (within p) behind) (λ body rest. viable_read (λ _ _ _ body _ is. function_read is body)))
  viable_simple_at p terminal.LeftBrace o words is = viable_then (viable_table r v (within p) (o ∷ words)) (λ fields rest. viable_read (λ _ _ _ h. table_exp h))
  viable_simple_at p terminal.Name o words is = viable_prefix_exp p (o ∷ words)
  viable_simple_at p terminal.LeftParenthesis o words is = viable_prefix_exp p (o ∷ words)
  viable_simple_at p _ o words is = viable_stopped (nil_phrase p)

  viable_simple : (p : Place) (words : List Word) → IsViable no_call no_call (IsSimple p) words (read_simple r p words)
  viable_simple p [] = viable_stopped (nil_phrase p)
  viable_simple p (o ∷ words) = viable_simple_at p o.is o words refl

  viable_operand : (p : Place) (found : Option UnaryOp) (words : List Word) → sign_at words ≡ found → IsViable no_call no_call (IsExp p precedence.Unary) words (read_operand r p found words)
  viable_operand p None words e = viable_as (viable_simple p words) (λ _ _ _ h. grammar.simple refl h)
  viable_operand p (Some op) words e =
      viable_then (viable_taken no_call p (unary_terminal op) words (other_unary op) (no_call_unary op) (begins_sign words op e)) (λ _ behind.
      viable_then (v.exp (within p) precedence.Unary behind) (λ e rest. viable_read (λ _ _ _ e _ is. unary_read is e)))

  viable_concat : (p : Place) (words : List Word) → IsViable no_call no_call (IsExp p precedence.Concat) words (and_then (r.exp p (tighter precedence.Concat) words) (λ left rest. concat_behind r p left rest))
  viable_concat p words =
      viable_then (v.exp p (tighter precedence.Concat) words) (λ left behind.
      viable_where no_call p terminal.DoubleDot behind refl refl
      (λ _ inner. viable_then (v.exp (within p) precedence.Concat inner) (λ right rest. viable_read (λ _ _ _ right _ is _ left. concat_read left is right)))
      (λ _. viable_read (λ _ _ _ left. grammar.no_concatenation refl left)))

  viable_operations_by : (p : Place) (at : Precedence) (before : List Operation) (found : Option BinaryOp) (words : List Word) → operator_at at words ≡ found → IsViable no_call no_call (IsOperated p at before) words (operations_by r p at before found words)
  viable_operations_by p at before None words e = viable_read (λ _ _ first start run. run)
  viable_operations_by p at before (Some op) words e =
      let is = begins_operator at words op e in
      viable_then (viable_taken no_call p (binary_terminal op) words (other_binary op) (no_call_binary op) is.0) (λ _ behind.
      viable_then (v.exp (within p) (tighter at) behind) (λ operand rest.
      viable_as (v.operations p at (before ++ record { operator = op; operand = operand } ∷ []) rest) (λ _ _ _ h. λ _ operand _ take_word. operated_on op is.1 take_word operand h)))

  pub viable_operations : (p : Place) (at : Precedence) (before : List Operation) (words : List Word) → IsViable no_call no_call (IsOperated p at before) words (operations_behind r p at before words)
  viable_operations p at before words = viable_operations_by p at before (operator_at at words) words refl

  viable_run : (p : Place) (at : Precedence) (words : List Word) → associates_left at ≡ true → IsViable no_call no_call (IsExp p at) words (read_run r p at words)
  viable_run p at words left =
      viable_then (v.exp p (tighter at) words) (λ first behind.
      viable_then (v.operations p at [] behind) (λ others rest. viable_read (λ _ _ _ operated _ first'. grammar.operations left (operated first _ (first_operand first')))))

  pub viable_exp : (p : Place) (at : Precedence) (words : List Word) → IsViable no_call no_call (IsExp p at) words (exp_at r p at words)
  viable_exp p precedence.Unary words = viable_operand p (sign_at words) words refl
  viable_exp p precedence.Concat words = viable_concat p words
  viable_exp p precedence.Or words = viable_run p precedence.Or words refl
  viable_exp p precedence.And words = viable_run p precedence.And words refl
  viable_exp p precedence.Comparison words = viable_run p precedence.Comparison words refl
  viable_exp p precedence.BitOr words = viable_run p precedence.BitOr words refl
  viable_exp p precedence.BitXor words = viable_run p precedence.BitXor words refl
  viable_exp p precedence.BitAnd words = viable_run p precedence.BitAnd words refl
  viable_exp p precedence.Shift words = viable_run p precedence.Shift words refl
  viable_exp p precedence.Additive words = viable_run p precedence.Additive words refl
  viable_exp p precedence.Multiplicative words = viable_run p precedence.Multiplicative words refl
