-- Expressions are read.
use Rattle.std.specs.Prelude.{◌≡◌, ℕ, true, false, List, [], ◌∷◌, ◌++◌, ℤ, Option, None, Some}
use Rattle.std.proofs.Common.{refl, sym, ap, ◌∙◌, subst, true≢false}
use Rattle.ntx_syntax.specs.declared.tree.FunctionBody.{FunctionBody}
use Rattle.ntx_syntax.specs.declared.tree.Prefix.{Prefix}
use Rattle.ntx_syntax.specs.declared.tree.Exp.{Exp}
use Rattle.ntx_syntax.specs.declared.tree.Exp.TheVariants as exp
use Rattle.ntx_syntax.specs.declared.tree.Operation.{Operation}
use Rattle.ntx_syntax.specs.declared.tree.Field.{Field}
use Rattle.ntx_syntax.specs.declared.tree.BinaryOp.{BinaryOp}
use Rattle.ntx_syntax.specs.declared.tree.BinaryOp.TheVariants as binary
use Rattle.ntx_syntax.specs.declared.tree.UnaryOp.{UnaryOp}
use Rattle.ntx_syntax.specs.declared.tree.UnaryOp.TheVariants as unary
use Rattle.ntx_syntax.specs.Values.{numeral_value, text_value}
use Rattle.ntx_parse.specs.declared.place.Place.{Place}
use Rattle.ntx_parse.specs.declared.precedence.Precedence.{Precedence}
use Rattle.ntx_parse.specs.declared.precedence.Precedence.TheVariants as precedence
use Rattle.ntx_syntax.specs.declared.terminal.Terminal.{Terminal}
use Rattle.ntx_syntax.specs.declared.terminal.Terminal.TheVariants as terminal
use Rattle.ntx_parse.specs.Words.{Word}
use Rattle.ntx_parse.specs.Grammar.{Placed, Is, within, tighter, binary_precedence, binary_terminal, unary_terminal, associates_left, run_of}
use Rattle.ntx_parse.specs.inner.Reading.{Answer, read, and_then, readers, read_prefix, read_body, read_value, simple_at, read_simple, read_operand, read_run, exp_at, operations_by, unary_of, joined}
use Rattle.ntx_parse.proofs.complete.Begins.{plain, AreAllowedBefore, is_this, Follows, Starts, begins_here, not_begins, comes_taken, comes_expected}
use Rattle.ntx_parse.proofs.complete.Comes.{Boundary, IsAllowedBefore, Comes, comes_then, comes_now, comes_if, comes_else, comes_read, over_exp, over_operations}
use Rattle.ntx_parse.proofs.complete.Follows.{begins_prefix, begins_simple, ends_exp}
use Rattle.ntx_parse.proofs.complete.Operators.{sign_of, simple_has_no_sign, operator_at_here, no_operator_at}
use Rattle.ntx_parse.proofs.complete.Forms.{Done, ListDone, ExpDone, PrefixDone, RunDone}
use Rattle.ntx_parse.proofs.complete.Prefixes.{NoSuffix, suffixes_end}

abbrev pub SimpleDone : Boundary → Place → Exp → List Placed → List Placed → Type 0
SimpleDone boundary p e words rest = Done boundary (plain words) (λ n. read_simple (readers n) p (plain words)) e rest

-- ---- simple expressions

simple_is : {boundary : Boundary} {p : Place} {t : Terminal} {o : Placed} {x : Answer Exp} (words : List Word) → Is p t o
    → Comes boundary (o.word ∷ words) (λ n. simple_at (readers n) p t (o.word ∷ words)) x
    → Comes boundary (o.word ∷ words) (λ n. simple_at (readers n) p o.word.is (o.word ∷ words)) x
simple_is {boundary} {p} {t} {o} {x} words i c = subst (λ t. Comes boundary (o.word ∷ words) (λ n. simple_at (readers n) p t (o.word ∷ words)) x) (sym i.is) c

pub nil_done : {boundary : Boundary} {p : Place} {o : Placed} {rest : List Placed} → Is p terminal.Nil o → AreAllowedBefore boundary (o ∷ rest)
    → SimpleDone boundary p exp.Nil (o ∷ rest) rest
nil_done {rest = rest} o allowed = record { comes = simple_is (plain rest) o (comes_taken _ o refl allowed.0 (comes_read _)); allowed = allowed.1 }

pub false_done : {boundary : Boundary} {p : Place} {o : Placed} {rest : List Placed} → Is p terminal.False o → AreAllowedBefore boundary (o ∷ rest)
    → SimpleDone boundary p exp.False (o ∷ rest) rest
false_done {rest = rest} o allowed = record { comes = simple_is (plain rest) o (comes_taken _ o refl allowed.0 (comes_read _)); allowed = allowed.1 }

pub true_done : {boundary : Boundary} {p : Place} {o : Placed} {rest : List Placed} → Is p terminal.True o → AreAllowedBefore boundary (o ∷ rest)
    → SimpleDone boundary p exp.True (o ∷ rest) rest
true_done {rest = rest} o allowed = record { comes = simple_is (plain rest) o (comes_taken _ o refl allowed.0 (comes_read _)); allowed = allowed.1 }

pub numeral_done : {boundary : Boundary} {p : Place} {o : Placed} {value : ℤ} {rest : List Placed} → Is p terminal.Numeral o
    → numeral_value o.word.spelled ≡ Some value
    → AreAllowedBefore boundary (o ∷ rest) → SimpleDone boundary p (exp.Numeral value) (o ∷ rest) rest
numeral_done {o = o} {rest = rest} i e allowed = record {
  comes = simple_is (plain rest) i (comes_taken _ i refl allowed.0 (comes_now (ap (λ v. read_value exp.Numeral v (plain (o ∷ rest)) (plain rest)) e)));
  allowed = allowed.1;
}

pub text_done : {boundary : Boundary} {p : Place} {o : Placed} {value : List ℕ} {rest : List Placed} → Is p terminal.Text o → text_value o.word.spelled ≡ Some value
    → AreAllowedBefore boundary (o ∷ rest) → SimpleDone boundary p (exp.Text value) (o ∷ rest) rest
text_done {o = o} {rest = rest} i e allowed = record {
  comes = simple_is (plain rest) i (comes_taken _ i refl allowed.0 (comes_now (ap (λ v. read_value exp.Text v (plain (o ∷ rest)) (plain rest)) e)));
  allowed = allowed.1;
}

pub function_done : {boundary : Boundary} {p : Place} {f : Placed} {b : FunctionBody} {rest : List Placed} (words : List Placed) → Is p terminal.Function f
    → IsAllowedBefore boundary f (plain words)
    → Done boundary (plain words) (λ n. read_body (readers n) (within p) (plain words)) b rest → SimpleDone boundary p (exp.Function b) (f ∷ words) rest
function_done words f allowed d = record { comes = simple_is (plain words) f (comes_taken _ f refl allowed (comes_then _ d.comes (comes_read _))); allowed = d.allowed }

prefix_at : {boundary : Boundary} {x : Answer Exp} (p : Place) (words : List Word) (t : Terminal) → begins_prefix t ≡ true
    → Comes boundary words (λ n. and_then (read_prefix (readers n) p words) (λ found rest. read (exp.Prefix (joined found)) rest)) x → Comes boundary words (λ n. simple_at (readers n) p t words) x
prefix_at p words terminal.Name h c = c
prefix_at p words terminal.LeftParenthesis h c = c
prefix_at p words _ h c = absurd (true≢false (sym h))

prefix_first : {boundary : Boundary} {x : Answer Exp} (p : Place) (words : List Placed) → Starts begins_prefix words
    → Comes boundary (plain words) (λ n. and_then (read_prefix (readers n) p (plain words)) (λ found rest. read (exp.Prefix (joined found)) rest)) x
    → Comes boundary (plain words) (λ n. read_simple (readers n) p (plain words)) x
prefix_first p [] h c = elim h [ ]
prefix_first p (o ∷ words) h c = prefix_at p (plain (o ∷ words)) o.word.is h c

pub prefix_exp_done : {boundary : Boundary} {p : Place} {prefix : Prefix} {rest : List Placed} (words : List Placed) → Starts begins_prefix words
    → PrefixDone boundary p prefix (plain words) rest
    → NoSuffix (plain rest) → SimpleDone boundary p (exp.Prefix prefix) words rest
prefix_exp_done {p = p} {rest = rest} words start d ends = record {
  comes = prefix_first p words start (comes_then _ (d.goes_on (suffixes_end d.part ends)) (comes_now (ap (λ q. read (exp.Prefix q) (plain rest)) d.joins)));
  allowed = d.allowed;
}

pub table_done : {boundary : Boundary} {o c : Placed} {fields : List Field} {rest : List Placed} (p : Place) (words : List Placed) → Is (within p) terminal.LeftBrace o
    → IsAllowedBefore boundary o (plain words)
    → ListDone boundary (plain words) (λ n before. (readers n).fields (within p) before (plain words)) fields (c ∷ rest) → Is (within p) terminal.RightBrace c
    → SimpleDone boundary p (exp.Table fields) (o ∷ words) rest
table_done {boundary} {o} {c} {fields} {rest} p words o_is allowed d c_is = record {
  comes = subst (λ t. Comes boundary (plain (o ∷ words)) (λ n. simple_at (readers n) p t (plain (o ∷ words))) (read (exp.Table fields) (plain rest))) (sym o_is.is)
      (comes_then _ (comes_expected _ o_is refl allowed (comes_then _ (d.comes []) (comes_expected _ c_is refl d.allowed.0 (comes_read _)))) (comes_read _));
  allowed = d.allowed.1;
}

-- ---- operators before an operand

operand_by : {boundary : Boundary} {x : Answer Exp} {s : Option UnaryOp} (p : Place) (words : List Word) (o : Option UnaryOp) → s ≡ o
    → Comes boundary words (λ n. read_operand (readers n) p o words) x
    → Comes boundary words (λ n. read_operand (readers n) p s words) x
operand_by {boundary} {x} p words o e c = subst (λ s. Comes boundary words (λ n. read_operand (readers n) p s words) x) (sym e) c

unary_not_break : (op : UnaryOp) → is_this terminal.Break (unary_terminal op) ≡ false
unary_not_break unary.Not = refl
unary_not_break _ = refl

unary_done : {boundary : Boundary} {p : Place} {o : Placed} {op : UnaryOp} {e : Exp} {words : List Word} {rest : List Placed} → Is p (unary_terminal op) o → IsAllowedBefore boundary o words
    → ExpDone boundary (within p) precedence.Unary e words rest → ExpDone boundary p precedence.Unary (exp.Unary op e) (o.word ∷ words) rest
unary_done {p} {o} {op} {e} {words} i allowed d = record {
  comes = over_exp (operand_by p (o.word ∷ words) (Some op) (ap unary_of i.is ∙ sign_of op) (comes_taken _ i (unary_not_break op) allowed (comes_then _ d.comes (comes_read _))));
  allowed = d.allowed;
}

pub operator_done : {boundary : Boundary} {p : Place} {at : Precedence} {o : Placed} {op : UnaryOp} {e : Exp} {words : List Word} {rest : List Placed}
    → at ≡ precedence.Unary
    → Is p (unary_terminal op) o → IsAllowedBefore boundary o words → ExpDone boundary (within p) at e words rest → ExpDone boundary p at (exp.Unary op e) (o.word ∷ words) rest
operator_done {boundary} {p} {at} {o} {op} {e} {words} {rest} is i allowed =
    subst (λ k. ExpDone boundary (within p) k e words rest → ExpDone boundary p k (exp.Unary op e) (o.word ∷ words) rest) (sym is) (λ d. unary_done i allowed d)

pub simple_done : {boundary : Boundary} {p : Place} {at : Precedence} {e : Exp} {rest : List Placed} (words : List Placed) → at ≡ precedence.Unary
    → Starts begins_simple words
    → SimpleDone boundary p e words rest → ExpDone boundary p at e (plain words) rest
simple_done {boundary} {p} {at} {e} {rest} words is start d =
    let there : ExpDone boundary p precedence.Unary e (plain words) rest = record { comes = over_exp (operand_by p (plain words) None (simple_has_no_sign words start) d.comes); allowed = d.allowed } in
    subst (λ k. ExpDone boundary p k e (plain words) rest) (sym is) there

-- ---- operators between operands

concat_done : {boundary : Boundary} {p : Place} {o : Placed} {left right : Exp} {words : List Word} {rest : List Placed} (middle : List Placed)
    → ExpDone boundary p (tighter precedence.Concat) left words (o ∷ middle) → Is p terminal.DoubleDot o
    → (AreAllowedBefore boundary middle → ExpDone boundary (within p) precedence.Concat right (plain middle) rest)
    → ExpDone boundary p precedence.Concat (exp.Binary left (record { operator = binary.Concat; operand = right } ∷ [])) words rest
concat_done middle d o second =
    let other = second d.allowed.1 in
    record {
      comes = over_exp (comes_then _ d.comes (comes_if _ (begins_here o) (comes_taken _ o refl d.allowed.0 (comes_then _ other.comes (comes_read _)))));
      allowed = other.allowed;
    }

pub concatenation_done : {boundary : Boundary} {p : Place} {at : Precedence} {o : Placed} {left right : Exp} {words : List Word} {rest : List Placed} (middle : List Placed)
    → at ≡ precedence.Concat
    → ExpDone boundary p (tighter at) left words (o ∷ middle) → Is p terminal.DoubleDot o → (AreAllowedBefore boundary middle → ExpDone boundary (within p) at right (plain middle) rest)
    → ExpDone boundary p at (exp.Binary left (record { operator = binary.Concat; operand = right } ∷ [])) words rest
concatenation_done {boundary} {p} {at} {o} {left} {right} {words} {rest} middle is =
    subst (λ k. ExpDone boundary p (tighter k) left words (o ∷ middle) → Is p terminal.DoubleDot o → (AreAllowedBefore boundary middle → ExpDone boundary (within p) k right (plain middle) rest)
    → ExpDone boundary p k (exp.Binary left (record { operator = binary.Concat; operand = right } ∷ [])) words rest) (sym is) (λ d i second. concat_done middle d i second)

no_concat_done : {boundary : Boundary} {p : Place} {e : Exp} {words : List Word} {rest : List Placed} → ExpDone boundary p (tighter precedence.Concat) e words rest
    → Follows (ends_exp precedence.Concat) rest
    → ExpDone boundary p precedence.Concat e words rest
no_concat_done {rest = rest} d h = record {
  comes = over_exp (comes_then _ d.comes (comes_else _ (not_begins (ends_exp precedence.Concat) terminal.DoubleDot rest refl h) (comes_read _)));
  allowed = d.allowed;
}

pub no_concatenation_done : {boundary : Boundary} {p : Place} {at : Precedence} {e : Exp} {words : List Word} {rest : List Placed} → at ≡ precedence.Concat
    → ExpDone boundary p (tighter at) e words rest
    → Follows (ends_exp at) rest → ExpDone boundary p at e words rest
no_concatenation_done {boundary} {p} {at} {e} {words} {rest} is =
    subst (λ k. ExpDone boundary p (tighter k) e words rest → Follows (ends_exp k) rest → ExpDone boundary p k e words rest) (sym is) (λ d h. no_concat_done d h)

pub first_operand_done : {boundary : Boundary} {p : Place} {at : Precedence} {first : Exp} {words : List Word} {rest : List Placed}
    → ExpDone boundary p (tighter at) first words rest
    → RunDone boundary p at first [] words rest
first_operand_done {rest = rest} d = record { behind = plain rest; comes = d.comes; goes_on = λ h. h; allowed = d.allowed }

operations_are : {boundary : Boundary} {x : Answer (List Operation)} {s : Option BinaryOp} (p : Place) (at : Precedence) (before : List Operation) (words : List Word) (o : Option BinaryOp)
    → s ≡ o
    → Comes boundary words (λ n. operations_by (readers n) p at before o words) x → Comes boundary words (λ n. operations_by (readers n) p at before s words) x
operations_are {boundary} {x} p at before words o e c = subst (λ s. Comes boundary words (λ n. operations_by (readers n) p at before s words) x) (sym e) c

binary_not_break : (op : BinaryOp) → is_this terminal.Break (binary_terminal op) ≡ false
binary_not_break binary.Or = refl
binary_not_break _ = refl

pub more_operands_done : {boundary : Boundary} {p : Place} {at : Precedence} {o : Placed} {first operand : Exp} {others : List Operation} {words : List Word} {rest : List Placed} (op : BinaryOp) (middle : List Placed)
    → RunDone boundary p at first others words (o ∷ middle) → binary_precedence op ≡ at → Is p (binary_terminal op) o
    → (AreAllowedBefore boundary middle → ExpDone boundary (within p) (tighter at) operand (plain middle) rest)
    → RunDone boundary p at first (others ++ record { operator = op; operand = operand } ∷ []) words rest
more_operands_done {p} {at} {o} {others = others} op middle d e i second =
    let other = second d.allowed.1 in
    record {
      behind = d.behind;
      comes = d.comes;
      goes_on = λ h. d.goes_on (over_operations (operations_are p at others (plain (o ∷ middle)) (Some op) (operator_at_here at op (plain middle) i e) (comes_taken _ i (binary_not_break op) d.allowed.0 (comes_then _ other.comes h))));
      allowed = other.allowed;
    }

by_run : {boundary : Boundary} {p : Place} {words : List Word} {x : Answer Exp} (at : Precedence) → associates_left at ≡ true
    → Comes boundary words (λ n. read_run (readers n) p at words) x
    → Comes boundary words (λ n. exp_at (readers n) p at words) x
by_run precedence.Unary h c = absurd (true≢false (sym h))
by_run precedence.Concat h c = absurd (true≢false (sym h))
by_run _ h c = c

pub operations_done : {boundary : Boundary} {p : Place} {at : Precedence} {first : Exp} {others : List Operation} {words : List Word} {rest : List Placed}
    → associates_left at ≡ true
    → RunDone boundary p at first others words rest → Follows (ends_exp at) rest → ExpDone boundary p at (run_of first others) words rest
operations_done {p} {at} {others = others} {rest = rest} left d h = record {
  comes = over_exp (by_run at left (comes_then _ d.comes (comes_then _ (d.goes_on (over_operations (operations_are p at others (plain rest) None (no_operator_at at rest h) (comes_read _)))) (comes_read _))));
  allowed = d.allowed;
}
