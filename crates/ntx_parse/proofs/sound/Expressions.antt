-- Expressions: what is read of them is spelled.
use Rattle.std.proofs.Common.{◌≡◌, ℕ, true, List, [], ◌∷◌, ◌++◌, ℤ, Option, None, Some, refl}
use Rattle.std.proofs.lemmas.Option.{none-some}
use Rattle.ntx_syntax.specs.declared.tree.FunctionBody.{FunctionBody}
use Rattle.ntx_syntax.specs.declared.tree.Exp.{Exp}
use Rattle.ntx_syntax.specs.declared.tree.Exp.TheVariants as exp
use Rattle.ntx_syntax.specs.declared.tree.Operation.{Operation}
use Rattle.ntx_syntax.specs.declared.tree.Field.{Field}
use Rattle.ntx_syntax.specs.declared.tree.BinaryOp.{BinaryOp}
use Rattle.ntx_syntax.specs.declared.tree.BinaryOp.TheVariants as binary
use Rattle.ntx_syntax.specs.declared.tree.UnaryOp.{UnaryOp}
use Rattle.ntx_syntax.specs.declared.tree.UnaryOp.TheVariants as unary
use Rattle.ntx_syntax.specs.Values.{numeral_value, text_value}
use Rattle.ntx_parse.specs.declared.part.Part.{Part}
use Rattle.ntx_parse.specs.declared.place.Place.{Place}
use Rattle.ntx_parse.specs.declared.precedence.Precedence.{Precedence}
use Rattle.ntx_parse.specs.declared.precedence.Precedence.TheVariants as precedence
use Rattle.ntx_syntax.specs.declared.terminal.Terminal.{Terminal}
use Rattle.ntx_syntax.specs.declared.terminal.Terminal.TheVariants as terminal
use Rattle.ntx_parse.specs.Words.{Word}
use Rattle.ntx_parse.specs.Grammar as grammar
use Rattle.ntx_parse.specs.Grammar.{Placed, Is, within, tighter, binary_precedence, binary_terminal, unary_terminal, associates_left, run_of, IsBody, IsExp, IsRun, first_operand, more_operands, IsSimple}
use Rattle.ntx_parse.specs.inner.Reading.{Readers, read, and_then, begins, joined, read_prefix, sign_at, operator_at, binary_of, read_value, simple_at, read_simple, read_operand, concat_behind, operations_by, operations_behind, read_run, exp_at}
use Rattle.ntx_parse.proofs.TerminalLemmas.{begins-true, unary_of-some, binary_of-some, of_precedence-some}
use Rattle.ntx_parse.proofs.sound.Answers.{Completes, IsSound, IsTaken, word_taken, IsOther, sound_read, sound_stopped, sound_as, sound_then, sound_taken, sound_where}
use Rattle.ntx_parse.proofs.sound.Phrases.{IsWhole, IsOperated, AreSound}
use Rattle.ntx_parse.proofs.sound.Prefixes.{sound_prefix, joined_prefix}
use Rattle.ntx_parse.proofs.sound.Tables.{IsBraced, in_braces, sound_body, sound_table}

-- ---- simple expressions

pub nil_read : {p : Place} {o : Word} {words rest : List Placed} → IsTaken p terminal.Nil o words rest → IsSimple p exp.Nil words rest
nil_read (word_taken is) = grammar.nil is

pub false_read : {p : Place} {o : Word} {words rest : List Placed} → IsTaken p terminal.False o words rest → IsSimple p exp.False words rest
false_read (word_taken is) = grammar.false_ is

pub true_read : {p : Place} {o : Word} {words rest : List Placed} → IsTaken p terminal.True o words rest → IsSimple p exp.True words rest
true_read (word_taken is) = grammar.true_ is

pub numeral_read : {p : Place} {o : Word} {words rest : List Placed} (value : ℤ) → numeral_value o.spelled ≡ Some value → IsTaken p terminal.Numeral o words rest → IsSimple p (exp.Numeral value) words rest
numeral_read value spells (word_taken is) = grammar.numeral is spells

pub text_read : {p : Place} {o : Word} {words rest : List Placed} (value : List ℕ) → text_value o.spelled ≡ Some value → IsTaken p terminal.Text o words rest → IsSimple p (exp.Text value) words rest
text_read value spells (word_taken is) = grammar.text is spells

pub function_read : {p : Place} {o : Word} {body : FunctionBody} {words inner rest : List Placed} → IsTaken p terminal.Function o words inner → IsBody (within p) body inner rest → IsSimple p (exp.Function body) words rest
function_read (word_taken is) inside = grammar.function_exp is inside

pub table_exp : {p : Place} {fields : List Field} {words rest : List Placed} → IsBraced (within p) fields words rest → IsSimple p (exp.Table fields) words rest
table_exp (in_braces open_ fields closed) = grammar.table open_ fields closed

pub prefix_exp : {p : Place} {found : Part} {words rest : List Placed} → IsWhole p found words rest → IsSimple p (exp.Prefix (joined found)) words rest
prefix_exp h = grammar.prefix_exp (joined_prefix h.derives) h.ends

sound_numeral : (p : Place) (o : Word) (found : Option ℤ) (words rest : List Word) → numeral_value o.spelled ≡ found → IsSound (Completes (IsTaken p terminal.Numeral) o (IsSimple p)) rest (read_value exp.Numeral found words rest)
sound_numeral p o None words rest spells = sound_stopped
sound_numeral p o (Some value) words rest spells = sound_read (λ _ _ _ is. numeral_read value spells is)

sound_text : (p : Place) (o : Word) (found : Option (List ℕ)) (words rest : List Word) → text_value o.spelled ≡ found → IsSound (Completes (IsTaken p terminal.Text) o (IsSimple p)) rest (read_value exp.Text found words rest)
sound_text p o None words rest spells = sound_stopped
sound_text p o (Some value) words rest spells = sound_read (λ _ _ _ is. text_read value spells is)

-- ---- operators

pub other_unary : (op : UnaryOp) → IsOther (unary_terminal op)
other_unary unary.Not = refl
other_unary _ = refl

pub other_binary : (op : BinaryOp) → IsOther (binary_terminal op)
other_binary binary.Or = refl
other_binary _ = refl

pub begins_sign : (words : List Word) (op : UnaryOp) → sign_at words ≡ Some op → begins (unary_terminal op) words ≡ true
begins_sign [] op e = absurd (none-some op e)
begins_sign (o ∷ words) op e = begins-true (unary_terminal op) o words (unary_of-some o.is op e)

pub begins_operator : (at : Precedence) (words : List Word) (op : BinaryOp) → operator_at at words ≡ Some op → (begins (binary_terminal op) words ≡ true) × (binary_precedence op ≡ at)
begins_operator at [] op e = absurd (none-some op e)
begins_operator at (o ∷ words) op e =
    let found = of_precedence-some at (binary_of o.is) op e in
    (begins-true (binary_terminal op) o words (binary_of-some o.is op found.0), found.1)

pub unary_read : {p : Place} {o : Word} {op : UnaryOp} {e : Exp} {words inner rest : List Placed} → IsTaken p (unary_terminal op) o words inner → IsExp (within p) precedence.Unary e inner rest → IsExp p precedence.Unary (exp.Unary op e) words rest
unary_read (word_taken is) e = grammar.operator refl is e

pub concat_read : {p : Place} {o : Word} {left right : Exp} {words middle inner rest : List Placed} → IsExp p (tighter precedence.Concat) left words middle → IsTaken p terminal.DoubleDot o middle inner → IsExp (within p) precedence.Concat right inner rest → IsExp p precedence.Concat (exp.Binary left (record { operator = binary.Concat; operand = right } ∷ [])) words rest
concat_read left (word_taken is) right = grammar.concatenation refl left is right

pub operated_on : {p : Place} {at : Precedence} {o : Word} (op : BinaryOp) {operand : Exp} {before all : List Operation} {words inner behind rest : List Placed} → binary_precedence op ≡ at → IsTaken p (binary_terminal op) o words inner → IsExp (within p) (tighter at) operand inner behind → IsOperated p at (before ++ record { operator = op; operand = operand } ∷ []) all behind rest → IsOperated p at before all words rest
operated_on op binds (word_taken is) operand h first start run = h first start (more_operands op run binds is operand)

module _ (r : Readers) (s : AreSound r) where
  sound_prefix_exp : (p : Place) (words : List Word) → IsSound (IsSimple p) words (and_then (read_prefix r p words) (λ found rest. read (exp.Prefix (joined found)) rest))
  sound_prefix_exp p words = sound_then (sound_prefix r s p words) (λ found rest. sound_read (λ _ _ _ h. prefix_exp h))

  sound_simple_at : (p : Place) (t : Terminal) (o : Word) (words : List Word) → o.is ≡ t → IsSound (IsSimple p) (o ∷ words) (simple_at r p t (o ∷ words))
  sound_simple_at p terminal.Nil o words is = sound_then (sound_taken p terminal.Nil (o ∷ words) refl (begins-true terminal.Nil o words is)) (λ _ rest. sound_read (λ _ _ _ is. nil_read is))
  sound_simple_at p terminal.False o words is = sound_then (sound_taken p terminal.False (o ∷ words) refl (begins-true terminal.False o words is)) (λ _ rest. sound_read (λ _ _ _ is. false_read is))
  sound_simple_at p terminal.True o words is = sound_then (sound_taken p terminal.True (o ∷ words) refl (begins-true terminal.True o words is)) (λ _ rest. sound_read (λ _ _ _ is. true_read is))
  sound_simple_at p terminal.Numeral o words is = sound_then (sound_taken p terminal.Numeral (o ∷ words) refl (begins-true terminal.Numeral o words is)) (λ n rest. sound_numeral p n (numeral_value n.spelled) (o ∷ words) rest refl)
  sound_simple_at p terminal.Text o words is = sound_then (sound_taken p terminal.Text (o ∷ words) refl (begins-true terminal.Text o words is)) (λ n rest. sound_text p n (text_value n.spelled) (o ∷ words) rest refl)
  sound_simple_at p terminal.Function o words is =
      sound_then (sound_taken p terminal.Function (o ∷ words) refl (begins-true terminal.Function o words is)) (λ _ behind.
      sound_then (sound_body r s (within p) behind) (λ body rest. sound_read (λ _ _ _ body _ is. function_read is body)))
  sound_simple_at p terminal.LeftBrace o words is = sound_then (sound_table r s (within p) (o ∷ words)) (λ fields rest. sound_read (λ _ _ _ h. table_exp h))
  sound_simple_at p terminal.Name o words is = sound_prefix_exp p (o ∷ words)
  sound_simple_at p terminal.LeftParenthesis o words is = sound_prefix_exp p (o ∷ words)
  sound_simple_at p _ o words is = sound_stopped

  sound_simple : (p : Place) (words : List Word) → IsSound (IsSimple p) words (read_simple r p words)
  sound_simple p [] = sound_stopped
  sound_simple p (o ∷ words) = sound_simple_at p o.is o words refl

  sound_operand : (p : Place) (found : Option UnaryOp) (words : List Word) → sign_at words ≡ found → IsSound (IsExp p precedence.Unary) words (read_operand r p found words)
  sound_operand p None words e = sound_as (sound_simple p words) (λ _ _ _ h. grammar.simple refl h)
  sound_operand p (Some op) words e =
      sound_then (sound_taken p (unary_terminal op) words (other_unary op) (begins_sign words op e)) (λ _ behind.
      sound_then (s.exp (within p) precedence.Unary behind) (λ e rest. sound_read (λ _ _ _ e _ is. unary_read is e)))

  sound_concat : (p : Place) (words : List Word) → IsSound (IsExp p precedence.Concat) words (and_then (r.exp p (tighter precedence.Concat) words) (λ left rest. concat_behind r p left rest))
  sound_concat p words =
      sound_then (s.exp p (tighter precedence.Concat) words) (λ left behind.
      sound_where p terminal.DoubleDot behind refl
      (λ _ inner. sound_then (s.exp (within p) precedence.Concat inner) (λ right rest. sound_read (λ _ _ _ right _ is _ left. concat_read left is right)))
      (λ _. sound_read (λ _ _ _ left. grammar.no_concatenation refl left)))

  sound_operations_by : (p : Place) (at : Precedence) (before : List Operation) (found : Option BinaryOp) (words : List Word) → operator_at at words ≡ found → IsSound (IsOperated p at before) words (operations_by r p at before found words)
  sound_operations_by p at before None words e = sound_read (λ _ _ first start run. run)
  sound_operations_by p at before (Some op) words e =
      let is = begins_operator at words op e in
      sound_then (sound_taken p (binary_terminal op) words (other_binary op) is.0) (λ _ behind.
      sound_then (s.exp (within p) (tighter at) behind) (λ operand rest.
      sound_as (s.operations p at (before ++ record { operator = op; operand = operand } ∷ []) rest) (λ _ _ _ h. λ _ operand _ take_word. operated_on op is.1 take_word operand h)))

  pub sound_operations : (p : Place) (at : Precedence) (before : List Operation) (words : List Word) → IsSound (IsOperated p at before) words (operations_behind r p at before words)
  sound_operations p at before words = sound_operations_by p at before (operator_at at words) words refl

  sound_run : (p : Place) (at : Precedence) (words : List Word) → associates_left at ≡ true → IsSound (IsExp p at) words (read_run r p at words)
  sound_run p at words left =
      sound_then (s.exp p (tighter at) words) (λ first behind.
      sound_then (s.operations p at [] behind) (λ others rest. sound_read (λ _ _ _ operated _ first'. grammar.operations left (operated first _ (first_operand first')))))

  pub sound_exp : (p : Place) (at : Precedence) (words : List Word) → IsSound (IsExp p at) words (exp_at r p at words)
  sound_exp p precedence.Unary words = sound_operand p (sign_at words) words refl
  sound_exp p precedence.Concat words = sound_concat p words
  sound_exp p precedence.Or words = sound_run p precedence.Or words refl
  sound_exp p precedence.And words = sound_run p precedence.And words refl
  sound_exp p precedence.Comparison words = sound_run p precedence.Comparison words refl
  sound_exp p precedence.BitOr words = sound_run p precedence.BitOr words refl
  sound_exp p precedence.BitXor words = sound_run p precedence.BitXor words refl
  sound_exp p precedence.BitAnd words = sound_run p precedence.BitAnd words refl
  sound_exp p precedence.Shift words = sound_run p precedence.Shift words refl
  sound_exp p precedence.Additive words = sound_run p precedence.Additive words refl
  sound_exp p precedence.Multiplicative words = sound_run p precedence.Multiplicative words refl
