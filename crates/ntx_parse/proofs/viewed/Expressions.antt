-- Two readings side by side: tables and expressions.
use Rattle.std.proofs.Common.{◌≡◌, List, [], ◌∷◌, ◌++◌, Option, None, Some, refl, subst}
use Rattle.ntx_syntax.specs.declared.tree.Exp.{Exp}
use Rattle.ntx_syntax.specs.declared.tree.Exp.TheVariants as exp
use Rattle.ntx_syntax.specs.declared.tree.Operation.{Operation}
use Rattle.ntx_syntax.specs.declared.tree.BinaryOp.{BinaryOp}
use Rattle.ntx_syntax.specs.declared.tree.UnaryOp.{UnaryOp}
use Rattle.ntx_syntax.specs.Values.{numeral_value, text_value}
use Rattle.ntx_parse.specs.declared.place.Place.{Place}
use Rattle.ntx_parse.specs.declared.precedence.Precedence.{Precedence}
use Rattle.ntx_parse.specs.declared.precedence.Precedence.TheVariants as precedence
use Rattle.ntx_syntax.specs.declared.terminal.Terminal.{Terminal}
use Rattle.ntx_syntax.specs.declared.terminal.Terminal.TheVariants as terminal
use Rattle.ntx_parse.specs.Words.{Word}
use Rattle.ntx_parse.specs.Grammar.{within, tighter}
use Rattle.ntx_parse.specs.inner.Reading.{Readers, read_value, simple_at, read_simple, read_operand, sign_at, concat_behind, operator_at, operations_by, operations_behind, read_run, exp_at}
use Rattle.ntx_parse.proofs.viewed.Views.{View, Situation, At, Goes, goes_read, goes_stopped, goes_then, goes_where, goes_taken, Behind, goes_read_behind, Firsts, no_first, first, firsts, goes_taking}
use Rattle.ntx_parse.proofs.viewed.Lists.{Go}
use Rattle.ntx_parse.proofs.viewed.Prefixes.{goes_prefix, goes_body}
use Rattle.ntx_parse.proofs.viewed.Tables.{goes_table}

goes_value : {A : Type 0} {V : View} (f : A → Exp) (value : Option A) {s : Situation} {words others rest left : List Word} → At V s words others
    → Behind V s rest left → Goes V s (read_value f value words rest) (read_value f value others left)
goes_value f None h behind = goes_stopped h
goes_value f (Some value) h behind = goes_read_behind behind

sign_first : {V : View} {s : Situation} {words others : List Word} → Firsts V s words others → sign_at words ≡ sign_at others
sign_first no_first = refl
sign_first (first behind) = refl

operator_first : {V : View} {s : Situation} {words others : List Word} (at : Precedence) → Firsts V s words others
    → operator_at at words ≡ operator_at at others
operator_first at no_first = refl
operator_first at (first behind) = refl

module _ {V : View} {r other : Readers} (g : Go V r other) where
  goes_simple_at : (p : Place) (t : Terminal) {s : Situation} {words others : List Word} → At V s words others
      → Goes V s (simple_at r p t words) (simple_at other p t others)
  goes_simple_at p terminal.Nil h = goes_then (goes_taken p h) (λ _ _ _ _ h. goes_read h)
  goes_simple_at p terminal.False h = goes_then (goes_taken p h) (λ _ _ _ _ h. goes_read h)
  goes_simple_at p terminal.True h = goes_then (goes_taken p h) (λ _ _ _ _ h. goes_read h)
  goes_simple_at p terminal.Numeral h = goes_taking p h (λ o _ _ behind. goes_value exp.Numeral (numeral_value o.spelled) h behind)
  goes_simple_at p terminal.Text h = goes_taking p h (λ o _ _ behind. goes_value exp.Text (text_value o.spelled) h behind)
  goes_simple_at p terminal.Function h = goes_then (goes_taken p h) (λ _ _ _ _ h. goes_then (goes_body g (within p) h) (λ body _ _ _ h. goes_read h))
  goes_simple_at p terminal.LeftBrace h = goes_then (goes_table g (within p) h) (λ fields _ _ _ h. goes_read h)
  goes_simple_at p terminal.Name h = goes_then (goes_prefix g p h) (λ found _ _ _ h. goes_read h)
  goes_simple_at p terminal.LeftParenthesis h = goes_then (goes_prefix g p h) (λ found _ _ _ h. goes_read h)
  goes_simple_at p _ h = goes_stopped h

  simple_first : (p : Place) {s : Situation} {words others : List Word} → At V s words others → Firsts V s words others
      → Goes V s (read_simple r p words) (read_simple other p others)
  simple_first p h no_first = goes_stopped h
  simple_first p h (first {o} behind) = goes_simple_at p o.is h

  goes_operand : (p : Place) (found : Option UnaryOp) {s : Situation} {words others : List Word} → At V s words others
      → Goes V s (read_operand r p found words) (read_operand other p found others)
  goes_operand p None h = simple_first p h (firsts h)
  goes_operand p (Some op) h = goes_then (goes_taken p h) (λ _ _ _ _ h. goes_then (g.exp (within p) precedence.Unary h) (λ e _ _ _ h. goes_read h))

  goes_unary : (p : Place) {s : Situation} {words others : List Word} → At V s words others
      → Goes V s (read_operand r p (sign_at words) words) (read_operand other p (sign_at others) others)
  goes_unary p {s} {words} {others} h =
      subst (λ found. Goes V s (read_operand r p (sign_at words) words) (read_operand other p found others)) (sign_first (firsts h))
      (goes_operand p (sign_at words) h)

  pub goes_concat : (p : Place) (left : Exp) {s : Situation} {words others : List Word} → At V s words others
      → Goes V s (concat_behind r p left words) (concat_behind other p left others)
  goes_concat p left h =
      goes_where terminal.DoubleDot h
      (goes_then (goes_taken p h) (λ _ _ _ _ h. goes_then (g.exp (within p) precedence.Concat h) (λ right _ _ _ h. goes_read h)))
      (goes_read h)

  goes_operations_by : (p : Place) (at : Precedence) (before : List Operation) (found : Option BinaryOp) {s : Situation} {words others : List Word}
      → At V s words others → Goes V s (operations_by r p at before found words) (operations_by other p at before found others)
  goes_operations_by p at before None h = goes_read h
  goes_operations_by p at before (Some op) h =
      goes_then (goes_taken p h) (λ _ _ _ _ h.
      goes_then (g.exp (within p) (tighter at) h) (λ operand _ _ _ h.
      g.operations p at (before ++ record { operator = op; operand = operand } ∷ []) h))

  pub goes_operations : (p : Place) (at : Precedence) (before : List Operation) {s : Situation} {words others : List Word} → At V s words others
      → Goes V s (operations_behind r p at before words) (operations_behind other p at before others)
  goes_operations p at before {s} {words} {others} h =
      subst (λ found. Goes V s (operations_by r p at before (operator_at at words) words) (operations_by other p at before found others))
      (operator_first at (firsts h)) (goes_operations_by p at before (operator_at at words) h)

  goes_run : (p : Place) (at : Precedence) {s : Situation} {words others : List Word} → At V s words others
      → Goes V s (read_run r p at words) (read_run other p at others)
  goes_run p at h =
      goes_then (g.exp p (tighter at) h) (λ first _ _ _ h.
      goes_then (g.operations p at [] h) (λ all _ _ _ h. goes_read h))

  pub goes_exp : (p : Place) (at : Precedence) {s : Situation} {words others : List Word} → At V s words others
      → Goes V s (exp_at r p at words) (exp_at other p at others)
  goes_exp p precedence.Unary h = goes_unary p h
  goes_exp p precedence.Concat h = goes_then (g.exp p (tighter precedence.Concat) h) (λ left _ _ _ h. goes_concat p left h)
  goes_exp p precedence.Or h = goes_run p precedence.Or h
  goes_exp p precedence.And h = goes_run p precedence.And h
  goes_exp p precedence.Comparison h = goes_run p precedence.Comparison h
  goes_exp p precedence.BitOr h = goes_run p precedence.BitOr h
  goes_exp p precedence.BitXor h = goes_run p precedence.BitXor h
  goes_exp p precedence.BitAnd h = goes_run p precedence.BitAnd h
  goes_exp p precedence.Shift h = goes_run p precedence.Shift h
  goes_exp p precedence.Additive h = goes_run p precedence.Additive h
  goes_exp p precedence.Multiplicative h = goes_run p precedence.Multiplicative h
