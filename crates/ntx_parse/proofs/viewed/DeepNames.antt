-- An expression that begins with a name which is too deep: its reading stops at the name, or tells nothing since its calls are too few.
--     StopsDeep words a    the answer is that the reading stops before these words, of which the first lies too deep, or it is nothing
--     AreDeep r            these readings answer so
--     deep_name            the name alone
--     deep_readers         all readings
use Rattle.std.proofs.Common.{◌≡◌, ℕ, zero, suc, Bool, true, false, nat_eq, nat_le, cond, List, ◌∷◌, None, sym, ap, subst}
use Rattle.ntx_syntax.specs.declared.fault.SyntaxWhy.TheVariants as why
use Rattle.ntx_syntax.specs.Terminals.{same_terminal}
use Rattle.ntx_parse.specs.declared.part.Part.{Part}
use Rattle.ntx_parse.specs.declared.part.Part.TheVariants as part
use Rattle.ntx_parse.specs.declared.place.Place.{Place}
use Rattle.ntx_parse.specs.declared.precedence.Precedence.{Precedence}
use Rattle.ntx_parse.specs.declared.precedence.Precedence.TheVariants as precedence
use Rattle.ntx_syntax.specs.declared.terminal.Terminal.TheVariants as terminal
use Rattle.ntx_parse.specs.Words.{Word}
use Rattle.ntx_parse.specs.Grammar.{within, tighter, max_nesting}
use Rattle.ntx_parse.specs.inner.Reading.{Answer, Readers, nothing, over, readers, read, stopped, and_then, read_name, read_parenthesized, read_prefix, unary_of, simple_at, read_operand, read_run, exp_at}
use Rattle.ntx_parse.proofs.TerminalLemmas.{equal_terminals}

pub data StopsDeep (words : List Word) {A : Type 0} : Answer A → Type 0 where
  tells_nothing : StopsDeep words None
  too_deep : StopsDeep words (stopped why.Depth words)

pub deep_then : {A B : Type 0} {words : List Word} {a : Answer A} (next : A → List Word → Answer B) → StopsDeep words a → StopsDeep words (and_then a next)
deep_then next tells_nothing = tells_nothing
deep_then next too_deep = too_deep

pub record AreDeep (r : Readers) : Type 0 where
  pub exp : (p : Place) (at : Precedence) (o : Word) (words : List Word) → same_terminal o.is terminal.Name ≡ true
      → nat_le p.nesting max_nesting ≡ false → StopsDeep (o ∷ words) (r.exp p at (o ∷ words))

-- this word, if it is a name and does not lie too deep
abbrev pub name_if : Bool → Bool → Word → List Word → Answer Word
name_if named fits o words = cond named (cond fits (read o words) (stopped why.Depth (o ∷ words))) (stopped why.Expected (o ∷ words))

-- a prefix in parentheses, or one that begins with a name
abbrev pub prefix_if : Readers → Place → Bool → List Word → Answer Part
prefix_if r p opens words =
    cond opens (and_then (read_parenthesized r (within p) words) (λ e rest. r.suffixes p (part.Parenthesized e) rest))
    (and_then (read_name p words) (λ name rest. r.suffixes p (part.Name name) rest))

module _ (p : Place) (o : Word) (words : List Word) (e : same_terminal o.is terminal.Name ≡ true) (deep : nat_le p.nesting max_nesting ≡ false) where
  deep_if : {B : Type 0} (fits named : Bool) (next : Word → List Word → Answer B) → named ≡ true → fits ≡ false
      → StopsDeep (o ∷ words) (and_then (name_if named fits o words) next)
  deep_if false true next e deep = too_deep
  deep_if true named next e deep = absurd cc
  deep_if fits false next e deep = absurd cc

  pub deep_name : StopsDeep (o ∷ words) (read_name p (o ∷ words))
  deep_name = deep_if (nat_le p.nesting max_nesting) (same_terminal o.is terminal.Name) (λ o rest. read o.spelled rest) e deep

  module _ (r : Readers) (d : AreDeep r) where
    is_name : o.is ≡ terminal.Name
    is_name = equal_terminals o.is terminal.Name e

    deep_prefix : StopsDeep (o ∷ words) (read_prefix r p (o ∷ words))
    deep_prefix =
        subst (λ opens. StopsDeep (o ∷ words) (prefix_if r p opens (o ∷ words)))
        (sym (ap (λ t. same_terminal t terminal.LeftParenthesis) is_name)) (deep_then (λ name rest. r.suffixes p (part.Name name) rest) deep_name)

    deep_simple : StopsDeep (o ∷ words) (simple_at r p o.is (o ∷ words))
    deep_simple = subst (λ t. StopsDeep (o ∷ words) (simple_at r p t (o ∷ words))) (sym is_name) (deep_then _ deep_prefix)

    deep_operand : StopsDeep (o ∷ words) (read_operand r p (unary_of o.is) (o ∷ words))
    deep_operand = subst (λ found. StopsDeep (o ∷ words) (read_operand r p found (o ∷ words))) (sym (ap unary_of is_name)) deep_simple

    deep_run : (at : Precedence) → StopsDeep (o ∷ words) (read_run r p at (o ∷ words))
    deep_run at = deep_then _ (d.exp p (tighter at) o words e deep)

    deep_exp : (at : Precedence) → StopsDeep (o ∷ words) (exp_at r p at (o ∷ words))
    deep_exp precedence.Unary = deep_operand
    deep_exp precedence.Concat = deep_then _ (d.exp p (tighter precedence.Concat) o words e deep)
    deep_exp precedence.Or = deep_run precedence.Or
    deep_exp precedence.And = deep_run precedence.And
    deep_exp precedence.Comparison = deep_run precedence.Comparison
    deep_exp precedence.BitOr = deep_run precedence.BitOr
    deep_exp precedence.BitXor = deep_run precedence.BitXor
    deep_exp precedence.BitAnd = deep_run precedence.BitAnd
    deep_exp precedence.Shift = deep_run precedence.Shift
    deep_exp precedence.Additive = deep_run precedence.Additive
    deep_exp precedence.Multiplicative = deep_run precedence.Multiplicative

pub deep_nothing : AreDeep nothing
deep_nothing = record { exp = λ p at o words e deep. tells_nothing }

pub deep_over : {r : Readers} → AreDeep r → AreDeep (over r)
deep_over {r} d = record { exp = λ p at o words e deep. deep_exp p o words e deep r d at }

pub deep_readers : (n : ℕ) → AreDeep (readers n)
deep_readers zero = deep_nothing
deep_readers (suc n) = deep_over (deep_readers n)
