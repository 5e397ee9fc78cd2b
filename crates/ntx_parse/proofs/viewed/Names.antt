-- Two readings side by side: expressions that begin with a name which does not lie too deep, and after which nothing is looked at.
use Rattle.std.proofs.Common.{◌≡◌, true, nat_eq, nat_le, List, [], ◌∷◌, sym, ap, subst}
use Rattle.ntx_syntax.specs.Terminals.{same_terminal}
use Rattle.ntx_parse.specs.declared.part.Part.TheVariants as part
use Rattle.ntx_parse.specs.declared.place.Place.{Place}
use Rattle.ntx_parse.specs.declared.precedence.Precedence.{Precedence}
use Rattle.ntx_parse.specs.declared.precedence.Precedence.TheVariants as precedence
use Rattle.ntx_syntax.specs.declared.terminal.Terminal.TheVariants as terminal
use Rattle.ntx_parse.specs.Words.{Word}
use Rattle.ntx_parse.specs.Grammar.{tighter, max_nesting}
use Rattle.ntx_parse.specs.inner.Reading.{Readers, read_prefix, unary_of, simple_at, read_operand, read_run, exp_at}
use Rattle.ntx_parse.proofs.TerminalLemmas.{equal_terminals}
use Rattle.ntx_parse.proofs.viewed.DeepNames.{prefix_if}
use Rattle.ntx_parse.proofs.viewed.Views.{View, lost, Goes, goes_read, goes_then}
use Rattle.ntx_parse.proofs.viewed.Lists.{Go}
use Rattle.ntx_parse.proofs.viewed.Tables.{lost_name}
use Rattle.ntx_parse.proofs.viewed.Expressions.{goes_concat}

module _ {V : View} {r other : Readers} (g : Go V r other) (p : Place) (o : Word) (words : List Word)
    (e : same_terminal o.is terminal.Name ≡ true) (fits : nat_le p.nesting max_nesting ≡ true) (l : V.Lost words) where
  is_name : o.is ≡ terminal.Name
  is_name = equal_terminals o.is terminal.Name e

  lost_prefix : Goes V lost (read_prefix r p (o ∷ words)) (read_prefix other p (o ∷ words))
  lost_prefix =
      subst (λ opens. Goes V lost (prefix_if r p opens (o ∷ words)) (prefix_if other p opens (o ∷ words)))
      (sym (ap (λ t. same_terminal t terminal.LeftParenthesis) is_name))
      (goes_then (lost_name p o words l e fits) (λ name _ _ _ h. g.suffixes p (part.Name name) h))

  lost_simple : Goes V lost (simple_at r p o.is (o ∷ words)) (simple_at other p o.is (o ∷ words))
  lost_simple =
      subst (λ t. Goes V lost (simple_at r p t (o ∷ words)) (simple_at other p t (o ∷ words))) (sym is_name)
      (goes_then lost_prefix (λ found _ _ _ h. goes_read h))

  lost_operand : Goes V lost (read_operand r p (unary_of o.is) (o ∷ words)) (read_operand other p (unary_of o.is) (o ∷ words))
  lost_operand =
      subst (λ found. Goes V lost (read_operand r p found (o ∷ words)) (read_operand other p found (o ∷ words))) (sym (ap unary_of is_name))
      lost_simple

  lost_run : (at : Precedence) → Goes V lost (read_run r p at (o ∷ words)) (read_run other p at (o ∷ words))
  lost_run at = goes_then (g.named p (tighter at) o words e fits l) (λ first _ _ _ h. goes_then (g.operations p at [] h) (λ all _ _ _ h. goes_read h))

  pub lost_exp : (at : Precedence) → Goes V lost (exp_at r p at (o ∷ words)) (exp_at other p at (o ∷ words))
  lost_exp precedence.Unary = lost_operand
  lost_exp precedence.Concat = goes_then (g.named p (tighter precedence.Concat) o words e fits l) (λ left _ _ _ h. goes_concat g p left h)
  lost_exp precedence.Or = lost_run precedence.Or
  lost_exp precedence.And = lost_run precedence.And
  lost_exp precedence.Comparison = lost_run precedence.Comparison
  lost_exp precedence.BitOr = lost_run precedence.BitOr
  lost_exp precedence.BitXor = lost_run precedence.BitXor
  lost_exp precedence.BitAnd = lost_run precedence.BitAnd
  lost_exp precedence.Shift = lost_run precedence.Shift
  lost_exp precedence.Additive = lost_run precedence.Additive
  lost_exp precedence.Multiplicative = lost_run precedence.Multiplicative
