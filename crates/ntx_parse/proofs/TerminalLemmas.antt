-- Equal terminals, and the operators that they spell.
use Rattle.std.proofs.Common.{◌≡◌, true, false, List, [], ◌∷◌, get_or, Option, None, Some, nat_eq, refl, sym, ap, ◌∙◌, eqb-true, eq-eqb}
use Rattle.std.proofs.lemmas.Bool.{true≢false}
use denote.Enum.Bare.{same_true, same_false, true_same}
use Rattle.std.proofs.lemmas.Option.{none-some, same_Some, cond_some}
use Rattle.ntx_syntax.specs.declared.tree.BinaryOp.{BinaryOp}
use Rattle.ntx_syntax.specs.declared.tree.UnaryOp.{UnaryOp}
use Rattle.ntx_syntax.specs.Terminals.{same_terminal}
use Rattle.ntx_parse.specs.declared.precedence.Precedence.{Precedence}
use Rattle.ntx_syntax.specs.contracts.terminal.Terminal.{the_type as the_terminal}
use Rattle.ntx_parse.specs.contracts.precedence.Precedence.{the_type as the_precedence}
use Rattle.ntx_syntax.specs.declared.terminal.Terminal.{Terminal}
use Rattle.ntx_syntax.specs.declared.terminal.Terminal.TheVariants as terminal
use Rattle.ntx_parse.specs.Words.{Word}
use Rattle.ntx_parse.specs.Grammar.{binary_precedence, binary_terminal, unary_terminal}
use Rattle.ntx_parse.specs.inner.Reading.{begins, binary_of, unary_of, of_precedence, same_precedence}

-- ---- equal terminals and precedences

pub equal_terminals : (t u : Terminal) → same_terminal t u ≡ true → t ≡ u
equal_terminals t u h = same_true the_terminal tt t u h

pub other_terminal : (t u : Terminal) → same_terminal t u ≡ false → t ≡ u → ⊥
other_terminal t u h = same_false the_terminal t u h

pub same_when_equal : (t u : Terminal) → t ≡ u → same_terminal t u ≡ true
same_when_equal t u e = true_same the_terminal t u e

pub equal_precedences : (p q : Precedence) → same_precedence p q ≡ true → p ≡ q
equal_precedences p q h = same_true the_precedence tt p q h

-- ---- operators

pub binary_of-some : (t : Terminal) (op : BinaryOp) → binary_of t ≡ Some op → t ≡ binary_terminal op
binary_of-some terminal.Or op e = ap binary_terminal (same_Some _ op e)
binary_of-some terminal.And op e = ap binary_terminal (same_Some _ op e)
binary_of-some terminal.Less op e = ap binary_terminal (same_Some _ op e)
binary_of-some terminal.Greater op e = ap binary_terminal (same_Some _ op e)
binary_of-some terminal.LessEqual op e = ap binary_terminal (same_Some _ op e)
binary_of-some terminal.GreaterEqual op e = ap binary_terminal (same_Some _ op e)
binary_of-some terminal.NotEqual op e = ap binary_terminal (same_Some _ op e)
binary_of-some terminal.Equal op e = ap binary_terminal (same_Some _ op e)
binary_of-some terminal.Bar op e = ap binary_terminal (same_Some _ op e)
binary_of-some terminal.Tilde op e = ap binary_terminal (same_Some _ op e)
binary_of-some terminal.Ampersand op e = ap binary_terminal (same_Some _ op e)
binary_of-some terminal.ShiftLeft op e = ap binary_terminal (same_Some _ op e)
binary_of-some terminal.ShiftRight op e = ap binary_terminal (same_Some _ op e)
binary_of-some terminal.DoubleDot op e = ap binary_terminal (same_Some _ op e)
binary_of-some terminal.Plus op e = ap binary_terminal (same_Some _ op e)
binary_of-some terminal.Minus op e = ap binary_terminal (same_Some _ op e)
binary_of-some terminal.Star op e = ap binary_terminal (same_Some _ op e)
binary_of-some terminal.DoubleSlash op e = ap binary_terminal (same_Some _ op e)
binary_of-some terminal.Percent op e = ap binary_terminal (same_Some _ op e)
binary_of-some _ op e = absurd (none-some op e)

pub unary_of-some : (t : Terminal) (op : UnaryOp) → unary_of t ≡ Some op → t ≡ unary_terminal op
unary_of-some terminal.Not op e = ap unary_terminal (same_Some _ op e)
unary_of-some terminal.Hash op e = ap unary_terminal (same_Some _ op e)
unary_of-some terminal.Minus op e = ap unary_terminal (same_Some _ op e)
unary_of-some terminal.Tilde op e = ap unary_terminal (same_Some _ op e)
unary_of-some _ op e = absurd (none-some op e)

pub of_precedence-some : (at : Precedence) (found : Option BinaryOp) (op : BinaryOp) → of_precedence at found ≡ Some op → (found ≡ Some op) × (binary_precedence op ≡ at)
of_precedence-some at None op e = absurd (none-some op e)
of_precedence-some at (Some other) op e =
    let both = cond_some (same_precedence (binary_precedence other) at) other op e in
    (ap Some both.1, ap binary_precedence (sym both.1) ∙ equal_precedences (binary_precedence other) at both.0)

-- ---- words that begin with a terminal

pub begins-true : (t : Terminal) (o : Word) (words : List Word) → o.is ≡ t → begins t (o ∷ words) ≡ true
begins-true t o words e = same_when_equal o.is t e

pub begins-is : (t : Terminal) (o : Word) (words : List Word) → begins t (o ∷ words) ≡ true → o.is ≡ t
begins-is t o words h = equal_terminals o.is t h

pub begins-not : (t : Terminal) (o : Word) (words : List Word) → begins t (o ∷ words) ≡ false → o.is ≡ t → ⊥
begins-not t o words h e = other_terminal o.is t h e
