-- How many precedences bind less.
use Rattle.std.proofs.Common.{arith, ◌≡◌, ◌≢◌, ◌<◌, ◌≤◌, ℕ, zero, suc, ◌+◌, refl, ap, sym, ◌∙◌}
use Rattle.ntx_parse.specs.declared.precedence.Precedence.{Precedence}
use Rattle.ntx_parse.specs.declared.precedence.Precedence.TheVariants as precedence
use Rattle.ntx_parse.specs.Grammar.{tighter}

abbrev pub rank : Precedence → ℕ
rank precedence.Or = 0
rank precedence.And = 1
rank precedence.Comparison = 2
rank precedence.BitOr = 3
rank precedence.BitXor = 4
rank precedence.BitAnd = 5
rank precedence.Shift = 6
rank precedence.Concat = 7
rank precedence.Additive = 8
rank precedence.Multiplicative = 9
rank precedence.Unary = 10

pub rank_most : (at : Precedence) → rank at ≤ 10
rank_most precedence.Or = omega arith
rank_most precedence.And = omega arith
rank_most precedence.Comparison = omega arith
rank_most precedence.BitOr = omega arith
rank_most precedence.BitXor = omega arith
rank_most precedence.BitAnd = omega arith
rank_most precedence.Shift = omega arith
rank_most precedence.Concat = omega arith
rank_most precedence.Additive = omega arith
rank_most precedence.Multiplicative = omega arith
rank_most precedence.Unary = omega arith

of_rank : ℕ → Precedence
of_rank zero = precedence.Or
of_rank (suc zero) = precedence.And
of_rank (suc (suc zero)) = precedence.Comparison
of_rank (suc (suc (suc zero))) = precedence.BitOr
of_rank (suc (suc (suc (suc zero)))) = precedence.BitXor
of_rank (suc (suc (suc (suc (suc zero))))) = precedence.BitAnd
of_rank (suc (suc (suc (suc (suc (suc zero)))))) = precedence.Shift
of_rank (suc (suc (suc (suc (suc (suc (suc zero))))))) = precedence.Concat
of_rank (suc (suc (suc (suc (suc (suc (suc (suc zero)))))))) = precedence.Additive
of_rank (suc (suc (suc (suc (suc (suc (suc (suc (suc zero))))))))) = precedence.Multiplicative
of_rank _ = precedence.Unary

of_its_rank : (at : Precedence) → of_rank (rank at) ≡ at
unfolding of_rank
of_its_rank precedence.Or = refl
of_its_rank precedence.And = refl
of_its_rank precedence.Comparison = refl
of_its_rank precedence.BitOr = refl
of_its_rank precedence.BitXor = refl
of_its_rank precedence.BitAnd = refl
of_its_rank precedence.Shift = refl
of_its_rank precedence.Concat = refl
of_its_rank precedence.Additive = refl
of_its_rank precedence.Multiplicative = refl
of_its_rank precedence.Unary = refl

pub same_rank : (a b : Precedence) → rank a ≡ rank b → a ≡ b
same_rank a b is = sym (of_its_rank a) ∙ ap of_rank is ∙ of_its_rank b

pub not_unary : (at : Precedence) → rank at < 10 → at ≢ precedence.Unary
not_unary at h e = let same = ap rank e in absurd (omega arith)

pub tighter_rank : (at : Precedence) → at ≢ precedence.Unary → rank (tighter at) ≡ rank at + 1
tighter_rank precedence.Or binary = refl
tighter_rank precedence.And binary = refl
tighter_rank precedence.Comparison binary = refl
tighter_rank precedence.BitOr binary = refl
tighter_rank precedence.BitXor binary = refl
tighter_rank precedence.BitAnd binary = refl
tighter_rank precedence.Shift binary = refl
tighter_rank precedence.Concat binary = refl
tighter_rank precedence.Additive binary = refl
tighter_rank precedence.Multiplicative binary = refl
tighter_rank precedence.Unary binary = absurd (binary refl)

-- the rank of the next looser one
pub looser_rank : (at next : Precedence) → tighter next ≡ at → next ≢ precedence.Unary → rank next + 1 ≡ rank at
looser_rank at next is binary = sym (tighter_rank next binary) ∙ ap rank is

-- What binds as tight as another and is not that one is not the loosest.
pub not_loosest : (reached goal : Precedence) → rank goal ≤ rank reached → reached ≢ goal → reached ≢ precedence.Or
not_loosest reached goal below other e = let least = ap rank e in other (same_rank reached goal (omega arith))

-- It binds tighter.
pub above : (reached goal : Precedence) → rank goal ≤ rank reached → reached ≢ goal → rank goal < rank reached
above reached goal below other = order (λ e. other (same_rank reached goal e))
  where
    order : (rank reached ≢ rank goal) → rank goal < rank reached
    order differ = omega arith
