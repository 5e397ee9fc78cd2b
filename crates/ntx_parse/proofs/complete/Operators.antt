-- Operators before words.
use Rattle.std.specs.Prelude.{◌≡◌, ◌≤◌, ◌<◌, ℕ, nat_eq, nat_lt, Bool, true, false, not, List, [], ◌∷◌, Option, None, Some}
use denote.Enum.Bare.{true_same, false_same}
use Rattle.std.proofs.Common.{refl, sym, ap, ◌∙◌, arith, true≢false, lt-ltb, ltb-true, ltb-false, eq-eqb, eqb-true}
use Rattle.std.proofs.lemmas.Bool.{and_from, and_parts, cond-false, cond-true}
use Rattle.ntx_syntax.specs.declared.tree.BinaryOp.{BinaryOp}
use Rattle.ntx_syntax.specs.declared.tree.BinaryOp.TheVariants as binary
use Rattle.ntx_syntax.specs.declared.tree.UnaryOp.{UnaryOp}
use Rattle.ntx_syntax.specs.declared.tree.UnaryOp.TheVariants as unary
use Rattle.ntx_parse.specs.declared.precedence.Precedence.{Precedence}
use Rattle.ntx_parse.specs.declared.precedence.Precedence.TheVariants as precedence
use Rattle.ntx_parse.specs.declared.place.Place.{Place}
use Rattle.ntx_syntax.specs.declared.terminal.Terminal.{Terminal}
use Rattle.ntx_syntax.specs.declared.terminal.Terminal.TheVariants as terminal
use Rattle.ntx_parse.specs.Words.{Word}
use Rattle.ntx_parse.specs.Grammar.{Placed, Is, binary_precedence, binary_terminal, unary_terminal, tighter}
use Rattle.ntx_parse.specs.contracts.precedence.Precedence.{the_type}
use Rattle.ntx_parse.specs.inner.Reading.{binary_of, unary_of, of_precedence, operator_at, sign_at, same_precedence}
use Rattle.ntx_parse.proofs.Ranks.{rank}
use Rattle.ntx_parse.proofs.complete.Follows.{ends_exp, binds_less, goes_on, begins_simple}
use Rattle.ntx_parse.proofs.complete.Begins.{plain, Follows, Starts}

no_sign : (t : Terminal) → begins_simple t ≡ true → unary_of t ≡ None
no_sign terminal.Not h = absurd (true≢false (sym h))
no_sign terminal.Hash h = absurd (true≢false (sym h))
no_sign terminal.Minus h = absurd (true≢false (sym h))
no_sign terminal.Tilde h = absurd (true≢false (sym h))
no_sign _ h = refl

pub simple_has_no_sign : (words : List Placed) → Starts begins_simple words → sign_at (plain words) ≡ None
simple_has_no_sign [] h = refl
simple_has_no_sign (o ∷ words) h = no_sign o.word.is h

pub sign_of : (op : UnaryOp) → unary_of (unary_terminal op) ≡ Some op
sign_of unary.Not = refl
sign_of _ = refl

pub operator_of : (op : BinaryOp) → binary_of (binary_terminal op) ≡ Some op
operator_of binary.Or = refl
operator_of _ = refl

pub operator_ends_operand : (op : BinaryOp) → ends_exp (tighter (binary_precedence op)) (binary_terminal op) ≡ true
operator_ends_operand binary.Or = refl
operator_ends_operand _ = refl

rank_rises : (at : Precedence) → nat_lt (rank (tighter at)) (rank at) ≡ false
rank_rises precedence.Or = refl
rank_rises _ = refl

binds_less-tighter : (at : Precedence) (o : Option BinaryOp) → binds_less at o ≡ true → binds_less (tighter at) o ≡ true
binds_less-tighter at None h = refl
binds_less-tighter at (Some op) h =
    let below : rank (binary_precedence op) < rank at = ltb-true (rank (binary_precedence op)) (rank at) h in
    let rises : rank at ≤ rank (tighter at) = ltb-false (rank (tighter at)) (rank at) (rank_rises at) in
    lt-ltb (rank (binary_precedence op)) (rank (tighter at)) (omega arith)

-- What ends an expression ends those of its operands too.
pub ends_tighter : (at : Precedence) (words : List Placed) → Follows (ends_exp at) words → Follows (ends_exp (tighter at)) words
ends_tighter at [] h = tt
ends_tighter at (o ∷ words) h = and_from (not (goes_on o.word.is)) (binds_less (tighter at) (binary_of o.word.is))
    (and_parts (not (goes_on o.word.is)) (binds_less at (binary_of o.word.is)) h).0
    (binds_less-tighter at (binary_of o.word.is) (and_parts (not (goes_on o.word.is)) (binds_less at (binary_of o.word.is)) h).1)

other_precedence : (a b : Precedence) → rank a < rank b → same_precedence a b ≡ false
other_precedence a b h = false_same the_type tt a b (λ e. let same = ap rank e in absurd (omega arith))

not_of_precedence : (at : Precedence) (o : Option BinaryOp) → binds_less at o ≡ true → of_precedence at o ≡ None
not_of_precedence at None h = refl
not_of_precedence at (Some op) h = cond-false (same_precedence (binary_precedence op) at) (Some op) None
    (other_precedence (binary_precedence op) at (ltb-true (rank (binary_precedence op)) (rank at) h))

-- After an expression stands no operator of its precedence.
pub no_operator_at : (at : Precedence) (words : List Placed) → Follows (ends_exp at) words → operator_at at (plain words) ≡ None
no_operator_at at [] h = refl
no_operator_at at (o ∷ words) h =
    not_of_precedence at (binary_of o.word.is) (and_parts (not (goes_on o.word.is)) (binds_less at (binary_of o.word.is)) h).1

pub operator_at_here : {p : Place} {o : Placed} (at : Precedence) (op : BinaryOp) (words : List Word)
    → Is p (binary_terminal op) o → binary_precedence op ≡ at → operator_at at (o.word ∷ words) ≡ Some op
operator_at_here {p} {o} at op words i e =
    ap (of_precedence at) (ap binary_of i.is ∙ operator_of op)
    ∙ cond-true (same_precedence (binary_precedence op) at) (Some op) None (true_same the_type (binary_precedence op) at e)

pub operator_follows : {p : Place} {o : Placed} (at : Precedence) (op : BinaryOp) → Is p (binary_terminal op) o → binary_precedence op ≡ at
    → ends_exp (tighter at) o.word.is ≡ true
operator_follows {p} {o} at op i e =
    ap (ends_exp (tighter at)) i.is ∙ (ap (λ k. ends_exp (tighter k) (binary_terminal op)) (sym e) ∙ operator_ends_operand op)
