-- Operators by their precedences.
use Rattle.std.proofs.Common.{arith, ◌≡◌, ◌≢◌, ℕ, zero, suc, ◌+◌, List, [], refl, ap, subst, sym, ◌∙◌, Result, Ok, Err}
use Rattle.ntx_num.specs.declared.answer.Fail.{Fail}
use Rattle.ntx_syntax.specs.declared.fault.SyntaxFault.{SyntaxFault}
use Rattle.ntx_syntax.specs.declared.tree.Exp.{Exp}
use Rattle.ntx_parse.specs.declared.place.Place.{Place}
use Rattle.ntx_parse.specs.declared.precedence.Precedence.{Precedence}
use Rattle.ntx_parse.specs.declared.precedence.Precedence.TheVariants as precedence
use Rattle.ntx_parse.specs.Words.{Word}
use Rattle.ntx_parse.specs.Grammar.{tighter, run_of}
use Rattle.ntx_parse.specs.inner.Reading.{Readers, and_then, read, readers, concat_behind}
use Rattle.ntx_parse.specs.inner.Input.{Input}
use Rattle.ntx_parse.specs.inner.Steps.{behind_at}
use Rattle.ntx_parse.specs.inner.Reads.{Reads}
use Rattle.ntx_parse.proofs.Ranks.{rank, rank_most, same_rank, not_unary, tighter_rank}
use Rattle.ntx_parse.proofs.reads.Answers.{ok, err, later}

pub behind_concat : (r : Readers) (p : Place) (at : Precedence) (first : Exp) (words : List Word) → at ≡ precedence.Concat
    → behind_at r p at first words ≡ concat_behind r p first words
behind_concat r p at first words is = ap (λ q. behind_at r p q first words) is

pub behind_others : (r : Readers) (p : Place) (at : Precedence) (first : Exp) (words : List Word) → at ≢ precedence.Concat → at ≢ precedence.Unary
    → behind_at r p at first words ≡ and_then (r.operations p at [] words) (λ others rest. read (run_of first others) rest)
behind_others r p precedence.Or first words other binary = refl
behind_others r p precedence.And first words other binary = refl
behind_others r p precedence.Comparison first words other binary = refl
behind_others r p precedence.BitOr first words other binary = refl
behind_others r p precedence.BitXor first words other binary = refl
behind_others r p precedence.BitAnd first words other binary = refl
behind_others r p precedence.Shift first words other binary = refl
behind_others r p precedence.Concat first words other binary = absurd (other refl)
behind_others r p precedence.Additive first words other binary = refl
behind_others r p precedence.Multiplicative first words other binary = refl
behind_others r p precedence.Unary first words other binary = absurd (binary refl)

-- One precedence looser.
pub climb : (p : Place) (at : Precedence) {words : List Word} {old middle new : Input} {e : Exp} {r : Result Exp (Fail SyntaxFault)} → at ≢ precedence.Unary
    → Reads (λ n. (readers n).exp p (tighter at) words) old (Ok e) middle → Reads (λ n. behind_at (readers n) p at e middle.words) middle r new
    → Reads (λ n. (readers n).exp p at words) old r new
climb p precedence.Or binary first second = later (λ n. refl) (ok _ first second)
climb p precedence.And binary first second = later (λ n. refl) (ok _ first second)
climb p precedence.Comparison binary first second = later (λ n. refl) (ok _ first second)
climb p precedence.BitOr binary first second = later (λ n. refl) (ok _ first second)
climb p precedence.BitXor binary first second = later (λ n. refl) (ok _ first second)
climb p precedence.BitAnd binary first second = later (λ n. refl) (ok _ first second)
climb p precedence.Shift binary first second = later (λ n. refl) (ok _ first second)
climb p precedence.Concat binary first second = later (λ n. refl) (ok _ first second)
climb p precedence.Additive binary first second = later (λ n. refl) (ok _ first second)
climb p precedence.Multiplicative binary first second = later (λ n. refl) (ok _ first second)
climb p precedence.Unary binary first second = absurd (binary refl)

fails_step : (p : Place) (at : Precedence) {words : List Word} {old new : Input} {e : Fail SyntaxFault} → at ≢ precedence.Unary
    → Reads (λ n. (readers n).exp p (tighter at) words) old (Err e) new → Reads (λ n. (readers n).exp p at words) old (Err e) new
fails_step p precedence.Or binary first = later (λ n. refl) (err _ first)
fails_step p precedence.And binary first = later (λ n. refl) (err _ first)
fails_step p precedence.Comparison binary first = later (λ n. refl) (err _ first)
fails_step p precedence.BitOr binary first = later (λ n. refl) (err _ first)
fails_step p precedence.BitXor binary first = later (λ n. refl) (err _ first)
fails_step p precedence.BitAnd binary first = later (λ n. refl) (err _ first)
fails_step p precedence.Shift binary first = later (λ n. refl) (err _ first)
fails_step p precedence.Concat binary first = later (λ n. refl) (err _ first)
fails_step p precedence.Additive binary first = later (λ n. refl) (err _ first)
fails_step p precedence.Multiplicative binary first = later (λ n. refl) (err _ first)
fails_step p precedence.Unary binary first = absurd (binary refl)

-- What fails at a precedence fails at looser ones.
pub fails_looser : (k : ℕ) (p : Place) (at goal : Precedence) (words : List Word) (old new : Input) (e : Fail SyntaxFault) → rank goal + k ≡ rank at
    → Reads (λ n. (readers n).exp p at words) old (Err e) new → Reads (λ n. (readers n).exp p goal words) old (Err e) new
fails_looser zero p at goal words old new e is h =
    subst (λ q. Reads (λ n. (readers n).exp p q words) old (Err e) new) (same_rank at goal (omega (arith, is))) h
fails_looser (suc k) p at goal words old new e is h =
    let binary : goal ≢ precedence.Unary = not_unary goal (omega (arith, is, rank_most at)) in
    fails_step p goal binary (fails_looser k p at (tighter goal) words old new e (omega (arith, is, tighter_rank goal binary)) h)
