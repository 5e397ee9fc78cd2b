use Rattle.std.proofs.Common.{◌≡◌, ◌≢◌, arith, ◌-◌, sym, ◌∙◌, subst, refl, Ok}
use denote.Enum.Bare.{differs_true, differs_false}
use Rattle.ntx_parse.specs.contracts.precedence.Precedence.{the_type}
use Rattle.ntx_parse.specs.declared.precedence.Precedence.TheVariants as precedence
use Rattle.ntx_parse.specs.inner.Reading.{readers}
use Rattle.ntx_parse.specs.inner.Reads.{Reads}
use Rattle.ntx_parse.proofs.Ranks.{rank, rank_most, looser_rank, not_loosest, above}
use Rattle.ntx_parse.proofs.reads.Answers.{later, ends_by}
use Rattle.ntx_parse.proofs.reads.Levels.{climb, fails_looser}
use Rattle.ntx_parse.proofs.rules.Rules.level.Goals as goal

pub returns-in_err-exp : goal.returns-in_err-exp
returns-in_err-exp g c =
    ends_by _ c.from_residual.ensures.1
    (λ h. fails_looser (10 - rank c.args.precedence) c.args.place precedence.Unary c.args.precedence c.args.parser.now.words _ _ _ (omega (arith, rank_most c.args.precedence)) h)
    (later (λ n. refl) c.in_err-exp.ensures)

pub loop-place-init : goal.loop-place-init
loop-place-init g c = record { reads = later (λ n. refl) c.in_ok-exp.ensures; rank = rank_most c.args.precedence }

pub looser-reached-requires : goal.looser-reached-requires
looser-reached-requires g c =
    not_loosest _ _ c.loop-place.invariant.rank (differs_true the_type _ _ (sym c.ne.ensures ∙ c.loop-place-test.true))

pub returns-in_err-exp-2 : goal.returns-in_err-exp-2
returns-in_err-exp-2 g c =
    let next = looser_rank _ _ c.looser-reached.ensures.tighter c.looser-reached.ensures.binary in
    let higher = above _ _ c.loop-place.invariant.rank (differs_true the_type _ _ (sym c.ne.ensures ∙ c.loop-place-test.true)) in
    let first = subst (λ q. Reads (λ n. (readers n).exp c.args.place q c.args.parser.now.words) c.args.parser.now (Ok c.loop-place.exp) c.loop-place.parser) (sym c.looser-reached.ensures.tighter) c.loop-place.invariant.reads in
    ends_by _ c.from_residual-in_err-exp-2.ensures.1
    (λ h. fails_looser (rank c.looser-reached.result - rank c.args.precedence) c.args.place c.looser-reached.result c.args.precedence c.args.parser.now.words _ _ _
    (omega (arith, next, higher)) h)
    (climb c.args.place c.looser-reached.result c.looser-reached.ensures.binary first c.in_err-exp-2.ensures)

pub loop-place-preserved : goal.loop-place-preserved
loop-place-preserved g c =
    let next = looser_rank _ _ c.looser-reached.ensures.tighter c.looser-reached.ensures.binary in
    let higher = above _ _ c.loop-place.invariant.rank (differs_true the_type _ _ (sym c.ne.ensures ∙ c.loop-place-test.true)) in
    let first = subst (λ q. Reads (λ n. (readers n).exp c.args.place q c.args.parser.now.words) c.args.parser.now (Ok c.loop-place.exp) c.loop-place.parser) (sym c.looser-reached.ensures.tighter) c.loop-place.invariant.reads in
    record {
      reads = climb c.args.place c.looser-reached.result c.looser-reached.ensures.binary first c.in_ok-exp-2.ensures;
      rank = omega (arith, next, higher);
    }

pub returns : goal.returns
returns g c =
    let at : c.loop-place.reached ≡ c.args.precedence = differs_false the_type tt _ _ (sym c.ne.ensures ∙ c.loop-place-test.false) in
    subst (λ q. Reads (λ n. (readers n).exp c.args.place q c.args.parser.now.words) c.args.parser.now (Ok c.loop-place.exp) c.loop-place.parser) at c.loop-place.invariant.reads
