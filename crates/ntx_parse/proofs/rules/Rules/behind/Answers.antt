use Rattle.std.proofs.Common.{◌∙◌, sym}
use denote.Enum.Bare.{same_true, same_false}
use Rattle.ntx_parse.specs.inner.Reading.{readers}
use Rattle.ntx_parse.proofs.reads.Answers.{ok, err_by, no_memory_by, done, same}
use Rattle.ntx_parse.specs.contracts.precedence.Precedence.{the_type}
use Rattle.ntx_parse.proofs.reads.Levels.{behind_concat, behind_others}
use Rattle.ntx_parse.specs.declared.precedence.Precedence.TheVariants as precedence
use Rattle.ntx_parse.proofs.rules.Rules.behind.Goals as goal

pub returns-then-eq : goal.returns-then-eq
returns-then-eq g c =
    let at = same_true the_type tt c.args.precedence precedence.Concat (sym c.eq.ensures ∙ c.if-eq.true) in
    same (λ n. behind_concat (readers n) c.args.place c.args.precedence c.args.first c.args.parser.now.words at) c.concat_behind.ensures

pub returns-in_err-others : goal.returns-in_err-others
returns-in_err-others g c =
    same (λ n. behind_others (readers n) c.args.place c.args.precedence c.args.first c.args.parser.now.words
    (same_false the_type _ _ (sym c.eq.ensures ∙ c.if-eq.false)) c.requires.binary)
    (err_by _ _ c.from_residual.ensures.1 c.in_err-others.ensures)

pub returns-in_err-run_of : goal.returns-in_err-run_of
returns-in_err-run_of g c = no_memory_by _ c.from_residual-in_err-run_of.ensures.1

pub returns-in_ok-run_of : goal.returns-in_ok-run_of
returns-in_ok-run_of g c =
    same (λ n. behind_others (readers n) c.args.place c.args.precedence c.args.first c.args.parser.now.words
    (same_false the_type _ _ (sym c.eq.ensures ∙ c.if-eq.false)) c.requires.binary)
    (ok _ c.in_ok-others.ensures (rw c.in_ok-run_of.ensures done))
