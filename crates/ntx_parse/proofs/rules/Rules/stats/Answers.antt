use Rattle.std.proofs.Common.{refl, ◌∙◌, sym}
use Rattle.ntx_parse.specs.inner.Reading.{readers}
use Rattle.ntx_parse.proofs.reads.Answers.{ok, err_by, no_memory_by, done, later, same, with_equal}
use Rattle.ntx_parse.proofs.complete.Stats.{stat_by, stats_end}
use Rattle.ntx_parse.proofs.rules.Rules.stats.Goals as goal

pub loop-terminal-init : goal.loop-terminal-init
loop-terminal-init g c = with_equal (λ before n. (readers n).stats c.args.place before c.args.parser.now.words) c.new-stats.ensures

pub returns-in_err-kind : goal.returns-in_err-kind
returns-in_err-kind g c =
    c.loop-terminal.invariant _ _ (later (λ n. refl) (same (λ n. stat_by (readers n) c.args.place c.loop-terminal.stats c.loop-terminal.parser.words c.in-Some.terminal c.in-Some.line (sym c.statement_at.ensures ∙ c.in-Some.is))
    (err_by _ _ c.from_residual.ensures.1 c.in_err-kind.ensures.reads)))

pub loop-terminal-preserved : goal.loop-terminal-preserved
loop-terminal-preserved g c = λ r new h.
    c.loop-terminal.invariant r new (later (λ n. refl) (same (λ n. stat_by (readers n) c.args.place c.loop-terminal.stats c.loop-terminal.parser.words c.in-Some.terminal c.in-Some.line (sym c.statement_at.ensures ∙ c.in-Some.is))
    (ok _ c.in_ok-kind.ensures.reads (with_equal (λ before n. (readers n).stats c.args.place before c.kind.new.parser.words) c.in_ok-push.ensures.ok r new h))))

pub returns-in_err-push : goal.returns-in_err-push
returns-in_err-push g c = no_memory_by _ c.from_residual-in_err-push.ensures.1

pub returns : goal.returns
returns g c = c.loop-terminal.invariant _ _ (later (λ n. refl) (same (λ n. stats_end (readers n) c.args.place c.loop-terminal.stats c.loop-terminal.parser.words (sym c.statement_at.ensures ∙ c.in_default.is)) done))
