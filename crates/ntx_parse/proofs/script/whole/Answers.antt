use Rattle.std.proofs.Common.{sym, ◌∙◌}
use Rattle.std.proofs.lemmas.Bool.{false≢true}
use Rattle.ntx_parse.specs.inner.Reading.{ended}
use Rattle.ntx_parse.proofs.reads.Answers.{err_by}
use Rattle.ntx_parse.proofs.ScriptLemmas.{block_reads, script_ends, script_stops}
use Rattle.ntx_parse.proofs.script.whole.Goals as goal

pub returns-in_err-block : goal.returns-in_err-block
returns-in_err-block c =
    err_by (λ _. ended) _ c.from_residual.ensures.1 (block_reads c.new-parser.result c.outermost.result c.new-parser.ensures c.outermost.ensures c.in_err-block.ensures)

pub returns-then-is_at_end : goal.returns-then-is_at_end
returns-then-is_at_end c =
    script_ends (block_reads c.new-parser.result c.outermost.result c.new-parser.ensures c.outermost.ensures c.in_ok-block.ensures) (c.is_at_end.ensures.0 c.if-is_at_end.true)

pub returns-else-is_at_end : goal.returns-else-is_at_end
returns-else-is_at_end c =
    script_stops c.fault.result c.fault.ensures (block_reads c.new-parser.result c.outermost.result c.new-parser.ensures c.outermost.ensures c.in_ok-block.ensures)
    (λ e. false≢true (sym c.if-is_at_end.false ∙ c.is_at_end.ensures.1 e))
