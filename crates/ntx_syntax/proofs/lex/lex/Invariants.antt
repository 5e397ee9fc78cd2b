use Rattle.std.proofs.Common.{length, ◌-◌, ◌+◌, ◌≡◌, ◌≤◌, ◌++◌, drop}
use Rattle.ntx_num.specs.Answer.{result_map}
use Rattle.ntx_syntax.specs.Lexes.{lexed_of, tokens_of, parts_of}
use Rattle.ntx_syntax.proofs.lex.lex.Given as goal

abbrev pub invariant-loop-start : goal.invariant-loop-start
invariant-loop-start l = record {
  rest : result_map (λ others. l.found.items ++ others) (tokens_of l.start l.line (parts_of (drop l.start l.bytes))) ≡ lexed_of l.bytes;
  within : l.start ≤ length l.bytes;
  lines : l.line ≤ l.start + 1;
}

abbrev pub decreases-loop-start : goal.decreases-loop-start
decreases-loop-start l = length l.bytes - l.start
