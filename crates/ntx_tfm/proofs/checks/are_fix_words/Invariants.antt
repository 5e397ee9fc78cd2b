use Rattle.std.proofs.Common.{◌≡◌, ◌+◌, true}
use Rattle.ntx_tfm.specs.Each.{each}
use Rattle.ntx_tfm.specs.Words.{quad_at}
use Rattle.ntx_tfm.specs.Faults.{is_fix_word}
use Rattle.ntx_tfm.proofs.checks.are_fix_words.Given as goal

abbrev pub invariant-loop-k : goal.invariant-loop-k
invariant-loop-k l = each l.k (λ k. is_fix_word (quad_at l.bytes (l.from + k))) ≡ true
