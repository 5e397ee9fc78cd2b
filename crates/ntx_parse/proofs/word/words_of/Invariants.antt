use Rattle.std.proofs.Common.{◌≡◌, ℕ, map, take, drop}
use Rattle.ntx_syntax.specs.Lexes.{StandInOrder}
use Rattle.ntx_parse.specs.Words as words
use Rattle.ntx_parse.specs.inner.Input.{seen}
use Rattle.ntx_parse.proofs.word.words_of.Given as goal

-- the words so far, and the tokens that are left stand in order
abbrev pub invariant-loop-token : goal.invariant-loop-token
invariant-loop-token l = record {
  found : map seen l.found.items ≡ words.words_of l.bytes (take l.token-index l.tokens);
  from : ℕ;
  stand : StandInOrder l.bytes from (drop l.token-index l.tokens);
}
