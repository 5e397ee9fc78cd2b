use Rattle.std.proofs.Common.{◌≡◌, ◌+◌, length, ◌∙◌, arith}
use Rattle.std.proofs.lemmas.Bool.Decides.{nat_tests}
use Rattle.ntx_patterns.specs.Kept.{row, table}
use Rattle.ntx_patterns.proofs.ReadLemmas.{read_start, line_read, read_end}
use Rattle.ntx_patterns.proofs.read.read_patterns.Goals as goal

pub loop-rest-init : goal.loop-rest-init
loop-rest-init c = (read_start (row c.new-trie.result) c.args.bytes.now c.new-trie.ensures.rows, c.new-trie.ensures.packed, omega arith)

pub loop-rest-preserved : goal.loop-rest-preserved
loop-rest-preserved c = (
  c.loop-rest.invariant.0
      ∙ line_read (row c.loop-rest.trie) (row c.add_line.new.trie) (c.loop-rest.number + 1) c.loop-rest.rest.now c.next_line.result.0.now c.next_line.result.1.now c.next_line.ensures.lines c.in_ok-add_line.ensures.rows,
  c.add_line.ensures.packed,
  omega arith,
)

pub returns : goal.returns
unfolding table
returns c =
    let none : length c.loop-rest.rest.now ≡ 0 = grind (arith, nat_tests, c.loop-rest-test.ensures) in
    c.loop-rest.invariant.0 ∙ read_end (row c.loop-rest.trie) (c.loop-rest.number + 1) c.loop-rest.rest.now none
