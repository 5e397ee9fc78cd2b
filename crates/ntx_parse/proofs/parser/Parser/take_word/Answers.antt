use Rattle.std.proofs.Common.{refl}
use Rattle.ntx_parse.proofs.reads.Words.{taken_nothing, taken_deep, taken_word, first_seen}
use Rattle.ntx_parse.proofs.parser.Parser.take_word.Goals as goal

pub returns-then-place-gt-MAX_NESTING-clause-reads :
    goal.returns-then-place-gt-MAX_NESTING-clause-reads
returns-then-place-gt-MAX_NESTING-clause-reads c =
    taken_deep c.args.place c.self.inside.rest.now c.self.view_is c.in-len1-up.len_at_least c.if-place-gt-MAX_NESTING.true c.fault-then-place-gt-MAX_NESTING.ensures

pub returns-in-empty-clause-reads : goal.returns-in-empty-clause-reads
returns-in-empty-clause-reads c = taken_nothing c.args.place c.self.inside.rest.now c.self.view_is c.in-empty.len_below c.fault.ensures

pub returns-else-place-gt-MAX_NESTING-clause-reads :
    goal.returns-else-place-gt-MAX_NESTING-clause-reads
returns-else-place-gt-MAX_NESTING-clause-reads c =
    taken_word c.args.place c.self.inside.rest.now _ c.self.view_is c.if-place-gt-MAX_NESTING.false
    (first_seen c.self.inside.rest.now _ c.in-len1-up.len_at_least) refl
