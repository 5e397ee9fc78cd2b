use Rattle.std.proofs.Common.{◌∙◌, sym, refl}
use Rattle.ntx_parse.specs.inner.Reading.{readers}
use Rattle.ntx_parse.proofs.reads.Answers.{same, stops_at_once}
use Rattle.ntx_parse.proofs.complete.Stats.{simple_by, simple_none}
use Rattle.ntx_parse.proofs.rules.Rules.simple.Goals as goal

pub returns-in-None : goal.returns-in-None
returns-in-None g c =
    rw c.fault.ensures (same (λ n. simple_none (readers n) c.args.place c.args.parser.now.words (sym c.next.ensures ∙ c.in-None.is)) (stops_at_once _ refl refl))

pub returns-in-Some : goal.returns-in-Some
returns-in-Some g c =
    same (λ n. simple_by (readers n) c.args.place c.in-Some.terminal c.args.parser.now.words (sym c.next.ensures ∙ c.in-Some.is)) c.simple_at.ensures
