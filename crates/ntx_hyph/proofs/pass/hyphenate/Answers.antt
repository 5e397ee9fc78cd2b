use Rattle.std.proofs.Common.{subst}
use Rattle.ntx_num.specs.Answer.{Traces}
use Rattle.ntx_patterns.specs.Kept.{table}
use Rattle.ntx_patterns.specs.Points.{points_in}
use Rattle.ntx_num.specs.Trace.{states}
use Rattle.ntx_hyph.specs.Hyphenation.{Points, hyphenation}
use Rattle.ntx_num.proofs.Traces.{traces}
use Rattle.ntx_hyph.proofs.Endings.{points_same}
use Rattle.ntx_hyph.proofs.pass.hyphenate.Goals as goal

pub returns-clause-traced : goal.returns-clause-traced
returns-clause-traced g c =
    let h = g.N.Nodes.heap in
    traces c.hyphenate_list.result (h c.hyphenate_list.new.nodes) (hyphenation (points_in (table c.args.p.now)) c.args.params.now c.args.head (h c.args.nodes.now)) c.hyphenate_list.ensures.traced

pub returns-clause-pairs : goal.returns-clause-pairs
returns-clause-pairs g c =
    let h = g.N.Nodes.heap in
    λ patterns e. subst
    (λ (points : Points). Traces c.hyphenate_list.result (h c.hyphenate_list.new.nodes) (states (hyphenation points c.args.params.now c.args.head (h c.args.nodes.now))) (hyphenation points c.args.params.now c.args.head (h c.args.nodes.now)).ending)
    (points_same patterns (table c.args.p.now) e)
    (traces c.hyphenate_list.result (h c.hyphenate_list.new.nodes) (hyphenation (points_in (table c.args.p.now)) c.args.params.now c.args.head (h c.args.nodes.now)) c.hyphenate_list.ensures.traced)
