use Rattle.std.proofs.Common.{ℕ, List, subst}
use Rattle.ntx_num.specs.Trace.{EndsAs}
use Rattle.ntx_num.proofs.Traces.{traces}
use Rattle.ntx_breaks.specs.Chosen.{breaks_seen}
use Rattle.ntx_lines.specs.Lines as pass
use Rattle.ntx_lines.proofs.paragraph.lines.Goals as goal

pub returns : goal.returns
returns g c =
    let h = g.N.Nodes.heap in
    let a = c.args in
    let new = h c.make_paragraph.new.nodes in
    traces c.make_paragraph.result new (pass.lines a.fonts.now a.params.now a.head (breaks_seen a.b.now).places (h a.nodes.now))
    (subst (λ (ps : List ℕ). EndsAs c.make_paragraph.result new (pass.lines a.fonts.now a.params.now a.head ps (h a.nodes.now))) c.deref.ensures.value c.make_paragraph.ensures)
