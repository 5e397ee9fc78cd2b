use Rattle.std.proofs.Common.{Ok, Err, ◌∙◌, ap, subst}
use Rattle.std.specs.Prelude.{is_none}
use Rattle.std.proofs.lemmas.Result.{err_from_is_err_and}
use Rattle.ntx_num.specs.Trace.{EndsAs}
use Rattle.ntx_nodes.specs.declared.trouble.Trouble.{Trouble}
use Rattle.ntx_lines.specs.declared.ends.Ends.{Ends}
use Rattle.ntx_lines.specs.declared.line_end.Ended.{Ended}
use Rattle.ntx_lines.specs.Ends.{joined, ends_of}
use Rattle.ntx_lines.specs.LineEnd.{ended}
use Rattle.ntx_lines.specs.Parts.{Part}
use Rattle.ntx_lines.specs.inner.Seen.{part_seen}
use Rattle.ntx_lines.proofs.OneLine.{end_stops, after_end, right_stops, after_right, discard_stops, after_discard, box_stops, after_box, none_so, penalty_so, penalty_stops, penalty_done}
use Rattle.ntx_lines.proofs.paragraph.make_line.Goals as goal

pub returns-in_err-line-clause-traced : goal.returns-in_err-line-clause-traced
returns-in_err-line-clause-traced g c =
    let h = g.N.Nodes.heap in
    let a = c.args in
    let old = h a.nodes.now in
    let part : Part = part_seen a.part in
    let e = c.in_err-line.field-0.0 in
    let p = err_from_is_err_and c.from_residual.result c.from_residual.ensures.1 in
    rw (p.1, p.2) (end_stops a.fonts.now a.params.now a.above a.front part a.later old (h c.end_line.new.nodes) e
    (subst (λ (b : Ends). EndsAs {A = Ended} {E = Trouble} (Err e) (h c.end_line.new.nodes) (ended a.params.now b part.at part.after old)) (c.then-body.ensures ∙ ap (joined a.front) c.of.ensures) c.in_err-line.ensures))

pub returns-in_err-whole-clause-traced : goal.returns-in_err-whole-clause-traced
returns-in_err-whole-clause-traced g c =
    let h = g.N.Nodes.heap in
    let a = c.args in
    let old = h a.nodes.now in
    let part : Part = part_seen a.part in
    let one : EndsAs {A = Ended} {E = Trouble} (Ok c.in_ok-line.line) (h c.end_line.new.nodes) (ended a.params.now (joined a.front (ends_of part.body)) part.at part.after old) = subst (λ (b : Ends). EndsAs {A = Ended} {E = Trouble} (Ok c.in_ok-line.line) (h c.end_line.new.nodes) (ended a.params.now b part.at part.after old)) (c.then-body.ensures ∙ ap (joined a.front) c.of.ensures) c.in_ok-line.ensures in
    let e = c.in_err-whole.field-0.0 in
    let p = err_from_is_err_and c.from_residual-in_err-whole.result c.from_residual-in_err-whole.ensures.1 in
    rw (p.1, p.2) (after_end a.fonts.now a.params.now a.above a.front part a.later old (h c.end_line.new.nodes) (h c.with_right.new.nodes) c.in_ok-line.line (Err e) one
    (right_stops a.fonts.now a.params.now a.above part a.later c.in_ok-line.line (h c.end_line.new.nodes) (h c.with_right.new.nodes) e c.in_err-whole.ensures))

pub returns-in_err-discard-clause-traced : goal.returns-in_err-discard-clause-traced
returns-in_err-discard-clause-traced g c =
    let h = g.N.Nodes.heap in
    let a = c.args in
    let old = h a.nodes.now in
    let part : Part = part_seen a.part in
    let one : EndsAs {A = Ended} {E = Trouble} (Ok c.in_ok-line.line) (h c.end_line.new.nodes) (ended a.params.now (joined a.front (ends_of part.body)) part.at part.after old) = subst (λ (b : Ends). EndsAs {A = Ended} {E = Trouble} (Ok c.in_ok-line.line) (h c.end_line.new.nodes) (ended a.params.now b part.at part.after old)) (c.then-body.ensures ∙ ap (joined a.front) c.of.ensures) c.in_ok-line.ensures in
    let e = c.in_err-discard.field-0.0 in
    let p = err_from_is_err_and c.from_residual-in_err-discard.result c.from_residual-in_err-discard.ensures.1 in
    rw (p.1, p.2) (after_end a.fonts.now a.params.now a.above a.front part a.later old (h c.end_line.new.nodes) (h c.discard.new.nodes) c.in_ok-line.line (Err e) one
    (after_right a.fonts.now a.params.now a.above part a.later c.in_ok-line.line (h c.end_line.new.nodes) (h c.with_right.new.nodes) (h c.discard.new.nodes) c.in_ok-whole.whole (Err e) c.in_ok-whole.ensures
    (discard_stops a.fonts.now a.params.now a.above part a.later c.in_ok-line.line c.in_ok-whole.whole (h c.with_right.new.nodes) (h c.discard.new.nodes) e c.in_err-discard.ensures)))

pub returns-in_err-longer-clause-traced : goal.returns-in_err-longer-clause-traced
returns-in_err-longer-clause-traced g c =
    let h = g.N.Nodes.heap in
    let a = c.args in
    let old = h a.nodes.now in
    let part : Part = part_seen a.part in
    let one : EndsAs {A = Ended} {E = Trouble} (Ok c.in_ok-line.line) (h c.end_line.new.nodes) (ended a.params.now (joined a.front (ends_of part.body)) part.at part.after old) = subst (λ (b : Ends). EndsAs {A = Ended} {E = Trouble} (Ok c.in_ok-line.line) (h c.end_line.new.nodes) (ended a.params.now b part.at part.after old)) (c.then-body.ensures ∙ ap (joined a.front) c.of.ensures) c.in_ok-line.ensures in
    let e = c.in_err-longer.field-0.0 in
    let p = err_from_is_err_and c.from_residual-in_err-longer.result c.from_residual-in_err-longer.ensures.1 in
    rw (p.1, p.2) (after_end a.fonts.now a.params.now a.above a.front part a.later old (h c.end_line.new.nodes) (h c.push_line.new.nodes) c.in_ok-line.line (Err e) one
    (after_right a.fonts.now a.params.now a.above part a.later c.in_ok-line.line (h c.end_line.new.nodes) (h c.with_right.new.nodes) (h c.push_line.new.nodes) c.in_ok-whole.whole (Err e) c.in_ok-whole.ensures
    (after_discard a.fonts.now a.params.now a.above part a.later c.in_ok-line.line c.in_ok-whole.whole (h c.with_right.new.nodes) (h c.discard.new.nodes) (h c.push_line.new.nodes) _ (Err e) c.in_ok-discard.ensures
    (box_stops a.fonts.now a.params.now a.above a.later c.in_ok-line.line c.in_ok-whole.whole _ (h c.discard.new.nodes) (h c.push_line.new.nodes) e c.in_err-longer.ensures.traced))))

pub returns-in_err-longest-clause-traced : goal.returns-in_err-longest-clause-traced
returns-in_err-longest-clause-traced g c =
    let h = g.N.Nodes.heap in
    let a = c.args in
    let old = h a.nodes.now in
    let part : Part = part_seen a.part in
    let one : EndsAs {A = Ended} {E = Trouble} (Ok c.in_ok-line.line) (h c.end_line.new.nodes) (ended a.params.now (joined a.front (ends_of part.body)) part.at part.after old) = subst (λ (b : Ends). EndsAs {A = Ended} {E = Trouble} (Ok c.in_ok-line.line) (h c.end_line.new.nodes) (ended a.params.now b part.at part.after old)) (c.then-body.ensures ∙ ap (joined a.front) c.of.ensures) c.in_ok-line.ensures in
    let e = c.in_err-longest.field-0.0 in
    let p = err_from_is_err_and c.from_residual-in_err-longest.result c.from_residual-in_err-longest.ensures.1 in
    rw (p.1, p.2) (after_end a.fonts.now a.params.now a.above a.front part a.later old (h c.end_line.new.nodes) (h c.push_penalty.new.nodes) c.in_ok-line.line (Err e) one
    (after_right a.fonts.now a.params.now a.above part a.later c.in_ok-line.line (h c.end_line.new.nodes) (h c.with_right.new.nodes) (h c.push_penalty.new.nodes) c.in_ok-whole.whole (Err e) c.in_ok-whole.ensures
    (after_discard a.fonts.now a.params.now a.above part a.later c.in_ok-line.line c.in_ok-whole.whole (h c.with_right.new.nodes) (h c.discard.new.nodes) (h c.push_penalty.new.nodes) _ (Err e) c.in_ok-discard.ensures
    (after_box a.fonts.now a.params.now a.above c.in_ok-longer.longer a.later c.in_ok-line.line c.in_ok-whole.whole _ (h c.discard.new.nodes) (h c.push_line.new.nodes) (h c.push_penalty.new.nodes) (Err e) c.in_ok-longer.ensures.traced
    (penalty_stops a.params.now a.above c.in_ok-longer.longer a.later c.in_ok-line.line (h c.push_line.new.nodes) (h c.push_penalty.new.nodes) e (penalty_so (Err e) a.params.now c.is_none-is_first.result (is_none a.above.first) c.in_ok-line.line.is_hyphenated a.later c.in_ok-longer.longer (h c.push_line.new.nodes) (h c.push_penalty.new.nodes) (none_so a.above.first c.is_none-is_first.result c.is_none-is_first.ensures) c.in_err-longest.ensures.traced))))))

pub returns-clause-traced : goal.returns-clause-traced
returns-clause-traced g c =
    let h = g.N.Nodes.heap in
    let a = c.args in
    let old = h a.nodes.now in
    let part : Part = part_seen a.part in
    let one : EndsAs {A = Ended} {E = Trouble} (Ok c.in_ok-line.line) (h c.end_line.new.nodes) (ended a.params.now (joined a.front (ends_of part.body)) part.at part.after old) = subst (λ (b : Ends). EndsAs {A = Ended} {E = Trouble} (Ok c.in_ok-line.line) (h c.end_line.new.nodes) (ended a.params.now b part.at part.after old)) (c.then-body.ensures ∙ ap (joined a.front) c.of.ensures) c.in_ok-line.ensures in
    (after_end a.fonts.now a.params.now a.above a.front part a.later old (h c.end_line.new.nodes) (h c.push_penalty.new.nodes) c.in_ok-line.line (Ok (c.in_ok-longest.longest, c.in_ok-line.line.front)) one
    (after_right a.fonts.now a.params.now a.above part a.later c.in_ok-line.line (h c.end_line.new.nodes) (h c.with_right.new.nodes) (h c.push_penalty.new.nodes) c.in_ok-whole.whole (Ok (c.in_ok-longest.longest, c.in_ok-line.line.front)) c.in_ok-whole.ensures
    (after_discard a.fonts.now a.params.now a.above part a.later c.in_ok-line.line c.in_ok-whole.whole (h c.with_right.new.nodes) (h c.discard.new.nodes) (h c.push_penalty.new.nodes) _ (Ok (c.in_ok-longest.longest, c.in_ok-line.line.front)) c.in_ok-discard.ensures
    (after_box a.fonts.now a.params.now a.above c.in_ok-longer.longer a.later c.in_ok-line.line c.in_ok-whole.whole _ (h c.discard.new.nodes) (h c.push_line.new.nodes) (h c.push_penalty.new.nodes) (Ok (c.in_ok-longest.longest, c.in_ok-line.line.front)) c.in_ok-longer.ensures.traced
    (penalty_done a.params.now a.above c.in_ok-longer.longer c.in_ok-longest.longest a.later c.in_ok-line.line (h c.push_line.new.nodes) (h c.push_penalty.new.nodes) (penalty_so (Ok c.in_ok-longest.longest) a.params.now c.is_none-is_first.result (is_none a.above.first) c.in_ok-line.line.is_hyphenated a.later c.in_ok-longer.longer (h c.push_line.new.nodes) (h c.push_penalty.new.nodes) (none_so a.above.first c.is_none-is_first.result c.is_none-is_first.ensures) c.in_ok-longest.ensures.traced))))))
