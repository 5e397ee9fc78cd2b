use Rattle.std.proofs.Common.{ℕ, List, Ok, sym, ◌∙◌, ap, subst}
use Rattle.std.specs.Prelude.{All}
use Rattle.std.proofs.lemmas.Result.{err_from_is_err_and}
use Rattle.ntx_patterns.specs.Kept.{table}
use Rattle.ntx_patterns.specs.Points.{points_in}
use Rattle.ntx_hyph.specs.Hyphenation.{points_with}
use Rattle.ntx_hyph.specs.inner.Sound.{IsSound}
use Rattle.ntx_hyph.proofs.SoundGaps.{gaps_sound}
use Rattle.ntx_hyph.proofs.Endings.{list_stops, memory_stops, hyphens_made, list_refuses, makings_refuse}
use Rattle.ntx_hyph.proofs.pass.hyphenate_list.Goals as goal

pub returns-in_err-names-clause-traced : goal.returns-in_err-names-clause-traced
returns-in_err-names-clause-traced g c =
    let h = g.N.Nodes.heap in
    let points = points_in (table c.args.p.now) in
    let heap = h c.args.nodes.now in
    let new = h c.list_names.new.nodes in
    let p = err_from_is_err_and c.from_residual.result c.from_residual.ensures.1 in
    rw (p.1, p.2) (list_stops points c.args.params.now c.args.head heap new c.in_err-names.field-0.0 c.in_err-names.ensures.same c.in_err-names.ensures.names)

pub returns-in_err-names-clause-refused : goal.returns-in_err-names-clause-refused
returns-in_err-names-clause-refused g c =
    let p = err_from_is_err_and c.from_residual.result c.from_residual.ensures.1 in
    rw (p.1, p.2) (list_refuses (g.N.Nodes.heap c.args.nodes.now) c.args.head c.in_err-names.field-0.0 c.in_err-names.ensures.names)

pub returns-in_err-gaps-in-Some-clause-traced : goal.returns-in_err-gaps-in-Some-clause-traced
returns-in_err-gaps-in-Some-clause-traced g c =
    let h = g.N.Nodes.heap in
    let points = points_in (table c.args.p.now) in
    let heap = h c.args.nodes.now in
    let new = h c.list_names.new.nodes in
    let p = err_from_is_err_and c.from_residual-in_err-gaps-in-Some.result c.from_residual-in_err-gaps-in-Some.ensures.1 in
    rw (p.1, p.2) (memory_stops points c.args.params.now c.args.head heap new c.in_ok-names.ensures.same)

pub hyphenate_gaps-requires : goal.hyphenate_gaps-requires
hyphenate_gaps-requires g c =
    let heap = g.N.Nodes.heap c.list_names.new.nodes in
    subst (All (IsSound heap)) (sym (c.deref-in-Some.ensures.value ∙ c.in_ok-gaps-in-Some.ensures)) (gaps_sound heap (points_with (points_in (table c.args.p.now)) c.args.params.now) c.deref.result.now c.lawful.ensures.lawful)

pub returns-clause-traced : goal.returns-clause-traced
returns-clause-traced g c =
    let h = g.N.Nodes.heap in
    let points = points_in (table c.args.p.now) in
    let heap = h c.args.nodes.now in
    let mid = h c.list_names.new.nodes in
    let new = h c.hyphenate_gaps.new.nodes in
    hyphens_made points c.args.params.now c.args.head c.in-Some.char heap mid new c.deref.result.now c.deref-in-Some.result.now c.in_ok-gaps-in-Some.gaps.items c.hyphenate_gaps.result c.in_ok-names.ensures.same (c.in_ok-names.ensures.names ∙ ap (λ (x : List ℕ). Ok x) (sym c.deref.ensures.value)) c.in-Some.ensures
    c.deref-in-Some.ensures.value c.in_ok-gaps-in-Some.ensures c.hyphenate_gaps.ensures.traced

pub returns-clause-refused : goal.returns-clause-refused
returns-clause-refused g c = makings_refuse (g.N.Nodes.heap c.args.nodes.now) c.args.head c.hyphenate_gaps.result c.hyphenate_gaps.ensures.refused
