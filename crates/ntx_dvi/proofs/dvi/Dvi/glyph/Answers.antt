-- The three parts of a glyph, one after another.
use Rattle.std.proofs.Common.{[], ◌∷◌, ◌∙◌}
use Rattle.std.proofs.lemmas.Result.{err_from_is_err_and}
use Rattle.ntx_dvi.specs.Operation.{SetCharacter}
use Rattle.ntx_dvi.specs.Fonts.{choosing}
use Rattle.ntx_dvi.specs.contracts.dvi.Dvi.{the_view}
use Rattle.ntx_dvi.proofs.Writing.{writes_append, writes_stop}
use Rattle.ntx_dvi.proofs.FontsLemmas.{glyph_ready, may_be_defined, others_stay_as, others_stay_set, numbers_fit, chosen_from}
use Rattle.ntx_dvi.proofs.dvi.Dvi.glyph.Goals as goal

pub returns-in_err-ensure_defined-clause-writes : goal.returns-in_err-ensure_defined-clause-writes
returns-in_err-ensure_defined-clause-writes c =
    let p = err_from_is_err_and c.from_residual.result c.from_residual.ensures.1 in
    let stopped = writes_stop (choosing c.args.self.now.progress.font c.args.font) c.in_err-ensure_defined.ensures.writes in
    rw (p.1, p.2) (writes_stop (SetCharacter c.args.code ∷ []) stopped)

pub returns-in_err-ensure_current-clause-writes : goal.returns-in_err-ensure_current-clause-writes
returns-in_err-ensure_current-clause-writes c =
    let p = err_from_is_err_and c.from_residual-in_err-ensure_current.result c.from_residual-in_err-ensure_current.ensures.1 in
    let chosen = chosen_from _ _ c.args.font c.in_ok-ensure_defined.ensures.font c.in_err-ensure_current.ensures.writes in
    rw (p.1, p.2) (writes_stop (SetCharacter c.args.code ∷ []) (writes_append c.in_ok-ensure_defined.ensures.writes chosen))

pub returns-clause-writes : goal.returns-clause-writes
returns-clause-writes c =
    let chosen = chosen_from _ _ c.args.font c.in_ok-ensure_defined.ensures.font c.in_ok-ensure_current.ensures.writes in
    writes_append (writes_append c.in_ok-ensure_defined.ensures.writes chosen) c.set_character.ensures.writes

pub returns-in_err-ensure_defined-clause-ready : goal.returns-in_err-ensure_defined-clause-ready
returns-in_err-ensure_defined-clause-ready c =
    let within = numbers_fit (the_view c.self.inside) c.args.self.now c.args.font c.self.view_is c.self.invariant.3 c.requires.number in
    glyph_ready c.args.self.now.progress c.args.font c.args.def.now c.args.code within

pub returns-in_err-ensure_current-clause-ready : goal.returns-in_err-ensure_current-clause-ready
returns-in_err-ensure_current-clause-ready c =
    let within = numbers_fit (the_view c.self.inside) c.args.self.now c.args.font c.self.view_is c.self.invariant.3 c.requires.number in
    glyph_ready c.args.self.now.progress c.args.font c.args.def.now c.args.code within

pub returns-clause-ready : goal.returns-clause-ready
returns-clause-ready c =
    let within = numbers_fit (the_view c.self.inside) c.args.self.now c.args.font c.self.view_is c.self.invariant.3 c.requires.number in
    glyph_ready c.args.self.now.progress c.args.font c.args.def.now c.args.code within

pub returns-in_err-ensure_current-clause-again : goal.returns-in_err-ensure_current-clause-again
returns-in_err-ensure_current-clause-again c =
    let within = numbers_fit (the_view c.self.inside) c.args.self.now c.args.font c.self.view_is c.self.invariant.3 c.requires.number in
    may_be_defined c.args.self.now.progress.fonts _ c.args.font c.args.def.now (c.in_err-ensure_current.ensures.fonts ∙ c.in_ok-ensure_defined.ensures.fonts) within

pub returns-clause-again : goal.returns-clause-again
returns-clause-again c =
    let within = numbers_fit (the_view c.self.inside) c.args.self.now c.args.font c.self.view_is c.self.invariant.3 c.requires.number in
    may_be_defined c.args.self.now.progress.fonts _ c.args.font c.args.def.now (c.set_character.ensures.fonts ∙ c.in_ok-ensure_current.ensures.fonts ∙ c.in_ok-ensure_defined.ensures.fonts) within

pub returns-in_err-ensure_defined-clause-others : goal.returns-in_err-ensure_defined-clause-others
returns-in_err-ensure_defined-clause-others c =
    others_stay_as c.args.self.now.progress.fonts _ c.args.font c.in_err-ensure_defined.ensures.undefined

pub returns-in_err-ensure_current-clause-others : goal.returns-in_err-ensure_current-clause-others
returns-in_err-ensure_current-clause-others c =
    others_stay_set c.args.self.now.progress.fonts _ c.args.font c.args.def.now (c.in_err-ensure_current.ensures.fonts ∙ c.in_ok-ensure_defined.ensures.fonts)

pub returns-clause-others : goal.returns-clause-others
returns-clause-others c =
    others_stay_set c.args.self.now.progress.fonts _ c.args.font c.args.def.now (c.set_character.ensures.fonts ∙ c.in_ok-ensure_current.ensures.fonts ∙ c.in_ok-ensure_defined.ensures.fonts)
