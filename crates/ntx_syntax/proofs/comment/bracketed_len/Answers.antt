use Rattle.std.proofs.Common.{sym, ◌∙◌, ap}
use Rattle.std.proofs.lemmas.List.{take_rest}
use Rattle.ntx_syntax.specs.Pieces.{bracket_level, is_level}
use Rattle.ntx_syntax.proofs.CommentLemmas.{not_here, is_level-eq}
use Rattle.ntx_syntax.proofs.comment.bracketed_len.Goals as goal

pub loop-at-preserved : goal.loop-at-preserved
loop-at-preserved c =
    let bytes = c.args.bytes.now in
    let level = c.args.level in
    not_here level c.loop-at.at bytes _ c.loop-at.invariant c.loop-at-test.true
    (ap (λ rest. is_level level (bracket_level 93 rest)) (sym (take_rest bytes c.loop-at.at))
    ∙ ap (is_level level) (sym c.bracket_level.ensures.value)
    ∙ is_level-eq level c.bracket_level.result
    ∙ sym c.eq.ensures
    ∙ c.if-eq.false)
