use Rattle.std.proofs.Common.{◌+◌, ◌≤◌, length, drop, sym, ◌∙◌, ap, subst}
use Rattle.std.proofs.lemmas.List.{take_rest}
use Rattle.ntx_syntax.specs.inner.Front.{bracketed_len}
use Rattle.ntx_syntax.proofs.CommentLemmas.{line_comment, open_comment, closed_comment, bracketed_some}
use Rattle.ntx_syntax.proofs.comment.comment_rest.Goals as goal

pub returns-in-None : goal.returns-in-None
returns-in-None c = line_comment c.args.bytes.now c.run.result (sym c.bracket_level.ensures.value ∙ c.in-None.is) c.run.ensures.value

pub returns-in-None-bracketed_len : goal.returns-in-None-bracketed_len
returns-in-None-bracketed_len c =
    let level = c.in-Some.level in
    open_comment c.args.bytes.now level (sym c.bracket_level.ensures.value ∙ c.in-Some.is) c.in-Some.ensures.within
    (ap (bracketed_len level) (sym (take_rest c.args.bytes.now (level + 2))) ∙ sym c.bracketed_len.ensures.value ∙ c.in-None-bracketed_len.is)

pub returns-in-Some-bracketed_len : goal.returns-in-Some-bracketed_len
returns-in-Some-bracketed_len c =
    let level = c.in-Some.level in
    let len = c.in-Some-bracketed_len.len in
    let closed = ap (bracketed_len level) (sym (take_rest c.args.bytes.now (level + 2))) ∙ sym c.bracketed_len.ensures.value ∙ c.in-Some-bracketed_len.is in
    closed_comment c.args.bytes.now level (sym c.bracket_level.ensures.value ∙ c.in-Some.is) c.in-Some.ensures.within len closed
    (subst (λ rest. len ≤ length rest) (take_rest c.args.bytes.now (level + 2)) c.in-Some-bracketed_len.ensures.within)
    (bracketed_some level (drop (level + 2) c.args.bytes.now) len closed)
