use Rattle.std.proofs.Common.{subst}
use Rattle.std.proofs.lemmas.List.{take_rest}
use Rattle.ntx_syntax.specs.inner.Front.{IsCommentRest}
use Rattle.ntx_syntax.proofs.CommentLemmas.{comment_front, two_dashes}
use Rattle.ntx_syntax.proofs.comment.comment.Goals as goal

pub returns-clause-front : goal.returns-clause-front
returns-clause-front c =
    let piece = c.comment_rest-piece.result in
    comment_front c.args.bytes.now piece.1 piece.0 (two_dashes c.args.bytes.now c.requires)
    (subst (λ rest. IsCommentRest rest piece.1 piece.0) (take_rest c.args.bytes.now 2) c.comment_rest-piece.ensures)
