use Rattle.std.proofs.Common.{◌≡◌, ◌+◌, ◌-◌, length, take, drop, is_ok, ◌∙◌, ap, subst, arith}
use Rattle.std.proofs.lemmas.List.{take_rest, length-take, length-drop}
use Rattle.std.proofs.ResultArms.{chosen}
use Rattle.ntx_syntax.specs.declared.piece.Piece.{Piece}
use Rattle.ntx_syntax.specs.Lexes.{line_ends}
use Rattle.ntx_syntax.specs.inner.Front.{IsFront}
use Rattle.ntx_syntax.proofs.LexLemmas.{step_gap, step_token, step_wrong, at_end}
use Rattle.ntx_syntax.proofs.lex.lex.Goals as goal
use Rattle.ntx_syntax.proofs.lex.lex.Goals.{in-Gap, in-Token+in_ok-push-in-Token}

pub returns-in-Wrong : goal.returns-in-Wrong
returns-in-Wrong c =
    let s = c.loop-start in
    let bytes = c.args.bytes.now in
    step_wrong s.found.items s.start s.line c.front-piece.result.1 bytes _ s.invariant.rest c.in-Wrong.why
    (subst (λ (p : Piece). IsFront (drop s.start bytes) c.front-piece.result.1 p) c.in-Wrong.is (subst (λ rest. IsFront rest c.front-piece.result.1 c.front-piece.result.0) (take_rest bytes s.start) c.front-piece.ensures))

pub returns : goal.returns
returns c = let s = c.loop-start in at_end s.found.items s.start s.line c.args.bytes.now _ s.invariant.rest c.loop-start-test.false

pub loop-start-preserved : goal.loop-start-preserved
loop-start-preserved c =
    let s = c.loop-start in
    let bytes = c.args.bytes.now in
    let len = c.front-piece.result.1 in
    let front : IsFront (drop s.start bytes) len c.front-piece.result.0 = subst (λ rest. IsFront rest len c.front-piece.result.0) (take_rest bytes s.start) c.front-piece.ensures in
    let ends : c.line_ends.result ≡ line_ends (take len (drop s.start bytes)) = c.line_ends.ensures.value ∙ ap (λ rest. line_ends (take len rest)) (take_rest bytes s.start) in
    record {
      rest = elim c.match-piece.branch [
        | in-Gap w ↦ step_gap s.found.items s.start s.line len bytes _ s.invariant.rest _ _ (subst (λ (p : Piece). IsFront (drop s.start bytes) len p) w.in-Gap.is front) (ap (λ v. v.items) w.found-is) (ap (λ n. s.line + n) ends)
        | in-Token+in_ok-push-in-Token w ↦ step_token s.found.items s.start s.line len bytes _ s.invariant.rest _ _ w.in-Token.sort (subst (λ (p : Piece). IsFront (drop s.start bytes) len p) w.in-Token.is front) (ap (λ v. v.items) w.found-is ∙ chosen _ _ _ _ w.push.ensures.items (ap is_ok w.in_ok-push-in-Token.was)) (ap (λ n. s.line + n) ends)
      ];
      within = omega (arith, front.within, length-drop s.start bytes);
      lines = omega (arith, c.line_ends.ensures.within, length-take len (take (length bytes - s.start) (drop s.start bytes)));
    }
