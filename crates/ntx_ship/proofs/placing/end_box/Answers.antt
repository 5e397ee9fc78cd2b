-- A box ends as the list in it did.
use Rattle.std.proofs.Common.{◌∷◌, [], ◌++◌, subst}
use Rattle.std.specs.Prelude.{Result}
use Rattle.ntx_num.specs.declared.answer.Fail.{Fail}
use Rattle.ntx_nodes.specs.declared.trouble.Trouble.{Trouble}
use Rattle.ntx_ship.specs.declared.piece.Piece.TheVariants.{Push}
use Rattle.ntx_ship.specs.inner.Adding.{Adds}
use Rattle.ntx_ship.proofs.Adds.{box_refused}
use Rattle.ntx_ship.proofs.placing.end_box.Goals as goal

pub returns-in-Err : goal.returns-in-Err
returns-in-Err c = λ old list count adds.
    box_refused c.in-Err.why old c.args.pieces.now.items c.args.pieces.now.items list
    (subst (λ (r : Result (Unit {0}) (Fail Trouble)). Adds r (old ++ Push ∷ []) c.args.pieces.now.items list) c.in-Err.is adds)
