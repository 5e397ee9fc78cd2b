-- What calls say that put pieces together.
use Rattle.std.specs.Prelude.{◌≡◌, ℕ, ◌-◌, nat_eq, if◌then◌else◌, List, ◌∷◌, [], ◌++◌, length, take, Result, Ok, Err}
use Rattle.ntx_num.specs.Answer.{result_map}
use Rattle.ntx_num.specs.declared.answer.Fail.{Fail}
use Rattle.ntx_num.specs.declared.answer.Fail.TheVariants.{NoMemory, Is}
use Rattle.ntx_nodes.specs.declared.trouble.Trouble.{Trouble}
use Rattle.ntx_ship.specs.declared.piece.Piece.{Piece}
use Rattle.ntx_ship.specs.declared.piece.Piece.TheVariants.{Pop}
use Rattle.ntx_ship.specs.Placed.{Pieces}

-- these pieces, after others
abbrev pub after : List Piece → Pieces → Pieces
after old pieces = result_map (λ more. old ++ more) pieces

abbrev pub AddsAs : Result (Unit {0}) (Fail Trouble) → List Piece → List Piece → Pieces → Type 0
AddsAs (Ok _) old new pieces = after old pieces ≡ Ok new
AddsAs (Err (Is why)) old new pieces = pieces ≡ Err why
AddsAs (Err NoMemory) old new pieces = Unit {0}

-- The pieces are put at the end of those before, or refused. If memory runs out some of them may be there.
pub record Adds (result : Result (Unit {0}) (Fail Trouble)) (old new : List Piece) (pieces : Pieces) : Type 0 where
  pub done : AddsAs result old new pieces

-- Ends a box: appends its pop, or removes its push if nothing was added after it.
abbrev pub closed : ℕ → List Piece → List Piece
closed full pieces = if nat_eq (length pieces) full then take (length pieces - 1) pieces else pieces ++ Pop ∷ []
