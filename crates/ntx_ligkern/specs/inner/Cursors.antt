-- Cursors of the code as spots: the nodes ahead are kept with the nearest one last.
use Rattle.std.specs.Prelude.{ℕ, Bool, if◌then◌else◌, List, ◌∷◌, reverse, Option}
use Rattle.std.specs.Option.{option_map}
use Rattle.ntx_ligkern.specs.Ligatures.{Spot}
use Rattle.ntx_ligkern.specs.declared.cursor.Cursor.{Cursor}

abbrev pub spot_of : Cursor → List ℕ → Spot
spot_of cursor ahead = record { before = cursor.before; at = cursor.at; ahead = reverse ahead; count = cursor.count }

abbrev pub spot_from : List ℕ → Option Cursor → Option Spot
spot_from ahead at = option_map (λ cursor. spot_of cursor ahead) at

abbrev pub pushed_if : Bool → ℕ → List ℕ → List ℕ
pushed_if keeps n names = if keeps then n ∷ names else names
