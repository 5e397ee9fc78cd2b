-- What an adapter over a file passes on: the bytes of the file, if the file exposes them.
use Rattle.std.specs.Prelude.{ℕ, List, Option, Some, None}

-- what a file exposes, if it is open
abbrev pub exposed_by : {F : Type 0} → (F → Option (List ℕ)) → Option F → Option (List ℕ)
exposed_by exposes (Some file) = exposes file
exposed_by exposes None = None
