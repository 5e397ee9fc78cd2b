-- The bytes of a DVI file are the bytes of its operations, one after another, each as the operations before it have left things.
-- A file's bytes are `file_bytes start operations`.
use Rattle.std.specs.Prelude.{ℕ, ◌+◌, List, [], ◌∷◌, ◌++◌, length}
use Rattle.ntx_dvi.specs.Operation.{Operation}
use Rattle.ntx_dvi.specs.Progress.{Progress, apart_from_place}
use Rattle.ntx_dvi.specs.Bytes.{operation_bytes}

-- what an operation leaves
abbrev pub after : Progress → Operation → Progress
after p operation = record (apart_from_place p operation) { place = p.place + length (operation_bytes p operation) }

-- the bytes of several operations
abbrev pub file_bytes : Progress → List Operation → List ℕ
file_bytes p [] = []
file_bytes p (operation ∷ operations) = operation_bytes p operation ++ file_bytes (after p operation) operations
