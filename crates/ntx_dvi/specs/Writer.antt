-- What a writer of a DVI file is, to its caller: how far the file has come, how long it may become, and the bytes that were not taken
-- yet. A step writes one operation, if there is room for all of it.
use Rattle.std.specs.Prelude.{◌≡◌, ℕ, ◌-◌, ◌<◌, ◌^◌, if◌then◌else◌, List, [], ◌++◌, Result, Ok, Err}
use Rattle.ntx_dvi.specs.declared.full.DviFull.{DviFull}
use Rattle.ntx_dvi.specs.Operation.{Operation}
use Rattle.ntx_dvi.specs.Progress as progress
use Rattle.ntx_dvi.specs.Bytes.{operation_bytes}
use Rattle.ntx_dvi.specs.File.{after}
use Rattle.ntx_dvi.specs.Output.{ends_within}

pub record Writer : Type 0 where
  -- the most bytes that the file may have
  pub limit : ℕ
  pub progress : progress.Progress
  -- the bytes that were written and not yet taken
  pub waiting : List ℕ

-- a writer that has written nothing
abbrev pub new_writer : ℕ → Writer
new_writer limit = record { limit = limit; progress = progress.start; waiting = [] }

-- the writer once it has written the operation, whatever the limit
abbrev pub with_operation : Writer → Operation → Writer
with_operation w operation =
    record w { progress = after w.progress operation; waiting = w.waiting ++ operation_bytes w.progress operation }

-- An operation is written if it ends within the limit, and is refused otherwise.
unfoldable pub step : Operation → Writer → Result (Unit {0} × Writer) DviFull
step operation w =
    if ends_within w.limit w.progress.place (operation_bytes w.progress operation) then Ok (tt, with_operation w operation)
    else Err (record {})

-- Nothing is written yet.
abbrev pub IsNew : Writer → Type 0
IsNew w = w.progress.part ≡ progress.BeforeBegin

-- The preamble and some whole pages are written, and not the postamble.
abbrev pub IsBetweenPages : Writer → Type 0
IsBetweenPages w = w.progress.part ≡ progress.BetweenPages

-- A page has begun and not ended.
abbrev pub IsInPage : Writer → Type 0
IsInPage w = w.progress.part ≡ progress.InPage

-- The page has an open push.
abbrev pub HasOpenPush : Writer → Type 0
HasOpenPush w = 0 < w.progress.open_pushes

-- One more push may be open.
abbrev pub MayPush : Writer → Type 0
MayPush w = w.progress.open_pushes < 2 ^ 16 - 1

-- No push is open.
abbrev pub HasNoOpenPush : Writer → Type 0
HasNoOpenPush w = w.progress.open_pushes ≡ 0

-- The new one is in the same part of the file, with as many open pushes.
abbrev pub StaysOnPage : Writer → Writer → Type 0
StaysOnPage old new = (new.progress.part ≡ old.progress.part) × (new.progress.open_pushes ≡ old.progress.open_pushes)
