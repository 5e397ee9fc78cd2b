-- Bytes that go one after another into a file of a greatest length.
use Rattle.std.specs.Prelude.{ℕ, ◌+◌, nat_le, Bool, if◌then◌else◌, List, ◌++◌, length, Result, Ok, Err}
use Rattle.ntx_dvi.specs.declared.full.DviFull.{DviFull}

-- Whether the bytes, put at the place, end within the limit.
abbrev pub ends_within : ℕ → ℕ → List ℕ → Bool
ends_within limit place bytes = nat_le (place + length bytes) limit

pub record Room : Type 0 where
  -- the most bytes that the file may have
  pub limit : ℕ
  -- how many bytes it has, which is the place of the next one
  pub place : ℕ
  -- the bytes that were not yet taken
  pub waiting : List ℕ

-- All the bytes are appended, or none where they would not end within the limit.
abbrev pub append_step : List ℕ → Room → Result (Unit {0} × Room) DviFull
append_step bytes room =
    if ends_within room.limit room.place bytes then
    Ok (tt, record room { place = room.place + length bytes; waiting = room.waiting ++ bytes })
    else Err (record {})
