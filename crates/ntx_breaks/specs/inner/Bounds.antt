-- How great the numbers of states can be.
--     most_cost                         the greatest demerits of a line: the two squares, those of hyphens and those of classes
--     IsWithin state                    a state has no more demerits than its lines can have
--     IsBefore to state, IsMade to state    and it stands before a place, or at it
--     IsWay to way                      a line to a place, from a state before it
use Rattle.std.specs.Prelude.{◌≡◌, ℕ, ◌*◌, ◌<◌, ◌≤◌, ◌^◌, pos, ◌≤ℤ◌, ◌<ℤ◌, unsigned_abs}
use Rattle.ntx_legal.specs.declared.fit.Line.{Line}
use Rattle.ntx_breaks.specs.declared.pass.Pass.{Pass}
use Rattle.ntx_breaks.specs.declared.state.State.{State}
use Rattle.ntx_breaks.specs.declared.way.Way.{Way}

abbrev pub most_cost : ℕ
most_cost = 400000000

-- places are at most this great
abbrev pub most_place : ℕ
most_place = 2 ^ 20

abbrev pub IsWithin : State → Type 0
IsWithin state = unsigned_abs state.total ≤ most_cost * state.place

pub record IsBefore (to : ℕ) (state : State) : Type 0 where
  pub place : state.place < to
  pub total : IsWithin state

pub record IsMade (to : ℕ) (state : State) : Type 0 where
  pub place : state.place ≡ to
  pub total : IsWithin state

pub record IsLineInRange (line : Line) : Type 0 where
  pub low : pos 0 ≤ℤ line.b
  pub high : line.b ≤ℤ pos 10001

pub record IsWay (to : ℕ) (way : Way) : Type 0 where
  pub start : IsBefore to way.from
  pub line : IsLineInRange way.line

-- the stretch of each line is one that `ntx_legal` takes
pub record IsPassInRange (pass : Pass) : Type 0 where
  pub low : pos 0 ≤ℤ pass.extra
  pub high : pass.extra <ℤ pos (2 ^ 30)
