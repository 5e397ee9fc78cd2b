-- What is known of a pass between two places.
use Rattle.std.specs.Prelude.{◌≡◌, ℕ, ◌+◌, ◌<◌, ◌≤◌, pos, ◌<ℤ◌, List, ◌++◌, length, take, slice_index_or}
use Rattle.std.specs.List.{All, AllPairs}
use Rattle.ntx_item.specs.declared.item.Item.{Item}
use Rattle.ntx_item.specs.Settings.{Settings}
use Rattle.ntx_legal.specs.Places.{item_at}
use Rattle.ntx_breaks.specs.declared.pass.Pass.{Pass}
use Rattle.ntx_breaks.specs.declared.state.State.{State}
use Rattle.ntx_breaks.specs.declared.search.Search.{Search}
use Rattle.ntx_breaks.specs.Penalties.{penalty_of}
use Rattle.ntx_breaks.specs.States.{alive_states}
use Rattle.ntx_breaks.specs.Chosen.{Found, found_up_to}
use Rattle.ntx_breaks.specs.inner.Bounds.{IsWithin}

-- a line may end at the place
pub record IsPlace (params : Settings) (items : List Item) (place : ℕ) : Type 0 where
  pub low : 0 < place
  pub high : place ≤ length items + 1
  pub penalty : penalty_of params (item_at items place) <ℤ pos 10000

pub record ArePlaces (params : Settings) (items : List Item) (places : List ℕ) : Type 0 where
  pub each : All (IsPlace params items) places
  pub ascending : AllPairs (λ (a b : ℕ). a < b) places

abbrev pub found_seen : Search → Found
found_seen s = record { states = s.states.items; artificial = s.artificial; last_resort = s.last_resort }

-- a list of states with further ones after it
pub record Extends (P : State → Type 0) (states more : List State) : Type 0 where
  pub made : List State
  pub is : more ≡ states ++ made
  pub each : All P made

-- a state stands before the places that come after the first n
pub record IsBeforeRest (places : List ℕ) (n : ℕ) (state : State) : Type 0 where
  pub place : (j d : ℕ) → n ≤ j → j < length places → state.place < slice_index_or places j d
  pub total : IsWithin state

pub record IsSound (params : Settings) (items : List Item) (pass : Pass) (places : List ℕ) (n : ℕ) (found : Search) : Type 0 where
  pub seen : found_seen found ≡ found_up_to params items pass places n
  pub live : found.live.items ≡ alive_states params items pass (take n places) found.states.items
  pub before : All (IsBeforeRest places n) found.states.items
