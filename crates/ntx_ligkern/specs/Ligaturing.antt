-- Ligatures in a list ("TeX: The Program", sections 1034 and 1040; LuaTeX Reference Manual, chapter "Languages, characters, fonts and glyphs"), as a machine
-- of turns over the nodes of the list and of the three lists of each discretionary.
--     Chore                         what is to be done
--     turn fonts head chore heap    one turn: the head of the list afterwards, and the chores that take the place of this one
--     turns k fonts state heap      k turns, or as many as there are
--     ligatured k fonts head heap   the pass over the list at a head, which is over where no chore is left
use Rattle.std.specs.Prelude.{ℕ, zero, suc, List, [], ◌∷◌, ◌++◌, slice_get, Option, None, Some, Result, Ok, Err}
use Rattle.std.specs.Option.{option_or, option_and_then}
use Rattle.std.specs.FinMap as fin
use Rattle.ntx_num.specs.Trace.{Trace, stays, trace_and_then}
use Rattle.ntx_nodes.specs.Heap.{Heap}
use Rattle.ntx_nodes.specs.Walk.{checked_walk}
use Rattle.ntx_nodes.specs.declared.contents.DiscFields.{DiscFields}
use Rattle.ntx_nodes.specs.declared.field.Field.{Field}
use Rattle.ntx_nodes.specs.declared.field.Field.TheVariants.{Next, Pre, Post, Replace}
use Rattle.ntx_nodes.specs.declared.fields.Contents.{Contents}
use Rattle.ntx_nodes.specs.declared.fields.Contents.TheVariants as contents
use Rattle.ntx_nodes.specs.declared.kind.ListKind.TheVariants.{H}
use Rattle.ntx_nodes.specs.declared.trouble.Trouble.{Trouble}
use Rattle.ntx_tfm.specs.Font.{FontTables}
use Rattle.ntx_ligkern.specs.Along.{along}
use Rattle.ntx_ligkern.specs.Kerns.{last_of}
use Rattle.ntx_ligkern.specs.Ligatures.{Spot, spot_in, moved_on, lig_between, linked, copied, put_in, ligated}
use Rattle.ntx_ligkern.specs.declared.lig.Lig.{Lig}

-- ---- what is to be done
pub data Chore : Type 0 where
  -- to go on from a spot of the list
  InList : Spot → Chore
  -- at a discretionary of the list, with these nodes ahead of it
  AtDisc : ℕ → List ℕ → Chore
  -- to go through one of the lists of a discretionary, by itself
  OfDisc : ℕ → Field → Chore
  -- to go on from a spot of such a list
  InPart : Spot → Chore

abbrev pub from_spot : (Spot → Chore) → Option Spot → List Chore
from_spot chore None = []
from_spot chore (Some spot) = chore spot ∷ []

-- ---- discretionaries
abbrev pub disc_of : Contents → Option DiscFields
disc_of (contents.Disc d) = Some d
disc_of _ = None

abbrev pub disc_at : Heap → ℕ → Option DiscFields
disc_at heap n = option_and_then (λ node. disc_of node.fields.contents) (fin.get heap.nodes n)

abbrev pub part_of : Field → DiscFields → Option ℕ
part_of Pre d = d.pre
part_of Post d = d.post
part_of Replace d = d.replace
part_of _ d = None

abbrev pub link_at : Heap → ℕ → Field → Option ℕ
link_at heap disc f = option_and_then (part_of f) (disc_at heap disc)

abbrev pub part_at : Heap → ℕ → Field → List ℕ
part_at heap disc f = along heap (link_at heap disc f)

-- a copy of a node, before `next`, with a link that leads to it
abbrev pub copied_into : ℕ → ℕ → Field → Option ℕ → Heap → Trace Heap (Unit {0}) Trouble
copied_into n at f next heap = trace_and_then (copied n heap) (λ copy made. put_in copy at f next made)

-- the node before a node is linked to it, if there is one
abbrev pub linked_from : Option ℕ → ℕ → Heap → Trace Heap (Unit {0}) Trouble
linked_from None n heap = stays heap (Ok tt)
linked_from (Some before) n heap = linked before Next (Some n) heap

-- A copy of the glyph x before a discretionary comes to the front of `pre`, and x itself moves to the front of `replace`.
abbrev pub moved_in : Option ℕ → ℕ → ℕ → DiscFields → Heap → Trace Heap (Unit {0}) Trouble
moved_in before x disc d heap = trace_and_then (linked_from before disc heap) (λ _ out. put_in x disc Replace d.replace out)

abbrev pub drawn_before : Option ℕ → ℕ → ℕ → DiscFields → Heap → Trace Heap (Unit {0}) Trouble
drawn_before before x disc d heap = trace_and_then (copied_into x disc Pre d.pre heap) (λ _ made. moved_in before x disc d made)

-- a copy of a node comes to the end of `post`, whose last node is this one
abbrev pub copied_to_post : ℕ → ℕ → Option ℕ → Heap → Trace Heap (Unit {0}) Trouble
copied_to_post y disc None heap = copied_into y disc Post None heap
copied_to_post y disc (Some last) heap = copied_into y last Next None heap

-- The glyph y after a discretionary moves to the end of `replace`, and what came after it comes after the discretionary.
abbrev pub moved_back : ℕ → ℕ → ℕ → Option ℕ → Heap → Trace Heap (Unit {0}) Trouble
moved_back disc last y after heap = trace_and_then (linked disc Next after heap) (λ _ out. put_in y last Next None out)

-- A copy of it comes to the end of `post` before that.
abbrev pub drawn_after : ℕ → ℕ → ℕ → Option ℕ → Heap → Trace Heap (Unit {0}) Trouble
drawn_after disc last y after heap = trace_and_then (copied_to_post y disc (last_of (part_at heap disc Post)) heap) (λ _ made. moved_back disc last y after made)

-- ---- turns
-- the head of the list afterwards, and the chores that come first
abbrev pub Turn : Type 0
Turn = Trace Heap (ℕ × List Chore) Trouble

abbrev pub goes_to : ℕ → List Chore → Heap → Turn
goes_to head chores heap = stays heap (Ok (head, chores))

abbrev pub with_chores : ℕ → (Spot → Chore) → Trace Heap (Option Spot) Trouble → Turn
with_chores head chore t = trace_and_then t (λ spot done. goes_to head (from_spot chore spot) done)

-- in a list of a discretionary: a step, if there is a ligature, or else the cursor moves on
abbrev pub step_in_part : Spot → Option Lig → List ℕ → Heap → Trace Heap (Option Spot) Trouble
step_in_part spot (Some lig) (y ∷ rest) heap = ligated spot lig y rest heap
step_in_part spot _ _ heap = stays heap (Ok (moved_on spot))

abbrev pub part_turn : List FontTables → Spot → Heap → Trace Heap (Option Spot) Trouble
part_turn fonts spot heap = step_in_part spot (lig_between fonts heap (Some spot.at) (slice_get spot.ahead 0)) spot.ahead heap

-- where the glyph goes into a discretionary, that takes its place at the head
abbrev pub head_after : ℕ → Option ℕ → ℕ → ℕ
head_after head None disc = disc
head_after head (Some before) disc = head

-- The next node is a discretionary with which the glyph makes a ligature.
abbrev pub draw_or_move : ℕ → Spot → Option DiscFields → List ℕ → Option Lig → Heap → Turn
draw_or_move head spot (Some d) (disc ∷ rest) (Some lig) heap =
    trace_and_then (drawn_before spot.before spot.at disc d heap) (λ _ done. goes_to (head_after head spot.before disc) (AtDisc disc rest ∷ []) done)
draw_or_move head spot _ _ _ heap = goes_to head (from_spot InList (moved_on spot)) heap

-- the first node of `replace`, or, if that is empty, the node after the discretionary
abbrev pub right_of_disc : Option DiscFields → List ℕ → Option ℕ
right_of_disc None ahead = None
right_of_disc (Some d) ahead = option_or d.replace (slice_get ahead 1)

abbrev pub next_disc : Heap → List ℕ → Option DiscFields
next_disc heap ahead = option_and_then (disc_at heap) (slice_get ahead 0)

abbrev pub before_disc : List FontTables → ℕ → Spot → Option DiscFields → Heap → Turn
before_disc fonts head spot d heap = draw_or_move head spot d spot.ahead (lig_between fonts heap (Some spot.at) (right_of_disc d spot.ahead)) heap

-- at a node that is no discretionary: a step; or the glyph goes into a discretionary; or else the cursor moves on
abbrev pub step_in_list : List FontTables → ℕ → Spot → Option Lig → List ℕ → Heap → Turn
step_in_list fonts head spot (Some lig) (y ∷ rest) heap = with_chores head InList (ligated spot lig y rest heap)
step_in_list fonts head spot _ ahead heap = before_disc fonts head spot (next_disc heap ahead) heap

abbrev pub glyph_turn : List FontTables → ℕ → Spot → Heap → Turn
glyph_turn fonts head spot heap = step_in_list fonts head spot (lig_between fonts heap (Some spot.at) (slice_get spot.ahead 0)) spot.ahead heap

abbrev pub list_turn : List FontTables → ℕ → Spot → Option DiscFields → Heap → Turn
list_turn fonts head spot (Some d) heap = goes_to head (AtDisc spot.at spot.ahead ∷ []) heap
list_turn fonts head spot None heap = glyph_turn fonts head spot heap

-- The last of `replace` makes a ligature with the node after the discretionary: that goes into it, and then `replace` is gone through. Or else all
-- three lists are, and the cursor moves on.
abbrev pub disc_turn : ℕ → ℕ → Option ℕ → List ℕ → Option Lig → Heap → Turn
disc_turn head disc (Some last) (y ∷ rest) (Some lig) heap =
    trace_and_then (drawn_after disc last y (slice_get rest 0) heap) (λ _ done. goes_to head (OfDisc disc Replace ∷ AtDisc disc rest ∷ []) done)
disc_turn head disc _ ahead _ heap = goes_to head (OfDisc disc Pre ∷ OfDisc disc Post ∷ OfDisc disc Replace ∷ from_spot InList (spot_in (Some disc) 0 ahead)) heap

abbrev pub at_disc : List FontTables → ℕ → ℕ → Option ℕ → List ℕ → Heap → Turn
at_disc fonts head disc last ahead heap = disc_turn head disc last ahead (lig_between fonts heap last (slice_get ahead 0)) heap

abbrev pub turn : List FontTables → ℕ → Chore → Heap → Turn
turn fonts head (InList spot) heap = list_turn fonts head spot (disc_at heap spot.at) heap
turn fonts head (AtDisc disc ahead) heap = at_disc fonts head disc (last_of (part_at heap disc Replace)) ahead heap
turn fonts head (OfDisc disc f) heap = goes_to head (from_spot InPart (spot_in None 0 (part_at heap disc f))) heap
turn fonts head (InPart spot) heap = with_chores head InPart (part_turn fonts spot heap)

-- ---- one turn after another
pub record State : Type 0 where
  pub head : ℕ
  pub chores : List Chore

-- the chores that a turn leaves come before the others
abbrev pub state_after : List Chore → ℕ × List Chore → State
state_after rest done = record { head = done.0; chores = done.1 ++ rest }

abbrev pub turns_of : (State → Heap → Trace Heap State Trouble) → List FontTables → ℕ → List Chore → Heap → Trace Heap State Trouble
turns_of next fonts head [] heap = stays heap (Ok (record { head = head; chores = [] }))
turns_of next fonts head (chore ∷ rest) heap = trace_and_then (turn fonts head chore heap) (λ done then. next (state_after rest done) then)

abbrev pub turns : ℕ → List FontTables → State → Heap → Trace Heap State Trouble
turns zero fonts state heap = stays heap (Ok state)
turns (suc k) fonts state heap = turns_of (turns k fonts) fonts state.head state.chores heap

-- ---- the pass
abbrev pub first_chores : ℕ → Heap → List Chore
first_chores head heap = from_spot InList (spot_in None 0 (along heap (Some head)))

-- The check of a horizontal list comes first. If it refuses, so does the pass.
abbrev pub ligatured_if : ℕ → List FontTables → ℕ → Result (List ℕ) Trouble → Heap → Trace Heap State Trouble
ligatured_if k fonts head (Err why) heap = stays heap (Err why)
ligatured_if k fonts head (Ok _) heap = turns k fonts (record { head = head; chores = first_chores head heap }) heap

abbrev pub ligatured : ℕ → List FontTables → ℕ → Heap → Trace Heap State Trouble
ligatured k fonts head heap = ligatured_if k fonts head (checked_walk heap (Some head) H) heap

-- the pass is over, with this head
abbrev pub finished : ℕ → State
finished head = record { head = head; chores = [] }
