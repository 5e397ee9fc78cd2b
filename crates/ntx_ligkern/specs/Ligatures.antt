-- One ligature step in a list ("TeX: The Program", sections 545, 1034 and 1040), as a trace of heaps.
--     Spot                       a cursor in a list: the node before it, the node at it, the nodes ahead of it, and the steps since it moved on
--     lig_between                the ligature of two nodes that stand side by side, if their font has one
--     ligated spot lig y rest heap      the step at a spot whose next node is y, before the rest
-- An operation is 4a + 2b + q: the cursor passes over a glyphs of the result, b is 1 where the left glyph stays, and q where the right one does.
-- Over x = 1, y = 2 and 3 after them, with 4 as the next name, a step gives these sequences, and the cursor `at` them:
--     op 0    1 3        at 1      op 1     1 2 3      at 1      op 2     1 4 3      at 1      op 3     1 4 2 3      at 1
--     op 5    1 2 3      at 2      op 6     1 4 3      at 4      op 7     1 4 2 3    at 4      op 11    1 4 2 3      at 2
use Rattle.std.specs.Prelude.{ℕ, zero, suc, ◌+◌, ◌/◌, ◌%◌, pos, Bool, nat_eq, nat_le, if◌then◌else◌, List, [], ◌∷◌, slice_get, Option, None, Some, Ok, Err}
use Rattle.ntx_num.specs.Trace.{Trace, stays, stepped, trace_and_then}
use Rattle.ntx_nodes.specs.Heap.{Heap}
use Rattle.ntx_nodes.specs.Steps.{copy_one_step, free_one_step, set_step}
use Rattle.ntx_nodes.specs.declared.field.Field.{Field}
use Rattle.ntx_nodes.specs.declared.field.Field.TheVariants.{Subtype, Next, Char}
use Rattle.ntx_nodes.specs.declared.field.FieldValue.{FieldValue}
use Rattle.ntx_nodes.specs.declared.field.FieldValue.TheVariants.{Number, Link}
use Rattle.ntx_nodes.specs.declared.trouble.Trouble.{Trouble}
use Rattle.ntx_nodes.specs.declared.trouble.Trouble.TheVariants.{LigLoop}
use Rattle.ntx_tfm.specs.Font.{FontTables}
use Rattle.ntx_pairs.specs.declared.command.Pair.{Pair}
use Rattle.ntx_pairs.specs.declared.command.Pair.TheVariants as pairs
use Rattle.ntx_ligkern.specs.Glyphs.{pair_between}
use Rattle.ntx_ligkern.specs.declared.lig.Lig.{Lig}

-- ---- operations
abbrev pub passes_over : Lig → ℕ
passes_over lig = lig.op / 4

abbrev pub keeps_left : Lig → Bool
keeps_left lig = nat_eq (lig.op / 2 % 2) 1

abbrev pub keeps_right : Lig → Bool
keeps_right lig = nat_eq (lig.op % 2) 1

-- ---- ligatures
abbrev pub lig_of : Pair → Option Lig
lig_of (pairs.Lig op code) = Some (record { op = op; code = code })
lig_of _ = None

abbrev pub lig_between : List FontTables → Heap → Option ℕ → Option ℕ → Option Lig
lig_between fonts heap left right = lig_of (pair_between fonts heap left right)

-- ---- spots
pub record Spot : Type 0 where
  pub before : Option ℕ
  pub at : ℕ
  pub ahead : List ℕ
  pub count : ℕ

-- the first of these nodes, after `before`, if there is one
abbrev pub spot_in : Option ℕ → ℕ → List ℕ → Option Spot
spot_in before count [] = None
spot_in before count (n ∷ rest) = Some (record { before = before; at = n; ahead = rest; count = count })

-- the cursor moves on, and no step was made since then
abbrev pub moved_on : Spot → Option Spot
moved_on spot = spot_in (Some spot.at) 0 spot.ahead

-- the cursor passes over some nodes, which is no move
abbrev pub passed : ℕ → Option ℕ → ℕ → List ℕ → Option Spot
passed zero before count names = spot_in before count names
passed (suc over) before count [] = None
passed (suc over) before count (n ∷ rest) = passed over (Some n) count rest

-- ---- a node, changed in one field after another
abbrev pub set_to : ℕ → Field → FieldValue → Heap → Trace Heap (Unit {0}) Trouble
set_to n f v heap = stepped (set_step n f v heap) heap

abbrev pub linked : ℕ → Field → Option ℕ → Heap → Trace Heap (Unit {0}) Trouble
linked n f to heap = set_to n f (Link to) heap

-- A node of no list comes into one, before `next`: its own `next` is set first, and then the link of a node leads to it.
abbrev pub put_in : ℕ → ℕ → Field → Option ℕ → Heap → Trace Heap (Unit {0}) Trouble
put_in new n f next heap = trace_and_then (linked new Next next heap) (λ _ kept. linked n f (Some new) kept)

-- A copy of a node has its font, its attributes and no links.
abbrev pub copied : ℕ → Heap → Trace Heap ℕ Trouble
copied n heap = stepped (copy_one_step n heap) heap

-- ---- a step
-- a glyph becomes the ligature
abbrev pub turned : ℕ → ℕ → Heap → Trace Heap (Unit {0}) Trouble
turned n code heap = trace_and_then (set_to n Char (Number (pos code)) heap) (λ _ coded. set_to n Subtype (Number (pos 2)) coded)

-- the left glyph does
abbrev pub replaced : ℕ → ℕ → Heap → Trace Heap ℕ Trouble
replaced x code heap = trace_and_then (turned x code heap) (λ _ done. stays done (Ok x))

-- or a copy of it does, which comes between the two
abbrev pub placed : ℕ → ℕ → ℕ → ℕ → Heap → Trace Heap ℕ Trouble
placed new x code y heap = trace_and_then (turned new code heap) (λ _ named. trace_and_then (put_in new x Next (Some y) named) (λ _ done. stays done (Ok new)))

abbrev pub inserted : ℕ → ℕ → ℕ → Heap → Trace Heap ℕ Trouble
inserted x code y heap = trace_and_then (copied x heap) (λ new made. placed new x code y made)

-- the node that holds the ligature
abbrev pub put_lig : ℕ → Lig → ℕ → Heap → Trace Heap ℕ Trouble
put_lig x lig y heap = if keeps_left lig then inserted x lig.code y heap else replaced x lig.code heap

abbrev pub let_die : ℕ → Heap → Trace Heap (Unit {0}) Trouble
let_die n heap = stepped (free_one_step n heap) heap

-- The right glyph is taken out of the list, after the one that holds the ligature and before `after`, and freed.
abbrev pub freed : ℕ → ℕ → Option ℕ → Heap → Trace Heap (Unit {0}) Trouble
freed holder y after heap = trace_and_then (linked holder Next after heap) (λ _ unlinked. let_die y unlinked)

abbrev pub let_go : Lig → ℕ → ℕ → Option ℕ → Heap → Trace Heap (Unit {0}) Trouble
let_go lig holder y after heap = if keeps_right lig then stays heap (Ok tt) else freed holder y after heap

abbrev pub joined : ℕ → Lig → ℕ → Option ℕ → Heap → Trace Heap ℕ Trouble
joined x lig y after heap = trace_and_then (put_lig x lig y heap) (λ holder made. trace_and_then (let_go lig holder y after made) (λ _ done. stays done (Ok holder)))

-- the glyphs of the result, and the nodes after them
abbrev pub with_right : Lig → ℕ → List ℕ → List ℕ
with_right lig y names = if keeps_right lig then y ∷ names else names

abbrev pub with_holder : Lig → ℕ → List ℕ → List ℕ
with_holder lig holder names = if keeps_left lig then holder ∷ names else names

abbrev pub result_of : Lig → ℕ → ℕ → ℕ → List ℕ → List ℕ
result_of lig x holder y rest = x ∷ with_holder lig holder (with_right lig y rest)

-- the spot after a step
abbrev pub spot_after : Spot → Lig → ℕ → ℕ → List ℕ → Option Spot
spot_after spot lig holder y rest = passed (passes_over lig) spot.before (spot.count + 1) (result_of lig spot.at holder y rest)

-- 255 steps are made without a move between them, and the next is refused.
abbrev pub most_steps : ℕ
most_steps = 255

abbrev pub ligated : Spot → Lig → ℕ → List ℕ → Heap → Trace Heap (Option Spot) Trouble
ligated spot lig y rest heap =
    if nat_le most_steps spot.count then stays heap (Err LigLoop)
    else trace_and_then (joined spot.at lig y (slice_get rest 0) heap) (λ holder done. stays done (Ok (spot_after spot lig holder y rest)))
