-- The whole pass: the check of the list, and then its turns.
use Rattle.std.proofs.Common.{◌≡◌, ℕ, List, [], Some, Ok, Err, refl, sym, ◌∙◌, ap, subst, append-nil}
use Rattle.std.specs.Prelude.{Result}
use Rattle.ntx_num.specs.Answer.{Traces, result_map}
use Rattle.ntx_num.specs.Trace.{states, EndsAs}
use Rattle.ntx_num.specs.declared.answer.Fail.{Fail}
use Rattle.ntx_num.specs.declared.answer.Fail.TheVariants.{Is}
use Rattle.ntx_num.proofs.Traces.{traces}
use Rattle.ntx_nodes.specs.Heap.{Heap}
use Rattle.ntx_nodes.specs.Walk.{checked_walk}
use Rattle.ntx_nodes.specs.declared.kind.ListKind.TheVariants.{H}
use Rattle.ntx_nodes.specs.declared.trouble.Trouble.{Trouble}
use Rattle.ntx_tfm.specs.Font.{FontTables}
use Rattle.ntx_ligkern.specs.Ligaturing.{Chore, State, finished, first_chores, turns, ligatured_if, ligatured}
use Rattle.ntx_ligkern.specs.inner.Chores.{Runs, RunsOn, RunsTo}
use Rattle.ntx_ligkern.proofs.Turning.{all_done}
use Rattle.ntx_ligkern.proofs.Kernings.{walk_refused}

-- the call goes through the pass of some number of turns
abbrev pub GoesThrough : List FontTables → ℕ → Heap → Result ℕ (Fail Trouble) → Heap → Type 0
GoesThrough fonts head heap r new = (k : ℕ) × Traces (result_map finished r) new (states (ligatured k fonts head heap)) (ligatured k fonts head heap).ending

passed_check : (r : Result (List ℕ) Trouble) → ◌≡◌ {A = Result (Unit {0}) Trouble} (Ok tt) (result_map (λ _. tt) r) → (names : List ℕ) × (r ≡ Ok names)
passed_check (Ok names) is = (names, refl)
passed_check (Err x) is = cc

pub check_stops : (fonts : List FontTables) (head : ℕ) (heap new : Heap) (why : Trouble) → new ≡ heap → ◌≡◌ {A = Result (Unit {0}) Trouble} (Err why) (result_map (λ _. tt) (checked_walk heap (Some head) H)) → GoesThrough fonts head heap (Err (Is why)) new
check_stops fonts head heap new why same is =
    let e = walk_refused heap head why is in
    (0, traces {A = State} (Err (Is why)) new (ligatured 0 fonts head heap) (ap (λ r. (ligatured_if 0 fonts head r heap).ending) e, ap (λ r. (ligatured_if 0 fonts head r heap).last) e ∙ sym same))

pub turns_end : (fonts : List FontTables) (head : ℕ) (heap mid new : Heap) (r : Result ℕ (Fail Trouble)) → mid ≡ heap → ◌≡◌ {A = Result (Unit {0}) Trouble} (Ok tt) (result_map (λ _. tt) (checked_walk heap (Some head) H))
    → Runs fonts head (first_chores head mid) mid r new → GoesThrough fonts head heap r new
turns_end fonts head heap mid new r same is runs =
    let went = passed_check (checked_walk heap (Some head) H) is in
    let k = runs.0 in
    let there : turns k fonts (record { head = head; chores = first_chores head mid }) mid ≡ ligatured k fonts head heap =
    ap (λ (h : Heap). turns k fonts (record { head = head; chores = first_chores head h }) h) same ∙ ap (λ r. ligatured_if k fonts head r heap) (sym went.1) in
    (k, traces (result_map finished r) new (ligatured k fonts head heap) (subst (EndsAs (result_map finished r) new) there runs.1))

-- ---- nothing else is to be done
pub runs_stop : (fonts : List FontTables) (head : ℕ) (start : List Chore) (first : Heap) (e : Fail Trouble) (new : Heap) → RunsTo fonts head start first e new → Runs fonts head start first (Err e) new
runs_stop fonts head start first e new h = subst (λ (x : List Chore). Runs fonts head x first (Err e) new) (append-nil start) (h [])

pub runs_end : (fonts : List FontTables) (head later : ℕ) (start : List Chore) (first heap : Heap) → RunsOn fonts head start first later [] heap → Runs fonts head start first (Ok later) heap
runs_end fonts head later start first heap h = subst (λ (x : List Chore). Runs fonts head x first (Ok later) heap) (append-nil start) (h [] (Ok later) heap (all_done fonts later heap))
