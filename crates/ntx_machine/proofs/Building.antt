-- How the building of boxes goes on, and where it stops.
use Rattle.std.proofs.Common.{◌≡◌, ℕ, ℤ, pos, ◌+◌, ◌<◌, ◌≤◌, Bool, true, false, List, length, map, drop, get_or, Option, None, Some, Result, Ok, Err, refl, sym, ◌∙◌, ap, subst}
use Rattle.std.specs.Prelude.{◌&&◌}
use Rattle.std.specs.List.{list_all}
use Rattle.std.specs.Result.{result_and}
use Rattle.std.proofs.lemmas.List.{drop_all}
use Rattle.std.proofs.lemmas.List.Folds.{list_all-map}
use Rattle.ntx_num.specs.declared.answer.Fail.{Fail}
use Rattle.ntx_num.specs.Trace.{stays, trace_and_then, EndsAs}
use Rattle.ntx_num.proofs.Traces.{begins_stays, ends_later, ends_there}
use Rattle.ntx_nodes.specs.Steps.{set_step, wear_current_step}
use Rattle.ntx_nodes.specs.Writing.{make_filled_step}
use Rattle.ntx_nodes.specs.declared.trouble.Phase.{Phase}
use Rattle.ntx_nodes.specs.declared.trouble.Phase.TheVariants as phase
use Rattle.ntx_nodes.specs.declared.field.Field.TheVariants.{Subtype}
use Rattle.ntx_nodes.specs.declared.field.FieldValue.TheVariants.{Number}
use Rattle.ntx_nodes.specs.declared.fields.Fields.{Fields}
use Rattle.ntx_nodes.proofs.Writes.{taken_off}
use Rattle.ntx_item.specs.declared.pack_to.PackTo.{PackTo}
use Rattle.ntx_tfm.specs.Font.{FontTables}
use Rattle.ntx_pack.specs.Pack.{hpack_step}
use Rattle.ntx_doc.specs.declared.command.Command.{Command}
use Rattle.ntx_doc.specs.declared.command.Command.TheVariants as kind
use Rattle.ntx_doc.specs.Shape.{every, is_box_width, numbers_layer, has_numbers_in_range}
use Rattle.ntx_doc.proofs.Folds.{fold_hbox}
use Rattle.ntx_machine.specs.declared.ends.Ends.{Ends}
use Rattle.ntx_machine.specs.declared.stop.Stop.{Stop}
use Rattle.ntx_machine.specs.State.{State, Course, heap_step}
use Rattle.ntx_machine.specs.Nodes.{document_box}
use Rattle.ntx_machine.specs.Build.{made, linked, head_of, Growth, grown_by, kept, grown_by_all, packed, grown_by_box, growth, box_built}
use Rattle.ntx_machine.specs.Job.{standing, box_step}
use Rattle.ntx_machine.specs.Machine.{failing, fails}
use Rattle.ntx_machine.proofs.Steps.{begins_changed}
use Rattle.ntx_machine.proofs.Begins.{worn, begins_worn, begins_linked, finished, begins_finished, begins_packed, begins_all, begins_commands}

-- ---- one node

stops_at_wearing : (in_phase : Phase) (n : ℕ) (s new : State) (why : Stop) → EndsAs (fails {A = Unit {0}} (Err why)) new (heap_step in_phase (wear_current_step n) s) → EndsAs (fails {A = ℕ} (Err why)) new (worn in_phase n s)
stops_at_wearing in_phase n s new why stops = ends_there (heap_step in_phase (wear_current_step n) s) new (λ _ t. stays t (Ok n)) (failing why) (λ _ t. begins_stays t (Ok n)) stops

pub not_made : (in_phase : Phase) (fields : Fields) (s new : State) (why : Stop) → EndsAs (fails {A = ℕ} (Err why)) new (heap_step in_phase (make_filled_step fields) s)
    → EndsAs (fails {A = ℕ} (Err why)) new (made in_phase fields s)
not_made in_phase fields s new why stops = ends_there (heap_step in_phase (make_filled_step fields) s) new (λ n t. worn in_phase n t) (failing why) (λ n t. begins_worn in_phase n t) stops

pub not_worn : (in_phase : Phase) (fields : Fields) (n : ℕ) (s t new : State) (why : Stop) → EndsAs (fails (Ok n)) t (heap_step in_phase (make_filled_step fields) s)
    → EndsAs (fails {A = Unit {0}} (Err why)) new (heap_step in_phase (wear_current_step n) t) → EndsAs (fails {A = ℕ} (Err why)) new (made in_phase fields s)
not_worn in_phase fields n s t new why makes stops =
    ends_later (heap_step in_phase (make_filled_step fields) s) n t new (λ m u. worn in_phase m u) (Err (failing why)) makes (stops_at_wearing in_phase n t new why stops)

pub not_grown : (fields : Fields) (list : Option Ends) (s new : State) (why : Stop) → EndsAs (fails {A = ℕ} (Err why)) new (made phase.Build fields s)
    → EndsAs (fails {A = Option Ends} (Err why)) new (grown_by fields list s)
not_grown fields list s new why stops = ends_there (made phase.Build fields s) new (λ n t. linked list n t) (failing why) (λ n t. begins_linked list n t) stops

-- ---- boxes

module _ (fonts : List FontTables) (to : PackTo) (head : Option ℕ) where
  -- The box is there, and the rest ends so.
  after_packing : (box : ℕ × ℤ) (s t new : State) (why : Stop) → EndsAs (fails (Ok box)) t (heap_step phase.Hpack (hpack_step fonts head to) s)
      → EndsAs (fails {A = ℕ} (Err why)) new (finished box.0 t) → EndsAs (fails {A = ℕ} (Err why)) new (packed fonts to head s)
  after_packing box s t new why packs rest = ends_later (heap_step phase.Hpack (hpack_step fonts head to) s) box t new (λ b u. finished b.0 u) (Err (failing why)) packs rest

  pub not_packed : (s new : State) (why : Stop) → EndsAs (fails {A = ℕ × ℤ} (Err why)) new (heap_step phase.Hpack (hpack_step fonts head to) s)
      → EndsAs (fails {A = ℕ} (Err why)) new (packed fonts to head s)
  not_packed s new why stops = ends_there (heap_step phase.Hpack (hpack_step fonts head to) s) new (λ b u. finished b.0 u) (failing why) (λ b u. begins_finished b.0 u) stops

  pub box_not_worn : (box : ℕ × ℤ) (s t u new : State) (why : Stop) → EndsAs (fails (Ok box)) t (heap_step phase.Hpack (hpack_step fonts head to) s)
      → EndsAs (fails (Ok tt)) u (heap_step phase.Hpack (set_step box.0 Subtype (Number (pos document_box))) t)
      → EndsAs (fails {A = Unit {0}} (Err why)) new (heap_step phase.Hpack (wear_current_step box.0) u) → EndsAs (fails {A = ℕ} (Err why)) new (packed fonts to head s)
  box_not_worn box s t u new why packs names stops =
      after_packing box s t new why packs
      (ends_later (heap_step phase.Hpack (set_step box.0 Subtype (Number (pos document_box))) t) tt u new (λ _ x. worn phase.Hpack box.0 x) (Err (failing why)) names
      (stops_at_wearing phase.Hpack box.0 u new why stops))

-- ---- lists

-- A list that is being built goes on: however the rest of it ends, the whole ends so.
pub record GoesOn (fonts : List FontTables) (body : List Command) (old : State) (left : List Command) (list : Option Ends) (now : State) : Type 0 where
  pub rest : (r : Result (Option Ends) (Fail Stop)) (new : State) → EndsAs r new (grown_by_all (map (growth fonts) left) list now) → EndsAs r new (grown_by_all (map (growth fonts) body) None old)

module _ (fonts : List FontTables) (body : List Command) (old now : State) (list : Option Ends) (i : ℕ) (d : Command) (within : i < length body) (goes : GoesOn fonts body old (drop i body) list now) where
  abbrev following : Option Ends → State → Course (Option Ends)
  following longer t = grown_by_all (map (growth fonts) (drop (i + 1) body)) longer t

  from_here : (r : Result (Option Ends) (Fail Stop)) (new : State) → EndsAs r new (trace_and_then (growth fonts (get_or body i d) list now) following) → EndsAs r new (grown_by_all (map (growth fonts) body) None old)
  from_here = (subst (λ left. GoesOn fonts body old left list now) (taken_off i body d within) goes).rest

  pub list_goes_on : (longer : Option Ends) (new : State) → EndsAs (Ok longer) new (growth fonts (get_or body i d) list now) → GoesOn fonts body old (drop (i + 1) body) longer new
  list_goes_on longer new grows = record { rest = λ r end ends. from_here r end (ends_later (growth fonts (get_or body i d) list now) longer new end following r grows ends) }

  pub list_stops : (new : State) (why : Stop) → EndsAs (fails {A = Option Ends} (Err why)) new (growth fonts (get_or body i d) list now) → EndsAs (fails {A = Option Ends} (Err why)) new (grown_by_all (map (growth fonts) body) None old)
  list_stops new why stops =
      from_here (Err (failing why)) new
      (ends_there (growth fonts (get_or body i d) list now) new following (failing why) (λ longer t. begins_all (map (growth fonts) (drop (i + 1) body)) (begins_commands fonts (drop (i + 1) body)) longer t) stops)

pub list_ends : (fonts : List FontTables) (body : List Command) (old now : State) (list : Option Ends) (i : ℕ) → length body ≤ i → GoesOn fonts body old (drop i body) list now → EndsAs (Ok list) now (grown_by_all (map (growth fonts) body) None old)
list_ends fonts body old now list i none goes = (subst (λ left. GoesOn fonts body old left list now) (drop_all i body none) goes).rest (Ok list) now (refl, refl)

-- ---- commands

-- a step that adds no node
pub kept_ends : (step : State → Course (Unit {0})) (list : Option Ends) (r : Result (Unit {0}) Stop) (x : Result (Option Ends) Stop) (s new : State) → x ≡ result_and r (Ok list) → EndsAs (fails r) new (step s) → EndsAs (fails x) new (kept step list s)
kept_ends step list (Ok u) x s new is ends =
    subst (λ y. EndsAs (fails y) new (kept step list s)) (sym is) (ends_later (step s) u new new (λ _ t. stays t (Ok list)) (Ok list) ends (refl, refl))
kept_ends step list (Err why) x s new is ends =
    subst (λ y. EndsAs (fails y) new (kept step list s)) (sym is) (ends_there (step s) new (λ _ t. stays t (Ok list)) (failing why) (λ _ t. begins_stays t (Ok list)) ends)

pub box_not_built : (fonts : List FontTables) (to : PackTo) (body : List Command) (s new : State) (why : Stop) → EndsAs (fails {A = Option Ends} (Err why)) new (grown_by_all (map (growth fonts) body) None s)
    → EndsAs (fails {A = ℕ} (Err why)) new (box_built fonts to body s)
box_not_built fonts to body s new why stops =
    ends_there (grown_by_all (map (growth fonts) body) None s) new (λ list t. packed fonts to (head_of list) t) (failing why) (λ list t. begins_packed fonts to (head_of list) t) stops

pub box_not_added : (fonts : List FontTables) (to : PackTo) (body : List Command) (list : Option Ends) (s new : State) (why : Stop) → EndsAs (fails {A = ℕ} (Err why)) new (box_built fonts to body s)
    → EndsAs (fails {A = Option Ends} (Err why)) new (grown_by_box fonts to (map (growth fonts) body) list s)
box_not_added fonts to body list s new why stops = ends_there (box_built fonts to body s) new (λ box t. linked list box t) (failing why) (λ box t. begins_linked list box t) stops

pub box_not_standing : (fonts : List FontTables) (to : PackTo) (body : List Command) (s new : State) (why : Stop) → EndsAs (fails {A = ℕ} (Err why)) new (box_built fonts to body s)
    → EndsAs (fails {A = Unit {0}} (Err why)) new (box_step fonts to body s)
box_not_standing fonts to body s new why stops =
    ends_there (box_built fonts to body s) new (λ box t. standing box t) (failing why) (λ box t. begins_changed (record t { main = Some box }) t) stops

-- what a command does, by its variant
pub as_grown : (fonts : List FontTables) (c : Command) (step : Growth) (list : Option Ends) (r : Result (Option Ends) (Fail Stop)) (s new : State) → growth fonts c ≡ step → EndsAs r new (step list s) → EndsAs r new (growth fonts c list s)
as_grown fonts c step list r s new is ends = subst (λ (g : Growth). EndsAs r new (g list s)) (sym is) ends

second_true : (a b : Bool) → (a && b) ≡ true → b ≡ true
second_true true b h = h
second_true false b h = cc

-- the commands in a box
pub numbers_inside : (c : Command) (to : PackTo) (body : List Command) → c ≡ kind.HBox to body → has_numbers_in_range c ≡ true → list_all has_numbers_in_range body ≡ true
numbers_inside c to body is h =
    sym (list_all-map (λ answer. answer) has_numbers_in_range body)
    ∙ second_true (is_box_width to) (every (map has_numbers_in_range body)) (sym (fold_hbox numbers_layer to body) ∙ ap has_numbers_in_range (sym is) ∙ h)
