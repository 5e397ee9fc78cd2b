-- Courses begin with their state.
use Rattle.std.proofs.Common.{ℕ, List, [], ◌∷◌, map, Option, None, Some, Ok, sym, subst, pos}
use Rattle.ntx_nodes.specs.Steps.{set_step, set_current_step, unset_current_step, wear_current_step}
use Rattle.ntx_nodes.specs.Writing.{make_filled_step}
use Rattle.ntx_nodes.specs.declared.trouble.Phase.{Phase}
use Rattle.ntx_nodes.specs.declared.trouble.Phase.TheVariants as phase
use Rattle.ntx_nodes.specs.declared.field.Field.TheVariants.{Next, Subtype}
use Rattle.ntx_nodes.specs.declared.field.FieldValue.TheVariants.{Number, Link}
use Rattle.ntx_nodes.specs.declared.fields.Fields.{Fields}
use Rattle.ntx_item.specs.declared.pack_to.PackTo.{PackTo}
use Rattle.ntx_item.specs.Settings.{with_value, with_glue}
use Rattle.ntx_tfm.specs.Font.{FontTables}
use Rattle.ntx_pack.specs.Pack.{hpack_step}
use Rattle.ntx_doc.specs.declared.command.Command.{Command, map-Command, roll-Command}
use Rattle.ntx_doc.specs.declared.command.Command.TheOpen.{Command-F}
use Rattle.ntx_doc.specs.declared.command.Command.TheFolds.{fold-roll-Command, ind-Command}
use Rattle.ntx_num.specs.Trace.{stays, trace_and_then}
use Rattle.ntx_num.proofs.Traces.{Begins, begins_stays, begins_then}
use Rattle.ntx_machine.specs.declared.ends.Ends.{Ends}
use Rattle.ntx_machine.specs.State.{State, Course, heap_step}
use Rattle.ntx_machine.specs.Nodes.{document_box, glue_node, kern_node, penalty_node, rule_node, glyph_node, space_node}
use Rattle.ntx_machine.specs.Build.{made, linked, Growth, grown_by, kept, grown_by_all, packed, box_of, grown_by_box, head_of, set_value, set_glue, set_attribute, unset_attribute, growth_layer, growth}
use Rattle.ntx_machine.proofs.Steps.{begins_heap_step, begins_changed}

-- ---- nodes

-- what follows the making of a node
abbrev pub worn : Phase → ℕ → State → Course ℕ
worn in_phase n s = trace_and_then (heap_step in_phase (wear_current_step n) s) (λ _ t. stays t (Ok n))

pub begins_worn : (in_phase : Phase) (n : ℕ) (s : State) → Begins (worn in_phase n s) s
begins_worn in_phase n s = begins_then (heap_step in_phase (wear_current_step n) s) s (λ _ t. stays t (Ok n)) (λ _ t. begins_stays t (Ok n)) (begins_heap_step in_phase (wear_current_step n) s)

pub begins_made : (in_phase : Phase) (fields : Fields) (s : State) → Begins (made in_phase fields s) s
begins_made in_phase fields s =
    begins_then (heap_step in_phase (make_filled_step fields) s) s (λ n t. worn in_phase n t) (λ n t. begins_worn in_phase n t) (begins_heap_step in_phase (make_filled_step fields) s)

pub begins_linked : (list : Option Ends) (n : ℕ) (s : State) → Begins (linked list n s) s
begins_linked None n s = begins_stays s (Ok (Some (record { head = n; tail = n })))
begins_linked (Some ends) n s =
    begins_then (heap_step phase.Build (set_step ends.tail Next (Link (Some n))) s) s (λ _ t. stays t (Ok (Some (record ends { tail = n }))))
    (λ _ t. begins_stays t (Ok (Some (record ends { tail = n })))) (begins_heap_step phase.Build (set_step ends.tail Next (Link (Some n))) s)

-- ---- growths

-- A growth begins with its state.
abbrev pub IsBegun : Growth → Type 0
IsBegun g = (list : Option Ends) (s : State) → Begins (g list s) s

pub begins_grown_by : (fields : Fields) → IsBegun (grown_by fields)
begins_grown_by fields list s =
    begins_then (made phase.Build fields s) s (λ n t. linked list n t) (λ n t. begins_linked list n t) (begins_made phase.Build fields s)

pub begins_kept : (step : State → Course (Unit {0})) → ((s : State) → Begins (step s) s) → IsBegun (kept step)
begins_kept step begins list s = begins_then (step s) s (λ _ t. stays t (Ok list)) (λ _ t. begins_stays t (Ok list)) (begins s)

-- each of these does
abbrev pub AreBegun : List Growth → Type 0
AreBegun [] = Unit {0}
AreBegun (g ∷ gs) = IsBegun g × AreBegun gs

pub begins_all : (gs : List Growth) → AreBegun gs → IsBegun (grown_by_all gs)
begins_all [] all list s = begins_stays s (Ok list)
begins_all (g ∷ gs) all list s = begins_then (g list s) s (λ longer t. grown_by_all gs longer t) (λ longer t. begins_all gs all.1 longer t) (all.0 list s)

-- ---- boxes

-- what follows the packing of a list
abbrev pub finished : ℕ → State → Course ℕ
finished n s = trace_and_then (heap_step phase.Hpack (set_step n Subtype (Number (pos document_box))) s) (λ _ t. worn phase.Hpack n t)

pub begins_finished : (n : ℕ) (s : State) → Begins (finished n s) s
begins_finished n s =
    begins_then (heap_step phase.Hpack (set_step n Subtype (Number (pos document_box))) s) s (λ _ t. worn phase.Hpack n t) (λ _ t. begins_worn phase.Hpack n t)
    (begins_heap_step phase.Hpack (set_step n Subtype (Number (pos document_box))) s)

pub begins_packed : (fonts : List FontTables) (to : PackTo) (head : Option ℕ) (s : State) → Begins (packed fonts to head s) s
begins_packed fonts to head s =
    begins_then (heap_step phase.Hpack (hpack_step fonts head to) s) s (λ box t. finished box.0 t) (λ box t. begins_finished box.0 t) (begins_heap_step phase.Hpack (hpack_step fonts head to) s)

pub begins_box : (fonts : List FontTables) (to : PackTo) (body : List Growth) → AreBegun body → (s : State) → Begins (box_of fonts to body s) s
begins_box fonts to body all s =
    begins_then (grown_by_all body None s) s (λ list t. packed fonts to (head_of list) t) (λ list t. begins_packed fonts to (head_of list) t) (begins_all body all None s)

pub begins_grown_by_box : (fonts : List FontTables) (to : PackTo) (body : List Growth) → AreBegun body → IsBegun (grown_by_box fonts to body)
begins_grown_by_box fonts to body all list s =
    begins_then (box_of fonts to body s) s (λ box t. linked list box t) (λ box t. begins_linked list box t) (begins_box fonts to body all s)

-- ---- commands

-- the growths of commands, each of which has a proof beside it
all_begun : (fonts : List FontTables) (cs : List ((c : Command) × IsBegun (growth fonts c))) → AreBegun (map (growth fonts) (map (λ e. e.0) cs))
all_begun fonts [] = tt
all_begun fonts (e ∷ cs) = (e.1, all_begun fonts cs)

begins_rolled : (fonts : List FontTables) (x : Command-F Command) → IsBegun (growth_layer fonts (map-Command Command Growth (growth fonts) x)) → IsBegun (growth fonts (roll-Command x))
begins_rolled fonts x begun = subst IsBegun (sym (fold-roll-Command Growth (growth_layer fonts) x)) begun

abbrev HasBegun : List FontTables → Type 0
HasBegun fonts = (c : Command) × IsBegun (growth fonts c)

begins_layer : (fonts : List FontTables) (y : Command-F (HasBegun fonts)) → IsBegun (growth_layer fonts (map-Command Command Growth (growth fonts) (map-Command (HasBegun fonts) Command (λ e. e.0) y)))
begins_layer fonts (Command-F.Set p v) = begins_kept (set_value p v) (λ s. begins_changed (record s { settings = with_value s.settings p v }) s)
begins_layer fonts (Command-F.SetGlue g spec) = begins_kept (set_glue g spec) (λ s. begins_changed (record s { settings = with_glue s.settings g spec }) s)
begins_layer fonts (Command-F.Attr id v) = begins_kept (set_attribute id v) (λ s. begins_heap_step phase.Build (set_current_step id v) s)
begins_layer fonts (Command-F.NoAttr id) = begins_kept (unset_attribute id) (λ s. begins_heap_step phase.Build (unset_current_step id) s)
begins_layer fonts (Command-F.HBox to body) = begins_grown_by_box fonts to (map (growth fonts) (map (λ e. e.0) body)) (all_begun fonts body)
begins_layer fonts (Command-F.Glue spec) = begins_grown_by (glue_node 0 spec)
begins_layer fonts (Command-F.Kern w) = begins_grown_by (kern_node w)
begins_layer fonts (Command-F.Penalty p) = begins_grown_by (penalty_node p)
begins_layer fonts (Command-F.Rule size) = begins_grown_by (rule_node size)
begins_layer fonts (Command-F.Glyph font code) = begins_grown_by (glyph_node font code)
begins_layer fonts (Command-F.Space font) = begins_grown_by (space_node fonts font)

-- y is x with a proof beside each command in a box
pub begins_growth : (fonts : List FontTables) (c : Command) → IsBegun (growth fonts c)
begins_growth fonts = ind-Command (λ c. IsBegun (growth fonts c)) (λ x y is. subst (λ z. IsBegun (growth fonts (roll-Command z))) is (begins_rolled fonts (map-Command (HasBegun fonts) Command (λ e. e.0) y) (begins_layer fonts y)))

pub begins_commands : (fonts : List FontTables) (cs : List Command) → AreBegun (map (growth fonts) cs)
begins_commands fonts [] = tt
begins_commands fonts (c ∷ cs) = (begins_growth fonts c, begins_commands fonts cs)
