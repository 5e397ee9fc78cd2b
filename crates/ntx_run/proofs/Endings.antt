-- How a run ends, from what stands before its last line is written.
use Rattle.std.proofs.Common.{◌≡◌, ℕ, Bool, true, false, cond, List, [], ◌∷◌, map, Option, Some, None, Result, ◌⊎◌, inl, inr, refl, ap, sym, ◌∙◌, subst}
use Rattle.std.specs.Prelude.{IsSome, ◌≢◌}
use Rattle.ntx_nodes.specs.Heap.{Heap}
use Rattle.ntx_io.specs.Outside.{Adds, AddsProperPrefix}
use Rattle.ntx_run.specs.declared.stop.StopReason.{StopReason}
use Rattle.ntx_run.specs.declared.stop.StopReason.TheVariants as stop
use Rattle.ntx_run.specs.declared.outcome.Outcome.{Outcome}
use Rattle.ntx_run.specs.declared.outcome.Status.TheVariants as status
use Rattle.ntx_run.specs.declared.outcome.Place.TheVariants as place
use Rattle.ntx_run.specs.declared.outcome.Which.{Which}
use Rattle.ntx_run.specs.StopReason.{IsBeforeDvi, status_of, place_of, line_of}
use Rattle.ntx_run.specs.Run.{InputBytes, Moment, Ending, Job, lines_of, fits_form, font_sizes, read_inputs, ending_for, stopped, ending_of, run_of}
use Rattle.ntx_run.specs.Outside.{Inputs, Outside, names_of, in_turn, input_counts, counts, Exposes, NoneRose, AreReadInOrder, FailsAt, IsReadFault, Prints, PrintsWhy}
use Rattle.ntx_run.specs.Promise.{EndsAsDefined, IsCutAt, HasMachine, HasNoMachine, IsOfMachine, Runs}
use Rattle.ntx_run.specs.inner.Parts.{IsLineWhole}
use Rattle.ntx_run.proofs.FontReading.{font_rose}
use Rattle.ntx_run.proofs.Reading.{same_names}
use Rattle.ntx_run.proofs.Sinks.{adds_none}

-- ---- what the definition says

module _ (words : List (List ℕ)) (opening : Heap) (inputs : Inputs) (bytes : InputBytes) (exposes : Exposes inputs bytes) where
  abbrev ending_if : Bool → Ending
  ending_if accepted = cond accepted (ending_of opening (read_inputs (font_sizes words) bytes)) (stopped stop.Words)

  pub names_fit : fits_form words (map (λ font. font.name) bytes.fonts) ≡ fits_form words (names_of inputs)
  names_fit = ap (fits_form words) (sym (same_names inputs bytes exposes))

  pub run_refused : fits_form words (names_of inputs) ≡ false → run_of words bytes opening ≡ stopped stop.Words
  run_refused refused = ap ending_if (names_fit ∙ refused)

  pub run_accepted : (result : Result Job StopReason) → fits_form words (names_of inputs) ≡ true → read_inputs (font_sizes words) bytes ≡ result → run_of words bytes opening ≡ ending_of opening result
  run_accepted result accepted is = ap ending_if (names_fit ∙ accepted) ∙ ap (ending_of opening) is

-- ---- the line of a reason

-- A reason that has none of these statuses.
pub record IsApart (why : StopReason) : Type 0 where
  pub no_done : status_of why ≢ status.Done
  pub no_write : status_of why ≢ status.WriteFault
  pub no_memory : status_of why ≢ status.Memory

pub has_line : (why : StopReason) → IsApart why → line_of why ≢ []
has_line stop.Write apart = absurd (apart.no_write refl)
has_line stop.Memory apart = absurd (apart.no_memory refl)
has_line stop.Words apart = λ e. (cc)
has_line (stop.Document fault) apart = λ e. (cc)
has_line (stop.Script fault) apart = λ e. (cc)
has_line (stop.Patterns fault) apart = λ e. (cc)
has_line (stop.Font k fault) apart = λ e. (cc)
has_line (stop.Engine why phase) apart = λ e. (cc)
has_line (stop.Read input) apart = λ e. (cc)
has_line stop.DviFull apart = λ e. (cc)

module _ (words : List (List ℕ)) (before after : Outside) where
  prints_why : (why : StopReason) (outcome : Outcome) → IsLineWhole why before.lines after.lines outcome → PrintsWhy why before.lines after.lines
  prints_why stop.Write outcome line = tt
  prints_why stop.Memory outcome line = tt
  prints_why stop.Words outcome line = record { adds = line.adds; kept = line.kept }
  prints_why (stop.Document fault) outcome line = record { adds = line.adds; kept = line.kept }
  prints_why (stop.Script fault) outcome line = record { adds = line.adds; kept = line.kept }
  prints_why (stop.Patterns fault) outcome line = record { adds = line.adds; kept = line.kept }
  prints_why (stop.Font k fault) outcome line = record { adds = line.adds; kept = line.kept }
  prints_why (stop.Engine why phase) outcome line = record { printed = []; is_printed = refl; adds = line.adds; kept = line.kept }
  prints_why (stop.Read input) outcome line = record { adds = line.adds; kept = line.kept }
  prints_why stop.DviFull outcome line = record { printed = []; is_printed = refl; adds = line.adds; kept = line.kept }

  pub prints_nothing : after.lines ≡ before.lines → Prints [] before.lines after.lines
  prints_nothing same = record {
    printed = [];
    is_printed = refl;
    adds = adds_none before.lines after.lines same;
    kept = ap (λ o. o.faults) same;
  }

  -- ---- counts of faults

  input_rose : (input : Which) → FailsAt input (in_turn (font_sizes words) before.inputs) (in_turn (font_sizes words) after.inputs) → NoneRose (counts before) (counts after) → ⊥
  input_rose input fails none = elim fails [
    | inl at_document ↦ none.1.1.0 at_document.1
    | inr later ↦ elim later.1 [
      | inl at_script ↦ none.1.1.1.0 at_script.1
      | inr last ↦ elim last.1 [
        | inl at_patterns ↦ none.1.1.1.1.0 at_patterns.1
        | inr fonts ↦ font_rose 1 (font_sizes words) before.inputs.fonts after.inputs.fonts input fonts.1 none.1.1.1.1.1
      ]
    ]
  ]

  pub all_counts : after.dvi.faults ≡ before.dvi.faults → after.lines.faults ≡ before.lines.faults → input_counts after.inputs ≡ input_counts before.inputs → counts after ≡ counts before
  all_counts dvi lines inputs =
      ap (λ n. n ∷ after.lines.faults ∷ input_counts after.inputs) dvi
      ∙ ap (λ n. before.dvi.faults ∷ n ∷ input_counts after.inputs) lines
      ∙ ap (λ (ns : List ℕ). before.dvi.faults ∷ before.lines.faults ∷ ns) inputs

-- ---- what stands before the line of a reason is written

module _ (words : List (List ℕ)) (opening : Heap) (before after : Outside) (left : Option Heap) where
  -- A source failed.
  pub record IsOfRead (why : StopReason) : Type 0 where
    pub input : Which
    pub is : why ≡ stop.Read input
    pub fault : IsReadFault words input before after

  -- No source failed, and the definition stops for the same reason, with the bytes that the DVI file got and these nodes.
  pub record IsDefined (why : StopReason) : Type 0 where
    pub no_read : status_of why ≢ status.ReadFault
    pub inputs : input_counts after.inputs ≡ input_counts before.inputs
    pub dvi_bytes : List ℕ
    pub moments : List Moment
    pub gives : (bytes : InputBytes) → Exposes before.inputs bytes → run_of words bytes opening ≡ ending_for (Some why) dvi_bytes moments left
    pub dvi : Adds before.dvi.taken after.dvi.taken dvi_bytes

  -- What is given back of the nodes if the run stops for this reason, whether its line is written whole or not.
  pub record LeavesAt (why : StopReason) : Type 0 where
    pub none : IsBeforeDvi (status_of why) → left ≡ None
    pub some : IsOfMachine (status_of why) → IsSome left
    pub made : IsSome left → HasMachine words before after
    pub not_made : left ≡ None → HasNoMachine words opening before after
    pub cut : AddsProperPrefix before.lines.taken after.lines.taken (line_of why) → (heap : Heap) → left ≡ Some heap → (bytes : InputBytes) → Exposes before.inputs bytes → IsSome before.dvi.taken → IsSome before.lines.taken → IsCutAt (run_of words bytes opening).moments before after heap

  pub record Stops (why : StopReason) : Type 0 where
    pub apart : IsApart why
    pub words_refused : status_of why ≡ status.Words → fits_form words (names_of before.inputs) ≡ false
    pub words_first : fits_form words (names_of before.inputs) ≡ false → (status_of why ≡ status.Words) × (after.inputs ≡ before.inputs) × (after.dvi ≡ before.dvi)
    pub order : AreReadInOrder words before.inputs after.inputs
    pub before_dvi : IsBeforeDvi (status_of why) → after.dvi ≡ before.dvi
    pub dvi_kept : after.dvi.faults ≡ before.dvi.faults
    pub cause : IsOfRead why ⊎ IsDefined why
    pub nodes : LeavesAt why

  -- the answer of a run
  abbrev pub RunsTo : Outcome → Type 0
  RunsTo outcome = Runs words opening before after outcome.status outcome.place left

  -- ---- the line was written

  ends_whole : (why : StopReason) (outcome : Outcome) → IsOfRead why ⊎ IsDefined why → IsLineWhole why before.lines after.lines outcome → (bytes : InputBytes) → Exposes before.inputs bytes → NoneRose (counts before) (counts after) → EndsAsDefined (run_of words bytes opening) before after (status_of why) (place_of why) left
  ends_whole why outcome (inl read) line bytes exposes none = absurd (input_rose words before after read.input read.fault.fails none)
  ends_whole why outcome (inr defined) line bytes exposes none =
      let is : run_of words bytes opening ≡ ending_for (Some why) defined.dvi_bytes defined.moments left = defined.gives bytes exposes in
      record {
        status_is = sym (ap (λ e. e.status) is);
        place_is = sym (ap (λ e. e.place) is);
        heap_is = sym (ap (λ e. e.heap) is);
        dvi = subst (λ e. Adds before.dvi.taken after.dvi.taken e.dvi) (sym is) defined.dvi;
        lines = subst (λ e. Adds before.lines.taken after.lines.taken (lines_of e)) (sym is) line.adds;
      }

  kept_whole : (why : StopReason) (outcome : Outcome) → Stops why → IsOfRead why ⊎ IsDefined why → IsLineWhole why before.lines after.lines outcome → status_of why ≢ status.ReadFault → counts after ≡ counts before
  kept_whole why outcome stops (inl read) line no_read = absurd (no_read (ap status_of read.is))
  kept_whole why outcome stops (inr defined) line no_read = all_counts words before after stops.dvi_kept line.kept defined.inputs

  read_named : (why : StopReason) → IsOfRead why ⊎ IsDefined why → status_of why ≡ status.ReadFault → (input : Which) × (place_of why ≡ Some (place.Input input)) × IsReadFault words input before after
  read_named why (inl read) e = (read.input, ap place_of read.is, read.fault)
  read_named why (inr defined) e = absurd (defined.no_read e)

  pub stops_whole : (why : StopReason) (outcome : Outcome) → Stops why → IsLineWhole why before.lines after.lines outcome → Runs words opening before after (status_of why) (place_of why) left
  stops_whole why outcome stops line = record {
    ends = λ bytes exposes none no_memory. ends_whole why outcome stops.cause line bytes exposes none;
    whole = λ bytes exposes e. absurd (stops.apart.no_done e);
    reason = inr (why, record { status_is = refl; place_is = refl; line = prints_why words before after why outcome line });
    words_refused = stops.words_refused;
    words_first = λ e. let first = stops.words_first e in (inl first.0, first.1, first.2);
    in_order = stops.order;
    before_dvi = stops.before_dvi;
    kept = λ no_read no_write no_memory. kept_whole why outcome stops stops.cause line no_read;
    read_fault = read_named why stops.cause;
    write_fault = λ e. absurd (stops.apart.no_write e);
    memory = λ e. absurd (stops.apart.no_memory e);
    prefixes = λ e. elim e [ inl w ↦ absurd (stops.apart.no_write w) | inr m ↦ absurd (stops.apart.no_memory m) ];
    nodes = record {
      none = stops.nodes.none;
      some = stops.nodes.some;
      made = stops.nodes.made;
      not_made = λ e none. absurd (stops.apart.no_write e);
      cut = λ e heap is bytes exposes dvi lines. absurd (stops.apart.no_write e);
    };
  }
