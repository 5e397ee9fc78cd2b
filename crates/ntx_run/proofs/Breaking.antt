-- How a run ends that broke off: at a sink that failed, or since memory ran out.
use Rattle.std.proofs.Common.{◌≡◌, ℕ, true, false, List, [], Option, Some, None, ◌⊎◌, inl, inr, refl, ap, sym, ◌∙◌, subst}
use Rattle.std.specs.Prelude.{IsTrue, IsSome, ◌≢◌}
use Rattle.std.proofs.lemmas.Bool.{true≢false}
use Rattle.ntx_nodes.specs.Heap.{Heap}
use Rattle.ntx_io.specs.Outside.{Rose, Adds, AddsPrefix, AddsProperPrefix}
use Rattle.ntx_run.specs.declared.stop.StopReason.{StopReason}
use Rattle.ntx_run.specs.declared.stop.StopReason.TheVariants as stop
use Rattle.ntx_run.specs.declared.outcome.Outcome.{Outcome}
use Rattle.ntx_run.specs.declared.outcome.Status.TheVariants as status
use Rattle.ntx_run.specs.declared.outcome.Which.{Which}
use Rattle.ntx_run.specs.StopReason.{line_of}
use Rattle.ntx_run.specs.Run.{InputBytes, lines_of, fits_form, run_of}
use Rattle.ntx_run.specs.Outside.{Outside, names_of, input_counts, counts, Exposes, NoneRose, AreReadInOrder, IsReadFault, AreAccepted}
use Rattle.ntx_run.specs.Promise.{IsLineCut, IsWriteFault, BreaksOff, IsCutAt, HasMachine, HasNoMachine, Runs}
use Rattle.ntx_run.specs.inner.Parts.{IsLineCutOff, HasNoLine, WritesLine}
use Rattle.ntx_run.proofs.Sinks.{adds_no_prefix, adds_whole, adds_proper}
use Rattle.ntx_run.proofs.Endings.{has_line, prints_nothing, IsOfRead, IsDefined, Stops, RunsTo, stops_whole}

module _ (words : List (List ℕ)) (opening : Heap) (before after : Outside) (left : Option Heap) where
  -- what stands at a write fault, and if memory ran out
  pub record Breaks : Type 0 where
    pub order : AreReadInOrder words before.inputs after.inputs
    pub words_first : fits_form words (names_of before.inputs) ≡ false → (after.inputs ≡ before.inputs) × (after.dvi ≡ before.dvi)
    pub off : BreaksOff words opening before after
    pub made : IsSome left → HasMachine words before after

  -- what a write fault leaves of the nodes
  pub record LeavesAtWrite : Type 0 where
    pub not_made : left ≡ None → HasNoMachine words opening before after
    pub cut : (heap : Heap) → left ≡ Some heap → (bytes : InputBytes) → Exposes before.inputs bytes → IsSome before.dvi.taken → IsSome before.lines.taken → IsCutAt (run_of words bytes opening).moments before after heap

  sink_rose : IsWriteFault words opening before after → NoneRose (counts before) (counts after) → ⊥
  sink_rose (inl file) none = none.0 file.rose
  sink_rose (inr line) none = none.1.0 line.1.rose

  write_breaks : Breaks → LeavesAtWrite → IsWriteFault words opening before after → Runs words opening before after status.WriteFault None left
  write_breaks breaks nodes failed = record {
    ends = λ bytes exposes none no_memory. absurd (sink_rose failed none);
    whole = λ bytes exposes e. (cc);
    reason = inr (stop.Write, record { status_is = refl; place_is = refl; line = tt });
    words_refused = λ e. (cc);
    words_first = λ e. let first = breaks.words_first e in (inr (inl refl), first.0, first.1);
    in_order = breaks.order;
    before_dvi = λ r. absurd r;
    kept = λ no_read no_write no_memory. absurd (no_write refl);
    read_fault = λ e. (cc);
    write_fault = λ e. failed;
    memory = λ e. (cc);
    prefixes = λ e. breaks.off;
    nodes = record {
      none = λ r. absurd r;
      some = λ r. absurd r;
      made = breaks.made;
      not_made = λ e. nodes.not_made;
      cut = λ e. nodes.cut;
    };
  }

  memory_breaks : Breaks → (after.dvi.faults ≡ before.dvi.faults) × (after.lines.faults ≡ before.lines.faults) → Runs words opening before after status.Memory None left
  memory_breaks breaks kept = record {
    ends = λ bytes exposes none no_memory. absurd (no_memory refl);
    whole = λ bytes exposes e. (cc);
    reason = inr (stop.Memory, record { status_is = refl; place_is = refl; line = tt });
    words_refused = λ e. (cc);
    words_first = λ e. let first = breaks.words_first e in (inr (inr refl), first.0, first.1);
    in_order = breaks.order;
    before_dvi = λ r. absurd r;
    kept = λ no_read no_write no_memory. absurd (no_memory refl);
    read_fault = λ e. (cc);
    write_fault = λ e. (cc);
    memory = λ e. kept;
    prefixes = λ e. breaks.off;
    nodes = record {
      none = λ r. absurd r;
      some = λ r. absurd r;
      made = breaks.made;
      not_made = λ e none. (cc);
      cut = λ e heap is bytes exposes dvi lines. (cc);
    };
  }

  -- ---- a reason with its line

  line_breaks_off : (why : StopReason) → IsOfRead words opening before after left why ⊎ IsDefined words opening before after left why → AddsPrefix before.lines.taken after.lines.taken (line_of why) → BreaksOff words opening before after
  line_breaks_off why (inl read) line =
      inr (read.input, read.fault, subst (λ w. AddsPrefix before.lines.taken after.lines.taken (line_of w)) read.is line)
  line_breaks_off why (inr defined) line =
      inl (
        defined.inputs,
        λ bytes exposes. record {
          dvi = subst (λ e. AddsPrefix before.dvi.taken after.dvi.taken e.dvi) (sym (defined.gives bytes exposes)) (adds_whole before.dvi.taken after.dvi.taken defined.dvi_bytes defined.dvi);
          lines = subst (λ e. AddsPrefix before.lines.taken after.lines.taken (lines_of e)) (sym (defined.gives bytes exposes)) line;
        },
      )

  line_breaks : (why : StopReason) → Stops words opening before after left why → AddsPrefix before.lines.taken after.lines.taken (line_of why) → Breaks
  line_breaks why stops line = record {
    order = stops.order;
    words_first = λ e. let first = stops.words_first e in (first.1, first.2);
    off = line_breaks_off why stops.cause line;
    made = stops.nodes.made;
  }

  cut_cause : (why : StopReason) → IsOfRead words opening before after left why ⊎ IsDefined words opening before after left why → ((input : Which) × (why ≡ stop.Read input) × IsReadFault words input before after) ⊎ ((bytes : InputBytes) → Exposes before.inputs bytes → ((run_of words bytes opening).fault_line ≡ line_of why) × Adds before.dvi.taken after.dvi.taken (run_of words bytes opening).dvi)
  cut_cause why (inl read) = inl (read.input, read.is, read.fault)
  cut_cause why (inr defined) = inr (λ bytes exposes. (ap (λ e. e.fault_line) (defined.gives bytes exposes), subst (λ e. Adds before.dvi.taken after.dvi.taken e.dvi) (sym (defined.gives bytes exposes)) defined.dvi))

  line_cut : (why : StopReason) (outcome : Outcome) → Stops words opening before after left why → IsLineCutOff why before.lines after.lines outcome → IsLineCut words opening why before after
  line_cut why outcome stops cut = record {
    has_line = has_line why stops.apart;
    printed = [];
    is_printed = refl;
    cut = cut.adds;
    rose = cut.rose;
    kept = stops.dvi_kept;
    before_dvi = stops.before_dvi;
    cause = cut_cause why stops.cause;
  }

  pub stop_ends : (why : StopReason) (outcome : Outcome) → Stops words opening before after left why → WritesLine why before.lines after.lines outcome → RunsTo words opening before after left outcome
  stop_ends why outcome stops (inl line) = subst (RunsTo words opening before after left) (sym line.ended) (stops_whole words opening before after left why outcome stops line)
  stop_ends why outcome stops (inr (inl cut)) =
      subst (RunsTo words opening before after left) (sym cut.ended)
      (write_breaks (line_breaks why stops (adds_proper before.lines.taken after.lines.taken (line_of why) cut.adds))
      (record { not_made = stops.nodes.not_made; cut = stops.nodes.cut cut.adds })
      (inr (why, line_cut why outcome stops cut)))
  stop_ends why outcome stops (inr (inr none)) =
      subst (RunsTo words opening before after left) (sym none.ended)
      (memory_breaks (line_breaks why stops (adds_no_prefix before.lines after.lines (line_of why) none.same)) (stops.dvi_kept, ap (λ o. o.faults) none.same))

  -- ---- a reason without one

  -- No source failed, and the DVI file got a prefix of what is defined.
  pub record IsUnfinished : Type 0 where
    pub accepted : IsTrue (fits_form words (names_of before.inputs))
    pub order : AreReadInOrder words before.inputs after.inputs
    pub inputs : input_counts after.inputs ≡ input_counts before.inputs
    pub dvi : (bytes : InputBytes) → Exposes before.inputs bytes → AddsPrefix before.dvi.taken after.dvi.taken (run_of words bytes opening).dvi
    pub made : IsSome left → HasMachine words before after

  unfinished_breaks : IsUnfinished → after.lines ≡ before.lines → Breaks
  unfinished_breaks unfinished same = record {
    order = unfinished.order;
    words_first = λ e. absurd (true≢false (sym unfinished.accepted ∙ e));
    off = inl (
      unfinished.inputs,
      λ bytes exposes. record { dvi = unfinished.dvi bytes exposes; lines = adds_no_prefix before.lines after.lines (lines_of (run_of words bytes opening)) same },
    );
    made = unfinished.made;
  }

  pub write_ends : (outcome : Outcome) → IsUnfinished → LeavesAtWrite → Rose before.dvi.faults after.dvi.faults → ((bytes : InputBytes) → Exposes before.inputs bytes → AddsProperPrefix before.dvi.taken after.dvi.taken (run_of words bytes opening).dvi) → ((bytes : InputBytes) → Exposes before.inputs bytes → AreAccepted words bytes) → HasNoLine stop.Write before.lines after.lines outcome → RunsTo words opening before after left outcome
  write_ends outcome unfinished nodes rose cut accepted none =
      subst (RunsTo words opening before after left) (sym none.ended)
      (write_breaks (unfinished_breaks unfinished none.same) nodes (inl (record { rose = rose; cut = cut; lines = prints_nothing words before after none.same; fits = unfinished.accepted; accepted = accepted })))

  pub memory_ends : (outcome : Outcome) → IsUnfinished → after.dvi.faults ≡ before.dvi.faults → HasNoLine stop.Memory before.lines after.lines outcome → RunsTo words opening before after left outcome
  memory_ends outcome unfinished kept none =
      subst (RunsTo words opening before after left) (sym none.ended)
      (memory_breaks (unfinished_breaks unfinished none.same) (kept, ap (λ o. o.faults) none.same))

  -- Memory ran out before anything was read or written.
  pub unread_ends : (outcome : Outcome) → AreReadInOrder words before.inputs after.inputs → after.inputs ≡ before.inputs → after.dvi ≡ before.dvi → (IsSome left → HasMachine words before after) → HasNoLine stop.Memory before.lines after.lines outcome → RunsTo words opening before after left outcome
  unread_ends outcome order same same_dvi made none =
      subst (RunsTo words opening before after left) (sym none.ended) (memory_breaks (record {
        order = order;
        words_first = λ e. (same, same_dvi);
        off = inl (
          ap input_counts same,
          λ bytes exposes. record {
            dvi = adds_no_prefix before.dvi after.dvi (run_of words bytes opening).dvi same_dvi;
            lines = adds_no_prefix before.lines after.lines (lines_of (run_of words bytes opening)) none.same;
          },
        );
        made = made;
      }) (ap (λ o. o.faults) same_dvi, ap (λ o. o.faults) none.same))
