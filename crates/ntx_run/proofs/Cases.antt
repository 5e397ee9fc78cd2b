-- The ways in which a run ends before a machine is made: at its words, or at an input.
use Rattle.std.proofs.Common.{◌≡◌, ℕ, false, ℤ, List, [], Option, None, Result, Err, inl, inr, refl, ap, sym, ◌∙◌, subst}
use Rattle.std.specs.Prelude.{IsTrue, IsSome, ◌≢◌, option_map}
use Rattle.std.proofs.lemmas.Bool.{true≢false}
use Rattle.ntx_nodes.specs.Heap.{Heap}
use Rattle.ntx_run.specs.declared.stop.StopReason.{StopReason}
use Rattle.ntx_run.specs.declared.stop.StopReason.TheVariants as stop
use Rattle.ntx_run.specs.declared.outcome.Outcome.{Outcome}
use Rattle.ntx_run.specs.declared.outcome.Status.{Status}
use Rattle.ntx_run.specs.declared.outcome.Status.TheVariants as status
use Rattle.ntx_run.specs.declared.outcome.Place.{Place}
use Rattle.ntx_run.specs.declared.outcome.Which.{Which}
use Rattle.ntx_run.specs.declared.outcome.Which.TheVariants as which
use Rattle.ntx_run.specs.StopReason.{IsBeforeDvi, status_of}
use Rattle.ntx_run.specs.Run.{InputBytes, Job, fits_form, font_sizes, read_inputs, run_of}
use Rattle.ntx_run.specs.Outside.{Outside, names_of, in_turn, input_counts, Exposes, AreReadInOrder, AreReadInTurn, FailsAt}
use Rattle.ntx_run.specs.Promise.{HasMachine, HasNoMachine, IsOfMachine, Runs}
use Rattle.ntx_run.specs.inner.Words.{FitsWith}
use Rattle.ntx_run.specs.inner.Parts.{IsRefusalOf, ReadsInputs, HasNoLine, WritesLine, Reports}
use Rattle.ntx_run.proofs.Reading.{in_order, StopsAt, stops_at}
use Rattle.ntx_run.proofs.Sinks.{adds_none, adds_no_prefix}
use Rattle.ntx_run.proofs.Endings.{run_refused, run_accepted, IsApart, LeavesAt, RunsTo}
use Rattle.ntx_run.proofs.Breaking.{stop_ends, unread_ends, memory_ends}

-- ---- statuses

-- A reason for which an input is refused: it has none of these statuses, and a line.
record IsInputRefusal (why : StopReason) : Type 0 where
  apart : IsApart why
  no_words : status_of why ≢ status.Words
  no_read : status_of why ≢ status.ReadFault
  before_dvi : IsBeforeDvi (status_of why)
  no_machine : IsOfMachine (status_of why) → ⊥

input_refusal : (input : Which) (why : StopReason) → IsRefusalOf input why → IsInputRefusal why
input_refusal which.Document why refusal = subst IsInputRefusal (sym refusal.1) (record {
  apart = record { no_done = λ e. (cc); no_write = λ e. (cc); no_memory = λ e. (cc) };
  no_words = λ e. (cc);
  no_read = λ e. (cc);
  before_dvi = tt;
  no_machine = λ m. m;
})
input_refusal which.Script why refusal = subst IsInputRefusal (sym refusal.1) (record {
  apart = record { no_done = λ e. (cc); no_write = λ e. (cc); no_memory = λ e. (cc) };
  no_words = λ e. (cc);
  no_read = λ e. (cc);
  before_dvi = tt;
  no_machine = λ m. m;
})
input_refusal which.Patterns why refusal = subst IsInputRefusal (sym refusal.1) (record {
  apart = record { no_done = λ e. (cc); no_write = λ e. (cc); no_memory = λ e. (cc) };
  no_words = λ e. (cc);
  no_read = λ e. (cc);
  before_dvi = tt;
  no_machine = λ m. m;
})
input_refusal (which.Font k) why refusal = subst IsInputRefusal (sym refusal.1) (record {
  apart = record { no_done = λ e. (cc); no_write = λ e. (cc); no_memory = λ e. (cc) };
  no_words = λ e. (cc);
  no_read = λ e. (cc);
  before_dvi = tt;
  no_machine = λ m. m;
})

module _ (words : List (List ℕ)) (opening : Heap) (before after : Outside) where
  -- ---- no machine was made

  no_nodes : IsSome {T = Heap} None → HasMachine words before after
  no_nodes some = cc

  leaves_none : (why : StopReason) → (IsOfMachine (status_of why) → ⊥) → HasNoMachine words opening before after → LeavesAt words opening before after None why
  leaves_none why no_machine none = record {
    none = λ r. refl;
    some = λ m. absurd (no_machine m);
    made = no_nodes;
    not_made = λ e. none;
    cut = λ line heap is bytes exposes dvi lines. (cc);
  }

  -- An answer without nodes.
  pub answers_without : {N : Type 0} (heap : N → Heap) (outcome : Outcome) (ended : Status) (at : Option Place) (nodes : Option N) → ended ≡ outcome.status → at ≡ outcome.place → nodes ≡ None → RunsTo words opening before after None outcome → Runs words opening before after ended at (option_map heap nodes)
  answers_without heap outcome ended at nodes ended_is at_is none runs =
      subst (λ s. Runs words opening before after s at (option_map heap nodes)) (sym ended_is)
      (subst (λ p. Runs words opening before after outcome.status p (option_map heap nodes)) (sym at_is)
      (subst (λ left. Runs words opening before after outcome.status outcome.place (option_map heap left)) (sym none) runs))

  -- ---- the words are refused

  order_same : after.inputs ≡ before.inputs → AreReadInOrder words before.inputs after.inputs
  order_same same =
      record { words_first = inl same; in_turn = subst (λ i. AreReadInTurn (in_turn (font_sizes words) before.inputs) (in_turn (font_sizes words) i)) (sym same) (inl refl); names = ap names_of same }

  pub runs_words : (outcome : Outcome) → fits_form words (names_of before.inputs) ≡ false → after.inputs ≡ before.inputs → after.dvi ≡ before.dvi → Reports stop.Words before.lines after.lines outcome → RunsTo words opening before after None outcome
  runs_words outcome refused same same_dvi reports = stop_ends words opening before after None stop.Words outcome (record {
    apart = record { no_done = λ e. (cc); no_write = λ e. (cc); no_memory = λ e. (cc) };
    words_refused = λ e. refused;
    words_first = λ e. (refl, same, same_dvi);
    order = order_same same;
    before_dvi = λ r. same_dvi;
    dvi_kept = ap (λ o. o.faults) same_dvi;
    cause = inr (record {
      no_read = λ e. (cc);
      inputs = ap input_counts same;
      dvi_bytes = [];
      moments = [];
      gives = λ bytes exposes. run_refused words opening before.inputs bytes exposes refused;
      dvi = adds_none before.dvi after.dvi same_dvi;
    });
    nodes = leaves_none stop.Words (λ m. m) (inr (same_dvi, λ bytes exposes. subst (λ e. IsBeforeDvi e.status) (sym (run_refused words opening before.inputs bytes exposes refused)) tt));
  }) reports

  -- Memory ran out before the words were read.
  pub runs_no_words : (outcome : Outcome) → after.inputs ≡ before.inputs → after.dvi ≡ before.dvi → HasNoLine stop.Memory before.lines after.lines outcome → RunsTo words opening before after None outcome
  runs_no_words outcome same same_dvi none = unread_ends words opening before after None outcome (order_same same) same same_dvi no_nodes none

  -- ---- an input ends the run

  -- The words are accepted, the inputs were read in order, and the DVI file got nothing.
  pub record Begun : Type 0 where
    pub accepted : IsTrue (fits_form words (names_of before.inputs))
    pub order : AreReadInOrder words before.inputs after.inputs
    pub dvi : after.dvi ≡ before.dvi

  input_refused : (why : StopReason) (outcome : Outcome) → Begun → IsInputRefusal why → input_counts after.inputs ≡ input_counts before.inputs → ((bytes : InputBytes) → Exposes before.inputs bytes → read_inputs (font_sizes words) bytes ≡ Err why) → WritesLine why before.lines after.lines outcome → RunsTo words opening before after None outcome
  input_refused why outcome begun refusal inputs gives line =
      let ends = λ (bytes : InputBytes) (exposes : Exposes before.inputs bytes). run_accepted words opening before.inputs bytes exposes (Err why) begun.accepted (gives bytes exposes) in
      stop_ends words opening before after None why outcome (record {
        apart = refusal.apart;
        words_refused = λ e. absurd (refusal.no_words e);
        words_first = λ e. absurd (true≢false (sym begun.accepted ∙ e));
        order = begun.order;
        before_dvi = λ r. begun.dvi;
        dvi_kept = ap (λ o. o.faults) begun.dvi;
        cause = inr (record {
          no_read = refusal.no_read;
          inputs = inputs;
          dvi_bytes = [];
          moments = [];
          gives = ends;
          dvi = adds_none before.dvi after.dvi begun.dvi;
        });
        nodes = leaves_none why refusal.no_machine (inr (begun.dvi, λ bytes exposes. subst (λ e. IsBeforeDvi e.status) (sym (ends bytes exposes)) refusal.before_dvi));
      }) line

  input_failed : (input : Which) (outcome : Outcome) → Begun → FailsAt input (in_turn (font_sizes words) before.inputs) (in_turn (font_sizes words) after.inputs) → WritesLine (stop.Read input) before.lines after.lines outcome → RunsTo words opening before after None outcome
  input_failed input outcome begun fails line = stop_ends words opening before after None (stop.Read input) outcome (record {
    apart = record { no_done = λ e. (cc); no_write = λ e. (cc); no_memory = λ e. (cc) };
    words_refused = λ e. (cc);
    words_first = λ e. absurd (true≢false (sym begun.accepted ∙ e));
    order = begun.order;
    before_dvi = λ r. begun.dvi;
    dvi_kept = ap (λ o. o.faults) begun.dvi;
    cause = inl (record {
      input = input;
      is = refl;
      fault = record { accepted = begun.accepted; fails = fails; dvi = begun.dvi };
    });
    nodes = leaves_none (stop.Read input) (λ m. m) (inl (input, record { accepted = begun.accepted; fails = fails; dvi = begun.dvi }));
  }) line

  -- Memory ran out before a machine was made.
  pub unmade_ends : (outcome : Outcome) → Begun → input_counts after.inputs ≡ input_counts before.inputs → HasNoLine stop.Memory before.lines after.lines outcome → RunsTo words opening before after None outcome
  unmade_ends outcome begun inputs none = memory_ends words opening before after None outcome (record {
    accepted = begun.accepted;
    order = begun.order;
    inputs = inputs;
    dvi = λ bytes exposes. adds_no_prefix before.dvi after.dvi (run_of words bytes opening).dvi begun.dvi;
    made = no_nodes;
  }) (ap (λ o. o.faults) begun.dvi) none

  -- A refusal of an input has a line.
  refusal_reports : (input : Which) (why : StopReason) (outcome : Outcome) → IsRefusalOf input why → Reports why before.lines after.lines outcome → WritesLine why before.lines after.lines outcome
  refusal_reports which.Document why outcome refusal reports =
      subst (λ w. WritesLine w before.lines after.lines outcome) (sym refusal.1) (subst (λ w. Reports w before.lines after.lines outcome) refusal.1 reports)
  refusal_reports which.Script why outcome refusal reports =
      subst (λ w. WritesLine w before.lines after.lines outcome) (sym refusal.1) (subst (λ w. Reports w before.lines after.lines outcome) refusal.1 reports)
  refusal_reports which.Patterns why outcome refusal reports =
      subst (λ w. WritesLine w before.lines after.lines outcome) (sym refusal.1) (subst (λ w. Reports w before.lines after.lines outcome) refusal.1 reports)
  refusal_reports (which.Font k) why outcome refusal reports =
      subst (λ w. WritesLine w before.lines after.lines outcome) (sym refusal.1) (subst (λ w. Reports w before.lines after.lines outcome) refusal.1 reports)

  by_input : (why : StopReason) (outcome : Outcome) → Begun → StopsAt (font_sizes words) before.inputs after.inputs why → Reports why before.lines after.lines outcome → RunsTo words opening before after None outcome
  by_input why outcome begun at reports = elim at.stops [
    | inl refusal ↦ input_refused why outcome begun (input_refusal at.input why refusal.0) refusal.1 refusal.2 (refusal_reports at.input why outcome refusal.0 reports)
    | inr other ↦ elim other [
      | inl failure ↦ input_failed at.input outcome begun failure.1 (subst (λ w. Reports w before.lines after.lines outcome) failure.0 reports)
      | inr memory ↦ unmade_ends outcome begun memory.1 (subst (λ w. Reports w before.lines after.lines outcome) memory.0 reports)
    ]
  ]

  pub runs_inputs : (sizes : List (Option ℤ)) (result : Result Job StopReason) (why : StopReason) (outcome : Outcome) → FitsWith words (names_of before.inputs) sizes → after.dvi ≡ before.dvi → ReadsInputs sizes before.inputs after.inputs result → result ≡ Err why → Reports why before.lines after.lines outcome → RunsTo words opening before after None outcome
  runs_inputs sizes result why outcome fits dvi reads is reports =
      let read : ReadsInputs (font_sizes words) before.inputs after.inputs result = subst (λ s. ReadsInputs s before.inputs after.inputs result) fits.sizes_are reads in
      by_input why outcome (record {
        accepted = fits.fits;
        order = in_order words before.inputs after.inputs result fits.fits read;
        dvi = dvi;
      }) (stops_at (font_sizes words) before.inputs after.inputs result why read is) reports
