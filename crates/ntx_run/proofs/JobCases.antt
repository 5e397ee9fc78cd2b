-- The ways in which a run ends whose inputs are accepted: with a DVI file that is cut off, stopped by its machine, out of memory, or well.
use Rattle.std.proofs.Common.{◌≡◌, ℕ, ℤ, List, [], ◌∷◌, ◌++◌, Option, None, Some, Result, Ok, Err, is_ok, inl, inr, refl, ap, sym, ◌∙◌, subst, append_assoc, append-nil}
use Rattle.std.specs.Prelude.{IsTrue, IsSome, ◌≢◌}
use Rattle.std.proofs.lemmas.Bool.{true≢false}
use Rattle.ntx_nodes.specs.Heap.{Heap}
use Rattle.ntx_io.specs.Outside.{Adds, AddsPrefix, AddsProperPrefix}
use Rattle.ntx_dvi.specs.Operation.{Begin}
use Rattle.ntx_dvi.specs.Progress.{start}
use Rattle.ntx_dvi.proofs.FileLemmas.{file_ends}
use Rattle.ntx_machine.specs.declared.stop.Stop.{Stop}
use Rattle.ntx_machine.specs.declared.stop.Stop.TheVariants as machine_stop
use Rattle.ntx_machine.specs.State.{first_state}
use Rattle.ntx_machine.specs.Job as machine
use Rattle.ntx_machine.specs.Job.{Ran, job_ran, bytes_of, last_heap}
use Rattle.ntx_machine.proofs.Jobs.{bytes_of-append, last_heap-append}
use Rattle.ntx_run.specs.declared.stop.StopReason.{StopReason}
use Rattle.ntx_run.specs.declared.stop.StopReason.TheVariants as stop
use Rattle.ntx_run.specs.declared.outcome.Outcome.{Outcome}
use Rattle.ntx_run.specs.declared.outcome.Status.{Status}
use Rattle.ntx_run.specs.declared.outcome.Status.TheVariants as status
use Rattle.ntx_run.specs.declared.outcome.Place.{Place}
use Rattle.ntx_run.specs.StopReason.{of_machine, IsBeforeDvi, status_of, line_of}
use Rattle.ntx_run.specs.Run.{InputBytes, Job, lines_of, fits_form, font_sizes, line_for, reason_of, moments_of, machine_ending, run_of}
use Rattle.ntx_run.specs.Outside.{Outside, names_of, Exposes, AreReadInOrder, IsFile, AreAccepted}
use Rattle.ntx_run.specs.Promise.{EndsAsDefined, IsWhole, IsCutAt, HasMachine, Runs}
use Rattle.ntx_run.specs.inner.Words.{FitsWith}
use Rattle.ntx_run.specs.inner.Parts.{ReadsInputs, answer_of, IsCarriedOut, IsCutDuring, CarriesOut, HasNoLine, WritesLine, Reports, Closes, RunsJob}
use Rattle.ntx_run.proofs.Reading.{in_order, IsAllRead, all_read}
use Rattle.ntx_run.proofs.Sinks.{adds_none, adds_no_prefix, adds_whole, adds_proper, nothing_first, takes_no_more}
use Rattle.ntx_run.proofs.Moments.{taken_before, At, at_step, IsLast, last_step}
use Rattle.ntx_run.proofs.Endings.{names_fit, run_accepted, IsApart, LeavesAt, RunsTo, prints_nothing, all_counts}
use Rattle.ntx_run.proofs.Breaking.{stop_ends, IsUnfinished, write_ends, memory_ends}
use Rattle.ntx_run.proofs.Cases.{unmade_ends}

-- ---- what an answer says of a job

stop_of : (reason : StopReason) (ending : Result (Unit {0}) Stop) → ◌≡◌ {A = Result (Unit {0}) StopReason} (Err reason) (answer_of ending) → (why : Stop) × (ending ≡ Err why) × (reason ≡ of_machine why)
stop_of reason (Ok a) e = cc
stop_of reason (Err why) e = (why, refl, cc)

end_of : (a : Unit {0}) (ending : Result (Unit {0}) Stop) → ◌≡◌ {A = Result (Unit {0}) StopReason} (Ok a) (answer_of ending) → (b : Unit {0}) × (ending ≡ Ok b)
end_of a (Ok b) e = (b, refl)
end_of a (Err why) e = cc

no_stop : (a : Unit {0}) (why : StopReason) → ◌≡◌ {A = Result (Unit {0}) StopReason} (Ok a) (Err why) → ⊥
no_stop a why e = cc

-- A reason of a machine: it has none of these statuses, and a line.
record IsMachineStop (why : StopReason) : Type 0 where
  apart : IsApart why
  no_words : status_of why ≢ status.Words
  no_read : status_of why ≢ status.ReadFault
  begun : IsBeforeDvi (status_of why) → ⊥

module _ (words : List (List ℕ)) (opening : Heap) (before after : Outside) where
  module _ (job : Job) where
    abbrev whole_job : Ran
    whole_job = job_ran job.fonts job.commands opening

    -- All was read.
    record IsReadWhole : Type 0 where
      accepted : IsTrue (fits_form words (names_of before.inputs))
      order : AreReadInOrder words before.inputs after.inputs
      read : IsAllRead (font_sizes words) before.inputs after.inputs job

    run_is : IsReadWhole → (bytes : InputBytes) → Exposes before.inputs bytes → run_of words bytes opening ≡ machine_ending opening whole_job
    run_is read bytes exposes =
        run_accepted words opening before.inputs bytes exposes (Ok job) read.accepted (read.read.gives bytes exposes).0

    run_ends : IsReadWhole → (ending : Result (Unit {0}) Stop) → whole_job.ending ≡ ending → (bytes : InputBytes) → Exposes before.inputs bytes → run_of words bytes opening ≡ machine_ending opening (record { after = whole_job.after; ending = ending })
    run_ends read ending is bytes exposes =
        run_is read bytes exposes ∙ ap (λ (e : Result (Unit {0}) Stop). machine_ending opening (record { after = whole_job.after; ending = e })) is

    are_accepted : IsReadWhole → (bytes : InputBytes) → Exposes before.inputs bytes → AreAccepted words bytes
    are_accepted read bytes exposes = (names_fit words opening before.inputs bytes exposes ∙ read.accepted, ap is_ok (read.read.gives bytes exposes).0)

    has_machine : IsReadWhole → HasMachine words before after
    has_machine read = record { fits = read.accepted; kept = read.read.kept; accepted = are_accepted read }

    unfinished : (left : Option Heap) → IsReadWhole → AddsPrefix before.dvi.taken after.dvi.taken (bytes_of whole_job.after) → IsUnfinished words opening before after left
    unfinished left read prefix = record {
      accepted = read.accepted;
      order = read.order;
      inputs = read.read.kept;
      dvi = λ bytes exposes. subst (AddsPrefix before.dvi.taken after.dvi.taken) (sym (ap (λ e. e.dvi) (run_is read bytes exposes))) prefix;
      made = λ some. has_machine read;
    }

    -- ---- the DVI file is cut off

    file_cut_at : (heap : Heap) (result : Result (Unit {0}) StopReason) → IsReadWhole → IsCutDuring whole_job before.dvi after.dvi heap result → after.lines ≡ before.lines → (given : Heap) → Some heap ≡ Some given → (bytes : InputBytes) → Exposes before.inputs bytes → IsSome before.dvi.taken → IsCutAt (run_of words bytes opening).moments before after given
    file_cut_at heap result read cut same given is bytes exposes some =
        let line = line_for (reason_of whole_job.ending) in
        let at : At line [] cut.earlier cut.cut cut.later = at_step line [] cut.earlier cut.cut cut.later in
        let taken_is : at.here.dvi ≡ (bytes_of cut.earlier ++ cut.prefix) ++ cut.rest = at.dvi ∙ ap (λ t. bytes_of cut.earlier ++ t) cut.waiting ∙ sym (append_assoc (bytes_of cut.earlier) cut.prefix cut.rest) in
        let heap_is : heap ≡ given = cc in
        record {
          earlier = at.firsts;
          cut = at.here;
          later = at.others;
          parts = ap (λ e. e.moments) (run_is read bytes exposes) ∙ ap (λ ss. moments_of line (machine.moments_of ss)) cut.parts ∙ at.parts;
          whole = taken_before before after (bytes_of cut.earlier) cut.prefix [] at.firsts cut.adds (adds_none before.lines after.lines same) at.are_before;
          not_whole = λ taken. takes_no_more before.dvi.taken after.dvi.taken (bytes_of cut.earlier ++ cut.prefix) cut.rest taken.0.0 some cut.adds cut.some_rest (subst (λ t. Adds before.dvi.taken after.dvi.taken (t ++ taken.0.0)) taken_is taken.0.1);
          no_more_dvi = record { prefix = bytes_of cut.earlier ++ cut.prefix; rest = cut.rest; parts = taken_is; adds = cut.adds };
          no_more_lines = adds_no_prefix before.lines after.lines at.here.printed same;
          heap_is = sym heap_is ∙ cut.heap ∙ sym at.heap;
        }

    proper_prefix : (heap : Heap) (result : Result (Unit {0}) StopReason) → IsCutDuring whole_job before.dvi after.dvi heap result → AddsProperPrefix before.dvi.taken after.dvi.taken (bytes_of whole_job.after)
    proper_prefix heap result cut =
        let first = bytes_of cut.earlier in
        let later = bytes_of cut.later in
        record {
          prefix = first ++ cut.prefix;
          rest = cut.rest ++ later;
          parts =
              ap bytes_of cut.parts ∙ bytes_of-append cut.earlier (cut.cut ∷ cut.later)
              ∙ ap (λ t. first ++ t) (ap (λ w. w ++ later) cut.waiting ∙ append_assoc cut.prefix cut.rest later)
              ∙ sym (append_assoc first cut.prefix (cut.rest ++ later));
          cut = λ e. cut.some_rest (nothing_first cut.rest later e);
          adds = cut.adds;
        }

    cut_ends : (heap : Heap) (result : Result (Unit {0}) StopReason) (outcome : Outcome) → IsReadWhole → IsCutDuring whole_job before.dvi after.dvi heap result → HasNoLine stop.Write before.lines after.lines outcome → RunsTo words opening before after (Some heap) outcome
    cut_ends heap result outcome read cut none =
        let proper = proper_prefix heap result cut in
        write_ends words opening before after (Some heap) outcome
        (unfinished (Some heap) read (adds_proper before.dvi.taken after.dvi.taken (bytes_of whole_job.after) proper))
        (record { not_made = λ e. (cc); cut = λ given is bytes exposes dvi lines. file_cut_at heap result read cut none.same given is bytes exposes dvi })
        cut.rose
        (λ bytes exposes. subst (AddsProperPrefix before.dvi.taken after.dvi.taken) (sym (ap (λ e. e.dvi) (run_is read bytes exposes))) proper)
        (are_accepted read)
        none

    -- ---- the machine stopped

    line_cut_at : (why : Stop) (heap : Heap) (result : Result (Unit {0}) StopReason) → whole_job.ending ≡ Err why → IsReadWhole → IsCarriedOut whole_job opening before.dvi after.dvi heap result → AddsProperPrefix before.lines.taken after.lines.taken (line_of (of_machine why)) → (given : Heap) → Some heap ≡ Some given → (bytes : InputBytes) → Exposes before.inputs bytes → IsSome before.lines.taken → IsCutAt (run_of words bytes opening).moments before after given
    line_cut_at why heap result ending read whole cut given is bytes exposes some =
        let line = line_of (of_machine why) in
        let end : IsLast whole_job.after = last_step (machine.job job.fonts job.commands) (first_state opening) why ending in
        let at : At line [] end.earlier end.last [] = at_step line [] end.earlier end.last [] in
        let dvi : Adds before.dvi.taken after.dvi.taken (bytes_of end.earlier ++ bytes_of (end.last ∷ [])) = subst (Adds before.dvi.taken after.dvi.taken) (ap bytes_of end.is ∙ bytes_of-append end.earlier (end.last ∷ [])) whole.takes.0 in
        let dvi_is : bytes_of end.earlier ++ bytes_of (end.last ∷ []) ≡ at.here.dvi = ap (λ t. bytes_of end.earlier ++ t) (append-nil end.last.writer.waiting) ∙ sym at.dvi in
        let printed_is : at.here.printed ≡ cut.prefix ++ cut.rest = at.last refl ∙ cut.parts in
        let heap_is : heap ≡ given = cc in
        record {
          earlier = at.firsts;
          cut = at.here;
          later = at.others;
          parts = ap (λ e. e.moments) (run_ends read (Err why) ending bytes exposes) ∙ ap (λ ss. moments_of line (machine.moments_of ss)) end.is ∙ at.parts;
          whole = taken_before before after (bytes_of end.earlier) (bytes_of (end.last ∷ [])) cut.prefix at.firsts dvi cut.adds at.are_before;
          not_whole = λ taken. takes_no_more before.lines.taken after.lines.taken cut.prefix cut.rest taken.1.0 some cut.adds cut.cut (subst (λ t. Adds before.lines.taken after.lines.taken (t ++ taken.1.0)) printed_is taken.1.1);
          no_more_dvi = adds_whole before.dvi.taken after.dvi.taken at.here.dvi (subst (Adds before.dvi.taken after.dvi.taken) dvi_is dvi);
          no_more_lines = record { prefix = cut.prefix; rest = cut.rest; parts = printed_is; adds = cut.adds };
          heap_is = sym heap_is ∙ whole.heap ∙ ap (last_heap opening) end.is ∙ last_heap-append opening end.earlier (end.last ∷ []) ∙ sym at.heap;
        }

    leaves_machine : (why : Stop) (heap : Heap) (result : Result (Unit {0}) StopReason) → IsMachineStop (of_machine why) → whole_job.ending ≡ Err why → IsReadWhole → IsCarriedOut whole_job opening before.dvi after.dvi heap result → LeavesAt words opening before after (Some heap) (of_machine why)
    leaves_machine why heap result is ending read whole = record {
      none = λ r. absurd (is.begun r);
      some = λ m. refl;
      made = λ some. has_machine read;
      not_made = λ e. (cc);
      cut = λ line given same bytes exposes dvi lines. line_cut_at why heap result ending read whole line given same bytes exposes lines;
    }

    machine_ends : (why : Stop) (heap : Heap) (result : Result (Unit {0}) StopReason) (outcome : Outcome) → IsMachineStop (of_machine why) → whole_job.ending ≡ Err why → IsReadWhole → IsCarriedOut whole_job opening before.dvi after.dvi heap result → WritesLine (of_machine why) before.lines after.lines outcome → RunsTo words opening before after (Some heap) outcome
    machine_ends why heap result outcome is ending read whole line = stop_ends words opening before after (Some heap) (of_machine why) outcome (record {
      apart = is.apart;
      words_refused = λ e. absurd (is.no_words e);
      words_first = λ e. absurd (true≢false (sym read.accepted ∙ e));
      order = read.order;
      before_dvi = λ r. absurd (is.begun r);
      dvi_kept = whole.takes.1;
      cause = inr (record {
        no_read = is.no_read;
        inputs = read.read.kept;
        dvi_bytes = bytes_of whole_job.after;
        moments = moments_of (line_of (of_machine why)) (machine.moments_of whole_job.after);
        gives = λ bytes exposes. subst (λ h. run_of words bytes opening ≡ record (machine_ending opening (record { after = whole_job.after; ending = Err why })) { heap = Some h }) (sym whole.heap) (run_ends read (Err why) ending bytes exposes);
        dvi = whole.takes.0;
      });
      nodes = leaves_machine why heap result is ending read whole;
    }) line

    memory_ran_out : (heap : Heap) (outcome : Outcome) → IsReadWhole → AddsPrefix before.dvi.taken after.dvi.taken (bytes_of whole_job.after) → after.dvi.faults ≡ before.dvi.faults → HasNoLine stop.Memory before.lines after.lines outcome → RunsTo words opening before after (Some heap) outcome
    memory_ran_out heap outcome read prefix kept none = memory_ends words opening before after (Some heap) outcome (unfinished (Some heap) read prefix) kept none

    by_machine : (why : Stop) (heap : Heap) (result : Result (Unit {0}) StopReason) (outcome : Outcome) → whole_job.ending ≡ Err why → IsReadWhole → IsCarriedOut whole_job opening before.dvi after.dvi heap result → Reports (of_machine why) before.lines after.lines outcome → RunsTo words opening before after (Some heap) outcome
    by_machine machine_stop.Memory heap result outcome ending read whole reports =
        memory_ran_out heap outcome read (adds_whole before.dvi.taken after.dvi.taken (bytes_of whole_job.after) whole.takes.0) whole.takes.1 reports
    by_machine (machine_stop.Engine trouble phase) heap result outcome ending read whole reports = machine_ends (machine_stop.Engine trouble phase) heap result outcome (record {
      apart = record { no_done = λ e. (cc); no_write = λ e. (cc); no_memory = λ e. (cc) };
      no_words = λ e. (cc);
      no_read = λ e. (cc);
      begun = λ r. r;
    }) ending read whole reports
    by_machine machine_stop.DviFull heap result outcome ending read whole reports = machine_ends machine_stop.DviFull heap result outcome (record {
      apart = record { no_done = λ e. (cc); no_write = λ e. (cc); no_memory = λ e. (cc) };
      no_words = λ e. (cc);
      no_read = λ e. (cc);
      begun = λ r. r;
    }) ending read whole reports

    -- ---- the run ended well

    module _ (a b : Unit {0}) (heap : Heap) (read : IsReadWhole) (ending : whole_job.ending ≡ Ok b) (whole : IsCarriedOut whole_job opening before.dvi after.dvi heap (Ok a)) (lines : after.lines ≡ before.lines) where
      is_file : IsFile (bytes_of whole_job.after)
      is_file = record { fonts = job.fonts; commands = job.commands; opening = opening; ended = ending; bytes_are = refl; begins_and_ends = whole.file }

      done_ends : (bytes : InputBytes) → Exposes before.inputs bytes → EndsAsDefined (run_of words bytes opening) before after status.Done None (Some heap)
      done_ends bytes exposes =
          let is : run_of words bytes opening ≡ machine_ending opening (record { after = whole_job.after; ending = Ok b }) = run_ends read (Ok b) ending bytes exposes in
          record {
            status_is = sym (ap (λ e. e.status) is);
            place_is = sym (ap (λ e. e.place) is);
            heap_is = ap Some whole.heap ∙ sym (ap (λ e. e.heap) is);
            dvi = subst (λ e. Adds before.dvi.taken after.dvi.taken e.dvi) (sym is) whole.takes.0;
            lines = subst (λ e. Adds before.lines.taken after.lines.taken (lines_of e)) (sym is) (adds_none before.lines after.lines lines);
          }

      done_whole : (bytes : InputBytes) → Exposes before.inputs bytes → IsWhole words bytes (run_of words bytes opening) before after status.Done None (Some heap)
      done_whole bytes exposes =
          let is : run_of words bytes opening ≡ machine_ending opening (record { after = whole_job.after; ending = Ok b }) = run_ends read (Ok b) ending bytes exposes in
          let all = read.read.gives bytes exposes in
          let bytes_are = ap (λ e. e.dvi) is ∙ whole.file.1 in
          let last = file_ends start (Begin ∷ whole.file.0) in
          record {
            at_end = all.1;
            accepted = are_accepted read bytes exposes;
            ends_as = done_ends bytes exposes;
            file = subst IsFile (sym (ap (λ e. e.dvi) is)) is_file;
            prefix = last.0;
            last = bytes_are ∙ last.1;
            silent = ap (λ e. e.fault_line) is;
          }

      done_as : Runs words opening before after status.Done None (Some heap)
      done_as = record {
        ends = λ bytes exposes none no_memory. done_ends bytes exposes;
        whole = λ bytes exposes e. done_whole bytes exposes;
        reason = inl (record { status_is = refl; place_is = refl; file = bytes_of whole_job.after; is_file = is_file; dvi = whole.takes.0; lines = prints_nothing words before after lines });
        words_refused = λ e. (cc);
        words_first = λ e. absurd (true≢false (sym read.accepted ∙ e));
        in_order = read.order;
        before_dvi = λ r. absurd r;
        kept = λ no_read no_write no_memory. all_counts words before after whole.takes.1 (ap (λ o. o.faults) lines) (read.read.kept);
        read_fault = λ e. (cc);
        write_fault = λ e. (cc);
        memory = λ e. (cc);
        prefixes = λ e. elim e [ inl w ↦ (cc) | inr m ↦ (cc) ];
        nodes = record {
          none = λ r. absurd r;
          some = λ m. refl;
          made = λ some. has_machine read;
          not_made = λ e none. (cc);
          cut = λ e given is bytes exposes dvi some. (cc);
        };
      }

    -- ---- the answer of a job

    ends_by : (answer : Result (Unit {0}) StopReason) (heap : Heap) (outcome : Outcome) → IsReadWhole → CarriesOut whole_job opening before.dvi after.dvi heap answer → Closes answer before.lines after.lines outcome → RunsTo words opening before after (Some heap) outcome
    ends_by (Ok a) heap outcome read (inl whole) closes =
        let end = end_of a whole_job.ending whole.answer in
        subst (RunsTo words opening before after (Some heap)) (sym closes.0) (done_as a end.0 heap read end.1 whole closes.1)
    ends_by (Ok a) heap outcome read (inr (inl cut)) closes = absurd (no_stop a stop.Write cut.answer)
    ends_by (Ok a) heap outcome read (inr (inr memory)) closes = absurd (no_stop a stop.Memory memory.answer)
    ends_by (Err why) heap outcome read (inl whole) closes =
        let stops = stop_of why whole_job.ending whole.answer in
        by_machine stops.0 heap (Err why) outcome stops.1 read whole (subst (λ w. Reports w before.lines after.lines outcome) stops.2 closes)
    ends_by (Err why) heap outcome read (inr (inl cut)) closes =
        let is : why ≡ stop.Write = (let e = cut.answer in cc) in
        cut_ends heap (Err why) outcome read cut (subst (λ w. Reports w before.lines after.lines outcome) is closes)
    ends_by (Err why) heap outcome read (inr (inr memory)) closes =
        let is : why ≡ stop.Memory = (let e = memory.answer in cc) in
        memory_ran_out heap outcome read memory.adds memory.kept (subst (λ w. Reports w before.lines after.lines outcome) is closes)

    pub runs_job : (sizes : List (Option ℤ)) (result : Result Job StopReason) (ended : Status) (place : Option Place) (left : Option Heap) → FitsWith words (names_of before.inputs) sizes → ReadsInputs sizes before.inputs after.inputs result → result ≡ Ok job → RunsJob job opening before.dvi after.dvi before.lines after.lines ended place left → Runs words opening before after ended place left
    runs_job sizes result ended place left fits reads is runs =
        let in_turn : ReadsInputs (font_sizes words) before.inputs after.inputs result = subst (λ s. ReadsInputs s before.inputs after.inputs result) fits.sizes_are reads in
        let read : IsReadWhole = record {
          accepted = fits.fits;
          order = in_order words before.inputs after.inputs result fits.fits in_turn;
          read = all_read (font_sizes words) before.inputs after.inputs result job in_turn is;
        } in
        let outcome : Outcome = record { status = ended; place = place } in
        elim runs [
          | inl unmade ↦ subst (λ l. Runs words opening before after ended place l) (sym unmade.none) (unmade_ends words opening before after outcome (record { accepted = read.accepted; order = read.order; dvi = unmade.dvi }) read.read.kept (record { ended = unmade.ended; same = unmade.lines }))
          | inr made ↦ subst (λ l. Runs words opening before after ended place l) (sym made.some) (ends_by made.answer made.heap outcome read made.carries made.closes)
        ]
