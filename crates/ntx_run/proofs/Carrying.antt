-- Carrying out the steps of a job, one after another, and handing over what they give.
use Rattle.std.proofs.Common.{◌≡◌, ℕ, ◌+◌, ◌<◌, ◌≤◌, List, [], ◌∷◌, ◌++◌, Option, None, Some, Result, Ok, Err, ◌⊎◌, inl, inr, refl, ap, sym, ◌∙◌, subst, append_assoc, append-nil, length, drop, get_or}
use Rattle.std.specs.Prelude.{OnOk}
use Rattle.std.proofs.lemmas.List.{drop_more}
use Rattle.std.proofs.Math.ListN.{drop_of_length-le}
use Rattle.ntx_nodes.specs.Heap.{Heap}
use Rattle.ntx_io.specs.Outside.{Output, Rose, Adds}
use Rattle.ntx_dvi.specs.Operation.{Operation, Begin, End}
use Rattle.ntx_dvi.specs.Writer.{Writer, new_writer}
use Rattle.ntx_dvi.specs.Written.{Writes}
use Rattle.ntx_dvi.proofs.FileLemmas.{written_whole}
use Rattle.ntx_doc.specs.declared.command.Command.{Command}
use Rattle.ntx_machine.specs.declared.stop.Stop.{Stop}
use Rattle.ntx_machine.specs.declared.stop.Stop.TheVariants as machine_stop
use Rattle.ntx_machine.specs.State.{State, max_dvi, taken}
use Rattle.ntx_machine.specs.Shipout.{ended}
use Rattle.ntx_machine.specs.Job.{Step, Ran, going_on, ran, command_step, job, bytes_of}
use Rattle.ntx_machine.specs.Machine.{MachineView, emptied, IsOpen, CarriesFrom, Carries}
use Rattle.ntx_machine.proofs.Jobs.{Went, goes_ok, goes_to_trouble, goes_to_full}
use Rattle.ntx_machine.proofs.Ended.{WroteFile, ended_ok}
use Rattle.ntx_run.specs.declared.stop.StopReason.{StopReason}
use Rattle.ntx_run.specs.declared.stop.StopReason.TheVariants as stop
use Rattle.ntx_run.specs.Outside.{BeginsAndEnds}
use Rattle.ntx_run.specs.inner.Parts.{TakesAll, IsCutOff, answer_of, HandsOverWaiting, HandsOver, IsCarriedOut, CarriesOut, Typesets}
use Rattle.ntx_run.proofs.Sinks.{adds_no_prefix, adds_then, adds_prefix_then}

-- ---- what the steps come to

ran_ok : (a : Unit {0}) (step : Step) (steps : List Step) (s last : State) → (step s).ending ≡ Ok a → last ≡ (step s).last → ran (step ∷ steps) s ≡ record { after = last ∷ (ran steps (taken last)).after; ending = (ran steps (taken last)).ending }
ran_ok a step steps s last ending is =
    ap (λ (e : Result (Unit {0}) Stop). going_on (step s).last e (λ t. ran steps t)) ending ∙ ap (λ (l : State). going_on l (Ok a) (λ t. ran steps t)) (sym is)

ran_stopped : (why : Stop) (step : Step) (steps : List Step) (s last : State) → (step s).ending ≡ Err why → last ≡ (step s).last → ran (step ∷ steps) s ≡ record { after = last ∷ []; ending = Err why }
ran_stopped why step steps s last ending is =
    ap (λ (e : Result (Unit {0}) Stop). going_on (step s).last e (λ t. ran steps t)) ending ∙ ap (λ (l : State). going_on l (Err why) (λ t. ran steps t)) (sym is)

-- ---- a step and what follows it

abbrev after_one : State → Ran → Ran
after_one last r = record { after = last ∷ r.after; ending = r.ending }

-- A step that gave nothing, and then the others.
one_more : (last : State) (r : Ran) (opening : Heap) (before now after : Output) (left : Heap) (result : Result (Unit {0}) StopReason) → last.writer.waiting ≡ [] → TakesAll last.writer.waiting before now → CarriesOut r last.heap now after left result → CarriesOut (after_one last r) opening before after left result
one_more last r opening before now after left result nothing takes (inl whole) = inl (record {
  answer = whole.answer;
  takes = (adds_then before.taken now.taken after.taken last.writer.waiting (bytes_of r.after) takes.0 whole.takes.0, whole.takes.1 ∙ takes.1);
  heap = whole.heap;
  file = subst (λ bytes. OnOk result (BeginsAndEnds bytes)) (ap (λ (w : List ℕ). w ++ bytes_of r.after) (sym nothing)) whole.file;
})
one_more last r opening before now after left result nothing takes (inr (inl cut)) = inr (inl (record {
  answer = cut.answer;
  earlier = last ∷ cut.earlier;
  cut = cut.cut;
  later = cut.later;
  parts = ap (λ ss. last ∷ ss) cut.parts;
  prefix = cut.prefix;
  rest = cut.rest;
  waiting = cut.waiting;
  some_rest = cut.some_rest;
  adds = subst (Adds before.taken after.taken) (sym (append_assoc last.writer.waiting (bytes_of cut.earlier) cut.prefix)) (adds_then before.taken now.taken after.taken last.writer.waiting (bytes_of cut.earlier ++ cut.prefix) takes.0 cut.adds);
  rose = subst (λ n. Rose n after.faults) takes.1 cut.rose;
  heap = cut.heap;
}))
one_more last r opening before now after left result nothing takes (inr (inr memory)) = inr (inr (record {
  answer = memory.answer;
  adds = adds_prefix_then before.taken now.taken after.taken last.writer.waiting (bytes_of r.after) takes.0 memory.adds;
  kept = memory.kept ∙ takes.1;
}))

-- The step ended the job, and stopped the machine or gave a file.
last_one : (last : State) (ending : Result (Unit {0}) Stop) (opening : Heap) (before after : Output) → TakesAll last.writer.waiting before after → OnOk (answer_of ending) (BeginsAndEnds last.writer.waiting) → IsCarriedOut (record { after = last ∷ []; ending = ending }) opening before after last.heap (answer_of ending)
last_one last ending opening before after takes file = record {
  answer = refl;
  takes = (subst (Adds before.taken after.taken) (sym (append-nil last.writer.waiting)) takes.0, takes.1);
  heap = refl;
  file = subst (λ bytes. OnOk (answer_of ending) (BeginsAndEnds bytes)) (sym (append-nil last.writer.waiting)) file;
}

cut_off : (r : Ran) (last : State) (later : List State) (opening : Heap) (before after : Output) (result : Result (Unit {0}) StopReason) → r.after ≡ last ∷ later → result ≡ Err stop.Write → IsCutOff last.writer.waiting before after → CarriesOut r opening before after last.heap result
cut_off r last later opening before after result parts is cut = inr (inl (record {
  answer = is;
  earlier = [];
  cut = last;
  later = later;
  parts = parts;
  prefix = cut.0.prefix;
  rest = cut.0.rest;
  waiting = cut.0.parts;
  some_rest = cut.0.cut;
  adds = cut.0.adds;
  rose = cut.1;
  heap = refl;
}))

no_memory : (r : Ran) (opening : Heap) (before after : Output) (left : Heap) (result : Result (Unit {0}) StopReason) → result ≡ Err stop.Memory → after ≡ before → CarriesOut r opening before after left result
no_memory r opening before after left result is same = inr (inr (record {
  answer = is;
  adds = adds_no_prefix before after (bytes_of r.after) same;
  kept = ap (λ (o : Output). o.faults) same;
}))

-- ---- one step of a machine

-- What carrying out steps from a machine on does.
abbrev ToEnd : List Step → MachineView → Output → Output → Heap → Result (Unit {0}) StopReason → Type 0
ToEnd steps m before after left result = CarriesOut (ran steps m.state) m.state.heap before after left result

module _ (step : Step) (now mid new : MachineView) (before after : Output) (result : Result (Unit {0}) StopReason) where
  -- The step ended well, and what it gave was taken.
  record WentOver : Type 0 where
    is : result ≡ Ok tt
    a : Unit {0}
    went : Went a now mid step
    rest : new ≡ emptied mid
    takes : TakesAll mid.state.writer.waiting before after

  -- The job does not go on after the step.
  record StopsThere : Type 0 where
    why : StopReason
    is : result ≡ Err why
    gives : (steps : List Step) → ToEnd (step ∷ steps) now before after new.state.heap result

  heap_is : new ≡ emptied mid → mid.state.heap ≡ new.state.heap
  heap_is rest = sym (ap (λ (m : MachineView). m.state.heap) rest)

  cut_there : (later : List Step → List State) → ((steps : List Step) → (ran (step ∷ steps) now.state).after ≡ mid.state ∷ later steps) → new ≡ emptied mid → result ≡ Err stop.Write → IsCutOff mid.state.writer.waiting before after → StopsThere
  cut_there later parts rest is cut = record {
    why = stop.Write;
    is = is;
    gives = λ steps. subst (λ h. ToEnd (step ∷ steps) now before after h result) (heap_is rest) (cut_off (ran (step ∷ steps) now.state) mid.state (later steps) now.state.heap before after result (parts steps) is cut);
  }

  stopped_there : (why : Stop) (reason : StopReason) → answer_of (Err why) ≡ Err reason → (step now.state).ending ≡ Err why → mid.state ≡ (step now.state).last → HandsOverWaiting (Err why) mid new before after result → StopsThere
  stopped_there why reason names ending last hands =
      let steps_are = λ (steps : List Step). ran_stopped why step steps now.state mid.state ending last in
      elim hands.1 [
        | inl whole ↦ record {
          why = reason;
          is = whole.0 ∙ names;
          gives = λ steps.
              subst (λ h. ToEnd (step ∷ steps) now before after h result) (heap_is hands.0)
              (subst (λ r. CarriesOut r now.state.heap before after mid.state.heap result) (sym (steps_are steps))
              (subst (CarriesOut (record { after = mid.state ∷ []; ending = Err why }) now.state.heap before after mid.state.heap) (sym whole.0) (inl (last_one mid.state (Err why) now.state.heap before after whole.1 tt))));
        }
        | inr cut ↦ cut_there (λ steps. []) (λ steps. ap (λ (r : Ran). r.after) (steps_are steps)) hands.0 cut.0 cut.1
      ]

  went_there : (a : Unit {0}) → Went a now mid step → HandsOverWaiting (Ok a) mid new before after result → WentOver ⊎ StopsThere
  went_there a went hands = elim hands.1 [
    | inl whole ↦ inl (record { is = whole.0; a = a; went = went; rest = hands.0; takes = whole.1 })
    | inr cut ↦ inr (cut_there (λ steps. (ran steps (taken mid.state)).after) (λ steps. ap (λ (r : Ran). r.after) (ran_ok a step steps now.state mid.state went.ending went.last)) hands.0 cut.0 cut.1)
  ]

  step_over : (answer : Result (Unit {0}) Stop) → now.stopped ≡ None → Carries answer now mid step → HandsOver answer mid new before after result → WentOver ⊎ StopsThere
  step_over (Ok a) none carries hands = went_there a (goes_ok a now mid step none carries) hands
  step_over (Err machine_stop.Memory) none carries hands = inr (record {
    why = stop.Memory;
    is = hands.0;
    gives = λ steps. no_memory (ran (step ∷ steps) now.state) now.state.heap before after new.state.heap result hands.0 hands.2;
  })
  step_over (Err (machine_stop.Engine why phase)) none carries hands =
      let stops = goes_to_trouble why phase now mid step none carries in
      inr (stopped_there (machine_stop.Engine why phase) (stop.Engine why phase) refl stops.ending stops.last hands)
  step_over (Err machine_stop.DviFull) none carries hands =
      let stops = goes_to_full now mid step none carries in
      inr (stopped_there machine_stop.DviFull stop.DviFull refl stops.ending stops.last hands)

-- ---- a machine that has written nothing

ok_is_no_stop : (why : StopReason) → ◌≡◌ {A = Result (Unit {0}) StopReason} (Ok tt) (Err why) → ⊥
ok_is_no_stop why e = cc

emptied_by : (answer : Result (Unit {0}) Stop) (mid new : MachineView) (before after : Output) → HandsOver answer mid new before after (Ok tt) → new ≡ emptied mid
emptied_by (Ok a) mid new before after hands = hands.0
emptied_by (Err machine_stop.Memory) mid new before after hands = absurd (ok_is_no_stop stop.Memory hands.0)
emptied_by (Err (machine_stop.Engine why phase)) mid new before after hands = hands.0
emptied_by (Err machine_stop.DviFull) mid new before after hands = hands.0

ran_before : (kept : Option Stop) (answer : Result (Unit {0}) Stop) (now mid : MachineView) (step : Step) → now.stopped ≡ kept → CarriesFrom kept answer now mid step → mid.stopped ≡ None → now.stopped ≡ None
ran_before None answer now mid step is goes none = is
ran_before (Some why) answer now mid step is goes none = sym (ap (λ (m : MachineView). m.stopped) goes.1) ∙ none

stays_open : (answer : Result (Unit {0}) Stop) (now mid : MachineView) (step : Step) → IsOpen now → Carries answer now mid step → mid.state.writer ≡ now.state.writer → IsOpen (emptied mid)
stays_open answer now mid step is_open carries same none =
    let writer : mid.state.writer ≡ new_writer max_dvi = same ∙ is_open (ran_before now.stopped answer now mid step refl carries.goes none) in
    ap (λ (w : Writer). record w { waiting = [] }) writer

-- ---- all steps of a job

-- What the rest of a job gives from the machine now, all of it gives from the first one.
pub record GoesFrom (all : List Command) (old : MachineView) (before : Output) (rest : List Command) (now : MachineView) (sink : Output) : Type 0 where
  pub running : now.stopped ≡ None
  pub gives : (after : Output) (left : Heap) (result : Result (Unit {0}) StopReason) → ToEnd (job now.fonts rest) now sink after left result → ToEnd (job old.fonts all) old before after left result

-- These commands of a document are left. Nothing is written yet.
pub record IsLeft (all : List Command) (old : MachineView) (before : Output) (rest : List Command) (now : MachineView) (sink : Output) : Type 0 where
  pub is_open : IsOpen now
  pub goes : old.stopped ≡ None → GoesFrom all old before rest now sink

pub all_are_left : (all : List Command) (old : MachineView) (before : Output) → IsOpen old → IsLeft all old before all old before
all_are_left all old before is_open =
    record { is_open = is_open; goes = λ none. record { running = none; gives = λ after left result e. e } }

module _ (all : List Command) (old : MachineView) (before : Output) (i : ℕ) (now : MachineView) (sink : Output) where
  pub first_of_rest : (command : Command) → command ≡ get_or all i command → i < length all → IsLeft all old before (drop i all) now sink → IsLeft all old before (command ∷ drop (i + 1) all) now sink
  first_of_rest command is within left =
      subst (λ rest. IsLeft all old before rest now sink) (drop_more all i command within ∙ ap (λ c. c ∷ drop (i + 1) all) (sym is)) left

  pub no_rest : length all ≤ i → IsLeft all old before (drop i all) now sink → IsLeft all old before [] now sink
  no_rest past left = subst (λ rest. IsLeft all old before rest now sink) (drop_of_length-le all past) left

module _ (all : List Command) (old : MachineView) (before : Output) (rest : List Command) (now mid new : MachineView) (sink after : Output) (answer : Result (Unit {0}) Stop) where
  turned : (command : Command) → IsLeft all old before (command ∷ rest) now sink → Carries answer now mid (command_step now.fonts command) → mid.state.writer ≡ now.state.writer → GoesFrom all old before (command ∷ rest) now sink → WentOver (command_step now.fonts command) now mid new sink after (Ok tt) → GoesFrom all old before rest new after
  turned command is_left carries same from over =
      let step = command_step now.fonts command in
      let nothing : mid.state.writer.waiting ≡ [] = ap (λ (w : Writer). w.waiting) (same ∙ is_left.is_open from.running) in
      record {
        running = ap (λ (m : MachineView). m.stopped) over.rest ∙ over.went.stopped;
        gives = λ end left result to_end.
            let emptied_end : CarriesOut (ran (job mid.fonts rest) (taken mid.state)) mid.state.heap after end left result = subst (λ m. ToEnd (job m.fonts rest) m after end left result) over.rest to_end in
            let here : CarriesOut (ran (job now.fonts rest) (taken mid.state)) mid.state.heap after end left result = subst (λ fonts. CarriesOut (ran (job fonts rest) (taken mid.state)) mid.state.heap after end left result) carries.fonts emptied_end in
            from.gives end left result (subst (λ r. CarriesOut r now.state.heap sink end left result) (sym (ran_ok over.a step (job now.fonts rest) now.state mid.state over.went.ending over.went.last))
            (one_more mid.state (ran (job now.fonts rest) (taken mid.state)) now.state.heap sink after end left result nothing over.takes here));
      }

  -- A command was carried out.
  pub one_is_done : (command : Command) → IsLeft all old before (command ∷ rest) now sink → Carries answer now mid (command_step now.fonts command) → mid.state.writer ≡ now.state.writer → HandsOver answer mid new sink after (Ok tt) → IsLeft all old before rest new after
  one_is_done command is_left carries same hands =
      let step = command_step now.fonts command in
      record {
        is_open = subst IsOpen (sym (emptied_by answer mid new sink after hands)) (stays_open answer now mid step is_left.is_open carries same);
        goes = λ none. elim (step_over step now mid new sink after (Ok tt) answer (is_left.goes none).running carries hands) [
          | inl over ↦ turned command is_left carries same (is_left.goes none) over
          | inr stops ↦ absurd (ok_is_no_stop stops.why stops.is)
        ];
      }

  -- The job stopped at a command.
  pub stops_at_one : (command : Command) (why : StopReason) → IsLeft all old before (command ∷ rest) now sink → Carries answer now mid (command_step now.fonts command) → HandsOver answer mid new sink after (Err why) → Typesets all old new before after (Err why)
  stops_at_one command why is_left carries hands none =
      let from = is_left.goes none in
      elim (step_over (command_step now.fonts command) now mid new sink after (Err why) answer from.running carries hands) [
        | inl over ↦ absurd (ok_is_no_stop why (sym over.is))
        | inr stops ↦ from.gives after new.state.heap (Err why) (stops.gives (job now.fonts rest))
      ]

file_of_end : (a : Unit {0}) (now mid : MachineView) → now.state.writer ≡ new_writer max_dvi → Went a now mid (ended now.fonts) → BeginsAndEnds mid.state.writer.waiting
file_of_end a now mid is_open went =
    let wrote : WroteFile now.state.writer (ended now.fonts now.state).last.writer = ended_ok now.fonts now.state went.ending in
    let operations : List Operation = Begin ∷ wrote.operations ++ End ∷ [] in
    let writes : Writes (Ok tt) (new_writer max_dvi) mid.state.writer operations = subst (λ w. Writes (Ok tt) w mid.state.writer operations) is_open (subst (λ (s : State). Writes (Ok tt) now.state.writer s.writer operations) (sym went.last) wrote.writes) in
    (wrote.operations, written_whole (new_writer max_dvi) mid.state.writer operations writes.done)

module _ (all : List Command) (old : MachineView) (before : Output) (now mid new : MachineView) (sink after : Output) (answer : Result (Unit {0}) Stop) (result : Result (Unit {0}) StopReason) where
  ended_well : IsOpen now → now.stopped ≡ None → WentOver (ended now.fonts) now mid new sink after result → ToEnd (job now.fonts []) now sink after new.state.heap result
  ended_well is_open none over =
      subst (λ h. ToEnd (job now.fonts []) now sink after h result) (sym (ap (λ (m : MachineView). m.state.heap) over.rest))
      (subst (λ r. CarriesOut r now.state.heap sink after mid.state.heap result) (sym (ran_ok over.a (ended now.fonts) [] now.state mid.state over.went.ending over.went.last))
      (subst (CarriesOut (record { after = mid.state ∷ []; ending = Ok tt }) now.state.heap sink after mid.state.heap) (sym over.is)
      (inl (last_one mid.state (Ok tt) now.state.heap sink after over.takes (file_of_end over.a now mid (is_open none) over.went)))))

  -- The job ended.
  pub all_are_done : IsLeft all old before [] now sink → Carries answer now mid (ended now.fonts) → HandsOver answer mid new sink after result → Typesets all old new before after result
  all_are_done is_left carries hands none =
      let from = is_left.goes none in
      from.gives after new.state.heap result (elim (step_over (ended now.fonts) now mid new sink after result answer from.running carries hands) [
        | inl over ↦ ended_well is_left.is_open from.running over
        | inr stops ↦ stops.gives []
      ])
