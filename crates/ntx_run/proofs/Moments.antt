-- The moments of a run whose sinks took all up to one of them.
use Rattle.std.proofs.Common.{◌≡◌, ℕ, List, [], ◌∷◌, ◌++◌, Result, Ok, Err, refl, ap, sym, ◌∙◌, subst, append_assoc}
use Rattle.std.specs.List.{AllByRecursion}
use Rattle.ntx_machine.specs.declared.stop.Stop.{Stop}
use Rattle.ntx_machine.specs.State.{State}
use Rattle.ntx_machine.specs.Job as machine
use Rattle.ntx_machine.specs.Job.{Step, Ran, going_on, ran, bytes_of, moments_from}
use Rattle.ntx_io.specs.Outside.{Adds}
use Rattle.ntx_run.specs.Run.{Moment, moments_of}
use Rattle.ntx_run.specs.Outside.{Outside}
use Rattle.ntx_run.specs.Promise.{IsTaken}

-- This moment comes before all these bytes are given, and nothing is printed by then.
abbrev pub IsBefore : List ℕ → Moment → Type 0
IsBefore bytes m = (m.printed ≡ []) × ((more : List ℕ) × (bytes ≡ m.dvi ++ more))

-- The moment after one of the steps, and those before it.
pub record At (line before : List ℕ) (earlier : List State) (s : State) (later : List State) : Type 0 where
  pub firsts : List Moment
  pub here : Moment
  pub others : List Moment
  pub parts : moments_of line (moments_from before (earlier ++ s ∷ later)) ≡ firsts ++ here ∷ others
  pub are_before : AllByRecursion (IsBefore (before ++ bytes_of earlier)) firsts
  pub dvi : here.dvi ≡ before ++ (bytes_of earlier ++ s.writer.waiting)
  pub heap : here.heap ≡ s.heap
  pub last : later ≡ [] → here.printed ≡ line

abbrev unprinted : machine.Moment → Moment
unprinted m = record { dvi = m.dvi; printed = []; heap = m.heap }

-- A moment that is not the last prints nothing.
not_last : (line before : List ℕ) (m : machine.Moment) (earlier : List State) (s : State) (later : List State) → moments_of line (m ∷ moments_from before (earlier ++ s ∷ later)) ≡ unprinted m ∷ moments_of line (moments_from before (earlier ++ s ∷ later))
not_last line before m [] s later = refl
not_last line before m (x ∷ xs) s later = refl

at_first : (line before : List ℕ) (s : State) (later : List State) → At line before [] s later
at_first line before s [] = record {
  firsts = [];
  here = record { dvi = before ++ s.writer.waiting; printed = line; heap = s.heap };
  others = [];
  parts = refl;
  are_before = tt;
  dvi = refl;
  heap = refl;
  last = λ e. refl;
}
at_first line before s (x ∷ later) = record {
  firsts = [];
  here = record { dvi = before ++ s.writer.waiting; printed = []; heap = s.heap };
  others = moments_of line (moments_from (before ++ s.writer.waiting) (x ∷ later));
  parts = refl;
  are_before = tt;
  dvi = refl;
  heap = refl;
  last = λ e. (cc);
}

pub at_step : (line before : List ℕ) (earlier : List State) (s : State) (later : List State) → At line before earlier s later
at_step line before [] s later = at_first line before s later
at_step line before (x ∷ xs) s later =
    let now = before ++ x.writer.waiting in
    let at : At line now xs s later = at_step line now xs s later in
    let m : machine.Moment = record { dvi = now; heap = x.heap } in
    let regroup : now ++ bytes_of xs ≡ before ++ (x.writer.waiting ++ bytes_of xs) = append_assoc before x.writer.waiting (bytes_of xs) in
    record {
      firsts = unprinted m ∷ at.firsts;
      here = at.here;
      others = at.others;
      parts = not_last line now m xs s later ∙ ap (λ ms. unprinted m ∷ ms) at.parts;
      are_before = ((refl, (bytes_of xs, sym regroup)), subst (λ bytes. AllByRecursion (IsBefore bytes) at.firsts) regroup at.are_before);
      dvi = at.dvi ∙ append_assoc before x.writer.waiting (bytes_of xs ++ s.writer.waiting) ∙ ap (λ t. before ++ t) (sym (append_assoc x.writer.waiting (bytes_of xs) s.writer.waiting));
      heap = at.heap;
      last = at.last;
    }

-- ---- the last step

pub record IsLast (states : List State) : Type 0 where
  pub earlier : List State
  pub last : State
  pub is : states ≡ earlier ++ last ∷ []

last_of : (x : State) (xs : List State) → IsLast (x ∷ xs)
last_of x [] = record { earlier = []; last = x; is = refl }
last_of x (y ∷ ys) = let rest = last_of y ys in record { earlier = x ∷ rest.earlier; last = rest.last; is = ap (λ ss. x ∷ ss) rest.is }

last_going_on : (last : State) (ending : Result (Unit {0}) Stop) (next : State → Ran) → IsLast (going_on last ending next).after
last_going_on last (Ok a) next = last_of last _
last_going_on last (Err why) next = last_of last []

-- A job that stopped has a last step.
pub last_step : (steps : List Step) (s : State) (why : Stop) → (ran steps s).ending ≡ Err why → IsLast (ran steps s).after
last_step [] s why e = cc
last_step (step ∷ steps) s why e = last_going_on (step s).last (step s).ending (λ t. ran steps t)

-- ---- what was taken

module _ (before after : Outside) where
  -- All this was taken before one of the moments.
  pub taken_before : (bytes extra text : List ℕ) (firsts : List Moment) → Adds before.dvi.taken after.dvi.taken (bytes ++ extra) → Adds before.lines.taken after.lines.taken text → AllByRecursion (IsBefore bytes) firsts → AllByRecursion (IsTaken before after) firsts
  taken_before bytes extra text [] dvi lines all = tt
  taken_before bytes extra text (m ∷ ms) dvi lines all =
      let more : List ℕ = all.0.1.0 in
      let is : bytes ≡ m.dvi ++ more = all.0.1.1 in
      let regroup : bytes ++ extra ≡ m.dvi ++ (more ++ extra) = ap (λ t. t ++ extra) is ∙ append_assoc m.dvi more extra in (
        (
          (more ++ extra, subst (Adds before.dvi.taken after.dvi.taken) regroup dvi),
          (text, subst (λ p. Adds before.lines.taken after.lines.taken (p ++ text)) (sym all.0.0) lines),
        ),
        taken_before bytes extra text ms dvi lines all.1,
      )
