-- How the end of a job ends, and what its calls ask for.
use Rattle.std.proofs.Common.{◌≡◌, ℕ, zero, suc, List, replicate, Option, None, Some, Result, Ok, Err, refl, sym, subst}
use Rattle.std.specs.Prelude.{IfSome, slice_index_or}
use Rattle.ntx_num.specs.declared.answer.Fail.{Fail}
use Rattle.ntx_num.specs.Answer.{Steps}
use Rattle.ntx_num.specs.Trace.{EndsAs}
use Rattle.ntx_num.proofs.Traces.{ends_later, ends_there}
use Rattle.ntx_tfm.specs.Font.{FontTables}
use Rattle.ntx_tfm.specs.declared.def.FontDef.{FontDef}
use Rattle.ntx_dvi.specs.declared.full.DviFull.{DviFull}
use Rattle.ntx_dvi.specs.Fonts.{AreKnown}
use Rattle.ntx_dvi.specs.Operation.{Operation, Begin, End}
use Rattle.ntx_dvi.specs.Writer.{Writer, step}
use Rattle.ntx_machine.specs.declared.stop.Stop.{Stop}
use Rattle.ntx_machine.specs.State.{State, with_writer, write}
use Rattle.ntx_machine.specs.Page.{last_page}
use Rattle.ntx_machine.specs.Shipout.{shipped_if, ended}
use Rattle.ntx_machine.specs.Machine.{fails}
use Rattle.ntx_machine.specs.inner.Parts.{filled}
use Rattle.ntx_machine.proofs.Steps.{ends_written}
use Rattle.ntx_machine.proofs.BeginsPages.{ending, shipping, beginning, begins_ending, begins_shipping, begins_beginning}

-- ---- operations, as the machine answers them

pub write_ends : (operation : Operation) (answer : Result (Unit {0}) Stop) (r : Result (Unit {0}) (Fail DviFull)) (s : State) (w : Writer) → answer ≡ filled r → Steps r s.writer w (step operation s.writer)
    → EndsAs (fails answer) (with_writer s w) (write operation s)
write_ends operation answer r s w is steps = subst (λ a. EndsAs (fails a) (with_writer s w) (write operation s)) (sym is) (ends_written operation r s w steps)

-- ---- fonts

-- No font is defined in a new file.
none_defined : (n number : ℕ) → ◌≡◌ {A = Option FontDef} (slice_index_or (replicate n None) number None) None
none_defined zero number = refl
none_defined (suc n) zero = refl
none_defined (suc n) (suc number) = none_defined n number

pub known_at_start : (known : ℕ → Option FontDef) → AreKnown (replicate 64 None) known
known_at_start known = record { each = λ number. subst (λ (o : Option FontDef). IfSome o (λ def. known number ≡ Some def)) (sym (none_defined 64 number)) tt }

-- ---- the end of a job

pub page_stops : (fonts : List FontTables) (s new : State) (e : Fail Stop) → EndsAs {A = Option ℕ} (Err e) new (last_page fonts s) → EndsAs {A = Unit {0}} (Err e) new (ended fonts s)
page_stops fonts s new e h = ends_there (last_page fonts s) new (beginning fonts) e (begins_beginning fonts) h

pub begin_stops : (fonts : List FontTables) (page : Option ℕ) (s t new : State) (e : Fail Stop) → EndsAs (Ok page) t (last_page fonts s) → EndsAs {A = Unit {0}} (Err e) new (write Begin t) → EndsAs {A = Unit {0}} (Err e) new (ended fonts s)
begin_stops fonts page s t new e first second =
    ends_later (last_page fonts s) page t new (beginning fonts) (Err e) first (ends_there (write Begin t) new (shipping fonts page) e (begins_shipping fonts page) second)

-- what follows the preamble
begun : (fonts : List FontTables) (page : Option ℕ) (s t u new : State) (a : Unit {0}) (r : Result (Unit {0}) (Fail Stop)) → EndsAs (Ok page) t (last_page fonts s) → EndsAs (Ok a) u (write Begin t)
    → EndsAs r new (shipping fonts page a u) → EndsAs r new (ended fonts s)
begun fonts page s t u new a r first second rest =
    ends_later (last_page fonts s) page t new (beginning fonts) r first (ends_later (write Begin t) a u new (shipping fonts page) r second rest)

pub ship_stops : (fonts : List FontTables) (page : Option ℕ) (s t u new : State) (a : Unit {0}) (e : Fail Stop) → EndsAs (Ok page) t (last_page fonts s) → EndsAs (Ok a) u (write Begin t)
    → EndsAs {A = Unit {0}} (Err e) new (shipped_if fonts page u) → EndsAs {A = Unit {0}} (Err e) new (ended fonts s)
ship_stops fonts page s t u new a e first second third =
    begun fonts page s t u new a (Err e) first second (ends_there (shipped_if fonts page u) new ending e begins_ending third)

pub end_ends : (fonts : List FontTables) (page : Option ℕ) (s t u v new : State) (a b : Unit {0}) (r : Result (Unit {0}) (Fail Stop)) → EndsAs (Ok page) t (last_page fonts s) → EndsAs (Ok a) u (write Begin t)
    → EndsAs (Ok b) v (shipped_if fonts page u) → EndsAs r new (write End v) → EndsAs r new (ended fonts s)
end_ends fonts page s t u v new a b r first second third fourth =
    begun fonts page s t u new a r first second (ends_later (shipped_if fonts page u) b v new ending r third fourth)
