-- How a discretionary and its hyphen are made in a gap, and in one gap after another.
use Rattle.std.proofs.Common.{◌≡◌, ℕ, ◌+◌, ◌<◌, List, [], length, drop, get_or, Ok, Err, refl, subst}
use Rattle.std.specs.Prelude.{All}
use Rattle.std.proofs.lemmas.List.Elements.{All-weaker}
use Rattle.ntx_num.specs.declared.answer.Fail.{Fail}
use Rattle.ntx_nodes.specs.Heap.{Heap}
use Rattle.ntx_nodes.specs.declared.field.Field.TheVariants.{Next, Pre}
use Rattle.ntx_nodes.specs.declared.trouble.Trouble.{Trouble}
use Rattle.ntx_nodes.proofs.Writes.{taken_off}
use Rattle.ntx_num.specs.Trace.{Trace, stays, trace_and_then, each_in_turn, EndsAs}
use Rattle.ntx_lists.specs.MadeNodes.{made_and_linked, KeepLinks}
use Rattle.ntx_lists.proofs.MadeLinks.{live_later}
use Rattle.ntx_lists.proofs.MadeNodes.{begins_linked}
use Rattle.ntx_hyph.specs.Hyphenation.{disc_fields, hyphen_fields, hyphenated}
use Rattle.ntx_hyph.specs.inner.Sound.{IsSound}
use Rattle.ntx_hyph.specs.declared.letter.Gap.{Gap}
use Rattle.ntx_num.proofs.Traces.{Begins, begins_stays, begins_then, ends_later, ends_there, Goes, goes_on, goes_ended, goes_stopped}

abbrev with_hyphen : ℕ → Gap → ℕ → Heap → Trace Heap (Unit {0}) Trouble
with_hyphen char gap disc inserted = trace_and_then (made_and_linked (hyphen_fields char gap) gap.before disc Pre inserted) (λ _ whole. stays whole (Ok tt))

begins_hyphen : (char : ℕ) (gap : Gap) (disc : ℕ) (heap : Heap) → Begins (with_hyphen char gap disc heap) heap
begins_hyphen char gap disc heap = begins_then (made_and_linked (hyphen_fields char gap) gap.before disc Pre heap) heap (λ _ whole. stays whole (Ok tt)) (λ _ whole. begins_stays whole (Ok tt)) (begins_linked (hyphen_fields char gap) gap.before disc Pre heap)

pub begins_hyphenated : (char : ℕ) (gap : Gap) (heap : Heap) → Begins (hyphenated char gap heap) heap
begins_hyphenated char gap heap =
    begins_then (made_and_linked (disc_fields gap) gap.before gap.before Next heap) heap (λ disc h. with_hyphen char gap disc h) (λ disc h. begins_hyphen char gap disc h) (begins_linked (disc_fields gap) gap.before gap.before Next heap)

pub disc_stops : (char : ℕ) (gap : Gap) (old new : Heap) (e : Fail Trouble) → EndsAs {A = ℕ} (Err e) new (made_and_linked (disc_fields gap) gap.before gap.before Next old) → EndsAs {A = Unit {0}} (Err e) new (hyphenated char gap old)
disc_stops char gap old new e h = ends_there (made_and_linked (disc_fields gap) gap.before gap.before Next old) new (λ disc h. with_hyphen char gap disc h) e (λ disc h. begins_hyphen char gap disc h) h

pub hyphen_stops : (char : ℕ) (gap : Gap) (old mid new : Heap) (disc : ℕ) (e : Fail Trouble) → EndsAs (Ok disc) mid (made_and_linked (disc_fields gap) gap.before gap.before Next old)
    → EndsAs {A = ℕ} (Err e) new (made_and_linked (hyphen_fields char gap) gap.before disc Pre mid) → EndsAs {A = Unit {0}} (Err e) new (hyphenated char gap old)
hyphen_stops char gap old mid new disc e first second =
    ends_later (made_and_linked (disc_fields gap) gap.before gap.before Next old) disc mid new (λ disc h. with_hyphen char gap disc h) (Err e) first
    (ends_there (made_and_linked (hyphen_fields char gap) gap.before disc Pre mid) new (λ _ whole. stays whole (Ok tt)) e (λ _ whole. begins_stays whole (Ok tt)) second)

pub both_made : (char : ℕ) (gap : Gap) (old mid new : Heap) (disc hyphen : ℕ) → EndsAs (Ok disc) mid (made_and_linked (disc_fields gap) gap.before gap.before Next old)
    → EndsAs (Ok hyphen) new (made_and_linked (hyphen_fields char gap) gap.before disc Pre mid) → EndsAs (Ok tt) new (hyphenated char gap old)
both_made char gap old mid new disc hyphen first second =
    ends_later (made_and_linked (disc_fields gap) gap.before gap.before Next old) disc mid new (λ disc h. with_hyphen char gap disc h) (Ok tt) first
    (ends_later (made_and_linked (hyphen_fields char gap) gap.before disc Pre mid) hyphen new new (λ _ whole. stays whole (Ok tt)) (Ok tt) second (refl, refl))

-- ---- one gap after another
abbrev GoesOn : ℕ → List Gap → Heap → ℕ → Heap → Type 0
GoesOn char gaps old i now = Goes (hyphenated char) gaps old (drop i gaps) now

pub next_gap : (char : ℕ) (gaps : List Gap) (old now new : Heap) (i : ℕ) (d : Gap) → i < length gaps → Goes (hyphenated char) gaps old (drop i gaps) now → EndsAs (Ok tt) new (hyphenated char (get_or gaps i d) now) → Goes (hyphenated char) gaps old (drop (i + 1) gaps) new
next_gap char gaps old now new i d lt g e =
    goes_on (hyphenated char) gaps (drop (i + 1) gaps) (get_or gaps i d) old now new (subst (λ x. Goes (hyphenated char) gaps old x now) (taken_off i gaps d lt) g) e

pub gap_stops : (char : ℕ) (gaps : List Gap) (old now new : Heap) (i : ℕ) (d : Gap) (e : Fail Trouble) → i < length gaps → Goes (hyphenated char) gaps old (drop i gaps) now → EndsAs {A = Unit {0}} (Err e) new (hyphenated char (get_or gaps i d) now)
    → EndsAs {A = Unit {0}} (Err e) new (each_in_turn (hyphenated char) gaps old)
gap_stops char gaps old now new i d e lt g stops =
    goes_stopped (hyphenated char) gaps (drop (i + 1) gaps) (get_or gaps i d) old now new e (begins_hyphenated char) (subst (λ x. Goes (hyphenated char) gaps old x now) (taken_off i gaps d lt) g) stops

pub gaps_done : (char : ℕ) (gaps left : List Gap) (old now : Heap) → left ≡ [] → Goes (hyphenated char) gaps old left now → EndsAs (Ok tt) now (each_in_turn (hyphenated char) gaps old)
gaps_done char gaps left old now none g = goes_ended (hyphenated char) gaps old now (subst (λ x. Goes (hyphenated char) gaps old x now) none g)

pub sound_later : (old new : Heap) (gaps : List Gap) → KeepLinks old new → All (IsSound old) gaps → All (IsSound new) gaps
sound_later old new gaps keep h =
    let stay = live_later old new keep in
    All-weaker (IsSound old) (IsSound new) (λ gap s. record { before = stay gap.before s.before; after = stay gap.after s.after; font = s.font }) gaps h
