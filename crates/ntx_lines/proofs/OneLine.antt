-- How a line ends that is made in five steps: its end, its rightskip, what its break discards, its box, and the penalty after it.
use Rattle.std.proofs.Common.{◌≡◌, ℕ, List, true, false, None, Some, Ok, Err, refl, subst}
use Rattle.std.specs.Prelude.{Bool, not, Option, Result, is_some, is_none}
use Rattle.ntx_num.specs.Trace.{EndsAs}
use Rattle.ntx_num.specs.declared.answer.Fail.{Fail}
use Rattle.ntx_num.proofs.Traces.{ends_later, ends_there}
use Rattle.ntx_nodes.specs.Heap.{Heap}
use Rattle.ntx_nodes.specs.declared.trouble.Trouble.{Trouble}
use Rattle.ntx_tfm.specs.Font.{FontTables}
use Rattle.ntx_item.specs.Settings.{Settings}
use Rattle.ntx_lines.specs.declared.above.Above.{Above}
use Rattle.ntx_lines.specs.declared.ends.Ends.{Ends}
use Rattle.ntx_lines.specs.declared.line_end.Ended.{Ended}
use Rattle.ntx_lines.specs.Ends.{ends_of, joined}
use Rattle.ntx_lines.specs.LineEnd.{ended, discards}
use Rattle.ntx_lines.specs.Parts.{Part}
use Rattle.ntx_lines.specs.Lines.{with_right, boxed, penalized, line_made}
use Rattle.ntx_lines.proofs.Begins.{begins_given}
use Rattle.ntx_lines.proofs.BeginsLines.{closing, penalizing, boxing, discarding, righting, begins_penalizing, begins_boxing, begins_discarding, begins_righting}

-- the steps that end well before another
abbrev pub Finished : Settings → Ends → Part → Ended → Heap → Heap → Type 0
Finished s front part line old h = EndsAs (Ok line) h (ended s (joined front (ends_of part.body)) part.at part.after old)

abbrev Made : Result (Above × Ends) (Fail Trouble) → List FontTables → Settings → Above → Ends → Part → ℕ → Heap → Heap → Type 0
Made r fonts s above front part later old new = EndsAs r new (line_made fonts s above front part later old)

pub end_stops : (fonts : List FontTables) (s : Settings) (above : Above) (front : Ends) (part : Part) (later : ℕ) (old new : Heap) (e : Fail Trouble)
    → EndsAs {A = Ended} (Err e) new (ended s (joined front (ends_of part.body)) part.at part.after old) → Made (Err e) fonts s above front part later old new
end_stops fonts s above front part later old new e one =
    ends_there (ended s (joined front (ends_of part.body)) part.at part.after old) new (righting fonts s above part later) e (begins_righting fonts s above part later) one

pub after_end : (fonts : List FontTables) (s : Settings) (above : Above) (front : Ends) (part : Part) (later : ℕ) (old h new : Heap) (line : Ended) (r : Result (Above × Ends) (Fail Trouble)) → Finished s front part line old h
    → EndsAs r new (righting fonts s above part later line h) → Made r fonts s above front part later old new
after_end fonts s above front part later old h new line r one rest = ends_later (ended s (joined front (ends_of part.body)) part.at part.after old) line h new (righting fonts s above part later) r one rest

pub right_stops : (fonts : List FontTables) (s : Settings) (above : Above) (part : Part) (later : ℕ) (line : Ended) (h new : Heap) (e : Fail Trouble) → EndsAs {A = Ends} (Err e) new (with_right s line h)
    → EndsAs {A = Above × Ends} (Err e) new (righting fonts s above part later line h)
right_stops fonts s above part later line h new e two = ends_there (with_right s line h) new (discarding fonts s above part line later) e (begins_discarding fonts s above part line later) two

pub after_right : (fonts : List FontTables) (s : Settings) (above : Above) (part : Part) (later : ℕ) (line : Ended) (h k new : Heap) (whole : Ends) (r : Result (Above × Ends) (Fail Trouble)) → EndsAs (Ok whole) k (with_right s line h)
    → EndsAs r new (discarding fonts s above part line later whole k) → EndsAs r new (righting fonts s above part later line h)
after_right fonts s above part later line h k new whole r two rest = ends_later (with_right s line h) whole k new (discarding fonts s above part line later) r two rest

pub discard_stops : (fonts : List FontTables) (s : Settings) (above : Above) (part : Part) (later : ℕ) (line : Ended) (whole : Ends) (k new : Heap) (e : Fail Trouble) → EndsAs {A = Unit {0}} (Err e) new (discards part.discarded k)
    → EndsAs {A = Above × Ends} (Err e) new (discarding fonts s above part line later whole k)
discard_stops fonts s above part later line whole k new e three = ends_there (discards part.discarded k) new (boxing fonts s above line whole later) e (begins_boxing fonts s above line whole later) three

pub after_discard : (fonts : List FontTables) (s : Settings) (above : Above) (part : Part) (later : ℕ) (line : Ended) (whole : Ends) (k m new : Heap) (u : Unit {0}) (r : Result (Above × Ends) (Fail Trouble)) → EndsAs (Ok u) m (discards part.discarded k)
    → EndsAs r new (boxing fonts s above line whole later u m) → EndsAs r new (discarding fonts s above part line later whole k)
after_discard fonts s above part later line whole k m new u r three rest = ends_later (discards part.discarded k) u m new (boxing fonts s above line whole later) r three rest

pub box_stops : (fonts : List FontTables) (s : Settings) (above : Above) (later : ℕ) (line : Ended) (whole : Ends) (u : Unit {0}) (m new : Heap) (e : Fail Trouble) → EndsAs {A = Above} (Err e) new (boxed fonts s above whole.first m)
    → EndsAs {A = Above × Ends} (Err e) new (boxing fonts s above line whole later u m)
box_stops fonts s above later line whole u m new e four = ends_there (boxed fonts s above whole.first m) new (penalizing s above line later) e (begins_penalizing s above line later) four

pub after_box : (fonts : List FontTables) (s : Settings) (above longer : Above) (later : ℕ) (line : Ended) (whole : Ends) (u : Unit {0}) (m o new : Heap) (r : Result (Above × Ends) (Fail Trouble)) → EndsAs (Ok longer) o (boxed fonts s above whole.first m)
    → EndsAs r new (penalizing s above line later longer o) → EndsAs r new (boxing fonts s above line whole later u m)
after_box fonts s above longer later line whole u m o new r four rest = ends_later (boxed fonts s above whole.first m) longer o new (penalizing s above line later) r four rest

pub none_so : (o : Option ℕ) (r : Bool) → is_some o ≡ not r → r ≡ is_none o
none_so None true e = refl
none_so None false e = cc
none_so (Some n) true e = cc
none_so (Some n) false e = refl

pub penalty_so : (r : Result Above (Fail Trouble)) (s : Settings) (a b is_hyphenated : Bool) (later : ℕ) (longer : Above) (old new : Heap) → a ≡ b → EndsAs r new (penalized s a is_hyphenated later longer old) → EndsAs r new (penalized s b is_hyphenated later longer old)
penalty_so r s a b is_hyphenated later longer old new p e = subst (λ (x : Bool). EndsAs r new (penalized s x is_hyphenated later longer old)) p e

pub penalty_stops : (s : Settings) (above longer : Above) (later : ℕ) (line : Ended) (o new : Heap) (e : Fail Trouble) → EndsAs {A = Above} (Err e) new (penalized s (is_none above.first) line.is_hyphenated later longer o)
    → EndsAs {A = Above × Ends} (Err e) new (penalizing s above line later longer o)
penalty_stops s above longer later line o new e five = ends_there (penalized s (is_none above.first) line.is_hyphenated later longer o) new (closing line) e (λ longest h. begins_given (longest, line.front) h) five

pub penalty_done : (s : Settings) (above longer longest : Above) (later : ℕ) (line : Ended) (o new : Heap) → EndsAs (Ok longest) new (penalized s (is_none above.first) line.is_hyphenated later longer o)
    → EndsAs (Ok (longest, line.front)) new (penalizing s above line later longer o)
penalty_done s above longer longest later line o new five = ends_later (penalized s (is_none above.first) line.is_hyphenated later longer o) longest new new (closing line) (Ok (longest, line.front)) five (refl, refl)
