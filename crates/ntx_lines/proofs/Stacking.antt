-- How the steps of the vertical list end.
use Rattle.std.proofs.Common.{◌≡◌, ℕ, List, Option, Some, Ok, Err, refl, subst}
use Rattle.std.specs.Prelude.{ℤ, Result}
use Rattle.ntx_num.specs.Answer.{Answers}
use Rattle.ntx_num.specs.Trace.{stays, EndsAs}
use Rattle.ntx_num.specs.declared.answer.Fail.{Fail}
use Rattle.ntx_num.proofs.Traces.{ends_later, ends_there}
use Rattle.ntx_nodes.specs.Heap.{Heap}
use Rattle.ntx_nodes.specs.declared.contents.BoxFields.{BoxFields}
use Rattle.ntx_nodes.specs.declared.fields.Fields.{Fields}
use Rattle.ntx_nodes.specs.declared.trouble.Trouble.{Trouble}
use Rattle.ntx_tfm.specs.Font.{FontTables}
use Rattle.ntx_item.specs.Settings.{Settings}
use Rattle.ntx_lines.specs.declared.above.Above.{Above}
use Rattle.ntx_lines.specs.Making.{follows, made_before}
use Rattle.ntx_lines.specs.Skips.{with_leftskip}
use Rattle.ntx_lines.specs.LineBox.{box_fields_at, line_box}
use Rattle.ntx_lines.specs.Above.{interline_fields, interline, interline_after, above_with, with_box}
use Rattle.ntx_lines.specs.Lines.{boxed}
use Rattle.ntx_lines.proofs.Begins.{begins_given, begins_follows}
use Rattle.ntx_lines.proofs.Endings.{found_ends}
use Rattle.ntx_lines.proofs.BeginsLines.{gluing, spaced, begins_spaced, stacked, spacing, linking, begins_spacing, begins_linking, putting, packing, begins_packing, begins_with_box}

-- ---- numbers that are the same
pub fields_so : (r : Result Fields (Fail Trouble)) (s : Settings) (x y depth height : ℤ) → x ≡ depth → y ≡ height → Answers r (interline_fields s x y) → Answers r (interline_fields s depth height)
fields_so r s x y depth height p q a = subst (λ (d : ℤ). Answers r (interline_fields s d height)) p (subst (λ (h : ℤ). Answers r (interline_fields s x h)) q a)

pub after_so : (r : Result (Unit {0}) (Fail Trouble)) (s : Settings) (x y depth height : ℤ) (last : Option ℕ) (n : ℕ) (old new : Heap) → x ≡ depth → y ≡ height → EndsAs r new (interline_after s x y last n old)
    → EndsAs r new (interline_after s depth height last n old)
after_so r s x y depth height last n old new p q e =
    subst (λ (d : ℤ). EndsAs r new (interline_after s d height last n old)) p (subst (λ (h : ℤ). EndsAs r new (interline_after s x h last n old)) q e)

-- ---- interline glue
pub glue_refused : (s : Settings) (depth height : ℤ) (last n : ℕ) (old : Heap) (e : Fail Trouble) → Answers {A = Fields} (Err e) (interline_fields s depth height) → EndsAs {A = Unit {0}} (Err e) old (interline s depth height last n old)
glue_refused s depth height last n old e a =
    let fields = interline_fields s depth height in ends_there (stays old fields) old (spaced last n) e (begins_spaced last n) (found_ends (Err e) fields old old a refl)

pub glue_stops : (s : Settings) (depth height : ℤ) (last n : ℕ) (old new : Heap) (fields : Fields) (e : Fail Trouble) → Answers (Ok fields) (interline_fields s depth height) → EndsAs {A = ℕ} (Err e) new (made_before fields (Some n) old)
    → EndsAs {A = Unit {0}} (Err e) new (interline s depth height last n old)
glue_stops s depth height last n old new fields e a m =
    let answer = interline_fields s depth height in
    ends_later (stays old answer) fields old new (spaced last n) (Err e) (found_ends (Ok fields) answer old old a refl)
    (ends_there (made_before fields (Some n) old) new (gluing last) e (λ glue h. begins_follows (Some last) (Some glue) h) m)

pub glue_ends : (s : Settings) (depth height : ℤ) (last n : ℕ) (old mid new : Heap) (fields : Fields) (glue : ℕ) (r : Result (Unit {0}) (Fail Trouble)) → Answers (Ok fields) (interline_fields s depth height)
    → EndsAs (Ok glue) mid (made_before fields (Some n) old) → EndsAs r new (follows (Some last) (Some glue) mid) → EndsAs r new (interline s depth height last n old)
glue_ends s depth height last n old mid new fields glue r a m f =
    let answer = interline_fields s depth height in
    ends_later (stays old answer) fields old new (spaced last n) r (found_ends (Ok fields) answer old old a refl) (ends_later (made_before fields (Some n) old) glue mid new (gluing last) r m f)

-- ---- a box more
pub box_refused : (s : Settings) (above : Above) (n : ℕ) (old : Heap) (e : Fail Trouble) → Answers {A = BoxFields} (Err e) (box_fields_at n old) → EndsAs {A = Above} (Err e) old (with_box s above n old)
box_refused s above n old e a = let found = box_fields_at n old in ends_there (stays old found) old (linking s above n) e (begins_linking s above n) (found_ends (Err e) found old old a refl)

pub link_stops : (s : Settings) (above : Above) (n : ℕ) (old new : Heap) (b : BoxFields) (e : Fail Trouble) → Answers (Ok b) (box_fields_at n old) → EndsAs {A = Unit {0}} (Err e) new (follows above.last (Some n) old) → EndsAs {A = Above} (Err e) new (with_box s above n old)
link_stops s above n old new b e a f =
    let found = box_fields_at n old in
    ends_later (stays old found) b old new (linking s above n) (Err e) (found_ends (Ok b) found old old a refl) (ends_there (follows above.last (Some n) old) new (spacing s above n b) e (begins_spacing s above n b) f)

pub space_stops : (s : Settings) (above : Above) (n : ℕ) (old mid new : Heap) (b : BoxFields) (u : Unit {0}) (e : Fail Trouble) → Answers (Ok b) (box_fields_at n old) → EndsAs (Ok u) mid (follows above.last (Some n) old)
    → EndsAs {A = Unit {0}} (Err e) new (interline_after s above.depth b.height above.last n mid) → EndsAs {A = Above} (Err e) new (with_box s above n old)
space_stops s above n old mid new b u e a f i =
    let found = box_fields_at n old in
    ends_later (stays old found) b old new (linking s above n) (Err e) (found_ends (Ok b) found old old a refl)
    (ends_later (follows above.last (Some n) old) u mid new (spacing s above n b) (Err e) f
    (ends_there (interline_after s above.depth b.height above.last n mid) new (stacked above n b) e (λ _ h. begins_given (above_with above n b.depth) h) i))

pub box_done : (s : Settings) (above : Above) (n : ℕ) (old mid new : Heap) (b : BoxFields) (u v : Unit {0}) → Answers (Ok b) (box_fields_at n old) → EndsAs (Ok u) mid (follows above.last (Some n) old)
    → EndsAs (Ok v) new (interline_after s above.depth b.height above.last n mid) → EndsAs (Ok (above_with above n b.depth)) new (with_box s above n old)
box_done s above n old mid new b u v a f i =
    let found = box_fields_at n old in
    let r : Result Above (Fail Trouble) = Ok (above_with above n b.depth) in
    ends_later (stays old found) b old new (linking s above n) r (found_ends (Ok b) found old old a refl)
    (ends_later (follows above.last (Some n) old) u mid new (spacing s above n b) r f (ends_later (interline_after s above.depth b.height above.last n mid) v new new (stacked above n b) r i (refl, refl)))

-- ---- a line in its box
pub left_stops : (fonts : List FontTables) (s : Settings) (above : Above) (head : Option ℕ) (old new : Heap) (e : Fail Trouble) → EndsAs {A = Option ℕ} (Err e) new (with_leftskip s head old) → EndsAs {A = Above} (Err e) new (boxed fonts s above head old)
left_stops fonts s above head old new e l = ends_there (with_leftskip s head old) new (packing fonts s above) e (begins_packing fonts s above) l

pub boxing_stops : (fonts : List FontTables) (s : Settings) (above : Above) (head first : Option ℕ) (old mid new : Heap) (e : Fail Trouble) → EndsAs (Ok first) mid (with_leftskip s head old) → EndsAs {A = ℕ} (Err e) new (line_box fonts s first mid)
    → EndsAs {A = Above} (Err e) new (boxed fonts s above head old)
boxing_stops fonts s above head first old mid new e l b =
    ends_later (with_leftskip s head old) first mid new (packing fonts s above) (Err e) l (ends_there (line_box fonts s first mid) new (putting s above) e (begins_with_box s above) b)

pub boxed_ends : (fonts : List FontTables) (s : Settings) (above : Above) (head first : Option ℕ) (old mid there new : Heap) (n : ℕ) (r : Result Above (Fail Trouble)) → EndsAs (Ok first) mid (with_leftskip s head old)
    → EndsAs (Ok n) there (line_box fonts s first mid) → EndsAs r new (with_box s above n there) → EndsAs r new (boxed fonts s above head old)
boxed_ends fonts s above head first old mid there new n r l b w =
    ends_later (with_leftskip s head old) first mid new (packing fonts s above) r l (ends_later (line_box fonts s first mid) n there new (putting s above) r b w)
