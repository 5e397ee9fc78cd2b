-- How the traces of nodes that come into a discretionary end, one part after another.
use Rattle.std.proofs.Common.{ℕ, Some, None, Ok, Err}
use Rattle.std.specs.Prelude.{Option, Result}
use Rattle.ntx_num.specs.Trace.{Trace, trace_and_then, EndsAs}
use Rattle.ntx_num.specs.declared.answer.Fail.{Fail}
use Rattle.ntx_num.proofs.Traces.{Begins, begins_stays, begins_then, ends_later, ends_there}
use Rattle.ntx_nodes.specs.Heap.{Heap}
use Rattle.ntx_nodes.specs.declared.contents.DiscFields.{DiscFields}
use Rattle.ntx_nodes.specs.declared.field.Field.{Field}
use Rattle.ntx_nodes.specs.declared.field.Field.TheVariants.{Next, Pre, Post, Replace}
use Rattle.ntx_nodes.specs.declared.trouble.Trouble.{Trouble}
use Rattle.ntx_ligkern.specs.Kerns.{last_of}
use Rattle.ntx_ligkern.specs.Ligatures.{linked, put_in, copied}
use Rattle.ntx_ligkern.specs.Ligaturing.{part_at, copied_into, linked_from, moved_in, drawn_before, copied_to_post, moved_back, drawn_after}
use Rattle.ntx_ligkern.proofs.StepEnds.{begins_link, begins_copy, begins_put}

-- ---- a copy
abbrev then_put : ℕ → Field → Option ℕ → ℕ → Heap → Trace Heap (Unit {0}) Trouble
then_put at f next copy made = put_in copy at f next made

begins_copied : (n at : ℕ) (f : Field) (next : Option ℕ) (heap : Heap) → Begins (copied_into n at f next heap) heap
begins_copied n at f next heap = begins_then (copied n heap) heap (then_put at f next) (λ copy h. begins_put copy at f next h) (begins_copy n heap)

pub copied_stops : (n at : ℕ) (f : Field) (next : Option ℕ) (heap last : Heap) (e : Fail Trouble) → EndsAs {A = ℕ} (Err e) last (copied n heap) → EndsAs {A = Unit {0}} (Err e) last (copied_into n at f next heap)
copied_stops n at f next heap last e h = ends_there (copied n heap) last (then_put at f next) e (λ copy h. begins_put copy at f next h) h

pub copied_ends : (n at : ℕ) (f : Field) (next : Option ℕ) (copy : ℕ) (heap mid last : Heap) (r : Result (Unit {0}) (Fail Trouble)) → EndsAs (Ok copy) mid (copied n heap) → EndsAs r last (put_in copy at f next mid) → EndsAs r last (copied_into n at f next heap)
copied_ends n at f next copy heap mid last r h k = ends_later (copied n heap) copy mid last (then_put at f next) r h k

-- ---- before a discretionary
begins_from : (before : Option ℕ) (n : ℕ) (heap : Heap) → Begins (linked_from before n heap) heap
begins_from None n heap = begins_stays heap (Ok tt)
begins_from (Some before) n heap = begins_link before Next (Some n) heap

abbrev then_replace : ℕ → ℕ → DiscFields → Unit {0} → Heap → Trace Heap (Unit {0}) Trouble
then_replace x disc d _ out = put_in x disc Replace d.replace out

begins_moved : (before : Option ℕ) (x disc : ℕ) (d : DiscFields) (heap : Heap) → Begins (moved_in before x disc d heap) heap
begins_moved before x disc d heap = begins_then (linked_from before disc heap) heap (then_replace x disc d) (λ _ h. begins_put x disc Replace d.replace h) (begins_from before disc heap)

pub moved_stops : (before : Option ℕ) (x disc : ℕ) (d : DiscFields) (heap last : Heap) (e : Fail Trouble) → EndsAs {A = Unit {0}} (Err e) last (linked_from before disc heap) → EndsAs {A = Unit {0}} (Err e) last (moved_in before x disc d heap)
moved_stops before x disc d heap last e h = ends_there (linked_from before disc heap) last (then_replace x disc d) e (λ _ h. begins_put x disc Replace d.replace h) h

pub moved_ends : (before : Option ℕ) (x disc : ℕ) (d : DiscFields) (heap mid last : Heap) (r : Result (Unit {0}) (Fail Trouble)) → EndsAs (Ok tt) mid (linked_from before disc heap) → EndsAs r last (put_in x disc Replace d.replace mid)
    → EndsAs r last (moved_in before x disc d heap)
moved_ends before x disc d heap mid last r h k = ends_later (linked_from before disc heap) tt mid last (then_replace x disc d) r h k

abbrev then_move : Option ℕ → ℕ → ℕ → DiscFields → Unit {0} → Heap → Trace Heap (Unit {0}) Trouble
then_move before x disc d _ made = moved_in before x disc d made

pub begins_before : (before : Option ℕ) (x disc : ℕ) (d : DiscFields) (heap : Heap) → Begins (drawn_before before x disc d heap) heap
begins_before before x disc d heap = begins_then (copied_into x disc Pre d.pre heap) heap (then_move before x disc d) (λ _ h. begins_moved before x disc d h) (begins_copied x disc Pre d.pre heap)

pub before_stops : (before : Option ℕ) (x disc : ℕ) (d : DiscFields) (heap last : Heap) (e : Fail Trouble) → EndsAs {A = Unit {0}} (Err e) last (copied_into x disc Pre d.pre heap) → EndsAs {A = Unit {0}} (Err e) last (drawn_before before x disc d heap)
before_stops before x disc d heap last e h = ends_there (copied_into x disc Pre d.pre heap) last (then_move before x disc d) e (λ _ h. begins_moved before x disc d h) h

pub before_ends : (before : Option ℕ) (x disc : ℕ) (d : DiscFields) (heap mid last : Heap) (r : Result (Unit {0}) (Fail Trouble)) → EndsAs (Ok tt) mid (copied_into x disc Pre d.pre heap) → EndsAs r last (moved_in before x disc d mid)
    → EndsAs r last (drawn_before before x disc d heap)
before_ends before x disc d heap mid last r h k = ends_later (copied_into x disc Pre d.pre heap) tt mid last (then_move before x disc d) r h k

-- ---- after it
begins_post : (y disc : ℕ) (end : Option ℕ) (heap : Heap) → Begins (copied_to_post y disc end heap) heap
begins_post y disc None heap = begins_copied y disc Post None heap
begins_post y disc (Some last) heap = begins_copied y last Next None heap

abbrev then_end : ℕ → ℕ → Unit {0} → Heap → Trace Heap (Unit {0}) Trouble
then_end last y _ out = put_in y last Next None out

begins_back : (disc last y : ℕ) (after : Option ℕ) (heap : Heap) → Begins (moved_back disc last y after heap) heap
begins_back disc last y after heap = begins_then (linked disc Next after heap) heap (then_end last y) (λ _ h. begins_put y last Next None h) (begins_link disc Next after heap)

pub back_stops : (disc last y : ℕ) (after : Option ℕ) (heap new : Heap) (e : Fail Trouble) → EndsAs {A = Unit {0}} (Err e) new (linked disc Next after heap) → EndsAs {A = Unit {0}} (Err e) new (moved_back disc last y after heap)
back_stops disc last y after heap new e h = ends_there (linked disc Next after heap) new (then_end last y) e (λ _ h. begins_put y last Next None h) h

pub back_ends : (disc last y : ℕ) (after : Option ℕ) (heap mid new : Heap) (r : Result (Unit {0}) (Fail Trouble)) → EndsAs (Ok tt) mid (linked disc Next after heap) → EndsAs r new (put_in y last Next None mid) → EndsAs r new (moved_back disc last y after heap)
back_ends disc last y after heap mid new r h k = ends_later (linked disc Next after heap) tt mid new (then_end last y) r h k

abbrev then_back : ℕ → ℕ → ℕ → Option ℕ → Unit {0} → Heap → Trace Heap (Unit {0}) Trouble
then_back disc last y after _ made = moved_back disc last y after made

-- after a copy to the end of `post`
abbrev pub after_copy : ℕ → ℕ → ℕ → Option ℕ → Option ℕ → Heap → Trace Heap (Unit {0}) Trouble
after_copy disc last y after end heap = trace_and_then (copied_to_post y disc end heap) (then_back disc last y after)

begins_copy_back : (disc last y : ℕ) (after end : Option ℕ) (heap : Heap) → Begins (after_copy disc last y after end heap) heap
begins_copy_back disc last y after end heap = begins_then (copied_to_post y disc end heap) heap (then_back disc last y after) (λ _ h. begins_back disc last y after h) (begins_post y disc end heap)

pub begins_after : (disc last y : ℕ) (after : Option ℕ) (heap : Heap) → Begins (drawn_after disc last y after heap) heap
begins_after disc last y after heap = begins_copy_back disc last y after (last_of (part_at heap disc Post)) heap

pub after_stops : (disc last y : ℕ) (after end : Option ℕ) (heap new : Heap) (e : Fail Trouble) → EndsAs {A = Unit {0}} (Err e) new (copied_to_post y disc end heap) → EndsAs {A = Unit {0}} (Err e) new (after_copy disc last y after end heap)
after_stops disc last y after end heap new e h = ends_there (copied_to_post y disc end heap) new (then_back disc last y after) e (λ _ h. begins_back disc last y after h) h

pub after_ends : (disc last y : ℕ) (after end : Option ℕ) (heap mid new : Heap) (r : Result (Unit {0}) (Fail Trouble)) → EndsAs (Ok tt) mid (copied_to_post y disc end heap) → EndsAs r new (moved_back disc last y after mid)
    → EndsAs r new (after_copy disc last y after end heap)
after_ends disc last y after end heap mid new r h k = ends_later (copied_to_post y disc end heap) tt mid new (then_back disc last y after) r h k
