-- What is found at a name, and how a line is packed.
use Rattle.std.proofs.Common.{◌≡◌, ℕ, pos, List, Option, Ok, Err, subst}
use Rattle.std.specs.Prelude.{ℤ, Result}
use Rattle.ntx_num.specs.Answer.{Steps, result_map}
use Rattle.ntx_num.specs.Trace.{stepped, EndsAs}
use Rattle.ntx_num.specs.declared.answer.Fail.{Fail}
use Rattle.ntx_num.proofs.Traces.{ends_later, ends_there}
use Rattle.ntx_nodes.specs.Heap.{Heap}
use Rattle.ntx_nodes.specs.Steps.{wear_current_step}
use Rattle.ntx_nodes.specs.declared.field.Field.TheVariants.{Subtype}
use Rattle.ntx_nodes.specs.declared.field.FieldValue.TheVariants.{Number}
use Rattle.ntx_nodes.specs.declared.trouble.Trouble.{Trouble}
use Rattle.ntx_tfm.specs.Font.{FontTables}
use Rattle.ntx_item.specs.Settings.{Settings}
use Rattle.ntx_item.specs.declared.pack_to.PackTo.{PackTo}
use Rattle.ntx_item.specs.declared.pack_to.PackTo.TheVariants.{Exactly}
use Rattle.ntx_pack.specs.Pack.{hpack_step}
use Rattle.ntx_lines.specs.Making.{set}
use Rattle.ntx_lines.specs.LineBox.{line_subtype, line_box}
use Rattle.ntx_lines.proofs.Endings.{once_mapped}
use Rattle.ntx_lines.proofs.BeginsLines.{worn, naming, begins_naming, begins_worn}

abbrev packing_step : List FontTables → Settings → Option ℕ → Heap → Result ((ℕ × ℤ) × Heap) Trouble
packing_step fonts s head heap = hpack_step fonts head (Exactly s.hsize) heap

abbrev boxing_step : List FontTables → Settings → Option ℕ → Heap → Result (ℕ × Heap) Trouble
boxing_step fonts s head heap = result_map (λ made. (made.0.0, made.1)) (packing_step fonts s head heap)

abbrev IsPacked : Result (ℕ × ℤ) (Fail Trouble) → List FontTables → Settings → Option ℕ → Heap → Heap → Type 0
IsPacked r fonts s head old new = Steps r old new (packing_step fonts s head old)

-- a box that is packed to what a line is packed to
pub packed_so : (r : Result (ℕ × ℤ) (Fail Trouble)) (fonts : List FontTables) (s : Settings) (head : Option ℕ) (to : PackTo) (old new : Heap) → to ≡ Exactly s.hsize → Steps r old new (hpack_step fonts head to old) → IsPacked r fonts s head old new
packed_so r fonts s head to old new e m = subst (λ (w : PackTo). Steps r old new (hpack_step fonts head w old)) e m

pub pack_stops : (fonts : List FontTables) (s : Settings) (head : Option ℕ) (old new : Heap) (e : Fail Trouble) → IsPacked (Err e) fonts s head old new → EndsAs {A = ℕ} (Err e) new (line_box fonts s head old)
pack_stops fonts s head old new e m =
    ends_there (stepped (boxing_step fonts s head old) old) new naming e begins_naming (once_mapped (λ p. p.0) (Err e) old new (packing_step fonts s head old) m)

pub name_stops : (fonts : List FontTables) (s : Settings) (head : Option ℕ) (old mid new : Heap) (box : ℕ × ℤ) (e : Fail Trouble) → IsPacked (Ok box) fonts s head old mid
    → EndsAs {A = Unit {0}} (Err e) new (set box.0 (Subtype, Number (pos line_subtype)) mid) → EndsAs {A = ℕ} (Err e) new (line_box fonts s head old)
name_stops fonts s head old mid new box e m f =
    ends_later (stepped (boxing_step fonts s head old) old) box.0 mid new naming (Err e) (once_mapped (λ p. p.0) (Ok box) old mid (packing_step fonts s head old) m)
    (ends_there (set box.0 (Subtype, Number (pos line_subtype)) mid) new (worn box.0) e (begins_worn box.0) f)

pub wear_ends : (fonts : List FontTables) (s : Settings) (head : Option ℕ) (old mid there new : Heap) (box : ℕ × ℤ) (u : Unit {0}) (r : Result (Unit {0}) (Fail Trouble)) → IsPacked (Ok box) fonts s head old mid
    → EndsAs (Ok u) there (set box.0 (Subtype, Number (pos line_subtype)) mid) → Steps r there new (wear_current_step box.0 there) → EndsAs (result_map (λ _. box.0) r) new (line_box fonts s head old)
wear_ends fonts s head old mid there new box u r m f w =
    ends_later (stepped (boxing_step fonts s head old) old) box.0 mid new naming (result_map (λ _. box.0) r) (once_mapped (λ p. p.0) (Ok box) old mid (packing_step fonts s head old) m)
    (ends_later (set box.0 (Subtype, Number (pos line_subtype)) mid) u there new (worn box.0) (result_map (λ _. box.0) r) f
    (once_mapped (λ _. box.0) r there new (wear_current_step box.0 there) w))
