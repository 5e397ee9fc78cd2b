-- How a discretionary at a break is replaced.
use Rattle.std.proofs.Common.{ℕ, Option, Ok, Err, refl}
use Rattle.std.specs.Prelude.{Result}
use Rattle.ntx_num.specs.Trace.{stepped, EndsAs}
use Rattle.ntx_num.specs.declared.answer.Fail.{Fail}
use Rattle.ntx_num.proofs.Traces.{ends_later, ends_there}
use Rattle.ntx_nodes.specs.Heap.{Heap}
use Rattle.ntx_nodes.specs.declared.contents.DiscFields.{DiscFields}
use Rattle.ntx_nodes.specs.declared.trouble.Trouble.{Trouble}
use Rattle.ntx_lists.specs.Trees.{flush_list_step}
use Rattle.ntx_lines.specs.declared.ends.Ends.{Ends}
use Rattle.ntx_lines.specs.declared.line_end.Ended.{Ended}
use Rattle.ntx_lines.specs.Making.{follows}
use Rattle.ntx_lines.specs.LineEnd.{replaced, freed, ends_found, ended_by_disc, ends_at_disc}
use Rattle.ntx_lines.proofs.Begins.{freeing, joining, flushing, broken, replacing, posting, begins_given, begins_freeing, begins_joining, begins_flushing, begins_replacing, begins_posting}

pub part_stops : (before : Option ℕ) (n : ℕ) (d : DiscFields) (last_of_post after : Option ℕ) (old new : Heap) (e : Fail Trouble) → EndsAs {A = Unit {0}} (Err e) new (follows before d.pre old)
    → EndsAs {A = Unit {0}} (Err e) new (replaced before n d last_of_post after old)
part_stops before n d last_of_post after old new e f = ends_there (follows before d.pre old) new (flushing n d last_of_post after) e (begins_flushing n d last_of_post after) f

pub join_stops : (before : Option ℕ) (n : ℕ) (d : DiscFields) (last_of_post after : Option ℕ) (old parted flushed new : Heap) (u v : Unit {0}) (e : Fail Trouble) → EndsAs (Ok u) parted (follows before d.pre old)
    → EndsAs (Ok v) flushed (stepped (flush_list_step d.replace parted) parted) → EndsAs {A = Unit {0}} (Err e) new (follows last_of_post after flushed)
    → EndsAs {A = Unit {0}} (Err e) new (replaced before n d last_of_post after old)
join_stops before n d last_of_post after old parted flushed new u v e one two three =
    ends_later (follows before d.pre old) u parted new (flushing n d last_of_post after) (Err e) one
    (ends_later (stepped (flush_list_step d.replace parted) parted) v flushed new (joining n last_of_post after) (Err e) two
    (ends_there (follows last_of_post after flushed) new (freeing n) e (begins_freeing n) three))

-- ---- a line that ends at one
pub pre_stops : (body : Ends) (n : ℕ) (d : DiscFields) (after : Option ℕ) (old new : Heap) (e : Fail Trouble) → EndsAs {A = Ends} (Err e) new (ends_found d.pre old) → EndsAs {A = Ended} (Err e) new (ends_at_disc body n d after old)
pre_stops body n d after old new e f = ends_there (ends_found d.pre old) new (posting body n d after) e (begins_posting body n d after) f

pub post_stops : (body : Ends) (n : ℕ) (d : DiscFields) (after : Option ℕ) (old mid new : Heap) (pre : Ends) (e : Fail Trouble) → EndsAs (Ok pre) mid (ends_found d.pre old) → EndsAs {A = Ends} (Err e) new (ends_found d.post mid)
    → EndsAs {A = Ended} (Err e) new (ends_at_disc body n d after old)
post_stops body n d after old mid new pre e one two =
    ends_later (ends_found d.pre old) pre mid new (posting body n d after) (Err e) one
    (ends_there (ends_found d.post mid) new (replacing body n d after pre) e (begins_replacing body n d after pre) two)

pub replace_stops : (body : Ends) (n : ℕ) (d : DiscFields) (after : Option ℕ) (old mid there new : Heap) (pre post : Ends) (e : Fail Trouble) → EndsAs (Ok pre) mid (ends_found d.pre old) → EndsAs (Ok post) there (ends_found d.post mid)
    → EndsAs {A = Unit {0}} (Err e) new (replaced body.last n d post.last after there) → EndsAs {A = Ended} (Err e) new (ends_at_disc body n d after old)
replace_stops body n d after old mid there new pre post e one two three =
    ends_later (ends_found d.pre old) pre mid new (posting body n d after) (Err e) one
    (ends_later (ends_found d.post mid) post there new (replacing body n d after pre) (Err e) two
    (ends_there (replaced body.last n d post.last after there) new (broken body pre post) e (λ _ h. begins_given (ended_by_disc body pre post) h) three))

pub disc_done : (body : Ends) (n : ℕ) (d : DiscFields) (after : Option ℕ) (old mid there new : Heap) (pre post : Ends) (u : Unit {0}) → EndsAs (Ok pre) mid (ends_found d.pre old) → EndsAs (Ok post) there (ends_found d.post mid)
    → EndsAs (Ok u) new (replaced body.last n d post.last after there) → EndsAs (Ok (ended_by_disc body pre post)) new (ends_at_disc body n d after old)
disc_done body n d after old mid there new pre post u one two three =
    ends_later (ends_found d.pre old) pre mid new (posting body n d after) (Ok (ended_by_disc body pre post)) one
    (ends_later (ends_found d.post mid) post there new (replacing body n d after pre) (Ok (ended_by_disc body pre post)) two
    (ends_later (replaced body.last n d post.last after there) u new new (broken body pre post) (Ok (ended_by_disc body pre post)) three (refl, refl)))

-- ---- a discretionary that is replaced, as its steps end
pub flush_stops : (before : Option ℕ) (n : ℕ) (d : DiscFields) (last_of_post after : Option ℕ) (old parted new : Heap) (u : Unit {0}) (e : Fail Trouble) → EndsAs (Ok u) parted (follows before d.pre old)
    → EndsAs {A = Unit {0}} (Err e) new (stepped (flush_list_step d.replace parted) parted) → EndsAs {A = Unit {0}} (Err e) new (replaced before n d last_of_post after old)
flush_stops before n d last_of_post after old parted new u e one two =
    ends_later (follows before d.pre old) u parted new (flushing n d last_of_post after) (Err e) one
    (ends_there (stepped (flush_list_step d.replace parted) parted) new (joining n last_of_post after) e (begins_joining n last_of_post after) two)

pub free_ends : (before : Option ℕ) (n : ℕ) (d : DiscFields) (last_of_post after : Option ℕ) (old parted flushed linked new : Heap) (u v w : Unit {0}) (r : Result (Unit {0}) (Fail Trouble)) → EndsAs (Ok u) parted (follows before d.pre old)
    → EndsAs (Ok v) flushed (stepped (flush_list_step d.replace parted) parted) → EndsAs (Ok w) linked (follows last_of_post after flushed) → EndsAs r new (freed n linked) → EndsAs r new (replaced before n d last_of_post after old)
free_ends before n d last_of_post after old parted flushed linked new u v w r one two three four =
    ends_later (follows before d.pre old) u parted new (flushing n d last_of_post after) r one
    (ends_later (stepped (flush_list_step d.replace parted) parted) v flushed new (joining n last_of_post after) r two
    (ends_later (follows last_of_post after flushed) w linked new (freeing n) r three four))
