-- How a call of one step ends, and a call that makes a node with the current attributes.
use Rattle.std.proofs.Common.{◌≡◌, ℕ, ◌+◌, ◌<◌, List, length, drop, get_or, Some, Result, Ok, Err, sym, ◌∙◌, ap, subst, inl, inr}
use Rattle.ntx_num.specs.Answer.{Answers, Steps, StepsAtOnce, result_map}
use Rattle.ntx_num.specs.declared.answer.Fail.{Fail}
use Rattle.ntx_num.specs.declared.answer.Fail.TheVariants.{NoMemory, Is}
use Rattle.ntx_num.specs.Trace.{Trace, stays, stepped, each_in_turn, EndsAs}
use Rattle.ntx_num.proofs.Traces.{Begins, begins_stays, begins_step, begins_then, passes_first, ends_later, ends_there, ends_stepped, ends_refused, Goes, goes_on, goes_stopped}
use Rattle.std.specs.Ordering.{nat_cmp}
use Rattle.std.specs.FinMap as map
use Rattle.ntx_nodes.specs.Heap.{Attributes, Heap}
use Rattle.ntx_nodes.specs.Steps.{of_found, put, put_attributes, wear_current_step}
use Rattle.ntx_nodes.specs.Writing.{make_filled_step, make_current_step, StepsInTwo}
use Rattle.ntx_nodes.specs.declared.fields.Fields.{Fields}
use Rattle.ntx_nodes.specs.declared.node.Node.{Node}
use Rattle.ntx_nodes.specs.declared.trouble.Trouble.{Trouble}
use Rattle.ntx_nodes.proofs.Fills.{made, refused_too}
use Rattle.ntx_nodes.proofs.Writes.{put_same, insert_again, taken_off}
use Rattle.ntx_lines.specs.Making as lines
use Rattle.ntx_lines.specs.inner.Answers.{with_memory}

-- ---- one step
pub ends_once : {S A E : Type 0} (r : Result A (Fail E)) (old new : S) (step : Result (A × S) E) → Steps r old new step → EndsAs r new (stepped step old)
ends_once (Ok a) old new step e = ends_stepped step a old new e
ends_once {S} {A} (Err (Is why)) old new step e = subst (λ s. EndsAs {A = A} (Err (Is why)) s (stepped step old)) (sym e.1) (ends_refused step why old e.0)
ends_once {S} {A} (Err NoMemory) old new step e = subst (λ s. EndsAs {A = A} (Err NoMemory) s (stepped step old)) (sym e) (passes_first (stepped step old) old (begins_step step old))

pub ends_at_once : {S A E : Type 0} (r : Result A E) (old new : S) (step : Result (A × S) E) → StepsAtOnce r old new step → EndsAs (with_memory r) new (stepped step old)
ends_at_once (Ok a) old new step e = ends_stepped step a old new e
ends_at_once {S} {A} (Err why) old new step e = subst (λ s. EndsAs {A = A} (Err (Is why)) s (stepped step old)) (sym e.1) (ends_refused step why old e.0)

-- a step whose value is not that of the call
pub once_mapped : {S A B E : Type 0} (f : A → B) (r : Result A (Fail E)) (old new : S) (step : Result (A × S) E) → Steps r old new step
    → EndsAs (result_map f r) new (stepped (result_map (λ done. (f done.0, done.1)) step) old)
once_mapped f (Ok a) old new step e = ends_stepped (result_map (λ done. (f done.0, done.1)) step) (f a) old new (ap (result_map (λ done. (f done.0, done.1))) e)
once_mapped {S} {A} {B} f (Err (Is why)) old new step e =
    subst (λ s. EndsAs {A = B} (Err (Is why)) s (stepped (result_map (λ done. (f done.0, done.1)) step) old)) (sym e.1)
    (ends_refused (result_map (λ done. (f done.0, done.1)) step) why old (ap (result_map (λ done. (f done.0, done.1))) e.0))
once_mapped {S} {A} {B} f (Err NoMemory) old new step e =
    subst (λ s. EndsAs {A = B} (Err NoMemory) s (stepped (result_map (λ done. (f done.0, done.1)) step) old)) (sym e)
    (passes_first (stepped (result_map (λ done. (f done.0, done.1)) step) old) old (begins_step (result_map (λ done. (f done.0, done.1)) step) old))

-- ---- a node with the current attributes
abbrev bare : Fields → Node
bare fields = record { fields = fields; attributes = map.empty }

abbrev pub wearing : ℕ → Heap → Trace Heap ℕ Trouble
wearing n heap = stepped (result_map (λ done. (n, done.1)) (wear_current_step n heap)) heap

pub begins_wearing : (n : ℕ) (heap : Heap) → Begins (wearing n heap) heap
begins_wearing n heap = begins_step (result_map (λ done. (n, done.1)) (wear_current_step n heap)) heap

pub begins_made : (fields : Fields) (heap : Heap) → Begins (lines.made fields heap) heap
begins_made fields heap = begins_then (stepped (make_filled_step fields heap) heap) heap wearing begins_wearing (begins_step (make_filled_step fields heap) heap)

put_again : (new : Heap) (n : ℕ) (a b : Node) → map.get new.nodes n ≡ Some b → put (put new n a) n b ≡ new
put_again new n a b at = ap (λ (m : map.FinMap nat_cmp Node). record new { nodes = m }) (insert_again new.nodes n a b) ∙ put_same new n b at

pub current_ends : (r : Result ℕ (Fail Trouble)) (old new : Heap) (fields : Fields) → StepsInTwo r old new (make_filled_step fields old) (make_current_step fields old) → EndsAs r new (lines.made fields old)
current_ends (Ok n) old new fields s =
    let node : Node = record { fields = fields; attributes = old.current } in
    let m = made old new node n s in
    let mid : Heap = put new n (bare fields) in
    let filled : make_filled_step fields old ≡ Ok (n, mid) = m.again (bare fields) in
    let b = made old mid (bare fields) n filled in
    let wears : wear_current_step n mid ≡ Ok (tt, new) =
    ap (of_found {A = Unit {0} × Heap} n (λ x. Ok (tt, put_attributes mid n x mid.current))) b.at
    ∙ ap (λ (a : Attributes). Ok (tt, put mid n (record { fields = fields; attributes = a }))) b.current
    ∙ ap {B = Result (Unit {0} × Heap) Trouble} (λ h. Ok (tt, h)) (put_again new n (bare fields) node m.at) in
    ends_later (stepped (make_filled_step fields old) old) n mid new wearing (Ok n)
    (ends_stepped (make_filled_step fields old) n old mid filled)
    (ends_stepped (result_map (λ done. (n, done.1)) (wear_current_step n mid)) n mid new (ap (result_map (λ done. (n, done.1))) wears))
current_ends (Err (Is why)) old new fields s =
    subst (λ h. EndsAs {A = ℕ} (Err (Is why)) h (lines.made fields old)) (sym s.1)
    (ends_there (stepped (make_filled_step fields old) old) old wearing (Is why) begins_wearing
    (ends_refused (make_filled_step fields old) why old (refused_too old (record { fields = fields; attributes = old.current }) (bare fields) why s.0)))
current_ends (Err NoMemory) old new fields (inl same) =
    subst (λ h. EndsAs {A = ℕ} (Err NoMemory) h (lines.made fields old)) (sym same) (passes_first (lines.made fields old) old (begins_made fields old))
current_ends (Err NoMemory) old new fields (inr first) =
    ends_later (stepped (make_filled_step fields old) old) first.0 new new wearing (Err NoMemory)
    (ends_stepped (make_filled_step fields old) first.0 old new first.1)
    (passes_first (wearing first.0 new) new (begins_wearing first.0 new))

-- ---- answers that change nothing
pub answered : {S A B E : Type 0} (f : A → B) (r : Result A (Fail E)) (ans : Result A E) (old new : S) → Answers r ans → new ≡ old → EndsAs (result_map f r) new (stays old (result_map f ans))
answered f (Ok a) ans old new e same = (ap (result_map f) e, sym same)
answered f (Err (Is why)) ans old new e same = (ap (result_map f) e, sym same)
answered {S} {A} {B} f (Err NoMemory) ans old new e same =
    subst (λ s. EndsAs {A = B} (Err NoMemory) s (stays old (result_map f ans))) (sym same) (passes_first (stays old (result_map f ans)) old (begins_stays old (result_map f ans)))

-- ---- each in turn
pub next_item : {S X E : Type 0} (pass : X → S → Trace S (Unit {0}) E) (xs : List X) (old now new : S) (i : ℕ) (d : X) → i < length xs → Goes pass xs old (drop i xs) now → EndsAs (Ok tt) new (pass (get_or xs i d) now) → Goes pass xs old (drop (i + 1) xs) new
next_item pass xs old now new i d lt g e = goes_on pass xs (drop (i + 1) xs) (get_or xs i d) old now new (subst (λ x. Goes pass xs old x now) (taken_off i xs d lt) g) e

pub item_stops : {S X E : Type 0} (pass : X → S → Trace S (Unit {0}) E) (xs : List X) (old now new : S) (i : ℕ) (d : X) (e : Fail E) → ((x : X) (s : S) → Begins (pass x s) s) → i < length xs → Goes pass xs old (drop i xs) now
    → EndsAs {A = Unit {0}} (Err e) new (pass (get_or xs i d) now) → EndsAs {A = Unit {0}} (Err e) new (each_in_turn pass xs old)
item_stops pass xs old now new i d e begins lt g stops =
    goes_stopped pass xs (drop (i + 1) xs) (get_or xs i d) old now new e begins (subst (λ x. Goes pass xs old x now) (taken_off i xs d lt) g) stops

pub found_ends : {S A E : Type 0} (r : Result A (Fail E)) (ans : Result A E) (old new : S) → Answers r ans → new ≡ old → EndsAs r new (stays old ans)
found_ends (Ok a) ans old new e same = (e, sym same)
found_ends (Err (Is why)) ans old new e same = (e, sym same)
found_ends {S} {A} (Err NoMemory) ans old new e same = subst (λ s. EndsAs {A = A} (Err NoMemory) s (stays old ans)) (sym same) (passes_first (stays old ans) old (begins_stays old ans))
