-- What is there after a discretionary and its hyphen were made in one gap.
use Rattle.std.proofs.Common.{◌≡◌, ℕ, ◌+◌, ◌<◌, Bool, true, false, cond, Some, Ok, Err, refl, sym, ◌∙◌, ap, subst, arith}
use Rattle.std.specs.Prelude.{Option, Result, List, is_some, nat_eq, nat_le}
use Rattle.std.specs.Ordering.{nat_cmp}
use Rattle.std.specs.Cmp.{nat_cmp_total, unsigned_tied}
use Rattle.std.specs.FinMap as map
use Rattle.std.proofs.lemmas.Bool.Decides.{nat_tests}
use Rattle.ntx_num.specs.Answer.{result_map}
use Rattle.ntx_num.specs.Dimension.{max_nodes}
use Rattle.ntx_num.proofs.Answers.{same_Ok, mapped_Ok, not_taken}
use Rattle.ntx_nodes.specs.Fields.{with_field}
use Rattle.ntx_nodes.specs.Heap.{Heap, name_limit, is_live}
use Rattle.ntx_nodes.specs.Steps.{put, put_fields, next_name, making, set_step, same_attrs_step}
use Rattle.ntx_nodes.specs.Writing.{make_filled_step}
use Rattle.ntx_nodes.specs.declared.field.Field.{Field}
use Rattle.ntx_nodes.specs.declared.field.Field.TheVariants.{Next, Pre}
use Rattle.ntx_nodes.specs.declared.field.FieldValue.TheVariants.{Link}
use Rattle.ntx_nodes.specs.declared.fields.Fields.{Fields}
use Rattle.ntx_nodes.specs.declared.node.Node.{Node}
use Rattle.ntx_nodes.specs.declared.trouble.Trouble.{Trouble}
use Rattle.ntx_nodes.proofs.Writes.{get-put, insert_again, set_live}
use Rattle.ntx_num.specs.Trace.{Trace, stays, stepped, on_ending, trace_and_then}
use Rattle.ntx_lists.specs.MadeNodes.{made_like, made_and_linked}
use Rattle.ntx_lists.proofs.MadeNodes.{worn}
use Rattle.ntx_hyph.specs.Hyphenation.{disc_fields, hyphen_fields, hyphenated}
use Rattle.ntx_hyph.specs.Laws.{whole_disc_fields, worn_like, followed_by}
use Rattle.ntx_hyph.specs.declared.letter.Gap.{Gap}

-- ---- traces that end well
pub record WentOn {S A B E : Type 0} (earlier : List S) (last : S) (r : Result A E) (f : A → S → Trace S B E) (b : B) : Type 0 where
  pub value : A
  pub is : r ≡ Ok value
  pub gives : (f value last).ending ≡ Ok b
  pub ends : (on_ending earlier last r f).last ≡ (f value last).last

pub went_well : {S A B E : Type 0} (earlier : List S) (last : S) (r : Result A E) (f : A → S → Trace S B E) (b : B) → (on_ending earlier last r f).ending ≡ Ok b → WentOn earlier last r f b
went_well earlier last (Ok a) f b h = record { value = a; is = refl; gives = h; ends = refl }
went_well earlier last (Err e) f b h = cc

pub record Stepped {S A E : Type 0} (r : Result (A × S) E) (s : S) (a : A) : Type 0 where
  pub new : S
  pub is : r ≡ Ok (a, new)
  pub ends : (stepped r s).last ≡ new

pub stepped_well : {S A E : Type 0} (r : Result (A × S) E) (s : S) (a : A) → (stepped r s).ending ≡ Ok a → Stepped r s a
stepped_well {S} {A} {E} (Ok done) s a h = let p = same_Ok {A = A} {E = E} done.0 a h in record { new = done.1; is = λ i. Ok (p i, done.1); ends = refl }
stepped_well (Err e) s a h = cc

-- ---- one node made
abbrev pub grown : Heap → Node → Heap
grown heap node = record { next = heap.next + 1; nodes = map.insert heap.nodes heap.next node; current = heap.current }

made_is : (old new : Heap) (node : Node) (n : ℕ) → making node old ≡ Ok (n, new) → ◌≡◌ {A = ℕ × Heap} (old.next, grown old node) (n, new)
made_is old new node n e =
    let m = mapped_Ok {B = ℕ × Heap} (λ k. (k, record { next = k + 1; nodes = map.insert old.nodes k node; current = old.current })) (next_name old) (n, new) e in
    let full = not_taken (nat_le max_nodes (map.len old.nodes)) _ _ m.value m.is in
    let out = not_taken (nat_le name_limit old.next) _ _ m.value full.1 in
    ap {B = ℕ × Heap} (λ k. (k, record { next = k + 1; nodes = map.insert old.nodes k node; current = old.current })) (same_Ok {E = Trouble} old.next m.value out.1) ∙ m.gives

-- A trace ends well with the next name, in this heap.
pub record Leaves (t : Trace Heap ℕ Trouble) (n k : ℕ) (new : Heap) : Type 0 where
  pub name : k ≡ n
  pub last : t.last ≡ new

like_leaves : (heap : Heap) (fields : Fields) (from k : ℕ) (other : Node) → from < heap.next → map.get heap.nodes from ≡ Some other → (made_like fields from heap).ending ≡ Ok k
    → Leaves (made_like fields from heap) heap.next k (grown heap (worn_like fields other))
like_leaves heap fields from k other below there e =
    let bare : Node = record { fields = fields; attributes = map.empty } in
    let first = stepped (make_filled_step fields heap) heap in
    let f : ℕ → Heap → Trace Heap ℕ Trouble = λ n made. stepped (result_map (λ done. (n, done.1)) (same_attrs_step n from made)) made in
    let w = went_well first.earlier first.last first.ending f k e in
    let s = stepped_well (make_filled_step fields heap) heap w.value w.is in
    let m = made_is heap s.new bare w.value s.is in
    let wears = worn heap s.new w.value from fields other below there s.is in
    let t = stepped_well (result_map (λ done. (w.value, done.1)) (same_attrs_step w.value from s.new)) s.new k (ap (λ h. (f w.value h).ending) (sym s.ends) ∙ w.gives) in
    let done : ◌≡◌ {A = ℕ × Heap} (w.value, put s.new w.value (worn_like fields other)) (k, t.new) = same_Ok {E = Trouble} _ _ (sym (ap (result_map (λ done. (w.value, done.1))) wears) ∙ t.is) in
    record {
      name = sym (ap (λ p. p.0) done) ∙ sym (ap (λ p. p.0) m);
      last = w.ends ∙ ap (λ h. (f w.value h).last) s.ends ∙ t.ends ∙ sym (ap (λ p. p.1) done)
          ∙ sym (ap (λ (p : ℕ × Heap). put p.1 p.0 (worn_like fields other)) m)
          ∙ ap (λ (x : map.FinMap nat_cmp Node). record { next = heap.next + 1; nodes = x; current = heap.current }) (insert_again heap.nodes heap.next bare (worn_like fields other));
    }

linked_leaves : (heap : Heap) (fields : Fields) (from n k : ℕ) (f : Field) (other x : Node) (written : Fields) → from < heap.next → map.get heap.nodes from ≡ Some other
    → map.get (grown heap (worn_like fields other)).nodes n ≡ Some x → with_field x.fields f (Link (Some heap.next)) ≡ Ok written → (made_and_linked fields from n f heap).ending ≡ Ok k
    → Leaves (made_and_linked fields from n f heap) heap.next k (put_fields (grown heap (worn_like fields other)) n x written)
linked_leaves heap fields from n k f other x written below there at takes e =
    let first = made_like fields from heap in
    let g : ℕ → Heap → Trace Heap ℕ Trouble = λ new made. stepped (result_map (λ done. (new, done.1)) (set_step n f (Link (Some new)) made)) made in
    let mid : Heap = grown heap (worn_like fields other) in
    let w = went_well first.earlier first.last first.ending g k e in
    let l = like_leaves heap fields from w.value other below there w.is in
    let live : (m : ℕ) → Some heap.next ≡ Some m → is_live mid m ≡ true = λ m same. (let one : heap.next ≡ m = cc in subst (λ q. is_live mid q ≡ true) one (ap is_some (get-put heap.nodes heap.next (worn_like fields other)))) in
    let sets : set_step n f (Link (Some heap.next)) mid ≡ Ok (tt, put_fields mid n x written) = set_live mid n x f (Link (Some heap.next)) written at takes live in
    let same : g w.value first.last ≡ g heap.next mid = λ i. g (l.name i) (l.last i) in
    let t = stepped_well (result_map (λ done. (heap.next, done.1)) (set_step n f (Link (Some heap.next)) mid)) mid k (sym (ap (λ y. y.ending) same) ∙ w.gives) in
    let done : ◌≡◌ {A = ℕ × Heap} (heap.next, put_fields mid n x written) (k, t.new) = same_Ok {E = Trouble} _ _ (sym (ap (result_map (λ done. (heap.next, done.1))) sets) ∙ t.is) in
    record { name = sym (ap (λ p. p.0) done); last = w.ends ∙ ap (λ y. y.last) same ∙ t.ends ∙ sym (ap (λ p. p.1) done) }

-- ---- one gap
pub get_put : (m : map.FinMap nat_cmp Node) (n : ℕ) (x : Node) (q : ℕ) → map.get (map.insert m n x) q ≡ cond (nat_eq q n) (Some x) (map.get m q)
get_put m n x q = map.get-insert nat_cmp_total m n x q ∙ ap (λ b. cond b (Some x) (map.get m q)) (unsigned_tied q n)

pub below_differs : (q k : ℕ) → q < k → nat_eq q k ≡ false
below_differs q k h = grind (arith, nat_tests)

pub above_differs : (q k : ℕ) → k < q → nat_eq q k ≡ false
above_differs q k h = grind (arith, nat_tests)

get_other : (m : map.FinMap nat_cmp Node) (n : ℕ) (x : Node) (q : ℕ) → nat_eq q n ≡ false → map.get (map.insert m n x) q ≡ map.get m q
get_other m n x q h = get_put m n x q ∙ ap (λ b. cond b (Some x) (map.get m q)) h

-- the heap after it
pub record OneMade (old new : Heap) (char : ℕ) (gap : Gap) (glyph : Node) : Type 0 where
  pub records : (q : ℕ) → map.get new.nodes q ≡ cond (nat_eq q old.next) (Some (worn_like (whole_disc_fields gap (old.next + 1)) glyph))
      (cond (nat_eq q (old.next + 1)) (Some (worn_like (hyphen_fields char gap) glyph)) (cond (nat_eq q gap.before) (Some (followed_by old.next glyph)) (map.get old.nodes q)))
  pub next : new.next ≡ old.next + 2
  pub current : new.current ≡ old.current

once : (b c d : Bool) (x y z w o : Option Node) → cond b x (cond c y (cond d z (cond b w o))) ≡ cond b x (cond c y (cond d z o))
once true c d x y z w o = refl
once false c d x y z w o = refl

pub one_made : (heap : Heap) (char : ℕ) (gap : Gap) (glyph : Node) → gap.before < heap.next → map.get heap.nodes gap.before ≡ Some glyph → (hyphenated char gap heap).ending ≡ Ok tt → OneMade heap (hyphenated char gap heap).last char gap glyph
one_made heap char gap glyph below there e =
    let first = made_and_linked (disc_fields gap) gap.before gap.before Next heap in
    let f : ℕ → Heap → Trace Heap (Unit {0}) Trouble = λ disc inserted. trace_and_then (made_and_linked (hyphen_fields char gap) gap.before disc Pre inserted) (λ _ whole. stays whole (Ok tt)) in
    let bare : Node = worn_like (disc_fields gap) glyph in
    let disc : Node = worn_like (whole_disc_fields gap (heap.next + 1)) glyph in
    let hyphen : Node = worn_like (hyphen_fields char gap) glyph in
    let glyph1 : Node = followed_by heap.next glyph in
    let w = went_well first.earlier first.last first.ending f tt e in
    let l = linked_leaves heap (disc_fields gap) gap.before gap.before w.value Next glyph glyph glyph1.fields below there (get_other heap.nodes heap.next bare gap.before (below_differs gap.before heap.next below) ∙ there) refl w.is in
    let inserted : Heap = put (grown heap bare) gap.before glyph1 in
    let whole : Heap = put (grown inserted hyphen) heap.next disc in
    let same : f w.value first.last ≡ f heap.next inserted = λ i. f (l.name i) (l.last i) in
    let second = made_and_linked (hyphen_fields char gap) gap.before heap.next Pre inserted in
    let g : ℕ → Heap → Trace Heap (Unit {0}) Trouble = λ _ h. stays h (Ok tt) in
    let v = went_well second.earlier second.last second.ending g tt (sym (ap (λ y. y.ending) same) ∙ w.gives) in
    let above : gap.before < heap.next + 1 = omega arith in
    let at_disc : map.get (grown inserted hyphen).nodes heap.next ≡ Some bare =
    get_other inserted.nodes (heap.next + 1) hyphen heap.next (below_differs heap.next (heap.next + 1) (omega arith))
    ∙ get_other (grown heap bare).nodes gap.before glyph1 heap.next (above_differs heap.next gap.before below) ∙ get-put heap.nodes heap.next bare in
    let k = linked_leaves inserted (hyphen_fields char gap) gap.before heap.next v.value Pre glyph1 bare disc.fields above (get-put (grown heap bare).nodes gap.before glyph1) at_disc refl v.is in
    let last : (hyphenated char gap heap).last ≡ whole = w.ends ∙ ap (λ y. y.last) same ∙ v.ends ∙ k.last in
    record {
      records = λ q.
          ap (λ (h : Heap). map.get h.nodes q) last
          ∙ get_put (grown inserted hyphen).nodes heap.next disc q
          ∙ ap (cond (nat_eq q heap.next) (Some disc)) (get_put inserted.nodes (heap.next + 1) hyphen q
          ∙ ap (cond (nat_eq q (heap.next + 1)) (Some hyphen)) (get_put (grown heap bare).nodes gap.before glyph1 q
          ∙ ap (cond (nat_eq q gap.before) (Some glyph1)) (get_put heap.nodes heap.next bare q)))
          ∙ once (nat_eq q heap.next) (nat_eq q (heap.next + 1)) (nat_eq q gap.before) (Some disc) (Some hyphen) (Some glyph1) (Some bare) (map.get heap.nodes q);
      next = ap (λ (h : Heap). h.next) last ∙ omega arith;
      current = ap (λ (h : Heap). h.current) last;
    }
