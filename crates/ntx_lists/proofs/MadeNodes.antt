-- What is true of a node that is made with fields and the attributes of another, and of a link that is set to it.
use Rattle.std.proofs.Common.{◌≡◌, ℕ, ◌<◌, IsOk, true, Some, Ok, Err, inl, inr, refl, sym, ◌∙◌, ap, subst}
use Rattle.std.specs.Prelude.{Result, is_some}
use Rattle.std.specs.Ordering.{nat_cmp}
use Rattle.std.specs.FinMap as map
use Rattle.ntx_num.specs.Answer.{result_map}
use Rattle.ntx_num.specs.Trace.{stepped, EndsAs}
use Rattle.ntx_num.specs.declared.answer.Fail.{Fail}
use Rattle.ntx_num.specs.declared.answer.Fail.TheVariants.{NoMemory, Is}
use Rattle.ntx_num.proofs.Answers.{same_Ok}
use Rattle.ntx_num.proofs.Traces.{Begins, begins_step, begins_then, passes_first, ends_later, ends_there, ends_stepped, ends_refused}
use Rattle.ntx_nodes.specs.Heap.{Heap, IsLawful, is_live}
use Rattle.ntx_nodes.specs.Steps.{of_found, at, put, making, put_fields, put_attributes, set_step, same_attrs_step}
use Rattle.ntx_nodes.specs.Writing.{make_filled_step, make_like_step, StepsInTwo}
use Rattle.ntx_nodes.specs.declared.field.Field.{Field}
use Rattle.ntx_nodes.specs.declared.field.FieldValue.TheVariants.{Link}
use Rattle.ntx_nodes.specs.declared.fields.Fields.{Fields}
use Rattle.ntx_nodes.specs.declared.node.Node.{Node}
use Rattle.ntx_nodes.specs.declared.trouble.Trouble.{Trouble}
use Rattle.ntx_nodes.proofs.Fills.{made, refused_too}
use Rattle.ntx_nodes.proofs.Writes.{put_same, insert_again, set_live}
use Rattle.ntx_lists.specs.MadeNodes.{made_like, made_and_linked, HasFields, TakesLink, KeepLinks}
use Rattle.ntx_lists.proofs.CopyMaps.{get_above}
use Rattle.ntx_lists.proofs.MadeLinks.{live, taken, put_keeps}

-- ---- attributes of another node
abbrev bare : Fields → Node
bare fields = record { fields = fields; attributes = map.empty }

abbrev worn_by : Fields → Node → Node
worn_by fields other = record { fields = fields; attributes = other.attributes }

like_is : (old : Heap) (fields : Fields) (from : ℕ) (other : Node) → map.get old.nodes from ≡ Some other → make_like_step fields from old ≡ making (worn_by fields other) old
like_is old fields from other there = ap (of_found {A = ℕ × Heap} from (λ x. making (worn_by fields x) old)) there

pub worn : (old mid : Heap) (n from : ℕ) (fields : Fields) (other : Node) → from < old.next → map.get old.nodes from ≡ Some other → make_filled_step fields old ≡ Ok (n, mid)
    → same_attrs_step n from mid ≡ Ok (tt, put mid n (worn_by fields other))
worn old mid n from fields other below there e =
    let m = made old mid (bare fields) n e in
    ap (of_found {A = Unit {0} × Heap} n (λ node. at mid from (λ x. Ok (tt, put_attributes mid n node x.attributes)))) m.at
    ∙ ap (of_found {A = Unit {0} × Heap} from (λ x. Ok (tt, put_attributes mid n (bare fields) x.attributes))) (m.other from other below there)

put_again : (new : Heap) (n : ℕ) (a b : Node) → map.get new.nodes n ≡ Some b → put (put new n a) n b ≡ new
put_again new n a b at = ap (λ (m : map.FinMap nat_cmp Node). record new { nodes = m }) (insert_again new.nodes n a b) ∙ put_same new n b at

pub begins_made : (fields : Fields) (from : ℕ) (heap : Heap) → Begins (made_like fields from heap) heap
begins_made fields from heap =
    begins_then (stepped (make_filled_step fields heap) heap) heap (λ k h. stepped (result_map (λ done. (k, done.1)) (same_attrs_step k from h)) h) (λ k h. begins_step (result_map (λ done. (k, done.1)) (same_attrs_step k from h)) h) (begins_step (make_filled_step fields heap) heap)

pub like_ends : (r : Result ℕ (Fail Trouble)) (old new : Heap) (fields : Fields) (from : ℕ) → IsLawful old → is_live old from ≡ true → StepsInTwo r old new (make_filled_step fields old) (make_like_step fields from old)
    → EndsAs r new (made_like fields from old)
like_ends (Ok n) old new fields from lawful alive s =
    let other = live old from alive in
    let node : Node = worn_by fields other.node in
    let whole : making node old ≡ Ok (n, new) = sym (like_is old fields from other.node other.at) ∙ s in
    let m = made old new node n whole in
    let mid : Heap = put new n (bare fields) in
    let filled : make_filled_step fields old ≡ Ok (n, mid) = m.again (bare fields) in
    let wears : same_attrs_step n from mid ≡ Ok (tt, new) =
    worn old mid n from fields other.node (lawful.names from other.node other.at) other.at filled ∙ ap {B = Result (Unit {0} × Heap) Trouble} (λ h. Ok (tt, h)) (put_again new n (bare fields) node m.at) in
    ends_later (stepped (make_filled_step fields old) old) n mid new (λ k h. stepped (result_map (λ done. (k, done.1)) (same_attrs_step k from h)) h) (Ok n)
    (ends_stepped (make_filled_step fields old) n old mid filled)
    (ends_stepped (result_map (λ done. (n, done.1)) (same_attrs_step n from mid)) n mid new (ap (result_map (λ done. (n, done.1))) wears))
like_ends (Err (Is why)) old new fields from lawful alive s =
    let other = live old from alive in
    let refused : make_filled_step fields old ≡ Err why = refused_too old (worn_by fields other.node) (bare fields) why (sym (like_is old fields from other.node other.at) ∙ s.0) in
    subst (λ h. EndsAs {A = ℕ} (Err (Is why)) h (made_like fields from old)) (sym s.1)
    (ends_there (stepped (make_filled_step fields old) old) old (λ k h. stepped (result_map (λ done. (k, done.1)) (same_attrs_step k from h)) h) (Is why) (λ k h. begins_step (result_map (λ done. (k, done.1)) (same_attrs_step k from h)) h)
    (ends_refused (make_filled_step fields old) why old refused))
like_ends (Err NoMemory) old new fields from lawful alive (inl same) =
    subst (λ h. EndsAs {A = ℕ} (Err NoMemory) h (made_like fields from old)) (sym same) (passes_first (made_like fields from old) old (begins_made fields from old))
like_ends (Err NoMemory) old new fields from lawful alive (inr first) =
    ends_later (stepped (make_filled_step fields old) old) first.0 new new (λ k h. stepped (result_map (λ done. (k, done.1)) (same_attrs_step k from h)) h) (Err NoMemory)
    (ends_stepped (make_filled_step fields old) first.0 old new first.1)
    (passes_first (stepped (result_map (λ done. (first.0, done.1)) (same_attrs_step first.0 from new)) new) new (begins_step (result_map (λ done. (first.0, done.1)) (same_attrs_step first.0 from new)) new))

-- ---- a link to a made node
pub begins_linked : (fields : Fields) (from n : ℕ) (f : Field) (heap : Heap) → Begins (made_and_linked fields from n f heap) heap
begins_linked fields from n f heap =
    begins_then (made_like fields from heap) heap (λ k h. stepped (result_map (λ done. (k, done.1)) (set_step n f (Link (Some k)) h)) h) (λ k h. begins_step (result_map (λ done. (k, done.1)) (set_step n f (Link (Some k)) h)) h) (begins_made fields from heap)

pub link_refused : (old new : Heap) (fields : Fields) (from n : ℕ) (f : Field) (e : Fail Trouble) → IsLawful old → is_live old from ≡ true → StepsInTwo (Err e) old new (make_filled_step fields old) (make_like_step fields from old)
    → EndsAs {A = ℕ} (Err e) new (made_and_linked fields from n f old)
link_refused old new fields from n f e lawful alive s =
    ends_there (made_like fields from old) new (λ k h. stepped (result_map (λ done. (k, done.1)) (set_step n f (Link (Some k)) h)) h) e (λ k h. begins_step (result_map (λ done. (k, done.1)) (set_step n f (Link (Some k)) h)) h)
    (like_ends (Err e) old new fields from lawful alive s)

pub link_made : (old mid new : Heap) (fields : Fields) (from n k : ℕ) (f : Field) → IsLawful old → is_live old from ≡ true → make_like_step fields from old ≡ Ok (k, mid) → set_step n f (Link (Some k)) mid ≡ Ok (tt, new)
    → EndsAs (Ok k) new (made_and_linked fields from n f old)
link_made old mid new fields from n k f lawful alive s e =
    ends_later (made_like fields from old) k mid new (λ k h. stepped (result_map (λ done. (k, done.1)) (set_step n f (Link (Some k)) h)) h) (Ok k) (like_ends (Ok k) old mid fields from lawful alive s)
    (ends_stepped (result_map (λ done. (k, done.1)) (set_step n f (Link (Some k)) mid)) k mid new (ap (result_map (λ done. (k, done.1))) e))

-- the heap with a made node, to which a link can be set, and was
pub record CanLink (old mid : Heap) (n k : ℕ) (f : Field) (fields : Fields) : Type 0 where
  pub ok : IsOk (set_step n f (Link (Some k)) mid)
  pub keep : (new : Heap) → set_step n f (Link (Some k)) mid ≡ Ok (tt, new) → KeepLinks old new
  pub made : (new : Heap) → set_step n f (Link (Some k)) mid ≡ Ok (tt, new) → HasFields new k fields

pub can_link : (old mid : Heap) (fields : Fields) (from n k : ℕ) (f : Field) → IsLawful old → is_live old from ≡ true → TakesLink old n f → make_like_step fields from old ≡ Ok (k, mid) → CanLink old mid n k f fields
can_link old mid fields from n k f lawful alive has s =
    let other = live old from alive in
    let node : Node = worn_by fields other.node in
    let m = made old mid node k (sym (like_is old fields from other.node other.at) ∙ s) in
    let takes = taken has.node.fields f k has.linked in
    let there : map.get mid.nodes n ≡ Some has.node = m.other n has.node (lawful.names n has.node has.at) has.at in
    let written : set_step n f (Link (Some k)) mid ≡ Ok (tt, put_fields mid n has.node takes.0) =
    set_live mid n has.node f (Link (Some k)) takes.0 there takes.1 (λ q e. let same : k ≡ q = cc in subst (λ x. is_live mid x ≡ true) same (ap is_some m.at)) in
    let is : (new : Heap) → set_step n f (Link (Some k)) mid ≡ Ok (tt, new) → put_fields mid n has.node takes.0 ≡ new = λ new e. ap (λ p. p.1) (same_Ok {A = Unit {0} × Heap} {E = Trouble} (tt, put_fields mid n has.node takes.0) (tt, new) (sym written ∙ e)) in
    let below : n < k = subst (λ x. n < x) (sym m.name) (lawful.names n has.node has.at) in
    let later : KeepLinks old mid = λ q g t. record { node = t.node; at = m.other q t.node (lawful.names q t.node t.at) t.at; linked = t.linked } in
    record {
      ok = subst IsOk (sym written) refl;
      keep = λ new e. subst (KeepLinks old) (is new e) (λ q g t. put_keeps mid n has.node takes.0 f (Link (Some k)) there takes.1 q g (later q g t));
      made = λ new e. subst (λ h. HasFields h k fields) (is new e) (record { node = node; at = get_above mid.nodes n (record has.node { fields = takes.0 }) k below ∙ m.at; is = refl });
    }
