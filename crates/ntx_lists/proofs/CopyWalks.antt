-- Walks through copies go as those through what was copied.
use Rattle.std.proofs.Common.{◌≡◌, ℕ, zero, suc, ◌+◌, ◌≤◌, length, List, [], ◌∷◌, ◌++◌, Bool, true, false, cond, Some, None, Ok, refl, sym, ◌∙◌, ap, subst, append_assoc, arith}
use Rattle.std.specs.Prelude.{Option, Result, nat_eq, ◌||◌}
use Rattle.std.specs.FinMap as map
use Rattle.std.proofs.lemmas.Bool.{or_right, eqb-true}
use Rattle.ntx_num.specs.Answer.{result_map, result_and_then}
use Rattle.ntx_nodes.specs.Fields.{kind_of}
use Rattle.ntx_nodes.specs.Heap.{Heap}
use Rattle.ntx_nodes.specs.Walk.{is_reached, admits, inner_lists, entered, node_reached, in_turn, enter, walk}
use Rattle.ntx_nodes.specs.WalkLaws.{AreFresh, LeadsTo, LeadsOn}
use Rattle.ntx_nodes.specs.declared.fields.Contents.{Contents}
use Rattle.ntx_nodes.specs.declared.fields.Contents.TheVariants as contents
use Rattle.ntx_nodes.specs.declared.kind.ListKind.{ListKind}
use Rattle.ntx_nodes.specs.declared.kind.Way.{Way}
use Rattle.ntx_nodes.specs.declared.kind.Way.TheVariants.{Checked, Plain, Flat}
use Rattle.ntx_nodes.specs.declared.node.Node.{Node}
use Rattle.ntx_nodes.specs.declared.trouble.Trouble.{Trouble}
use Rattle.ntx_num.proofs.Answers.{same_Ok, mapped_Ok, went_Ok}
use Rattle.ntx_nodes.proofs.Walks.{nat_eq_same, is_reached-append, node_reached_Ok}
use Rattle.ntx_nodes.proofs.Fuel.{Walker, passes}
use Rattle.ntx_nodes.proofs.SoundWalks.{leads_none}
use Rattle.ntx_lists.specs.Copies.{copy_name, copied_link, copied_lists, with_lists, list_copy}
use Rattle.ntx_lists.specs.CopyLaws.{names_from, with_name, copies_of}
use Rattle.ntx_nodes.specs.declared.inner.InnerLists.{InnerLists}
use Rattle.ntx_lists.proofs.CopyNames.{name_at}

same_Some : (a b : ℕ) → Some a ≡ Some b → a ≡ b
same_Some a b e = cc

-- ---- names of copies
name_from : (first : ℕ) (names : List ℕ) (n c : ℕ) → copy_name first names n ≡ Some c → first ≤ c
name_from first [] n c e = cc
name_from first (m ∷ ms) n c e =
    elim (nat_eq n m) as (λ b. cond b (Some first) (copy_name (first + 1) ms n) ≡ Some c → first ≤ c) [
      | true ↦ λ x. (let same : first ≡ c = same_Some first c x in omega arith)
      | false ↦ λ x. (let more : first + 1 ≤ c = name_from (first + 1) ms n c x in omega arith)
    ] e

-- no two names have one copy
pub names_apart : (first : ℕ) (names : List ℕ) (n m c : ℕ) → copy_name first names n ≡ Some c → copy_name first names m ≡ Some c → n ≡ m
names_apart first [] n m c e f = cc
names_apart first (x ∷ xs) n m c e f =
    elim (nat_eq n x) as (λ b. nat_eq n x ≡ b → cond b (Some first) (copy_name (first + 1) xs n) ≡ Some c → n ≡ m) [
      | true ↦ λ nx p. elim (nat_eq m x) as (λ b. nat_eq m x ≡ b → cond b (Some first) (copy_name (first + 1) xs m) ≡ Some c → n ≡ m) [
        | true ↦ λ mx q. eqb-true n x nx ∙ sym (eqb-true m x mx)
        | false ↦ λ mx q.
            let same : first ≡ c = same_Some first c p in
            let more : first + 1 ≤ c = name_from (first + 1) xs m c q in
            absurd (omega arith)
      ] refl f
      | false ↦ λ nx p. elim (nat_eq m x) as (λ b. nat_eq m x ≡ b → cond b (Some first) (copy_name (first + 1) xs m) ≡ Some c → n ≡ m) [
        | true ↦ λ mx q.
            let same : first ≡ c = same_Some first c q in
            let more : first + 1 ≤ c = name_from (first + 1) xs n c p in
            absurd (omega arith)
        | false ↦ λ mx q. names_apart (first + 1) xs n m c p q
      ] refl f
    ] refl e

-- the first place of a name
pub record Place (names : List ℕ) (n : ℕ) : Type 0 where
  pub before : List ℕ
  pub rest : List ℕ
  pub is : names ≡ before ++ n ∷ rest
  pub new : is_reached before n ≡ false

or_new : (a b : Bool) → a ≡ false → b ≡ false → (a || b) ≡ false
or_new true b e f = cc
or_new false b e f = f

pub place : (names : List ℕ) (n : ℕ) → is_reached names n ≡ true → Place names n
place [] n e = cc
place (m ∷ ms) n e =
    elim (nat_eq n m) as (λ b. nat_eq n m ≡ b → (b || is_reached ms n) ≡ true → Place (m ∷ ms) n) [
      | true ↦ λ x _. record { before = []; rest = ms; is = ap (λ y. y ∷ ms) (sym (eqb-true n m x)); new = refl }
      | false ↦ λ x f. (
          let p = place ms n f in
          record { before = m ∷ p.before; rest = p.rest; is = ap (λ y. m ∷ y) p.is; new = or_new (nat_eq n m) (is_reached p.before n) x p.new })
    ] refl e

pub name_there : (first : ℕ) (names : List ℕ) (n : ℕ) → is_reached names n ≡ true → (p : Place names n) × (copy_name first names n ≡ Some (first + length p.before))
name_there first names n e = let p = place names n e in (p, ap (λ x. copy_name first x n) p.is ∙ name_at first p.before n p.rest p.new)

-- ---- copies of several names
pub AllIn : List ℕ → List ℕ → Type 0
AllIn names some = (q : ℕ) → is_reached some q ≡ true → is_reached names q ≡ true

with_more : (o : Option ℕ) (a b : List ℕ) → with_name o (a ++ b) ≡ with_name o a ++ b
with_more None a b = refl
with_more (Some n) a b = refl

copies_more : (first : ℕ) (names some : List ℕ) (n c : ℕ) → copy_name first names n ≡ Some c → copies_of first names (some ++ n ∷ []) ≡ copies_of first names some ++ c ∷ []
copies_more first names [] n c e = ap (λ o. with_name o []) e
copies_more first names (m ∷ ms) n c e = ap (with_name (copy_name first names m)) (copies_more first names ms n c e) ∙ with_more (copy_name first names m) (copies_of first names ms) (c ∷ [])

not_among : (o : Option ℕ) (ms : List ℕ) (c : ℕ) → (o ≡ Some c → ⊥) → is_reached ms c ≡ false → is_reached (with_name o ms) c ≡ false
not_among None ms c h e = e
not_among (Some m) ms c h e =
    elim (nat_eq c m) as (λ b. nat_eq c m ≡ b → (b || is_reached ms c) ≡ false) [
      | true ↦ λ x. absurd (h (ap Some (sym (eqb-true c m x))))
      | false ↦ λ _. e
    ] refl

or_false : (a b : Bool) → (a || b) ≡ false → (a ≡ false) × (b ≡ false)
or_false true b e = cc
or_false false b e = (refl, e)

differs : (n m : ℕ) → nat_eq n m ≡ false → n ≡ m → ⊥
differs n m e same = let f : nat_eq n m ≡ true = subst (λ x. nat_eq n x ≡ true) same (nat_eq_same n) in cc

-- what was not reached has a copy that was not
copy_new : (first : ℕ) (names some : List ℕ) (n c : ℕ) → copy_name first names n ≡ Some c → is_reached some n ≡ false → is_reached (copies_of first names some) c ≡ false
copy_new first names [] n c e new = refl
copy_new first names (m ∷ ms) n c e new =
    let p = or_false (nat_eq n m) (is_reached ms n) new in
    not_among (copy_name first names m) (copies_of first names ms) c (λ x. differs n m p.0 (names_apart first names n m c e x)) (copy_new first names ms n c e p.1)

pub copies_length : (first : ℕ) (names some : List ℕ) → ((q : ℕ) → is_reached some q ≡ true → is_reached names q ≡ true) → length (copies_of first names some) ≡ length some
copies_length first names [] h = refl
copies_length first names (m ∷ ms) h =
    let t = name_there first names m (h m (ap (λ b. b || is_reached ms m) (nat_eq_same m))) in
    ap (λ o. length (with_name o (copies_of first names ms))) t.1 ∙ ap suc (copies_length first names ms (λ q e. h q (or_right (nat_eq q m) (is_reached ms q) e)))

length_one : (ns : List ℕ) (n : ℕ) → length (ns ++ n ∷ []) ≡ length ns + 1
length_one [] n = refl
length_one (m ∷ ms) n = let e : length (ms ++ n ∷ []) ≡ length ms + 1 = length_one ms n in omega arith

pub copies_all : (heap : Heap) (first : ℕ) (b ns : List ℕ) → AreFresh heap b ns → copies_of first (b ++ ns) ns ≡ names_from (first + length b) (length ns)
copies_all heap first b [] f = refl
copies_all heap first b (n ∷ ns) f =
    let again : b ++ n ∷ ns ≡ (b ++ n ∷ []) ++ ns = sym (append_assoc b (n ∷ []) ns) in
    let longer : length (b ++ n ∷ []) ≡ length b + 1 = length_one b n in
    let at : first + length (b ++ n ∷ []) ≡ (first + length b) + 1 = omega arith in
    ap (λ o. with_name o (copies_of first (b ++ n ∷ ns) ns)) (name_at first b n ns f.1)
    ∙ ap (λ x. (first + length b) ∷ x) (ap (λ x. copies_of first x ns) again ∙ copies_all heap first (b ++ n ∷ []) ns f.2 ∙ ap (λ x. names_from x (length ns)) at)

-- ---- walks alike
-- Each of the names, but those first reached, has a copy in the new heap that is linked as it is itself.
pub record Alike (heap new : Heap) (first : ℕ) (names start : List ℕ) : Type 0 where
  pub copies : (n : ℕ) (node : Node) → is_reached names n ≡ true → is_reached start n ≡ false → map.get heap.nodes n ≡ Some node
      → (c : ℕ) × (copy_name first names n ≡ Some c) × (map.get new.nodes c ≡ Some (list_copy first names n node)) × LeadsOn Plain names node

-- what has been reached
pub record Within (names start r : List ℕ) : Type 0 where
  pub inside : (q : ℕ) → is_reached r q ≡ true → is_reached names q ≡ true
  pub begun : (q : ℕ) → is_reached start q ≡ true → is_reached r q ≡ true

pub lists_alike : (first : ℕ) (names : List ℕ) (c : Contents) → inner_lists (with_lists c (copied_lists first names (inner_lists c))) ≡ copied_lists first names (inner_lists c)
lists_alike first names (contents.Hlist b) = refl
lists_alike first names (contents.Vlist b) = refl
lists_alike first names (contents.Disc d) = refl
lists_alike first names (contents.Rule x) = refl
lists_alike first names (contents.Glue x) = refl
lists_alike first names (contents.Kern x) = refl
lists_alike first names (contents.Penalty x) = refl
lists_alike first names (contents.Glyph x) = refl

entered_alike : (way : Way) (first : ℕ) (names : List ℕ) (c : Contents) → entered way (with_lists c (copied_lists first names (inner_lists c))) ≡ copied_lists first names (entered way c)
entered_alike Flat first names c = refl
entered_alike Plain first names c = lists_alike first names c
entered_alike Checked first names c = lists_alike first names c

abbrev pub AllLead : List ℕ → InnerLists → Type 0
AllLead names l = LeadsTo names l.first × LeadsTo names l.second × LeadsTo names l.third

entered_lead : (way : Way) (names : List ℕ) (node : Node) → LeadsOn Plain names node → AllLead names (entered way node.fields.contents)
entered_lead Flat names node l = (leads_none names, leads_none names, leads_none names)
entered_lead Plain names node l = (l.first, l.second, l.third)
entered_lead Checked names node l = (l.first, l.second, l.third)

kind_alike : (c : Contents) (lists : InnerLists) → kind_of (with_lists c lists) ≡ kind_of c
kind_alike (contents.Hlist b) lists = refl
kind_alike (contents.Vlist b) lists = refl
kind_alike (contents.Disc d) lists = refl
kind_alike (contents.Rule x) lists = refl
kind_alike (contents.Glue x) lists = refl
kind_alike (contents.Kern x) lists = refl
kind_alike (contents.Penalty x) lists = refl
kind_alike (contents.Glyph x) lists = refl

-- the walk of the copies ends with the copies of what is reached
pub record Sim (first : ℕ) (names start reached : List ℕ) (result : Result (List ℕ) Trouble) : Type 0 where
  pub is : result ≡ Ok (copies_of first names reached)
  pub within : Within names start reached

abbrev Sims : ℕ → List ℕ → List ℕ → Walker → Walker → Type 0
Sims first names start w v = (r : List ℕ) (to : Option ℕ) (d : ℕ) (k : ListKind) (reached : List ℕ) → Within names start r → LeadsTo names to → w r to d k ≡ Ok reached → Sim first names start reached (v (copies_of first names r) (copied_link first names to) d k)

sim_same : (first : ℕ) (names start r reached : List ℕ) → Within names start r → ◌≡◌ {A = Result (List ℕ) Trouble} (Ok r) (Ok reached) → Sim first names start reached (Ok (copies_of first names r))
sim_same first names start r reached within e =
    let same : r ≡ reached = same_Ok r reached e in
    record { is = ap (λ x. Ok (copies_of first names x)) same; within = subst (Within names start) same within }

turn_alike : (first : ℕ) (names start : List ℕ) (w v : Walker) → Sims first names start w v → (d : ℕ) (l : InnerLists) (r reached : List ℕ) → Within names start r → AllLead names l → in_turn (λ b to i. w b to d i) r l ≡ Ok reached
    → Sim first names start reached (in_turn (λ b to i. v b to d i) (copies_of first names r) (copied_lists first names l))
turn_alike first names start w v sims d l r reached within leads e =
    let second = copied_link first names l.second in
    let third = copied_link first names l.third in
    let one = went_Ok (λ a. result_and_then (w a l.second d l.kind) (λ b. w b l.third d l.kind)) (w r l.first d l.kind) reached e in
    let two = went_Ok (λ b. w b l.third d l.kind) (w one.value l.second d l.kind) reached one.gives in
    let s1 = sims r l.first d l.kind one.value within leads.0 one.is in
    let s2 = sims one.value l.second d l.kind two.value s1.within leads.1 two.is in
    let s3 = sims two.value l.third d l.kind reached s2.within leads.2 two.gives in
    record { is = ap (λ x. result_and_then x (λ a. result_and_then (v a second d l.kind) (λ b. v b third d l.kind))) s1.is ∙ ap (λ x. result_and_then x (λ b. v b third d l.kind)) s2.is ∙ s3.is; within = s3.within }

false_where : (b c : Bool) → (b ≡ true → c ≡ true) → c ≡ false → b ≡ false
false_where true c h e = let f : c ≡ true = h refl in cc
false_where false c h e = refl

within_more : (names start r : List ℕ) (n : ℕ) → Within names start r → is_reached names n ≡ true → Within names start (r ++ n ∷ [])
within_more names start r n within here = record {
  inside = λ q e. (
      elim (is_reached r q) as (λ b. is_reached r q ≡ b → (b || (nat_eq q n || false)) ≡ true → is_reached names q ≡ true) [
        | true ↦ λ x _. within.inside q x
        | false ↦ λ _ f. elim (nat_eq q n) as (λ b. nat_eq q n ≡ b → (b || false) ≡ true → is_reached names q ≡ true) [
          | true ↦ λ y _. subst (λ z. is_reached names z ≡ true) (sym (eqb-true q n y)) here
          | false ↦ λ _ g. cc
        ] refl f
      ] refl (sym (is_reached-append r (n ∷ []) q) ∙ e)
      );
  begun = λ q e. is_reached-append r (n ∷ []) q ∙ ap (λ b. b || is_reached (n ∷ []) q) (within.begun q e);
}

-- what entering a node does
pub record Enters (heap new : Heap) (way : Way) (first : ℕ) (names start r : List ℕ) (v : Walker) (n d : ℕ) (k : ListKind) (entry : Node × List ℕ) : Type 0 where
  pub c : ℕ
  pub name : copy_name first names n ≡ Some c
  pub enters : enter new way v (copies_of first names r) c d k ≡ Ok (list_copy first names n entry.0, copies_of first names entry.1)
  pub within : Within names start entry.1
  pub leads : LeadsTo names entry.0.fields.next

enter_alike : (heap new : Heap) (first : ℕ) (names start : List ℕ) → Alike heap new first names start → (way : Way) (w v : Walker) → Sims first names start w v → (r : List ℕ) (n d : ℕ) (k : ListKind) (entry : Node × List ℕ) → Within names start r → is_reached names n ≡ true
    → enter heap way w r n d k ≡ Ok entry → Enters heap new way first names start r v n d k entry
enter_alike heap new first names start like way w v sims r n d k entry within here e =
    let f : List ℕ → Option ℕ → ListKind → Result (List ℕ) Trouble = λ b to i. w b to (d + 1) i in
    let g : List ℕ → Option ℕ → ListKind → Result (List ℕ) Trouble = λ b to i. v b to (d + 1) i in
    let went = went_Ok {B = Node × List ℕ} (λ node. result_map (λ x. (node, x)) (in_turn f (r ++ n ∷ []) (entered way node.fields.contents))) (node_reached heap way r n d k) entry e in
    let node : Node = went.value in
    let m = mapped_Ok {B = Node × List ℕ} (λ x. (node, x)) (in_turn f (r ++ n ∷ []) (entered way node.fields.contents)) entry went.gives in
    let p = passes heap way r n d k node went.is in
    let a = like.copies n node here (false_where (is_reached start n) (is_reached r n) (within.begun n) p.new) p.live in
    let copy : Node = list_copy first names n node in
    let kind : kind_of copy.fields.contents ≡ kind_of node.fields.contents = kind_alike node.fields.contents (copied_lists first names (inner_lists node.fields.contents)) in
    let reached : node_reached new way (copies_of first names r) a.0 d k ≡ Ok copy = node_reached_Ok new way (copies_of first names r) a.0 d k copy a.2 (copy_new first names r n a.0 a.1 p.new) p.shallow (ap (admits way k) kind ∙ p.kind) in
    let t = turn_alike first names start w v sims (d + 1) (entered way node.fields.contents) (r ++ n ∷ []) m.value (within_more names start r n within here) (entered_lead way names node a.3) m.is in
    let lists : in_turn g (copies_of first names r ++ a.0 ∷ []) (entered way copy.fields.contents) ≡ Ok (copies_of first names m.value) =
    (λ i. in_turn g (sym (copies_more first names r n a.0 a.1) i) (entered_alike way first names node.fields.contents i)) ∙ t.is in
    let both : enter new way v (copies_of first names r) a.0 d k ≡ Ok (copy, copies_of first names m.value) =
    ap (λ x. result_and_then x (λ (node : Node). result_map {B = Node × List ℕ} (λ x. (node, x)) (in_turn g (copies_of first names r ++ a.0 ∷ []) (entered way node.fields.contents)))) reached
    ∙ ap (result_map {B = Node × List ℕ} (λ x. (copy, x))) lists in
    subst (Enters heap new way first names start r v n d k) m.gives (record { c = a.0; name = a.1; enters = both; within = t.within; leads = a.3.next })

pub walk_alike : (heap new : Heap) (first : ℕ) (names start : List ℕ) → Alike heap new first names start → (way : Way) (fuel : ℕ) → Sims first names start (λ r to d k. walk heap way fuel r to d k) (λ r to d k. walk new way fuel r to d k)
walk_alike heap new first names start like way zero r to d k reached within leads e = sim_same first names start r reached within e
walk_alike heap new first names start like way (suc fuel) r None d k reached within leads e = sim_same first names start r reached within e
walk_alike heap new first names start like way (suc fuel) r (Some n) d k reached within leads e =
    let w : Walker = λ r to d k. walk heap way fuel r to d k in
    let v : Walker = λ r to d k. walk new way fuel r to d k in
    let went = went_Ok {A = Node × List ℕ} (λ entry. walk heap way fuel entry.1 entry.0.fields.next d k) (enter heap way w r n d k) reached e in
    let x = enter_alike heap new first names start like way w v (walk_alike heap new first names start like way fuel) r n d k went.value within (leads n refl) went.is in
    let rest = walk_alike heap new first names start like way fuel went.value.1 went.value.0.fields.next d k reached x.within x.leads went.gives in
    record {
      is = ap (λ o. walk new way (suc fuel) (copies_of first names r) o d k) x.name ∙ ap (λ y. result_and_then y (λ (entry : Node × List ℕ). walk new way fuel entry.1 entry.0.fields.next d k)) x.enters ∙ rest.is;
      within = rest.within;
    }
