-- Links that are set.
use Rattle.std.proofs.Common.{◌≡◌, ℕ, Bool, true, false, cond, Some, None, Ok, Err, refl, sym, ◌∙◌, ap}
use Rattle.std.specs.Prelude.{Option, Result, is_some, nat_eq}
use Rattle.std.specs.Cmp.{nat_cmp_total}
use Rattle.std.specs.FinMap as map
use Rattle.std.proofs.lemmas.Bool.{eqb-true}
use Rattle.ntx_num.specs.Answer.{result_map, result_and_then, StepsAtOnce}
use Rattle.ntx_nodes.specs.Fields.{kind_of, with_field}
use Rattle.ntx_nodes.specs.Heap.{Heap}
use Rattle.ntx_nodes.specs.Steps.{of_found, put, put_fields, linkable, changed, set_step, kind_answer}
use Rattle.ntx_nodes.specs.declared.contents.DiscFields.{DiscFields}
use Rattle.ntx_nodes.specs.declared.field.Field.{Field}
use Rattle.ntx_nodes.specs.declared.field.Field.TheVariants as field
use Rattle.ntx_nodes.specs.declared.field.FieldValue.{FieldValue}
use Rattle.ntx_nodes.specs.declared.field.FieldValue.TheVariants.{Link}
use Rattle.ntx_nodes.specs.declared.fields.Contents.{Contents}
use Rattle.ntx_nodes.specs.declared.fields.Contents.TheVariants as contents
use Rattle.ntx_nodes.specs.declared.fields.Fields.{Fields}
use Rattle.ntx_nodes.specs.declared.kind.Kind.{Kind}
use Rattle.ntx_nodes.specs.declared.node.Node.{Node}
use Rattle.ntx_nodes.specs.declared.trouble.Trouble.{Trouble}
use Rattle.ntx_num.proofs.Answers.{same_Ok, mapped_Ok}
use Rattle.ntx_nodes.proofs.Oks.{at_Ok}
use Rattle.ntx_lists.specs.Survey.{IsLiveLink}
use Rattle.ntx_lists.specs.Copies.{with_lists, relinked}
use Rattle.ntx_lists.specs.Copying.{is_box, is_disc, SetsLink, SetsParts, SetsListsOf, SetsLists, SetsLinks, AreLiveLists}
use Rattle.ntx_nodes.specs.declared.inner.InnerLists.{InnerLists}
use Rattle.ntx_lists.proofs.CopyMaps.{Map, get_put, get_same}

-- ---- one link
linked_Ok : (heap : Heap) (to : Option ℕ) → IsLiveLink heap to → linkable heap (Link to) ≡ Ok tt
linked_Ok heap None live = refl
linked_Ok heap (Some m) live =
    elim (map.get heap.nodes m) as (λ o. is_some o ≡ true → of_found {A = Unit {0}} m (λ _. Ok tt) o ≡ Ok tt) [
      | None ↦ λ e. cc
      | Some node ↦ λ e. refl
    ] (live m refl)

set_gives : (old : Heap) (n : ℕ) (f : Field) (to : Option ℕ) (node : Node) (fields : Fields) → map.get old.nodes n ≡ Some node → with_field node.fields f (Link to) ≡ Ok fields → IsLiveLink old to → set_step n f (Link to) old ≡ Ok (tt, put_fields old n node fields)
set_gives old n f to node fields live takes link =
    ap (of_found {A = Unit {0} × Heap} n (λ node. result_map (λ fields. (tt, put_fields old n node fields)) (changed old node.fields f (Link to)))) live
    ∙ ap (λ x. result_map {B = Unit {0} × Heap} (λ fields. (tt, put_fields old n node fields)) (result_and_then x (λ written. result_map (λ _. written) (linkable old (Link to))))) takes
    ∙ ap (λ x. result_map {B = Unit {0} × Heap} (λ fields. (tt, put_fields old n node fields)) (result_map (λ _. fields) x)) (linked_Ok old to link)

link_left : (old new : Heap) (left : Heap) (r : Result (Unit {0}) Trouble) (step : Result (Unit {0} × Heap) Trouble) → StepsAtOnce r old new step → step ≡ Ok (tt, left) → new ≡ left
link_left old new left (Ok u) step s e = ap (λ p. p.1) (same_Ok (u, new) (tt, left) (sym s ∙ e))
link_left old new left (Err why) step s e = let x = s.0 in cc

pub link_set : (old new : Heap) (n : ℕ) (f : Field) (to : Option ℕ) (r : Result (Unit {0}) Trouble) → StepsAtOnce r old new (set_step n f (Link to) old) → SetsLink old new n f to
link_set old new n f to r s node fields live takes link = link_left old new (put_fields old n node fields) r (set_step n f (Link to) old) s (set_gives old n f to node fields live takes link)

pub names_stay : (old new : Heap) (n : ℕ) (f : Field) (v : FieldValue) (r : Result (Unit {0}) Trouble) → StepsAtOnce r old new (set_step n f v old) → new.next ≡ old.next
names_stay old new n f v (Ok u) s =
    let a = at_Ok {A = Unit {0} × Heap} old n (λ node. result_map (λ fields. (tt, put_fields old n node fields)) (changed old node.fields f v)) (u, new) s in
    let m = mapped_Ok {B = Unit {0} × Heap} (λ fields. (tt, put_fields old n a.node fields)) (changed old a.node.fields f v) (u, new) a.gives in
    sym (ap (λ p. p.1.next) m.gives)
names_stay old new n f v (Err why) s = ap (λ (h : Heap). h.next) s.1

-- ---- one entry written again
cond_twice : (b : Bool) (x y o : Option Node) → cond b x (cond b y o) ≡ cond b x o
cond_twice true x y o = refl
cond_twice false x y o = refl

put_twice : (nodes : Map) (n : ℕ) (a b : Node) → map.insert (map.insert nodes n a) n b ≡ map.insert nodes n b
put_twice nodes n a b =
    map.same_map nat_cmp_total map.nat_cmp-IsAntisymmetric _ _ (λ q.
    get_put (map.insert nodes n a) n b q ∙ ap (cond (nat_eq q n) (Some b)) (get_put nodes n a q) ∙ cond_twice (nat_eq q n) (Some b) (Some a) (map.get nodes q) ∙ sym (get_put nodes n b q))

kept_at : (nodes : Map) (n q : ℕ) (node : Node) (b : Bool) → map.get nodes n ≡ Some node → nat_eq q n ≡ b → cond b (Some node) (map.get nodes q) ≡ map.get nodes q
kept_at nodes n q node true live e = sym live ∙ sym (ap (map.get nodes) (eqb-true q n e))
kept_at nodes n q node false live e = refl

put_kept : (nodes : Map) (n : ℕ) (node : Node) → map.get nodes n ≡ Some node → map.insert nodes n node ≡ nodes
put_kept nodes n node live = map.same_map nat_cmp_total map.nat_cmp-IsAntisymmetric _ _ (λ q. get_put nodes n node q ∙ kept_at nodes n q node (nat_eq q n) live refl)

some_stays : (b : Bool) (node : Node) (o : Option Node) → is_some o ≡ true → is_some (cond b (Some node) o) ≡ true
some_stays true node o e = refl
some_stays false node o e = e

pub link_stays : (heap new : Heap) (n : ℕ) (node : Node) (to : Option ℕ) → new ≡ put heap n node → IsLiveLink heap to → IsLiveLink new to
link_stays heap new n node to is live m e =
    ap (λ (h : Heap). is_some (map.get h.nodes m)) is ∙ ap is_some (get_put heap.nodes n node m) ∙ some_stays (nat_eq m n) node (map.get heap.nodes m) (live m e)

there_now : (heap new : Heap) (n : ℕ) (node : Node) → new ≡ put heap n node → map.get new.nodes n ≡ Some node
there_now heap new n node is = ap (λ (h : Heap). map.get h.nodes n) is ∙ get_same heap.nodes n node

put_again : (heap h new : Heap) (n : ℕ) (a b : Node) → h ≡ put heap n a → new ≡ put h n b → new ≡ put heap n b
put_again heap h new n a b e f = f ∙ ap (λ (x : Heap). put x n b) e ∙ ap (λ nodes. record heap { nodes = nodes }) (put_twice heap.nodes n a b)

-- ---- the lists of a discretionary
disc_node : Node → DiscFields → Node
disc_node node d = record node { fields = record node.fields { contents = contents.Disc d } }

pub parts_set : (h0 h1 h2 h3 : Heap) (n : ℕ) (lists : InnerLists) → SetsLink h0 h1 n field.Pre lists.first → SetsLink h1 h2 n field.Post lists.second → SetsLink h2 h3 n field.Replace lists.third → SetsParts h0 h3 n lists
unfolding disc_node
parts_set h0 h1 h2 h3 n lists s1 s2 s3 node d live is links =
    let d1 : DiscFields = record d { pre = lists.first } in
    let d2 : DiscFields = record d1 { post = lists.second } in
    let d3 : DiscFields = record d2 { replace = lists.third } in
    let n1 : Node = disc_node node d1 in
    let n2 : Node = disc_node node d2 in
    let n3 : Node = disc_node node d3 in
    let takes : with_field node.fields field.Pre (Link lists.first) ≡ Ok n1.fields = rw is refl in
    let e1 : h1 ≡ put h0 n n1 = s1 node n1.fields live takes links.0 in
    let e2 : h2 ≡ put h1 n n2 = s2 n1 n2.fields (there_now h0 h1 n n1 e1) refl (link_stays h0 h1 n n1 lists.second e1 links.1) in
    let e3 : h3 ≡ put h2 n n3 = s3 n2 n3.fields (there_now h1 h2 n n2 e2) refl (link_stays h1 h2 n n2 lists.third e2 (link_stays h0 h1 n n1 lists.third e1 links.2)) in
    let same : n3 ≡ relinked node lists node.fields.next = rw is refl in
    put_again h0 h2 h3 n n2 n3 (put_again h0 h1 h2 n n1 n2 e1 e2) e3 ∙ ap (put h0 n) same

-- ---- the lists of a node of any kind
box_set : (h0 h1 : Heap) (n : ℕ) (lists : InnerLists) (node : Node) (c : Contents) → SetsLink h0 h1 n field.List lists.first → map.get h0.nodes n ≡ Some node → node.fields.contents ≡ c → is_box (kind_of c) ≡ true → AreLiveLists h0 lists
    → h1 ≡ put h0 n (relinked node lists node.fields.next)
box_set h0 h1 n lists node (contents.Hlist b) s live is e links =
    let fields : Fields = record node.fields { contents = contents.Hlist (record b { list = lists.first }) } in
    let takes : with_field node.fields field.List (Link lists.first) ≡ Ok fields = rw is refl in
    let same : record node { fields = fields } ≡ relinked node lists node.fields.next = rw is refl in
    s node fields live takes links.0 ∙ ap (put h0 n) same
box_set h0 h1 n lists node (contents.Vlist b) s live is e links =
    let fields : Fields = record node.fields { contents = contents.Vlist (record b { list = lists.first }) } in
    let takes : with_field node.fields field.List (Link lists.first) ≡ Ok fields = rw is refl in
    let same : record node { fields = fields } ≡ relinked node lists node.fields.next = rw is refl in
    s node fields live takes links.0 ∙ ap (put h0 n) same
box_set h0 h1 n lists node _ s live is e links = cc

disc_of : (c : Contents) → is_disc (kind_of c) ≡ true → (d : DiscFields) × (c ≡ contents.Disc d)
disc_of (contents.Disc d) e = (d, refl)
disc_of _ e = cc

lists_stay : (c : Contents) (lists : InnerLists) → is_box (kind_of c) ≡ false → is_disc (kind_of c) ≡ false → with_lists c lists ≡ c
lists_stay (contents.Hlist b) lists h d = cc
lists_stay (contents.Vlist b) lists h d = cc
lists_stay (contents.Disc x) lists h d = cc
lists_stay (contents.Rule x) lists h d = refl
lists_stay (contents.Glue x) lists h d = refl
lists_stay (contents.Kern x) lists h d = refl
lists_stay (contents.Penalty x) lists h d = refl
lists_stay (contents.Glyph x) lists h d = refl

pub lists_of_box : (h0 h1 : Heap) (n : ℕ) (lists : InnerLists) (k : Kind) → is_box k ≡ true → SetsLink h0 h1 n field.List lists.first → SetsListsOf h0 h1 n k lists
lists_of_box h0 h1 n lists k is s node live e links = box_set h0 h1 n lists node node.fields.contents s live refl (ap is_box e ∙ is) links

pub lists_of_disc : (h0 h1 : Heap) (n : ℕ) (lists : InnerLists) (k : Kind) → is_disc k ≡ true → SetsParts h0 h1 n lists → SetsListsOf h0 h1 n k lists
lists_of_disc h0 h1 n lists k is s node live e links = let d = disc_of node.fields.contents (ap is_disc e ∙ is) in s node d.0 live d.1 links

no_lists_set : (h0 : Heap) (n : ℕ) (lists : InnerLists) (node : Node) → map.get h0.nodes n ≡ Some node → with_lists node.fields.contents lists ≡ node.fields.contents → h0 ≡ put h0 n (relinked node lists node.fields.next)
no_lists_set h0 n lists node live e =
    let same : node ≡ relinked node lists node.fields.next = λ i. record { fields = record { subtype = node.fields.subtype; next = node.fields.next; contents = sym e i }; attributes = node.attributes } in
    (λ i. record h0 { nodes = sym (put_kept h0.nodes n node live) i }) ∙ ap (put h0 n) same

pub lists_of_none : (h0 : Heap) (n : ℕ) (lists : InnerLists) (k : Kind) → is_box k ≡ false → is_disc k ≡ false → SetsListsOf h0 h0 n k lists
lists_of_none h0 n lists k a b node live e links = no_lists_set h0 n lists node live (lists_stay node.fields.contents lists (ap is_box e ∙ a) (ap is_disc e ∙ b))

kind_is : (heap : Heap) (n : ℕ) (node : Node) (k : Kind) (subtype : ℕ) → map.get heap.nodes n ≡ Some node → Ok (k, subtype) ≡ kind_answer n heap → kind_of node.fields.contents ≡ k
kind_is heap n node k subtype live e =
    let gives : Ok (kind_of node.fields.contents, node.fields.subtype) ≡ Ok (k, subtype) = sym (ap (of_found {A = Kind × ℕ} n (λ node. Ok (kind_of node.fields.contents, node.fields.subtype))) live) ∙ sym e in
    ap (λ p. p.0) (same_Ok {E = Trouble} (kind_of node.fields.contents, node.fields.subtype) (k, subtype) gives)

pub lists_of_kind : (h0 h1 : Heap) (n : ℕ) (lists : InnerLists) (k : Kind) (subtype : ℕ) → Ok (k, subtype) ≡ kind_answer n h0 → SetsListsOf h0 h1 n k lists → SetsLists h0 h1 n lists
lists_of_kind h0 h1 n lists k subtype answer s node live links = s node live (kind_is h0 n node k subtype live answer) links

pub lists_of_dead : (h0 h1 : Heap) (n : ℕ) (lists : InnerLists) (why : Trouble) → Err why ≡ kind_answer n h0 → SetsLists h0 h1 n lists
lists_of_dead h0 h1 n lists why answer node live links =
    let gives : kind_answer n h0 ≡ Ok (kind_of node.fields.contents, node.fields.subtype) = ap (of_found {A = Kind × ℕ} n (λ node. Ok (kind_of node.fields.contents, node.fields.subtype))) live in
    cc

-- ---- all links of a node
pub links_set : (h0 h1 h2 : Heap) (n : ℕ) (lists : InnerLists) (next : Option ℕ) → SetsLists h0 h1 n lists → SetsLink h1 h2 n field.Next next → SetsLinks h0 h2 n lists next
links_set h0 h1 h2 n lists next s1 s2 node live links link =
    let n1 : Node = relinked node lists node.fields.next in
    let e1 : h1 ≡ put h0 n n1 = s1 node live links in
    let e2 : h2 ≡ put h1 n (relinked node lists next) = s2 n1 (relinked node lists next).fields (there_now h0 h1 n n1 e1) refl (link_stays h0 h1 n n1 next e1 link) in
    put_again h0 h1 h2 n n1 (relinked node lists next) e1 e2
