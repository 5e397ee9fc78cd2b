-- Walks through a heap with one node more, to which nothing leads.
use Rattle.std.proofs.Common.{◌≡◌, ℕ, zero, suc, ◌+◌, ◌<◌, List, [], ◌∷◌, ◌++◌, true, false, cond, Some, None, Ok, Err, refl, sym, ◌∙◌, ap, subst}
use Rattle.std.specs.Prelude.{Option, Result, not, nat_eq, ◌||◌}
use Rattle.std.specs.FinMap as fin
use Rattle.ntx_num.specs.Answer.{result_map}
use Rattle.ntx_nodes.specs.Fields.{kind_of, field_of}
use Rattle.ntx_nodes.specs.Heap.{Heap, IsLawful, is_live}
use Rattle.ntx_nodes.specs.Steps.{of_found}
use Rattle.ntx_nodes.specs.Walk.{inner_lists, no_lists, is_reached, is_too_deep, admits, entered, node_reached, in_turn, enter, walk, fuel_of, walk_from}
use Rattle.ntx_nodes.specs.WalkLaws.{AreFresh}
use Rattle.ntx_nodes.specs.declared.kind.ListKind.{ListKind}
use Rattle.ntx_nodes.specs.declared.inner.InnerLists.{InnerLists}
use Rattle.ntx_nodes.specs.declared.kind.Way.{Way}
use Rattle.ntx_nodes.specs.declared.kind.Way.TheVariants.{Checked, Plain, Flat}
use Rattle.ntx_nodes.specs.declared.field.Field.{Field}
use Rattle.ntx_nodes.specs.declared.field.Field.TheVariants as field
use Rattle.ntx_nodes.specs.declared.field.FieldValue.{FieldValue}
use Rattle.ntx_nodes.specs.declared.field.FieldValue.TheVariants.{Link}
use Rattle.ntx_nodes.specs.declared.fields.Contents.{Contents}
use Rattle.ntx_nodes.specs.declared.fields.Contents.TheVariants as contents
use Rattle.ntx_nodes.specs.declared.node.Node.{Node}
use Rattle.ntx_nodes.specs.declared.trouble.Trouble.{Trouble}
use Rattle.ntx_nodes.specs.declared.trouble.Trouble.TheVariants.{Loop, Nest, WrongKind}
use Rattle.ntx_nodes.proofs.Fuel.{then_same, passes, enter_extends, walk_extends, fuel_enough}
use Rattle.ntx_nodes.proofs.SoundWalks.{sound_walk}
use Rattle.ntx_view.proofs.Counts.{live_node}
use Rattle.std.proofs.lemmas.Bool.{eqb-true}

-- ---- links
-- a link to a name that was given before this one
abbrev pub IsBelow : ℕ → Option ℕ → Type 0
IsBelow next to = (m : ℕ) → to ≡ Some m → m < next

abbrev pub AreBelow : ℕ → InnerLists → Type 0
AreBelow next lists = IsBelow next lists.first × IsBelow next lists.second × IsBelow next lists.third

nothing_below : (next : ℕ) → IsBelow next None
nothing_below next m e = cc

no_lists_below : (next : ℕ) → AreBelow next no_lists
no_lists_below next = (nothing_below next, nothing_below next, nothing_below next)

-- what is known of the links in the fields of a kind
abbrev LinksBelow : ℕ → ℕ → Option ℕ → Contents → Type 0
LinksBelow next subtype to c = (f : Field) (m : ℕ) → field_of (record { subtype = subtype; next = to; contents = c }) f ≡ Ok (Link (Some m)) → m < next

linked : (to : Option ℕ) (m : ℕ) → to ≡ Some m → ◌≡◌ {A = Result FieldValue Trouble} (Ok (Link to)) (Ok (Link (Some m)))
linked to m e = ap (λ o. Ok (Link o)) e

inner_below : (next subtype : ℕ) (to : Option ℕ) (c : Contents) → LinksBelow next subtype to c → AreBelow next (inner_lists c)
inner_below next subtype to (contents.Hlist b) h = (λ m e. h field.List m (linked b.list m e), nothing_below next, nothing_below next)
inner_below next subtype to (contents.Vlist b) h = (λ m e. h field.List m (linked b.list m e), nothing_below next, nothing_below next)
inner_below next subtype to (contents.Disc d) h = (λ m e. h field.Pre m (linked d.pre m e), λ m e. h field.Post m (linked d.post m e), λ m e. h field.Replace m (linked d.replace m e))
inner_below next subtype to (contents.Rule r) h = no_lists_below next
inner_below next subtype to (contents.Glue g) h = no_lists_below next
inner_below next subtype to (contents.Kern w) h = no_lists_below next
inner_below next subtype to (contents.Penalty p) h = no_lists_below next
inner_below next subtype to (contents.Glyph g) h = no_lists_below next

entered_below : (way : Way) (next subtype : ℕ) (to : Option ℕ) (c : Contents) → LinksBelow next subtype to c → AreBelow next (entered way c)
entered_below Checked next subtype to c h = inner_below next subtype to c h
entered_below Plain next subtype to c h = inner_below next subtype to c h
entered_below Flat next subtype to c h = no_lists_below next

-- the links of a live node
pub links_below : (heap : Heap) (way : Way) (n : ℕ) (node : Node) → IsLawful heap → fin.get heap.nodes n ≡ Some node → AreBelow heap.next (entered way node.fields.contents)
links_below heap way n node lawful e = entered_below way heap.next node.fields.subtype node.fields.next node.fields.contents (lawful.nodes n node e).links

pub inner_links_below : (heap : Heap) (n : ℕ) (node : Node) → IsLawful heap → fin.get heap.nodes n ≡ Some node → AreBelow heap.next (inner_lists node.fields.contents)
inner_links_below heap n node lawful e = inner_below heap.next node.fields.subtype node.fields.next node.fields.contents (lawful.nodes n node e).links

pub next_below : (heap : Heap) (n : ℕ) (node : Node) → IsLawful heap → fin.get heap.nodes n ≡ Some node → IsBelow heap.next node.fields.next
next_below heap n node lawful e m is = (lawful.nodes n node e).links field.Next m (linked node.fields.next m is)

-- ---- two heaps that answer alike for the names given so far
pub record Agree (heap new : Heap) : Type 0 where
  pub get : (m : ℕ) → m < heap.next → fin.get new.nodes m ≡ fin.get heap.nodes m

reached_same : (heap new : Heap) (way : Way) (r : List ℕ) (n d : ℕ) (k : ListKind) → Agree heap new → n < heap.next → node_reached new way r n d k ≡ node_reached heap way r n d k
reached_same heap new way r n d k agree lt =
    ap (of_found n (λ (node : Node). cond (is_reached r n) (Err (Loop n)) (cond (is_too_deep way d) (Err Nest) (cond (not (admits way k (kind_of node.fields.contents))) (Err (WrongKind n)) (Ok node))))) (agree.get n lt)

abbrev Turn : Type 0
Turn = List ℕ → Option ℕ → ListKind → Result (List ℕ) Trouble

fuel_same : (next : ℕ) (f g : Turn) → ((r : List ℕ) (to : Option ℕ) (k : ListKind) → IsBelow next to → f r to k ≡ g r to k) → (r : List ℕ) (l : InnerLists) → AreBelow next l → in_turn f r l ≡ in_turn g r l
fuel_same next f g same r l below =
    then_same (f r l.first l.kind) (g r l.first l.kind) _ _ (same r l.first l.kind below.0) (λ a one.
    then_same (f a l.second l.kind) (g a l.second l.kind) _ _ (same a l.second l.kind below.1) (λ b two. same b l.third l.kind below.2))

pub walk_same : (heap new : Heap) (way : Way) → IsLawful heap → Agree heap new → (fuel : ℕ) (r : List ℕ) (to : Option ℕ) (d : ℕ) (k : ListKind) → IsBelow heap.next to → walk new way fuel r to d k ≡ walk heap way fuel r to d k
walk_same heap new way lawful agree zero r to d k below = refl
walk_same heap new way lawful agree (suc fuel) r None d k below = refl
walk_same heap new way lawful agree (suc fuel) r (Some n) d k below =
    let w : List ℕ → Option ℕ → ℕ → ListKind → Result (List ℕ) Trouble = λ b to j i. walk new way fuel b to j i in
    let v : List ℕ → Option ℕ → ℕ → ListKind → Result (List ℕ) Trouble = λ b to j i. walk heap way fuel b to j i in
    then_same {A = Node × List ℕ} (enter new way w r n d k) (enter heap way v r n d k) (λ entry. w entry.1 entry.0.fields.next d k) (λ entry. v entry.1 entry.0.fields.next d k)
    (then_same {B = Node × List ℕ} (node_reached new way r n d k) (node_reached heap way r n d k) _ _ (reached_same heap new way r n d k agree (below n refl)) (λ node is.
    let p = passes heap way r n d k node is in
    ap (result_map {B = Node × List ℕ} (λ names. (node, names))) (fuel_same heap.next (λ b to i. w b to (d + 1) i) (λ b to i. v b to (d + 1) i)
    (λ b to i given. walk_same heap new way lawful agree fuel b to (d + 1) i given) (r ++ n ∷ []) (entered way node.fields.contents) (links_below heap way n node lawful p.live))))
    (λ entry is.
    let e = enter_extends heap way v (walk_extends heap way fuel) r n d k entry is in
    walk_same heap new way lawful agree fuel entry.1 entry.0.fields.next d k (next_below heap n entry.0 lawful e.0.live))

-- the same with the fuel of the larger heap
pub walk_from_same : (heap new : Heap) (way : Way) (to : Option ℕ) (k : ListKind) → IsLawful heap → Agree heap new → fuel_of new ≡ fuel_of heap + 1 → IsBelow heap.next to → walk_from new way to k ≡ walk_from heap way to k
walk_from_same heap new way to k lawful agree fuel below =
    ap (λ t. walk new way t [] to 0 k) fuel ∙ walk_same heap new way lawful agree (fuel_of heap + 1) [] to 0 k below ∙ fuel_enough heap way 1 [] to 0 k

-- ---- names that a walk reaches
abbrev pub NamesBelow : ℕ → List ℕ → Type 0
NamesBelow next [] = Unit {0}
NamesBelow next (n ∷ ns) = (n < next) × NamesBelow next ns

live_below : (heap : Heap) (n : ℕ) → IsLawful heap → is_live heap n ≡ true → n < heap.next
live_below heap n lawful e = let node = live_node (fin.get heap.nodes n) e in lawful.names n node.0 node.1

fresh_below : (heap : Heap) (before names : List ℕ) → IsLawful heap → AreFresh heap before names → NamesBelow heap.next names
fresh_below heap before [] lawful fresh = tt
fresh_below heap before (n ∷ ns) lawful fresh = (live_below heap n lawful fresh.0, fresh_below heap (before ++ n ∷ []) ns lawful fresh.2)

one_below : (next : ℕ) (names : List ℕ) (m : ℕ) → NamesBelow next names → is_reached names m ≡ true → m < next
one_below next [] m below e = cc
one_below next (n ∷ ns) m below e =
    elim (nat_eq m n) as (λ b. nat_eq m n ≡ b → (b || is_reached ns m) ≡ true → m < next) [
      | true ↦ λ is _. (let same : m ≡ n = eqb-true m n is in subst (λ x. x < next) (sym same) below.0)
      | false ↦ λ _ r. one_below next ns m below.1 r
    ] refl e

-- what a walk reaches that ends well, and its head
pub record Reached (heap : Heap) (head : Option ℕ) (names : List ℕ) : Type 0 where
  pub each : NamesBelow heap.next names
  pub first : IsBelow heap.next head

pub reached : (heap : Heap) (way : Way) (head : Option ℕ) (k : ListKind) (names : List ℕ) → IsLawful heap → walk_from heap way head k ≡ Ok names → Reached heap head names
reached heap way head k names lawful e =
    let s = sound_walk heap way [] head 0 k names e in
    let below : NamesBelow heap.next names = subst (NamesBelow heap.next) (sym s.added) (fresh_below heap [] s.more lawful s.fresh) in
    record { each = below; first = λ m is. one_below heap.next names m below (s.begins m is) }
