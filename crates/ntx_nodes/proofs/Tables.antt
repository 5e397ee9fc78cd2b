-- What slots hold, and what becomes of it as slots change.
use Rattle.std.proofs.Common.{◌≡◌, ◌≤◌, ◌<◌, ℕ, nat_eq, List, [], ◌∷◌, Bool, true, false, cond, length, Some, None, refl, sym, ◌∙◌, ap, subst, arith}
use Rattle.std.specs.Prelude.{Option, is_some, Result, Ok, Err, map as list_map, not, ◌&&◌, ◌||◌, IfSome, IfNone}
use Rattle.std.specs.Option.{option_map}
use Rattle.std.specs.Ordering.{nat_cmp, eq_by_cmp}
use Rattle.std.specs.Cmp.{nat_cmp_total, eq_by_cmp_equiv, Equal-is}
use Rattle.std.specs.Map.{lookup, keys_of}
use Rattle.std.specs.BTreeMap.{is_at}
use Rattle.std.specs.List.Sorted.{IsStrictlySortedBy}
use Rattle.std.specs.FinMap as map
use Rattle.std.specs.FinSet as set
use Rattle.std.proofs.lemmas.List.{length-map}
use Rattle.std.proofs.lemmas.Map.Made.{lookup-map_values, keys_of-map_values}
use Rattle.ntx_nodes.specs.Plain.{Slots, slot_at, Puts, ChangesAttributes, nodes_of, visited_of, last_walk, IsCounted}
use Rattle.ntx_num.specs.Answer.{result_map, Steps, StepsAtOnce}
use Rattle.ntx_num.proofs.Answers.{same_Ok}
use Rattle.ntx_num.specs.declared.answer.Fail.{Fail}
use Rattle.ntx_num.specs.declared.answer.Fail.TheVariants.{NoMemory, Is}
use Rattle.ntx_nodes.specs.Heap.{Attributes, Names}
use Rattle.ntx_nodes.specs.Steps.{of_found}
use Rattle.ntx_nodes.specs.declared.trouble.Trouble.{Trouble}
use Rattle.ntx_nodes.specs.declared.trouble.Trouble.TheVariants.{Stale}
use Rattle.ntx_nodes.specs.declared.node.Node.{Node}
use Rattle.ntx_nodes.specs.declared.table.Slot.{Slot}
use Rattle.ntx_nodes.proofs.Maps.{get-entries, len-entries, from_entries-inserted, from_entries-removed}

-- whether the walk of this number visited the slot
abbrev pub is_visited : ℕ → Option Slot → Bool
is_visited walk None = false
is_visited walk (Some slot) = nat_eq slot.walk walk

abbrev nodes : Slots → List (ℕ × Node)
nodes slots = list_map (λ e. (e.0, e.1.node)) slots

-- ---- what slots hold
pub get-nodes_of : (slots : Slots) (n : ℕ) → map.get (nodes_of slots) n ≡ option_map (λ slot. slot.node) (slot_at slots n)
get-nodes_of slots n = get-entries nat_cmp_total (list_map (λ e. (e.0, e.1.node)) slots) n ∙ lookup-map_values (λ (slot : Slot). slot.node) (is_at (nat_cmp n)) slots

pub len-nodes_of : (slots : Slots) → IsStrictlySortedBy nat_cmp (keys_of slots) → map.len (nodes_of slots) ≡ length slots
len-nodes_of slots h =
    len-entries nat_cmp_total (nodes slots) (subst (IsStrictlySortedBy nat_cmp) (sym (keys_of-map_values (λ (slot : Slot). slot.node) slots)) h)
    ∙ length-map slots (λ e. (e.0, e.1.node))

marked : (walk : ℕ) (b v : Bool) (s : Slot) (o : Option Slot) → nat_eq s.walk walk ≡ v → cond v (b || is_visited walk o) (not b && is_visited walk o) ≡ is_visited walk (cond b (Some s) o)
marked walk true true s o e = sym e
marked walk true false s o e = sym e
marked walk false true s o e = refl
marked walk false false s o e = refl

contains-marked : (v : Bool) (names : Names) (k q : ℕ) → set.contains (cond v (set.insert names k) (set.remove names k)) q ≡ cond v (eq_by_cmp nat_cmp q k || set.contains names q) (not (eq_by_cmp nat_cmp q k) && set.contains names q)
contains-marked true names k q = set.contains-insert nat_cmp_total names k q
contains-marked false names k q = set.contains-remove nat_cmp_total names k q

pub contains-visited_of : (walk : ℕ) (slots : Slots) (n : ℕ) → set.contains (visited_of walk slots) n ≡ is_visited walk (slot_at slots n)
contains-visited_of walk [] n = set.contains-empty nat_cmp n
contains-visited_of walk (e ∷ es) n =
    contains-marked (nat_eq e.1.walk walk) (visited_of walk es) e.0 n
    ∙ ap (λ c. cond (nat_eq e.1.walk walk) (eq_by_cmp nat_cmp n e.0 || c) (not (eq_by_cmp nat_cmp n e.0) && c)) (contains-visited_of walk es n)
    ∙ marked walk (eq_by_cmp nat_cmp n e.0) (nat_eq e.1.walk walk) e.1 (slot_at es n) refl

-- ---- what becomes of it
node_cond : (b : Bool) (s o : Option Slot) → option_map (λ slot. slot.node) (cond b s o) ≡ cond b (option_map (λ slot. slot.node) s) (option_map (λ slot. slot.node) o)
node_cond true s o = refl
node_cond false s o = refl

nodes_put : (old new : Slots) (n : ℕ) (s : Option Slot) → Puts old new n s → (q : ℕ) → lookup (is_at (nat_cmp q)) (nodes new) ≡ cond (is_at (nat_cmp n) q) (option_map (λ slot. slot.node) s) (lookup (is_at (nat_cmp q)) (nodes old))
nodes_put old new n s h q =
    lookup-map_values (λ (slot : Slot). slot.node) (is_at (nat_cmp q)) new ∙ ap (option_map (λ slot. slot.node)) (h q)
    ∙ node_cond (is_at (nat_cmp n) q) s (slot_at old q)
    ∙ ap (cond (is_at (nat_cmp n) q) (option_map (λ slot. slot.node) s)) (sym (lookup-map_values (λ (slot : Slot). slot.node) (is_at (nat_cmp q)) old))

-- a slot is put
pub nodes_of-put : (old new : Slots) (n : ℕ) (slot : Slot) → Puts old new n (Some slot) → nodes_of new ≡ map.insert (nodes_of old) n slot.node
nodes_of-put old new n slot h = from_entries-inserted nat_cmp_total map.nat_cmp-IsAntisymmetric (nodes old) (nodes new) n slot.node (nodes_put old new n (Some slot) h)

-- a slot is taken out
pub nodes_of-taken : (old new : Slots) (n : ℕ) → Puts old new n None → nodes_of new ≡ map.remove (nodes_of old) n
nodes_of-taken old new n h = from_entries-removed nat_cmp_total map.nat_cmp-IsAntisymmetric (nodes old) (nodes new) n (nodes_put old new n None h)

-- each slot has the node that it had
pub nodes_of-same : (old new : Slots) → ((q : ℕ) → option_map (λ slot. slot.node) (slot_at new q) ≡ option_map (λ slot. slot.node) (slot_at old q)) → nodes_of new ≡ nodes_of old
nodes_of-same old new h = map.same_map nat_cmp_total map.nat_cmp-IsAntisymmetric (nodes_of new) (nodes_of old) (λ q. get-nodes_of new q ∙ h q ∙ sym (get-nodes_of old q))

-- each slot is visited as it was
pub visited_of-same : (walk : ℕ) (old new : Slots) → ((q : ℕ) → is_visited walk (slot_at new q) ≡ is_visited walk (slot_at old q)) → visited_of walk new ≡ visited_of walk old
visited_of-same walk old new h = set.same_set nat_cmp_total set.nat_cmp-IsAntisymmetric (visited_of walk new) (visited_of walk old) (λ q. contains-visited_of walk new q ∙ h q ∙ sym (contains-visited_of walk old q))

visited_cond : (walk : ℕ) (b : Bool) (s o : Option Slot) → is_visited walk (cond b s o) ≡ cond b (is_visited walk s) (is_visited walk o)
visited_cond walk true s o = refl
visited_cond walk false s o = refl

turned : (n q : ℕ) → is_at (nat_cmp n) q ≡ eq_by_cmp nat_cmp q n
turned n q = (eq_by_cmp_equiv nat_cmp_total).symm n q

or_cond : (b v : Bool) → cond b true v ≡ (b || v)
or_cond true v = refl
or_cond false v = refl

and_cond : (b v : Bool) → cond b false v ≡ (not b && v)
and_cond true v = refl
and_cond false v = refl

-- a visited slot is put
pub visited_of-put : (walk : ℕ) (old new : Slots) (n : ℕ) (slot : Slot) → Puts old new n (Some slot) → nat_eq slot.walk walk ≡ true → visited_of walk new ≡ set.insert (visited_of walk old) n
visited_of-put walk old new n slot h v = set.same_set nat_cmp_total set.nat_cmp-IsAntisymmetric _ _ (λ q.
    contains-visited_of walk new q ∙ ap (is_visited walk) (h q) ∙ visited_cond walk (is_at (nat_cmp n) q) (Some slot) (slot_at old q)
    ∙ (λ i. cond (turned n q i) (v i) (sym (contains-visited_of walk old q) i)) ∙ or_cond (eq_by_cmp nat_cmp q n) (set.contains (visited_of walk old) q)
    ∙ sym (set.contains-insert nat_cmp_total (visited_of walk old) n q))

-- a slot is taken out
pub visited_of-taken : (walk : ℕ) (old new : Slots) (n : ℕ) → Puts old new n None → visited_of walk new ≡ set.remove (visited_of walk old) n
visited_of-taken walk old new n h = set.same_set nat_cmp_total set.nat_cmp-IsAntisymmetric _ _ (λ q.
    contains-visited_of walk new q ∙ ap (is_visited walk) (h q) ∙ visited_cond walk (is_at (nat_cmp n) q) None (slot_at old q)
    ∙ (λ i. cond (turned n q i) false (sym (contains-visited_of walk old q) i)) ∙ and_cond (eq_by_cmp nat_cmp q n) (set.contains (visited_of walk old) q)
    ∙ sym (set.contains-remove nat_cmp_total (visited_of walk old) n q))

-- what is put is visited as what was there
pub visited_of-kept : (walk : ℕ) (old new : Slots) (n : ℕ) (slot : Slot) → Puts old new n (Some slot) → nat_eq slot.walk walk ≡ is_visited walk (slot_at old n) → visited_of walk new ≡ visited_of walk old
visited_of-kept walk old new n slot h v = visited_of-same walk old new (λ q.
    ap (is_visited walk) (h q) ∙ visited_cond walk (is_at (nat_cmp n) q) (Some slot) (slot_at old q)
    ∙ elim (is_at (nat_cmp n) q) as (λ b. is_at (nat_cmp n) q ≡ b → cond b (nat_eq slot.walk walk) (is_visited walk (slot_at old q)) ≡ is_visited walk (slot_at old q)) [
      | true ↦ λ t. v ∙ ap (λ k. is_visited walk (slot_at old k)) (map.nat_cmp-IsAntisymmetric n q ((Equal-is (nat_cmp n q)).0 t))
      | false ↦ λ t. refl
    ] refl)

-- ---- the numbers of walks
unreached : (walk : ℕ) (o : Option Slot) → last_walk o < walk → is_visited walk o ≡ false
unreached walk None h = refl
unreached walk (Some slot) h = grind arith

-- a walk with a number above all others has visited nothing
pub visited_of-above : (walk : ℕ) (slots : Slots) → ((q : ℕ) → last_walk (slot_at slots q) < walk) → visited_of walk slots ≡ set.empty
visited_of-above walk slots h = set.same_set nat_cmp_total set.nat_cmp-IsAntisymmetric _ _ (λ q.
    contains-visited_of walk slots q ∙ unreached walk (slot_at slots q) (h q) ∙ sym (set.contains-empty nat_cmp q))

last_walk_cond : (walk : ℕ) (b : Bool) (s o : Option Slot) → last_walk s ≤ walk → last_walk o ≤ walk → last_walk (cond b s o) ≤ walk
last_walk_cond walk true s o h k = h
last_walk_cond walk false s o h k = k

-- a slot with no greater number is put, or one is taken out
pub counted_put : (walk : ℕ) (old new : Slots) (n : ℕ) (s : Option Slot) → IsCounted walk old → Puts old new n s → last_walk s ≤ walk → IsCounted walk new
counted_put walk old new n s counted h low =
    (counted.0, λ q. subst (λ o. last_walk o ≤ walk) (sym (h q)) (last_walk_cond walk (is_at (nat_cmp n) q) s (slot_at old q) low (counted.1 q)))

-- a slot has another node, where there is one
pub counted_changed : (walk : ℕ) (old new : Slots) (n : ℕ) (g : Slot → Node) → IsCounted walk old
    → IfSome (slot_at old n) (λ slot. Puts old new n (Some (record { node = g slot; walk = slot.walk }))) → IfNone (slot_at old n) (new ≡ old) → IsCounted walk new
counted_changed walk old new n g counted live dead =
    elim (slot_at old n) as (λ o. last_walk o ≤ walk → IfSome o (λ slot. Puts old new n (Some (record { node = g slot; walk = slot.walk }))) → IfNone o (new ≡ old) → IsCounted walk new) [
      | None ↦ λ low live dead. subst (IsCounted walk) (sym dead) counted
      | Some slot ↦ λ low live dead. counted_put walk old new n _ counted live low
    ] (counted.1 n) live dead

-- a slot is visited, where there is one
pub counted_marked : (walk : ℕ) (old new : Slots) (n : ℕ) (r : Result Bool Trouble) → IsCounted walk old
    → IfSome (slot_at old n) (λ slot. (r ≡ Ok (not (nat_eq slot.walk walk))) × Puts old new n (Some (record { node = slot.node; walk = walk })))
    → IfNone (slot_at old n) ((r ≡ Err (Stale n)) × (new ≡ old)) → IsCounted walk new
counted_marked walk old new n r counted live dead =
    elim (slot_at old n) as (λ o. IfSome o (λ slot. (r ≡ Ok (not (nat_eq slot.walk walk))) × Puts old new n (Some (record { node = slot.node; walk = walk }))) → IfNone o ((r ≡ Err (Stale n)) × (new ≡ old)) → IsCounted walk new) [
      | None ↦ λ live dead. subst (IsCounted walk) (sym dead.1) counted
      | Some slot ↦ λ live dead. counted_put walk old new n _ counted live.1 (omega arith)
    ] live dead

-- the attributes of a slot's node change, where there is one
pub counted_attributes : (walk : ℕ) (old new : Slots) (n : ℕ) (r : Result (Unit {0}) (Fail Trouble)) (change : Attributes → Result Attributes Trouble) → IsCounted walk old
    → IfSome (slot_at old n) (λ slot. ChangesAttributes old new n slot (change slot.node.attributes) r) → IfNone (slot_at old n) ((r ≡ Err (Is (Stale n))) × (new ≡ old)) → IsCounted walk new
counted_attributes walk old new n r change counted live dead =
    elim (slot_at old n) as (λ o. last_walk o ≤ walk → IfSome o (λ slot. ChangesAttributes old new n slot (change slot.node.attributes) r) → IfNone o ((r ≡ Err (Is (Stale n))) × (new ≡ old)) → IsCounted walk new) [
      | None ↦ λ low live dead. subst (IsCounted walk) (sym dead.1) counted
      | Some slot ↦ λ low live dead. counted_put walk old new n _ counted live.2 low
    ] (counted.1 n) live dead

-- ---- the calls of a table
pub node_found : (slots : Slots) (m : map.FinMap nat_cmp Node) (n : ℕ) (o : Option Slot) → nodes_of slots ≡ m → slot_at slots n ≡ o → option_map (λ slot. slot.node) o ≡ map.get m n
node_found slots m n o is at = sym (ap (λ k. map.get k n) (sym is) ∙ get-nodes_of slots n ∙ ap (option_map (λ slot. slot.node)) at)

-- a node is another, where there is one, and visited as before
pub node_changed : (walk : ℕ) (old new : Slots) (m : map.FinMap nat_cmp Node) (v : Names) (n : ℕ) (g : Node → Node) → nodes_of old ≡ m → visited_of walk old ≡ v
    → IfSome (slot_at old n) (λ slot. Puts old new n (Some (record { node = g slot.node; walk = slot.walk }))) → IfNone (slot_at old n) (new ≡ old)
    → IfSome (map.get m n) (λ node. nodes_of new ≡ map.insert m n (g node)) × IfNone (map.get m n) (nodes_of new ≡ m) × (visited_of walk new ≡ v)
node_changed walk old new m v n g is marks live dead =
    elim (slot_at old n) as (λ o. slot_at old n ≡ o → IfSome o (λ slot. Puts old new n (Some (record { node = g slot.node; walk = slot.walk }))) → IfNone o (new ≡ old) → IfSome (map.get m n) (λ node. nodes_of new ≡ map.insert m n (g node)) × IfNone (map.get m n) (nodes_of new ≡ m) × (visited_of walk new ≡ v)) [
      | None ↦ λ at live dead. (
        subst (λ o. IfSome o (λ node. nodes_of new ≡ map.insert m n (g node))) (node_found old m n None is at) tt,
        subst (λ o. IfNone o (nodes_of new ≡ m)) (node_found old m n None is at) (ap nodes_of dead ∙ is),
        ap (visited_of walk) dead ∙ marks,
      )
      | Some slot ↦ λ at live dead. (
        subst (λ o. IfSome o (λ node. nodes_of new ≡ map.insert m n (g node))) (node_found old m n (Some slot) is at) (nodes_of-put old new n _ live ∙ ap (λ k. map.insert k n (g slot.node)) is),
        subst (λ o. IfNone o (nodes_of new ≡ m)) (node_found old m n (Some slot) is at) tt,
        visited_of-kept walk old new n _ live (sym (ap (is_visited walk) at)) ∙ marks,
      )
    ] refl live dead

pub insert_same : (m : map.FinMap nat_cmp Node) (n : ℕ) (node : Node) → map.get m n ≡ Some node → map.insert m n node ≡ m
insert_same m n node at = map.same_map nat_cmp_total map.nat_cmp-IsAntisymmetric (map.insert m n node) m (λ q.
    map.get-insert nat_cmp_total m n node q
    ∙ elim (eq_by_cmp nat_cmp q n) as (λ b. eq_by_cmp nat_cmp q n ≡ b → cond b (Some node) (map.get m q) ≡ map.get m q) [
      | true ↦ λ t. sym at ∙ ap (map.get m) (sym (map.nat_cmp-IsAntisymmetric q n ((Equal-is (nat_cmp q n)).0 t)))
      | false ↦ λ t. refl
    ] refl)

-- attributes that change, or stay
attributes_put : (r : Result (Unit {0}) (Fail Trouble)) (change : Result Attributes Trouble) (m new : map.FinMap nat_cmp Node) (n : ℕ) (node : Node) (a : Attributes)
    → Steps r node.attributes a (result_map {B = Unit {0} × Attributes} (λ b. (tt, b)) change) → new ≡ map.insert m n (record node { attributes = a }) → map.get m n ≡ Some node
    → Steps r m new (result_map {B = Unit {0} × map.FinMap nat_cmp Node} (λ b. (tt, map.insert m n (record node { attributes = b }))) change)
attributes_put (Ok u) (Ok b) m new n node a s is at =
    let same : b ≡ a = ap (λ p. p.1) (same_Ok {E = Trouble} (tt, b) (u, a) s) in ap (λ (x : map.FinMap nat_cmp Node). Ok (tt, x)) (ap (λ x. map.insert m n (record node { attributes = x })) same ∙ sym is)
attributes_put (Ok u) (Err why) m new n node a s is at = cc
attributes_put (Err (Is e)) (Ok b) m new n node a s is at = (let no = s.0 in cc, is ∙ ap (λ x. map.insert m n (record node { attributes = x })) s.1 ∙ insert_same m n node at)
attributes_put (Err (Is e)) (Err why) m new n node a s is at = (let no = s.0 in cc, is ∙ ap (λ x. map.insert m n (record node { attributes = x })) s.1 ∙ insert_same m n node at)
attributes_put (Err NoMemory) change m new n node a s is at = is ∙ ap (λ x. map.insert m n (record node { attributes = x })) s ∙ insert_same m n node at

pub attributes_changed : (walk : ℕ) (old new : Slots) (m : map.FinMap nat_cmp Node) (v : Names) (n : ℕ) (r : Result (Unit {0}) (Fail Trouble)) (change : Attributes → Result Attributes Trouble) → nodes_of old ≡ m → visited_of walk old ≡ v
    → IfSome (slot_at old n) (λ slot. ChangesAttributes old new n slot (change slot.node.attributes) r) → IfNone (slot_at old n) ((r ≡ Err (Is (Stale n))) × (new ≡ old))
    → Steps r m (nodes_of new) (of_found n (λ (node : Node). result_map {B = Unit {0} × map.FinMap nat_cmp Node} (λ b. (tt, map.insert m n (record node { attributes = b }))) (change node.attributes)) (map.get m n)) × (visited_of walk new ≡ v)
attributes_changed walk old new m v n r change is marks live dead =
    let f : Node → Result (Unit {0} × map.FinMap nat_cmp Node) Trouble = λ node. result_map (λ b. (tt, map.insert m n (record node { attributes = b }))) (change node.attributes) in
    elim (slot_at old n) as (λ o. slot_at old n ≡ o → IfSome o (λ slot. ChangesAttributes old new n slot (change slot.node.attributes) r) → IfNone o ((r ≡ Err (Is (Stale n))) × (new ≡ old)) → Steps r m (nodes_of new) (of_found n f (map.get m n)) × (visited_of walk new ≡ v)) [
      | None ↦ λ at live dead. (
        subst (λ o. Steps r m (nodes_of new) (of_found n f o)) (node_found old m n None is at) (subst (λ x. Steps x m (nodes_of new) (Err (Stale n))) (sym dead.0) (refl, ap nodes_of dead.1 ∙ is)),
        ap (visited_of walk) dead.1 ∙ marks,
      )
      | Some slot ↦ λ at live dead.
          let there = node_found old m n (Some slot) is at in (
            subst (λ o. Steps r m (nodes_of new) (of_found n f o)) there (attributes_put r (change slot.node.attributes) m (nodes_of new) n slot.node live.0 live.1 (nodes_of-put old new n _ live.2 ∙ ap (λ k. map.insert k n (record slot.node { attributes = live.0 })) is) (sym there)),
            visited_of-kept walk old new n _ live.2 (sym (ap (is_visited walk) at)) ∙ marks,
          )
    ] refl live dead

unvisited : (walk : ℕ) (o : Option Slot) → option_map (λ slot. slot.node) o ≡ None → is_visited walk o ≡ false
unvisited walk None e = refl
unvisited walk (Some slot) e = cc

same_at : (old : Slots) (n q : ℕ) (slot : Slot) → slot_at old n ≡ Some slot → cond (is_at (nat_cmp n) q) (Some slot.node) (option_map (λ slot. slot.node) (slot_at old q)) ≡ option_map (λ slot. slot.node) (slot_at old q)
same_at old n q slot at =
    elim (is_at (nat_cmp n) q) as (λ b. is_at (nat_cmp n) q ≡ b → cond b (Some slot.node) (option_map (λ slot. slot.node) (slot_at old q)) ≡ option_map (λ slot. slot.node) (slot_at old q)) [
      | true ↦ λ t. sym (ap (λ k. option_map (λ slot. slot.node) (slot_at old k)) (sym (map.nat_cmp-IsAntisymmetric n q ((Equal-is (nat_cmp n q)).0 t))) ∙ ap (option_map (λ slot. slot.node)) at)
      | false ↦ λ t. refl
    ] refl

-- a node is new, under a name that was not there
pub node_added : (walk : ℕ) (old new : Slots) (m : map.FinMap nat_cmp Node) (v : Names) (n : ℕ) (node : Node) → IsCounted walk old → nodes_of old ≡ m → visited_of walk old ≡ v → map.get m n ≡ None
    → Puts old new n (Some (record { node = node; walk = 0 })) → (nodes_of new ≡ map.insert m n node) × (visited_of walk new ≡ v)
node_added walk old new m v n node counted is marks absent h =
    let none : option_map (λ slot. slot.node) (slot_at old n) ≡ None = node_found old m n (slot_at old n) is refl ∙ absent in
    let new_slot : Slot = record { node = node; walk = 0 } in
    let never : is_visited walk (Some new_slot) ≡ false = unreached walk (Some new_slot) counted.0 in
    (nodes_of-put old new n _ h ∙ ap (λ k. map.insert k n node) is, visited_of-kept walk old new n _ h (never ∙ sym (unvisited walk (slot_at old n) none)) ∙ marks)

-- a node is visited
pub node_marked : (walk : ℕ) (old new : Slots) (m : map.FinMap nat_cmp Node) (v : Names) (n : ℕ) (r : Result Bool Trouble) → nodes_of old ≡ m → visited_of walk old ≡ v
    → IfSome (slot_at old n) (λ slot. (r ≡ Ok (not (nat_eq slot.walk walk))) × Puts old new n (Some (record { node = slot.node; walk = walk })))
    → IfNone (slot_at old n) ((r ≡ Err (Stale n)) × (new ≡ old))
    → StepsAtOnce r v (visited_of walk new) (of_found n (λ (_ : Node). Ok (not (set.contains v n), set.insert v n)) (map.get m n)) × (nodes_of new ≡ m)
node_marked walk old new m v n r is marks live dead =
    elim (slot_at old n) as (λ o. slot_at old n ≡ o → IfSome o (λ slot. (r ≡ Ok (not (nat_eq slot.walk walk))) × Puts old new n (Some (record { node = slot.node; walk = walk }))) → IfNone o ((r ≡ Err (Stale n)) × (new ≡ old)) → StepsAtOnce r v (visited_of walk new) (of_found n (λ (_ : Node). Ok (not (set.contains v n), set.insert v n)) (map.get m n)) × (nodes_of new ≡ m)) [
      | None ↦ λ at live dead. (
        subst (λ o. StepsAtOnce r v (visited_of walk new) (of_found n (λ (_ : Node). Ok (not (set.contains v n), set.insert v n)) o)) (node_found old m n None is at)
            (subst (λ x. StepsAtOnce x v (visited_of walk new) (Err (Stale n))) (sym dead.0) (refl, ap (visited_of walk) dead.1 ∙ marks)),
        ap nodes_of dead.1 ∙ is,
      )
      | Some slot ↦ λ at live dead. (
        subst (λ o. StepsAtOnce r v (visited_of walk new) (of_found n (λ (_ : Node). Ok (not (set.contains v n), set.insert v n)) o)) (node_found old m n (Some slot) is at)
            (subst (λ x. StepsAtOnce x v (visited_of walk new) (Ok (not (set.contains v n), set.insert v n))) (sym live.0)
            (λ i. Ok (not ((ap (λ k. set.contains k n) (sym marks) ∙ contains-visited_of walk old n ∙ ap (is_visited walk) at) i), (sym (visited_of-put walk old new n _ live.1 (grind arith) ∙ ap (λ k. set.insert k n) marks)) i))),
        nodes_of-same old new (λ q. ap (option_map (λ slot. slot.node)) (live.1 q) ∙ node_cond (is_at (nat_cmp n) q) _ (slot_at old q) ∙ same_at old n q slot at) ∙ is,
      )
    ] refl live dead

-- the number of its walk is taken off every slot
abbrev pub unmarked : Slots → Slots
unmarked slots = list_map (λ e. (e.0, record { node = e.1.node; walk = 0 })) slots

nodes_of_unmarked : (old : Slots) → nodes (unmarked old) ≡ nodes old
nodes_of_unmarked [] = refl
nodes_of_unmarked (e ∷ es) = ap (λ ns. (e.0, e.1.node) ∷ ns) (nodes_of_unmarked es)

pub nodes_unmarked : (old : Slots) → nodes_of (unmarked old) ≡ nodes_of old
nodes_unmarked old = ap map.from_entries (nodes_of_unmarked old)

never : (o : Option Slot) → last_walk (option_map (λ slot. record { node = slot.node; walk = 0 }) o) ≡ 0
never None = refl
never (Some slot) = refl

last_walk-unmarked : (old : Slots) (q : ℕ) → last_walk (slot_at (unmarked old) q) ≡ 0
last_walk-unmarked old q = ap last_walk (lookup-map_values (λ (slot : Slot). record { node = slot.node; walk = 0 }) (is_at (nat_cmp q)) old) ∙ never (slot_at old q)

pub counted_unmarked : (old : Slots) → IsCounted 1 (unmarked old)
counted_unmarked old = (omega arith, λ q. rw (last_walk-unmarked old q) (omega arith))

pub visited_unmarked : (old : Slots) → visited_of 1 (unmarked old) ≡ set.empty
visited_unmarked old = visited_of-above 1 (unmarked old) (λ q. rw (last_walk-unmarked old q) (omega arith))

some_node : (walk : ℕ) (o : Option Slot) → is_visited walk o ≡ true → is_some (option_map (λ slot. slot.node) o) ≡ true
some_node walk None e = cc
some_node walk (Some slot) e = refl

-- what was visited is there
pub visited_live : (walk : ℕ) (slots : Slots) (n : ℕ) → set.contains (visited_of walk slots) n ≡ true → is_some (map.get (nodes_of slots) n) ≡ true
visited_live walk slots n e = ap is_some (get-nodes_of slots n) ∙ some_node walk (slot_at slots n) (sym (contains-visited_of walk slots n) ∙ e)
