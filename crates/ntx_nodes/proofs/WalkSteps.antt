-- What a whole walk does at a node, list by list, and how a walker follows it.
use Rattle.std.proofs.Common.{◌≡◌, ℕ, ◌+◌, List, [], ◌∷◌, ◌++◌, Some, None, Ok, Err, refl, sym, ◌∙◌, ap, subst, append_assoc, append-nil}
use Rattle.std.specs.Prelude.{Option, Result}
use Rattle.std.specs.Option.{option_map}
use Rattle.ntx_num.specs.Answer.{result_map, result_and_then}
use Rattle.ntx_num.specs.declared.answer.Fail.{Fail}
use Rattle.ntx_num.specs.declared.answer.Fail.TheVariants.{NoMemory, Is}
use Rattle.ntx_nodes.specs.Heap.{Heap, Names}
use Rattle.ntx_nodes.specs.Walk.{entered, node_reached, in_turn, enter, fuel_of}
use Rattle.ntx_nodes.specs.Walker.{onward_of, whole_walk, Marks, Ends, Stops, Walks, Comes, Reaches}
use Rattle.ntx_nodes.specs.declared.kind.ListKind.{ListKind}
use Rattle.ntx_nodes.specs.declared.kind.ListKind.TheVariants.{H, V, Part}
use Rattle.ntx_nodes.specs.declared.kind.Way.{Way}
use Rattle.ntx_nodes.specs.declared.kind.Way.TheVariants.{Checked, Plain, Flat}
use Rattle.ntx_nodes.specs.declared.walk.Onward.{Onward}
use Rattle.ntx_nodes.specs.declared.inner.InnerLists.{InnerLists}
use Rattle.ntx_nodes.specs.declared.fields.Fields.{Fields}
use Rattle.ntx_nodes.specs.declared.fields.Contents.{Contents}
use Rattle.ntx_nodes.specs.declared.fields.Contents.TheVariants as contents
use Rattle.ntx_nodes.specs.declared.node.Node.{Node}
use Rattle.ntx_nodes.specs.declared.trouble.Trouble.{Trouble}
use Rattle.ntx_nodes.proofs.Fuel.{Walker, then_same, enough, unreached_most}

-- the walk of no list
pub whole_None : (heap : Heap) (way : Way) (r : List ℕ) (d : ℕ) (k : ListKind) → whole_walk heap way r None d k ≡ Ok r
whole_None heap way r d k = enough heap way (fuel_of heap) r None d k (unreached_most heap r)

abbrev pub whole : Heap → Way → Walker
whole heap way r n d k = whole_walk heap way r n d k

-- the walk of a list that begins with a node
pub whole_Some : (heap : Heap) (way : Way) (r : List ℕ) (n d : ℕ) (k : ListKind) → whole_walk heap way r (Some n) d k ≡ result_and_then (enter heap way (whole heap way) r n d k) (λ entry. whole_walk heap way entry.1 entry.0.fields.next d k)
whole_Some heap way r n d k = enough heap way (fuel_of heap) r (Some n) d k (unreached_most heap r)

-- ---- the lists of a node
abbrev Lister : Type 0
Lister = List ℕ → Option ℕ → ListKind → Result (List ℕ) Trouble

-- ---- at a node
abbrev inner : Heap → Way → ℕ → Lister
inner heap way d r n k = whole_walk heap way r n (d + 1) k

map_then : {A B C E : Type 0} (r : Result A E) (f : A → B) (g : B → Result C E) → result_and_then (result_map f r) g ≡ result_and_then r (λ a. g (f a))
map_then (Ok a) f g = refl
map_then (Err e) f g = refl

-- the lists of a node that passes its tests, and then what follows it
pub whole_at : (heap : Heap) (way : Way) (r : List ℕ) (n d : ℕ) (k : ListKind) (node : Node) → node_reached heap way r n d k ≡ Ok node
    → whole_walk heap way r (Some n) d k ≡ result_and_then (in_turn (inner heap way d) (r ++ n ∷ []) (entered way node.fields.contents)) (λ c. whole_walk heap way c node.fields.next d k)
whole_at heap way r n d k node e =
    whole_Some heap way r n d k
    ∙ ap (λ x. result_and_then (result_and_then x (λ (node : Node). result_map {B = Node × List ℕ} (λ names. (node, names)) (in_turn (inner heap way d) (r ++ n ∷ []) (entered way node.fields.contents)))) (λ entry. whole_walk heap way entry.1 entry.0.fields.next d k)) e
    ∙ map_then {B = Node × List ℕ} (in_turn (inner heap way d) (r ++ n ∷ []) (entered way node.fields.contents)) (λ names. (node, names)) (λ entry. whole_walk heap way entry.1 entry.0.fields.next d k)

-- a node that fails its tests
pub whole_refused : (heap : Heap) (way : Way) (r : List ℕ) (n d : ℕ) (k : ListKind) (why : Trouble) → node_reached heap way r n d k ≡ Err why → whole_walk heap way r (Some n) d k ≡ Err why
whole_refused heap way r n d k why e =
    whole_Some heap way r n d k
    ∙ ap (λ x. result_and_then (result_and_then x (λ (node : Node). result_map {B = Node × List ℕ} (λ names. (node, names)) (in_turn (inner heap way d) (r ++ n ∷ []) (entered way node.fields.contents)))) (λ entry. whole_walk heap way entry.1 entry.0.fields.next d k)) e

-- ---- a walker that has come as far as this
-- from the walk's begin to a list that is left, with names visited and collected on the way
abbrev pub Gets : Heap → Way → ℕ → ListKind → Option ℕ → Names → Option (List ℕ) → Option ℕ → Names → Option (List ℕ) → Type 0
Gets heap way d k head v old_names n w new_names =
    (before : List ℕ) → Marks v before
    → (more : List ℕ) × (whole_walk heap way before head d k ≡ whole_walk heap way (before ++ more) n d k) × Marks w (before ++ more) × (new_names ≡ option_map (λ names. names ++ more) old_names)

told_none : (old_names : Option (List ℕ)) → old_names ≡ option_map (λ names. names ++ []) old_names
told_none None = refl
told_none (Some names) = ap Some (sym (append-nil names))

told_on : (old_names : Option (List ℕ)) (a b : List ℕ) → option_map (λ names. names ++ b) (option_map (λ names. names ++ a) old_names) ≡ option_map (λ names. names ++ (a ++ b)) old_names
told_on None a b = refl
told_on (Some names) a b = ap Some (append_assoc names a b)

pub gets_begun : (heap : Heap) (way : Way) (d : ℕ) (k : ListKind) (head : Option ℕ) (v : Names) (old_names : Option (List ℕ)) → Gets heap way d k head v old_names head v old_names
gets_begun heap way d k head v old_names before marks =
    ([], ap (λ r. whole_walk heap way r head d k) (sym (append-nil before)), subst (Marks v) (sym (append-nil before)) marks, told_none old_names)

pub gets_ended : (heap : Heap) (way : Way) (d : ℕ) (k : ListKind) (head : Option ℕ) (v w : Names) (old_names new_names : Option (List ℕ)) → Gets heap way d k head v old_names None w new_names → Ends heap way head d k v old_names w new_names
gets_ended heap way d k head v w old_names new_names gets before marks =
    let g = gets before marks in
    (g.0, g.1 ∙ whole_None heap way (before ++ g.0) d k, g.2, g.3)

in_turn_Ok : (f : Lister) (r a b c : List ℕ) (l : InnerLists) → f r l.first l.kind ≡ Ok a → f a l.second l.kind ≡ Ok b → f b l.third l.kind ≡ Ok c → in_turn f r l ≡ Ok c
in_turn_Ok f r a b c l p q s =
    ap (λ x. result_and_then x (λ a. result_and_then (f a l.second l.kind) (λ b. f b l.third l.kind))) p ∙ ap (λ x. result_and_then x (λ b. f b l.third l.kind)) q ∙ s

regrouped : (before g n a b c : List ℕ) → ((((before ++ g) ++ n) ++ a) ++ b) ++ c ≡ before ++ ((((g ++ n) ++ a) ++ b) ++ c)
regrouped before g n a b c = simp append_assoc

told_all : (old_names new_names h0 h1 h2 h3 : Option (List ℕ)) (g n a b c : List ℕ) → new_names ≡ option_map (λ names. names ++ g) old_names → h0 ≡ option_map (λ names. names ++ n) new_names → h1 ≡ option_map (λ names. names ++ a) h0
    → h2 ≡ option_map (λ names. names ++ b) h1 → h3 ≡ option_map (λ names. names ++ c) h2 → h3 ≡ option_map (λ names. names ++ ((((g ++ n) ++ a) ++ b) ++ c)) old_names
told_all old_names new_names h0 h1 h2 h3 g n a b c e0 e1 e2 e3 e4 =
    let f0 = e1 ∙ ap (option_map (λ names. names ++ n)) e0 ∙ told_on old_names g n in
    let f1 = e2 ∙ ap (option_map (λ names. names ++ a)) f0 ∙ told_on old_names (g ++ n) a in
    let f2 = e3 ∙ ap (option_map (λ names. names ++ b)) f1 ∙ told_on old_names ((g ++ n) ++ a) b in
    e4 ∙ ap (option_map (λ names. names ++ c)) f2 ∙ told_on old_names (((g ++ n) ++ a) ++ b) c

-- at a node that passes its tests, with the onward that the walker took
abbrev At : Heap → Way → List ℕ → ℕ → ℕ → ListKind → Onward → Type 0
At heap way r n d k onward = whole_walk heap way r (Some n) d k ≡ result_and_then (in_turn (inner heap way d) (r ++ n ∷ []) onward.lists) (λ c. whole_walk heap way c onward.next d k)

at_node : (heap : Heap) (way : Way) (r : List ℕ) (n d : ℕ) (k : ListKind) (node : Node) (onward : Onward) → node_reached heap way r n d k ≡ Ok node → onward ≡ onward_of way node.fields → At heap way r n d k onward
at_node heap way r n d k node onward e is = subst (At heap way r n d k) (sym is) (whole_at heap way r n d k node e)

-- on by a node and its three lists
pub gets_on : (heap : Heap) (way : Way) (d : ℕ) (k : ListKind) (head : Option ℕ) (v w v0 v1 v2 v3 : Names) (old_names new_names h0 h1 h2 h3 : Option (List ℕ)) (n : ℕ) (onward : Onward)
    → Gets heap way d k head v old_names (Some n) w new_names → Comes heap way n d k w new_names v0 h0 onward
    → Ends heap way onward.lists.first (d + 1) onward.lists.kind v0 h0 v1 h1 → Ends heap way onward.lists.second (d + 1) onward.lists.kind v1 h1 v2 h2 → Ends heap way onward.lists.third (d + 1) onward.lists.kind v2 h2 v3 h3
    → Gets heap way d k head v old_names onward.next v3 h3
gets_on heap way d k head v w v0 v1 v2 v3 old_names new_names h0 h1 h2 h3 n onward gets comes e1 e2 e3 before marks =
    let g = gets before marks in
    let c = comes (before ++ g.0) g.2 in
    let r0 : List ℕ = (before ++ g.0) ++ n ∷ [] in
    let a = e1 r0 c.3 in
    let b = e2 (r0 ++ a.0) a.2 in
    let z = e3 ((r0 ++ a.0) ++ b.0) b.2 in
    let r3 : List ℕ = ((r0 ++ a.0) ++ b.0) ++ z.0 in
    let more : List ℕ = (((g.0 ++ n ∷ []) ++ a.0) ++ b.0) ++ z.0 in
    let lists = in_turn_Ok (inner heap way d) r0 (r0 ++ a.0) ((r0 ++ a.0) ++ b.0) r3 onward.lists a.1 b.1 z.1 in
    let same : r3 ≡ before ++ more = regrouped before g.0 (n ∷ []) a.0 b.0 z.0 in (
      more,
      g.1 ∙ at_node heap way (before ++ g.0) n d k c.0 onward c.1 c.2 ∙ ap (λ x. result_and_then x (λ r. whole_walk heap way r onward.next d k)) lists ∙ ap (λ r. whole_walk heap way r onward.next d k) same,
      subst (Marks v3) same z.2,
      told_all old_names new_names h0 h1 h2 h3 g.0 (n ∷ []) a.0 b.0 z.0 g.3 c.4 a.3 b.3 z.3,
    )

-- ---- where a walker stops
pub stops_at : (heap : Heap) (way : Way) (d : ℕ) (k : ListKind) (head : Option ℕ) (v w : Names) (old_names new_names : Option (List ℕ)) (n : ℕ) (why : Trouble)
    → Gets heap way d k head v old_names (Some n) w new_names → ((before : List ℕ) → Marks w before → node_reached heap way before n d k ≡ Err why) → Stops heap way head d k v why
stops_at heap way d k head v w old_names new_names n why gets refuses before marks =
    let g = gets before marks in g.1 ∙ whole_refused heap way (before ++ g.0) n d k why (refuses (before ++ g.0) g.2)

pub stops_first : (heap : Heap) (way : Way) (d : ℕ) (k : ListKind) (head : Option ℕ) (v w v0 : Names) (old_names new_names h0 : Option (List ℕ)) (n : ℕ) (onward : Onward) (why : Trouble)
    → Gets heap way d k head v old_names (Some n) w new_names → Comes heap way n d k w new_names v0 h0 onward → Stops heap way onward.lists.first (d + 1) onward.lists.kind v0 why → Stops heap way head d k v why
stops_first heap way d k head v w v0 old_names new_names h0 n onward why gets comes s before marks =
    let g = gets before marks in
    let c = comes (before ++ g.0) g.2 in
    let r0 : List ℕ = (before ++ g.0) ++ n ∷ [] in
    g.1 ∙ at_node heap way (before ++ g.0) n d k c.0 onward c.1 c.2
    ∙ ap (λ x. result_and_then (result_and_then x (λ a. result_and_then (inner heap way d a onward.lists.second onward.lists.kind) (λ b. inner heap way d b onward.lists.third onward.lists.kind))) (λ r. whole_walk heap way r onward.next d k)) (s r0 c.3)

pub stops_second : (heap : Heap) (way : Way) (d : ℕ) (k : ListKind) (head : Option ℕ) (v w v0 v1 : Names) (old_names new_names h0 h1 : Option (List ℕ)) (n : ℕ) (onward : Onward) (why : Trouble)
    → Gets heap way d k head v old_names (Some n) w new_names → Comes heap way n d k w new_names v0 h0 onward → Ends heap way onward.lists.first (d + 1) onward.lists.kind v0 h0 v1 h1
    → Stops heap way onward.lists.second (d + 1) onward.lists.kind v1 why → Stops heap way head d k v why
stops_second heap way d k head v w v0 v1 old_names new_names h0 h1 n onward why gets comes e1 s before marks =
    let g = gets before marks in
    let c = comes (before ++ g.0) g.2 in
    let r0 : List ℕ = (before ++ g.0) ++ n ∷ [] in
    let a = e1 r0 c.3 in
    g.1 ∙ at_node heap way (before ++ g.0) n d k c.0 onward c.1 c.2
    ∙ ap (λ x. result_and_then (result_and_then x (λ a. result_and_then (inner heap way d a onward.lists.second onward.lists.kind) (λ b. inner heap way d b onward.lists.third onward.lists.kind))) (λ r. whole_walk heap way r onward.next d k)) a.1
    ∙ ap (λ x. result_and_then (result_and_then x (λ b. inner heap way d b onward.lists.third onward.lists.kind)) (λ r. whole_walk heap way r onward.next d k)) (s (r0 ++ a.0) a.2)

pub stops_third : (heap : Heap) (way : Way) (d : ℕ) (k : ListKind) (head : Option ℕ) (v w v0 v1 v2 : Names) (old_names new_names h0 h1 h2 : Option (List ℕ)) (n : ℕ) (onward : Onward) (why : Trouble)
    → Gets heap way d k head v old_names (Some n) w new_names → Comes heap way n d k w new_names v0 h0 onward → Ends heap way onward.lists.first (d + 1) onward.lists.kind v0 h0 v1 h1 → Ends heap way onward.lists.second (d + 1) onward.lists.kind v1 h1 v2 h2
    → Stops heap way onward.lists.third (d + 1) onward.lists.kind v2 why → Stops heap way head d k v why
stops_third heap way d k head v w v0 v1 v2 old_names new_names h0 h1 h2 n onward why gets comes e1 e2 s before marks =
    let g = gets before marks in
    let c = comes (before ++ g.0) g.2 in
    let r0 : List ℕ = (before ++ g.0) ++ n ∷ [] in
    let a = e1 r0 c.3 in
    let b = e2 (r0 ++ a.0) a.2 in
    g.1 ∙ at_node heap way (before ++ g.0) n d k c.0 onward c.1 c.2
    ∙ ap (λ x. result_and_then (result_and_then x (λ a. result_and_then (inner heap way d a onward.lists.second onward.lists.kind) (λ b. inner heap way d b onward.lists.third onward.lists.kind))) (λ r. whole_walk heap way r onward.next d k)) a.1
    ∙ ap (λ x. result_and_then (result_and_then x (λ b. inner heap way d b onward.lists.third onward.lists.kind)) (λ r. whole_walk heap way r onward.next d k)) b.1
    ∙ ap (λ x. result_and_then x (λ r. whole_walk heap way r onward.next d k)) (s ((r0 ++ a.0) ++ b.0) b.2)

-- ---- the same with the heaps of the walker's calls, each of which is the walk's
pub fails_at : (heap hr : Heap) (way : Way) (d : ℕ) (k : ListKind) (head at : Option ℕ) (v w v0 x : Names) (old_names new_names h0 y : Option (List ℕ)) (n : ℕ) (why : Fail Trouble)
    → hr ≡ heap → Gets heap way d k head v old_names at w new_names → at ≡ Some n → Reaches hr way n d k w new_names v0 h0 (Err why) → Walks heap way head d k v old_names x y (Err why)
fails_at heap hr way d k head at v w v0 x old_names new_names h0 y n (Is why) same gets is refuses =
    stops_at heap way d k head v w old_names new_names n why (subst (λ a. Gets heap way d k head v old_names a w new_names) is gets)
    (subst (λ h. (before : List ℕ) → Marks w before → node_reached h way before n d k ≡ Err why) same refuses)
fails_at heap hr way d k head at v w v0 x old_names new_names h0 y n NoMemory same gets is refuses = tt

pub fails_first : (heap hr h1 : Heap) (way : Way) (d : ℕ) (k : ListKind) (head at : Option ℕ) (v w v0 v1 x : Names) (old_names new_names t0 t1 y : Option (List ℕ)) (n : ℕ) (onward : Onward) (why : Fail Trouble)
    → hr ≡ heap → h1 ≡ heap → Gets heap way d k head v old_names at w new_names → at ≡ Some n → Comes hr way n d k w new_names v0 t0 onward
    → Walks h1 way onward.lists.first (d + 1) onward.lists.kind v0 t0 v1 t1 (Err why) → Walks heap way head d k v old_names x y (Err why)
fails_first heap hr h1 way d k head at v w v0 v1 x old_names new_names t0 t1 y n onward (Is why) same same1 gets is comes s =
    stops_first heap way d k head v w v0 old_names new_names t0 n onward why (subst (λ a. Gets heap way d k head v old_names a w new_names) is gets) (subst (λ h. Comes h way n d k w new_names v0 t0 onward) same comes)
    (subst (λ h. Stops h way onward.lists.first (d + 1) onward.lists.kind v0 why) same1 s)
fails_first heap hr h1 way d k head at v w v0 v1 x old_names new_names t0 t1 y n onward NoMemory same same1 gets is comes s = tt

pub fails_second : (heap hr h1 h2 : Heap) (way : Way) (d : ℕ) (k : ListKind) (head at : Option ℕ) (v w v0 v1 v2 x : Names) (old_names new_names t0 t1 t2 y : Option (List ℕ)) (n : ℕ) (onward : Onward) (why : Fail Trouble)
    → hr ≡ heap → h1 ≡ heap → h2 ≡ heap → Gets heap way d k head v old_names at w new_names → at ≡ Some n → Comes hr way n d k w new_names v0 t0 onward → Ends h1 way onward.lists.first (d + 1) onward.lists.kind v0 t0 v1 t1
    → Walks h2 way onward.lists.second (d + 1) onward.lists.kind v1 t1 v2 t2 (Err why) → Walks heap way head d k v old_names x y (Err why)
fails_second heap hr h1 h2 way d k head at v w v0 v1 v2 x old_names new_names t0 t1 t2 y n onward (Is why) same same1 same2 gets is comes e1 s =
    stops_second heap way d k head v w v0 v1 old_names new_names t0 t1 n onward why (subst (λ a. Gets heap way d k head v old_names a w new_names) is gets) (subst (λ h. Comes h way n d k w new_names v0 t0 onward) same comes)
    (subst (λ h. Ends h way onward.lists.first (d + 1) onward.lists.kind v0 t0 v1 t1) same1 e1) (subst (λ h. Stops h way onward.lists.second (d + 1) onward.lists.kind v1 why) same2 s)
fails_second heap hr h1 h2 way d k head at v w v0 v1 v2 x old_names new_names t0 t1 t2 y n onward NoMemory same same1 same2 gets is comes e1 s = tt

pub fails_third : (heap hr h1 h2 h3 : Heap) (way : Way) (d : ℕ) (k : ListKind) (head at : Option ℕ) (v w v0 v1 v2 v3 x : Names) (old_names new_names t0 t1 t2 t3 y : Option (List ℕ)) (n : ℕ) (onward : Onward) (why : Fail Trouble)
    → hr ≡ heap → h1 ≡ heap → h2 ≡ heap → h3 ≡ heap → Gets heap way d k head v old_names at w new_names → at ≡ Some n → Comes hr way n d k w new_names v0 t0 onward → Ends h1 way onward.lists.first (d + 1) onward.lists.kind v0 t0 v1 t1
    → Ends h2 way onward.lists.second (d + 1) onward.lists.kind v1 t1 v2 t2 → Walks h3 way onward.lists.third (d + 1) onward.lists.kind v2 t2 v3 t3 (Err why) → Walks heap way head d k v old_names x y (Err why)
fails_third heap hr h1 h2 h3 way d k head at v w v0 v1 v2 v3 x old_names new_names t0 t1 t2 t3 y n onward (Is why) same same1 same2 same3 gets is comes e1 e2 s =
    stops_third heap way d k head v w v0 v1 v2 old_names new_names t0 t1 t2 n onward why (subst (λ a. Gets heap way d k head v old_names a w new_names) is gets) (subst (λ h. Comes h way n d k w new_names v0 t0 onward) same comes)
    (subst (λ h. Ends h way onward.lists.first (d + 1) onward.lists.kind v0 t0 v1 t1) same1 e1) (subst (λ h. Ends h way onward.lists.second (d + 1) onward.lists.kind v1 t1 v2 t2) same2 e2)
    (subst (λ h. Stops h way onward.lists.third (d + 1) onward.lists.kind v2 why) same3 s)
fails_third heap hr h1 h2 h3 way d k head at v w v0 v1 v2 v3 x old_names new_names t0 t1 t2 t3 y n onward NoMemory same same1 same2 same3 gets is comes e1 e2 s = tt

pub goes_on : (heap hr h1 h2 h3 : Heap) (way : Way) (d : ℕ) (k : ListKind) (head at : Option ℕ) (v w v0 v1 v2 v3 : Names) (old_names new_names t0 t1 t2 t3 : Option (List ℕ)) (n : ℕ) (onward : Onward)
    → hr ≡ heap → h1 ≡ heap → h2 ≡ heap → h3 ≡ heap → Gets heap way d k head v old_names at w new_names → at ≡ Some n → Comes hr way n d k w new_names v0 t0 onward → Ends h1 way onward.lists.first (d + 1) onward.lists.kind v0 t0 v1 t1
    → Ends h2 way onward.lists.second (d + 1) onward.lists.kind v1 t1 v2 t2 → Ends h3 way onward.lists.third (d + 1) onward.lists.kind v2 t2 v3 t3 → Gets heap way d k head v old_names onward.next v3 t3
goes_on heap hr h1 h2 h3 way d k head at v w v0 v1 v2 v3 old_names new_names t0 t1 t2 t3 n onward same same1 same2 same3 gets is comes e1 e2 e3 =
    gets_on heap way d k head v w v0 v1 v2 v3 old_names new_names t0 t1 t2 t3 n onward (subst (λ a. Gets heap way d k head v old_names a w new_names) is gets) (subst (λ h. Comes h way n d k w new_names v0 t0 onward) same comes)
    (subst (λ h. Ends h way onward.lists.first (d + 1) onward.lists.kind v0 t0 v1 t1) same1 e1) (subst (λ h. Ends h way onward.lists.second (d + 1) onward.lists.kind v1 t1 v2 t2) same2 e2)
    (subst (λ h. Ends h way onward.lists.third (d + 1) onward.lists.kind v2 t2 v3 t3) same3 e3)

-- along a list alone, where no list is entered
nothing_walked : (heap : Heap) (way : Way) (d : ℕ) (k : ListKind) (v : Names) (old_names : Option (List ℕ)) → Ends heap way None d k v old_names v old_names
nothing_walked heap way d k v old_names before marks = ([], whole_None heap way before d k ∙ ap Ok (sym (append-nil before)), subst (Marks v) (sym (append-nil before)) marks, told_none old_names)

along_on : (heap : Heap) (d : ℕ) (k : ListKind) (head : Option ℕ) (v w v0 : Names) (old_names new_names t0 : Option (List ℕ)) (n : ℕ) (onward : Onward)
    → Gets heap Flat d k head v old_names (Some n) w new_names → Comes heap Flat n d k w new_names v0 t0 onward → Gets heap Flat d k head v old_names onward.next v0 t0
along_on heap d k head v w v0 old_names new_names t0 n onward gets comes before marks =
    let g = gets before marks in
    let none = (comes (before ++ g.0) g.2).2 in
    let ends : (to : Option ℕ) (j : ListKind) → to ≡ None → Ends heap Flat to (d + 1) j v0 t0 v0 t0 = λ to j e. subst (λ x. Ends heap Flat x (d + 1) j v0 t0 v0 t0) (sym e) (nothing_walked heap Flat (d + 1) j v0 t0) in
    gets_on heap Flat d k head v w v0 v0 v0 v0 old_names new_names t0 t0 t0 t0 n onward gets comes
    (ends onward.lists.first onward.lists.kind (ap (λ o. o.lists.first) none)) (ends onward.lists.second onward.lists.kind (ap (λ o. o.lists.second) none)) (ends onward.lists.third onward.lists.kind (ap (λ o. o.lists.third) none)) before marks

pub goes_along : (heap hr : Heap) (d : ℕ) (k : ListKind) (head at : Option ℕ) (v w v0 : Names) (old_names new_names t0 : Option (List ℕ)) (n : ℕ) (onward : Onward)
    → hr ≡ heap → Gets heap Flat d k head v old_names at w new_names → at ≡ Some n → Comes hr Flat n d k w new_names v0 t0 onward → Gets heap Flat d k head v old_names onward.next v0 t0
goes_along heap hr d k head at v w v0 old_names new_names t0 n onward same gets is comes =
    along_on heap d k head v w v0 old_names new_names t0 n onward (subst (λ a. Gets heap Flat d k head v old_names a w new_names) is gets) (subst (λ h. Comes h Flat n d k w new_names v0 t0 onward) same comes)
