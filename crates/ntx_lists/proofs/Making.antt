-- Making copies with no links, in the order of a walk.
use Rattle.std.proofs.Common.{◌≡◌, ℕ, ◌+◌, ◌≤◌, ◌<◌, List, [], ◌∷◌, ◌++◌, Some, None, Ok, Err, sym, ◌∙◌, ap, subst, append_assoc, arith}
use Rattle.std.specs.Prelude.{Option, Result}
use Rattle.std.specs.Option.{option_and_then}
use Rattle.std.specs.FinMap as map
use Rattle.ntx_num.specs.Answer.{result_map, Steps}
use Rattle.ntx_num.specs.declared.answer.Fail.{Fail}
use Rattle.ntx_num.specs.declared.answer.Fail.TheVariants.{NoMemory, Is}
use Rattle.ntx_nodes.specs.Heap.{Heap, IsLawful}
use Rattle.ntx_nodes.specs.Steps.{of_found, copy_of, next_name, making, copy_one_step}
use Rattle.ntx_nodes.specs.Walk.{max_depth, inner_lists}
use Rattle.ntx_nodes.specs.Walker.{whole_walk}
use Rattle.ntx_nodes.specs.declared.kind.ListKind.TheVariants.{H}
use Rattle.ntx_nodes.specs.declared.kind.Way.TheVariants.{Plain}
use Rattle.ntx_nodes.specs.declared.node.Node.{Node}
use Rattle.ntx_nodes.specs.declared.trouble.Trouble.{Trouble}
use Rattle.ntx_num.proofs.Answers.{same_Ok, mapped_Ok}
use Rattle.ntx_nodes.proofs.Fuel.{passes, Extends, extends_on, walk_extends}
use Rattle.ntx_nodes.proofs.WalkSteps.{whole_None}
use Rattle.ntx_nodes.specs.Walk.{fuel_of}
use Rattle.ntx_lists.specs.Lists.{next_of}
use Rattle.ntx_lists.specs.Trees.{inner_of_found, inner_at}
use Rattle.ntx_lists.specs.Copying.{bare, Stops, Made, Makes, MakesRest}
use Rattle.ntx_nodes.specs.declared.inner.InnerLists.{InnerLists}
use Rattle.ntx_lists.proofs.Trees.{not_deep, Three, Split, split}
use Rattle.ntx_lists.proofs.CopyMaps.{given, copies_below, one_copy_more}

-- ---- where a name stands among those that a walk reaches
pub extends_whole : (heap : Heap) (r : List ℕ) (to : Option ℕ) (d : ℕ) (names : List ℕ) → whole_walk heap Plain r to d H ≡ Ok names → Extends r names
extends_whole heap r to d names e = walk_extends heap Plain (fuel_of heap) r to d H names e

pub extends_three : (heap : Heap) (d : ℕ) (i : InnerLists) (r names : List ℕ) → Three heap d i r names → Extends r names
extends_three heap d i r names t =
    extends_on r t.one names (extends_whole heap r i.first (d + 1) t.one t.first)
    (extends_on t.one t.two names (extends_whole heap t.one i.second (d + 1) t.two t.second) (extends_whole heap t.two i.third (d + 1) names t.third))

-- a node at which a walk is, and all that it reaches then
pub after_node : (heap : Heap) (r : List ℕ) (n d : ℕ) (names : List ℕ) (s : Split heap r n d names) → Extends (r ++ n ∷ []) names
after_node heap r n d names s =
    extends_on (r ++ n ∷ []) s.inside names (extends_three heap d (inner_lists s.node.fields.contents) (r ++ n ∷ []) s.inside s.lists) (extends_whole heap s.inside s.node.fields.next d names s.after)

-- ---- one copy
next_is : (heap : Heap) (n : ℕ) → next_name heap ≡ Ok n → n ≡ heap.next
next_is heap n e = grind (arith, e)

pub copied_is : (h h1 : Heap) (n c : ℕ) (node : Node) → map.get h.nodes n ≡ Some node → copy_one_step n h ≡ Ok (c, h1)
    → (c ≡ h.next) × (record { next = h.next + 1; nodes = map.insert h.nodes h.next (copy_of node); current = h.current } ≡ h1)
copied_is h h1 n c node live e =
    let f : Node → Result (ℕ × Heap) Trouble = λ node. making (copy_of node) h in
    let made : making (copy_of node) h ≡ Ok (c, h1) = sym (ap (of_found n f) live) ∙ e in
    let m = mapped_Ok {B = ℕ × Heap} (λ k. (k, record { next = k + 1; nodes = map.insert h.nodes k (copy_of node); current = h.current })) (next_name h) (c, h1) made in
    let k : m.value ≡ h.next = next_is h m.value m.is in
    let name : m.value ≡ c = ap (λ p. p.0) m.gives in
    let left : record { next = m.value + 1; nodes = map.insert h.nodes m.value (copy_of node); current = h.current } ≡ h1 = ap (λ p. p.1) m.gives in
    (sym name ∙ k, subst (λ x. record { next = x + 1; nodes = map.insert h.nodes x (copy_of node); current = h.current } ≡ h1) k left)

mapped_Err : {A B E : Type 0} (f : A → B) (r : Result A E) (e : E) → result_map f r ≡ Err e → r ≡ Err e
mapped_Err f (Ok a) e x = cc
mapped_Err f (Err y) e x = cc

refused_is : (h : Heap) (n : ℕ) (node : Node) (why : Trouble) → map.get h.nodes n ≡ Some node → copy_one_step n h ≡ Err why → next_name h ≡ Err why
refused_is h n node why live e =
    let f : Node → Result (ℕ × Heap) Trouble = λ node. making (copy_of node) h in
    mapped_Err {B = ℕ × Heap} (λ k. (k, record { next = k + 1; nodes = map.insert h.nodes k (copy_of node); current = h.current })) (next_name h) why (sym (ap (of_found n f) live) ∙ e)

-- ---- copies on the way
-- from the head to a list that is left
abbrev pub MakesOn : Heap → Heap → Option ℕ → Option ℕ → ℕ → Type 0
MakesOn old new head at depth =
    (whole : Heap) (before names : List ℕ) → IsLawful whole → old ≡ bare whole before → whole_walk whole Plain before head depth H ≡ Ok names
    → (more : List ℕ) × (new ≡ bare whole more) × (whole_walk whole Plain more at depth H ≡ Ok names)

pub makes_begun : (heap : Heap) (head : Option ℕ) (depth : ℕ) → MakesOn heap heap head head depth
makes_begun heap head depth whole before names lawful is e = (before, is, e)

pub makes_ended : (old new : Heap) (head : Option ℕ) (depth : ℕ) → MakesOn old new head None depth → Makes old new head depth (Ok tt)
makes_ended old new head depth makes whole before names lawful is e =
    let f = makes whole before names lawful is e in
    f.1 ∙ ap (bare whole) (same_Ok f.0 names (sym (whole_None whole Plain f.0 depth H) ∙ f.2))

-- the node at which the walk is, in the heap with copies
pub record Here (whole h : Heap) (mid : List ℕ) (n depth : ℕ) (names : List ℕ) : Type 0 where
  pub split : Split whole mid n depth names
  pub live : map.get whole.nodes n ≡ Some split.node
  pub there : map.get h.nodes n ≡ Some split.node
  pub shallow : depth ≤ max_depth

pub here : (whole h : Heap) (mid : List ℕ) (at : Option ℕ) (n depth : ℕ) (names : List ℕ) → IsLawful whole → h ≡ bare whole mid → at ≡ Some n → whole_walk whole Plain mid at depth H ≡ Ok names → Here whole h mid n depth names
here whole h mid at n depth names lawful is comes e =
    let s = split whole mid n depth names (subst (λ o. whole_walk whole Plain mid o depth H ≡ Ok names) comes e) in
    let p = passes whole Plain mid n depth H s.node s.here in
    record {
      split = s;
      live = p.live;
      there = ap (λ (x : Heap). map.get x.nodes n) is ∙ copies_below whole (λ _ node. copy_of node) mid n (given whole n s.node lawful p.live) ∙ p.live;
      shallow = not_deep depth p.shallow;
    }

pub one_made : (whole h h1 : Heap) (mid : List ℕ) (n c : ℕ) (node : Node) → h ≡ bare whole mid → map.get whole.nodes n ≡ Some node → map.get h.nodes n ≡ Some node → copy_one_step n h ≡ Ok (c, h1) → h1 ≡ bare whole (mid ++ n ∷ [])
one_made whole h h1 mid n c node is live there e =
    sym (copied_is h h1 n c node there e).1
    ∙ ap (λ (x : Heap). record { next = x.next + 1; nodes = map.insert x.nodes x.next (copy_of node); current = x.current }) is
    ∙ one_copy_more whole (λ _ node. copy_of node) mid n node live

-- what stands when a node has been copied
pub record Turned (whole h1 : Heap) (mid : List ℕ) (n depth : ℕ) (names : List ℕ) (inner : InnerLists) (next : Option ℕ) : Type 0 where
  pub inside : List ℕ
  pub made : h1 ≡ bare whole (mid ++ n ∷ [])
  pub lists : Three whole depth inner (mid ++ n ∷ []) inside
  pub after : whole_walk whole Plain inside next depth H ≡ Ok names

pub turned : (old h h1 whole : Heap) (head at next : Option ℕ) (n c depth : ℕ) (lists : InnerLists) (before names : List ℕ) → MakesOn old h head at depth → at ≡ Some n → lists ≡ inner_at h n → next ≡ next_of h n → copy_one_step n h ≡ Ok (c, h1)
    → IsLawful whole → old ≡ bare whole before → whole_walk whole Plain before head depth H ≡ Ok names → (mid : List ℕ) × Turned whole h1 mid n depth names lists next
turned old h h1 whole head at next n c depth lists before names makes comes lists_is next_is e lawful is walks =
    let f = makes whole before names lawful is walks in
    let x = here whole h f.0 at n depth names lawful f.1 comes f.2 in
    let l : inner_lists x.split.node.fields.contents ≡ lists = sym (lists_is ∙ ap inner_of_found x.there) in
    let follows : x.split.node.fields.next ≡ next = sym (next_is ∙ ap (option_and_then (λ (node : Node). node.fields.next)) x.there) in (
      f.0,
      record {
        inside = x.split.inside;
        made = one_made whole h h1 f.0 n c x.split.node f.1 x.live x.there e;
        lists = subst (λ i. Three whole depth i (f.0 ++ n ∷ []) x.split.inside) l x.split.lists;
        after = subst (λ o. whole_walk whole Plain x.split.inside o depth H ≡ Ok names) follows x.split.after;
      },
    )

pub make_turn : (old h h1 h2 h3 h4 : Heap) (head at next : Option ℕ) (n c depth : ℕ) (lists : InnerLists) (u v w : Unit {0}) → MakesOn old h head at depth → at ≡ Some n → lists ≡ inner_at h n → next ≡ next_of h n → copy_one_step n h ≡ Ok (c, h1)
    → Makes h1 h2 lists.first (depth + 1) (Ok u) → Makes h2 h3 lists.second (depth + 1) (Ok v) → Makes h3 h4 lists.third (depth + 1) (Ok w) → MakesOn old h4 head next depth
make_turn old h h1 h2 h3 h4 head at next n c depth lists u v w makes comes lists_is next_is e f1 f2 f3 whole before names lawful is walks =
    let p = turned old h h1 whole head at next n c depth lists before names makes comes lists_is next_is e lawful is walks in
    let t = p.1 in
    let e1 = f1 whole (p.0 ++ n ∷ []) t.lists.one lawful t.made t.lists.first in
    let e2 = f2 whole t.lists.one t.lists.two lawful e1 t.lists.second in
    (t.inside, f3 whole t.lists.two t.inside lawful e2 t.lists.third, t.after)

-- ---- a making that is refused
stops_later : (whole new : Heap) (a b : List ℕ) → Extends a b → Stops whole new a → Stops whole new b
stops_later whole new a b x s =
    record { made = s.made; n = s.n; rest = s.rest ++ x.more; is = x.is ∙ ap (λ y. y ++ x.more) s.is ∙ append_assoc s.made (s.n ∷ s.rest) x.more; left = s.left }

pub made_later : (whole new : Heap) (a b : List ℕ) (e : Fail Trouble) → Extends a b → Made whole a new (Err e) → Made whole b new (Err e)
made_later whole new a b (Is why) x s = (stops_later whole new a b x s.0, s.1)
made_later whole new a b NoMemory x s = stops_later whole new a b x s

stops_here : (whole h h1 : Heap) (mid : List ℕ) (n : ℕ) (names : List ℕ) → h ≡ bare whole mid → Extends (mid ++ n ∷ []) names → h1 ≡ h → Stops whole h1 names
stops_here whole h h1 mid n names is x same = record { made = mid; n = n; rest = x.more; is = x.is ∙ append_assoc mid (n ∷ []) x.more; left = same ∙ is }

pub copy_refused : (whole h h1 : Heap) (mid : List ℕ) (n : ℕ) (names : List ℕ) (node : Node) (e : Fail Trouble) → h ≡ bare whole mid → Extends (mid ++ n ∷ []) names → map.get h.nodes n ≡ Some node → Steps {A = ℕ} (Err e) h h1 (copy_one_step n h) → Made whole names h1 (Err e)
copy_refused whole h h1 mid n names node (Is why) is x there s = (stops_here whole h h1 mid n names is x s.1, ap next_name s.1 ∙ refused_is h n node why there s.0)
copy_refused whole h h1 mid n names node NoMemory is x there s = stops_here whole h h1 mid n names is x s

pub make_refused : (old h h1 : Heap) (head at : Option ℕ) (n depth : ℕ) (e : Fail Trouble) → MakesOn old h head at depth → at ≡ Some n → Steps {A = ℕ} (Err e) h h1 (copy_one_step n h) → Makes old h1 head depth (Err e)
make_refused old h h1 head at n depth e makes comes s whole before names lawful is walks =
    let f = makes whole before names lawful is walks in
    let x = here whole h f.0 at n depth names lawful f.1 comes f.2 in
    copy_refused whole h h1 f.0 n names x.split.node e f.1 (after_node whole f.0 n depth names x.split) x.there s

pub make_deep : (old h new : Heap) (head at : Option ℕ) (n depth : ℕ) (e : Fail Trouble) → MakesOn old h head at depth → at ≡ Some n → max_depth < depth → Makes old new head depth (Err e)
make_deep old h new head at n depth e makes comes deep whole before names lawful is walks =
    let f = makes whole before names lawful is walks in
    let x = here whole h f.0 at n depth names lawful f.1 comes f.2 in
    let shallow : depth ≤ max_depth = x.shallow in
    absurd (omega arith)

-- what is reached after the inner lists begun
pub make_first : (old h h1 h2 : Heap) (head at next : Option ℕ) (n c depth : ℕ) (lists : InnerLists) (e : Fail Trouble) → MakesOn old h head at depth → at ≡ Some n → lists ≡ inner_at h n → next ≡ next_of h n → copy_one_step n h ≡ Ok (c, h1)
    → Makes h1 h2 lists.first (depth + 1) (Err e) → Makes old h2 head depth (Err e)
make_first old h h1 h2 head at next n c depth lists e makes comes lists_is next_is step f1 whole before names lawful is walks =
    let p = turned old h h1 whole head at next n c depth lists before names makes comes lists_is next_is step lawful is walks in
    let t = p.1 in
    let x3 = extends_whole whole t.lists.one lists.second (depth + 1) t.lists.two t.lists.second in
    let x4 = extends_whole whole t.lists.two lists.third (depth + 1) t.inside t.lists.third in
    let x5 = extends_whole whole t.inside next depth names t.after in
    made_later whole h2 t.lists.one names e (extends_on t.lists.one t.lists.two names x3 (extends_on t.lists.two t.inside names x4 x5)) (f1 whole (p.0 ++ n ∷ []) t.lists.one lawful t.made t.lists.first)

pub make_second : (old h h1 h2 h3 : Heap) (head at next : Option ℕ) (n c depth : ℕ) (lists : InnerLists) (u : Unit {0}) (e : Fail Trouble) → MakesOn old h head at depth → at ≡ Some n → lists ≡ inner_at h n → next ≡ next_of h n → copy_one_step n h ≡ Ok (c, h1)
    → Makes h1 h2 lists.first (depth + 1) (Ok u) → Makes h2 h3 lists.second (depth + 1) (Err e) → Makes old h3 head depth (Err e)
make_second old h h1 h2 h3 head at next n c depth lists u e makes comes lists_is next_is step f1 f2 whole before names lawful is walks =
    let p = turned old h h1 whole head at next n c depth lists before names makes comes lists_is next_is step lawful is walks in
    let t = p.1 in
    let e1 = f1 whole (p.0 ++ n ∷ []) t.lists.one lawful t.made t.lists.first in
    let x4 = extends_whole whole t.lists.two lists.third (depth + 1) t.inside t.lists.third in
    let x5 = extends_whole whole t.inside next depth names t.after in
    made_later whole h3 t.lists.two names e (extends_on t.lists.two t.inside names x4 x5) (f2 whole t.lists.one t.lists.two lawful e1 t.lists.second)

pub make_third : (old h h1 h2 h3 h4 : Heap) (head at next : Option ℕ) (n c depth : ℕ) (lists : InnerLists) (u v : Unit {0}) (e : Fail Trouble) → MakesOn old h head at depth → at ≡ Some n → lists ≡ inner_at h n → next ≡ next_of h n → copy_one_step n h ≡ Ok (c, h1)
    → Makes h1 h2 lists.first (depth + 1) (Ok u) → Makes h2 h3 lists.second (depth + 1) (Ok v) → Makes h3 h4 lists.third (depth + 1) (Err e) → Makes old h4 head depth (Err e)
make_third old h h1 h2 h3 h4 head at next n c depth lists u v e makes comes lists_is next_is step f1 f2 f3 whole before names lawful is walks =
    let p = turned old h h1 whole head at next n c depth lists before names makes comes lists_is next_is step lawful is walks in
    let t = p.1 in
    let e1 = f1 whole (p.0 ++ n ∷ []) t.lists.one lawful t.made t.lists.first in
    let e2 = f2 whole t.lists.one t.lists.two lawful e1 t.lists.second in
    made_later whole h4 t.inside names e (extends_whole whole t.inside next depth names t.after) (f3 whole t.lists.two t.inside lawful e2 t.lists.third)

-- ---- all after a first node
pub rest_first : (h h1 : Heap) (lists : InnerLists) (next : Option ℕ) (e : Fail Trouble) → Makes h h1 lists.first 1 (Err e) → MakesRest h h1 lists next (Err e)
rest_first h h1 lists next e f1 whole n one two three names lawful is w1 w2 w3 w4 =
    let x2 = extends_whole whole one lists.second 1 two w2 in
    let x3 = extends_whole whole two lists.third 1 three w3 in
    let x4 = extends_whole whole three next 0 names w4 in
    made_later whole h1 one names e (extends_on one two names x2 (extends_on two three names x3 x4)) (f1 whole (n ∷ []) one lawful is w1)

pub rest_second : (h h1 h2 : Heap) (lists : InnerLists) (next : Option ℕ) (u : Unit {0}) (e : Fail Trouble) → Makes h h1 lists.first 1 (Ok u) → Makes h1 h2 lists.second 1 (Err e) → MakesRest h h2 lists next (Err e)
rest_second h h1 h2 lists next u e f1 f2 whole n one two three names lawful is w1 w2 w3 w4 =
    let e1 = f1 whole (n ∷ []) one lawful is w1 in
    let x3 = extends_whole whole two lists.third 1 three w3 in
    let x4 = extends_whole whole three next 0 names w4 in
    made_later whole h2 two names e (extends_on two three names x3 x4) (f2 whole one two lawful e1 w2)

pub rest_third : (h h1 h2 h3 : Heap) (lists : InnerLists) (next : Option ℕ) (u v : Unit {0}) (e : Fail Trouble) → Makes h h1 lists.first 1 (Ok u) → Makes h1 h2 lists.second 1 (Ok v) → Makes h2 h3 lists.third 1 (Err e) → MakesRest h h3 lists next (Err e)
rest_third h h1 h2 h3 lists next u v e f1 f2 f3 whole n one two three names lawful is w1 w2 w3 w4 =
    let e1 = f1 whole (n ∷ []) one lawful is w1 in
    let e2 = f2 whole one two lawful e1 w2 in
    made_later whole h3 three names e (extends_whole whole three next 0 names w4) (f3 whole two three lawful e2 w3)

pub rest_last : (h h1 h2 h3 h4 : Heap) (lists : InnerLists) (next : Option ℕ) (u v w : Unit {0}) (r : Result (Unit {0}) (Fail Trouble)) → Makes h h1 lists.first 1 (Ok u) → Makes h1 h2 lists.second 1 (Ok v) → Makes h2 h3 lists.third 1 (Ok w)
    → Makes h3 h4 next 0 r → MakesRest h h4 lists next r
rest_last h h1 h2 h3 h4 lists next u v w r f1 f2 f3 f4 whole n one two three names lawful is w1 w2 w3 w4 =
    f4 whole three names lawful (f3 whole two three lawful (f2 whole one two lawful (f1 whole (n ∷ []) one lawful is w1) w2) w3) w4
