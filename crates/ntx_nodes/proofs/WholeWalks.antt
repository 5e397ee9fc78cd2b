-- Walks from the begin, by what a walker does from no marks.
use Rattle.std.proofs.Common.{◌≡◌, ℕ, List, [], ◌++◌, Some, None, Ok, Err, sym, ◌∙◌, ap, subst}
use Rattle.std.specs.Prelude.{Option, Result, IfOk}
use Rattle.std.specs.Option.{option_map}
use Rattle.std.specs.Ordering.{nat_cmp}
use Rattle.std.specs.FinSet as set
use Rattle.ntx_num.specs.Answer.{result_map, Answers}
use Rattle.ntx_num.specs.declared.answer.Fail.{Fail}
use Rattle.ntx_num.specs.declared.answer.Fail.TheVariants.{NoMemory, Is}
use Rattle.ntx_nodes.specs.Heap.{Heap, Names}
use Rattle.ntx_nodes.specs.Walk.{walk_from}
use Rattle.ntx_nodes.specs.Walker.{Marks, Ends, Walks, WalksOn, NamesOn}
use Rattle.ntx_nodes.specs.declared.kind.ListKind.{ListKind}
use Rattle.ntx_nodes.specs.declared.kind.Way.{Way}
use Rattle.ntx_nodes.specs.declared.trouble.Trouble.{Trouble}

no_marks : (v : Names) → v ≡ set.empty → Marks v []
no_marks v e q = ap (λ s. set.contains s q) e ∙ set.contains-empty nat_cmp q

visited_case : (heap : Heap) (way : Way) (head : Option ℕ) (k : ListKind) (v w : Names) (r : Result (Unit {0}) Trouble) → v ≡ set.empty → WalksOn heap way head 0 k v w r
    → (r ≡ result_map (λ _. tt) (walk_from heap way head k)) × IfOk (walk_from heap way head k) (λ names. Marks w names)
visited_case heap way head k v w (Ok u) e walks =
    let m = walks [] (no_marks v e) in
    (ap (result_map {B = Unit {0}} (λ _. tt)) (sym m.1), subst (λ (x : Result (List ℕ) Trouble). IfOk x (λ names. Marks w names)) (sym m.1) m.2)
visited_case heap way head k v w (Err why) e walks =
    let m = walks [] (no_marks v e) in
    (ap (result_map {B = Unit {0}} (λ _. tt)) (sym m), subst (λ (x : Result (List ℕ) Trouble). IfOk x (λ names. Marks w names)) (sym m) tt)

pub visited_from : (heap h : Heap) (way : Way) (head : Option ℕ) (k : ListKind) (v w : Names) (r : Result (Unit {0}) Trouble) → h ≡ heap → v ≡ set.empty → WalksOn h way head 0 k v w r
    → (r ≡ result_map (λ _. tt) (walk_from heap way head k)) × IfOk (walk_from heap way head k) (λ names. Marks w names)
visited_from heap h way head k v w r same e walks = visited_case heap way head k v w r e (subst (λ x. WalksOn x way head 0 k v w r) same walks)

some_same : (items more : List ℕ) (new_names : Option (List ℕ)) → option_map (λ _. items) new_names ≡ new_names → new_names ≡ Some more → items ≡ more
some_same items more None e f = cc
some_same items more (Some x) e f = cc

-- the names that a walker collects, after those before
pub names_told : (heap : Heap) (way : Way) (head : Option ℕ) (d : ℕ) (k : ListKind) (v w : Names) (old_names new_names : Option (List ℕ)) (start items : List ℕ) → old_names ≡ Some start → Ends heap way head d k v old_names w new_names
    → option_map (λ _. items) new_names ≡ new_names → NamesOn heap way head d k v start w (Ok items)
names_told heap way head d k v w old_names new_names start items begun ends kept before marks =
    let m = ends before marks in
    let more : new_names ≡ Some (start ++ m.0) = m.3 ∙ ap (option_map (λ names. names ++ m.0)) begun in
    (m.0, m.1, m.2, some_same items (start ++ m.0) new_names kept more)

pub names_stopped : (heap : Heap) (way : Way) (head : Option ℕ) (d : ℕ) (k : ListKind) (v w : Names) (old_names new_names : Option (List ℕ)) (start : List ℕ) (why : Fail Trouble) → Walks heap way head d k v old_names w new_names (Err why)
    → NamesOn heap way head d k v start w (Err why)
names_stopped heap way head d k v w old_names new_names start (Is why) stops = stops
names_stopped heap way head d k v w old_names new_names start NoMemory stops = tt

names_case : (heap : Heap) (way : Way) (head : Option ℕ) (k : ListKind) (v w : Names) (r : Result (List ℕ) (Fail Trouble)) → v ≡ set.empty → NamesOn heap way head 0 k v [] w r → Answers r (walk_from heap way head k)
names_case heap way head k v w (Ok items) e names = let m = names [] (no_marks v e) in m.1 ∙ ap Ok (sym m.3)
names_case heap way head k v w (Err (Is why)) e stops = stops [] (no_marks v e)
names_case heap way head k v w (Err NoMemory) e names = tt

pub names_from : (heap h : Heap) (way : Way) (head : Option ℕ) (k : ListKind) (v w : Names) (old_names : List ℕ) (r : Result (List ℕ) (Fail Trouble)) → h ≡ heap → v ≡ set.empty → old_names ≡ [] → NamesOn h way head 0 k v old_names w r
    → Answers r (walk_from heap way head k)
names_from heap h way head k v w old_names r same e nothing names =
    names_case heap way head k v w r e (subst (λ x. NamesOn x way head 0 k v [] w r) same (subst (λ x. NamesOn h way head 0 k v x w r) nothing names))
