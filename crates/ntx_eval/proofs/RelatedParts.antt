-- What is built of related parts is related: calls, fields, expressions and loops.
use Rattle.std.proofs.Common.{◌≡◌, refl, ℕ, zero, suc, ◌+◌, ◌≤◌, Bool, true, false, cond, List, [], ◌∷◌, ℤ, pos, negsuc, ◌+ℤ◌, Ok, subst, le_of_suc-le-suc, not-suc-le-zero}
use Rattle.ntx_values.specs.Value.{is_nil}
use Rattle.ntx_values.specs.Table.{value_at}
use Rattle.ntx_values.specs.State.{table_of}
use Rattle.ntx_values.specs.Steps.{set_step}
use Rattle.ntx_values.specs.declared.value.Value.{Value}
use Rattle.ntx_values.specs.declared.value.Value.TheVariants as value
use Rattle.ntx_values.specs.declared.value.TableId.{TableId}
use Rattle.ntx_values.specs.declared.primitive.Primitive.{Primitive}
use Rattle.ntx_syntax.specs.declared.tree.BinaryOp.{BinaryOp}
use Rattle.ntx_eval.specs.State.{Flow, onward, broken, returned}
use Rattle.ntx_eval.specs.Host.{World}
use Rattle.ntx_eval.specs.Ending.{Action, give, ◌>>=◌, ◌>>◌}
use Rattle.ntx_eval.specs.Operators.{is_decided}
use Rattle.ntx_eval.specs.Variables.{Here, first}
use Rattle.ntx_eval.specs.Setting.{Setting, call, follow_at_most, host_call}
use Rattle.ntx_eval.specs.Fields.{read_node_field, write_node_field, read_field, write_field}
use Rattle.ntx_eval.specs.Parts.{ExpMeaning, SuffixMeaning, FieldMeaning, OperationMeaning, BlockMeaning}
use Rattle.ntx_eval.specs.Expressions.{one, first_of, all_values, operation, operations, suffixes, place_value, place_values, fill}
use Rattle.ntx_eval.specs.Loops.{unless_left, turn, holds, while_loop, repeat_loop, is_within_limit, numeric_loop, numeric_for, generic_loop}
use Rattle.ntx_eval.specs.declared.host.HostStep.{HostStep}
use Rattle.ntx_eval.specs.declared.host.HostStep.TheVariants as step
use Rattle.ntx_eval.proofs.Related.{Kept, of_stores, binds, host_faults}

-- two lists of as many, each pair related
abbrev pub Both : {A : Type 0} → (A → A → Type 0) → List A → List A → Type 0
Both P [] [] = Unit {0}
Both P [] (y ∷ ys) = ⊥
Both P (x ∷ xs) [] = ⊥
Both P (x ∷ xs) (y ∷ ys) = P x y × Both P xs ys

-- the setting that is meant
abbrev pub given : {S : Type 0} → World S → ℕ → (Value → List Value → ℕ → Action S (List Value)) → Setting S
given world most enter = record { world = world; most = most; enter = enter }

module _ {S : Type 0} (R : (A : Type 0) → Action S A → Action S A → Type 0) (kept : Kept R) where
  abbrev pub Exps : ExpMeaning S → ExpMeaning S → Type 0
  Exps m m' = (here : Here) → R _ (m here) (m' here)

  abbrev pub Suffixes : SuffixMeaning S → SuffixMeaning S → Type 0
  Suffixes m m' = (v : Value) (here : Here) → R _ (m v here) (m' v here)

  abbrev pub Fields : FieldMeaning S → FieldMeaning S → Type 0
  Fields m m' = (t : TableId) (n : ℕ) (last : Bool) (here : Here) → R _ (m t n last here) (m' t n last here)

  abbrev pub Operations : OperationMeaning S → OperationMeaning S → Type 0
  Operations o o' = (o.0 ≡ o'.0) × Exps o.1 o'.1

  abbrev pub Blocks : BlockMeaning S → BlockMeaning S → Type 0
  Blocks m m' = (here : Here) → R _ (m here) (m' here)

  pub ones : {m m' : Action S Value} → R _ m m' → R _ (one m) (one m')
  ones p = kept.then_ p (λ v. kept.gives _)

  pub firsts : {m m' : Action S (List Value)} → R _ m m' → R _ (first_of m) (first_of m')
  firsts p = kept.then_ p (λ vs. kept.gives _)

  pub alls : (ms ms' : List (ExpMeaning S)) → Both Exps ms ms' → Exps (all_values ms) (all_values ms')
  alls [] [] b here = kept.gives []
  alls [] (m' ∷ ms') b here = absurd b
  alls (m ∷ ms) [] b here = absurd b
  alls (m ∷ []) (m' ∷ []) b here = b.0 here
  alls (m ∷ []) (m' ∷ k' ∷ ms') b here = absurd b.1
  alls (m ∷ k ∷ ms) (m' ∷ []) b here = absurd b.1
  alls (m ∷ k ∷ ms) (m' ∷ k' ∷ ms') b here = kept.then_ (firsts (b.0 here)) (λ v. kept.then_ (alls (k ∷ ms) (k' ∷ ms') b.1 here) (λ vs. kept.gives _))

  decided : (op : BinaryOp) (a : Value) (m m' : ExpMeaning S) → Exps m m' → (here : Here) (t : Bool) → is_decided op a ≡ t → R _ (operation op a m here) (operation op a m' here)
  decided op a m m' p here true is = rw is (kept.gives a)
  decided op a m m' p here false is = rw is (kept.then_ (firsts (p here)) (λ b. kept.stores here.line _))

  pub one_operation : (op : BinaryOp) (a : Value) (m m' : ExpMeaning S) → Exps m m' → (here : Here) → R _ (operation op a m here) (operation op a m' here)
  one_operation op a m m' p here = decided op a m m' p here (is_decided op a) refl

  pub each_operation : (os os' : List (OperationMeaning S)) → Both Operations os os' → (a : Value) (here : Here) → R _ (operations os a here) (operations os' a here)
  each_operation [] [] b a here = kept.gives a
  each_operation [] (o' ∷ os') b a here = absurd b
  each_operation (o ∷ os) [] b a here = absurd b
  each_operation (o ∷ os) (o' ∷ os') b a here = kept.then_
      (subst (λ op. R _ (operation o.0 a o.1 here) (operation op a o'.1 here)) b.0.0 (one_operation o.0 a o.1 o'.1 b.0.1 here))
      (λ v. each_operation os os' b.1 v here)

  pub each_suffix : (ms ms' : List (SuffixMeaning S)) → Both Suffixes ms ms' → (vs : List Value) (here : Here) → R _ (suffixes ms vs here) (suffixes ms' vs here)
  each_suffix [] [] b vs here = kept.gives vs
  each_suffix [] (m' ∷ ms') b vs here = absurd b
  each_suffix (m ∷ ms) [] b vs here = absurd b
  each_suffix (m ∷ ms) (m' ∷ ms') b vs here = kept.then_ (b.0 (first vs) here) (λ results. each_suffix ms ms' b.1 results here)

  pub fills : (ms ms' : List (FieldMeaning S)) → Both Fields ms ms' → (t : TableId) (n : ℕ) (here : Here) → R _ (fill ms t n here) (fill ms' t n here)
  fills [] [] b t n here = kept.gives tt
  fills [] (m' ∷ ms') b t n here = absurd b
  fills (m ∷ ms) [] b t n here = absurd b
  fills (m ∷ []) (m' ∷ []) b t n here = kept.then_ (b.0 t n true here) (λ _. kept.gives tt)
  fills (m ∷ []) (m' ∷ k' ∷ ms') b t n here = absurd b.1
  fills (m ∷ k ∷ ms) (m' ∷ []) b t n here = absurd b.1
  fills (m ∷ k ∷ ms) (m' ∷ k' ∷ ms') b t n here = kept.then_ (b.0 t n false here) (λ next. fills (k ∷ ms) (k' ∷ ms') b.1 t next here)

  -- ---- loops

  pub unless : (flow : Flow) {m m' : Action S Flow} → R _ m m' → R _ (unless_left flow m) (unless_left flow m')
  unless onward p = p
  unless broken p = kept.gives onward
  unless (returned vs) p = kept.gives (returned vs)

  pub turns : (names : List (List ℕ)) (vs : List Value) (b b' : BlockMeaning S) → Blocks b b' → (here : Here) → R _ (turn names vs b here) (turn names vs b' here)
  turns names vs b b' p here = kept.then_ (binds R kept names vs here.scope) (λ scope. kept.then_ (p _) (λ ended. kept.gives _))

  pub holdings : (m m' : ExpMeaning S) → Exps m m' → (here : Here) → R _ (holds m here) (holds m' here)
  holdings m m' p here = kept.then_ (p here) (λ vs. kept.gives _)

  pub whiles : (n n' : ℕ) → n ≤ n' → (m m' : ExpMeaning S) → Exps m m' → (b b' : BlockMeaning S) → Blocks b b' → (here : Here) → R _ (while_loop n m b here) (while_loop n' m' b' here)
  whiles zero n' most m m' p b b' q here = kept.ends here.line _
  whiles (suc n) zero most m m' p b b' q here = absurd (not-suc-le-zero most)
  whiles (suc n) (suc n') most m m' p b b' q here = kept.then_ (kept.charges here.line) (λ _. kept.then_ (holdings m m' p here) (goes (whiles n n' (le_of_suc-le-suc most) m m' p b b' q here)))
    where
      goes : R _ (while_loop n m b here) (while_loop n' m' b' here) → (t : Bool) → R _ (cond t (turn [] [] b here >>= λ flow. unless_left flow (while_loop n m b here)) (give onward)) (cond t (turn [] [] b' here >>= λ flow. unless_left flow (while_loop n' m' b' here)) (give onward))
      goes rest true = kept.then_ (turns [] [] b b' q here) (λ flow. unless flow rest)
      goes rest false = kept.gives onward

  pub repeats : (n n' : ℕ) → n ≤ n' → (b b' : BlockMeaning S) → Blocks b b' → (m m' : ExpMeaning S) → Exps m m' → (here : Here) → R _ (repeat_loop n b m here) (repeat_loop n' b' m' here)
  repeats zero zero most b b' q m m' p here = kept.then_ (q here) (λ ended. unless ended.0 (kept.ends here.line _))
  repeats zero (suc n') most b b' q m m' p here = kept.then_ (q here) (λ ended. unless ended.0 (kept.ends here.line _))
  repeats (suc n) zero most b b' q m m' p here = absurd (not-suc-le-zero most)
  repeats (suc n) (suc n') most b b' q m m' p here =
      kept.then_ (q here) (λ ended. unless ended.0 (kept.then_ (kept.then_ (kept.charges here.line) (λ _. holdings m m' p _)) (goes (repeats n n' (le_of_suc-le-suc most) b b' q m m' p here))))
    where
      goes : R _ (repeat_loop n b m here) (repeat_loop n' b' m' here) → (t : Bool) → R _ (cond t (give onward) (repeat_loop n b m here)) (cond t (give onward) (repeat_loop n' b' m' here))
      goes rest true = kept.gives onward
      goes rest false = rest

  pub numerics : (n n' : ℕ) → n ≤ n' → (name : List ℕ) (limit by : ℤ) (b b' : BlockMeaning S) → Blocks b b' → (here : Here) (i : ℤ) → R _ (numeric_loop n name limit by b here i) (numeric_loop n' name limit by b' here i)
  numerics zero n' most name limit by b b' q here i = kept.ends here.line _
  numerics (suc n) zero most name limit by b b' q here i = absurd (not-suc-le-zero most)
  numerics (suc n) (suc n') most name limit by b b' q here i = kept.then_ (kept.charges here.line) (λ _. goes (numerics n n' (le_of_suc-le-suc most) name limit by b b' q here (i +ℤ by)) (is_within_limit limit by i))
    where
      goes : R _ (numeric_loop n name limit by b here (i +ℤ by)) (numeric_loop n' name limit by b' here (i +ℤ by)) → (t : Bool) → R _ (cond t (turn (name ∷ []) (value.Int i ∷ []) b here >>= λ flow. unless_left flow (numeric_loop n name limit by b here (i +ℤ by))) (give onward))
          (cond t (turn (name ∷ []) (value.Int i ∷ []) b' here >>= λ flow. unless_left flow (numeric_loop n' name limit by b' here (i +ℤ by))) (give onward))
      goes rest true = kept.then_ (turns (name ∷ []) (value.Int i ∷ []) b b' q here) (λ flow. unless flow rest)
      goes rest false = kept.gives onward

  pub numeric_fors : (n n' : ℕ) → n ≤ n' → (name : List ℕ) (start limit by : Value) (b b' : BlockMeaning S) → Blocks b b' → (here : Here) → R _ (numeric_for n name start limit by b here) (numeric_for n' name start limit by b' here)
  numeric_fors n n' most name (value.Int i) (value.Int limit) (value.Int (pos zero)) b b' q here = kept.stops _
  numeric_fors n n' most name (value.Int i) (value.Int limit) (value.Int (pos (suc k))) b b' q here = numerics n n' most name limit (pos (suc k)) b b' q here i
  numeric_fors n n' most name (value.Int i) (value.Int limit) (value.Int (negsuc k)) b b' q here = numerics n n' most name limit (negsuc k) b b' q here i
  numeric_fors n n' most name _ _ _ b b' q here = kept.stops _

-- The first run has a bound of n, and the second one of n', which is no less.
module _ {S : Type 0} (R : (A : Type 0) → Action S A → Action S A → Type 0) (kept : Kept R) (world : World S) (n n' : ℕ) (most : n ≤ n')
    (enter enter' : Value → List Value → ℕ → Action S (List Value)) (entered : (f : Value) (args : List Value) (line : ℕ) → R _ (enter f args line) (enter' f args line)) where
  abbrev run : Setting S
  run = given world n enter

  abbrev run' : Setting S
  run' = given world n' enter'

  pub calls : (f : Value) (args : List Value) (line : ℕ) → R _ (call run f args line) (call run' f args line)
  calls f args line = kept.then_ (kept.charges line) (λ _. entered f args line)

  follows_by : (k k' : ℕ) → k ≤ k' → (answer : HostStep) (line : ℕ) → R _ (follow_at_most run k answer line) (follow_at_most run' k' answer line)
  follows_by k k' at_most (step.Done vs) line = kept.gives vs
  follows_by k k' at_most (step.Fail why) line = host_faults R kept why line
  follows_by zero k' at_most (step.Call f args) line = kept.ends line _
  follows_by (suc k) zero at_most (step.Call f args) line = absurd (not-suc-le-zero at_most)
  follows_by (suc k) (suc k') at_most (step.Call f args) line =
      kept.then_ (calls f args line) (λ vs. kept.then_ (kept.asks_host _) (λ next. follows_by k k' (le_of_suc-le-suc at_most) next line))

  pub follows : (answer : HostStep) (line : ℕ) → R _ (follow_at_most run n answer line) (follow_at_most run' n' answer line)
  follows answer line = follows_by n n' most answer line

  pub host_calls : (p : Primitive) (args : List Value) (line : ℕ) → R _ (host_call run p args line) (host_call run' p args line)
  host_calls p args line = kept.then_ (kept.asks_host _) (λ answer. follows answer line)

  reads_node : (v key : Value) (line : ℕ) → R _ (read_node_field run v key line) (read_node_field run' v key line)
  reads_node v (value.Text t) line = kept.then_ (host_calls _ _ line) (λ vs. kept.gives _)
  reads_node v _ line = kept.stops _

  writes_node : (v key x : Value) (line : ℕ) → R _ (write_node_field run v key x line) (write_node_field run' v key x line)
  writes_node v (value.Text t) x line = kept.then_ (host_calls _ _ line) (λ _. kept.gives tt)
  writes_node v _ x line = kept.stops _

  pub reads : (v key : Value) (line : ℕ) → R _ (read_field run v key line) (read_field run' v key line)
  reads (value.Table t) key line = of_stores R kept line (λ store. Ok (value_at (table_of store t) key))
  reads (value.Node k) key line = reads_node (value.Node k) key line
  reads _ key line = kept.stops _

  pub writes : (v key x : Value) (line : ℕ) → R _ (write_field run v key x line) (write_field run' v key x line)
  writes (value.Table t) key x line = kept.stores line (set_step t key x)
  writes (value.Node k) key x line = writes_node (value.Node k) key x line
  writes _ key x line = kept.stops _

  pub places_value : (t : TableId) (k : ℕ) (v : Value) (here : Here) → R _ (place_value run t k v here) (place_value run' t k v here)
  places_value t k v here = by (is_nil v)
    where
      by : (is : Bool) → R _ (cond is (give (k + 1)) (write_field run (value.Table t) (value.Int (pos k)) v here.line >> give (k + 1))) (cond is (give (k + 1)) (write_field run' (value.Table t) (value.Int (pos k)) v here.line >> give (k + 1)))
      by true = kept.gives _
      by false = kept.then_ (writes (value.Table t) (value.Int (pos k)) v here.line) (λ _. kept.gives _)

  pub places_values : (t : TableId) (k : ℕ) (vs : List Value) (here : Here) → R _ (place_values run t k vs here) (place_values run' t k vs here)
  places_values t k [] here = kept.gives k
  places_values t k (v ∷ vs) here = kept.then_ (places_value t k v here) (λ next. places_values t next vs here)

  generics_by : (k k' : ℕ) → k ≤ k' → (names : List (List ℕ)) (iterator walked : Value) (b b' : BlockMeaning S) → Blocks R kept b b' → (here : Here) (control : Value) → R _ (generic_loop run k names iterator walked b here control) (generic_loop run' k' names iterator walked b' here control)
  generics_by zero k' at_most names iterator walked b b' q here control = kept.ends here.line _
  generics_by (suc k) zero at_most names iterator walked b b' q here control = absurd (not-suc-le-zero at_most)
  generics_by (suc k) (suc k') at_most names iterator walked b b' q here control =
      kept.then_ (kept.charges here.line) (λ _. kept.then_ (entered iterator (walked ∷ control ∷ []) here.line) (λ vs. goes vs (generics_by k k' (le_of_suc-le-suc at_most) names iterator walked b b' q here (first vs)) (is_nil (first vs))))
    where
      goes : (vs : List Value) → R _ (generic_loop run k names iterator walked b here (first vs)) (generic_loop run' k' names iterator walked b' here (first vs)) → (t : Bool) → R _ (cond t (give onward) (turn names vs b here >>= λ flow. unless_left flow (generic_loop run k names iterator walked b here (first vs)))) (cond t (give onward) (turn names vs b' here >>= λ flow. unless_left flow (generic_loop run' k' names iterator walked b' here (first vs))))
      goes vs rest true = kept.gives onward
      goes vs rest false = kept.then_ (turns R kept names vs b b' q here) (λ flow. unless R kept flow rest)

  pub generics : (names : List (List ℕ)) (iterator walked : Value) (b b' : BlockMeaning S) → Blocks R kept b b' → (here : Here) (control : Value) → R _ (generic_loop run n names iterator walked b here control) (generic_loop run' n' names iterator walked b' here control)
  generics names iterator walked b b' q here control = generics_by n n' most names iterator walked b b' q here control
