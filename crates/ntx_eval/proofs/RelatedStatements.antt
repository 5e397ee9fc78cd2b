-- What is built of related parts is related: statements and blocks.
use Rattle.std.proofs.Common.{ℕ, ◌≤◌, Bool, true, false, cond, List, [], ◌∷◌, Option, Some, None}
use Rattle.ntx_values.specs.declared.value.Value.{Value}
use Rattle.ntx_values.specs.declared.value.Value.TheVariants as value
use Rattle.ntx_syntax.specs.declared.tree.FunctionBody.{FunctionBody}
use Rattle.ntx_eval.specs.State.{Scope, Flow, onward, broken, returned}
use Rattle.ntx_eval.specs.Host.{World}
use Rattle.ntx_eval.specs.Ending.{Action}
use Rattle.ntx_eval.specs.Variables.{Here, first, others}
use Rattle.ntx_eval.specs.Parts.{ExpMeaning, VarMeaning, BlockMeaning, StatMeaning, KindMeaning, ReturnMeaning, ArmMeaning, BodyMeaning, Place, named, field}
use Rattle.ntx_eval.specs.Statements.{within, block_in, find_all, assign, assign_all, reach, function_place, choose, step_of, local_function}
use Rattle.ntx_eval.specs.Blocks.{begun, at_end, then_next, in_turn}
use Rattle.ntx_eval.proofs.Related.{Kept, texts, reads_name, writes_name}
use Rattle.ntx_eval.proofs.RelatedParts.{Both, given, Exps, Blocks, firsts, holdings, reads, writes}

module _ {S : Type 0} (R : (A : Type 0) → Action S A → Action S A → Type 0) (kept : Kept R) where
  abbrev pub Vars : VarMeaning S → VarMeaning S → Type 0
  Vars m m' = (here : Here) → R _ (m here) (m' here)

  abbrev pub Arms : ArmMeaning S → ArmMeaning S → Type 0
  Arms m m' = Exps R kept m.0 m'.0 × Blocks R kept m.1 m'.1

  abbrev pub Stats : StatMeaning S → StatMeaning S → Type 0
  Stats m m' = (scope : Scope) → R _ (m scope) (m' scope)

  abbrev pub Returns : ReturnMeaning S → ReturnMeaning S → Type 0
  Returns m m' = (scope : Scope) → R _ (m scope) (m' scope)

  abbrev pub Bodies : BodyMeaning S → BodyMeaning S → Type 0
  Bodies m m' = (args : List Value) (scope : Scope) (line : ℕ) → R _ (m args scope line) (m' args scope line)

  -- two parts that are there or not
  abbrev pub Maybe : {A : Type 0} → (A → A → Type 0) → Option A → Option A → Type 0
  Maybe P None None = Unit {0}
  Maybe P None (Some y) = ⊥
  Maybe P (Some x) None = ⊥
  Maybe P (Some x) (Some y) = P x y

  abbrev pub Kinds : KindMeaning S → KindMeaning S → Type 0
  Kinds = Maybe (Blocks R kept)

  pub withins : (here : Here) {m m' : Action S Flow} → R _ m m' → R _ (within here m) (within here m')
  withins here p = kept.then_ p (λ flow. kept.gives _)

  pub blocks_in : (b b' : BlockMeaning S) → Blocks R kept b b' → (here : Here) → R _ (block_in b here) (block_in b' here)
  blocks_in b b' p here = kept.then_ (p here) (λ ended. kept.gives _)

  pub finds : (ms ms' : List (VarMeaning S)) → Both Vars ms ms' → (here : Here) → R _ (find_all ms here) (find_all ms' here)
  finds [] [] b here = kept.gives []
  finds [] (m' ∷ ms') b here = absurd b
  finds (m ∷ ms) [] b here = absurd b
  finds (m ∷ ms) (m' ∷ ms') b here = kept.then_ (b.0 here) (λ place. kept.then_ (finds ms ms' b.1 here) (λ places. kept.gives _))

  pub choices : (arms arms' : List (ArmMeaning S)) → Both Arms arms arms' → (b b' : Option (BlockMeaning S)) → Kinds b b' → (here : Here) → R _ (choose arms b here) (choose arms' b' here)
  choices [] [] both None None p here = kept.gives onward
  choices [] [] both None (Some b') p here = absurd p
  choices [] [] both (Some b) None p here = absurd p
  choices [] [] both (Some b) (Some b') p here = blocks_in b b' p here
  choices [] (arm' ∷ arms') both b b' p here = absurd both
  choices (arm ∷ arms) [] both b b' p here = absurd both
  choices (arm ∷ arms) (arm' ∷ arms') both b b' p here = kept.then_ (holdings R kept arm.0 arm'.0 both.0.0 here) (goes (choices arms arms' both.1 b b' p here))
    where
      goes : R _ (choose arms b here) (choose arms' b' here) → (t : Bool) → R _ (cond t (block_in arm.1 here) (choose arms b here)) (cond t (block_in arm'.1 here) (choose arms' b' here))
      goes rest true = blocks_in arm.1 arm'.1 both.0.1 here
      goes rest false = rest

  pub steps_of : (m m' : Option (ExpMeaning S)) → Maybe (Exps R kept) m m' → (here : Here) → R _ (step_of m here) (step_of m' here)
  steps_of None None p here = kept.gives _
  steps_of None (Some m') p here = absurd p
  steps_of (Some m) None p here = absurd p
  steps_of (Some m) (Some m') p here = firsts R kept (p here)

  pub local_functions : (name : List ℕ) (body : FunctionBody) (here : Here) → R _ (local_function name body here) (local_function name body here)
  local_functions name body here =
      kept.then_ (kept.makes_cell value.Nil) (λ cell. kept.then_ (kept.makes_function body ((name, cell) ∷ here.scope)) (λ f. kept.then_ (kept.writes_cell cell f) (λ _. kept.gives (onward, (name, cell) ∷ here.scope))))

  pub begins : (m m' : KindMeaning S) → Kinds m m' → (here : Here) → R _ (begun m here) (begun m' here)
  begins None None p here = kept.gives _
  begins None (Some m') p here = absurd p
  begins (Some m) None p here = absurd p
  begins (Some m) (Some m') p here = kept.then_ (kept.charges here.line) (λ _. p here)

  pub ends_with : (m m' : Option (ReturnMeaning S)) → Maybe Returns m m' → (scope : Scope) → R _ (at_end m scope) (at_end m' scope)
  ends_with None None p scope = kept.gives _
  ends_with None (Some m') p scope = absurd p
  ends_with (Some m) None p scope = absurd p
  ends_with (Some m) (Some m') p scope = kept.then_ (p scope) (λ flow. kept.gives _)

  nexts : (ended : Flow × Scope) {next next' : Scope → Action S (Flow × Scope)} → ((scope : Scope) → R _ (next scope) (next' scope)) → R _ (then_next ended next) (then_next ended next')
  nexts (onward, scope) p = p scope
  nexts (broken, scope) p = kept.gives _
  nexts (returned vs, scope) p = kept.gives _

  pub in_turns : (ms ms' : List (StatMeaning S)) → Both Stats ms ms' → (m m' : Option (ReturnMeaning S)) → Maybe Returns m m' → (scope : Scope) → R _ (in_turn ms m scope) (in_turn ms' m' scope)
  in_turns [] [] b m m' p scope = ends_with m m' p scope
  in_turns [] (s' ∷ ms') b m m' p scope = absurd b
  in_turns (s ∷ ms) [] b m m' p scope = absurd b
  in_turns (s ∷ ms) (s' ∷ ms') b m m' p scope = kept.then_ (b.0 scope) (λ ended. nexts ended (in_turns ms ms' b.1 m m' p))

module _ {S : Type 0} (R : (A : Type 0) → Action S A → Action S A → Type 0) (kept : Kept R) (world : World S) (n n' : ℕ) (most : n ≤ n')
    (enter enter' : Value → List Value → ℕ → Action S (List Value)) (entered : (f : Value) (args : List Value) (line : ℕ) → R _ (enter f args line) (enter' f args line)) where
  pub assigns : (place : Place) (v : Value) (here : Here) → R _ (assign (given world n enter) place v here) (assign (given world n' enter') place v here)
  assigns (named name) v here = writes_name R kept name v here
  assigns (field t key) v here = writes R kept world n n' most enter enter' entered t key v here.line

  pub assigns_all : (places : List Place) (vs : List Value) (here : Here) → R _ (assign_all (given world n enter) places vs here) (assign_all (given world n' enter') places vs here)
  assigns_all [] vs here = kept.gives tt
  assigns_all (place ∷ places) vs here = kept.then_ (assigns place (first vs) here) (λ _. assigns_all places (others vs) here)

  pub reaches : (v : Value) (name : List ℕ) (path : List (List ℕ)) (here : Here) → R _ (reach (given world n enter) v name path here) (reach (given world n' enter') v name path here)
  reaches v name [] here = kept.then_ (texts R kept name here.line) (λ key. kept.gives _)
  reaches v name (next ∷ path) here = kept.then_ (texts R kept name here.line) (λ key. kept.then_ (reads R kept world n n' most enter enter' entered v key here.line) (λ inner. reaches inner next path here))

  pub function_places : (name : List ℕ) (path : List (List ℕ)) (here : Here) → R _ (function_place (given world n enter) name path here) (function_place (given world n' enter') name path here)
  function_places name [] here = kept.gives _
  function_places name (next ∷ path) here = kept.then_ (reads_name R kept name here) (λ v. reaches v next path here)
