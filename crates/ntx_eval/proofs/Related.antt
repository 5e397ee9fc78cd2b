-- Two runs of one script, step beside step. A relation of actions that the plain steps keep, and that one action after another keeps, is
-- kept by every construct.
use Rattle.std.proofs.Common.{◌≡◌, refl, ℕ, zero, suc, List, [], ◌∷◌, Result, Ok, Option, Some, None}
use Rattle.ntx_num.specs.Answer.{result_map}
use Rattle.ntx_values.specs.Table.{value_at}
use Rattle.ntx_values.specs.State.{StoreState, table_of}
use Rattle.ntx_values.specs.Steps.{set_step}
use Rattle.ntx_values.specs.declared.value.Value.{Value}
use Rattle.ntx_values.specs.declared.primitive.LibFn.{LibFn}
use Rattle.ntx_values.specs.declared.why.LuaWhy.{LuaWhy}
use Rattle.ntx_syntax.specs.declared.tree.FunctionBody.{FunctionBody}
use Rattle.ntx_eval.specs.State.{Scope}
use Rattle.ntx_eval.specs.Host.{Answered, World}
use Rattle.ntx_eval.specs.Ending.{Action, give, stop, out_of_steps, charge, ◌>>=◌}
use Rattle.ntx_eval.specs.Variables.{Here, on_store, of_store, text, cell_of, new_cell, read_cell, write_cell, first, others, bind, globals_of, read_global, write_global, read_name, write_name}
use Rattle.ntx_eval.specs.Setting.{library_call, answered, host_fault}
use Rattle.ntx_eval.specs.Calls.{function_at}
use Rattle.ntx_eval.specs.Expressions.{new_function}
use Rattle.ntx_eval.specs.declared.stop.ScriptStop.{ScriptStop}

pub record Kept {S : Type 0} (R : (A : Type 0) → Action S A → Action S A → Type 0) : Type 1 where
  pub gives : {A : Type 0} (a : A) → R _ (give a) (give a)
  pub stops : {A : Type 0} (why : ScriptStop) → R A (stop why) (stop why)
  pub ends : {A : Type 0} (line : ℕ) (m : Action S A) → R _ (out_of_steps line) m
  pub then_ : {A B : Type 0} {m m' : Action S A} {f f' : A → Action S B} → R _ m m' → ((a : A) → R _ (f a) (f' a)) → R _ (m >>= f) (m' >>= f')
  pub charges : (line : ℕ) → R _ (charge line) (charge line)
  pub stores : {A : Type 0} (line : ℕ) (step : StoreState → Result (A × StoreState) LuaWhy) → R _ (on_store line step) (on_store line step)
  pub makes_cell : (v : Value) → R _ (new_cell v) (new_cell v)
  pub reads_cell : (cell : ℕ) → R _ (read_cell cell) (read_cell cell)
  pub writes_cell : (cell : ℕ) (v : Value) → R _ (write_cell cell v) (write_cell cell v)
  pub has_globals : R _ globals_of globals_of
  pub finds_function : (number : ℕ) → R _ (function_at number) (function_at number)
  pub makes_function : (body : FunctionBody) (scope : Scope) → R _ (new_function body scope) (new_function body scope)
  pub asks_library : (world : World S) (f : LibFn) (args : List Value) (line : ℕ) → R _ (library_call world f args line) (library_call world f args line)
  pub asks_host : (asked : S → StoreState → Answered S) → R _ (answered asked) (answered asked)

module _ {S : Type 0} (R : (A : Type 0) → Action S A → Action S A → Type 0) (kept : Kept R) where
  pub texts : (bytes : List ℕ) (line : ℕ) → R _ (text bytes line) (text bytes line)
  texts bytes line = kept.stores line _

  pub of_stores : {A : Type 0} (line : ℕ) (question : StoreState → Result A LuaWhy) → R A (of_store line question) (of_store line question)
  of_stores line question = kept.stores line (λ store. result_map (λ a. (a, store)) (question store))

  pub binds : (names : List (List ℕ)) (vs : List Value) (scope : Scope) → R _ (bind names vs scope) (bind names vs scope)
  binds [] vs scope = kept.gives scope
  binds (name ∷ names) vs scope = kept.then_ (kept.makes_cell (first vs)) (λ cell. binds names (others vs) ((name, cell) ∷ scope))

  pub reads_global : (name : List ℕ) (line : ℕ) → R _ (read_global name line) (read_global name line)
  reads_global name line = kept.then_ kept.has_globals (λ globals. kept.then_ (texts name line) (λ key. of_stores line (λ store. Ok (value_at (table_of store globals) key))))

  pub writes_global : (name : List ℕ) (v : Value) (line : ℕ) → R _ (write_global name v line) (write_global name v line)
  writes_global name v line = kept.then_ kept.has_globals (λ globals. kept.then_ (texts name line) (λ key. kept.stores line (set_step globals key v)))

  reads_held : (name : List ℕ) (here : Here) (held : Option ℕ) → cell_of name here.scope ≡ held → R _ (read_name name here) (read_name name here)
  reads_held name here (Some cell) is = rw is (kept.reads_cell cell)
  reads_held name here None is = rw is (reads_global name here.line)

  pub reads_name : (name : List ℕ) (here : Here) → R _ (read_name name here) (read_name name here)
  reads_name name here = reads_held name here (cell_of name here.scope) refl

  writes_held : (name : List ℕ) (v : Value) (here : Here) (held : Option ℕ) → cell_of name here.scope ≡ held → R _ (write_name name v here) (write_name name v here)
  writes_held name v here (Some cell) is = rw is (kept.writes_cell cell v)
  writes_held name v here None is = rw is (writes_global name v here.line)

  pub writes_name : (name : List ℕ) (v : Value) (here : Here) → R _ (write_name name v here) (write_name name v here)
  writes_name name v here = writes_held name v here (cell_of name here.scope) refl

  pub host_faults : {A : Type 0} (why : LuaWhy) (line : ℕ) → R A (host_fault why line) (host_fault why line)
  host_faults why zero = kept.stops _
  host_faults why (suc line) = kept.stops _
