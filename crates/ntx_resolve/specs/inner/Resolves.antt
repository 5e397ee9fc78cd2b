-- What a resolving function ensures.
--     Resolves excess is old result new    if this is the first name that is one too many, the result is its fault; if there is none, the functions grow, the
--                                          scope stays, and the result is this code, however many functions are added later; unless memory runs out
--     Leaves excess is old result new      the same of what leaves another scope
use Rattle.std.specs.Prelude.{◌≡◌, ℕ, List, ◌++◌, Option, None, Some, Result, Ok, Err}
use Rattle.ntx_num.specs.declared.answer.Fail.{Fail}
use Rattle.ntx_num.specs.declared.answer.Fail.TheVariants.{NoMemory, Is}
use Rattle.ntx_syntax.specs.declared.fault.SyntaxFault.{SyntaxFault}
use Rattle.ntx_syntax.specs.declared.fault.SyntaxWhy.TheVariants.{Locals}
use Rattle.ntx_resolve.specs.declared.code.Function.{Function}
use Rattle.ntx_resolve.specs.declared.state.State.{State}
use Rattle.ntx_resolve.specs.Scopes.{Scope}

abbrev pub Grows : List Function → List Function → Type 0
Grows old new = (added : List Function) × (new ≡ old ++ added)

pub data Resolves {A : Type 0} (excess : Option ℕ) (is : Scope → List Function → A → Type 0) (old : State) : Result A (Fail SyntaxFault) → State → Type 0 where
  went : {a : A} {new : State} → excess ≡ None → Grows old.functions new.functions → new.scope ≡ old.scope
      → ((all : List Function) → Grows new.functions all → is old.scope all a) → Resolves excess is old (Ok a) new
  refused : {fault : SyntaxFault} {new : State} → excess ≡ Some fault.line → fault.why ≡ Locals → Resolves excess is old (Err (Is fault)) new
  out_of_memory : {new : State} → Resolves excess is old (Err NoMemory) new

pub data Leaves {A : Type 0} (excess : Option ℕ) (is : Scope → List Function → A → Scope → Type 0) (old : State) : Result A (Fail SyntaxFault) → State → Type 0 where
  left : {a : A} {new : State} → excess ≡ None → Grows old.functions new.functions
      → ((all : List Function) → Grows new.functions all → is old.scope all a new.scope) → Leaves excess is old (Ok a) new
  refused_there : {fault : SyntaxFault} {new : State} → excess ≡ Some fault.line → fault.why ≡ Locals → Leaves excess is old (Err (Is fault)) new
  no_memory : {new : State} → Leaves excess is old (Err NoMemory) new
