-- What follows a look at the limit.
use Rattle.std.proofs.Common.{◌≡◌, ℕ, List, Option, None, Some, Result, Ok, Err, ap, ◌∙◌}
use Rattle.std.specs.Result.{IsErrAnd}
use Rattle.ntx_num.specs.declared.answer.Fail.{Fail}
use Rattle.ntx_num.specs.declared.answer.Fail.TheVariants.{NoMemory, Is}
use Rattle.ntx_syntax.specs.declared.fault.SyntaxFault.{SyntaxFault}
use Rattle.ntx_resolve.specs.declared.code.Function.{Function}
use Rattle.ntx_resolve.specs.declared.state.State.{State}
use Rattle.ntx_resolve.specs.Scopes.{Scope}
use Rattle.ntx_resolve.specs.Limit.{or_else}
use Rattle.ntx_resolve.specs.inner.Allows.{Allows}
use Rattle.ntx_resolve.specs.inner.Resolves.{Resolves, refused}
use Rattle.ntx_resolve.proofs.Resolving.{said}

pub allowed : {A : Type 0} {l m : Option ℕ} {is : Scope → List Function → A → Type 0} {old new : State} {r : Result A (Fail SyntaxFault)}
    → l ≡ None → Resolves m is old r new → Resolves (or_else l m) is old r new
allowed {m = m} none h = said (ap (λ x. or_else x m) none) h

not_allowed_with : {A : Type 0} (l m : Option ℕ) {is : Scope → List Function → A → Type 0} (e : Fail SyntaxFault) {old new : State}
    → Allows l (Err e) → Resolves (or_else l m) is old (Err e) new
not_allowed_with l m (Is fault) h = refused (ap (λ x. or_else x m) h.0) h.1
not_allowed_with l m NoMemory h = absurd h

pub not_allowed : {A : Type 0} (l m : Option ℕ) {is : Scope → List Function → A → Type 0} (e : Fail SyntaxFault) {old new : State}
    (r : Result A (Fail SyntaxFault)) → IsErrAnd r (λ y. y ≡ e) → Allows l (Err e) → Resolves (or_else l m) is old r new
not_allowed l m e (Ok b) by h = absurd by
not_allowed l m e (Err y) by h = rw by (not_allowed_with l m e h)
