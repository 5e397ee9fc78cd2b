-- A function that is added to those of the code.
use Rattle.std.proofs.Common.{arith, ◌≡◌, ◌<◌, ℕ, ◌+◌, List, [], ◌∷◌, ◌++◌, length, slice_get, get_or, Option, None, Some, Result, Ok, Err, refl, sym, ◌∙◌, ap, subst}
use Rattle.std.proofs.lemmas.List.{append_assoc, length-append}
use Rattle.std.proofs.Math.Seq.{get_or-append_seam}
use Rattle.std.proofs.lemmas.Option.{slice_get_read}
use Rattle.ntx_num.specs.declared.answer.Fail.{Fail}
use Rattle.ntx_syntax.specs.declared.fault.SyntaxFault.{SyntaxFault}
use Rattle.ntx_syntax.specs.declared.tree.FunctionBody.{FunctionBody}
use Rattle.ntx_resolve.specs.declared.code.Function.{Function}
use Rattle.ntx_resolve.specs.declared.state.State.{State}
use Rattle.ntx_resolve.specs.Scopes.{Scope}
use Rattle.ntx_resolve.specs.HasCode.{IsFunction, function}
use Rattle.ntx_resolve.specs.inner.Closed.{HasBody}
use Rattle.ntx_resolve.specs.inner.Resolves.{Grows, Resolves, went}
use Rattle.ntx_resolve.proofs.Resolving.{longer}

stands_at : (fs : List Function) (f : Function) (all : List Function) → Grows (fs ++ f ∷ []) all → slice_get all (length fs) ≡ Some f
stands_at fs f all (more, is) =
    let e : all ≡ fs ++ f ∷ more = is ∙ append_assoc fs (f ∷ []) more in
    let l = ap length e ∙ length-append fs (f ∷ more) in
    let m : length (f ∷ more) ≡ length more + 1 = omega arith in
    slice_get_read all (length all) (length fs) f refl (omega (arith, l, m)) (sym (ap (λ z. get_or z (length fs) f) e ∙ get_or-append_seam fs f more f))

pub pushed : {l : Option ℕ} {body : FunctionBody} {f : Function} {k : ℕ} {old middle : State} (new : State) → Resolves l (λ s all f. HasBody all s body f) old (Ok f) middle
    → new.functions ≡ middle.functions ++ f ∷ [] → new.scope ≡ middle.scope → k ≡ length middle.functions
    → Resolves l (λ s all k. IsFunction all s body k) old (Ok k) new
pushed {f = f} {k = k} {old = old} {middle = middle} new (went none grows stay holds) same scope at =
    let more : Grows middle.functions new.functions = (f ∷ [], same) in
    went none (longer old.functions middle.functions new.functions grows more) (scope ∙ stay)
    (λ all further.
    let is = holds all (longer middle.functions new.functions all more further) in
    function (ap (slice_get all) at ∙ stands_at middle.functions f all (subst (λ fs. Grows fs all) same further)) is.0 is.1.1)
