use Rattle.std.proofs.Common.{◌≡◌, slice_get, Some, sym, ◌∙◌, ap}
use Rattle.std.specs.Bool.{Decides}
use Rattle.std.proofs.lemmas.Bool.Decides.{Decides-eqb}
use Rattle.std.proofs.lemmas.Slice.Eq.{slice_eq-Decides}
use Rattle.ntx_resolve.proofs.ScopeLemmas.{seen_at}
use Rattle.ntx_resolve.specs.Scopes.{Scope}
use Rattle.ntx_resolve.proofs.scope.Scope.is_at.Goals as goal

pub returns : goal.returns
returns c =
    let e : Decides c.eq.result (c.as_slice.result.now ≡ c.args.name.now) = slice_eq-Decides Decides-eqb _ _ _ c.eq.ensures in
    let at : slice_get c.args.self.now.names c.args.place ≡ Some c.as_slice.result.now =
    seen_at c.self.inside.names.items c.args.self.now.names c.args.place c.index.result.now (ap (λ s. s.names) c.self.view_is) c.requires c.index.ensures ∙ ap Some (sym c.as_slice.ensures) in
    (λ t. at ∙ ap Some (e.0 t), λ h. let same : Some c.as_slice.result.now ≡ Some c.args.name.now = sym at ∙ h in e.1 (cc))
