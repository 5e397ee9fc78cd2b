-- The names of parameters, and looking them up.
use Rattle.std.proofs.Common.{◌≡◌, ◌↔◌, ℕ, List, [], ◌∷◌, Bool, true, false, cond, Option, Some, refl, sym, subst, ◌∙◌}
use Rattle.std.specs.List.{find}
use Rattle.std.specs.Str.{bytes_eq}
use Rattle.std.proofs.lemmas.Slice.Eq.{bytes_eq-Decides}
use Rattle.ntx_item.specs.declared.param.Param.{Param}
use Rattle.ntx_item.specs.declared.param.Param.TheVariants.{Pretolerance, Tolerance, Linepenalty, Hyphenpenalty, Exhyphenpenalty, Adjdemerits, Doublehyphendemerits, Finalhyphendemerits, Interlinepenalty, Clubpenalty, Widowpenalty, Brokenpenalty, Lefthyphenmin, Righthyphenmin, Hyphenchar, Hsize, Emergencystretch, Parindent, Lineskiplimit}
use Rattle.ntx_item.specs.declared.glue_param.GlueParam.{GlueParam}
use Rattle.ntx_item.specs.declared.glue_param.GlueParam.TheVariants.{Baselineskip, Lineskip, Topskip, Parskip, Leftskip, Rightskip, Parfillskip}
use Rattle.ntx_item.specs.Parameters.{name_of, param_named, all_params, glue_name_of, glue_param_named, all_glue_params}

found-at : {X : Type 0} (test : X → Bool) (y : X) (ys : List X) (x : X) (b : Bool) → test y ≡ b → (find test ys ≡ Some x → test x ≡ true) → cond b (Some y) (find test ys) ≡ Some x → test x ≡ true
found-at test y ys x true here later e = cc
found-at test y ys x false here later e = later e

-- what is found passes the test
find-passes : {X : Type 0} (test : X → Bool) (xs : List X) (x : X) → find test xs ≡ Some x → test x ≡ true
find-passes test [] x e = cc
find-passes test (y ∷ ys) x e = found-at test y ys x (test y) refl (find-passes test ys x) e

pub param_named-name_of : (p : Param) → param_named (name_of p) ≡ Some p
param_named-name_of Pretolerance = refl
param_named-name_of Tolerance = refl
param_named-name_of Linepenalty = refl
param_named-name_of Hyphenpenalty = refl
param_named-name_of Exhyphenpenalty = refl
param_named-name_of Adjdemerits = refl
param_named-name_of Doublehyphendemerits = refl
param_named-name_of Finalhyphendemerits = refl
param_named-name_of Interlinepenalty = refl
param_named-name_of Clubpenalty = refl
param_named-name_of Widowpenalty = refl
param_named-name_of Brokenpenalty = refl
param_named-name_of Lefthyphenmin = refl
param_named-name_of Righthyphenmin = refl
param_named-name_of Hyphenchar = refl
param_named-name_of Hsize = refl
param_named-name_of Emergencystretch = refl
param_named-name_of Parindent = refl
param_named-name_of Lineskiplimit = refl

pub glue_param_named-name_of : (g : GlueParam) → glue_param_named (glue_name_of g) ≡ Some g
glue_param_named-name_of Baselineskip = refl
glue_param_named-name_of Lineskip = refl
glue_param_named-name_of Topskip = refl
glue_param_named-name_of Parskip = refl
glue_param_named-name_of Leftskip = refl
glue_param_named-name_of Rightskip = refl
glue_param_named-name_of Parfillskip = refl

-- a look-up gives the parameter of the name, and no other
pub named_exactly : (name : List ℕ) (r : Option Param) → r ≡ param_named name → (p : Param) → (r ≡ Some p) ↔ (name ≡ name_of p)
named_exactly name r is p = (
  (λ e. sym ((bytes_eq-Decides (name_of p) name).0 (find-passes (λ q. bytes_eq (name_of q) name) all_params p (sym is ∙ e)))),
  (λ e. is ∙ subst (λ n. param_named n ≡ Some p) (sym e) (param_named-name_of p)),
)

pub glue_named_exactly : (name : List ℕ) (r : Option GlueParam) → r ≡ glue_param_named name → (g : GlueParam) → (r ≡ Some g) ↔ (name ≡ glue_name_of g)
glue_named_exactly name r is g = (
  (λ e. sym ((bytes_eq-Decides (glue_name_of g) name).0 (find-passes (λ q. bytes_eq (glue_name_of q) name) all_glue_params g (sym is ∙ e)))),
  (λ e. is ∙ subst (λ n. glue_param_named n ≡ Some g) (sym e) (glue_param_named-name_of g)),
)
