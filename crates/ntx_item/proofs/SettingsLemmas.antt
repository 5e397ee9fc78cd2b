-- What a change of one parameter leaves.
use Rattle.std.proofs.Common.{◌≡◌, ◌≢◌, ℤ, refl, sym, subst}
use Rattle.ntx_item.specs.declared.param.Param.{Param}
use Rattle.ntx_item.specs.declared.param.Param.TheVariants.{Pretolerance, Tolerance, Linepenalty, Hyphenpenalty, Exhyphenpenalty, Adjdemerits, Doublehyphendemerits, Finalhyphendemerits, Interlinepenalty, Clubpenalty, Widowpenalty, Brokenpenalty, Lefthyphenmin, Righthyphenmin, Hyphenchar, Hsize, Emergencystretch, Parindent, Lineskiplimit}
use Rattle.ntx_item.specs.declared.glue_param.GlueParam.{GlueParam}
use Rattle.ntx_item.specs.declared.glue_param.GlueParam.TheVariants.{Baselineskip, Lineskip, Topskip, Parskip, Leftskip, Rightskip, Parfillskip}
use Rattle.ntx_item.specs.declared.glue.GlueSpec.{GlueSpec}
use Rattle.ntx_item.specs.Parameters.{IsInRange, IsGlueInRange}
use Rattle.ntx_item.specs.Settings.{Settings, value_of, with_value, glue_of, with_glue, AreSettingsInRange, ChangesStandAlone}

-- what holds of the new value of one parameter, and of the others as they were, holds of each parameter
pub at_each_value : (P : Param → ℤ → Type 0) (s : Settings) (p : Param) (v : ℤ) → P p v → ((q : Param) → P q (value_of s q)) → (q : Param) → P q (value_of (with_value s p v) q)
at_each_value P s Pretolerance v here others Pretolerance = here
at_each_value P s Pretolerance v here others q = others q
at_each_value P s Tolerance v here others Tolerance = here
at_each_value P s Tolerance v here others q = others q
at_each_value P s Linepenalty v here others Linepenalty = here
at_each_value P s Linepenalty v here others q = others q
at_each_value P s Hyphenpenalty v here others Hyphenpenalty = here
at_each_value P s Hyphenpenalty v here others q = others q
at_each_value P s Exhyphenpenalty v here others Exhyphenpenalty = here
at_each_value P s Exhyphenpenalty v here others q = others q
at_each_value P s Adjdemerits v here others Adjdemerits = here
at_each_value P s Adjdemerits v here others q = others q
at_each_value P s Doublehyphendemerits v here others Doublehyphendemerits = here
at_each_value P s Doublehyphendemerits v here others q = others q
at_each_value P s Finalhyphendemerits v here others Finalhyphendemerits = here
at_each_value P s Finalhyphendemerits v here others q = others q
at_each_value P s Interlinepenalty v here others Interlinepenalty = here
at_each_value P s Interlinepenalty v here others q = others q
at_each_value P s Clubpenalty v here others Clubpenalty = here
at_each_value P s Clubpenalty v here others q = others q
at_each_value P s Widowpenalty v here others Widowpenalty = here
at_each_value P s Widowpenalty v here others q = others q
at_each_value P s Brokenpenalty v here others Brokenpenalty = here
at_each_value P s Brokenpenalty v here others q = others q
at_each_value P s Lefthyphenmin v here others Lefthyphenmin = here
at_each_value P s Lefthyphenmin v here others q = others q
at_each_value P s Righthyphenmin v here others Righthyphenmin = here
at_each_value P s Righthyphenmin v here others q = others q
at_each_value P s Hyphenchar v here others Hyphenchar = here
at_each_value P s Hyphenchar v here others q = others q
at_each_value P s Hsize v here others Hsize = here
at_each_value P s Hsize v here others q = others q
at_each_value P s Emergencystretch v here others Emergencystretch = here
at_each_value P s Emergencystretch v here others q = others q
at_each_value P s Parindent v here others Parindent = here
at_each_value P s Parindent v here others q = others q
at_each_value P s Lineskiplimit v here others Lineskiplimit = here
at_each_value P s Lineskiplimit v here others q = others q

pub at_each_glue : (P : GlueParam → GlueSpec → Type 0) (s : Settings) (p : GlueParam) (v : GlueSpec) → P p v → ((q : GlueParam) → P q (glue_of s q)) → (q : GlueParam) → P q (glue_of (with_glue s p v) q)
at_each_glue P s Baselineskip v here others Baselineskip = here
at_each_glue P s Baselineskip v here others q = others q
at_each_glue P s Lineskip v here others Lineskip = here
at_each_glue P s Lineskip v here others q = others q
at_each_glue P s Topskip v here others Topskip = here
at_each_glue P s Topskip v here others q = others q
at_each_glue P s Parskip v here others Parskip = here
at_each_glue P s Parskip v here others q = others q
at_each_glue P s Leftskip v here others Leftskip = here
at_each_glue P s Leftskip v here others q = others q
at_each_glue P s Rightskip v here others Rightskip = here
at_each_glue P s Rightskip v here others q = others q
at_each_glue P s Parfillskip v here others Parfillskip = here
at_each_glue P s Parfillskip v here others q = others q

pub glue_of-with_value : (s : Settings) (p : Param) (v : ℤ) (g : GlueParam) → glue_of (with_value s p v) g ≡ glue_of s g
glue_of-with_value s Pretolerance v g = refl
glue_of-with_value s _ v g = refl

pub value_of-with_glue : (s : Settings) (g : GlueParam) (spec : GlueSpec) (p : Param) → value_of (with_glue s g spec) p ≡ value_of s p
value_of-with_glue s Baselineskip spec p = refl
value_of-with_glue s _ spec p = refl

-- a value in its range leaves each parameter in its range
pub AreSettingsInRange-with_value : (s : Settings) (p q : Param) (v w : ℤ) → p ≡ q → w ≡ v → IsInRange p v → AreSettingsInRange s → AreSettingsInRange (with_value s q w)
AreSettingsInRange-with_value s p q v w named same allowed lawful = record {
  values = at_each_value IsInRange s q w (subst (IsInRange q) (sym same) (subst (λ x. IsInRange x v) named allowed)) lawful.values;
  glues = λ g. subst IsGlueInRange (sym (glue_of-with_value s q w g)) (lawful.glues g);
}

pub AreSettingsInRange-with_glue : (s : Settings) (g : GlueParam) (spec : GlueSpec) → IsGlueInRange spec → AreSettingsInRange s → AreSettingsInRange (with_glue s g spec)
AreSettingsInRange-with_glue s g spec allowed lawful = record {
  values = λ p. subst (IsInRange p) (sym (value_of-with_glue s g spec p)) (lawful.values p);
  glues = at_each_glue (λ x y. IsGlueInRange y) s g spec allowed lawful.glues;
}

value_of-with_value : (s : Settings) (p : Param) (v : ℤ) → value_of (with_value s p v) p ≡ v
value_of-with_value s Pretolerance v = refl
value_of-with_value s _ v = refl

glue_of-with_glue : (s : Settings) (g : GlueParam) (spec : GlueSpec) → glue_of (with_glue s g spec) g ≡ spec
glue_of-with_glue s Baselineskip spec = refl
glue_of-with_glue s _ spec = refl

pub changes_stand_alone : ChangesStandAlone
changes_stand_alone = record {
  value_here = value_of-with_value;
  value_elsewhere = λ s p v. at_each_value (λ q w. q ≢ p → w ≡ value_of s q) s p v (λ other. absurd (other refl)) (λ q other. refl);
  value_leaves_glue = glue_of-with_value;
  glue_here = glue_of-with_glue;
  glue_elsewhere = λ s g spec. at_each_glue (λ h w. h ≢ g → w ≡ glue_of s h) s g spec (λ other. absurd (other refl)) (λ h other. refl);
  glue_leaves_values = value_of-with_glue;
}
