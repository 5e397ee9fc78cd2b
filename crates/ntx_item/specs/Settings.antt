-- What the parameters are set to, and their defaults: those of plain TeX ("The TeXbook", appendix B), but parskip does not stretch.
--     value_of s p, glue_of s g             what the parameter is
--     with_value s p v, with_glue s g spec  the settings with this parameter set to this value, and the others as they were
--     put_step p v s, put_glue_step g spec s  the same, or OutOfRange where the value is not in the parameter's range
--     plain_settings                        the defaults
--     AreSettingsInRange s                  each parameter is in its range
--     ChangesStandAlone                     a change of one parameter leaves all others
use Rattle.std.specs.Prelude.{◌≡◌, ◌≢◌, ℤ, pos, Result, Ok, Err, if◌then◌else◌}
use Rattle.ntx_item.specs.declared.param.Param.{Param}
use Rattle.ntx_item.specs.declared.param.Param.TheVariants.{Pretolerance, Tolerance, Linepenalty, Hyphenpenalty, Exhyphenpenalty, Adjdemerits, Doublehyphendemerits, Finalhyphendemerits, Interlinepenalty, Clubpenalty, Widowpenalty, Brokenpenalty, Lefthyphenmin, Righthyphenmin, Hyphenchar, Hsize, Emergencystretch, Parindent, Lineskiplimit}
use Rattle.ntx_item.specs.declared.glue_param.GlueParam.{GlueParam}
use Rattle.ntx_item.specs.declared.glue_param.GlueParam.TheVariants.{Baselineskip, Lineskip, Topskip, Parskip, Leftskip, Rightskip, Parfillskip}
use Rattle.ntx_item.specs.declared.glue.GlueSpec.{GlueSpec}
use Rattle.ntx_item.specs.declared.out_of_range.OutOfRange.{OutOfRange}
use Rattle.ntx_item.specs.Parameters.{IsInRange, IsGlueInRange, is_in_range, is_glue_in_range}

-- Dimensions are in scaled points, and so is glue, but for stretch and shrink of an infinite order.
pub record Settings : Type 0 where
  pub pretolerance : ℤ
  pub tolerance : ℤ
  pub linepenalty : ℤ
  pub hyphenpenalty : ℤ
  pub exhyphenpenalty : ℤ
  pub adjdemerits : ℤ
  pub doublehyphendemerits : ℤ
  pub finalhyphendemerits : ℤ
  pub interlinepenalty : ℤ
  pub clubpenalty : ℤ
  pub widowpenalty : ℤ
  pub brokenpenalty : ℤ
  pub lefthyphenmin : ℤ
  pub righthyphenmin : ℤ
  pub hyphenchar : ℤ
  pub hsize : ℤ
  pub emergencystretch : ℤ
  pub parindent : ℤ
  pub lineskiplimit : ℤ
  pub baselineskip : GlueSpec
  pub lineskip : GlueSpec
  pub topskip : GlueSpec
  pub parskip : GlueSpec
  pub leftskip : GlueSpec
  pub rightskip : GlueSpec
  pub parfillskip : GlueSpec

abbrev pub value_of : Settings → Param → ℤ
value_of s Pretolerance = s.pretolerance
value_of s Tolerance = s.tolerance
value_of s Linepenalty = s.linepenalty
value_of s Hyphenpenalty = s.hyphenpenalty
value_of s Exhyphenpenalty = s.exhyphenpenalty
value_of s Adjdemerits = s.adjdemerits
value_of s Doublehyphendemerits = s.doublehyphendemerits
value_of s Finalhyphendemerits = s.finalhyphendemerits
value_of s Interlinepenalty = s.interlinepenalty
value_of s Clubpenalty = s.clubpenalty
value_of s Widowpenalty = s.widowpenalty
value_of s Brokenpenalty = s.brokenpenalty
value_of s Lefthyphenmin = s.lefthyphenmin
value_of s Righthyphenmin = s.righthyphenmin
value_of s Hyphenchar = s.hyphenchar
value_of s Hsize = s.hsize
value_of s Emergencystretch = s.emergencystretch
value_of s Parindent = s.parindent
value_of s Lineskiplimit = s.lineskiplimit

abbrev pub with_value : Settings → Param → ℤ → Settings
with_value s Pretolerance v = record s { pretolerance = v }
with_value s Tolerance v = record s { tolerance = v }
with_value s Linepenalty v = record s { linepenalty = v }
with_value s Hyphenpenalty v = record s { hyphenpenalty = v }
with_value s Exhyphenpenalty v = record s { exhyphenpenalty = v }
with_value s Adjdemerits v = record s { adjdemerits = v }
with_value s Doublehyphendemerits v = record s { doublehyphendemerits = v }
with_value s Finalhyphendemerits v = record s { finalhyphendemerits = v }
with_value s Interlinepenalty v = record s { interlinepenalty = v }
with_value s Clubpenalty v = record s { clubpenalty = v }
with_value s Widowpenalty v = record s { widowpenalty = v }
with_value s Brokenpenalty v = record s { brokenpenalty = v }
with_value s Lefthyphenmin v = record s { lefthyphenmin = v }
with_value s Righthyphenmin v = record s { righthyphenmin = v }
with_value s Hyphenchar v = record s { hyphenchar = v }
with_value s Hsize v = record s { hsize = v }
with_value s Emergencystretch v = record s { emergencystretch = v }
with_value s Parindent v = record s { parindent = v }
with_value s Lineskiplimit v = record s { lineskiplimit = v }

abbrev pub glue_of : Settings → GlueParam → GlueSpec
glue_of s Baselineskip = s.baselineskip
glue_of s Lineskip = s.lineskip
glue_of s Topskip = s.topskip
glue_of s Parskip = s.parskip
glue_of s Leftskip = s.leftskip
glue_of s Rightskip = s.rightskip
glue_of s Parfillskip = s.parfillskip

abbrev pub with_glue : Settings → GlueParam → GlueSpec → Settings
with_glue s Baselineskip spec = record s { baselineskip = spec }
with_glue s Lineskip spec = record s { lineskip = spec }
with_glue s Topskip spec = record s { topskip = spec }
with_glue s Parskip spec = record s { parskip = spec }
with_glue s Leftskip spec = record s { leftskip = spec }
with_glue s Rightskip spec = record s { rightskip = spec }
with_glue s Parfillskip spec = record s { parfillskip = spec }

-- A parameter is put to a value in its range.
abbrev pub put_step : Param → ℤ → Settings → Result (Unit {0} × Settings) OutOfRange
put_step p v s = if is_in_range p v then Ok (tt, with_value s p v) else Err (record {})

abbrev pub put_glue_step : GlueParam → GlueSpec → Settings → Result (Unit {0} × Settings) OutOfRange
put_glue_step g spec s = if is_glue_in_range spec then Ok (tt, with_glue s g spec) else Err (record {})

-- glue that neither stretches nor shrinks
abbrev pub rigid : ℤ → GlueSpec
rigid width = record { width = width; stretch = pos 0; stretch_order = 0; shrink = pos 0; shrink_order = 0 }

-- a stretch of 65536 scaled points of order 1, as of TeX's 1fil
abbrev pub fil : GlueSpec
fil = record { width = pos 0; stretch = pos 65536; stretch_order = 1; shrink = pos 0; shrink_order = 0 }

abbrev pub plain_settings : Settings
plain_settings = record {
  pretolerance = pos 100;
  tolerance = pos 200;
  linepenalty = pos 10;
  hyphenpenalty = pos 50;
  exhyphenpenalty = pos 50;
  adjdemerits = pos 10000;
  doublehyphendemerits = pos 10000;
  finalhyphendemerits = pos 5000;
  interlinepenalty = pos 0;
  clubpenalty = pos 150;
  widowpenalty = pos 150;
  brokenpenalty = pos 100;
  lefthyphenmin = pos 2;
  righthyphenmin = pos 3;
  hyphenchar = pos 45;
  hsize = pos 30785863;
  emergencystretch = pos 0;
  parindent = pos 1310720;
  lineskiplimit = pos 0;
  baselineskip = rigid (pos 786432);
  lineskip = rigid (pos 65536);
  topskip = rigid (pos 655360);
  parskip = rigid (pos 0);
  leftskip = rigid (pos 0);
  rightskip = rigid (pos 0);
  parfillskip = fil;
}

pub record AreSettingsInRange (s : Settings) : Type 0 where
  pub values : (p : Param) → IsInRange p (value_of s p)
  pub glues : (g : GlueParam) → IsGlueInRange (glue_of s g)

-- A change of one parameter gives it the new value and leaves all others.
pub record ChangesStandAlone : Type 0 where
  pub value_here : (s : Settings) (p : Param) (v : ℤ) → value_of (with_value s p v) p ≡ v
  pub value_elsewhere : (s : Settings) (p : Param) (v : ℤ) (q : Param) → q ≢ p → value_of (with_value s p v) q ≡ value_of s q
  pub value_leaves_glue : (s : Settings) (p : Param) (v : ℤ) (g : GlueParam) → glue_of (with_value s p v) g ≡ glue_of s g
  pub glue_here : (s : Settings) (g : GlueParam) (spec : GlueSpec) → glue_of (with_glue s g spec) g ≡ spec
  pub glue_elsewhere : (s : Settings) (g : GlueParam) (spec : GlueSpec) (h : GlueParam) → h ≢ g → glue_of (with_glue s g spec) h ≡ glue_of s h
  pub glue_leaves_values : (s : Settings) (g : GlueParam) (spec : GlueSpec) (p : Param) → value_of (with_glue s g spec) p ≡ value_of s p
