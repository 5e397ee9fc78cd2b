-- The parameters of paragraphs and pages: their names, and what each may be set to. The names are TeX's ("TeX: The Program", sections 224, 236
-- and 247), also hyphenchar's, which TeX keeps with each font (section 549). The ranges of numbers are narrower than TeX's.
--     name_of p, glue_name_of g               the name
--     param_named name, glue_param_named name the parameter of this name
--     range_of p                              the least and the greatest value, in scaled points where it is a dimension
--     IsInRange p v, IsGlueInRange spec       the value, the glue is one that the parameter, each glue parameter may be set to
--     is_in_range p v, is_glue_in_range spec  the same as tests
use Rattle.std.specs.Prelude.{ℕ, ◌^◌, ◌≤◌, nat_le, ℤ, pos, neg_ℤ, ◌≤ℤ◌, int_le, Bool, ◌&&◌, List, [], ◌∷◌, Option, bytes_eq, codes}
use Rattle.std.specs.List.{find}
use Rattle.ntx_num.specs.Dimension.{max_dimension, max_order, IsDimension, is_dimension}
use Rattle.ntx_item.specs.declared.param.Param.{Param}
use Rattle.ntx_item.specs.declared.param.Param.TheVariants.{Pretolerance, Tolerance, Linepenalty, Hyphenpenalty, Exhyphenpenalty, Adjdemerits, Doublehyphendemerits, Finalhyphendemerits, Interlinepenalty, Clubpenalty, Widowpenalty, Brokenpenalty, Lefthyphenmin, Righthyphenmin, Hyphenchar, Hsize, Emergencystretch, Parindent, Lineskiplimit}
use Rattle.ntx_item.specs.declared.glue_param.GlueParam.{GlueParam}
use Rattle.ntx_item.specs.declared.glue_param.GlueParam.TheVariants.{Baselineskip, Lineskip, Topskip, Parskip, Leftskip, Rightskip, Parfillskip}
use Rattle.ntx_item.specs.declared.glue.GlueSpec.{GlueSpec}

-- ---- names

-- the bytes of a parameter's name
abbrev pub name_of : Param → List ℕ
name_of Pretolerance = codes "pretolerance"
name_of Tolerance = codes "tolerance"
name_of Linepenalty = codes "linepenalty"
name_of Hyphenpenalty = codes "hyphenpenalty"
name_of Exhyphenpenalty = codes "exhyphenpenalty"
name_of Adjdemerits = codes "adjdemerits"
name_of Doublehyphendemerits = codes "doublehyphendemerits"
name_of Finalhyphendemerits = codes "finalhyphendemerits"
name_of Interlinepenalty = codes "interlinepenalty"
name_of Clubpenalty = codes "clubpenalty"
name_of Widowpenalty = codes "widowpenalty"
name_of Brokenpenalty = codes "brokenpenalty"
name_of Lefthyphenmin = codes "lefthyphenmin"
name_of Righthyphenmin = codes "righthyphenmin"
name_of Hyphenchar = codes "hyphenchar"
name_of Hsize = codes "hsize"
name_of Emergencystretch = codes "emergencystretch"
name_of Parindent = codes "parindent"
name_of Lineskiplimit = codes "lineskiplimit"

abbrev pub all_params : List Param
all_params =
    Pretolerance ∷ Tolerance ∷ Linepenalty ∷ Hyphenpenalty ∷ Exhyphenpenalty ∷ Adjdemerits ∷ Doublehyphendemerits ∷ Finalhyphendemerits ∷
    Interlinepenalty ∷ Clubpenalty ∷ Widowpenalty ∷ Brokenpenalty ∷ Lefthyphenmin ∷ Righthyphenmin ∷ Hyphenchar ∷ Hsize ∷ Emergencystretch ∷ Parindent ∷ Lineskiplimit ∷ []

-- the parameter of this name
abbrev pub param_named : List ℕ → Option Param
param_named name = find (λ p. bytes_eq (name_of p) name) all_params

abbrev pub glue_name_of : GlueParam → List ℕ
glue_name_of Baselineskip = codes "baselineskip"
glue_name_of Lineskip = codes "lineskip"
glue_name_of Topskip = codes "topskip"
glue_name_of Parskip = codes "parskip"
glue_name_of Leftskip = codes "leftskip"
glue_name_of Rightskip = codes "rightskip"
glue_name_of Parfillskip = codes "parfillskip"

abbrev pub all_glue_params : List GlueParam
all_glue_params = Baselineskip ∷ Lineskip ∷ Topskip ∷ Parskip ∷ Leftskip ∷ Rightskip ∷ Parfillskip ∷ []

abbrev pub glue_param_named : List ℕ → Option GlueParam
glue_param_named name = find (λ g. bytes_eq (glue_name_of g) name) all_glue_params

-- ---- ranges

pub record Range : Type 0 where
  pub low : ℤ
  pub high : ℤ

-- the number lies in the range, both ends included
abbrev pub IsIn : Range → ℤ → Type 0
IsIn range z = (range.low ≤ℤ z) × (z ≤ℤ range.high)

abbrev pub is_in : Range → ℤ → Bool
is_in range z = int_le range.low z && int_le z range.high

-- the numbers of at most this absolute value
abbrev pub up_to : ℕ → Range
up_to most = record { low = neg_ℤ (pos most); high = pos most }

-- TeX's dimensions, in scaled points
abbrev pub dimensions : Range
dimensions = up_to max_dimension

abbrev pub range_of : Param → Range
range_of Lefthyphenmin = record { low = pos 1; high = pos 63 }
range_of Righthyphenmin = record { low = pos 1; high = pos 63 }
range_of Hyphenchar = record { low = neg_ℤ (pos 1); high = pos 255 }
range_of Hsize = dimensions
range_of Emergencystretch = dimensions
range_of Parindent = dimensions
range_of Lineskiplimit = dimensions
range_of _ = up_to (10 ^ 8)

-- the value is one that the parameter may be set to
abbrev pub IsInRange : Param → ℤ → Type 0
IsInRange p v = IsIn (range_of p) v

abbrev pub is_in_range : Param → ℤ → Bool
is_in_range p v = is_in (range_of p) v

pub record IsGlueInRange (spec : GlueSpec) : Type 0 where
  pub width : IsDimension spec.width
  pub stretch : IsDimension spec.stretch
  pub stretch_order : spec.stretch_order ≤ max_order
  pub shrink : IsDimension spec.shrink
  pub shrink_order : spec.shrink_order ≤ max_order

abbrev pub is_glue_in_range : GlueSpec → Bool
is_glue_in_range spec =
    is_dimension spec.width && is_dimension spec.stretch && nat_le spec.stretch_order max_order && is_dimension spec.shrink &&
    nat_le spec.shrink_order max_order
