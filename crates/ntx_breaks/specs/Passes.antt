-- The passes over a paragraph ("TeX: The Program", sections 863 and 864): one without regular discretionaries, one with them, and one with emergency stretch.
--     passes_of params                  the passes in which breaks are looked for, in order
use Rattle.std.specs.Prelude.{ℤ, pos, int_lt, int_le, true, false, if◌then◌else◌, List, [], ◌∷◌, ◌++◌}
use Rattle.ntx_item.specs.Settings.{Settings}
use Rattle.ntx_breaks.specs.declared.pass.Pass.{Pass}

-- a greater threshold counts as 10000, so that a line that is too wide is never wanted
abbrev pub threshold_of : ℤ → ℤ
threshold_of tolerance = if int_lt (pos 10000) tolerance then pos 10000 else tolerance

-- it is left out if pretolerance is below 0
abbrev pub first_pass : Settings → Pass
first_pass params = record { number = 1; discs = false; threshold = threshold_of params.pretolerance; extra = pos 0; is_final = false }

-- it is the last one unless there is emergency stretch
abbrev pub second_pass : Settings → Pass
second_pass params = record { number = 2; discs = true; threshold = threshold_of params.tolerance; extra = pos 0; is_final = int_le params.emergencystretch (pos 0) }

abbrev pub third_pass : Settings → Pass
third_pass params = record { number = 3; discs = true; threshold = threshold_of params.tolerance; extra = params.emergencystretch; is_final = true }

abbrev pub early_passes : Settings → List Pass
early_passes params = if int_lt params.pretolerance (pos 0) then [] else first_pass params ∷ []

abbrev pub last_passes : Settings → List Pass
last_passes params = if int_le params.emergencystretch (pos 0) then [] else third_pass params ∷ []

abbrev pub passes_of : Settings → List Pass
passes_of params = early_passes params ++ second_pass params ∷ last_passes params
