-- proofs/params/Params/assign/Answers.antt
-- The other parameters are in their ranges as they were.
use Rattle.std.proofs.Common.{w64}
use Rattle.std.proofs.lemmas.Int.{to_z-of_z}
use Rattle.ntx_item.specs.declared.param.Param.TheVariants.{Pretolerance, Tolerance, Linepenalty, Hyphenpenalty, Exhyphenpenalty, Adjdemerits, Doublehyphendemerits, Finalhyphendemerits, Interlinepenalty, Clubpenalty, Widowpenalty, Brokenpenalty, Lefthyphenmin, Righthyphenmin, Hyphenchar, Hsize, Emergencystretch, Parindent, Lineskiplimit}
use Rattle.ntx_item.specs.ParamsView.{settings_seen}
use Rattle.ntx_item.proofs.SettingsLemmas.{AreSettingsInRange-with_value}
use Rattle.ntx_item.proofs.params.Params.assign.Goals as goal

pub invariant_of-self : goal.invariant_of-self
invariant_of-self c =
    AreSettingsInRange-with_value (settings_seen c.self.inside) _ Pretolerance _ _ c.in-Pretolerance.is (to_z-of_z w64 _ c.ranges.v) c.requires c.self.invariant

pub invariant_of-self-in-Tolerance : goal.invariant_of-self-in-Tolerance
invariant_of-self-in-Tolerance c =
    AreSettingsInRange-with_value (settings_seen c.self.inside) _ Tolerance _ _ c.in-Tolerance.is (to_z-of_z w64 _ c.ranges.v) c.requires c.self.invariant

pub invariant_of-self-in-Linepenalty : goal.invariant_of-self-in-Linepenalty
invariant_of-self-in-Linepenalty c =
    AreSettingsInRange-with_value (settings_seen c.self.inside) _ Linepenalty _ _ c.in-Linepenalty.is (to_z-of_z w64 _ c.ranges.v) c.requires c.self.invariant

pub invariant_of-self-in-Hyphenpenalty : goal.invariant_of-self-in-Hyphenpenalty
invariant_of-self-in-Hyphenpenalty c =
    AreSettingsInRange-with_value (settings_seen c.self.inside) _ Hyphenpenalty _ _ c.in-Hyphenpenalty.is (to_z-of_z w64 _ c.ranges.v) c.requires c.self.invariant

pub invariant_of-self-in-Exhyphenpenalty : goal.invariant_of-self-in-Exhyphenpenalty
invariant_of-self-in-Exhyphenpenalty c =
    AreSettingsInRange-with_value (settings_seen c.self.inside) _ Exhyphenpenalty _ _ c.in-Exhyphenpenalty.is (to_z-of_z w64 _ c.ranges.v) c.requires c.self.invariant

pub invariant_of-self-in-Adjdemerits : goal.invariant_of-self-in-Adjdemerits
invariant_of-self-in-Adjdemerits c =
    AreSettingsInRange-with_value (settings_seen c.self.inside) _ Adjdemerits _ _ c.in-Adjdemerits.is (to_z-of_z w64 _ c.ranges.v) c.requires c.self.invariant

pub invariant_of-self-in-Doublehyphendemerits : goal.invariant_of-self-in-Doublehyphendemerits
invariant_of-self-in-Doublehyphendemerits c =
    AreSettingsInRange-with_value (settings_seen c.self.inside) _ Doublehyphendemerits _ _ c.in-Doublehyphendemerits.is (to_z-of_z w64 _ c.ranges.v) c.requires c.self.invariant

pub invariant_of-self-in-Finalhyphendemerits : goal.invariant_of-self-in-Finalhyphendemerits
invariant_of-self-in-Finalhyphendemerits c =
    AreSettingsInRange-with_value (settings_seen c.self.inside) _ Finalhyphendemerits _ _ c.in-Finalhyphendemerits.is (to_z-of_z w64 _ c.ranges.v) c.requires c.self.invariant

pub invariant_of-self-in-Interlinepenalty : goal.invariant_of-self-in-Interlinepenalty
invariant_of-self-in-Interlinepenalty c =
    AreSettingsInRange-with_value (settings_seen c.self.inside) _ Interlinepenalty _ _ c.in-Interlinepenalty.is (to_z-of_z w64 _ c.ranges.v) c.requires c.self.invariant

pub invariant_of-self-in-Clubpenalty : goal.invariant_of-self-in-Clubpenalty
invariant_of-self-in-Clubpenalty c =
    AreSettingsInRange-with_value (settings_seen c.self.inside) _ Clubpenalty _ _ c.in-Clubpenalty.is (to_z-of_z w64 _ c.ranges.v) c.requires c.self.invariant

pub invariant_of-self-in-Widowpenalty : goal.invariant_of-self-in-Widowpenalty
invariant_of-self-in-Widowpenalty c =
    AreSettingsInRange-with_value (settings_seen c.self.inside) _ Widowpenalty _ _ c.in-Widowpenalty.is (to_z-of_z w64 _ c.ranges.v) c.requires c.self.invariant

pub invariant_of-self-in-Brokenpenalty : goal.invariant_of-self-in-Brokenpenalty
invariant_of-self-in-Brokenpenalty c =
    AreSettingsInRange-with_value (settings_seen c.self.inside) _ Brokenpenalty _ _ c.in-Brokenpenalty.is (to_z-of_z w64 _ c.ranges.v) c.requires c.self.invariant

pub invariant_of-self-in-Lefthyphenmin : goal.invariant_of-self-in-Lefthyphenmin
invariant_of-self-in-Lefthyphenmin c =
    AreSettingsInRange-with_value (settings_seen c.self.inside) _ Lefthyphenmin _ _ c.in-Lefthyphenmin.is (to_z-of_z w64 _ c.ranges.v) c.requires c.self.invariant

pub invariant_of-self-in-Righthyphenmin : goal.invariant_of-self-in-Righthyphenmin
invariant_of-self-in-Righthyphenmin c =
    AreSettingsInRange-with_value (settings_seen c.self.inside) _ Righthyphenmin _ _ c.in-Righthyphenmin.is (to_z-of_z w64 _ c.ranges.v) c.requires c.self.invariant

pub invariant_of-self-in-Hyphenchar : goal.invariant_of-self-in-Hyphenchar
invariant_of-self-in-Hyphenchar c =
    AreSettingsInRange-with_value (settings_seen c.self.inside) _ Hyphenchar _ _ c.in-Hyphenchar.is (to_z-of_z w64 _ c.ranges.v) c.requires c.self.invariant

pub invariant_of-self-in-Hsize : goal.invariant_of-self-in-Hsize
invariant_of-self-in-Hsize c =
    AreSettingsInRange-with_value (settings_seen c.self.inside) _ Hsize _ _ c.in-Hsize.is (to_z-of_z w64 _ c.ranges.v) c.requires c.self.invariant

pub invariant_of-self-in-Emergencystretch : goal.invariant_of-self-in-Emergencystretch
invariant_of-self-in-Emergencystretch c =
    AreSettingsInRange-with_value (settings_seen c.self.inside) _ Emergencystretch _ _ c.in-Emergencystretch.is (to_z-of_z w64 _ c.ranges.v) c.requires c.self.invariant

pub invariant_of-self-in-Parindent : goal.invariant_of-self-in-Parindent
invariant_of-self-in-Parindent c =
    AreSettingsInRange-with_value (settings_seen c.self.inside) _ Parindent _ _ c.in-Parindent.is (to_z-of_z w64 _ c.ranges.v) c.requires c.self.invariant

pub invariant_of-self-in-Lineskiplimit : goal.invariant_of-self-in-Lineskiplimit
invariant_of-self-in-Lineskiplimit c =
    AreSettingsInRange-with_value (settings_seen c.self.inside) _ Lineskiplimit _ _ c.in-Lineskiplimit.is (to_z-of_z w64 _ c.ranges.v) c.requires c.self.invariant
