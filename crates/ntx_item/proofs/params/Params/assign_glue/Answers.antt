-- proofs/params/Params/assign_glue/Answers.antt
-- The other parameters are in their ranges as they were.
use Rattle.ntx_item.specs.declared.glue_param.GlueParam.TheVariants.{Baselineskip, Lineskip, Topskip, Parskip, Leftskip, Rightskip, Parfillskip}
use Rattle.ntx_item.specs.ParamsView.{settings_seen}
use Rattle.ntx_item.proofs.SettingsLemmas.{AreSettingsInRange-with_glue}
use Rattle.ntx_item.proofs.params.Params.assign_glue.Goals as goal

pub invariant_of-self : goal.invariant_of-self
invariant_of-self c = AreSettingsInRange-with_glue (settings_seen c.self.inside) Baselineskip _ c.requires c.self.invariant

pub invariant_of-self-in-Lineskip : goal.invariant_of-self-in-Lineskip
invariant_of-self-in-Lineskip c = AreSettingsInRange-with_glue (settings_seen c.self.inside) Lineskip _ c.requires c.self.invariant

pub invariant_of-self-in-Topskip : goal.invariant_of-self-in-Topskip
invariant_of-self-in-Topskip c = AreSettingsInRange-with_glue (settings_seen c.self.inside) Topskip _ c.requires c.self.invariant

pub invariant_of-self-in-Parskip : goal.invariant_of-self-in-Parskip
invariant_of-self-in-Parskip c = AreSettingsInRange-with_glue (settings_seen c.self.inside) Parskip _ c.requires c.self.invariant

pub invariant_of-self-in-Leftskip : goal.invariant_of-self-in-Leftskip
invariant_of-self-in-Leftskip c = AreSettingsInRange-with_glue (settings_seen c.self.inside) Leftskip _ c.requires c.self.invariant

pub invariant_of-self-in-Rightskip : goal.invariant_of-self-in-Rightskip
invariant_of-self-in-Rightskip c = AreSettingsInRange-with_glue (settings_seen c.self.inside) Rightskip _ c.requires c.self.invariant

pub invariant_of-self-in-Parfillskip : goal.invariant_of-self-in-Parfillskip
invariant_of-self-in-Parfillskip c = AreSettingsInRange-with_glue (settings_seen c.self.inside) Parfillskip _ c.requires c.self.invariant
