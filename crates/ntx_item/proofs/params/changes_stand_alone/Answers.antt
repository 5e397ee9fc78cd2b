-- proofs/params/changes_stand_alone/Answers.antt
use Rattle.ntx_item.proofs.SettingsLemmas.{changes_stand_alone}
use Rattle.ntx_item.proofs.params.changes_stand_alone.Goals as goal

pub returns : goal.returns
returns c = changes_stand_alone
