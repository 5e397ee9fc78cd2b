use Rattle.ntx_parse.proofs.faults.OneFault.{refused_is_none}
use Rattle.ntx_parse.proofs.laws.refused_scripts_have_no_tree.Goals as goal

pub returns : goal.returns
returns c bytes words chunk fault a r = refused_is_none bytes words fault chunk r a
