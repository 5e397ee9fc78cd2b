use Rattle.ntx_parse.proofs.ends.Script.{decided}
use Rattle.ntx_parse.proofs.laws.each_script_is_decided.Goals as goal

pub returns : goal.returns
returns c = decided
