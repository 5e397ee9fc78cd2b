use Rattle.ntx_nodes.proofs.TableLaws.{reads_as_held, takes_as_held}
use Rattle.ntx_nodes.proofs.laws.fields_follow_the_table.Goals as goal

pub returns : goal.returns
returns c = record { reads = reads_as_held; sets = takes_as_held }
