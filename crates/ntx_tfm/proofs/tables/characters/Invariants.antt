use Rattle.std.proofs.Common.{◌≡◌}
use Rattle.ntx_tfm.specs.Each.{table}
use Rattle.ntx_tfm.specs.Font.{character_of}
use Rattle.ntx_tfm.proofs.tables.characters.Given as goal

abbrev pub invariant-loop-code : goal.invariant-loop-code
invariant-loop-code l = l.characters.items ≡ table (character_of l.bytes l.lengths l.at) l.code
