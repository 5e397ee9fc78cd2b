use Rattle.std.proofs.Common.{◌≡◌, take, Ok}
use Rattle.ntx_lualib.specs.Arguments.{each_of}
use Rattle.ntx_lualib.specs.Strings.{byte_of}
use Rattle.ntx_lualib.proofs.strings.string_char.Given as goal

abbrev pub invariant-loop-value : goal.invariant-loop-value
invariant-loop-value l = each_of byte_of (take l.value-index l.args) ≡ Ok l.bytes.items
