use Rattle.std.proofs.Common.{◌≡◌, take, Ok}
use Rattle.ntx_lualib.specs.Arguments.{each_of, integer_of}
use Rattle.ntx_lualib.proofs.numbers.integers.Given as goal

abbrev pub invariant-loop-value : goal.invariant-loop-value
invariant-loop-value l = each_of integer_of (take l.value-index l.args) ≡ Ok l.integers.items
