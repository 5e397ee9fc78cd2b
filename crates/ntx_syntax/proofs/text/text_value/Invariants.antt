use Rattle.std.proofs.Common.{◌≡◌, ◌-◌, ◌≤◌, ◌++◌, length, drop}
use Rattle.std.specs.Prelude.{option_map}
use Rattle.ntx_syntax.specs.Values.{characters, text_value}
use Rattle.ntx_syntax.proofs.text.text_value.Given as goal

abbrev pub invariant-loop-value : goal.invariant-loop-value
invariant-loop-value l = record {
  rest : option_map (λ others. l.found.items ++ others) (characters l.quote 0 (drop l.at l.bytes)) ≡ text_value l.bytes;
  within : l.at ≤ length l.bytes;
}

abbrev pub decreases-loop-value : goal.decreases-loop-value
decreases-loop-value l = length l.bytes - l.at
