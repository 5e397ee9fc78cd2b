-- Values of scripts (Lua 5.3 Reference Manual, section 2.1).
--     is_same x y      whether two values are the same: what raw equality compares (section 3.4.4)
--     is_nil x         whether a value is nil
use Rattle.std.specs.Prelude.{Bool, true, false}
use Rattle.ntx_values.specs.declared.value.Value.{Value}
use Rattle.ntx_values.specs.declared.value.Value.TheVariants.{Nil}
use Rattle.ntx_values.specs.contracts.value.ValuePartialEq.TheImpl as equality

-- by parts: of one variant, with the same truth value, integer, number, primitive or name
abbrev pub is_same : Value → Value → Bool
is_same = (equality.ghosts).eq

abbrev pub is_nil : Value → Bool
is_nil Nil = true
is_nil _ = false
