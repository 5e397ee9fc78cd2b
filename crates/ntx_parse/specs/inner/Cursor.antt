-- What a `Parser` shows, and what it keeps.
use Rattle.std.specs.Prelude.{map}
use Rattle.ntx_parse.specs.declared.parser.Parser.TheInside.{Inside}
use Rattle.ntx_parse.specs.inner.Input.{Input, seen, HaveValues}

abbrev pub input_of : Inside → Input
input_of t = record { words = map seen t.rest.now; last_line = t.last_line }

abbrev pub IsReady : Inside → Type 0
IsReady t = HaveValues (map seen t.rest.now)
