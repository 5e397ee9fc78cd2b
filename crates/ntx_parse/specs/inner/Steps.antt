-- Parts of readings that the program has as functions of their own.
use Rattle.std.specs.Prelude.{[], if◌then◌else◌, List}
use Rattle.ntx_syntax.specs.declared.tree.Exp.{Exp}
use Rattle.ntx_parse.specs.declared.part.Part.{Part}
use Rattle.ntx_parse.specs.declared.part.Part.TheVariants as part
use Rattle.ntx_parse.specs.declared.part.Tail.{Tail}
use Rattle.ntx_parse.specs.declared.part.Tail.TheVariants as tail
use Rattle.ntx_parse.specs.declared.place.Place.{Place}
use Rattle.ntx_parse.specs.declared.precedence.Precedence.{Precedence}
use Rattle.ntx_parse.specs.declared.precedence.Precedence.TheVariants as precedence
use Rattle.ntx_syntax.specs.declared.terminal.Terminal.TheVariants as terminal
use Rattle.ntx_parse.specs.Words.{Word}
use Rattle.ntx_parse.specs.Grammar.{within, run_of}
use Rattle.ntx_parse.specs.inner.Reading.{Answer, Readers, and_then, read, begins, take_word, read_name, read_index, read_arguments, joined, concat_behind}

-- the operators of this precedence and their operands, after this
abbrev pub behind_at : Readers → Place → Precedence → Exp → List Word → Answer Exp
behind_at r p precedence.Concat first words = concat_behind r p first words
behind_at r p at first words = and_then (r.operations p at [] words) (λ others rest. read (run_of first others) rest)

-- one suffix
abbrev pub tail_at : Readers → Place → List Word → Answer Tail
tail_at r p words =
    if begins terminal.LeftBracket words then and_then (read_index r (within p) words) (λ key rest. read (tail.Index key) rest)
    else if begins terminal.Dot words then
    and_then (take_word p words) (λ _ behind. and_then (read_name p behind) (λ name rest. read (tail.Field name) rest))
    else and_then (read_arguments r (within p) words) (λ arguments rest. read (tail.Call arguments) rest)

-- what it makes of what stands before it
abbrev pub extended : Part → Tail → Part
extended before (tail.Index key) = part.Index (joined before) key
extended before (tail.Field name) = part.Field (joined before) name
extended before (tail.Call arguments) = part.Call (joined before) arguments
