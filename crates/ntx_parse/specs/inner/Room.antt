-- How deep the calls of the parser may be inside one another.
-- A place is one deeper for each part that is counted, and between two such parts lie two calls at most: of a reader of blocks and of one of expressions.
-- So the calls that are still allowed and twice the nesting of the place are together as many as the deepest script needs.
use Rattle.std.specs.Prelude.{ℕ, ◌+◌, ◌*◌, ◌≤◌}
use Rattle.ntx_parse.specs.declared.place.Place.{Place}
use Rattle.ntx_parse.specs.Grammar.{max_nesting}

-- A phrase is begun in parts whose words may stand there, or in one more: its first word is refused then.
abbrev pub IsShallow : Place → Type 0
IsShallow p = p.nesting ≤ max_nesting + 1

-- the same inside of brackets or of a function, which begin with a word of their own
abbrev pub IsShallowPart : Place → Type 0
IsShallowPart p = p.nesting ≤ max_nesting + 2

-- what an operand needs, an expression and a block
abbrev pub for_operand : ℕ
for_operand = 2 * max_nesting + 4

abbrev pub for_exp : ℕ
for_exp = 2 * max_nesting + 5

abbrev pub for_block : ℕ
for_block = 2 * max_nesting + 6

-- At this place so many calls are enough for a phrase that needs these.
abbrev pub HasRoom : ℕ → ℕ → Place → Type 0
HasRoom needed depth p = needed ≤ depth + 2 * p.nesting
