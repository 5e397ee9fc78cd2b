-- One word of the walk of `clap`: its faults, and where the walk stands after it.
use Rattle.std.proofs.Common.{◌≡◌, ◌&&◌, Bool, true, false, List, [], ◌∷◌, Option, None, Some, refl, codes}
use Rattle.std.specs.Str.{bytes_eq}
use Rattle.clap.specs.Lexer.{long_of}
use Rattle.clap.specs.Walk.{Held, Row, Text, Waiting, Walk, idle, option as waits, positional, settled_rows, used, walked}
use Rattle.clap.specs.Simple.{Shape, built}
use Rattle.clap.specs.Faults.{flag_word_fault, flags_fault, settle_fault, turn_fault, use_fault}
use Rattle.clap.specs.Kinds.{Kinds, or_else}
use Rattle.clap.specs.declared.error.kind.ErrorKind.TheVariants as kind
use Rattle.ntx_words.specs.Kind.{option, option_with, last, unknown, plain}
use Rattle.ntx_words.specs.inner.Clap.{ntx_app}
use Rattle.ntx_words.proofs.Sight.{Seen, Unknown, long, short}
use Rattle.ntx_words.proofs.Rows.{rules, steps_built}

abbrev pub top : Shape
top = (built ntx_app).top

abbrev pub Pending : Type 0
Pending = Option (Text × List Text)

abbrev pub held : Pending → List Row → Held
held pending rows = record { rows = rows; pending = pending; skip = 0 }

-- where the walk stands
abbrev pub at : Waiting → Bool → Pending → List Row → Walk
at waiting trailing pending rows =
    record { held = held pending rows; waiting = waiting; position = 1; is_trailing = trailing; stopped = None }

-- what waits if no option does
abbrev pub rest : Bool → Waiting
rest true = positional
rest false = idle

-- the option, and no value yet
abbrev pub steps_alone : Pending
steps_alone = Some (codes "steps", [])

abbrev pub settling : Pending → List Row → Kinds
settling pending rows = settle_fault rules false (held pending rows)

and_false : (b : Bool) → (b && false) ≡ false
and_false true = refl
and_false false = refl

pub nothing_else : (kinds : Kinds) → or_else kinds [] ≡ kinds
nothing_else [] = refl
nothing_else (k ∷ ks) = refl

-- ---- after `--`

pub trailing_turn : (waiting : Waiting) (pending : Pending) (rows : List Row) (word : Text) → turn_fault top [] (at waiting true pending rows) word ≡ settling pending rows
trailing_turn waiting None rows word = refl
trailing_turn waiting (Some p) rows word = rw (and_false (bytes_eq p.0 (codes "paths"))) refl

pub trailing_walked : (waiting : Waiting) (pending : Pending) (rows : List Row) (word : Text)
    → walked rules [] (at waiting true pending rows) word ≡ at positional true (Some (codes "paths", word ∷ [])) (settled_rows rules pending rows)
unfolding walked
trailing_walked waiting None rows word = refl
trailing_walked waiting (Some p) rows word = rw (and_false (bytes_eq p.0 (codes "paths"))) refl

-- ---- where no option waits for its value

pub plain_turn : (b : Bool) (pending : Pending) (rows : List Row) (word : Text) → Seen word plain
    → turn_fault top [] (at (rest b) false pending rows) word ≡ settling pending rows
plain_turn true None rows word seen = rw (seen.0, seen.1, seen.2) refl
plain_turn false None rows word seen = rw (seen.0, seen.1, seen.2) refl
plain_turn true (Some p) rows word seen = rw (seen.0, seen.1, seen.2, and_false (bytes_eq p.0 (codes "paths"))) refl
plain_turn false (Some p) rows word seen = rw (seen.0, seen.1, seen.2, and_false (bytes_eq p.0 (codes "paths"))) refl

pub plain_walked : (b : Bool) (pending : Pending) (rows : List Row) (word : Text) → Seen word plain
    → walked rules [] (at (rest b) false pending rows) word ≡ at positional false (Some (codes "paths", word ∷ [])) (settled_rows rules pending rows)
unfolding walked
plain_walked true None rows word seen = rw (seen.0, seen.1, seen.2) refl
plain_walked false None rows word seen = rw (seen.0, seen.1, seen.2) refl
plain_walked true (Some p) rows word seen = rw (seen.0, seen.1, seen.2, and_false (bytes_eq p.0 (codes "paths"))) refl
plain_walked false (Some p) rows word seen = rw (seen.0, seen.1, seen.2, and_false (bytes_eq p.0 (codes "paths"))) refl

pub last_turn : (b : Bool) (pending : Pending) (rows : List Row) (word : Text) → Seen word last → turn_fault top [] (at (rest b) false pending rows) word ≡ []
last_turn true pending rows word seen = rw seen refl
last_turn false pending rows word seen = rw seen refl

pub last_walked : (b : Bool) (pending : Pending) (rows : List Row) (word : Text) → Seen word last
    → walked rules [] (at (rest b) false pending rows) word ≡ at (rest b) true pending rows
unfolding walked
last_walked true pending rows word seen = rw seen refl
last_walked false pending rows word seen = rw seen refl

pub option_turn : (b : Bool) (pending : Pending) (rows : List Row) (word : Text) → Seen word option
    → turn_fault top [] (at (rest b) false pending rows) word ≡ settling pending rows
option_turn true pending rows word seen = rw (seen.0, seen.1) (nothing_else _)
option_turn false pending rows word seen = rw (seen.0, seen.1) (nothing_else _)

pub option_walked : (b : Bool) (pending : Pending) (rows : List Row) (word : Text) → Seen word option
    → walked rules [] (at (rest b) false pending rows) word ≡ at (waits (codes "steps")) false steps_alone (settled_rows rules pending rows)
unfolding walked
option_walked true pending rows word seen = rw (seen.0, seen.1) refl
option_walked false pending rows word seen = rw (seen.0, seen.1) refl

pub with_turn : (b : Bool) (pending : Pending) (rows : List Row) (word value : Text) → Seen word (option_with value)
    → turn_fault top [] (at (rest b) false pending rows) word
    ≡ or_else (settling pending rows) (use_fault false steps_built (value ∷ []) (settled_rows rules pending rows))
with_turn true pending rows word value seen = rw (seen.0, seen.1) (nothing_else _)
with_turn false pending rows word value seen = rw (seen.0, seen.1) (nothing_else _)

pub with_walked : (b : Bool) (pending : Pending) (rows : List Row) (word value : Text) → Seen word (option_with value)
    → walked rules [] (at (rest b) false pending rows) word ≡ at idle false None (used steps_built (value ∷ []) (settled_rows rules pending rows))
unfolding walked
with_walked true pending rows word value seen = rw (seen.0, seen.1) refl
with_walked false pending rows word value seen = rw (seen.0, seen.1) refl

-- ---- words that no option answers to

unknown_word : (pending : Pending) (rows : List Row) (word : Text) → Unknown word
    → flag_word_fault rules false (long_of word) word (held pending rows) ≡ kind.UnknownArgument ∷ []
unfolding flags_fault
unknown_word pending rows word (long u) = rw (u.2, u.3) refl
unknown_word pending rows word (short u) = rw (u.3, u.4, u.5) refl

pub unknown_turn : (b : Bool) (pending : Pending) (rows : List Row) (word : Text) → Seen word unknown
    → turn_fault top [] (at (rest b) false pending rows) word ≡ kind.UnknownArgument ∷ []
unknown_turn true pending rows word seen = rw (seen.0, unknown_word pending rows word seen.1) refl
unknown_turn false pending rows word seen = rw (seen.0, unknown_word pending rows word seen.1) refl

-- ---- where the option waits for its value

abbrev pub wanting : List Row → Walk
wanting rows = at (waits (codes "steps")) false steps_alone rows

pub value_turn : (rows : List Row) (word : Text) → Seen word plain → turn_fault top [] (wanting rows) word ≡ []
value_turn rows word seen = rw (seen.0, seen.1, seen.2) refl

pub value_walked : (rows : List Row) (word : Text) → Seen word plain
    → walked rules [] (wanting rows) word ≡ at idle false (Some (codes "steps", word ∷ [])) rows
unfolding walked
value_walked rows word seen = rw (seen.0, seen.1, seen.2) refl

pub wanting_last : (rows : List Row) (word : Text) → Seen word last → turn_fault top [] (wanting rows) word ≡ []
wanting_last rows word seen = rw seen refl

pub wanting_last_walked : (rows : List Row) (word : Text) → Seen word last
    → walked rules [] (wanting rows) word ≡ at (waits (codes "steps")) true steps_alone rows
unfolding walked
wanting_last_walked rows word seen = rw seen refl

pub wanting_option : (rows : List Row) (word : Text) → Seen word option → turn_fault top [] (wanting rows) word ≡ kind.InvalidValue ∷ []
wanting_option rows word seen = rw (seen.0, seen.1) refl

pub wanting_with : (rows : List Row) (word value : Text) → Seen word (option_with value) → turn_fault top [] (wanting rows) word ≡ kind.InvalidValue ∷ []
wanting_with rows word value seen = rw (seen.0, seen.1) refl

pub wanting_unknown : (rows : List Row) (word : Text) → Seen word unknown → turn_fault top [] (wanting rows) word ≡ kind.UnknownArgument ∷ []
wanting_unknown rows word seen = rw (seen.0, unknown_word steps_alone rows word seen.1) refl
