-- The whole walk of `clap` over the words, and what it gives.
use Rattle.std.proofs.Common.{◌≡◌, ◌∙◌, Bool, true, false, List, [], ◌∷◌, ◌++◌, Option, None, Some, refl, sym, ap, subst, codes, arith, suc, append-nil, append_assoc}
use Rattle.std.specs.Prelude.{option_map, option_and_then, is_some, if◌then◌else◌, fold}
use Rattle.std.specs.Str.{IsUtf8}
use Rattle.std.specs.List.{All}
use Rattle.clap.specs.Walk.{Held, Row, Text, Waiting, Walk, idle, option as waits, positional, settled, settled_rows, used, walk_from, nothing_held, walked}
use Rattle.clap.specs.Faults.{settle_fault, turn_fault, use_fault, walk_fault}
use Rattle.clap.specs.Kinds.{Kinds, or_else}
use Rattle.clap.specs.declared.error.kind.ErrorKind.{ErrorKind}
use Rattle.ntx_words.specs.Kind.{Kind, option, option_with, last, unknown, plain, kind_of}
use Rattle.ntx_words.specs.Parts.{Parts, with_path, with_steps, parts_by, parts_from, parts_of}
use Rattle.ntx_words.proofs.Sight.{Seen, seen}
use Rattle.ntx_words.proofs.Rows.{Holds, parts_in, parts_held, path_held, value_held, path_passes, value_passes, second_fails, rules, steps_built}
use Rattle.ntx_words.proofs.Turns.{Pending, at, held, last_turn, last_walked, option_turn, option_walked, plain_turn, plain_walked, rest, settling, steps_alone, top, trailing_turn, trailing_walked, unknown_turn, value_turn, value_walked, wanting, wanting_last, wanting_last_walked, wanting_option, wanting_unknown, wanting_with, with_turn, with_walked}

pub first_word : (word : Text) (words : List Text) → All IsUtf8 (word ∷ words) → IsUtf8 word
first_word word words all = all 0 word (omega arith)

pub later_words : (word : Text) (words : List Text) → All IsUtf8 (word ∷ words) → All IsUtf8 words
later_words word words all = λ k d lt. all (suc k) d (omega arith)

-- ---- what a walk gives

abbrev pub ending : Kinds → List Row → Option Parts
ending [] rows = Some (parts_in rows)
ending (k ∷ ks) rows = None

abbrev pub last_held : Walk → List Text → Held
last_held w words = (fold (walked rules []) w words).held

-- the faults of the walk and of its end
abbrev pub walk_ending : Walk → List Text → Option Parts
walk_ending w words =
    let end = last_held w words in
    ending (or_else (walk_fault top [] w words) (settle_fault rules false end)) (settled rules end).rows

goes_on : (w next : Walk) (word : Text) (words : List Text) → turn_fault top [] w word ≡ [] → walked rules [] w word ≡ next
    → walk_ending w (word ∷ words) ≡ walk_ending next words
unfolding walk_fault
goes_on w next word words none is = rw none (ap (λ v. walk_ending v words) is)

fails_at : (w : Walk) (word : Text) (words : List Text) (k : ErrorKind) (ks : Kinds) → turn_fault top [] w word ≡ k ∷ ks
    → walk_ending w (word ∷ words) ≡ None
unfolding walk_fault
fails_at w word words k ks some = rw some refl

ends : (w : Walk) → walk_ending w [] ≡ ending (settle_fault rules false w.held) (settled rules w.held).rows
unfolding walk_fault
ends w = refl

-- ---- a walk that holds a fault

trailing_doomed : (words : List Text) (waiting : Waiting) (pending : Pending) (rows : List Row) (k : ErrorKind) (ks : Kinds)
    → settling pending rows ≡ k ∷ ks → walk_ending (at waiting true pending rows) words ≡ None
trailing_doomed [] waiting pending rows k ks bad = ends (at waiting true pending rows) ∙ ap (λ f. ending f (settled rules (held pending rows)).rows) bad
trailing_doomed (word ∷ words) waiting pending rows k ks bad =
    fails_at (at waiting true pending rows) word words k ks (trailing_turn waiting pending rows word ∙ bad)

doomed : (words : List Text) → All IsUtf8 words → (b : Bool) (pending : Pending) (rows : List Row) (k : ErrorKind) (ks : Kinds)
    → settling pending rows ≡ k ∷ ks → walk_ending (at (rest b) false pending rows) words ≡ None
doomed [] utf8 b pending rows k ks bad = ends (at (rest b) false pending rows) ∙ ap (λ f. ending f (settled rules (held pending rows)).rows) bad
doomed (word ∷ words) utf8 b pending rows k ks bad = by_kind (kind_of word) (seen word (first_word word words utf8))
  where
    by_kind : (kind : Kind) → Seen word kind → walk_ending (at (rest b) false pending rows) (word ∷ words) ≡ None
    by_kind plain s = fails_at (at (rest b) false pending rows) word words k ks (plain_turn b pending rows word s ∙ bad)
    by_kind option s = fails_at (at (rest b) false pending rows) word words k ks (option_turn b pending rows word s ∙ bad)
    by_kind (option_with v) s = fails_at (at (rest b) false pending rows) word words k ks
        (with_turn b pending rows word v s ∙ ap (λ f. or_else f (use_fault false steps_built (v ∷ []) (settled_rows rules pending rows))) bad)
    by_kind last s = goes_on (at (rest b) false pending rows) (at (rest b) true pending rows) word words (last_turn b pending rows word s)
        (last_walked b pending rows word s) ∙ trailing_doomed words (rest b) pending rows k ks bad
    by_kind unknown s = fails_at (at (rest b) false pending rows) word words _ _ (unknown_turn b pending rows word s)

-- ---- what the words say after what was said before

-- the value that was given before, and the parts after it
abbrev pub given : Option Text → Option Parts → Option Parts
given None parts = parts
given (Some value) parts = option_and_then (with_steps value) parts

abbrev pub with_paths : List Text → Parts → Parts
with_paths paths parts = record parts { paths = paths ++ parts.paths }

-- the value and the paths that were given before, and the parts after them
abbrev pub joined : Option Text → List Text → Option Parts → Option Parts
joined steps paths parts = option_map (with_paths paths) (given steps parts)

join_path : (steps : Option Text) (paths : List Text) (word : Text) (parts : Option Parts)
    → joined steps (paths ++ word ∷ []) parts ≡ joined steps paths (option_map (with_path word) parts)
join_path None paths word None = refl
join_path (Some v) paths word None = refl
join_path None paths word (Some parts) = ap (λ t. Some (record parts { paths = t })) (append_assoc paths (word ∷ []) parts.paths)
join_path (Some v) paths word (Some parts) = go parts.steps
  where
    go : (o : Option Text) → option_map (with_paths (paths ++ word ∷ [])) (if is_some o then None else Some (record parts { steps = Some v }))
        ≡ option_map (with_paths paths) (if is_some o then None else Some (record { steps = Some v; paths = word ∷ parts.paths }))
    go None = ap (λ t. Some (record parts { steps = Some v; paths = t })) (append_assoc paths (word ∷ []) parts.paths)
    go (Some u) = refl

join_again : (first second : Text) (paths : List Text) (parts : Option Parts) → joined (Some first) paths (option_and_then (with_steps second) parts) ≡ None
join_again first second paths None = refl
join_again first second paths (Some parts) = go parts.steps
  where
    go : (o : Option Text) → option_map (with_paths paths) (option_and_then (with_steps first) (if is_some o then None else Some (record parts { steps = Some second }))) ≡ None
    go None = refl
    go (Some u) = refl

join_rest : (steps : Option Text) (paths words : List Text) → joined steps paths (Some (record { steps = None; paths = words }))
    ≡ Some (record { steps = steps; paths = paths ++ words })
join_rest None paths words = refl
join_rest (Some v) paths words = refl

join_none : (steps : Option Text) (paths : List Text) → joined steps paths None ≡ None
join_none None paths = refl
join_none (Some v) paths = refl

-- ---- after `--`

ended : (w : Walk) (steps : Option Text) (paths : List Text) → settle_fault rules false w.held ≡ [] → Holds steps paths (settled rules w.held).rows
    → walk_ending w [] ≡ Some (record { steps = steps; paths = paths })
ended w steps paths none holds =
    ends w ∙ ap (λ f. ending f (settled rules w.held).rows) none ∙ ap (λ p. Some p) (parts_held steps paths (settled rules w.held).rows holds)

trailing : (words : List Text) (waiting : Waiting) (pending : Pending) (rows : List Row) (steps : Option Text) (paths : List Text)
    → settling pending rows ≡ [] → Holds steps paths (settled_rows rules pending rows)
    → walk_ending (at waiting true pending rows) words ≡ Some (record { steps = steps; paths = paths ++ words })
trailing [] waiting pending rows steps paths none holds =
    ended (at waiting true pending rows) steps paths none holds ∙ ap (λ t. Some (record { steps = steps; paths = t })) (sym (append-nil paths))
trailing (word ∷ words) waiting pending rows steps paths none holds =
    let now = settled_rows rules pending rows in
    goes_on (at waiting true pending rows) (at positional true (Some (codes "paths", word ∷ [])) now) word words
    (trailing_turn waiting pending rows word ∙ none) (trailing_walked waiting pending rows word)
    ∙ trailing words positional (Some (codes "paths", word ∷ [])) now steps (paths ++ word ∷ []) (path_passes word now) (path_held steps paths now word holds)
    ∙ ap (λ t. Some (record { steps = steps; paths = t })) (append_assoc paths (word ∷ []) words)

-- ---- the walk

-- what the walk gives from where no option waits, and from where the option waits
abbrev Rests : List Text → Type 0
Rests words = (b : Bool) (pending : Pending) (rows : List Row) (steps : Option Text) (paths : List Text)
    → settling pending rows ≡ [] → Holds steps paths (settled_rows rules pending rows)
    → walk_ending (at (rest b) false pending rows) words ≡ joined steps paths (parts_from false words)

abbrev Wants : List Text → Type 0
Wants words = (rows : List Row) (steps : Option Text) (paths : List Text) → Holds steps paths rows
    → walk_ending (wanting rows) words ≡ joined steps paths (parts_from true words)

-- the option has its value now, which a later word may not give again
valued : (words : List Text) → All IsUtf8 words → Rests words → (b : Bool) (pending : Pending) (rows now : List Row) (steps : Option Text) (paths : List Text) (word : Text)
    → settling pending rows ≡ use_fault false steps_built (word ∷ []) now → settled_rows rules pending rows ≡ used steps_built (word ∷ []) now → Holds steps paths now
    → walk_ending (at (rest b) false pending rows) words ≡ joined steps paths (option_and_then (with_steps word) (parts_from false words))
valued words utf8 rests b pending rows now None paths word fault is holds =
    rests b pending rows (Some word) paths (fault ∙ value_passes paths word now holds) (subst (Holds (Some word) paths) (sym is) (value_held paths now word holds))
valued words utf8 rests b pending rows now (Some first) paths word fault is holds =
    doomed words utf8 b pending rows _ _ (fault ∙ second_fails paths first word now holds) ∙ sym (join_again first word paths (parts_from false words))

rests_next : (word : Text) (words : List Text) → All IsUtf8 (word ∷ words) → Rests words → Wants words → Rests (word ∷ words)
unfolding parts_from
rests_next word words utf8 rests wants b pending rows steps paths none holds = by_kind (kind_of word) (seen word (first_word word words utf8))
  where
    now : List Row
    now = settled_rows rules pending rows

    by_kind : (kind : Kind) → Seen word kind → walk_ending (at (rest b) false pending rows) (word ∷ words)
        ≡ joined steps paths (parts_by false kind word words (λ next. parts_from next words))
    by_kind plain s =
        goes_on (at (rest b) false pending rows) (at positional false (Some (codes "paths", word ∷ [])) now) word words
        (plain_turn b pending rows word s ∙ none) (plain_walked b pending rows word s)
        ∙ rests true (Some (codes "paths", word ∷ [])) now steps (paths ++ word ∷ []) (path_passes word now) (path_held steps paths now word holds)
        ∙ join_path steps paths word (parts_from false words)
    by_kind option s =
        goes_on (at (rest b) false pending rows) (wanting now) word words (option_turn b pending rows word s ∙ none) (option_walked b pending rows word s)
        ∙ wants now steps paths holds
    by_kind (option_with v) s = with_value steps holds
      where
        turn : turn_fault top [] (at (rest b) false pending rows) word ≡ use_fault false steps_built (v ∷ []) now
        turn = with_turn b pending rows word v s ∙ ap (λ f. or_else f (use_fault false steps_built (v ∷ []) now)) none

        with_value : (given : Option Text) → Holds given paths now → walk_ending (at (rest b) false pending rows) (word ∷ words)
            ≡ joined given paths (option_and_then (with_steps v) (parts_from false words))
        with_value None held =
            goes_on (at (rest b) false pending rows) (at idle false None (used steps_built (v ∷ []) now)) word words
            (turn ∙ value_passes paths v now held) (with_walked b pending rows word v s)
            ∙ rests false None (used steps_built (v ∷ []) now) (Some v) paths refl (value_held paths now v held)
        with_value (Some first) held =
            fails_at (at (rest b) false pending rows) word words _ _ (turn ∙ second_fails paths first v now held)
            ∙ sym (join_again first v paths (parts_from false words))
    by_kind last s =
        goes_on (at (rest b) false pending rows) (at (rest b) true pending rows) word words (last_turn b pending rows word s) (last_walked b pending rows word s)
        ∙ trailing words (rest b) pending rows steps paths none holds ∙ sym (join_rest steps paths words)
    by_kind unknown s =
        fails_at (at (rest b) false pending rows) word words _ _ (unknown_turn b pending rows word s) ∙ sym (join_none steps paths)

wants_next : (word : Text) (words : List Text) → All IsUtf8 (word ∷ words) → Rests words → Wants (word ∷ words)
unfolding parts_from
wants_next word words utf8 rests rows steps paths holds = by_kind (kind_of word) (seen word (first_word word words utf8))
  where
    by_kind : (kind : Kind) → Seen word kind → walk_ending (wanting rows) (word ∷ words)
        ≡ joined steps paths (parts_by true kind word words (λ next. parts_from next words))
    by_kind plain s =
        goes_on (wanting rows) (at idle false (Some (codes "steps", word ∷ [])) rows) word words (value_turn rows word s) (value_walked rows word s)
        ∙ valued words (later_words word words utf8) rests false (Some (codes "steps", word ∷ [])) rows rows steps paths word refl refl holds
    by_kind option s = fails_at (wanting rows) word words _ _ (wanting_option rows word s) ∙ sym (join_none steps paths)
    by_kind (option_with v) s = fails_at (wanting rows) word words _ _ (wanting_with rows word v s) ∙ sym (join_none steps paths)
    by_kind last s =
        goes_on (wanting rows) (at (waits (codes "steps")) true steps_alone rows) word words (wanting_last rows word s) (wanting_last_walked rows word s)
        ∙ trailing_doomed words (waits (codes "steps")) steps_alone rows _ _ refl ∙ sym (join_none steps paths)
    by_kind unknown s = fails_at (wanting rows) word words _ _ (wanting_unknown rows word s) ∙ sym (join_none steps paths)

both : (words : List Text) → All IsUtf8 words → Rests words × Wants words
unfolding parts_from
both [] utf8 = (rests, wants)
  where
    rests : Rests []
    rests b pending rows steps paths none holds =
        ended (at (rest b) false pending rows) steps paths none holds
        ∙ ap (λ t. Some (record { steps = steps; paths = t })) (sym (append-nil paths)) ∙ sym (join_rest steps paths [])

    wants : Wants []
    wants rows steps paths holds = ends (wanting rows) ∙ sym (join_none steps paths)
both (word ∷ words) utf8 =
    let below = both words (later_words word words utf8) in
    (rests_next word words utf8 below.0 below.1, wants_next word words utf8 below.0)

-- the walk over all words, as `clap` begins it
pub walk_reads : (words : List Text) → All IsUtf8 words → walk_ending (walk_from nothing_held) words ≡ parts_of words
walk_reads words utf8 =
    (both words utf8).0 false None [] None [] refl (record { value = refl; all = refl }) ∙ as_said (parts_of words)
  where
    as_said : (o : Option Parts) → joined None [] o ≡ o
    as_said None = refl
    as_said (Some parts) = refl
