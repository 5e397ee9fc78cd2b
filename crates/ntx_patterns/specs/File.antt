-- A file of patterns: patterns separated by spaces, tabs, CR and LF, and comments from `%` to the end of a line. The form is this project's
-- own, after the argument of TeX's \patterns ("The TeXbook", appendix H).
use Rattle.std.specs.Prelude.{ℕ, ◌+◌, ◌==◌, Bool, not, ◌||◌, List, [], ◌∷◌, ◌++◌, length, filter, Option, Some, None, Result, Ok, Err}
use Rattle.std.specs.List.{slice_split, before_first}
use Rattle.ntx_num.specs.Answer.{result_map, result_and_then}
use Rattle.ntx_patterns.specs.declared.fault.PatternFault.{PatternFault}
use Rattle.ntx_patterns.specs.Pattern.{Pattern, pattern_of}

-- a line feed, which ends a line
abbrev pub is_feed : ℕ → Bool
is_feed byte = byte == 10

-- a percent sign, which begins a comment
abbrev pub is_percent : ℕ → Bool
is_percent byte = byte == 37

-- a space, a tab or a CR
abbrev pub is_blank : ℕ → Bool
is_blank byte = byte == 32 || byte == 9 || byte == 13

-- a byte of a word
abbrev pub is_filled : ℕ → Bool
is_filled byte = not (is_blank byte)

-- not empty
abbrev pub is_word : List ℕ → Bool
is_word part = not (length part == 0)

-- the words of a text: its parts between blanks that are not empty
abbrev pub words_in : List ℕ → List (List ℕ)
words_in text = filter is_word (slice_split is_blank text)

-- the words of a line before its comment
abbrev pub words_of : List ℕ → List (List ℕ)
words_of line = words_in (before_first is_percent line)

-- the pattern that a word on the line of this number writes; any other word is refused with the line
abbrev pub read_at : ℕ → Option Pattern → Result Pattern PatternFault
read_at number (Some pattern) = Ok pattern
read_at number None = Err (record { line = number })

-- the patterns of the words on the line of this number, or the first refusal
abbrev pub patterns_on : ℕ → List (List ℕ) → Result (List Pattern) PatternFault
patterns_on number [] = Ok []
patterns_on number (word ∷ words) =
    result_and_then (read_at number (pattern_of word)) (λ pattern. result_map (λ patterns. pattern ∷ patterns) (patterns_on number words))

-- the patterns of lines that are numbered from here on, or the first refusal
abbrev pub patterns_from : ℕ → List (List ℕ) → Result (List Pattern) PatternFault
patterns_from number [] = Ok []
patterns_from number (line ∷ lines) =
    result_and_then (patterns_on number (words_of line)) (λ patterns. result_map (λ others. patterns ++ others) (patterns_from (number + 1) lines))

-- the patterns of a file in their order, or the first refusal; lines are numbered from 1
unfoldable pub patterns_of : List ℕ → Result (List Pattern) PatternFault
patterns_of bytes = patterns_from 1 (slice_split is_feed bytes)
