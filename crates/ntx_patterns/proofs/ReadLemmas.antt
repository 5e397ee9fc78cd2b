-- Reading a file line by line.
use Rattle.std.proofs.Common.{◌≡◌, ℕ, ◌+◌, ◌⊎◌, List, [], ◌∷◌, length, Ok, Err, refl, ap, sym, ◌∙◌, arith, inl, inr}
use Rattle.std.specs.List.{slice_split}
use Rattle.std.proofs.Math.Path.{fun_ext}
use Rattle.ntx_num.specs.Answer.{result_map}
use Rattle.ntx_patterns.specs.declared.fault.PatternFault.{PatternFault}
use Rattle.ntx_patterns.specs.File.{is_feed, words_of, patterns_on, patterns_from, patterns_of}
use Rattle.ntx_patterns.specs.Table.{Table, table_of}
use Rattle.ntx_patterns.specs.inner.Adding.{with_patterns}
use Rattle.ntx_patterns.proofs.AddingLemmas.{lines_go_on, lines_stop, with_patterns-empty}

-- what the first line of a text and the text after it are
abbrev pub IsCut : List ℕ → List ℕ → List ℕ → Type 0
IsCut rest line behind = (slice_split is_feed rest ≡ line ∷ slice_split is_feed behind) ⊎ ((slice_split is_feed rest ≡ line ∷ []) × (behind ≡ []))

pub read_start : (table : Table) (bytes : List ℕ) → ((key : List ℕ) → table key ≡ [])
    → result_map table_of (patterns_of bytes) ≡ result_map (with_patterns table) (patterns_from (0 + 1) (slice_split is_feed bytes))
unfolding patterns_of
read_start table bytes none = ap (λ f. result_map f (patterns_from 1 (slice_split is_feed bytes))) (sym (fun_ext (λ patterns. with_patterns-empty table patterns none)))

no_more : (number : ℕ) (behind : List ℕ) → behind ≡ [] → patterns_from number (slice_split is_feed behind) ≡ Ok []
no_more number behind none = ap (λ text. patterns_from number (slice_split is_feed text)) none

pub line_read : (table table' : Table) (number : ℕ) (rest line behind : List ℕ) → IsCut rest line behind
    → result_map (with_patterns table) (patterns_on number (words_of line)) ≡ Ok table'
    → result_map (with_patterns table) (patterns_from number (slice_split is_feed rest)) ≡ result_map (with_patterns table') (patterns_from (number + 1) (slice_split is_feed behind))
line_read table table' number rest line behind (inl cut) is =
    ap (λ lines. result_map (with_patterns table) (patterns_from number lines)) cut
    ∙ lines_go_on table table' (patterns_on number (words_of line)) (patterns_from (number + 1) (slice_split is_feed behind)) is
line_read table table' number rest line behind (inr (cut, none)) is =
    ap (λ lines. result_map (with_patterns table) (patterns_from number lines)) cut
    ∙ lines_go_on table table' (patterns_on number (words_of line)) (Ok []) is
    ∙ ap (result_map (with_patterns table')) (sym (no_more (number + 1) behind none))

pub line_refused : (table : Table) (number : ℕ) (rest line behind : List ℕ) (fault : PatternFault) → IsCut rest line behind
    → result_map (with_patterns table) (patterns_on number (words_of line)) ≡ Err fault
    → result_map (with_patterns table) (patterns_from number (slice_split is_feed rest)) ≡ Err fault
line_refused table number rest line behind fault (inl cut) is =
    ap (λ lines. result_map (with_patterns table) (patterns_from number lines)) cut
    ∙ lines_stop table (patterns_on number (words_of line)) (patterns_from (number + 1) (slice_split is_feed behind)) fault is
line_refused table number rest line behind fault (inr (cut, none)) is =
    ap (λ lines. result_map (with_patterns table) (patterns_from number lines)) cut
    ∙ lines_stop table (patterns_on number (words_of line)) (Ok []) fault is

nothing : (text : List ℕ) → length text ≡ 0 → text ≡ []
nothing [] none = refl
nothing (byte ∷ bytes) none = absurd (omega arith)

pub read_end : (table : Table) (number : ℕ) (rest : List ℕ) → length rest ≡ 0 → result_map (with_patterns table) (patterns_from number (slice_split is_feed rest)) ≡ Ok table
read_end table number rest none = ap (result_map (with_patterns table)) (no_more number rest (nothing rest none))
