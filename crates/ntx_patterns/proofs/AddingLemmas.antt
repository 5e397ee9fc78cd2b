-- Adding the patterns of words and lines one after another.
use Rattle.std.proofs.Common.{◌≡◌, ℕ, List, [], ◌∷◌, ◌++◌, Result, Ok, Err, bytes_eq, refl, ap, sym, ◌∙◌, inl, inr}
use Rattle.std.proofs.Math.Path.{fun_ext}
use Rattle.std.proofs.lemmas.Bool.{cases_Bool}
use Rattle.ntx_num.specs.Answer.{result_map, result_and_then}
use Rattle.ntx_patterns.specs.declared.fault.PatternFault.{PatternFault}
use Rattle.ntx_patterns.specs.Pattern.{Pattern}
use Rattle.ntx_patterns.specs.Table.{Table, greater_digits, table_of}
use Rattle.ntx_patterns.specs.inner.Adding.{with_pattern, with_patterns}
use Rattle.ntx_patterns.proofs.DigitsLemmas.{greater-none, greater_assoc}

with_patterns-append : (table : Table) (patterns others : List Pattern) → with_patterns table (patterns ++ others) ≡ with_patterns (with_patterns table patterns) others
with_patterns-append table [] others = refl
with_patterns-append table (pattern ∷ patterns) others = with_patterns-append (with_pattern table pattern) patterns others

-- the first word or line is read
pub words_go_on : (table table' : Table) (first : Result Pattern PatternFault) (rest : Result (List Pattern) PatternFault)
    → result_map (with_pattern table) first ≡ Ok table'
    → result_map (with_patterns table) (result_and_then first (λ pattern. result_map (λ patterns. pattern ∷ patterns) rest)) ≡ result_map (with_patterns table') rest
words_go_on table table' (Ok pattern) (Ok patterns) is = let e : with_pattern table pattern ≡ table' = cc in ap (λ t. Ok (with_patterns t patterns)) e
words_go_on table table' (Ok pattern) (Err fault) is = refl
words_go_on table table' (Err fault) rest is = cc

pub lines_go_on : (table table' : Table) (first rest : Result (List Pattern) PatternFault)
    → result_map (with_patterns table) first ≡ Ok table'
    → result_map (with_patterns table) (result_and_then first (λ patterns. result_map (λ others. patterns ++ others) rest)) ≡ result_map (with_patterns table') rest
lines_go_on table table' (Ok patterns) (Ok others) is =
    let e : with_patterns table patterns ≡ table' = cc in
    ap Ok (with_patterns-append table patterns others ∙ ap (λ t. with_patterns t others) e)
lines_go_on table table' (Ok patterns) (Err fault) is = refl
lines_go_on table table' (Err fault) rest is = cc

-- it is refused
pub words_stop : (table : Table) (first : Result Pattern PatternFault) (rest : Result (List Pattern) PatternFault) (fault : PatternFault)
    → result_map (with_pattern table) first ≡ Err fault
    → result_map (with_patterns table) (result_and_then first (λ pattern. result_map (λ patterns. pattern ∷ patterns) rest)) ≡ Err fault
words_stop table (Ok pattern) rest fault is = cc
words_stop table (Err other) rest fault is = cc

pub lines_stop : (table : Table) (first rest : Result (List Pattern) PatternFault) (fault : PatternFault)
    → result_map (with_patterns table) first ≡ Err fault
    → result_map (with_patterns table) (result_and_then first (λ patterns. result_map (λ others. patterns ++ others) rest)) ≡ Err fault
lines_stop table (Ok patterns) rest fault is = cc
lines_stop table (Err other) rest fault is = cc

-- The table of patterns that are added to a table.
with_patterns_is : (table : Table) (patterns : List Pattern) (key : List ℕ) → with_patterns table patterns key ≡ greater_digits (table key) (table_of patterns key)
with_patterns_is table [] key = sym (greater-none (table key))
with_patterns_is table (pattern ∷ patterns) key =
    with_patterns_is (with_pattern table pattern) patterns key
    ∙ elim (cases_Bool (bytes_eq pattern.symbols key)) [
      | inl same ↦ rw same (sym (greater_assoc (table key) pattern.digits (table_of patterns key)))
      | inr other ↦ rw other refl
    ]

pub with_patterns-empty : (table : Table) (patterns : List Pattern) → ((key : List ℕ) → table key ≡ []) → with_patterns table patterns ≡ table_of patterns
with_patterns-empty table patterns none = fun_ext (λ key. with_patterns_is table patterns key ∙ ap (λ digits. greater_digits digits (table_of patterns key)) (none key))
