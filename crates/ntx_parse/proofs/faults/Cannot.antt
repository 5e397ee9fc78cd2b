-- Where the reading of a script stops since something else is expected, no script begins with the words up to the one where it stops, that one too.
--     no_script    such words are no script
--     cannot       what is wrong with the first of the words before which it stops
use Rattle.std.proofs.Common.{◌≡◌, ◌≤◌, ℕ, max, List, [], ◌∷◌, ◌++◌, inl, inr, None, Some, Result, Ok, Err, sym, ap, ◌∙◌, append_assoc, append-nil, arith}
use Rattle.std.proofs.lemmas.List.{map-append}
use Rattle.ntx_syntax.specs.declared.fault.SyntaxWhy.TheVariants as why
use Rattle.ntx_syntax.specs.declared.tree.Block.{Block}
use Rattle.ntx_parse.specs.Words.{Word}
use Rattle.ntx_parse.specs.Grammar.{Placed}
use Rattle.ntx_parse.specs.inner.Reading.{Answer, Stop, stopped, script_by}
use Rattle.ntx_parse.specs.Faults.{CannotStand, IsNoScript, IsWrong}
use Rattle.ntx_parse.proofs.complete.Begins.{plain}
use Rattle.ntx_parse.proofs.viewed.Deeper.{more_script}
use Rattle.ntx_parse.proofs.viewed.Local.{same_behind, local_here, why_stopped}
use Rattle.ntx_parse.proofs.faults.Told.{ScriptIsAtLast, IsTold, read_whole, stops_behind, answer_told, told}

-- ---- words that derive

-- If something else is expected there, nothing else is told of the script.
told_there : (n : ℕ) (words behind : List Word) (x : Result (Block × List Word) Stop) → script_by n words ≡ stopped why.Expected behind → ScriptIsAtLast words x
    → stopped why.Expected behind ≡ Some x
told_there n words behind x e known =
    let m : ℕ = max n known.from in
    let deeper : n ≤ m = omega arith in
    let enough : known.from ≤ m = omega arith in
    sym (more_script n m deeper words _ e) ∙ known.gives m enough

not_both : (n : ℕ) (words behind : List Word) → script_by n words ≡ stopped why.Expected behind → IsTold words [] → ⊥
not_both n words behind e (read_whole {b} known) = let same = told_there n words behind (Ok (b, [])) e known in cc
not_both n words behind e (stops_behind {stop} other shorter known) = other (why_stopped (sym (told_there n words behind (Err stop) e known)))

pub no_script : (n : ℕ) (words behind : List Word) → script_by n words ≡ stopped why.Expected behind → IsNoScript words
no_script n words behind e placed chunk same derives = not_both n (plain placed) behind (ap (script_by n) same ∙ e) (told placed chunk derives)

-- ---- the words up to where it stops

pub told_nothing : {x : Answer Block} {y : Result (Block × List Word) Stop} → x ≡ Some y → x ≡ None → ⊥
told_nothing e none = let both = sym e ∙ none in cc

cannot_follow : (n : ℕ) (front : List Word) (o : Word) (others : List Word) → script_by n (front ++ o ∷ others) ≡ stopped why.Expected (o ∷ others)
    → CannotStand (front ++ o ∷ [])
cannot_follow n front o others e given same begin =
    let words_are : plain (given ++ begin.0) ≡ front ++ o ∷ plain begin.0 =
    map-append (λ (w : Placed). w.word) given begin.0 ∙ ap (λ w. w ++ plain begin.0) same ∙ append_assoc front (o ∷ []) (plain begin.0) in
    let known = (answer_told (told (given ++ begin.0) begin.1 begin.2)).1 in
    let m : ℕ = max n known.from in
    let deeper : n ≤ m = omega arith in
    let enough : known.from ≤ m = omega arith in
    let same_there = same_behind others (plain begin.0) front o in
    elim (local_here others (plain begin.0) (front ++ o ∷ others) (front ++ o ∷ plain begin.0) o why.Expected n m deeper same_there e) [
      | inl stops_there ↦ no_script m (front ++ o ∷ plain begin.0) (o ∷ plain begin.0) stops_there (given ++ begin.0) begin.1 words_are begin.2
      | inr none ↦ told_nothing (known.gives m enough) (ap (script_by m) words_are ∙ none)
    ]

pub cannot : (n : ℕ) (words front behind : List Word) (placed : List Placed) → words ≡ front ++ behind → script_by n words ≡ stopped why.Expected behind
    → IsWrong why.Expected front placed behind
cannot n words front [] placed are e = no_script n front [] (ap (script_by n) (sym (are ∙ append-nil front)) ∙ e)
cannot n words front (o ∷ others) placed are e = cannot_follow n front o others (ap (script_by n) (sym are) ∙ e)
