-- What the reading of words that derive tells.
--     IsTold words front    it reads the words to the end, or stops behind these for a reason that is not Expected
--     told, told_behind     it is so of words that derive, and behind those of them that are allowed
use Rattle.std.specs.Prelude.{◌≡◌, ◌≤◌, ◌+◌, length, List, [], ◌∷◌, ◌++◌, Result, Ok, Err}
use Rattle.std.proofs.Common.{inl, inr, ◌⊎◌, refl, sym, ap, ◌∙◌, subst, append_assoc, arith}
use Rattle.std.proofs.lemmas.List.{map-append, length-append}
use Rattle.std.specs.List.{AllByRecursion}
use Rattle.ntx_syntax.specs.declared.fault.SyntaxWhy.{SyntaxWhy}
use Rattle.ntx_syntax.specs.declared.fault.SyntaxWhy.TheVariants as why
use Rattle.ntx_syntax.specs.declared.tree.Block.{Block}
use Rattle.ntx_syntax.specs.declared.tree.Chunk.{Chunk}
use Rattle.ntx_parse.specs.Words.{Word}
use Rattle.ntx_parse.specs.Grammar.{Placed, IsAllowed, IsChunk}
use Rattle.ntx_parse.specs.inner.Reading.{Stop, script_by}
use Rattle.ntx_parse.specs.inner.Reads.{IsAtLast}
use Rattle.ntx_parse.proofs.complete.Begins.{plain}
use Rattle.ntx_parse.proofs.complete.Comes.{IsBad, too_deep, no_loop}
use Rattle.ntx_parse.proofs.stuck.Answers.{allowed_twice}
use Rattle.ntx_parse.proofs.complete.Scripts.{complete_script, stops_at_bad, FirstBad, first_bad}

-- From some depth on the reading of a script of these words tells this.
abbrev pub ScriptIsAtLast : List Word → Result (Block × List Word) Stop → Type 0
ScriptIsAtLast words answer = IsAtLast (λ n. script_by n words) answer

pub data IsTold (words front : List Word) : Type 0 where
  read_whole : {b : Block} → ScriptIsAtLast words (Ok (b, [])) → IsTold words front
  stops_behind : {stop : Stop} → (stop.why ≡ why.Expected → ⊥) → length stop.words + length front ≤ length words → ScriptIsAtLast words (Err stop) → IsTold words front

pub answer_told : {words front : List Word} → IsTold words front → (x : Result (Block × List Word) Stop) × ScriptIsAtLast words x
answer_told (read_whole known) = (_, known)
answer_told (stops_behind other shorter known) = (_, known)

not_expected : {reason : SyntaxWhy} {o : Placed} → IsBad reason o → reason ≡ why.Expected → ⊥
not_expected (too_deep h) e = cc
not_expected (no_loop h is out) e = cc

told_with : (front others : List Placed) (chunk : Chunk) → IsChunk chunk (front ++ others) → AllByRecursion IsAllowed front
    → AllByRecursion IsAllowed others ⊎ FirstBad others → IsTold (plain (front ++ others)) (plain front)
told_with front others chunk derives allowed (inl more) =
    let all = allowed_twice front others allowed more in
    let c = complete_script (plain (front ++ others)) chunk (record { placed = front ++ others; words_are = refl; derives = derives; allowed = all }) in
    read_whole (record { from = c.0; gives = c.1 })
told_with front others chunk derives allowed (inr d) =
    let same : front ++ others ≡ (front ++ d.front) ++ d.first ∷ d.behind =
    ap (λ l. front ++ l) d.placed_are ∙ sym (append_assoc front d.front (d.first ∷ d.behind)) in
    let there =
    stops_at_bad (front ++ d.front) d.first d.behind d.reason chunk (allowed_twice front d.front allowed d.allowed) d.bad (subst (IsChunk chunk) same derives) in
    let whole : length (plain (front ++ others)) ≡ length (plain front) + length (plain others) =
    ap length (map-append (λ (w : Placed). w.word) front others) ∙ length-append (plain front) (plain others) in
    let more : length (plain others) ≡ length (plain d.front) + length (plain (d.first ∷ d.behind)) =
    ap (λ l. length (plain l)) d.placed_are ∙ ap length (map-append (λ (w : Placed). w.word) d.front (d.first ∷ d.behind))
    ∙ length-append (plain d.front) (plain (d.first ∷ d.behind)) in
    stops_behind {stop = record { why = d.reason; words = plain (d.first ∷ d.behind) }} (not_expected d.bad) (omega (arith, whole, more))
    (record { from = there.0; gives = λ n h. ap (λ l. script_by n (plain l)) same ∙ there.1 n h })

pub told_behind : (front others : List Placed) (chunk : Chunk) → IsChunk chunk (front ++ others) → AllByRecursion IsAllowed front
    → IsTold (plain (front ++ others)) (plain front)
told_behind front others chunk derives allowed = told_with front others chunk derives allowed (first_bad others)

pub told : (placed : List Placed) (chunk : Chunk) → IsChunk chunk placed → IsTold (plain placed) []
told placed chunk derives = told_behind [] placed chunk derives tt
