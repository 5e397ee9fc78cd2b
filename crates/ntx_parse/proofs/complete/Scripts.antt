-- A script that the grammar accepts is read to its tree, and it has no other. Where words derive and not all of them are allowed, the reading stops at the
-- first that is not.
--     complete             words that are a script are read to the end as its block, once the calls may lie deep enough
--     complete_script      they are read as this script
--     answer_is            whatever the reading of them comes to is that
--     stopped_is_none      words at which the reading stops are no script
--     one_tree             words are a script in one way at most
--     stops_at_bad         the reading of words that derive stops at the first that is not allowed, for the reason why it is not
--     first_bad            words are all allowed, or there is a first that is not
use Rattle.std.specs.Prelude.{◌≡◌, ◌≤◌, ◌<◌, ℕ, max, nat_le, Bool, true, false, List, [], ◌∷◌, ◌++◌, length, None, Some, Ok, Err}
use Rattle.std.proofs.Common.{◌⊎◌, inl, inr, refl, sym, ap, ◌∙◌, true≢false, arith}
use Rattle.std.proofs.lemmas.Bool.{leb-true, leb-false}
use Rattle.std.specs.List.{AllByRecursion}
use Rattle.ntx_syntax.specs.declared.fault.SyntaxWhy.{SyntaxWhy}
use Rattle.ntx_syntax.specs.declared.fault.SyntaxWhy.TheVariants as why
use Rattle.ntx_syntax.specs.declared.tree.Chunk.{Chunk}
use Rattle.ntx_syntax.specs.declared.tree.Block.{Block}
use Rattle.ntx_syntax.specs.declared.terminal.Terminal.TheVariants as terminal
use Rattle.ntx_parse.specs.Words.{Word}
use Rattle.ntx_parse.specs.Grammar.{Placed, IsAllowed, IsChunk, Accepts, outermost, max_nesting}
use Rattle.ntx_parse.specs.inner.Reading.{Answer, Stop, read, stopped, and_then, readers, ended, script_by}
use Rattle.ntx_parse.proofs.TerminalLemmas.{equal_terminals}
use Rattle.ntx_parse.proofs.complete.Begins.{plain, is_this, AreAllowedBefore}
use Rattle.ntx_parse.proofs.complete.Comes.{IsBad, too_deep, no_loop, Boundary, is_allowed, is_bad, is_behind, cut_before, cut_behind}
use Rattle.ntx_parse.proofs.complete.Phrases.{block_read}

-- ---- words that are all allowed

abbrev no_bar : Boundary
no_bar = record { words = 0; stop = record { why = why.Expected; words = [] } }

all_fine : (words : List Placed) → AllByRecursion IsAllowed words → AreAllowedBefore no_bar words
all_fine [] h = tt
all_fine (o ∷ words) h = (is_allowed (omega arith) h.0, all_fine words h.1)

pub complete : (words : List Word) (chunk : Chunk) → Accepts words chunk
    → (N : ℕ) × ((n : ℕ) → N ≤ n → (readers n).block outermost words ≡ Some (Ok (chunk.block, [])))
complete words chunk a =
    let c = (block_read a.derives (all_fine a.placed a.allowed) tt).comes in
    (c.from, λ n h. ap (λ w. (readers n).block outermost w) (sym a.words_are) ∙ c.is (omega arith) n h ∙ cut_before no_bar (read chunk.block []) (omega arith))

pub complete_script : (words : List Word) (chunk : Chunk) → Accepts words chunk
    → (N : ℕ) × ((n : ℕ) → N ≤ n → script_by n words ≡ Some (Ok (chunk.block, [])))
complete_script words chunk a = let c = complete words chunk a in (c.0, λ n h. ap (λ found. and_then found ended) (c.1 n h))

pub answer_is : (words : List Word) (chunk : Chunk) → Accepts words chunk → (found : Answer Block)
    → (N : ℕ) × ((n : ℕ) → N ≤ n → script_by n words ≡ found) → found ≡ Some (Ok (chunk.block, []))
answer_is words chunk a found d =
    let c = complete_script words chunk a in
    let n : ℕ = max c.0 d.0 in
    let left : c.0 ≤ n = omega arith in
    let right : d.0 ≤ n = omega arith in
    sym (d.1 n right) ∙ c.1 n left

pub stopped_is_none : (words : List Word) (stop : Stop) → (N : ℕ) × ((n : ℕ) → N ≤ n → script_by n words ≡ Some (Err stop)) → (chunk : Chunk)
    → Accepts words chunk → ⊥
stopped_is_none words stop d chunk a = let same = answer_is words chunk a (Some (Err stop)) d in cc

block_of : Block → Answer Block → Block
block_of b None = b
block_of b (Some (Err stop)) = b
block_of b (Some (Ok found)) = found.0

pub one_tree : (words : List Word) (a b : Chunk) → Accepts words a → Accepts words b → a ≡ b
unfolding block_of
one_tree words a b first second =
    let same : a.block ≡ b.block = ap (block_of a.block) (answer_is words b second (Some (Ok (a.block, []))) (complete_script words a first)) in
    ap (λ (block : Block). record { block = block }) same

-- ---- words that are not all allowed

-- the boundary at this word, which has these after it and is not allowed for this reason
abbrev bar_at : Placed → List Placed → SyntaxWhy → Boundary
bar_at o behind reason = record { words = length (plain (o ∷ behind)); stop = record { why = reason; words = plain (o ∷ behind) } }

no_fewer : (front words : List Placed) → length (plain words) ≤ length (plain (front ++ words))
no_fewer [] words = omega arith
no_fewer (o ∷ front) words = let others = no_fewer front words in omega arith

all_behind : (boundary : Boundary) (words : List Placed) → length (plain words) < boundary.words → AreAllowedBefore boundary words
all_behind boundary [] h = tt
all_behind boundary (o ∷ words) h = (is_behind (omega arith), all_behind boundary words (omega arith))

up_to_bad : (front : List Placed) (o : Placed) (behind : List Placed) (reason : SyntaxWhy) → AllByRecursion IsAllowed front → IsBad reason o
    → AreAllowedBefore (bar_at o behind reason) (front ++ o ∷ behind)
up_to_bad [] o behind reason allowed bad = (is_bad (omega arith) bad refl, all_behind (bar_at o behind reason) behind (omega arith))
up_to_bad (w ∷ front) o behind reason allowed bad = (is_allowed (no_fewer front (o ∷ behind)) allowed.0, up_to_bad front o behind reason allowed.1 bad)

pub stops_at_bad : (front : List Placed) (o : Placed) (behind : List Placed) (reason : SyntaxWhy) (chunk : Chunk) → AllByRecursion IsAllowed front → IsBad reason o
    → IsChunk chunk (front ++ o ∷ behind)
    → (N : ℕ) × ((n : ℕ) → N ≤ n → script_by n (plain (front ++ o ∷ behind)) ≡ stopped reason (o.word ∷ plain behind))
stops_at_bad front o behind reason chunk allowed bad derives =
    let c = (block_read derives (up_to_bad front o behind reason allowed bad) tt).comes in (
      c.from,
      λ n h.
          ap (λ found. and_then found ended) (c.is (no_fewer front (o ∷ behind)) n h ∙ cut_behind (bar_at o behind reason) (read chunk.block []) (omega arith)),
    )

-- ---- the first word that is not allowed

-- The first of the words that is not allowed, with those before it and after it, and the reason why it is not.
pub record FirstBad (placed : List Placed) : Type 0 where
  pub front : List Placed
  pub first : Placed
  pub behind : List Placed
  pub reason : SyntaxWhy
  pub placed_are : placed ≡ front ++ first ∷ behind
  pub allowed : AllByRecursion IsAllowed front
  pub bad : IsBad reason first

fine_or_bad : (o : Placed) (fits is_break in_loop : Bool) → nat_le o.place.nesting max_nesting ≡ fits → is_this terminal.Break o.word.is ≡ is_break
    → o.place.in_loop ≡ in_loop → IsAllowed o ⊎ ((reason : SyntaxWhy) × IsBad reason o)
fine_or_bad o false _ _ deep breaks loops = inr (why.Depth, too_deep (leb-false o.place.nesting max_nesting deep))
fine_or_bad o true _ true fits breaks loops = inl (record { nesting = leb-true o.place.nesting max_nesting fits; in_loop = λ _. loops })
fine_or_bad o true true false fits breaks loops =
    inr (why.Break, no_loop (leb-true o.place.nesting max_nesting fits) (equal_terminals o.word.is terminal.Break breaks) loops)
fine_or_bad o true false false fits breaks loops =
    inl (record { nesting = leb-true o.place.nesting max_nesting fits; in_loop = λ e. absurd (true≢false (sym (ap (is_this terminal.Break) e) ∙ breaks)) })

one_more_fine : (o : Placed) (words : List Placed) → IsAllowed o ⊎ ((reason : SyntaxWhy) × IsBad reason o) → AllByRecursion IsAllowed words ⊎ FirstBad words
    → AllByRecursion IsAllowed (o ∷ words) ⊎ FirstBad (o ∷ words)
one_more_fine o words (inl allowed) (inl all) = inl (allowed, all)
one_more_fine o words (inl allowed) (inr d) = inr (record {
  front = o ∷ d.front;
  first = d.first;
  behind = d.behind;
  reason = d.reason;
  placed_are = ap (λ others. o ∷ others) d.placed_are;
  allowed = (allowed, d.allowed);
  bad = d.bad;
})
one_more_fine o words (inr bad) others = inr (record { front = []; first = o; behind = words; reason = bad.0; placed_are = refl; allowed = tt; bad = bad.1 })

pub first_bad : (placed : List Placed) → AllByRecursion IsAllowed placed ⊎ FirstBad placed
first_bad [] = inl tt
first_bad (o ∷ words) =
    one_more_fine o words (fine_or_bad o (nat_le o.place.nesting max_nesting) (is_this terminal.Break o.word.is) o.place.in_loop refl refl refl) (first_bad words)
