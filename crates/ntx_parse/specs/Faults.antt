-- Where a script is refused, and why: at the first word that cannot follow those before it, is too deep, or is a `break` outside of any loop of
-- its function. Words can stand at the beginning of a script if some words after them make it a script; how deep they lie does not matter for that, nor
-- whether a `break` is in a loop.
--     IsRefusedAt why words behind   a script of these words is refused for this reason at the first of the words behind, or at the end if there are none
--     IsRefused bytes words fault    the same with the line
use Rattle.std.specs.Prelude.{◌≡◌, ◌<◌, ◌≤◌, ℕ, ◌+◌, false, List, [], ◌∷◌, ◌++◌, map, Result, Ok, Err}
use Rattle.std.specs.List.{AllByRecursion}
use Rattle.ntx_num.specs.declared.answer.Fail.{Fail}
use Rattle.ntx_num.specs.declared.answer.Fail.TheVariants.{NoMemory, Is}
use Rattle.ntx_syntax.specs.declared.fault.SyntaxFault.{SyntaxFault}
use Rattle.ntx_syntax.specs.declared.fault.SyntaxWhy.{SyntaxWhy}
use Rattle.ntx_syntax.specs.declared.fault.SyntaxWhy.TheVariants.{Expected, Depth, Break}
use Rattle.ntx_syntax.specs.declared.tree.Chunk.{Chunk}
use Rattle.ntx_syntax.specs.Lexes.{line_ends}
use Rattle.ntx_parse.specs.declared.place.Place.{Place}
use Rattle.ntx_syntax.specs.declared.terminal.Terminal.TheVariants as terminal
use Rattle.ntx_parse.specs.Words.{Word}
use Rattle.ntx_parse.specs.Grammar.{Placed, IsChunk, IsAllowed, max_nesting}

-- The words, each at its place, can stand at the beginning of a script.
abbrev pub CanBegin : List Placed → Type 0
CanBegin front = (others : List Placed) × (chunk : Chunk) × IsChunk chunk (front ++ others)

-- Words at places at which they can stand at the beginning of a script, none of them too deep, and each `break` in a loop of its
-- function.
pub record Stand (words : List Word) : Type 0 where
  pub placed : List Placed
  pub words_are : map (λ o. o.word) placed ≡ words
  pub can_begin : CanBegin placed
  pub allowed : AllByRecursion IsAllowed placed

-- No places let the words stand at the beginning of a script.
abbrev pub CannotStand : List Word → Type 0
CannotStand words = (placed : List Placed) → map (λ o. o.word) placed ≡ words → CanBegin placed → ⊥

-- No places make the words a script.
abbrev pub IsNoScript : List Word → Type 0
IsNoScript words = (placed : List Placed) (chunk : Chunk) → map (λ o. o.word) placed ≡ words → IsChunk chunk placed → ⊥

abbrev pub at_place : Word → Place → Placed
at_place o p = record { word = o; place = p }

-- What is wrong with the first of the words after those that stand, which have these places: it cannot follow them, or the script cannot end
-- there; it is too deep; it is a `break` outside of any loop of its function, and does not
-- lie too deep.
abbrev pub IsWrong : SyntaxWhy → List Word → List Placed → List Word → Type 0
IsWrong Expected front placed [] = IsNoScript front
IsWrong Expected front placed (o ∷ behind) = CannotStand (front ++ o ∷ [])
IsWrong Depth front placed (o ∷ behind) = (p : Place) × CanBegin (placed ++ at_place o p ∷ []) × (max_nesting < p.nesting)
IsWrong Break front placed (o ∷ behind) =
    (p : Place) × CanBegin (placed ++ at_place o p ∷ []) × (p.nesting ≤ max_nesting) × (o.is ≡ terminal.Break) × (p.in_loop ≡ false)
IsWrong _ front placed behind = ⊥

-- A script of these words is refused for this reason at the first of the words after, or at its end if there are none.
pub record IsRefusedAt (why : SyntaxWhy) (words behind : List Word) : Type 0 where
  pub front : List Word
  pub words_are : words ≡ front ++ behind
  pub stand : Stand front
  pub wrong : IsWrong why front stand.placed behind

-- The line of a word, or at the end of these bytes the last line.
abbrev pub line_at : List ℕ → List Word → ℕ
line_at bytes [] = 1 + line_ends bytes
line_at bytes (o ∷ behind) = o.line

pub record IsRefused (bytes : List ℕ) (words : List Word) (fault : SyntaxFault) : Type 0 where
  pub behind : List Word
  pub at : IsRefusedAt fault.why words behind
  pub line : fault.line ≡ line_at bytes behind

-- It is so of the fault with which a call refuses, if it does.
abbrev pub IfRefused : {A : Type 0} → Result A (Fail SyntaxFault) → (SyntaxFault → Type 0) → Type 0
IfRefused (Ok a) holds = Unit {0}
IfRefused (Err NoMemory) holds = Unit {0}
IfRefused (Err (Is fault)) holds = holds fault
