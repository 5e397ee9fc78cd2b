-- A format is read piece by piece.
use Rattle.std.proofs.Common.{◌≡◌, ◌≢◌, ℕ, ◌≤◌, true, false, cond, List, [], ◌∷◌, ◌++◌, length, take, drop, get_or, refl, ap, sym, ◌∙◌, arith, append_assoc, Ok, Err, Some}
use Rattle.std.specs.Prelude.{nat_eq, Option, Result, ok_or}
use Rattle.std.proofs.lemmas.List.{append-nil}
use Rattle.ntx_num.specs.Answer.{result_map, Answers}
use Rattle.ntx_num.specs.declared.answer.Fail.{Fail}
use Rattle.ntx_num.specs.declared.answer.Fail.TheVariants.{NoMemory, Is}
use Rattle.ntx_values.specs.Texts.{max_text}
use Rattle.ntx_values.specs.State.{StoreState}
use Rattle.ntx_values.specs.declared.value.Value.{Value}
use Rattle.ntx_values.specs.declared.why.LuaWhy.{LuaWhy}
use Rattle.ntx_values.specs.declared.why.LuaWhy.TheVariants.{BadArgument, TextsFull}
use Rattle.ntx_lualib.specs.Arguments.{argument, ◌>>=◌}
use Rattle.ntx_lualib.specs.Formats.{directive, values_taken, formatted}
use Rattle.ntx_lualib.specs.inner.Lines.{bounded, added, limited}
use Rattle.ntx_lualib.specs.inner.Pieces.{IsPiece, Takes}
use Rattle.ntx_lualib.proofs.Bounds.{added_all}

-- a byte that is not `%`
pub plain_piece : (store : StoreState) (old new : Option (List ℕ)) (format : List ℕ) (values : List Value) → format ≢ [] → nat_eq (get_or format 0 0) 37 ≡ false
    → new ≡ added max_text old (take 1 format) → IsPiece old new store format values 1 0
plain_piece store old new [] values some nomark e = absurd (some refl)
plain_piece store old new (c ∷ []) values some nomark e =
    record { piece = c ∷ []; line = e; rest = ap (λ b. cond b (Err BadArgument) (Ok (c ∷ []))) nomark; some = omega arith; within = omega arith }
plain_piece store old new (c ∷ d ∷ rest) values some nomark e =
    record {
      piece = c ∷ [];
      line = e;
      rest =
          ap (λ b. cond b (directive store d (argument values 0) >>= λ bytes. result_map (λ after. bytes ++ after) (formatted store rest (drop (values_taken d) values)))
          (result_map (λ after. c ∷ after) (formatted store (d ∷ rest) values))) nomark;
      some = omega arith;
      within = omega arith;
    }

-- `%` and the byte after it
pub marked_piece : (store : StoreState) (old new : Option (List ℕ)) (format : List ℕ) (values : List Value) (piece : List ℕ) → 2 ≤ length format → nat_eq (get_or format 0 0) 37 ≡ true
    → directive store (get_or format 1 0) (argument values 0) ≡ Ok piece → new ≡ added max_text old piece → IsPiece old new store format values 2 (values_taken (get_or format 1 0))
marked_piece store old new [] values piece two mark is e = let none : ⊥ = omega arith in absurd none
marked_piece store old new (c ∷ []) values piece two mark is e = let none : ⊥ = omega arith in absurd none
marked_piece store old new (c ∷ d ∷ rest) values piece two mark is e =
    record {
      piece = piece;
      line = e;
      rest =
          ap (λ b. cond b (directive store d (argument values 0) >>= λ bytes. result_map (λ after. bytes ++ after) (formatted store rest (drop (values_taken d) values)))
          (result_map (λ after. c ∷ after) (formatted store (d ∷ rest) values))) mark
          ∙ ap (λ r. r >>= λ bytes. result_map (λ after. bytes ++ after) (formatted store rest (drop (values_taken d) values))) is;
      some = omega arith;
      within = omega arith;
    }

-- what was read so far, and what the rest gives
abbrev pub IsRead : Option (List ℕ) → Result (List ℕ) LuaWhy → Result (List ℕ) LuaWhy → Type 0
IsRead line top rest = (whole : List ℕ) × (line ≡ bounded max_text whole) × (top ≡ result_map (λ after. whole ++ after) rest)

map_append : (whole piece : List ℕ) (r : Result (List ℕ) LuaWhy)
    → result_map (λ after. whole ++ after) (result_map (λ after. piece ++ after) r) ≡ result_map (λ after. (whole ++ piece) ++ after) r
map_append whole piece (Ok rest) = ap (λ l. Ok l) (sym (append_assoc whole piece rest))
map_append whole piece (Err why) = refl

pub read_start : (r : Result (List ℕ) LuaWhy) → IsRead (Some []) r r
read_start (Ok bytes) = ([], refl, refl)
read_start (Err why) = ([], refl, refl)

pub read_piece : (old new : Option (List ℕ)) (piece : List ℕ) (top before after : Result (List ℕ) LuaWhy) → new ≡ added max_text old piece → before ≡ result_map (λ rest. piece ++ rest) after
    → IsRead old top before → IsRead new top after
read_piece old new piece top before after line rest h =
    (h.0 ++ piece, line ∙ ap (λ o. added max_text o piece) h.1 ∙ added_all max_text h.0 piece, h.2 ∙ ap (result_map (λ after. h.0 ++ after)) rest ∙ map_append h.0 piece after)

pub read_refused : (line : Option (List ℕ)) (top rest : Result (List ℕ) LuaWhy) (why : LuaWhy) → IsRead line top rest → rest ≡ Err why → limited top ≡ Err why
read_refused line top rest why h e = ap limited (h.2 ∙ ap (result_map (λ after. h.0 ++ after)) e)

pub take_fails : (line new : Option (List ℕ)) (top : Result (List ℕ) LuaWhy) (store : StoreState) (format : List ℕ) (values : List Value) (fail : Fail LuaWhy)
    → IsRead line top (formatted store format values) → Takes (Err fail) line new store format values → Answers {A = List ℕ} (Err fail) (limited top)
take_fails line new top store format values NoMemory h e = tt
take_fails line new top store format values (Is why) h e = read_refused line top (formatted store format values) why h e

pub read_end : (line : Option (List ℕ)) (top : Result (List ℕ) LuaWhy) → IsRead line top (Ok []) → ok_or line TextsFull ≡ limited top
read_end line top h = ap (λ o. ok_or o TextsFull) h.1 ∙ ap (λ l. limited (Ok l)) (sym (append-nil h.0)) ∙ ap limited (sym h.2)
