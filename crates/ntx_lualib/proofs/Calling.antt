-- Calls of the library, from what each function gives.
use Rattle.std.proofs.Common.{◌≡◌, ℕ, ◌+◌, ◌<◌, ◌≤◌, ◌⊎◌, inl, inr, false, cond, ◌&&◌, List, [], ◌∷◌, ◌++◌, length, get_or, Option, Some, None, Ok, Err, refl, ap, sym, ◌∙◌, arith}
use Rattle.std.specs.Prelude.{Result, nat_le, nat_eq, sum_by, ok_or}
use Rattle.std.specs.Option.{option_map_or}
use Rattle.std.specs.Cmp.Lexicographic.{pointwise}
use Rattle.std.proofs.lemmas.Bool.{cases_lt}
use Rattle.std.proofs.lemmas.Bool.Decides.{nat_tests}
use Rattle.std.proofs.lemmas.List.Quantifiers.{position-Some}
use Rattle.ntx_num.specs.Answer.{result_map, Answers}
use Rattle.ntx_num.specs.declared.answer.Fail.{Fail}
use Rattle.ntx_num.specs.declared.answer.Fail.TheVariants.{NoMemory, Is}
use Rattle.ntx_num.proofs.Answers.{same_Err}
use Rattle.ntx_values.specs.Texts.{max_text, max_bytes, place_of, has_room_for}
use Rattle.ntx_values.specs.State.{StoreState, IsLawful, Grows}
use Rattle.ntx_values.specs.Steps.{text_step}
use Rattle.ntx_values.specs.declared.value.Value.{Value}
use Rattle.ntx_values.specs.declared.value.Value.TheVariants.{Text}
use Rattle.ntx_values.specs.declared.value.TextId.{TextId}
use Rattle.ntx_values.specs.declared.why.LuaWhy.{LuaWhy}
use Rattle.ntx_values.specs.declared.why.LuaWhy.TheVariants.{TextsFull}
use Rattle.ntx_values.proofs.Growth.{Grows-same}
use Rattle.ntx_values.proofs.Makings.{found_bytes}
use Rattle.ntx_lualib.specs.Output.{PrintedState, print_step, printed_line}
use Rattle.ntx_lualib.specs.Library.{LibState, on_store, gives, gives_text, prints, Calls}
use Rattle.ntx_lualib.specs.inner.Prints.{Prints}
use Rattle.ntx_lualib.specs.inner.StoreCalls.{StoreCalls, GivesBytes}
use Rattle.ntx_lualib.specs.Arguments.{◌>>=◌}
use Rattle.ntx_lualib.proofs.Bounds.{fits, passes}
use Rattle.ntx_lualib.proofs.Moves.{not_both}

-- a step of the store
pub by_store : (r : Result (List Value) (Fail LuaWhy)) (old new : StoreState) (out : PrintedState) (step : StoreState → Result (List Value × StoreState) LuaWhy)
    → StoreCalls r old new (step old) → Grows old new → Calls r (old, out) (new, out) (on_store step (old, out))
by_store (Ok values) old new out step h g = ap (result_map (λ after. (after.0, (after.1, out)))) h
by_store (Err (Is why)) old new out step h g = (ap (result_map (λ after. (after.0, (after.1, out)))) h.0, λ i. (h.1 i, out))
by_store (Err NoMemory) old new out step h g = (g, refl)

-- values alone
abbrev answered : StoreState → PrintedState → Result (List Value) LuaWhy → Result (List Value × LibState) LuaWhy
answered s out answer = on_store (gives (λ _. answer)) (s, out)

pub by_answer : (r : Result (List Value) (Fail LuaWhy)) (s : StoreState) (out : PrintedState) (answer : StoreState → Result (List Value) LuaWhy)
    → Answers r (answer s) → Calls r (s, out) (s, out) (on_store (gives answer) (s, out))
by_answer (Ok values) s out answer h = ap (answered s out) h
by_answer (Err (Is why)) s out answer h = (ap (answered s out) h, refl)
by_answer (Err NoMemory) s out answer h = (Grows-same s, refl)

-- a printed line
pub by_print : (r : Result (List Value) (Fail LuaWhy)) (s : StoreState) (old new : PrintedState) (args : List Value)
    → Prints r old new (print_step (printed_line s args) old) → Calls r (s, old) (s, new) (prints args (s, old))
by_print (Ok values) s old new args h = ap (result_map (λ out. ([], (s, out)))) h.1 ∙ ap (λ v. Ok (v, (s, new))) (sym h.0)
by_print (Err (Is why)) s old new args h = (ap (result_map (λ out. ([], (s, out)))) h.0, λ i. (s, h.1 i))
by_print (Err NoMemory) s old new args h = (Grows-same s, h)

-- bytes that are too many for a text are none of the store's
abbrev text_made : StoreState → Result (ℕ × List (List ℕ)) LuaWhy → Result (TextId × StoreState) LuaWhy
text_made s r = result_map (λ p. (record { number = p.0 }, record s { texts = p.1 })) r

pub too_long : (bytes : List ℕ) (s : StoreState) → IsLawful s → max_text < length bytes → text_step bytes s ≡ Err TextsFull
too_long bytes s lawful long =
    ap (λ (o : Option ℕ). text_made s (option_map_or (λ place. Ok (place, s.texts)) o (cond (has_room_for bytes s.texts) (Ok (length s.texts, s.texts ++ bytes ∷ [])) (Err TextsFull)))) absent
    ∙ ap (λ b. text_made s (cond b (Ok (length s.texts, s.texts ++ bytes ∷ [])) (Err TextsFull))) room
  where
    room : has_room_for bytes s.texts ≡ false
    room = let over : nat_le (length bytes) max_text ≡ false = grind (arith, nat_tests) in ap (λ b. b && nat_le (sum_by length s.texts + length bytes) max_bytes) over

    by : (o : Option ℕ) → place_of bytes s.texts ≡ o → o ≡ None
    by None e = refl
    by (Some place) e =
        let within = (position-Some (pointwise nat_eq bytes) s.texts place [] e).0 in
        let short : length (get_or s.texts place []) ≤ max_text = lawful.short place [] within in
        let same : length (get_or s.texts place []) ≡ length bytes = ap length (found_bytes bytes s.texts place e) in
        let none : ⊥ = omega arith in
        absurd none

    absent : place_of bytes s.texts ≡ None
    absent = by (place_of bytes s.texts) refl

-- a refusal before the text is made
pub given_fails : (fail : Fail LuaWhy) (answer : Result (List ℕ) LuaWhy) (s : StoreState) → IsLawful s → GivesBytes (Err fail) answer → StoreCalls (Err fail) s s (gives_text (λ _. answer) s)
given_fails NoMemory answer s lawful h = tt
given_fails (Is why) answer s lawful (inl h) = (ap (λ a. gives_text (λ _. a) s) h, refl)
given_fails (Is why) (Err e) s lawful (inr h) = (ap (λ a. gives_text (λ _. a) s) h, refl)
given_fails (Is why) (Ok all) s lawful (inr h) = (by (cases_lt max_text (length all)), refl)
  where
    by : (max_text < length all) ⊎ (length all ≤ max_text) → gives_text (λ _. Ok all) s ≡ Err why
    by (inl long) =
        ap (λ r. r >>= λ made. Ok (Text made.0 ∷ [], made.1)) (too_long all s lawful long)
        ∙ ap Err (same_Err TextsFull why (sym (ap (λ o. ok_or o TextsFull) (passes max_text all long)) ∙ h))
    by (inr short) = let both : Ok all ≡ Err why = sym (ap (λ o. ok_or o TextsFull) (fits max_text all short)) ∙ h in absurd (not_both (Ok all) all why refl both)
