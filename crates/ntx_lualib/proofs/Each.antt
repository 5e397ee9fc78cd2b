-- Reading each of a list, one after another.
use Rattle.std.proofs.Common.{◌≡◌, ℕ, ◌+◌, ◌<◌, List, [], ◌∷◌, ◌++◌, length, take, drop, get_or, Ok, Err, refl, ap, sym, ◌∙◌}
use Rattle.std.specs.Prelude.{Result}
use Rattle.std.proofs.lemmas.List.{take_more, take-append-drop, drop_more}
use Rattle.ntx_num.specs.Answer.{Answers}
use Rattle.ntx_num.specs.declared.answer.Fail.{Fail}
use Rattle.ntx_num.specs.declared.answer.Fail.TheVariants.{NoMemory, Is}
use Rattle.ntx_num.proofs.Answers.{went_Ok, same_Ok}
use Rattle.ntx_values.specs.declared.value.Value.{Value}
use Rattle.ntx_values.specs.declared.why.LuaWhy.{LuaWhy}
use Rattle.ntx_lualib.specs.Arguments.{each_of, ◌>>=◌}

module _ {A : Type 0} (read : Value → Result A LuaWhy) where
  pub each_append : (vs ws : List Value) (xs : List A) → each_of read vs ≡ Ok xs
      → each_of read (vs ++ ws) ≡ (each_of read ws >>= λ ys. Ok (xs ++ ys))
  each_append [] ws xs h = by (each_of read ws) ∙ ap (λ l. each_of read ws >>= λ ys. Ok (l ++ ys)) (same_Ok [] xs h)
    where
      by : (r : Result (List A) LuaWhy) → r ≡ (r >>= λ ys. Ok ys)
      by (Ok x) = refl
      by (Err e) = refl
  each_append (v ∷ vs) ws xs h =
      let a = went_Ok _ (read v) xs h in
      let b = went_Ok _ (each_of read vs) xs a.gives in
      ap (λ r. r >>= λ x. each_of read (vs ++ ws) >>= λ rest. Ok (x ∷ rest)) a.is
      ∙ ap (λ r. r >>= λ rest. Ok (a.value ∷ rest)) (each_append vs ws b.value b.is)
      ∙ by (each_of read ws) a.value b.value
      ∙ ap (λ l. each_of read ws >>= λ ys. Ok (l ++ ys)) (same_Ok _ _ b.gives)
    where
      by : (r : Result (List A) LuaWhy) (x : A) (front : List A) → ((r >>= λ ys. Ok (front ++ ys)) >>= λ rest. Ok (x ∷ rest)) ≡ (r >>= λ ys. Ok (x ∷ front ++ ys))
      by (Ok y) x front = refl
      by (Err e) x front = refl

  -- one more was read
  pub each_more : (vs : List Value) (i : ℕ) (d : Value) (xs : List A) (x : A) → i < length vs → each_of read (take i vs) ≡ Ok xs → read (get_or vs i d) ≡ Ok x
      → each_of read (take (i + 1) vs) ≡ Ok (xs ++ x ∷ [])
  each_more vs i d xs x less h one =
      ap (each_of read) (take_more vs i d less) ∙ each_append (take i vs) (get_or vs i d ∷ []) xs h
      ∙ ap (λ r. (r >>= λ y. Ok (y ∷ [])) >>= λ ys. Ok (xs ++ ys)) one

  -- one is refused
  pub each_refused : (vs : List Value) (i : ℕ) (d : Value) (xs : List A) (why : LuaWhy) → i < length vs → each_of read (take i vs) ≡ Ok xs → read (get_or vs i d) ≡ Err why
      → each_of read vs ≡ Err why
  each_refused vs i d xs why less h one =
      ap (each_of read) (sym (take-append-drop i vs) ∙ ap (λ l. take i vs ++ l) (drop_more vs i d less)) ∙ each_append (take i vs) (get_or vs i d ∷ drop (i + 1) vs) xs h
      ∙ ap (λ r. (r >>= λ y. each_of read (drop (i + 1) vs) >>= λ ys. Ok (y ∷ ys)) >>= λ ys. Ok (xs ++ ys)) one

  pub each_fails : (vs : List Value) (i : ℕ) (d : Value) (xs : List A) (fail : Fail LuaWhy) → i < length vs → each_of read (take i vs) ≡ Ok xs
      → Answers {A = A} (Err fail) (read (get_or vs i d)) → Answers {A = List A} (Err fail) (each_of read vs)
  each_fails vs i d xs NoMemory less h one = tt
  each_fails vs i d xs (Is why) less h one = each_refused vs i d xs why less h one
