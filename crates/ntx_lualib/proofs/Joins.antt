-- Parts that are joined one after another.
use Rattle.std.proofs.Common.{◌≡◌, ℕ, suc, ◌+◌, ◌-◌, ◌<◌, ◌≤◌, false, cond, List, [], ◌∷◌, ◌++◌, length, map, take, get_or, refl, ap, sym, ◌∙◌, arith, append_assoc, length-append, Ok, Err, Some}
use Rattle.std.specs.Prelude.{nat_eq, Option, Result, ok_or}
use Rattle.std.proofs.lemmas.List.{append-nil, map_more, take_all, length-map, length-take}
use Rattle.std.proofs.lemmas.Bool.Decides.{nat_tests}
use Rattle.ntx_num.specs.Answer.{result_map, Answers}
use Rattle.ntx_num.specs.declared.answer.Fail.{Fail}
use Rattle.ntx_num.specs.declared.answer.Fail.TheVariants.{NoMemory, Is}
use Rattle.ntx_values.specs.Texts.{max_text}
use Rattle.ntx_values.specs.Table.{Entries, item_at}
use Rattle.ntx_values.specs.declared.value.Value.{Value}
use Rattle.ntx_values.specs.declared.why.LuaWhy.{LuaWhy}
use Rattle.ntx_values.specs.declared.why.LuaWhy.TheVariants.{TextsFull}
use Rattle.ntx_lualib.specs.Arguments.{each_of, ◌>>=◌}
use Rattle.ntx_lualib.specs.Shown.{joined}
use Rattle.ntx_lualib.specs.Lists.{items_from}
use Rattle.ntx_lualib.specs.inner.Lines.{bounded, added, limited}
use Rattle.ntx_lualib.proofs.Bounds.{added_all}

joined_push : (between first : List ℕ) (parts : List (List ℕ)) (part : List ℕ) → joined between (first ∷ parts ++ part ∷ []) ≡ (joined between (first ∷ parts) ++ between) ++ part
joined_push between first [] part = refl
joined_push between first (next ∷ parts) part =
    ap (λ l. (first ++ between) ++ l) (joined_push between next parts part)
    ∙ sym (append_assoc (first ++ between) (joined between (next ∷ parts) ++ between) part)
    ∙ ap (λ l. l ++ part) (sym (append_assoc (first ++ between) (joined between (next ∷ parts)) between))

-- a line with one more part
pub part_added : (limit : ℕ) (between : List ℕ) (parts : List (List ℕ)) (part : List ℕ) (old : Option (List ℕ)) → old ≡ bounded limit (joined between parts)
    → added limit (cond (nat_eq (length parts) 0) old (added limit old between)) part ≡ bounded limit (joined between (parts ++ part ∷ []))
part_added limit between [] part old e = ap (λ o. added limit o part) e ∙ added_all limit [] part
part_added limit between (first ∷ parts) part old e =
    let later : nat_eq (length (first ∷ parts)) 0 ≡ false = grind (arith, nat_tests) in
    ap (λ b. added limit (cond b old (added limit old between)) part) later
    ∙ ap (λ o. added limit (added limit o between) part) e
    ∙ ap (λ o. added limit o part) (added_all limit (joined between (first ∷ parts)) between)
    ∙ added_all limit (joined between (first ∷ parts) ++ between) part
    ∙ ap (bounded limit) (sym (joined_push between first parts part))

-- a line of values
pub line_more : {A : Type 0} (f : A → List ℕ) (limit : ℕ) (between : List ℕ) (vs : List A) (i : ℕ) (d : A) (old new : Option (List ℕ)) (part : List ℕ) → i < length vs
    → old ≡ bounded limit (joined between (map f (take i vs))) → part ≡ f (get_or vs i d) → new ≡ added limit (cond (nat_eq i 0) old (added limit old between)) part
    → new ≡ bounded limit (joined between (map f (take (i + 1) vs)))
line_more f limit between vs i d old new part less e is h =
    let count : i ≡ length (map f (take i vs)) = omega (arith, length-map (take i vs) f, length-take i vs) in
    h ∙ ap (λ n. added limit (cond (nat_eq n 0) old (added limit old between)) part) count ∙ part_added limit between (map f (take i vs)) part old e
    ∙ ap (λ l. bounded limit (joined between l)) (ap (λ x. map f (take i vs) ++ x ∷ []) is ∙ sym (map_more f vs i d less))

pub line_end : {A : Type 0} (f : A → List ℕ) (limit : ℕ) (between last : List ℕ) (vs : List A) (i : ℕ) (old new : Option (List ℕ)) → length vs ≤ i
    → old ≡ bounded limit (joined between (map f (take i vs))) → new ≡ added limit old last → new ≡ bounded limit (joined between (map f vs) ++ last)
line_end f limit between last vs i old new past e h =
    h ∙ ap (λ o. added limit o last) e ∙ added_all limit (joined between (map f (take i vs))) last
    ∙ ap (λ l. bounded limit (joined between (map f l) ++ last)) (take_all i vs past)

-- the elements after the first k, of n
module _ (read : Value → Result (List ℕ) LuaWhy) (entries : Entries) (n : ℕ) where
  abbrev pub IsJoined : List ℕ → Option (List ℕ) → ℕ → Type 0
  IsJoined between line k = (parts : List (List ℕ)) × (line ≡ bounded max_text (joined between parts)) × (length parts ≡ k)
      × (each_of read (items_from entries n 0) ≡ result_map (λ rest. parts ++ rest) (each_of read (items_from entries (n - k) k)))

  pub joined_start : (between : List ℕ) (line : Option (List ℕ)) → line ≡ Some [] → IsJoined between line 0
  joined_start between line e = ([], e, refl, by (each_of read (items_from entries n 0)) ∙ ap (λ m. result_map (λ rest. [] ++ rest) (each_of read (items_from entries m 0))) (let e : n ≡ n - 0 = omega arith in e))
    where
      by : (r : Result (List (List ℕ)) LuaWhy) → r ≡ result_map (λ rest. [] ++ rest) r
      by (Ok l) = refl
      by (Err why) = refl

  step : (k : ℕ) → k < n → each_of read (items_from entries (n - k) k) ≡ (read (item_at entries (k + 1)) >>= λ part. each_of read (items_from entries (n - (k + 1)) (k + 1)) >>= λ rest. Ok (part ∷ rest))
  step k less = ap (λ m. each_of read (items_from entries m k)) (let e : n - k ≡ suc (n - (k + 1)) = omega arith in e)

  append_one : (parts : List (List ℕ)) (part : List ℕ) (r : Result (List (List ℕ)) LuaWhy)
      → result_map (λ rest. parts ++ rest) (r >>= λ rest. Ok (part ∷ rest)) ≡ result_map (λ rest. (parts ++ part ∷ []) ++ rest) r
  append_one parts part (Ok rest) = ap Ok (sym (append_assoc parts (part ∷ []) rest))
  append_one parts part (Err why) = refl

  pub joined_more : (between : List ℕ) (line new : Option (List ℕ)) (k : ℕ) (part : List ℕ) → k < n → IsJoined between line k → read (item_at entries (k + 1)) ≡ Ok part
      → new ≡ added max_text (cond (nat_eq k 0) line (added max_text line between)) part → IsJoined between new (k + 1)
  joined_more between line new k part less h is e = (
    h.0 ++ part ∷ [],
    e ∙ ap (λ m. added max_text (cond (nat_eq m 0) line (added max_text line between)) part) (sym h.2) ∙ part_added max_text between h.0 part line h.1,
    omega (arith, length-append h.0 (part ∷ []), h.2),
    h.3 ∙ ap (result_map (λ rest. h.0 ++ rest)) (step k less ∙ ap (λ r. r >>= λ x. each_of read (items_from entries (n - (k + 1)) (k + 1)) >>= λ rest. Ok (x ∷ rest)) is)
        ∙ append_one h.0 part (each_of read (items_from entries (n - (k + 1)) (k + 1))),
  )

  refused : (between : List ℕ) (line : Option (List ℕ)) (k : ℕ) (why : LuaWhy) → k < n → IsJoined between line k → read (item_at entries (k + 1)) ≡ Err why
      → limited (result_map (joined between) (each_of read (items_from entries n 0))) ≡ Err why
  refused between line k why less h is =
      ap (λ r. limited (result_map (joined between) r))
      (h.3 ∙ ap (result_map (λ rest. h.0 ++ rest)) (step k less ∙ ap (λ r. r >>= λ x. each_of read (items_from entries (n - (k + 1)) (k + 1)) >>= λ rest. Ok (x ∷ rest)) is))

  pub joined_fails : (between : List ℕ) (line : Option (List ℕ)) (k : ℕ) (fail : Fail LuaWhy) → k < n → IsJoined between line k → Answers {A = List ℕ} (Err fail) (read (item_at entries (k + 1)))
      → Answers {A = List ℕ} (Err fail) (limited (result_map (joined between) (each_of read (items_from entries n 0))))
  joined_fails between line k NoMemory less h is = tt
  joined_fails between line k (Is why) less h is = refused between line k why less h is

  pub joined_end : (between : List ℕ) (line : Option (List ℕ)) (k : ℕ) → k ≡ n → IsJoined between line k
      → ok_or line TextsFull ≡ limited (result_map (joined between) (each_of read (items_from entries n 0)))
  joined_end between line k last h =
      ap (λ o. ok_or o TextsFull) h.1 ∙ ap (λ l. limited (Ok (joined between l))) (sym (append-nil h.0))
      ∙ ap (λ m. limited (result_map (joined between) (result_map (λ rest. h.0 ++ rest) (each_of read (items_from entries m k))))) (let e : 0 ≡ n - k = omega arith in e)
      ∙ ap (λ r. limited (result_map (joined between) r)) (sym h.3)
