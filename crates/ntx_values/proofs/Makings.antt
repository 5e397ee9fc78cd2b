-- The texts after one was made.
use Rattle.std.proofs.Common.{◌≡◌, ℕ, zero, suc, ◌+◌, ◌-◌, ◌<◌, ◌≤◌, ◌⊎◌, inl, inr, Bool, true, false, cond, not, ◌||◌, ◌&&◌, List, [], ◌∷◌, ◌++◌, length, map, get_or, slice_get, position, nat_lt, nat_eq, Option, Some, None, Result, Ok, Err, refl, ap, sym, ◌∙◌, subst, arith, true≢false, length-append, All}
use Rattle.std.specs.Prelude.{nat_le, sum_by}
use Rattle.std.specs.List.{position_or_len, list_any}
use Rattle.indexmap.specs.IndexSet.{insert_key}
use Rattle.std.specs.Option.{option_map_or}
use Rattle.std.specs.Cmp.Lexicographic.{pointwise, bytes_decides}
use Rattle.std.proofs.lemmas.Bool.{cases_lt}
use Rattle.std.proofs.lemmas.List.{get_or_append_left, get_or-append_right}
use Rattle.std.proofs.lemmas.List.Elements.{All-push}
use Rattle.std.proofs.lemmas.List.Sums.{sum_by-append, fails_before_first}
use Rattle.std.proofs.lemmas.List.Quantifiers.{position-Some}
use Rattle.std.proofs.lemmas.Option.{slice_get_within, slice_get-get_or, get_or_from_slice_get, same_Some}
use Rattle.ntx_num.proofs.Answers.{same_Ok, taken}
use Rattle.ntx_values.specs.Texts.{max_bytes, max_text, place_of, has_room_for, made}
use Rattle.ntx_values.specs.declared.why.LuaWhy.{LuaWhy}
use Rattle.ntx_values.specs.declared.why.LuaWhy.TheVariants.{TextsFull}

-- the text was there
pub record Found (bytes : List ℕ) (before after : List (List ℕ)) (place : ℕ) : Type 0 where
  pub at : place_of bytes before ≡ Some place
  pub same : before ≡ after

-- it is new
pub record Added (bytes : List ℕ) (before after : List (List ℕ)) (place : ℕ) : Type 0 where
  pub absent : place_of bytes before ≡ None
  pub room : has_room_for bytes before ≡ true
  pub last : length before ≡ place
  pub same : before ++ bytes ∷ [] ≡ after

pub made_cases : (bytes : List ℕ) (before after : List (List ℕ)) (place : ℕ) → made bytes before ≡ Ok (place, after) → Found bytes before after place ⊎ Added bytes before after place
made_cases bytes before after place h = by (place_of bytes before) refl h
  where
    fresh : Result (ℕ × List (List ℕ)) LuaWhy
    fresh = cond (has_room_for bytes before) (Ok (length before, before ++ bytes ∷ [])) (Err TextsFull)

    by : (o : Option ℕ) → place_of bytes before ≡ o → option_map_or (λ i. Ok (i, before)) o fresh ≡ Ok (place, after) → Found bytes before after place ⊎ Added bytes before after place
    by None e g =
        let t = taken (has_room_for bytes before) TextsFull _ (place, after) g in
        let p = same_Ok _ (place, after) t.1 in
        inr (record { absent = e; room = t.0; last = ap (λ x. x.0) p; same = ap (λ x. x.1) p })
    by (Some i) e g =
        let p = same_Ok (i, before) (place, after) g in
        inl (record { at = e ∙ ap Some (ap (λ x. x.0) p); same = ap (λ x. x.1) p })

-- the bytes at its place
pub made_bytes : (bytes : List ℕ) (before after : List (List ℕ)) (place : ℕ) → made bytes before ≡ Ok (place, after) → (place < length after) × (get_or after place [] ≡ bytes)
made_bytes bytes before after place h =
    elim (made_cases bytes before after place h) [
      | inl found ↦
          let p = position-Some (pointwise nat_eq bytes) before place [] found.at in
          subst (λ texts. (place < length texts) × (get_or texts place [] ≡ bytes)) found.same (p.0, sym ((bytes_decides bytes (get_or before place [])).0 p.1))
      | inr added ↦
          subst (λ texts. (place < length texts) × (get_or texts place [] ≡ bytes)) added.same (
            omega (arith, length-append before (bytes ∷ []), added.last),
            get_or-append_right before (bytes ∷ []) place place [] added.last (omega arith) ∙ ap (λ n. get_or (bytes ∷ []) n []) (let e : place - place ≡ 0 = omega arith in e),
          )
    ]

-- the texts before keep their places and bytes
pub made_keeps : (bytes : List ℕ) (before after : List (List ℕ)) (place : ℕ) → made bytes before ≡ Ok (place, after)
    → (length before ≤ length after) × ((n : ℕ) → n < length before → get_or after n [] ≡ get_or before n [])
made_keeps bytes before after place h =
    elim (made_cases bytes before after place h) [
      | inl found ↦
          subst (λ texts. (length before ≤ length texts) × ((n : ℕ) → n < length before → get_or texts n [] ≡ get_or before n [])) found.same (omega arith, λ n less. refl)
      | inr added ↦
          subst (λ texts. (length before ≤ length texts) × ((n : ℕ) → n < length before → get_or texts n [] ≡ get_or before n [])) added.same
          (omega (arith, length-append before (bytes ∷ [])), λ n less. get_or_append_left before (bytes ∷ []) [] n less)
    ]

-- no text has the bytes
pub none_at : (bytes : List ℕ) (texts : List (List ℕ)) (n : ℕ) → place_of bytes texts ≡ None → n < length texts → get_or texts n [] ≡ bytes → ⊥
none_at bytes texts n h less e =
    elim (cases_lt (position_or_len (pointwise nat_eq bytes) texts) (length texts)) [
      | inl found ↦ let some = lt_some (position_or_len (pointwise nat_eq bytes) texts) (length texts) found in none_some _ (sym h ∙ some)
      | inr past ↦
          let fails = fails_before_first (pointwise nat_eq bytes) texts n [] (omega arith) in
          true≢false (sym ((bytes_decides bytes (get_or texts n [])).1 (sym e)) ∙ fails)
    ]
  where
    lt_some : (a b : ℕ) → a < b → cond (nat_lt a b) (Some a) None ≡ Some a
    lt_some a b less = grind arith

    none_some : (a : ℕ) → None ≡ Some a → ⊥
    none_some a e = cc

abbrev pub IsOnce : List (List ℕ) → Type 0
IsOnce texts = (i j : ℕ) (bytes : List ℕ) → slice_get texts i ≡ Some bytes → slice_get texts j ≡ Some bytes → i ≡ j

-- what is at a place of a list with one more
at_pushed : (bytes : List ℕ) (texts : List (List ℕ)) (i : ℕ) (found : List ℕ) → slice_get (texts ++ bytes ∷ []) i ≡ Some found
    → ((i < length texts) × (slice_get texts i ≡ Some found) × (get_or texts i [] ≡ found)) ⊎ ((i ≡ length texts) × (found ≡ bytes))
at_pushed bytes texts i found h =
    let within = slice_get_within (texts ++ bytes ∷ []) i found h in
    let at = get_or_from_slice_get (texts ++ bytes ∷ []) i found [] h in
    elim (cases_lt i (length texts)) [
      | inl less ↦
          let same = sym (get_or_append_left texts (bytes ∷ []) [] i less) ∙ at in
          inl (less, slice_get-get_or texts i [] less ∙ ap Some same, same)
      | inr past ↦
          let last : i ≡ length texts = omega (arith, length-append texts (bytes ∷ []), within) in
          inr (last, sym at ∙ get_or-append_right texts (bytes ∷ []) (length texts) i [] refl past ∙ ap (λ n. get_or (bytes ∷ []) n []) (let e : i - length texts ≡ 0 = omega arith in e))
    ]

pub once_pushed : (bytes : List ℕ) (texts : List (List ℕ)) → place_of bytes texts ≡ None → IsOnce texts → IsOnce (texts ++ bytes ∷ [])
once_pushed bytes texts absent once i j found at_i at_j =
    elim (at_pushed bytes texts i found at_i) [
      | inl a ↦ elim (at_pushed bytes texts j found at_j) [
        | inl b ↦ once i j found a.1 b.1
        | inr b ↦ absurd (none_at bytes texts i absent a.0 (a.2 ∙ b.1))
      ]
      | inr a ↦ elim (at_pushed bytes texts j found at_j) [
        | inl b ↦ absurd (none_at bytes texts j absent b.0 (b.2 ∙ a.1))
        | inr b ↦ a.0 ∙ sym b.0
      ]
    ]

pub record AreLawful (texts : List (List ℕ)) : Type 0 where
  pub once : IsOnce texts
  pub short : All (λ bytes. length bytes ≤ max_text) texts
  pub bytes : sum_by length texts ≤ max_bytes

room_parts : (a b m n : ℕ) → (nat_le a m && nat_le b n) ≡ true → (a ≤ m) × (b ≤ n)
room_parts a b m n h = (grind arith, grind arith)

pub made_lawful : (bytes : List ℕ) (before after : List (List ℕ)) (place : ℕ) → made bytes before ≡ Ok (place, after) → AreLawful before → AreLawful after
made_lawful bytes before after place h lawful =
    elim (made_cases bytes before after place h) [
      | inl found ↦ subst AreLawful found.same lawful
      | inr added ↦
          let room = room_parts (length bytes) (sum_by length before + length bytes) max_text max_bytes added.room in
          subst AreLawful added.same
          (record {
            once = once_pushed bytes before added.absent lawful.once;
            short = All-push (λ text. length text ≤ max_text) before bytes lawful.short room.0;
            bytes = omega (arith, sum_by-append length before (bytes ∷ []), room.1);
          })
    ]

-- the bytes at the place that is found
pub found_bytes : (bytes : List ℕ) (texts : List (List ℕ)) (place : ℕ) → place_of bytes texts ≡ Some place → get_or texts place [] ≡ bytes
found_bytes bytes texts place h = sym ((bytes_decides bytes (get_or texts place [])).0 (position-Some (pointwise nat_eq bytes) texts place [] h).1)

-- how many bytes there are with one more text
pub added_total : (total : ℕ) (old new now : List (List ℕ)) (bytes : List ℕ) → total ≡ sum_by length old → old ≡ now → new ≡ old ++ bytes ∷ [] → has_room_for bytes now ≡ true
    → (total + length bytes ≡ sum_by length new) × (total + length bytes ≤ max_bytes)
added_total total old new now bytes t e is room =
    let sum : sum_by length new ≡ sum_by length old + sum_by length (bytes ∷ []) = ap (sum_by length) is ∙ sum_by-append length old (bytes ∷ []) in
    let same : sum_by length old ≡ sum_by length now = ap (sum_by length) e in
    let parts = room_parts (length bytes) (sum_by length now + length bytes) max_text max_bytes room in
    (omega (arith, sum, t), omega (arith, same, t, parts.1))

-- the texts of a set, seen through their bytes, after one that it lacks is put in
module _ {V : Type 0} (items : V → List ℕ) where
  none_any : (bytes : List ℕ) (keys : List V) → ((n : ℕ) → n < length (map items keys) → get_or (map items keys) n [] ≡ bytes → ⊥) → list_any (λ y. pointwise nat_eq bytes (items y)) keys ≡ false
  none_any bytes [] h = refl
  none_any bytes (x ∷ keys) h = by (pointwise nat_eq bytes (items x)) refl (none_any bytes keys (λ n less. h (suc n) (omega arith)))
    where
      by : (b : Bool) → pointwise nat_eq bytes (items x) ≡ b → list_any (λ y. pointwise nat_eq bytes (items y)) keys ≡ false → (b || list_any (λ y. pointwise nat_eq bytes (items y)) keys) ≡ false
      by true e rest = absurd (h 0 (omega arith) (sym ((bytes_decides bytes (items x)).0 e)))
      by false e rest = rest

  mapped_push : (keys : List V) (v : V) → map items (keys ++ v ∷ []) ≡ map items keys ++ items v ∷ []
  mapped_push [] v = refl
  mapped_push (x ∷ keys) v = ap (λ l. items x ∷ l) (mapped_push keys v)

  pub inserted_texts : (keys new : List V) (v : V) (bytes : List ℕ) → items v ≡ bytes → place_of bytes (map items keys) ≡ None
      → new ≡ insert_key (λ x y. pointwise nat_eq (items x) (items y)) keys v → map items new ≡ map items keys ++ bytes ∷ []
  inserted_texts keys new v bytes is absent e =
      let none = ap (λ l. list_any (λ y. pointwise nat_eq l (items y)) keys) is ∙ none_any bytes keys (λ n less at. none_at bytes (map items keys) n absent less at) in
      ap (map items) (e ∙ ap (λ b. cond b keys (keys ++ v ∷ [])) none) ∙ mapped_push keys v ∙ ap (λ l. map items keys ++ l ∷ []) is
