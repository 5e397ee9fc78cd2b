-- Tables with the same keys and other values.
use Rattle.std.proofs.Common.{◌≡◌, Bool, true, false, cond, [], ◌∷◌, Option, Some, None, is_some, unwrap_or, refl, ap, sym, ◌∙◌, true≢false}
use Rattle.std.specs.List.{IsDistinct, AllByRecursion}
use Rattle.std.specs.Map.{lookup, keys_of}
use Rattle.indexmap.specs.IndexMap.{insert_entry}
use Rattle.ntx_values.specs.Value.{is_same}
use Rattle.ntx_values.specs.Table.{Entries, has_key, value_at}
use Rattle.ntx_values.specs.declared.value.Value.{Value}
use Rattle.ntx_values.specs.declared.value.Value.TheVariants.{Nil}
use Rattle.ntx_values.proofs.Same.{same_laws}
use Rattle.ntx_values.proofs.Equal.{equal_values}
use Rattle.ntx_lualib.specs.Lists.{refilled}

pub lookup-refilled : (g : Value → Value) (es : Entries) (q : Value) → lookup (is_same q) (refilled g es) ≡ cond (has_key es q) (Some (g q)) None
lookup-refilled g [] q = refl
lookup-refilled g (e ∷ es) q = by (is_same q e.0) refl (lookup-refilled g es q)
  where
    by : (b : Bool) → is_same q e.0 ≡ b → lookup (is_same q) (refilled g es) ≡ cond (has_key es q) (Some (g q)) None
        → cond b (Some (g e.0)) (lookup (is_same q) (refilled g es)) ≡ cond (is_some (cond b (Some e.1) (lookup (is_same q) es))) (Some (g q)) None
    by true h rest = ap (λ x. Some (g x)) (sym (equal_values q e.0 h))
    by false h rest = rest

pub value_at-refilled : (g : Value → Value) (es : Entries) (q : Value) → has_key es q ≡ true → value_at (refilled g es) q ≡ g q
value_at-refilled g es q h = ap (λ o. unwrap_or o Nil) (lookup-refilled g es q ∙ ap (λ b. cond b (Some (g q)) None) h)

-- a value that is kept
pub value_at-kept : (g : Value → Value) (es : Entries) (q : Value) → g q ≡ value_at es q → value_at (refilled g es) q ≡ value_at es q
value_at-kept g es q h = ap (λ o. unwrap_or o Nil) (lookup-refilled g es q) ∙ by (lookup (is_same q) es) h
  where
    by : (o : Option Value) → g q ≡ unwrap_or o Nil → unwrap_or (cond (is_some o) (Some (g q)) None) Nil ≡ unwrap_or o Nil
    by None e = refl
    by (Some v) e = e

pub has_key-refilled : (g : Value → Value) (es : Entries) (q : Value) → has_key (refilled g es) q ≡ has_key es q
has_key-refilled g es q = ap is_some (lookup-refilled g es q) ∙ by (has_key es q)
  where
    by : (b : Bool) → is_some (cond b (Some (g q)) None) ≡ b
    by true = refl
    by false = refl

pub refilled_alike : (g h : Value → Value) (es : Entries) → ((q : Value) → g q ≡ h q) → refilled g es ≡ refilled h es
refilled_alike g h [] same = refl
refilled_alike g h (e ∷ es) same = λ i. (e.0, same e.0 i) ∷ refilled_alike g h es same i

-- keys that differ from one
apart : (k : Value) (g h : Value → Value) (es : Entries) → AllByRecursion (λ y. is_same k y ≡ false) (keys_of es) → ((q : Value) → is_same k q ≡ false → g q ≡ h q) → refilled g es ≡ refilled h es
apart k g h [] all same = refl
apart k g h (e ∷ es) all same = λ i. (e.0, same e.0 all.0 i) ∷ apart k g h es all.1 same i

pub refilled_self : (es : Entries) → IsDistinct is_same (keys_of es) → refilled (value_at es) es ≡ es
unfolding IsDistinct
refilled_self [] once = refl
refilled_self (e ∷ es) once =
    (λ i. (e.0, here i) ∷ apart e.0 (value_at (e ∷ es)) (value_at es) es once.0 other i)
    ∙ ap (λ l. e ∷ l) (refilled_self es once.1)
  where
    here : value_at (e ∷ es) e.0 ≡ e.1
    here = ap (λ b. unwrap_or (cond b (Some e.1) (lookup (is_same e.0) es)) Nil) (same_laws.refl e.0)

    other : (q : Value) → is_same e.0 q ≡ false → value_at (e ∷ es) q ≡ value_at es q
    other q h = ap (λ b. unwrap_or (cond b (Some e.1) (lookup (is_same q) es)) Nil) (same_laws.symm q e.0 ∙ h)

-- a set at a key that is there
pub insert-refilled : (g : Value → Value) (es : Entries) (k v : Value) → IsDistinct is_same (keys_of es) → has_key es k ≡ true
    → insert_entry is_same (refilled g es) k v ≡ refilled (λ q. cond (is_same k q) v (g q)) es
unfolding IsDistinct
insert-refilled g [] k v once h = absurd (true≢false (sym h))
insert-refilled g (e ∷ es) k v once h = by (is_same k e.0) refl h (insert-refilled g es k v once.1)
  where
    put : Value → Value
    put q = cond (is_same k q) v (g q)

    differs : is_same k e.0 ≡ true → (q : Value) → is_same e.0 q ≡ false → g q ≡ cond (is_same k q) v (g q)
    differs s q no_ = ap (λ b. cond b v (g q)) (sym (same_laws.congr k e.0 q s ∙ no_))

    by : (b : Bool) → is_same k e.0 ≡ b → is_some (cond b (Some e.1) (lookup (is_same k) es)) ≡ true → (has_key es k ≡ true → insert_entry is_same (refilled g es) k v ≡ refilled put es)
        → cond b ((e.0, v) ∷ refilled g es) ((e.0, g e.0) ∷ insert_entry is_same (refilled g es) k v) ≡ (e.0, cond (is_same k e.0) v (g e.0)) ∷ refilled put es
    by true s there rest = λ i. (e.0, cond (sym s i) v (g e.0)) ∷ apart e.0 g put es once.0 (differs s) i
    by false s there rest = λ i. (e.0, cond (sym s i) v (g e.0)) ∷ rest there i
