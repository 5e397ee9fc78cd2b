-- A table with a value put in at a key.
use Rattle.std.proofs.Common.{◌≡◌, ℕ, ◌+◌, ◌≤◌, Bool, true, false, cond, ◌||◌, List, [], ◌∷◌, ◌++◌, length, map, Option, Some, None, is_some, refl, ap, sym, ◌∙◌, subst, arith, true≢false, length-append, All}
use Rattle.std.proofs.lemmas.List.Elements.{All-nil, All-cons, All-head, All-tail}
use Rattle.std.proofs.lemmas.Map.Entries.{length-keys_of}
use Rattle.std.proofs.lemmas.Map.Keys.{IsDistinct-push}
use Rattle.std.specs.List.{IsDistinct, list_any}
use Rattle.std.specs.Map.{lookup, keys_of}
use Rattle.indexmap.specs.IndexMap.{insert_entry}
use Rattle.ntx_values.specs.Value.{is_same}
use Rattle.ntx_values.specs.Table.{Entries, has_key}
use Rattle.ntx_values.specs.declared.value.Value.{Value}
use Rattle.ntx_values.proofs.Same.{same_laws}

twice : {A : Type 0} (b : Bool) (x y z : A) → cond b x z ≡ cond b x (cond b y z)
twice true x y z = refl
twice false x y z = refl

apart : {A : Type 0} (b c : Bool) (x y z : A) → (b ≡ true → c ≡ true → ⊥) → cond b x (cond c y z) ≡ cond c y (cond b x z)
apart true true x y z h = absurd (h refl refl)
apart true false x y z h = refl
apart false true x y z h = refl
apart false false x y z h = refl

-- what it holds at any key
pub lookup-inserted : (es : Entries) (k v q : Value) → lookup (is_same q) (insert_entry is_same es k v) ≡ cond (is_same k q) (Some v) (lookup (is_same q) es)
lookup-inserted [] k v q = ap (λ b. cond b (Some v) None) (same_laws.symm q k)
lookup-inserted (e ∷ es) k v q = by (is_same k e.0) refl (lookup-inserted es k v q)
  where
    same : is_same k e.0 ≡ true → is_same q e.0 ≡ is_same k q
    same h = same_laws.symm q e.0 ∙ sym (same_laws.congr k e.0 q h)

    not_both : is_same k e.0 ≡ false → is_same q e.0 ≡ true → is_same k q ≡ true → ⊥
    not_both h a b = true≢false (sym a ∙ sym (same_laws.congr k q e.0 b) ∙ h)

    by : (b : Bool) → is_same k e.0 ≡ b → lookup (is_same q) (insert_entry is_same es k v) ≡ cond (is_same k q) (Some v) (lookup (is_same q) es)
        → lookup (is_same q) (cond b ((e.0, v) ∷ es) (e ∷ insert_entry is_same es k v)) ≡ cond (is_same k q) (Some v) (cond (is_same q e.0) (Some e.1) (lookup (is_same q) es))
    by true h rest =
        ap (λ b. cond b (Some v) (lookup (is_same q) es)) (same h) ∙ twice (is_same k q) (Some v) (Some e.1) (lookup (is_same q) es)
        ∙ ap (λ b. cond (is_same k q) (Some v) (cond b (Some e.1) (lookup (is_same q) es))) (sym (same h))
    by false h rest =
        ap (cond (is_same q e.0) (Some e.1)) rest
        ∙ apart (is_same q e.0) (is_same k q) (Some e.1) (Some v) (lookup (is_same q) es) (not_both h)

-- a key that is there keeps its place
pub keys-present : (es : Entries) (k v : Value) → has_key es k ≡ true → keys_of (insert_entry is_same es k v) ≡ keys_of es
keys-present [] k v h = absurd (true≢false (sym h))
keys-present (e ∷ es) k v h = by (is_same k e.0) h (keys-present es k v)
  where
    by : (b : Bool) → is_some (cond b (Some e.1) (lookup (is_same k) es)) ≡ true → (has_key es k ≡ true → keys_of (insert_entry is_same es k v) ≡ keys_of es)
        → keys_of (cond b ((e.0, v) ∷ es) (e ∷ insert_entry is_same es k v)) ≡ e.0 ∷ keys_of es
    by true h rest = refl
    by false h rest = ap (λ ks. e.0 ∷ ks) (rest h)

-- and a new one goes last
pub keys-absent : (es : Entries) (k v : Value) → has_key es k ≡ false → keys_of (insert_entry is_same es k v) ≡ keys_of es ++ k ∷ []
keys-absent [] k v h = refl
keys-absent (e ∷ es) k v h = by (is_same k e.0) h (keys-absent es k v)
  where
    by : (b : Bool) → is_some (cond b (Some e.1) (lookup (is_same k) es)) ≡ false → (has_key es k ≡ false → keys_of (insert_entry is_same es k v) ≡ keys_of es ++ k ∷ [])
        → keys_of (cond b ((e.0, v) ∷ es) (e ∷ insert_entry is_same es k v)) ≡ e.0 ∷ (keys_of es ++ k ∷ [])
    by true h rest = absurd (true≢false h)
    by false h rest = ap (λ ks. e.0 ∷ ks) (rest h)

any-has_key : (es : Entries) (k : Value) → list_any (is_same k) (keys_of es) ≡ has_key es k
any-has_key [] k = refl
any-has_key (e ∷ es) k = by (is_same k e.0) (any-has_key es k)
  where
    by : (b : Bool) → list_any (is_same k) (keys_of es) ≡ has_key es k → (b || list_any (is_same k) (keys_of es)) ≡ is_some (cond b (Some e.1) (lookup (is_same k) es))
    by true h = refl
    by false h = h

pub distinct-inserted : (es : Entries) (k v : Value) → IsDistinct is_same (keys_of es) → IsDistinct is_same (keys_of (insert_entry is_same es k v))
distinct-inserted es k v h = by (has_key es k) refl
  where
    by : (b : Bool) → has_key es k ≡ b → IsDistinct is_same (keys_of (insert_entry is_same es k v))
    by true e = subst (IsDistinct is_same) (sym (keys-present es k v e)) h
    by false e = subst (IsDistinct is_same) (sym (keys-absent es k v e)) (IsDistinct-push same_laws (keys_of es) k h (any-has_key es k ∙ e))

pub length-present : (es : Entries) (k v : Value) → has_key es k ≡ true → length (insert_entry is_same es k v) ≡ length es
length-present es k v h = sym (length-keys_of (insert_entry is_same es k v)) ∙ ap length (keys-present es k v h) ∙ length-keys_of es

pub length-absent : (es : Entries) (k v : Value) → has_key es k ≡ false → length (insert_entry is_same es k v) ≡ length es + 1
length-absent es k v h =
    sym (length-keys_of (insert_entry is_same es k v)) ∙ ap length (keys-absent es k v h) ∙ length-append (keys_of es) (k ∷ []) ∙ ap (λ n. n + 1) (length-keys_of es)

-- what is true of each pair stays true of each
pub All-inserted : (P : Value × Value → Type 0) (es : Entries) (k v : Value) → ((e : Value × Value) → P e → P (e.0, v)) → P (k, v) → All P es → All P (insert_entry is_same es k v)
All-inserted P [] k v kept new h = All-cons P (k, v) [] new (All-nil P)
All-inserted P (e ∷ es) k v kept new h = by (is_same k e.0) (All-inserted P es k v kept new (All-tail P e es h))
  where
    by : (b : Bool) → All P (insert_entry is_same es k v) → All P (cond b ((e.0, v) ∷ es) (e ∷ insert_entry is_same es k v))
    by true rest = All-cons P (e.0, v) es (kept e (All-head P e es h)) (All-tail P e es h)
    by false rest = All-cons P e (insert_entry is_same es k v) (All-head P e es h) rest
