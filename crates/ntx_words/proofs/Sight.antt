-- What `clap` sees in a word of each kind.
use Rattle.std.proofs.Common.{◌≡◌, ◌∙◌, ℕ, ◌+◌, ◌==◌, Bool, true, false, suc, List, [], ◌∷◌, Option, None, Some, refl, sym, ap, subst, arith, codes}
use Rattle.std.specs.Prelude.{nat_eq, slice_get, if◌then◌else◌}
use Rattle.std.specs.List.{before_first, after_first, position_or_len}
use Rattle.std.specs.Char.{encode_utf8}
use Rattle.std.specs.Str.{IsUtf8, bytes_eq, chars, encode_utf8_all as encodes}
use Rattle.std.proofs.lemmas.Str.{encodes-chars}
use Rattle.std.proofs.lemmas.Slice.Eq.{bytes_eq-Decides}
use Rattle.std.proofs.lemmas.Bool.Decides.{nat_tests}
use Rattle.clap.specs.Lexer.{long_of, short_of, name_and_value, has_byte}
use Rattle.ntx_words.specs.Kind.{Kind, option, option_with, last, unknown, plain, is_equals, is_steps, steps_kind, kind_of}

-- ---- the parts of a word around its first `=`

pub before_next : (x : ℕ) (xs : List ℕ) → is_equals x ≡ false → before_first is_equals (x ∷ xs) ≡ x ∷ before_first is_equals xs
before_next x xs e =
    let n = position_or_len is_equals xs in
    let one : 1 + n ≡ suc n = omega arith in
    rw (e, one) refl

pub after_next : (x : ℕ) (xs : List ℕ) → is_equals x ≡ false → after_first is_equals (x ∷ xs) ≡ after_first is_equals xs
after_next x xs e =
    let n = position_or_len is_equals xs in
    let one : 1 + n + 1 ≡ suc (n + 1) = omega arith in
    rw (e, one) refl

-- ---- kinds

-- the word is a long option, and no option has its name
abbrev pub IsUnknownLong : List ℕ → Type 0
IsUnknownLong word = (name : List ℕ) × (value : Option (List ℕ)) × (long_of word ≡ Some (name, value)) × (bytes_eq (codes "steps") name ≡ false)

-- the word is a short option
abbrev pub IsShort : List ℕ → Type 0
IsShort word = (x : ℕ) × (xs : List ℕ) × (c : ℕ) × (long_of word ≡ None) × (short_of word ≡ Some (x ∷ xs)) × (slice_get (chars (x ∷ xs)) 0 ≡ Some c)

pub data Unknown (word : List ℕ) : Type 0 where
  long : IsUnknownLong word → Unknown word
  short : IsShort word → Unknown word

-- What `clap` sees in a word of this kind.
abbrev pub Seen : List ℕ → Kind → Type 0
Seen word plain = (bytes_eq word (45 ∷ 45 ∷ []) ≡ false) × (long_of word ≡ None) × (short_of word ≡ None)
Seen word option = (bytes_eq word (45 ∷ 45 ∷ []) ≡ false) × (long_of word ≡ Some (codes "steps", None))
Seen word (option_with value) = (bytes_eq word (45 ∷ 45 ∷ []) ≡ false) × (long_of word ≡ Some (codes "steps", Some value))
Seen word last = bytes_eq word (45 ∷ 45 ∷ []) ≡ true
Seen word unknown = (bytes_eq word (45 ∷ 45 ∷ []) ≡ false) × Unknown word

-- ---- words that begin with two hyphens

long_named : (z : ℕ) (zs : List ℕ) → bytes_eq (codes "steps") (before_first is_equals (z ∷ zs)) ≡ true
    → Seen (45 ∷ 45 ∷ z ∷ zs) (steps_kind (45 ∷ 45 ∷ z ∷ zs))
long_named z zs same = go (has_byte 61 (z ∷ zs)) refl
  where
    name : before_first is_equals (z ∷ zs) ≡ codes "steps"
    name = sym ((bytes_eq-Decides (codes "steps") (before_first is_equals (z ∷ zs))).0 same)

    after : after_first is_equals (45 ∷ 45 ∷ z ∷ zs) ≡ after_first is_equals (z ∷ zs)
    after = after_next 45 (45 ∷ z ∷ zs) refl ∙ after_next 45 (z ∷ zs) refl

    go : (b : Bool) → has_byte 61 (z ∷ zs) ≡ b → Seen (45 ∷ 45 ∷ z ∷ zs) (if b then option_with (after_first is_equals (45 ∷ 45 ∷ z ∷ zs)) else option)
    go true e = (refl, rw (name, e, after) refl)
    go false e = (refl, rw (name, e) refl)

long_seen : (z : ℕ) (zs : List ℕ) → Seen (45 ∷ 45 ∷ z ∷ zs) (kind_of (45 ∷ 45 ∷ z ∷ zs))
long_seen z zs = rw steps (go (bytes_eq (codes "steps") (before_first is_equals (z ∷ zs))) refl)
  where
    steps : is_steps (45 ∷ 45 ∷ z ∷ zs) ≡ bytes_eq (codes "steps") (before_first is_equals (z ∷ zs))
    steps = ap (bytes_eq (codes "--steps")) (before_next 45 (45 ∷ z ∷ zs) refl ∙ ap (λ t. 45 ∷ t) (before_next 45 (z ∷ zs) refl))

    go : (b : Bool) → bytes_eq (codes "steps") (before_first is_equals (z ∷ zs)) ≡ b
        → Seen (45 ∷ 45 ∷ z ∷ zs) (if b then steps_kind (45 ∷ 45 ∷ z ∷ zs) else unknown)
    go true e = long_named z zs e
    go false e = (refl, long ((name_and_value (z ∷ zs)).0, (name_and_value (z ∷ zs)).1, refl, e))

-- ---- words that begin with one hyphen

after_hyphen : (x : ℕ) (bs : List ℕ) → chars (45 ∷ x ∷ bs) ≡ 45 ∷ chars (x ∷ bs)
unfolding chars
after_hyphen x bs = refl

hyphen_alone : encodes (45 ∷ []) ≡ 45 ∷ []
unfolding encode_utf8
hyphen_alone = refl

no_more : (x : ℕ) (bs : List ℕ) → 45 ∷ [] ≡ 45 ∷ x ∷ bs → ⊥
no_more x bs e = cc

first_char : (x : ℕ) (bs : List ℕ) → IsUtf8 (45 ∷ x ∷ bs) → (c : ℕ) × (slice_get (chars (x ∷ bs)) 0 ≡ Some c)
first_char x bs utf8 = go (chars (x ∷ bs)) refl
  where
    spelled : encodes (45 ∷ chars (x ∷ bs)) ≡ 45 ∷ x ∷ bs
    spelled = subst (λ t. encodes t ≡ 45 ∷ x ∷ bs) (after_hyphen x bs) (encodes-chars (45 ∷ x ∷ bs) utf8)

    go : (cs : List ℕ) → chars (x ∷ bs) ≡ cs → (c : ℕ) × (slice_get (chars (x ∷ bs)) 0 ≡ Some c)
    go [] e =
        let alone : encodes (45 ∷ []) ≡ 45 ∷ x ∷ bs = subst (λ t. encodes (45 ∷ t) ≡ 45 ∷ x ∷ bs) e spelled in
        absurd (no_more x bs (sym hyphen_alone ∙ alone))
    go (c ∷ cs) e = (c, ap (λ t. slice_get t 0) e)

steps_not : (y : ℕ) (ys : List ℕ) → (y == 45) ≡ false → is_steps (45 ∷ y ∷ ys) ≡ false
steps_not y ys e = go (is_equals y) refl
  where
    other : nat_eq 45 y ≡ false
    other = grind (arith, nat_tests)

    go : (b : Bool) → is_equals y ≡ b → is_steps (45 ∷ y ∷ ys) ≡ false
    go true is = rw (before_next 45 (y ∷ ys) refl, is) refl
    go false is = rw (before_next 45 (y ∷ ys) refl, before_next y ys is, other) refl

short_kind : (y : ℕ) (ys : List ℕ) → (y == 45) ≡ false → kind_of (45 ∷ y ∷ ys) ≡ unknown
short_kind y ys e = rw (steps_not y ys e, e) refl

short_seen : (y : ℕ) (ys : List ℕ) → (y == 45) ≡ false → IsUtf8 (45 ∷ y ∷ ys) → Seen (45 ∷ y ∷ ys) (kind_of (45 ∷ y ∷ ys))
short_seen y ys e utf8 =
    let c = first_char y ys utf8 in
    rw (short_kind y ys e) (rw e refl, short (y, ys, c.0, rw e refl, rw e refl, c.1))

-- ---- other words

steps_none : (x : ℕ) (xs : List ℕ) → (x == 45) ≡ false → is_steps (x ∷ xs) ≡ false
steps_none x xs e = go (is_equals x) refl
  where
    other : nat_eq 45 x ≡ false
    other = grind (arith, nat_tests)

    go : (b : Bool) → is_equals x ≡ b → is_steps (x ∷ xs) ≡ false
    go true is = rw is refl
    go false is = rw (before_next x xs is, other) refl

pub plain_kind : (x : ℕ) (xs : List ℕ) → (x == 45) ≡ false → kind_of (x ∷ xs) ≡ plain
plain_kind x [] e = rw (steps_none x [] e, e) refl
plain_kind x (y ∷ ys) e = rw (steps_none x (y ∷ ys) e, e) refl

plain_seen : (x : ℕ) (xs : List ℕ) → (x == 45) ≡ false → Seen (x ∷ xs) (kind_of (x ∷ xs))
plain_seen x xs e = rw (plain_kind x xs e) (rw e refl, rw e refl, rw e refl)

hyphen_seen : (y : ℕ) (ys : List ℕ) → IsUtf8 (45 ∷ y ∷ ys) → Seen (45 ∷ y ∷ ys) (kind_of (45 ∷ y ∷ ys))
hyphen_seen y ys utf8 = go (y == 45) refl
  where
    is : (y == 45) ≡ true → y ≡ 45
    is e = grind (arith, nat_tests)

    two : (zs : List ℕ) → Seen (45 ∷ 45 ∷ zs) (kind_of (45 ∷ 45 ∷ zs))
    two [] = refl
    two (z ∷ zs) = long_seen z zs

    go : (b : Bool) → (y == 45) ≡ b → Seen (45 ∷ y ∷ ys) (kind_of (45 ∷ y ∷ ys))
    go true e = subst (λ w. Seen (45 ∷ w ∷ ys) (kind_of (45 ∷ w ∷ ys))) (sym (is e)) (two ys)
    go false e = short_seen y ys e utf8

-- What `clap` sees in a word.
pub seen : (word : List ℕ) → IsUtf8 word → Seen word (kind_of word)
seen [] utf8 = (refl, refl, refl)
seen (x ∷ xs) utf8 = go (x == 45) refl xs utf8
  where
    is : (x == 45) ≡ true → x ≡ 45
    is e = grind (arith, nat_tests)

    hyphen : (zs : List ℕ) → IsUtf8 (45 ∷ zs) → Seen (45 ∷ zs) (kind_of (45 ∷ zs))
    hyphen [] u = (refl, refl, refl)
    hyphen (z ∷ zs) u = hyphen_seen z zs u

    go : (b : Bool) → (x == 45) ≡ b → (zs : List ℕ) → IsUtf8 (x ∷ zs) → Seen (x ∷ zs) (kind_of (x ∷ zs))
    go true e zs u = subst (λ w. Seen (w ∷ zs) (kind_of (w ∷ zs))) (sym (is e)) (hyphen zs (subst (λ w. IsUtf8 (w ∷ zs)) (is e) u))
    go false e zs u = plain_seen x zs e
