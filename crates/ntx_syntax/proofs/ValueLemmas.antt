-- What numerals and texts represent.
use Rattle.std.proofs.Common.{◌≡◌, ℕ, zero, suc, ◌+◌, ◌*◌, ◌/◌, ◌%◌, ◌^◌, ◌<◌, ◌≤◌, Bool, true, false, ◌&&◌, ◌||◌, cond, List, [], ◌∷◌, ◌++◌, length, drop, Option, Some, None, ℤ, pos, refl, sym, ap, ◌∙◌, ⊎_elim, append_assoc, arith}
use Rattle.std.specs.Prelude.{is_some, IsSome, not, nat_eq, nat_lt, slice_index, option_map, option_and_then}
use Rattle.std.specs.List.{list_all}
use Rattle.std.specs.Char.{is_ascii_digit, is_ascii_hexdigit, digit_value}
use Rattle.std.specs.Int.{w64, cast_signed}
use Rattle.std.specs.Str.Parse.{digits_value, digits_value_after}
use Rattle.std.proofs.lemmas.Bool.{false≢true, cases_lt, and_parts, eq-eqb, ltb-true, false_from_ne_true}
use Rattle.std.proofs.lemmas.List.{at_drop_more, append-nil, drop-drop, drop_all}
use Rattle.std.proofs.lemmas.Nat.{mul-mod_first}
use Rattle.std.proofs.Math.Nat.{add-mod, add-mul-mod_self_right}
use Rattle.ntx_syntax.specs.declared.token.Sort.TheVariants.{Name, Keyword, Numeral, Symbol}
use Rattle.ntx_syntax.specs.declared.token.Sort.TheVariants as sort
use Rattle.ntx_syntax.specs.declared.fault.SyntaxWhy.TheVariants as why
use Rattle.ntx_syntax.specs.declared.piece.Piece.{Piece}
use Rattle.ntx_syntax.specs.declared.piece.Piece.TheVariants.{Gap, Token, Wrong}
use Rattle.ntx_syntax.specs.Bytes.{is_quote, is_line_end, is_blank, begins_name, continues_name}
use Rattle.ntx_syntax.specs.Values.{is_decimal, is_hexadecimal, numeral_value, text_value, characters, escape, if_empty}
use Rattle.ntx_syntax.specs.inner.Front.{begins_hexadecimal, character}
use Rattle.ntx_syntax.proofs.NumeralLemmas.{hexadecimal_begins, x_is_no_digit}

-- ---- hexadecimal digits, modulo 2 ^ 64

same_step : (a b d m : ℕ) → a % m ≡ b % m → (a * 16 + d) % m ≡ (b * 16 + d) % m
same_step a b d m h =
    add-mod (a * 16) d m
    ∙ ap (λ n. (n + d % m) % m) (sym (mul-mod_first a 16 m) ∙ ap (λ n. n * 16 % m) h ∙ mul-mod_first b 16 m)
    ∙ sym (add-mod (b * 16) d m)

same_digits : (a b : ℕ) (digits : List ℕ) → a % 2 ^ 64 ≡ b % 2 ^ 64 → digits_value_after 16 a digits % 2 ^ 64 ≡ digits_value_after 16 b digits % 2 ^ 64
same_digits a b [] h = h
same_digits a b (c ∷ digits) h = same_digits (a * 16 + digit_value c) (b * 16 + digit_value c) digits (same_step a b (digit_value c) (2 ^ 64) h)

dropped_bits : (v d : ℕ) → (v % 2 ^ 60 * 16 + d) % 2 ^ 64 ≡ (v * 16 + d) % 2 ^ 64
dropped_bits v d =
    let whole : v * 16 + d ≡ v % 2 ^ 60 * 16 + d + v / 2 ^ 60 * 2 ^ 64 = omega arith in
    sym (ap (λ n. n % 2 ^ 64) whole ∙ add-mul-mod_self_right (v % 2 ^ 60 * 16 + d) (v / 2 ^ 60) (2 ^ 64))

-- one digit more, without the bits that leave 64
pub wrapped_digit : (v i : ℕ) (digits : List ℕ) (total : ℕ) → digits_value_after 16 v (drop i digits) % 2 ^ 64 ≡ total → i < length digits → digits_value_after 16 (v % 2 ^ 60 * 16 + digit_value (slice_index digits i)) (drop (i + 1) digits) % 2 ^ 64 ≡ total
wrapped_digit v i digits total h within =
    same_digits (v % 2 ^ 60 * 16 + digit_value (slice_index digits i)) (v * 16 + digit_value (slice_index digits i)) (drop (i + 1) digits) (dropped_bits v (digit_value (slice_index digits i)))
    ∙ sym (ap (λ n. n % 2 ^ 64) (at_drop_more (digits_value_after 16 v) digits i 0 within)) ∙ h

-- ---- numerals

not_both : (o x : Bool) (rest : Bool) → x ≡ false → (o && (x && rest)) ≡ false
not_both true x rest h = rw h refl
not_both false x rest h = refl

must_be_first : {X : Type 0} (first second small : Bool) (x y : X) → second ≡ false → is_some (cond first (Some x) (cond (second && small) (Some y) None)) ≡ true → first ≡ true
must_be_first true second small x y h some = refl
must_be_first false second small x y h some = absurd (false≢true (sym (rw h refl) ∙ some))

-- a numeral that begins as a hexadecimal one is one
hexadecimal_whole : (bytes : List ℕ) → begins_hexadecimal bytes ≡ true → IsSome (numeral_value bytes) → is_hexadecimal bytes ≡ true
hexadecimal_whole [] begins some = absurd (false≢true begins)
hexadecimal_whole (o ∷ []) begins some = absurd (no_third (nat_eq o 48) false begins)
  where
    no_third : (x y : Bool) → ((x && y) && false) ≡ true → ⊥
    no_third true true h = false≢true h
    no_third true false h = false≢true h
    no_third false y h = false≢true h
hexadecimal_whole (o ∷ x ∷ []) begins some = absurd (no_third (nat_eq o 48) (nat_eq x 120) begins)
  where
    no_third : (x y : Bool) → ((x && y) && false) ≡ true → ⊥
    no_third true true h = false≢true h
    no_third true false h = false≢true h
    no_third false y h = false≢true h
hexadecimal_whole (o ∷ x ∷ d ∷ ds) begins some =
    let mark : nat_eq x 120 ≡ true = (and_parts (nat_eq o 48) (nat_eq x 120) (and_parts (nat_eq o 48 && nat_eq x 120) (is_ascii_hexdigit d) begins).0).1 in
    must_be_first (is_hexadecimal (o ∷ x ∷ d ∷ ds)) (is_decimal (o ∷ x ∷ d ∷ ds)) _ _ _ (not_both (is_ascii_digit o) (is_ascii_digit x) _ (x_is_no_digit x mark)) some

hexadecimal_digits : (bytes : List ℕ) → is_hexadecimal bytes ≡ true → list_all is_ascii_hexdigit (drop 2 bytes) ≡ true
hexadecimal_digits [] h = refl
hexadecimal_digits (o ∷ []) h = refl
hexadecimal_digits (o ∷ x ∷ []) h = refl
hexadecimal_digits (o ∷ x ∷ d ∷ ds) h =
    let parts = and_parts (nat_eq o 48 && nat_eq x 120 && is_ascii_hexdigit d) (list_all is_ascii_hexdigit ds) h in
    let digit : is_ascii_hexdigit d ≡ true = (and_parts (nat_eq o 48 && nat_eq x 120) (is_ascii_hexdigit d) parts.0).1 in
    rw (digit, parts.1) refl

pub begun_digits : (bytes : List ℕ) → begins_hexadecimal bytes ≡ true → IsSome (numeral_value bytes) → list_all is_ascii_hexdigit (drop 2 bytes) ≡ true
begun_digits bytes begins some = hexadecimal_digits bytes (hexadecimal_whole bytes begins some)

-- what the value of a plain numeral is
abbrev PlainValue : List ℕ → Option ℤ
PlainValue bytes = cond (is_decimal bytes && nat_lt (digits_value 10 bytes) (2 ^ 63)) (Some (pos (digits_value 10 bytes))) None

pub begun_value : (bytes : List ℕ) → begins_hexadecimal bytes ≡ true → IsSome (numeral_value bytes) → numeral_value bytes ≡ Some (cast_signed w64 (digits_value 16 (drop 2 bytes) % 2 ^ 64))
begun_value bytes begins some = ap (λ t. cond t (Some (cast_signed w64 (digits_value 16 (drop 2 bytes) % 2 ^ 64))) (PlainValue bytes)) (hexadecimal_whole bytes begins some)

not_hexadecimal : (bytes : List ℕ) → begins_hexadecimal bytes ≡ false → is_hexadecimal bytes ≡ false
not_hexadecimal bytes plain = false_from_ne_true (is_hexadecimal bytes) (λ h. false≢true (sym plain ∙ hexadecimal_begins bytes h))

plain_value : (bytes : List ℕ) → begins_hexadecimal bytes ≡ false → numeral_value bytes ≡ PlainValue bytes
plain_value bytes plain = ap (λ t. cond t (Some (cast_signed w64 (digits_value 16 (drop 2 bytes) % 2 ^ 64))) (PlainValue bytes)) (not_hexadecimal bytes plain)

both_of : (x y : Bool) (v : ℤ) → is_some (cond (x && y) (Some v) None) ≡ true → (x ≡ true) × (y ≡ true)
both_of true true v h = (refl, refl)
both_of true false v h = absurd (false≢true h)
both_of false y v h = absurd (false≢true h)

plain_parts : (bytes : List ℕ) → begins_hexadecimal bytes ≡ false → IsSome (numeral_value bytes) → (is_decimal bytes ≡ true) × (nat_lt (digits_value 10 bytes) (2 ^ 63) ≡ true)
plain_parts bytes plain some = both_of (is_decimal bytes) (nat_lt (digits_value 10 bytes) (2 ^ 63)) (pos (digits_value 10 bytes)) (ap is_some (sym (plain_value bytes plain)) ∙ some)

decimal_digits : (bytes : List ℕ) → is_decimal bytes ≡ true → list_all is_ascii_digit bytes ≡ true
decimal_digits [] h = refl
decimal_digits (d ∷ ds) h = h

pub plain_digits : (bytes : List ℕ) → begins_hexadecimal bytes ≡ false → IsSome (numeral_value bytes) → list_all is_ascii_digit bytes ≡ true
plain_digits bytes plain some = decimal_digits bytes (plain_parts bytes plain some).0

-- what the code finds for a plain numeral
pub plain_found : (bytes : List ℕ) (found : Option ℕ) → begins_hexadecimal bytes ≡ false → IsSome (numeral_value bytes) → found ≡ cond (nat_lt (digits_value 10 bytes) (2 ^ 63)) (Some (digits_value 10 bytes)) None → found ≡ Some (digits_value 10 bytes)
plain_found bytes found plain some is = is ∙ ap (λ t. cond t (Some (digits_value 10 bytes)) None) (plain_parts bytes plain some).1

pub plain_is : (bytes : List ℕ) → begins_hexadecimal bytes ≡ false → IsSome (numeral_value bytes) → numeral_value bytes ≡ Some (pos (digits_value 10 bytes))
plain_is bytes plain some =
    let parts = plain_parts bytes plain some in
    plain_value bytes plain ∙ (λ i. cond (parts.0 i && parts.1 i) (Some (pos (digits_value 10 bytes))) None)

pub plain_small : (bytes : List ℕ) → begins_hexadecimal bytes ≡ false → IsSome (numeral_value bytes) → digits_value 10 bytes < 2 ^ 63
plain_small bytes plain some = ltb-true (digits_value 10 bytes) (2 ^ 63) (plain_parts bytes plain some).1

pub same_some : {m n : ℕ} → Some m ≡ Some n → m ≡ n
same_some h = cc

-- ---- texts

characters-drop : (quote k : ℕ) (bytes : List ℕ) → characters quote k bytes ≡ characters quote 0 (drop k bytes)
characters-drop quote zero bytes = refl
characters-drop quote (suc k) [] = refl
characters-drop quote (suc k) (b ∷ bytes) = characters-drop quote k bytes

-- the characters from a place on, where they are there
abbrev pub CharactersFrom : ℕ → List ℕ → List ℕ → ℕ → Option (List ℕ)
CharactersFrom quote front bytes at = option_map (λ others. front ++ others) (characters quote 0 (drop at bytes))

unmapped : {X Y : Type 0} (f : X → Y) (o : Option X) → is_some (option_map f o) ≡ true → is_some o ≡ true
unmapped f None h = h
unmapped f (Some x) h = refl

no_more : (quote : ℕ) (front : List ℕ) (bytes : List ℕ) (at : ℕ) → length bytes ≤ at → is_some (CharactersFrom quote front bytes at) ≡ true → ⊥
no_more quote front bytes at past h = false≢true (sym (ap (λ rest. is_some (option_map (λ others. front ++ others) (characters quote 0 rest))) (drop_all at bytes past)) ∙ h)

-- more characters stand within the bytes
pub more_within : (quote : ℕ) (front : List ℕ) (bytes : List ℕ) (at : ℕ) (total : Option (List ℕ)) → CharactersFrom quote front bytes at ≡ total → IsSome total → at < length bytes
more_within quote front bytes at total h some = ⊎_elim (λ lt. lt) (λ past. absurd (no_more quote front bytes at past (ap is_some h ∙ some))) (cases_lt at (length bytes))

-- what stands at a byte that is no closing quote
abbrev unclosed_at : ℕ → ℕ → List ℕ → Option (List ℕ)
unclosed_at quote b bytes = cond (is_line_end b) None (cond (nat_eq b 92) (option_and_then (λ e. option_map (λ others. e.0 ∷ others) (characters quote e.1 bytes)) (escape bytes)) (option_map (λ others. b ∷ others) (characters quote 0 bytes)))

closed_empty : (front : List ℕ) (rest : List ℕ) (total : Option (List ℕ)) → option_map (λ others. front ++ others) (if_empty rest) ≡ total → IsSome total → Some front ≡ total
closed_empty front [] total h some = ap Some (sym (append-nil front)) ∙ h
closed_empty front (b ∷ rest) total h some = absurd (false≢true (ap is_some h ∙ some))

-- at the closing quote the text is whole
pub text_closes : (quote : ℕ) (front : List ℕ) (bytes : List ℕ) (at : ℕ) (total : Option (List ℕ)) → CharactersFrom quote front bytes at ≡ total → IsSome total → slice_index bytes at ≡ quote → Some front ≡ total
text_closes quote front bytes at total h some is =
    let within = more_within quote front bytes at total h some in
    closed_empty front (drop (at + 1) bytes) total
    (sym (at_drop_more (λ rest. option_map (λ others. front ++ others) (characters quote 0 rest)) bytes at 0 within
    ∙ ap (λ t. option_map (λ others. front ++ others) (cond t (if_empty (drop (at + 1) bytes)) (unclosed_at quote (slice_index bytes at) (drop (at + 1) bytes)))) (eq-eqb (slice_index bytes at) quote is)) ∙ h) some

-- what the characters from a byte on are, by the character there
abbrev by_character : ℕ → List ℕ → Option (ℕ × ℕ) → Option (List ℕ)
by_character quote bytes found = option_and_then (λ e. option_map (λ others. e.0 ∷ others) (characters quote 0 (drop e.1 bytes))) found

escaped_as_character : (quote b : ℕ) (bytes : List ℕ) (e : Option (ℕ × ℕ)) → option_and_then (λ e. option_map (λ others. e.0 ∷ others) (characters quote e.1 bytes)) e ≡ by_character quote (b ∷ bytes) (option_map (λ e. (e.0, e.1 + 1)) e)
escaped_as_character quote b bytes None = refl
escaped_as_character quote b bytes (Some e) =
    let next : e.1 + 1 ≡ suc e.1 = omega arith in
    ap (option_map (λ others. e.0 ∷ others)) (characters-drop quote e.1 bytes ∙ ap (λ k. characters quote 0 (drop k (b ∷ bytes))) (sym next))

as_character : (quote b : ℕ) (bytes : List ℕ) (slash : Bool) → cond slash (option_and_then (λ e. option_map (λ others. e.0 ∷ others) (characters quote e.1 bytes)) (escape bytes)) (option_map (λ others. b ∷ others) (characters quote 0 bytes)) ≡ by_character quote (b ∷ bytes) (cond slash (option_map (λ e. (e.0, e.1 + 1)) (escape bytes)) (Some (b, 1)))
as_character quote b bytes true = escaped_as_character quote b bytes (escape bytes)
as_character quote b bytes false = refl

not_ended : (ends : Bool) (x : Option (List ℕ)) → is_some (cond ends None x) ≡ true → cond ends None x ≡ x
not_ended true x h = absurd (false≢true h)
not_ended false x h = refl

characters-cons : (quote b : ℕ) (bytes : List ℕ) → nat_eq b quote ≡ false → is_some (characters quote 0 (b ∷ bytes)) ≡ true → characters quote 0 (b ∷ bytes) ≡ by_character quote (b ∷ bytes) (character (b ∷ bytes))
characters-cons quote b bytes unclosed some =
    let opened : characters quote 0 (b ∷ bytes) ≡ unclosed_at quote b bytes = ap (λ t. cond t (if_empty bytes) (unclosed_at quote b bytes)) unclosed in
    opened ∙ not_ended (is_line_end b) _ (ap is_some (sym opened) ∙ some) ∙ as_character quote b bytes (nat_eq b 92)

front_more : (front : List ℕ) (c : ℕ) (o : Option (List ℕ)) → option_map (λ others. front ++ others) (option_map (λ others. c ∷ others) o) ≡ option_map (λ others. (front ++ c ∷ []) ++ others) o
front_more front c None = refl
front_more front c (Some others) = ap Some (sym (append_assoc front (c ∷ []) others))

some_step : (quote : ℕ) (bytes : List ℕ) (found : Option (ℕ × ℕ)) → is_some (by_character quote bytes found) ≡ true → is_some found ≡ true
some_step quote bytes None h = h
some_step quote bytes (Some e) h = refl

-- Up to a place these are the characters: one more, where the closing quote does not stand there.
module _ (quote : ℕ) (front bytes : List ℕ) (at : ℕ) (total : Option (List ℕ)) (so_far : CharactersFrom quote front bytes at ≡ total) (some : IsSome total) (unclosed : nat_eq (slice_index bytes at) quote ≡ false) where
  abbrev b : ℕ
  b = slice_index bytes at

  abbrev rest : List ℕ
  rest = drop (at + 1) bytes

  here : drop at bytes ≡ b ∷ rest
  here = at_drop_more (λ l. l) bytes at 0 (more_within quote front bytes at total so_far some)

  here_some : is_some (characters quote 0 (b ∷ rest)) ≡ true
  here_some = ap (λ l. is_some (characters quote 0 l)) (sym here) ∙ unmapped (λ others. front ++ others) (characters quote 0 (drop at bytes)) (ap is_some so_far ∙ some)

  step_is : option_map (λ others. front ++ others) (by_character quote (drop at bytes) (character (drop at bytes))) ≡ total
  step_is = ap (λ l. option_map (λ others. front ++ others) (by_character quote l (character l))) here ∙ ap (option_map (λ others. front ++ others)) (sym (characters-cons quote b rest unclosed here_some)) ∙ ap (λ l. option_map (λ others. front ++ others) (characters quote 0 l)) (sym here) ∙ so_far

  pub character_stands : character (drop at bytes) ≡ None → ⊥
  character_stands none = false≢true (sym (ap (λ f. is_some (option_map (λ others. front ++ others) (by_character quote (drop at bytes) f))) none) ∙ ap is_some step_is ∙ some)

  pub character_more : (c len : ℕ) → character (drop at bytes) ≡ Some (c, len) → CharactersFrom quote (front ++ c ∷ []) bytes (at + len) ≡ total
  character_more c len is =
      let later : drop len (drop at bytes) ≡ drop (at + len) bytes = drop-drop len at bytes in
      ap (λ l. option_map (λ others. (front ++ c ∷ []) ++ others) (characters quote 0 l)) (sym later)
      ∙ sym (front_more front c (characters quote 0 (drop len (drop at bytes))))
      ∙ ap (λ f. option_map (λ others. front ++ others) (by_character quote (drop at bytes) f)) (sym is) ∙ step_is

-- a text begins with its quote
pub text_opens : (bytes : List ℕ) → IsSome (text_value bytes) → CharactersFrom (slice_index bytes 0) [] bytes 1 ≡ text_value bytes
text_opens [] some = absurd (false≢true some)
text_opens (quote ∷ bytes) some = opened (is_quote quote) (characters quote 0 bytes) some
  where
    opened : (t : Bool) (o : Option (List ℕ)) → is_some (cond t o None) ≡ true → option_map (λ others. [] ++ others) o ≡ cond t o None
    opened true None h = refl
    opened true (Some others) h = refl
    opened false o h = absurd (false≢true h)
