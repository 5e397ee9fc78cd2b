-- A word at its last `@`.
use Rattle.std.proofs.Common.{◌≡◌, ◌∙◌, ℕ, ◌==◌, false, List, [], ◌∷◌, ◌++◌, None, Some, take, drop, refl, sym, ap, arith, lit<, suc}
use Rattle.std.specs.Prelude.{◌≢◌, All}
use Rattle.std.specs.Str.{NoCharPasses}
use Rattle.std.specs.Str.Pattern.{HasCharAt}
use Rattle.std.proofs.lemmas.Bool.Decides.{nat_tests}
use Rattle.std.proofs.lemmas.List.{take-append-drop}
use Rattle.std.proofs.lemmas.List.Elements.{All-from_get_or}
use Rattle.std.proofs.lemmas.Str.Pattern.{NoCharPasses-char, drop_at_char}
use Rattle.ntx_words.specs.Font.{halves_of, halves_by}

others_only : (word : List ℕ) → NoCharPasses (λ d. d == 64) word → All (λ byte. byte ≢ 64) word
others_only word none = All-from_get_or (λ byte. byte ≢ 64) word 0 (λ i within. NoCharPasses-char 64 word i none (lit< tt) within)

no_halves : (word : List ℕ) → All (λ byte. byte ≢ 64) word → halves_of word ≡ None
no_halves [] all = refl
no_halves (byte ∷ bytes) all =
    let other : byte ≢ 64 = all 0 byte (omega arith) in
    let not_it : (byte == 64) ≡ false = grind (arith, nat_tests) in
    let below : halves_of bytes ≡ None = no_halves bytes (λ k d lt. all (suc k) d (omega arith)) in
    rw (below, not_it) refl

-- a word without the sign
pub undivided : (word : List ℕ) → NoCharPasses (λ d. d == 64) word → halves_of word ≡ None
undivided word none = no_halves word (others_only word none)

joined_halves : (before after : List ℕ) → halves_of after ≡ None → halves_of (before ++ 64 ∷ after) ≡ Some (record { before = before; after = after })
joined_halves [] after none = rw none refl
joined_halves (byte ∷ bytes) after none = ap (halves_by byte (bytes ++ 64 ∷ after)) (joined_halves bytes after none)

-- a word with the sign, and none after it
pub divided : (word : List ℕ) (i j : ℕ) → NoCharPasses (λ d. d == 64) (drop j word) → HasCharAt 64 word i j
    → halves_of word ≡ Some (record { before = take i word; after = drop j word })
divided word i j none at =
    let whole : word ≡ take i word ++ 64 ∷ drop j word = sym (take-append-drop i word) ∙ ap (λ r. take i word ++ r) (drop_at_char 64 word i j at (lit< tt)) in
    ap halves_of whole ∙ joined_halves (take i word) (drop j word) (undivided (drop j word) none)
