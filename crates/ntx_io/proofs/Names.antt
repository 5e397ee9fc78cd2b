-- Cutting the name of a font's file out of its path.
use Rattle.std.proofs.Common.{◌≡◌, ℕ, ◌-◌, List, ◌++◌, length, take, drop, inl, inr, refl, ap, sym, ◌∙◌, subst}
use Rattle.std.specs.Prelude.{◌≢◌, ◌==◌, All}
use Rattle.std.specs.Str.{NoCharPasses}
use Rattle.std.specs.Str.Pattern.{HasCharAt}
use Rattle.std.proofs.lemmas.List.{take-append-drop}
use Rattle.std.proofs.lemmas.List.Elements.{All-from_get_or}
use Rattle.std.proofs.lemmas.Str.Pattern.{NoCharPasses-char, drop_at_char}
use Rattle.std.proofs.Common.{lit<}
use Rattle.ntx_io.specs.Feed.{IsLastPart}

no_slash : (part : List ℕ) → NoCharPasses (λ d. d == 47) part → All (λ byte. byte ≢ 47) part
no_slash part none =
    All-from_get_or (λ byte. byte ≢ 47) part 0 (λ i within. NoCharPasses-char 47 part i none (lit< tt) within)

-- A path without a slash is its own last part.
pub whole_path : (path : List ℕ) → NoCharPasses (λ d. d == 47) path → IsLastPart path path
whole_path path none = record { no_slash = no_slash path none; whole = inl refl }

-- What follows the last slash is the last part.
pub after_slash : (path part : List ℕ) (i j : ℕ) → NoCharPasses (λ d. d == 47) (drop j path) → HasCharAt 47 path i j → part ≡ drop j path → IsLastPart path part
after_slash path part i j none at is = subst (IsLastPart path) (sym is) (record {
  no_slash = no_slash (drop j path) none;
  whole = inr (take i path, sym (take-append-drop i path) ∙ ap (λ r. take i path ++ r) (drop_at_char 47 path i j at (lit< tt)));
})

-- A text less its ending, and the ending.
pub stripped : (ending text stem : List ℕ) (k : ℕ) → text ≡ take (length text - k) text ++ ending → stem ≡ take (length text - k) text → text ≡ stem ++ ending
stripped ending text stem k parts is = parts ∙ ap (λ t. t ++ ending) (sym is)
