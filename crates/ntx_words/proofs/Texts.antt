-- Strings hold text.
use Rattle.std.proofs.Common.{ℕ, zero, suc, List, [], ◌∷◌, map, arith}
use Rattle.std.specs.Prelude.{string_bytes, String}
use Rattle.std.specs.Str.{IsUtf8}
use Rattle.std.specs.List.{All}
use Rattle.std.proofs.lemmas.Str.{IsUtf8-had}
use Rattle.std.proofs.Common.{Global}

string_text : (s : String Global) → IsUtf8 (string_bytes s)
string_text s = IsUtf8-had (string_bytes s) s.ok

joins : (x : List ℕ) (xs : List (List ℕ)) → IsUtf8 x → All IsUtf8 xs → All IsUtf8 (x ∷ xs)
joins x xs here there zero d lt = here
joins x xs here there (suc k) d lt = there k d (omega arith)

pub all_text : (words : List (String Global)) → All IsUtf8 (map string_bytes words)
all_text [] = λ k d lt. absurd (omega arith)
all_text (word ∷ words) = joins (string_bytes word) (map string_bytes words) (string_text word) (all_text words)
