-- Tests and tables over the numbers below a bound.
use Rattle.std.specs.Prelude.{ℕ, zero, suc, Bool, true, ◌&&◌, List, [], ◌∷◌, ◌++◌}

-- each k below n passes
unfoldable pub each : ℕ → (ℕ → Bool) → Bool
each zero test = true
each (suc n) test = each n test && test n

-- the list of f 0, f 1 and so on, of length n
unfoldable pub table : {A : Type 0} → (ℕ → A) → ℕ → List A
table f zero = []
table f (suc n) = table f n ++ f n ∷ []
