-- The names in scope, as they are kept.
use Rattle.std.proofs.Common.{◌≡◌, ◌<◌, ℕ, List, length, slice_get, get_or, Some, ◌∙◌, ap, refl}
use Rattle.std.proofs.lemmas.Option.{slice_get_read}

-- what stands at a place
pub seen_at : {X : Type 0} (xs ys : List X) (k : ℕ) (x : X) → xs ≡ ys → k < length ys → x ≡ get_or xs k x → slice_get ys k ≡ Some x
seen_at xs ys k x seen within is = slice_get_read ys (length ys) k x refl within (is ∙ ap (λ z. get_or z k x) seen)
