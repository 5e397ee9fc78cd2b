-- What the passes come to, one after another.
use Rattle.std.proofs.Common.{◌≡◌, List, [], ◌∷◌, ◌++◌, ℤ, pos, true, false, cond, Option, Some, None, refl, ap, ◌∙◌, arith}
use Rattle.std.specs.Prelude.{int_lt, int_le, is_some, ◌≤ℤ◌, ◌<ℤ◌}
use Rattle.std.specs.Option.{option_map}
use Rattle.std.proofs.lemmas.Int.{ints}
use Rattle.ntx_item.specs.declared.item.Item.{Item}
use Rattle.ntx_item.specs.Settings.{Settings}
use Rattle.ntx_breaks.specs.declared.pass.Pass.{Pass}
use Rattle.ntx_breaks.specs.declared.answer.Breaks.{Breaks}
use Rattle.ntx_breaks.specs.Passes.{first_pass, second_pass, third_pass, early_passes, last_passes, passes_of}
use Rattle.ntx_breaks.specs.Chosen.{Answer, breaks_seen, or_else, answer_of, first_answer}

pub not_below : (z : ℤ) → pos 0 ≤ℤ z → int_lt z (pos 0) ≡ false
not_below z h = grind (arith, ints)

pub above : (z : ℤ) → pos 0 <ℤ z → int_le z (pos 0) ≡ false
above z h = grind (arith, ints)

or_none : (o : Option Answer) → or_else o None ≡ o
or_none None = refl
or_none (Some answer) = refl

or_assoc : (a b d : Option Answer) → or_else a (or_else b d) ≡ or_else (or_else a b) d
or_assoc None b d = refl
or_assoc (Some answer) b d = refl

pub early_is : (params : Settings) (items : List Item) → int_lt params.pretolerance (pos 0) ≡ false → first_answer params items (early_passes params) ≡ answer_of params items (first_pass params)
early_is params items e = ap (λ b. first_answer params items (cond b [] (first_pass params ∷ []))) e ∙ or_none (answer_of params items (first_pass params))

pub last_is : (params : Settings) (items : List Item) → int_le params.emergencystretch (pos 0) ≡ false → first_answer params items (last_passes params) ≡ answer_of params items (third_pass params)
last_is params items e = ap (λ b. first_answer params items (cond b [] (third_pass params ∷ []))) e ∙ or_none (answer_of params items (third_pass params))

first_append : (params : Settings) (items : List Item) (some more : List Pass) → first_answer params items (some ++ more) ≡ or_else (first_answer params items some) (first_answer params items more)
first_append params items [] more = refl
first_append params items (pass ∷ some) more =
    ap (or_else (answer_of params items pass)) (first_append params items some more) ∙ or_assoc (answer_of params items pass) (first_answer params items some) (first_answer params items more)

-- the first, the second and the third pass in turn
pub all_passes : (params : Settings) (items : List Item) →
    first_answer params items (passes_of params) ≡ or_else (first_answer params items (early_passes params)) (or_else (answer_of params items (second_pass params)) (first_answer params items (last_passes params)))
all_passes params items = first_append params items (early_passes params) (second_pass params ∷ last_passes params)

pub pick_second : (o p : Option Breaks) (d : Option Answer) → is_some o ≡ false → is_some p ≡ true → or_else (option_map breaks_seen o) (or_else (option_map breaks_seen p) d) ≡ option_map breaks_seen p
pick_second (Some a) p d e f = cc
pick_second None (Some b) d e f = refl
pick_second None None d e f = cc

pub pick_last : (o p : Option Breaks) (d : Option Answer) → is_some o ≡ false → is_some p ≡ false → or_else (option_map breaks_seen o) (or_else (option_map breaks_seen p) d) ≡ d
pick_last (Some a) p d e f = cc
pick_last None (Some b) d e f = cc
pick_last None None d e f = refl
