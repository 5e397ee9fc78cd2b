-- The place on a page after a piece.
use Rattle.std.proofs.Common.{◌≡◌, ℤ, List, [], ◌∷◌, ◌++◌, ap, sym, ◌∙◌}
use Rattle.std.specs.Prelude.{reverse}
use Rattle.std.proofs.lemmas.List.{reverse-append}
use Rattle.ntx_ship.specs.declared.place.Place.{Place}
use Rattle.ntx_ship.specs.Drawable.{IsStanding}
use Rattle.ntx_ship.specs.Operations.{IsOnPage, Pen, end_of, pen_back}

-- The place that was put last comes first.
pub last_begun : (places : List Place) (here : Place) → reverse (places ++ here ∷ []) ≡ here ∷ reverse places
last_begun places here = reverse-append places (here ∷ [])

pub back_to : (before places : List Place) (here : Place) → before ≡ places ++ here ∷ [] → ◌≡◌ {A = Pen} (record { here = here; begun = reverse places }) (pen_back (reverse before))
back_to before places here e = sym (ap (λ (ps : List Place). pen_back ps) (ap (λ (ps : List Place). reverse ps) e ∙ last_begun places here))

-- The end of a mark's width is on the page.
pub end_on_page : (h v width : ℤ) → IsStanding h v width → IsOnPage (end_of h v width)
end_on_page h v width stands = record { h = stands.end; v = stands.down }
