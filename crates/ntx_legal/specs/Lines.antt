-- The numbers of a line between two places ("TeX: The Program", sections 823 to 827 and 837 to 853).
--     parts_of params items from to          what the line is made of: leftskip, what a discretionary at its start shows after the break, the items
--                                            that count, what a discretionary at its end shows before the break, and rightskip
--     line_of params items from to extra     how far it is from hsize, its badness and its class; `extra` is further finite stretch
use Rattle.std.specs.Prelude.{ℕ, ℤ, pos, ◌+ℤ◌, ◌-ℤ◌, Bool, true, not, ◌||◌, Option, Some, List, [], ◌∷◌, ◌++◌}
use Rattle.std.specs.Ordering.{int_eq}
use Rattle.ntx_item.specs.declared.item.Item.{Item}
use Rattle.ntx_item.specs.declared.item.Item.TheVariants.{Glue, Kern, Disc}
use Rattle.ntx_item.specs.Settings.{Settings}
use Rattle.ntx_legal.specs.Places.{item_at}
use Rattle.ntx_legal.specs.Kept.{kept_items}
use Rattle.ntx_legal.specs.LineSums.{sums_of}
use Rattle.ntx_legal.specs.Fit.{fitted}
use Rattle.ntx_legal.specs.declared.stretch.GlueStretch.{GlueStretch}
use Rattle.ntx_legal.specs.declared.sums.Sums.{Sums}
use Rattle.ntx_legal.specs.declared.fit.Line.{Line}

-- what a discretionary shows after a break, and before it, as a kern of that width
abbrev pub shown_after : Option Item → List Item
shown_after (Some (Disc pre post replace pre_empty post_empty regular)) = Kern post.w true ∷ []
shown_after _ = []

abbrev pub shown_before : Option Item → List Item
shown_before (Some (Disc pre post replace pre_empty post_empty regular)) = Kern pre.w true ∷ []
shown_before _ = []

abbrev pub parts_of : Settings → List Item → ℕ → ℕ → List Item
parts_of params items from to =
    Glue params.leftskip ∷ shown_after (item_at items from) ++ kept_items items from to ++ shown_before (item_at items to) ++ Glue params.rightskip ∷ []

-- whether the total stretch of some infinite order is not 0
abbrev pub is_infinite : GlueStretch → Bool
is_infinite stretch = not (int_eq stretch.fil (pos 0)) || not (int_eq stretch.fill (pos 0)) || not (int_eq stretch.filll (pos 0))

-- a line of this width whose parts come to these sums
abbrev pub fit_of : ℤ → Sums → ℤ → Line
fit_of hsize sums extra = fitted (hsize -ℤ sums.width) (is_infinite sums.stretch) (sums.stretch.normal +ℤ extra) sums.shrink

abbrev pub line_of : Settings → List Item → ℕ → ℕ → ℤ → Line
line_of params items from to extra = fit_of params.hsize (sums_of (parts_of params items from to)) extra
