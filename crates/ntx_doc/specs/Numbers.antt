-- The numbers of a line: a field that writes no number is refused as Number, and then a number outside its range as Range.
use Rattle.std.specs.Prelude.{ℕ, List, ℤ, pos, neg_ℤ, unsigned_abs, Result, Ok}
use Rattle.ntx_num.specs.Answer.{result_map}
use Rattle.ntx_num.specs.Dimension.{max_order, max_penalty}
use Rattle.ntx_item.specs.Parameters.{Range, is_in, up_to, dimensions}
use Rattle.ntx_doc.specs.declared.fault.DocWhy.{DocWhy}
use Rattle.ntx_doc.specs.declared.fault.DocWhy.TheVariants as why
use Rattle.ntx_doc.specs.Refusal.{refused_unless, refused_without}
use Rattle.ntx_doc.specs.Text.{number_of}

-- the number in this range that a field writes
abbrev pub number_in : Range → List ℕ → Result ℤ DocWhy
number_in range field = refused_without why.Number (number_of field) (λ z. refused_unless why.Range (is_in range z) (Ok z))

-- the number from 0 to `most` that a field writes; `-0` is 0
abbrev pub natural_in : ℕ → List ℕ → Result ℕ DocWhy
natural_in most field = result_map unsigned_abs (number_in (record { low = pos 0; high = pos most }) field)

-- a length in scaled points, and the stretch or the shrink of glue
abbrev pub dimension_in : List ℕ → Result ℤ DocWhy
dimension_in field = number_in dimensions field

-- the order of a stretch or a shrink, from 0 to 3
abbrev pub order_in : List ℕ → Result ℕ DocWhy
order_in field = natural_in max_order field

-- the code of a character
abbrev pub code_in : List ℕ → Result ℕ DocWhy
code_in field = natural_in 255 field

-- the number of a font, before it is compared with the number of fonts
abbrev pub font_in : List ℕ → Result ℕ DocWhy
font_in field = natural_in 63 field

abbrev pub penalties : Range
penalties = up_to max_penalty

-- the numbers of attributes
abbrev pub attributes : Range
attributes = record { low = pos 0; high = pos 65535 }

-- The values of attributes. The one below them is LuaTeX's value of an attribute that is not set.
abbrev pub attribute_values : Range
attribute_values = record { low = neg_ℤ (pos 2147483646); high = pos 2147483647 }
