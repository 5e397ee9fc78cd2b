-- What the words of the command line and the feeds' names have to be for fonts to be read.
use Rattle.std.specs.Prelude.{◌≡◌, false, ℤ, ℕ, List, [], ◌∷◌, Option, Some, None, IsTrue}
use Rattle.std.specs.Option.{ForSome}
use Rattle.ntx_tfm.specs.Font.{IsSize}
use Rattle.ntx_run.specs.Run.{is_feed_name, fits_form, font_sizes}

-- There is one name for each size; each size that is given is from 1 to 2^26-1, and each name has 1 to 255 bytes from 33 to 126.
abbrev pub CanBeRead : List (Option ℤ) → List (List ℕ) → Type 0
CanBeRead [] [] = Unit {0}
CanBeRead (size ∷ sizes) (name ∷ names) = ForSome size IsSize × IsTrue (is_feed_name name) × CanBeRead sizes names
CanBeRead [] (name ∷ names) = ⊥
CanBeRead (size ∷ sizes) [] = ⊥

-- The words and names are accepted, and name fonts of these sizes.
pub record FitsWith (words names : List (List ℕ)) (sizes : List (Option ℤ)) : Type 0 where
  pub fits : IsTrue (fits_form words names)
  pub sizes_are : sizes ≡ font_sizes words
  pub can_be_read : CanBeRead sizes names

-- The words and names are refused, or they are accepted and name fonts of these sizes.
abbrev pub Fits : List (List ℕ) → List (List ℕ) → Option (List (Option ℤ)) → Type 0
Fits words names None = fits_form words names ≡ false
Fits words names (Some sizes) = FitsWith words names sizes
