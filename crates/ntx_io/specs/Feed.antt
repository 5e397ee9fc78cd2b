-- Feeds over memory, as contracts see them, and the names of feeds over files.
use Rattle.std.specs.Prelude.{◌≡◌, ◌≢◌, ◌⊎◌, ℕ, List, ◌∷◌, ◌++◌, All, codes}
use Rattle.ntx_io.specs.Memory.{SourceState}

-- a feed over memory: the bytes of its name, and its source
pub record FeedState : Type 0 where
  pub name : List ℕ
  pub source : SourceState

-- The last part of a path: it has no slash, and is the whole path or follows a slash.
pub record IsLastPart (path part : List ℕ) : Type 0 where
  pub no_slash : All (λ byte. byte ≢ 47) part
  pub whole : (part ≡ path) ⊎ ((front : List ℕ) × (path ≡ front ++ 47 ∷ part))

-- The file's name without an ending ".tfm", if it has one.
abbrev pub IsWithoutTfm : List ℕ → List ℕ → Type 0
IsWithoutTfm file name =
    (file ≡ name ++ codes ".tfm") ⊎ ((name ≡ file) × ((rest : List ℕ) → file ≢ rest ++ codes ".tfm"))

-- The name of the font whose file has this path.
pub record IsFontName (path name : List ℕ) : Type 0 where
  pub file : List ℕ
  pub is_last : IsLastPart path file
  pub stem : IsWithoutTfm file name
