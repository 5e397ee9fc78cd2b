-- What was read of the fonts: in what order, and what the definition of a run makes of their bytes.
use Rattle.std.proofs.Common.{◌≡◌, ℕ, ◌+◌, ℤ, List, [], ◌∷◌, map, Option, Some, Result, Ok, Err, is_ok, ◌⊎◌, inl, inr, refl, ap, sym, ◌∙◌}
use Rattle.std.specs.List.{AllByRecursion}
use Rattle.ntx_num.specs.Answer.{result_and_then, result_map}
use Rattle.ntx_io.specs.Outside.{Input, NamedInput}
use Rattle.ntx_tfm.specs.Font.{FontTables}
use Rattle.ntx_run.specs.declared.stop.StopReason.{StopReason}
use Rattle.ntx_run.specs.declared.stop.StopReason.TheVariants as stop
use Rattle.ntx_run.specs.declared.outcome.Which.{Which}
use Rattle.ntx_run.specs.declared.outcome.Which.TheVariants as which
use Rattle.ntx_run.specs.Run.{FontBytes, read_font, read_fonts}
use Rattle.ntx_run.specs.Outside.{NoneRose, IsAtEnd, fonts_in_turn, IsAccepted, AreReadInTurn, FailsAt}
use Rattle.ntx_run.specs.inner.Parts.{IsRefusalOf, IsRead, ReadsInput, ReadsFonts, NoFont, AtFont, FontRead}

-- An input that was read is accepted.
pub accepted : {A : Type 0} (reads : List ℕ → Result A StopReason) (value : A) (before after : Input) → IsRead reads value before after → IsAccepted (λ bytes. is_ok (reads bytes)) before after
accepted reads value before after read = record {
  kept = read.kept;
  whole = λ bytes e. (ap is_ok (read.gives bytes e).0, (read.gives bytes e).1);
}

abbrev pub font_names : List NamedInput → List (List ℕ)
font_names fonts = map (λ font. font.name) fonts

abbrev pub font_inputs : List NamedInput → List Input
font_inputs fonts = map (λ font. font.input) fonts

abbrev pub font_counts : List NamedInput → List ℕ
font_counts fonts = map (λ input. input.faults) (font_inputs fonts)

-- The feeds expose the fonts' bytes, under the fonts' names.
abbrev pub ExposesFonts : List NamedInput → List FontBytes → Type 0
ExposesFonts feeds fonts =
    map {B = List ℕ × Option (List ℕ)} (λ font. (font.name, font.input.left)) feeds ≡ map {B = List ℕ × Option (List ℕ)} (λ font. (font.name, Some font.bytes)) fonts

-- ---- names and order

two : (name name' : List ℕ) (names names' : List (List ℕ)) → name' ≡ name → names' ≡ names → ◌≡◌ {A = List (List ℕ)} (name' ∷ names') (name ∷ names)
two name name' names names' one other = cc

pub fonts_named : (k : ℕ) (sizes : List (Option ℤ)) (before after : List NamedInput) (result : Result (List FontTables) StopReason) → ReadsFonts k sizes before after result → font_names after ≡ font_names before
fonts_named _ _ _ _ _ (NoFont k) = refl
fonts_named _ _ _ _ _ (AtFont k size sizes before after others why reads) = two _ _ _ _ reads.name refl
fonts_named _ _ _ _ _ (FontRead k size sizes before after befores afters tables result reads rest) =
    two _ _ _ _ reads.name (fonts_named (k + 1) sizes befores afters result rest)

pub fonts_in_order : (k : ℕ) (sizes : List (Option ℤ)) (before after : List NamedInput) (result : Result (List FontTables) StopReason) → ReadsFonts k sizes before after result → AreReadInTurn (fonts_in_turn k sizes before) (fonts_in_turn k sizes after)
fonts_in_order _ _ _ _ _ (NoFont k) = tt
fonts_in_order _ _ _ _ _ (AtFont k size sizes before after others why reads) = inl refl
fonts_in_order _ _ _ _ _ (FontRead k size sizes before after befores afters tables result reads rest) =
    inr (accepted (read_font k size before.name) tables before.input after.input reads.reads, fonts_in_order (k + 1) sizes befores afters result rest)

-- ---- counts of faults

pub same_font_counts : (n n' : ℕ) (ns ns' : List ℕ) → n' ≡ n → ns' ≡ ns → ◌≡◌ {A = List ℕ} (n' ∷ ns') (n ∷ ns)
same_font_counts n n' ns ns' one other = cc

-- A font whose feed failed has a count that rose.
pub font_rose : (k : ℕ) (sizes : List (Option ℤ)) (before after : List NamedInput) (input : Which) → FailsAt input (fonts_in_turn k sizes before) (fonts_in_turn k sizes after) → NoneRose (font_counts before) (font_counts after) → ⊥
font_rose k [] before after input fails none = fails
font_rose k (size ∷ sizes) [] [] input fails none = fails
font_rose k (size ∷ sizes) [] (after ∷ afters) input fails none = fails
font_rose k (size ∷ sizes) (before ∷ befores) [] input fails none = fails
font_rose k (size ∷ sizes) (before ∷ befores) (after ∷ afters) input (inl at) none = none.0 at.1
font_rose k (size ∷ sizes) (before ∷ befores) (after ∷ afters) input (inr later) none =
    font_rose (k + 1) sizes befores afters input later.1 none.1

-- ---- what the definition makes of the bytes

record ExposesFirst (feed : NamedInput) (font : FontBytes) (feeds : List NamedInput) (fonts : List FontBytes) : Type 0 where
  name : feed.name ≡ font.name
  bytes : feed.input.left ≡ Some font.bytes
  others : ExposesFonts feeds fonts

exposes_first : (feed : NamedInput) (font : FontBytes) (feeds : List NamedInput) (fonts : List FontBytes) → ExposesFonts (feed ∷ feeds) (font ∷ fonts) → ExposesFirst feed font feeds fonts
exposes_first feed font feeds fonts exposes =
    let pair : ◌≡◌ {A = List ℕ × Option (List ℕ)} (feed.name, feed.input.left) (font.name, Some font.bytes) = cc in
    record { name = ap (λ p. p.0) pair; bytes = ap (λ p. p.1) pair; others = cc }

-- What one font more makes of the definition.
font_read : (k : ℕ) (size : Option ℤ) (sizes : List (Option ℤ)) (feed : NamedInput) (font : FontBytes) (fonts : List FontBytes) (result : Result FontTables StopReason) → feed.name ≡ font.name → read_font k size feed.name font.bytes ≡ result → read_fonts k (size ∷ sizes) (font ∷ fonts) ≡ result_and_then result (λ tables. result_map (λ others. tables ∷ others) (read_fonts (k + 1) sizes fonts))
font_read k size sizes feed font fonts result name is =
    ap (λ r. result_and_then r (λ tables. result_map (λ others. tables ∷ others) (read_fonts (k + 1) sizes fonts))) (ap (λ n. read_font k size n font.bytes) (sym name) ∙ is)

-- Reading stopped for this reason at one font: it is refused, as the definition says; its feed failed; or memory ran out.
pub record StopsAtFont (k : ℕ) (sizes : List (Option ℤ)) (before after : List NamedInput) (why : StopReason) : Type 0 where
  pub input : Which
  pub stops : (IsRefusalOf input why × (font_counts after ≡ font_counts before) × ((fonts : List FontBytes) → ExposesFonts before fonts → read_fonts k sizes fonts ≡ Err why)) ⊎ (((why ≡ stop.Read input) × FailsAt input (fonts_in_turn k sizes before) (fonts_in_turn k sizes after)) ⊎ ((why ≡ stop.Memory) × (font_counts after ≡ font_counts before)))

first_refused : (k : ℕ) (size : Option ℤ) (sizes : List (Option ℤ)) (feed : NamedInput) (feeds : List NamedInput) (why : StopReason) → ((bytes : List ℕ) → feed.input.left ≡ Some bytes → read_font k size feed.name bytes ≡ Err why) → (fonts : List FontBytes) → ExposesFonts (feed ∷ feeds) fonts → read_fonts k (size ∷ sizes) fonts ≡ Err why
first_refused k size sizes feed feeds why gives [] exposes = cc
first_refused k size sizes feed feeds why gives (font ∷ fonts) exposes =
    let first = exposes_first feed font feeds fonts exposes in
    font_read k size sizes feed font fonts (Err why) first.name (gives font.bytes first.bytes)

at_first : (k : ℕ) (size : Option ℤ) (sizes : List (Option ℤ)) (before after : NamedInput) (others : List NamedInput) (why : StopReason) → ReadsInput (which.Font k) (read_font k size before.name) before.input after.input (Err why) → StopsAtFont k (size ∷ sizes) (before ∷ others) (after ∷ others) why
at_first k size sizes before after others why reads = record {
  input = which.Font k;
  stops = elim reads [
    | inl refusal ↦ inl (refusal.0, same_font_counts _ _ _ _ refusal.1.kept refl, first_refused k size sizes before others why refusal.1.gives)
    | inr other ↦ elim other [
      | inl failure ↦ inr (inl (failure.0, inl (refl, failure.1, refl)))
      | inr memory ↦ inr (inr (memory.0, same_font_counts _ _ _ _ memory.1 refl))
    ]
  ];
}

later_refused : (k : ℕ) (size : Option ℤ) (sizes : List (Option ℤ)) (feed after : NamedInput) (feeds : List NamedInput) (tables : FontTables) (why : StopReason) → IsRead (read_font k size feed.name) tables feed.input after.input → ((fonts : List FontBytes) → ExposesFonts feeds fonts → read_fonts (k + 1) sizes fonts ≡ Err why) → (fonts : List FontBytes) → ExposesFonts (feed ∷ feeds) fonts → read_fonts k (size ∷ sizes) fonts ≡ Err why
later_refused k size sizes feed after feeds tables why read gives [] exposes = cc
later_refused k size sizes feed after feeds tables why read gives (font ∷ fonts) exposes =
    let first = exposes_first feed font feeds fonts exposes in
    font_read k size sizes feed font fonts (Ok tables) first.name (read.gives font.bytes first.bytes).0
    ∙ ap (λ r. result_map (λ others. tables ∷ others) r) (gives fonts first.others)

at_later : (k : ℕ) (size : Option ℤ) (sizes : List (Option ℤ)) (before after : NamedInput) (befores afters : List NamedInput) (tables : FontTables) (why : StopReason) → IsRead (read_font k size before.name) tables before.input after.input → StopsAtFont (k + 1) sizes befores afters why → StopsAtFont k (size ∷ sizes) (before ∷ befores) (after ∷ afters) why
at_later k size sizes before after befores afters tables why read at = record {
  input = at.input;
  stops = elim at.stops [
    | inl refusal ↦ inl (refusal.0, same_font_counts _ _ _ _ read.kept refusal.1, later_refused k size sizes before after befores tables why read refusal.2)
    | inr other ↦ elim other [
      | inl failure ↦ inr (inl (failure.0, inr (accepted (read_font k size before.name) tables before.input after.input read, failure.1)))
      | inr memory ↦ inr (inr (memory.0, same_font_counts _ _ _ _ read.kept memory.1))
    ]
  ];
}

error_of_map : (tables : FontTables) (result : Result (List FontTables) StopReason) (why : StopReason) → result_map (λ others. tables ∷ others) result ≡ Err why → result ≡ Err why
error_of_map tables (Ok others) why e = cc
error_of_map tables (Err other) why e = cc

pub stops_at_font : (k : ℕ) (sizes : List (Option ℤ)) (before after : List NamedInput) (result : Result (List FontTables) StopReason) (why : StopReason) → ReadsFonts k sizes before after result → result ≡ Err why → StopsAtFont k sizes before after why
stops_at_font _ _ _ _ _ why (NoFont k) e = cc
stops_at_font _ _ _ _ _ why (AtFont k size sizes before after others other reads) e =
    let same : other ≡ why = cc in
    at_first k size sizes before after others why (rw (sym same) reads.reads)
stops_at_font _ _ _ _ _ why (FontRead k size sizes before after befores afters tables result reads rest) e =
    at_later k size sizes before after befores afters tables why reads.reads (stops_at_font (k + 1) sizes befores afters result why rest (error_of_map tables result why e))

-- ---- all fonts

-- All fonts were read, to the ends.
pub record AreFontsRead (k : ℕ) (sizes : List (Option ℤ)) (before after : List NamedInput) (tables : List FontTables) : Type 0 where
  pub kept : font_counts after ≡ font_counts before
  pub gives : (fonts : List FontBytes) → ExposesFonts before fonts → (read_fonts k sizes fonts ≡ Ok tables) × AllByRecursion IsAtEnd (font_inputs after)

one_more : (k : ℕ) (size : Option ℤ) (sizes : List (Option ℤ)) (before after : NamedInput) (befores afters : List NamedInput) (first : FontTables) (others : List FontTables) → IsRead (read_font k size before.name) first before.input after.input → AreFontsRead (k + 1) sizes befores afters others → (fonts : List FontBytes) → ExposesFonts (before ∷ befores) fonts → (read_fonts k (size ∷ sizes) fonts ≡ Ok (first ∷ others)) × AllByRecursion IsAtEnd (font_inputs (after ∷ afters))
one_more k size sizes before after befores afters first others read rest [] exposes = cc
one_more k size sizes before after befores afters first others read rest (font ∷ fonts) exposes =
    let exposed = exposes_first before font befores fonts exposes in
    let here = read.gives font.bytes exposed.bytes in
    let there = rest.gives fonts exposed.others in (
      font_read k size sizes before font fonts (Ok first) exposed.name here.0 ∙ ap (λ r. result_map (λ others. first ∷ others) r) there.0,
      (here.1, there.1),
    )

parts_of_map : (first : FontTables) (result : Result (List FontTables) StopReason) (tables : List FontTables) → result_map (λ others. first ∷ others) result ≡ Ok tables → (others : List FontTables) × (result ≡ Ok others) × (tables ≡ first ∷ others)
parts_of_map first (Ok others) tables e = (others, refl, cc)
parts_of_map first (Err why) tables e = cc

pub fonts_read : (k : ℕ) (sizes : List (Option ℤ)) (before after : List NamedInput) (result : Result (List FontTables) StopReason) (tables : List FontTables) → ReadsFonts k sizes before after result → result ≡ Ok tables → AreFontsRead k sizes before after tables
fonts_read _ _ _ _ _ tables (NoFont k) e = record { kept = refl; gives = λ fonts exposes. (e, tt) }
fonts_read _ _ _ _ _ tables (AtFont k size sizes before after others why reads) e = cc
fonts_read _ _ _ _ _ tables (FontRead k size sizes before after befores afters first result reads rest) e =
    let parts = parts_of_map first result tables e in
    let others : AreFontsRead (k + 1) sizes befores afters parts.0 = fonts_read (k + 1) sizes befores afters result parts.0 rest parts.1 in
    rw parts.2 (record {
      kept = same_font_counts _ _ _ _ reads.reads.kept others.kept;
      gives = one_more k size sizes before after befores afters first parts.0 reads.reads others;
    })
