-- One font more: what reading the first of the fonts that are left makes of all of them.
use Rattle.std.proofs.Common.{◌≡◌, ℕ, ◌+◌, ◌-◌, true, false, ℤ, List, [], ◌∷◌, ◌++◌, map, Option, None, Result, Ok, Err, inr, refl, ap, sym, ◌∙◌, subst, arith, append_assoc, slice_index_or, slice_set}
use Rattle.std.specs.Prelude.{IsTrue, ◌==◌, length, OnOk}
use Rattle.std.specs.Option.{ForSome}
use Rattle.std.proofs.Math.Seq.{drop-length}
use Rattle.std.proofs.lemmas.Bool.{eqb-true}
use Rattle.std.proofs.lemmas.List.{append-nil, take_all}
use borrow.Rule.Slice.PartMut.{mid_of, put_mid}
use Rattle.ntx_num.specs.Answer.{result_map}
use Rattle.ntx_io.specs.Outside.{NamedInput}
use Rattle.ntx_tfm.specs.Font.{FontTables, IsSize}
use Rattle.ntx_run.specs.declared.stop.StopReason.{StopReason}
use Rattle.ntx_run.specs.declared.stop.StopReason.TheVariants as stop
use Rattle.ntx_run.specs.Run.{is_feed_name}
use Rattle.ntx_run.specs.inner.Words.{CanBeRead}
use Rattle.ntx_run.specs.inner.Parts.{ReadsFont, ReadsFonts, NoFont, AtFont, FontRead, AddsFonts}
use Rattle.ntx_run.proofs.FontReading.{font_names}

pub all_but_first : {X : Type 0} (x : X) (xs : List X) → mid_of 1 (length (x ∷ xs) - 1) (x ∷ xs) ≡ xs
all_but_first x xs =
    let count : length (x ∷ xs) - 1 ≡ length xs = omega arith in
    ap (λ n. mid_of 1 n (x ∷ xs)) count ∙ take_all (length xs) xs (omega arith)

module _ {X : Type 0} (seen : X → NamedInput) where
  -- Without feeds nothing is read.
  pub no_fonts : (k : ℕ) (sizes : List (Option ℤ)) (feeds : List X) (fonts : List FontTables) → CanBeRead sizes (font_names (map seen feeds)) → (length feeds == 0) ≡ true → AddsFonts k sizes (map seen feeds) (map seen feeds) fonts fonts (Ok tt)
  no_fonts k [] [] fonts can none = record { tables = []; added = sym (append-nil fonts); reads = NoFont k }
  no_fonts k [] (feed ∷ feeds) fonts can none = absurd can
  no_fonts k (size ∷ sizes) [] fonts can none = absurd can
  no_fonts k (size ∷ sizes) (feed ∷ feeds) fonts can none =
      let empty : length (feed ∷ feeds) ≡ 0 = eqb-true _ _ none in
      let no : ⊥ = omega arith in
      absurd no

  pub first_size : (sizes : List (Option ℤ)) (feeds : List X) → CanBeRead sizes (font_names (map seen feeds)) → (length feeds == 0) ≡ false → ForSome (slice_index_or sizes 0 None) IsSize
  first_size [] [] can some = cc
  first_size [] (feed ∷ feeds) can some = absurd can
  first_size (size ∷ sizes) [] can some = absurd can
  first_size (size ∷ sizes) (feed ∷ feeds) can some = can.0

  pub first_name : (sizes : List (Option ℤ)) (feeds : List X) (d : X) → CanBeRead sizes (font_names (map seen feeds)) → (length feeds == 0) ≡ false → IsTrue (is_feed_name (seen (slice_index_or feeds 0 d)).name)
  first_name [] [] d can some = cc
  first_name [] (feed ∷ feeds) d can some = absurd can
  first_name (size ∷ sizes) [] d can some = absurd can
  first_name (size ∷ sizes) (feed ∷ feeds) d can some = can.1

  -- The first font was not read.
  pub stops_at_first : (k : ℕ) (sizes : List (Option ℤ)) (feeds : List X) (d changed : X) (why : StopReason) (old new : List FontTables) → CanBeRead sizes (font_names (map seen feeds)) → (length feeds == 0) ≡ false → ReadsFont k (slice_index_or sizes 0 None) (seen (slice_index_or feeds 0 d)) (seen changed) (Err why) → AddsFonts k sizes (map seen feeds) (map seen (slice_set feeds 0 changed)) old new (Err why)
  stops_at_first k [] [] d changed why old new can some reads = cc
  stops_at_first k [] (feed ∷ feeds) d changed why old new can some reads = absurd can
  stops_at_first k (size ∷ sizes) [] d changed why old new can some reads = absurd can
  stops_at_first k (size ∷ sizes) (feed ∷ feeds) d changed why old new can some reads =
      record { tables = []; added = tt; reads = AtFont k size sizes (seen feed) (seen changed) (map seen feeds) why reads }

  -- There was no memory to keep the first font.
  pub no_memory_at_first : (k : ℕ) (sizes : List (Option ℤ)) (feeds : List X) (d changed : X) (first : FontTables) (old new : List FontTables) → CanBeRead sizes (font_names (map seen feeds)) → (length feeds == 0) ≡ false → ReadsFont k (slice_index_or sizes 0 None) (seen (slice_index_or feeds 0 d)) (seen changed) (Ok first) → AddsFonts k sizes (map seen feeds) (map seen (slice_set feeds 0 changed)) old new (Err stop.Memory)
  no_memory_at_first k sizes feeds d changed first old new can some reads =
      stops_at_first k sizes feeds d changed stop.Memory old new can some (record {
        name = reads.name;
        reads = inr (inr (refl, reads.reads.kept));
      })

  -- ---- the fonts after the first

  one_more : (first : FontTables) (tables old new : List FontTables) (result : Result (Unit {0}) StopReason) → OnOk result (new ≡ (old ++ first ∷ []) ++ tables) → OnOk result (new ≡ old ++ first ∷ tables)
  one_more first tables old new (Ok a) added = added ∙ append_assoc old (first ∷ []) tables
  one_more first tables old new (Err why) added = added

  same_result : (first : FontTables) (tables : List FontTables) (result : Result (Unit {0}) StopReason) → result_map (λ others. first ∷ others) (result_map (λ _. tables) result) ≡ result_map (λ _. first ∷ tables) result
  same_result first tables (Ok a) = refl
  same_result first tables (Err why) = refl

  put_after : (changed : X) (others new : List X) → put_mid 1 (length (changed ∷ others) - 1) (changed ∷ others) new ≡ changed ∷ new
  put_after changed others new =
      let count : length (changed ∷ others) - 1 ≡ length others = omega arith in
      ap (λ n. put_mid 1 n (changed ∷ others) new) count
      ∙ ap (λ rest. changed ∷ (new ++ rest)) (drop-length others)
      ∙ ap (λ rest. changed ∷ rest) (append-nil new)

  pub goes_on : (k : ℕ) (sizes : List (Option ℤ)) (feeds : List X) (d changed : X) (first : FontTables) (others : List X) (old new : List FontTables) (result : Result (Unit {0}) StopReason) → CanBeRead sizes (font_names (map seen feeds)) → (length feeds == 0) ≡ false → ReadsFont k (slice_index_or sizes 0 None) (seen (slice_index_or feeds 0 d)) (seen changed) (Ok first) → AddsFonts (k + 1) (mid_of 1 (length sizes - 1) sizes) (map seen (mid_of 1 (length (slice_set feeds 0 changed) - 1) (slice_set feeds 0 changed))) (map seen others) (old ++ first ∷ []) new result → AddsFonts k sizes (map seen feeds) (map seen (put_mid 1 (length (slice_set feeds 0 changed) - 1) (slice_set feeds 0 changed) others)) old new result
  goes_on k [] [] d changed first others old new result can some reads rest = cc
  goes_on k [] (feed ∷ feeds) d changed first others old new result can some reads rest = absurd can
  goes_on k (size ∷ sizes) [] d changed first others old new result can some reads rest = absurd can
  goes_on k (size ∷ sizes) (feed ∷ feeds) d changed first others old new result can some reads left =
      let rest : AddsFonts (k + 1) sizes (map seen feeds) (map seen others) (old ++ first ∷ []) new result = subst (λ xs. AddsFonts (k + 1) xs (map seen feeds) (map seen others) (old ++ first ∷ []) new result) (all_but_first size sizes) (subst (λ xs. AddsFonts (k + 1) (mid_of 1 (length (size ∷ sizes) - 1) (size ∷ sizes)) (map seen xs) (map seen others) (old ++ first ∷ []) new result) (all_but_first changed feeds) left) in
      let all : ReadsFonts k (size ∷ sizes) (seen feed ∷ map seen feeds) (seen changed ∷ map seen others) (result_map (λ fonts. first ∷ fonts) (result_map (λ _. rest.tables) result)) = FontRead k size sizes (seen feed) (seen changed) (map seen feeds) (map seen others) first _ reads rest.reads in
      record {
        tables = first ∷ rest.tables;
        added = one_more first rest.tables old new result rest.added;
        reads = subst (λ after. ReadsFonts k (size ∷ sizes) (seen feed ∷ map seen feeds) (map seen after) (result_map (λ _. first ∷ rest.tables) result)) (sym (put_after changed feeds others)) (subst (ReadsFonts k (size ∷ sizes) (seen feed ∷ map seen feeds) (seen changed ∷ map seen others)) (same_result first rest.tables result) all);
      }
