-- Two readings side by side: blocks.
use Rattle.std.proofs.Common.{◌≡◌, List, [], ◌∷◌, ◌++◌, refl}
use Rattle.ntx_syntax.specs.declared.tree.Stat.{Stat}
use Rattle.ntx_parse.specs.declared.place.Place.{Place}
use Rattle.ntx_syntax.specs.declared.terminal.Terminal.TheVariants as terminal
use Rattle.ntx_parse.specs.Words.{Word}
use Rattle.ntx_parse.specs.inner.Reading.{Readers, begins_statement, stats_behind, semicolon_behind, ends_returned, returned_behind, last_behind, block_at}
use Rattle.ntx_parse.proofs.viewed.Views.{View, Situation, At, Goes, goes_read, goes_if, goes_then, goes_where, goes_taken, Firsts, no_first, first, firsts}
use Rattle.ntx_parse.proofs.viewed.Lists.{Go, goes_read_exps}
use Rattle.ntx_parse.proofs.viewed.Statements.{goes_kind}

goes_semicolon : {V : View} (p : Place) {s : Situation} {words others : List Word} → At V s words others
    → Goes V s (semicolon_behind p words) (semicolon_behind p others)
goes_semicolon p h = goes_where terminal.Semicolon h (goes_then (goes_taken p h) (λ _ _ _ _ h. goes_read h)) (goes_read h)

ends_first : {V : View} {s : Situation} {words others : List Word} → Firsts V s words others → ends_returned words ≡ ends_returned others
ends_first no_first = refl
ends_first (first behind) = refl

module _ {V : View} {r other : Readers} (g : Go V r other) where
  stats_first : (p : Place) (before : List Stat) {s : Situation} {words others : List Word} → At V s words others → Firsts V s words others
      → Goes V s (stats_behind r p before words) (stats_behind other p before others)
  stats_first p before h no_first = goes_read h
  stats_first p before h (first {o} behind) =
      goes_if (begins_statement o.is) (begins_statement o.is) refl
      (goes_then (goes_kind g p o.is h) (λ kind _ _ _ h. g.stats p (before ++ record { line = o.line; kind = kind } ∷ []) h))
      (goes_read h)

  pub goes_stats : (p : Place) (before : List Stat) {s : Situation} {words others : List Word} → At V s words others
      → Goes V s (stats_behind r p before words) (stats_behind other p before others)
  goes_stats p before h = stats_first p before h (firsts h)

  goes_returned : (p : Place) {s : Situation} {words others : List Word} → At V s words others
      → Goes V s (returned_behind r p words) (returned_behind other p others)
  goes_returned p h = goes_if _ _ (ends_first (firsts h)) (goes_read h) (goes_read_exps g p h)

  goes_last : (p : Place) {s : Situation} {words others : List Word} → At V s words others → Goes V s (last_behind r p words) (last_behind other p others)
  goes_last p h =
      goes_where terminal.Return h
      (goes_then (goes_taken p h) (λ o _ _ _ h.
      goes_then (goes_returned p h) (λ values _ _ _ h.
      goes_then (goes_semicolon p h) (λ _ _ _ _ h. goes_read h))))
      (goes_read h)

  pub goes_block : (p : Place) {s : Situation} {words others : List Word} → At V s words others → Goes V s (block_at r p words) (block_at other p others)
  goes_block p h =
      goes_then (g.stats p [] h) (λ stats _ _ _ h.
      goes_then (goes_last p h) (λ last _ _ _ h. goes_read h))
