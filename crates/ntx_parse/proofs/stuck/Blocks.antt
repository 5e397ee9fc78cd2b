-- Blocks: what an answer of theirs tells.
use Rattle.std.proofs.Common.{List, [], ◌∷◌, ◌++◌, refl}
use Rattle.ntx_syntax.specs.declared.tree.Stat.{Stat}
use Rattle.ntx_parse.specs.declared.place.Place.{Place}
use Rattle.ntx_syntax.specs.declared.terminal.Terminal.TheVariants as terminal
use Rattle.ntx_parse.specs.Words.{Word}
use Rattle.ntx_parse.specs.Grammar as grammar
use Rattle.ntx_parse.specs.Grammar.{IsSemicolon, no_semicolon, IsBlock, IsStats, no_stats, IsLast, no_return, IsReturned, returns_nothing}
use Rattle.ntx_parse.specs.inner.Reading.{Readers, begins_statement, stats_behind, semicolon_behind, ends_returned, returned_behind, last_behind, block_at}
use Rattle.ntx_parse.proofs.sound.Phrases.{IsBehind, behind_all}
use Rattle.ntx_parse.proofs.sound.Blocks.{stats_on, semicolon_read, return_read, block_read}
use Rattle.ntx_parse.proofs.stuck.Answers.{no_call, IsViable, viable_then}
use Rattle.ntx_parse.proofs.stuck.Words.{viable_read, viable_if, viable_as, viable_where}
use Rattle.ntx_parse.proofs.stuck.Phrases.{AreViable}
use Rattle.ntx_parse.proofs.stuck.Lists.{viable_read_exps}
use Rattle.ntx_parse.proofs.stuck.Statements.{viable_kind}
use Rattle.ntx_parse.proofs.stuck.FirstWords.{viable_stat}

viable_semicolon : (p : Place) (words : List Word) → IsViable no_call no_call (λ _ placed behind. IsSemicolon p placed behind) words (semicolon_behind p words)
viable_semicolon p words = viable_where no_call p terminal.Semicolon words refl refl
    (λ _ rest. viable_read (λ _ _ _ is. semicolon_read is))
    (λ _. viable_read (λ _ _. no_semicolon))

module _ (r : Readers) (v : AreViable r) where
  pub viable_stats : (p : Place) (before : List Stat) (words : List Word) → IsViable no_call no_call (IsBehind before (IsStats p)) words (stats_behind r p before words)
  viable_stats p before [] = viable_read (λ _ _. behind_all no_stats)
  viable_stats p before (o ∷ words) = viable_if (begins_statement o.is)
      (λ _. viable_then (viable_stat (viable_kind r v p o.is o words refl)) (λ kind rest.
      viable_as (v.stats p (before ++ record { line = o.line; kind = kind } ∷ []) rest) (λ _ _ _ h. λ start first. stats_on first h)))
      (λ _. viable_read (λ _ _. behind_all no_stats))

  viable_returned : (p : Place) (words : List Word) → IsViable no_call no_call (IsReturned p) words (returned_behind r p words)
  viable_returned p words = viable_if (ends_returned words)
      (λ _. viable_read (λ _ _. returns_nothing))
      (λ _. viable_as (viable_read_exps r v p words) (λ _ _ _ values. grammar.returns values))

  viable_last : (p : Place) (words : List Word) → IsViable no_call no_call (IsLast p) words (last_behind r p words)
  viable_last p words = viable_where no_call p terminal.Return words refl refl
      (λ _ second.
      viable_then (viable_returned p second) (λ values behind.
      viable_then (viable_semicolon p behind) (λ _ rest. viable_read (λ _ _ _ ends _ values _ is. return_read is values ends))))
      (λ _. viable_read (λ _ _. no_return))

  pub viable_block : (p : Place) (words : List Word) → IsViable no_call no_call (IsBlock p) words (block_at r p words)
  viable_block p words =
      viable_then (v.stats p [] words) (λ stats behind.
      viable_then (viable_last p behind) (λ last rest. viable_read (λ _ _ _ last _ stats. block_read stats last)))
