-- Blocks: what is read of them is spelled.
use Rattle.std.proofs.Common.{◌≡◌, List, [], ◌∷◌, ◌++◌, Option, Some, refl, subst}
use Rattle.ntx_syntax.specs.declared.tree.Block.{roll-Block}
use Rattle.ntx_syntax.specs.declared.tree.Return.{Return}
use Rattle.ntx_syntax.specs.declared.tree.Stat.{Stat}
use Rattle.ntx_syntax.specs.declared.tree.StatKind.{StatKind}
use Rattle.ntx_syntax.specs.declared.tree.Exp.{Exp}
use Rattle.ntx_parse.specs.declared.place.Place.{Place}
use Rattle.ntx_syntax.specs.declared.terminal.Terminal.TheVariants as terminal
use Rattle.ntx_parse.specs.Words.{Word}
use Rattle.ntx_parse.specs.Grammar as grammar
use Rattle.ntx_parse.specs.Grammar.{Placed, Is, IsSemicolon, no_semicolon, IsBlock, IsStats, no_stats, more_stats, IsLast, no_return, IsReturned, returns_nothing, IsStat, statement, IsKind}
use Rattle.ntx_parse.specs.inner.Reading.{Readers, begins_statement, stats_behind, semicolon_behind, ends_returned, returned_behind, last_behind, block_at}
use Rattle.ntx_parse.proofs.complete.Begins.{plain}
use Rattle.ntx_parse.proofs.sound.Answers.{IsSound, IsTaken, word_taken, sound_read, sound_as, sound_if, sound_then, sound_spelled, sound_where}
use Rattle.ntx_parse.proofs.sound.Phrases.{IsBehind, behind_all, behind_one, behind_none, AreSound}
use Rattle.ntx_parse.proofs.sound.Lists.{sound_read_exps}
use Rattle.ntx_parse.proofs.sound.Statements.{sound_kind}

-- ---- statements

pub none_are : {X : Type 0} (o : Word) (words : List Word) → [] ≡ o ∷ words → X
none_are o words e = absurd cc

pub first_is : (o other : Word) (words others : List Word) → o ∷ words ≡ other ∷ others → o ≡ other
first_is o other words others e = cc

-- a statement of this kind, whose first word this is
pub stat_read : {p : Place} (o : Word) (words : List Word) {kind : StatKind} (placed : List Placed) {rest : List Placed} → plain placed ≡ o ∷ words → IsKind p kind placed rest → IsStat p (record { line = o.line; kind = kind }) placed rest
stat_read o words [] same h = none_are o words same
stat_read {p} o words {kind} (first ∷ placed) {rest} same h = subst (λ w. IsStat p (record { line = w.line; kind = kind }) (first ∷ placed) rest) (first_is first.word o (plain placed) words same) (statement h)

pub stats_on : {p : Place} {first : Stat} {before all : List Stat} {words inner rest : List Placed} → IsStat p first words inner → IsBehind (before ++ first ∷ []) (IsStats p) all inner rest → IsBehind before (IsStats p) all words rest
stats_on first h = behind_one _ h (λ others stats. more_stats first stats)

-- ---- return

pub semicolon_read : {p : Place} {o : Word} {words rest : List Placed} → IsTaken p terminal.Semicolon o words rest → IsSemicolon p words rest
semicolon_read (word_taken is) = grammar.semicolon is

pub return_read : {p : Place} {o : Word} {values : List Exp} {words second behind rest : List Placed} → IsTaken p terminal.Return o words second → IsReturned p values second behind → IsSemicolon p behind rest → IsLast p (Some (record { line = o.line; values = values })) words rest
return_read (word_taken is) values ends = grammar.last_return is values ends

pub block_read : {p : Place} {stats : List Stat} {last : Option Return} {words behind rest : List Placed} → IsBehind [] (IsStats p) stats words behind → IsLast p last behind rest → IsBlock p (roll-Block (record { stats = stats; last = last })) words rest
block_read stats last = grammar.block (behind_none stats) last

sound_semicolon : (p : Place) (words : List Word) → IsSound (λ _ placed behind. IsSemicolon p placed behind) words (semicolon_behind p words)
sound_semicolon p words = sound_where p terminal.Semicolon words refl
    (λ _ rest. sound_read (λ _ _ _ is. semicolon_read is))
    (λ _. sound_read (λ _ _. no_semicolon))

module _ (r : Readers) (s : AreSound r) where
  pub sound_stats : (p : Place) (before : List Stat) (words : List Word) → IsSound (IsBehind before (IsStats p)) words (stats_behind r p before words)
  sound_stats p before [] = sound_read (λ _ _. behind_all no_stats)
  sound_stats p before (o ∷ words) = sound_if (begins_statement o.is)
      (λ _. sound_then (sound_spelled (sound_kind r s p o.is o words refl)) (λ kind rest.
      sound_as (s.stats p (before ++ record { line = o.line; kind = kind } ∷ []) rest) (λ _ _ _ h. λ start kind. stats_on (stat_read o words start kind.0 kind.1) h)))
      (λ _. sound_read (λ _ _. behind_all no_stats))

  sound_returned : (p : Place) (words : List Word) → IsSound (IsReturned p) words (returned_behind r p words)
  sound_returned p words = sound_if (ends_returned words)
      (λ _. sound_read (λ _ _. returns_nothing))
      (λ _. sound_as (sound_read_exps r s p words) (λ _ _ _ values. grammar.returns values))

  sound_last : (p : Place) (words : List Word) → IsSound (IsLast p) words (last_behind r p words)
  sound_last p words = sound_where p terminal.Return words refl
      (λ _ second.
      sound_then (sound_returned p second) (λ values behind.
      sound_then (sound_semicolon p behind) (λ _ rest. sound_read (λ _ _ _ ends _ values _ is. return_read is values ends))))
      (λ _. sound_read (λ _ _. no_return))

  pub sound_block : (p : Place) (words : List Word) → IsSound (IsBlock p) words (block_at r p words)
  sound_block p words =
      sound_then (s.stats p [] words) (λ stats behind.
      sound_then (sound_last p behind) (λ last rest. sound_read (λ _ _ _ last _ stats. block_read stats last)))
