-- Prefixes: what an answer of theirs tells.
use Rattle.std.proofs.Common.{List, [], refl}
use Rattle.ntx_parse.specs.declared.part.Part.{Part}
use Rattle.ntx_parse.specs.declared.part.Part.TheVariants as part
use Rattle.ntx_parse.specs.declared.place.Place.{Place}
use Rattle.ntx_parse.specs.declared.precedence.Precedence.TheVariants as precedence
use Rattle.ntx_syntax.specs.declared.terminal.Terminal.TheVariants as terminal
use Rattle.ntx_parse.specs.Words.{Word}
use Rattle.ntx_parse.specs.Grammar.{Placed, within, NotBefore, IsIndex, IsArguments}
use Rattle.ntx_parse.specs.inner.Reading.{Readers, and_then, begins, joined, read_name, read_index, read_arguments, suffixes_behind, read_parenthesized, read_prefix}
use Rattle.ntx_parse.proofs.complete.Begins.{plain}
use Rattle.ntx_parse.proofs.sound.Phrases.{IsLonger, IsWhole}
use Rattle.ntx_parse.proofs.sound.Prefixes.{not_before, index_read, none_read, arguments_read, IsParenthesized, parenthesized_read, longer_index, longer_field, longer_call, whole_parenthesized, whole_name}
use Rattle.ntx_parse.proofs.stuck.Answers.{any_words, no_call, MayFollow, IsViable, viable_then}
use Rattle.ntx_parse.proofs.stuck.Words.{viable_read, viable_if, viable_parenthesis, viable_as, viable_expected, viable_open, viable_where}
use Rattle.ntx_parse.proofs.stuck.Phrases.{AreViable}
use Rattle.ntx_parse.proofs.stuck.Lists.{viable_name, viable_read_exps}

pub no_parenthesis : (behind : List Placed) → MayFollow no_call (plain behind) → NotBefore terminal.LeftParenthesis behind
no_parenthesis behind h = not_before terminal.LeftParenthesis (plain behind) h behind refl

longer_none : (p : Place) (before : Part) (behind : List Placed) → MayFollow no_call (plain behind) → IsLonger p before before behind behind
longer_none p before behind h = record { derives = λ start prefix. prefix; ends = no_parenthesis behind h }

module _ (r : Readers) (v : AreViable r) where
  pub viable_index : (p : Place) (words : List Word) → IsViable no_call no_call (IsIndex p) words (read_index r p words)
  viable_index p words =
      viable_then (viable_expected no_call p terminal.LeftBracket words refl refl) (λ _ inside.
      viable_then (v.exp p precedence.Or inside) (λ key behind.
      viable_then (viable_expected no_call p terminal.RightBracket behind refl refl) (λ _ rest.
      viable_read (λ _ _ _ closed _ key _ open_. index_read open_ key closed))))

  viable_arguments : (p : Place) (words : List Word) → IsViable any_words no_call (IsArguments p) words (read_arguments r p words)
  viable_arguments p words =
      viable_then (viable_open no_call p words) (λ _ inside.
      viable_where no_call p terminal.RightParenthesis inside refl refl
      (λ _ rest. viable_read (λ _ _ _ closed _ open_. none_read open_ closed))
      (λ _. viable_then (viable_read_exps r v p inside) (λ all behind.
      viable_then (viable_expected no_call p terminal.RightParenthesis behind refl refl) (λ _ rest.
      viable_read (λ _ _ _ closed _ all _ open_. arguments_read open_ all closed)))))

  pub viable_suffixes : (p : Place) (before : Part) (words : List Word) → IsViable no_call no_call (IsLonger p before) words (suffixes_behind r p before words)
  viable_suffixes p before words = viable_if (begins terminal.LeftBracket words)
      (λ _. viable_then (viable_index (within p) words) (λ key rest. viable_as (v.suffixes p (part.Index (joined before) key) rest) (λ _ _ _ h. λ _ key. longer_index key h)))
      (λ _. viable_where no_call p terminal.Dot words refl refl
      (λ _ behind. viable_then (viable_name no_call p behind) (λ name rest. viable_as (v.suffixes p (part.Field (joined before) name) rest) (λ _ _ _ h. λ _ name _ dot. longer_field dot name h)))
      (λ _. viable_if (begins terminal.LeftParenthesis words)
      (λ is. viable_parenthesis (record { others = []; tree = before; derives = longer_none p before; begins = λ behind h. h }) is
      (viable_then (viable_arguments (within p) words) (λ all rest. viable_as (v.suffixes p (part.Call (joined before) all) rest) (λ _ _ _ h. λ _ all. longer_call all h))))
      (λ none. viable_read (λ behind h. longer_none p before behind (h none)))))

  viable_parenthesized : (p : Place) (words : List Word) → IsViable any_words no_call (IsParenthesized p) words (read_parenthesized r p words)
  viable_parenthesized p words =
      viable_then (viable_open no_call p words) (λ _ inside.
      viable_then (v.exp p precedence.Or inside) (λ e behind.
      viable_then (viable_expected no_call p terminal.RightParenthesis behind refl refl) (λ _ rest.
      viable_read (λ _ _ _ closed _ e _ open_. parenthesized_read open_ e closed))))

  viable_named : (p : Place) (words : List Word) → IsViable no_call no_call (IsWhole p) words (and_then (read_name p words) (λ name rest. r.suffixes p (part.Name name) rest))
  viable_named p words = viable_then (viable_name no_call p words) (λ name rest. viable_as (v.suffixes p (part.Name name) rest) (λ _ _ _ h. λ _ name. whole_name name h))

  pub viable_prefix : (p : Place) (words : List Word) → IsViable no_call no_call (IsWhole p) words (read_prefix r p words)
  viable_prefix p words = viable_if (begins terminal.LeftParenthesis words)
      (λ is. viable_parenthesis (viable_named p []).whole is
      (viable_then (viable_parenthesized (within p) words) (λ e rest. viable_as (v.suffixes p (part.Parenthesized e) rest) (λ _ _ _ h. λ _ e. whole_parenthesized e h))))
      (λ _. viable_named p words)
