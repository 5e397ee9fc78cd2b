-- Prefixes: what is read of them is spelled.
use Rattle.std.proofs.Common.{◌≡◌, ℕ, false, List, [], ◌∷◌, refl, sym, ap, ◌∙◌}
use Rattle.ntx_syntax.specs.declared.tree.Exp.{Exp}
use Rattle.ntx_parse.specs.declared.part.Part.{Part}
use Rattle.ntx_parse.specs.declared.part.Part.TheVariants as part
use Rattle.ntx_parse.specs.declared.place.Place.{Place}
use Rattle.ntx_parse.specs.declared.precedence.Precedence.TheVariants as precedence
use Rattle.ntx_syntax.specs.declared.terminal.Terminal.{Terminal}
use Rattle.ntx_syntax.specs.declared.terminal.Terminal.TheVariants as terminal
use Rattle.ntx_parse.specs.Words.{Word}
use Rattle.ntx_parse.specs.Grammar as grammar
use Rattle.ntx_parse.specs.Grammar.{Placed, Is, within, within_function, NotBefore, IsNames, IsParameters, no_parameters, IsBlock, IsBody, IsExp, IsExps, IsIndex, index, IsArguments, no_arguments, IsPrefix, name_prefix, index_prefix, field_prefix, call_prefix, IsField, keyed, named_field, positional, IsFields, no_fields, last_field, more_fields, IsSeparator}
use Rattle.ntx_parse.specs.inner.Reading.{Readers, begins, joined, read_index, read_arguments, suffixes_behind, read_parenthesized, read_prefix}
use Rattle.ntx_parse.proofs.TerminalLemmas.{begins-not}
use Rattle.ntx_parse.proofs.complete.Begins.{plain}
use Rattle.ntx_parse.proofs.sound.Answers.{IsSound, IsTaken, word_taken, sound_read, sound_as, sound_if, sound_then, sound_expected, sound_where}
use Rattle.ntx_parse.proofs.sound.Phrases.{IsName, name_read, IsPart, name_part, parenthesized_part, index_part, field_part, call_part, IsLonger, IsWhole, AreSound}
use Rattle.ntx_parse.proofs.sound.Lists.{sound_name, sound_read_exps}

pub not_before : (t : Terminal) (words : List Word) → begins t words ≡ false → (behind : List Placed) → plain behind ≡ words → NotBefore t behind
not_before t words h behind same o others is this =
    begins-not t o.word (plain others) (ap (λ placed. begins t (plain placed)) (sym is) ∙ ap (begins t) same ∙ h) this

-- ---- brackets

pub index_read : {p : Place} {o c : Word} {key : Exp} {words inner close rest : List Placed} → IsTaken p terminal.LeftBracket o words inner → IsExp p precedence.Or key inner close → IsTaken p terminal.RightBracket c close rest → IsIndex p key words rest
index_read (word_taken open_) key (word_taken closed) = index open_ key closed

pub none_read : {p : Place} {o c : Word} {words inner rest : List Placed} → IsTaken p terminal.LeftParenthesis o words inner → IsTaken p terminal.RightParenthesis c inner rest → IsArguments p [] words rest
none_read (word_taken open_) (word_taken closed) = no_arguments open_ closed

pub arguments_read : {p : Place} {o c : Word} {all : List Exp} {words inner close rest : List Placed} → IsTaken p terminal.LeftParenthesis o words inner → IsExps p all inner close → IsTaken p terminal.RightParenthesis c close rest → IsArguments p all words rest
arguments_read (word_taken open_) all (word_taken closed) = grammar.arguments open_ all closed

-- ( exp )
pub data IsParenthesized : Place → Exp → List Placed → List Placed → Type 0 where
  in_parentheses : {p : Place} {o c : Placed} {e : Exp} {words rest : List Placed}
      → Is p terminal.LeftParenthesis o → IsExp p precedence.Or e words (c ∷ rest) → Is p terminal.RightParenthesis c → IsParenthesized p e (o ∷ words) rest

pub parenthesized_read : {p : Place} {o c : Word} {e : Exp} {words inner close rest : List Placed} → IsTaken p terminal.LeftParenthesis o words inner → IsExp p precedence.Or e inner close → IsTaken p terminal.RightParenthesis c close rest → IsParenthesized p e words rest
parenthesized_read (word_taken open_) e (word_taken closed) = in_parentheses open_ e closed

-- ---- prefixes

pub joined_prefix : {p : Place} {found : Part} {words rest : List Placed} → IsPart p found words rest → IsPrefix p (joined found) words rest
joined_prefix (name_part is) = name_prefix is
joined_prefix (parenthesized_part open_ e closed) = grammar.parenthesized open_ e closed
joined_prefix (index_part prefix key) = index_prefix prefix key
joined_prefix (field_part prefix dot name) = field_prefix prefix dot name
joined_prefix (call_part prefix all) = call_prefix prefix all

pub longer_index : {p : Place} {before found : Part} {key : Exp} {words inner rest : List Placed} → IsIndex (within p) key words inner → IsLonger p (part.Index (joined before) key) found inner rest → IsLonger p before found words rest
longer_index key h = record { derives = λ start prefix. h.derives start (index_part (joined_prefix prefix) key); ends = h.ends }

pub longer_field : {p : Place} {o : Word} {before found : Part} {name : List ℕ} {words middle inner rest : List Placed} → IsTaken p terminal.Dot o words middle → IsName p name middle inner → IsLonger p (part.Field (joined before) name) found inner rest → IsLonger p before found words rest
longer_field (word_taken dot) (name_read name) h = record { derives = λ start prefix. h.derives start (field_part (joined_prefix prefix) dot name); ends = h.ends }

pub longer_call : {p : Place} {before found : Part} {all : List Exp} {words inner rest : List Placed} → IsArguments (within p) all words inner → IsLonger p (part.Call (joined before) all) found inner rest → IsLonger p before found words rest
longer_call all h = record { derives = λ start prefix. h.derives start (call_part (joined_prefix prefix) all); ends = h.ends }

pub whole_parenthesized : {p : Place} {found : Part} {e : Exp} {words inner rest : List Placed} → IsParenthesized (within p) e words inner → IsLonger p (part.Parenthesized e) found inner rest → IsWhole p found words rest
whole_parenthesized (in_parentheses open_ e closed) h = record { derives = h.derives _ (parenthesized_part open_ e closed); ends = h.ends }

pub whole_name : {p : Place} {found : Part} {name : List ℕ} {words inner rest : List Placed} → IsName p name words inner → IsLonger p (part.Name name) found inner rest → IsWhole p found words rest
whole_name (name_read is) h = record { derives = h.derives _ (name_part is); ends = h.ends }

module _ (r : Readers) (s : AreSound r) where
  pub sound_index : (p : Place) (words : List Word) → IsSound (IsIndex p) words (read_index r p words)
  sound_index p words =
      sound_then (sound_expected p terminal.LeftBracket words refl) (λ _ inside.
      sound_then (s.exp p precedence.Or inside) (λ key behind.
      sound_then (sound_expected p terminal.RightBracket behind refl) (λ _ rest.
      sound_read (λ _ _ _ closed _ key _ open_. index_read open_ key closed))))

  pub sound_arguments : (p : Place) (words : List Word) → IsSound (IsArguments p) words (read_arguments r p words)
  sound_arguments p words =
      sound_then (sound_expected p terminal.LeftParenthesis words refl) (λ _ inside.
      sound_where p terminal.RightParenthesis inside refl
      (λ _ rest. sound_read (λ _ _ _ closed _ open_. none_read open_ closed))
      (λ _. sound_then (sound_read_exps r s p inside) (λ all behind.
      sound_then (sound_expected p terminal.RightParenthesis behind refl) (λ _ rest.
      sound_read (λ _ _ _ closed _ all _ open_. arguments_read open_ all closed)))))

  pub sound_suffixes : (p : Place) (before : Part) (words : List Word) → IsSound (IsLonger p before) words (suffixes_behind r p before words)
  sound_suffixes p before words = sound_if (begins terminal.LeftBracket words)
      (λ _. sound_then (sound_index (within p) words) (λ key rest. sound_as (s.suffixes p (part.Index (joined before) key) rest) (λ _ _ _ h. λ _ key. longer_index key h)))
      (λ _. sound_where p terminal.Dot words refl
      (λ _ behind. sound_then (sound_name p behind) (λ name rest. sound_as (s.suffixes p (part.Field (joined before) name) rest) (λ _ _ _ h. λ _ name _ dot. longer_field dot name h)))
      (λ _. sound_if (begins terminal.LeftParenthesis words)
      (λ _. sound_then (sound_arguments (within p) words) (λ all rest. sound_as (s.suffixes p (part.Call (joined before) all) rest) (λ _ _ _ h. λ _ all. longer_call all h)))
      (λ none. sound_read (λ behind same. record { derives = λ start prefix. prefix; ends = not_before terminal.LeftParenthesis words none behind same }))))

  sound_parenthesized : (p : Place) (words : List Word) → IsSound (IsParenthesized p) words (read_parenthesized r p words)
  sound_parenthesized p words =
      sound_then (sound_expected p terminal.LeftParenthesis words refl) (λ _ inside.
      sound_then (s.exp p precedence.Or inside) (λ e behind.
      sound_then (sound_expected p terminal.RightParenthesis behind refl) (λ _ rest.
      sound_read (λ _ _ _ closed _ e _ open_. parenthesized_read open_ e closed))))

  pub sound_prefix : (p : Place) (words : List Word) → IsSound (IsWhole p) words (read_prefix r p words)
  sound_prefix p words = sound_if (begins terminal.LeftParenthesis words)
      (λ _. sound_then (sound_parenthesized (within p) words) (λ e rest. sound_as (s.suffixes p (part.Parenthesized e) rest) (λ _ _ _ h. λ _ e. whole_parenthesized e h)))
      (λ _. sound_then (sound_name p words) (λ name rest. sound_as (s.suffixes p (part.Name name) rest) (λ _ _ _ h. λ _ name. whole_name name h)))
