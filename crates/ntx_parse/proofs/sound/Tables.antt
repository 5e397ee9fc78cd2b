-- Bodies of functions and tables: what is read of them is spelled.
use Rattle.std.proofs.Common.{◌≡◌, ℕ, Bool, true, false, ◌||◌, cond, List, [], ◌∷◌, ◌++◌, refl}
use Rattle.ntx_syntax.specs.declared.tree.FunctionBody.{roll-FunctionBody}
use Rattle.ntx_syntax.specs.declared.tree.LocalName.{LocalName}
use Rattle.ntx_syntax.specs.declared.tree.Block.{Block}
use Rattle.ntx_syntax.specs.declared.tree.Exp.{Exp}
use Rattle.ntx_syntax.specs.declared.tree.Field.{Field}
use Rattle.ntx_syntax.specs.declared.tree.Field.TheVariants as field
use Rattle.ntx_parse.specs.declared.place.Place.{Place}
use Rattle.ntx_parse.specs.declared.precedence.Precedence.TheVariants as precedence
use Rattle.ntx_syntax.specs.declared.terminal.Terminal.TheVariants as terminal
use Rattle.ntx_parse.specs.Words.{Word}
use Rattle.ntx_parse.specs.Grammar as grammar
use Rattle.ntx_parse.specs.Grammar.{Placed, Is, within, within_function, IsNames, IsParameters, no_parameters, IsBlock, IsBody, IsExp, IsIndex, IsField, keyed, named_field, positional, IsFields, no_fields, last_field, more_fields, IsSeparator, comma, semicolon_separator}
use Rattle.ntx_parse.specs.inner.Reading.{Readers, Answer, begins, names_a_field, read_parameters, read_body, read_field, fields_behind, read_table}
use Rattle.ntx_parse.proofs.sound.Answers.{Phrase, IsSound, IsTaken, word_taken, sound_read, sound_as, sound_if, sound_then, sound_taken, sound_expected, sound_where}
use Rattle.ntx_parse.proofs.sound.Phrases.{IsName, name_read, IsBehind, behind_all, behind_one, behind_none, AreSound}
use Rattle.ntx_parse.proofs.sound.Lists.{sound_name, sound_read_names}
use Rattle.ntx_parse.proofs.sound.Prefixes.{sound_index}

-- ---- functions

-- ( [namelist] )
pub data IsParenthesized : Place → List LocalName → List Placed → List Placed → Type 0 where
  in_parentheses : {p : Place} {o c : Placed} {names : List LocalName} {words rest : List Placed}
      → Is p terminal.LeftParenthesis o → IsParameters p names words (c ∷ rest) → Is p terminal.RightParenthesis c → IsParenthesized p names (o ∷ words) rest

pub none_read : {p : Place} {o c : Word} {words inner rest : List Placed} → IsTaken p terminal.LeftParenthesis o words inner → IsTaken p terminal.RightParenthesis c inner rest → IsParenthesized p [] words rest
none_read (word_taken open_) (word_taken closed) = in_parentheses open_ no_parameters closed

pub names_read : {p : Place} {o c : Word} {names : List LocalName} {words inner close rest : List Placed} → IsTaken p terminal.LeftParenthesis o words inner → IsNames p names inner close → IsTaken p terminal.RightParenthesis c close rest → IsParenthesized p names words rest
names_read (word_taken open_) names (word_taken closed) = in_parentheses open_ (grammar.parameters names) closed

pub body_read : {p : Place} {e : Word} {names : List LocalName} {block : Block} {words inner ended rest : List Placed} → IsParenthesized (within p) names words inner → IsBlock (within_function p) block inner ended → IsTaken p terminal.End e ended rest → IsBody p (roll-FunctionBody (record { parameters = names; block = block })) words rest
body_read (in_parentheses open_ names closed) inside (word_taken ended) = grammar.body open_ names closed inside ended

-- ---- tables

pub keyed_read : {p : Place} {a : Word} {key value : Exp} {words behind inner rest : List Placed} → IsIndex (within p) key words behind → IsTaken p terminal.Assign a behind inner → IsExp p precedence.Or value inner rest → IsField p (field.Keyed key value) words rest
keyed_read key (word_taken assigned) value = keyed key assigned value

pub named_read : {p : Place} {a : Word} {name : List ℕ} {value : Exp} {words behind inner rest : List Placed} → IsName p name words behind → IsTaken p terminal.Assign a behind inner → IsExp p precedence.Or value inner rest → IsField p (field.Named name value) words rest
named_read (name_read is) (word_taken assigned) value = named_field is assigned value

pub fields_on_comma : {p : Place} {o : Word} {f : Field} {before all : List Field} {words behind inner rest : List Placed} → IsField p f words behind → IsTaken p terminal.Comma o behind inner → IsBehind (before ++ f ∷ []) (IsFields p) all inner rest → IsBehind before (IsFields p) all words rest
fields_on_comma f (word_taken is) h = behind_one _ h (λ _ others. more_fields f (comma is) others)

pub fields_on_semicolon : {p : Place} {o : Word} {f : Field} {before all : List Field} {words behind inner rest : List Placed} → IsField p f words behind → IsTaken p terminal.Semicolon o behind inner → IsBehind (before ++ f ∷ []) (IsFields p) all inner rest → IsBehind before (IsFields p) all words rest
fields_on_semicolon f (word_taken is) h = behind_one _ h (λ _ others. more_fields f (semicolon_separator is) others)

pub fields_ended : {p : Place} {f : Field} {before : List Field} {words rest : List Placed} → IsField p f words rest → IsBehind before (IsFields p) (before ++ f ∷ []) words rest
fields_ended {f = f} h = record { others = f ∷ []; all_are = refl; derives = last_field h }

-- { fields }
pub data IsBraced : Place → List Field → List Placed → List Placed → Type 0 where
  in_braces : {p : Place} {o c : Placed} {fields : List Field} {words rest : List Placed}
      → Is p terminal.LeftBrace o → IsFields p fields words (c ∷ rest) → Is p terminal.RightBrace c → IsBraced p fields (o ∷ words) rest

pub table_read : {p : Place} {o c : Word} {fields : List Field} {words inner close rest : List Placed} → IsTaken p terminal.LeftBrace o words inner → IsBehind [] (IsFields p) fields inner close → IsTaken p terminal.RightBrace c close rest → IsBraced p fields words rest
table_read (word_taken open_) fields (word_taken closed) = in_braces open_ (behind_none fields) closed

-- where one of two words is at the beginning
sound_either : {A : Type 0} {D : Phrase A} {words : List Word} {one other : Answer A} (a b : Bool) → (a ≡ true → IsSound D words one) → (b ≡ true → IsSound D words one) → IsSound D words other → IsSound D words (cond (a || b) one other)
sound_either true b h g k = h refl
sound_either false true h g k = g refl
sound_either false false h g k = k

module _ (r : Readers) (s : AreSound r) where
  sound_parameters : (p : Place) (words : List Word) → IsSound (IsParenthesized p) words (read_parameters r p words)
  sound_parameters p words =
      sound_then (sound_expected p terminal.LeftParenthesis words refl) (λ _ inside.
      sound_where p terminal.RightParenthesis inside refl
      (λ _ rest. sound_read (λ _ _ _ closed _ open_. none_read open_ closed))
      (λ _. sound_then (sound_read_names r s p inside) (λ names behind.
      sound_then (sound_expected p terminal.RightParenthesis behind refl) (λ _ rest.
      sound_read (λ _ _ _ closed _ names _ open_. names_read open_ names closed)))))

  pub sound_body : (p : Place) (words : List Word) → IsSound (IsBody p) words (read_body r p words)
  sound_body p words =
      sound_then (sound_parameters (within p) words) (λ parameters inside.
      sound_then (s.block (within_function p) inside) (λ block behind.
      sound_then (sound_expected p terminal.End behind refl) (λ _ rest.
      sound_read (λ _ _ _ ended _ block _ names. body_read names block ended))))

  sound_field : (p : Place) (words : List Word) → IsSound (IsField p) words (read_field r p words)
  sound_field p words = sound_if (begins terminal.LeftBracket words)
      (λ _. sound_then (sound_index r s (within p) words) (λ key behind.
      sound_then (sound_expected p terminal.Assign behind refl) (λ _ second.
      sound_then (s.exp p precedence.Or second) (λ value rest.
      sound_read (λ _ _ _ value _ assigned _ key. keyed_read key assigned value)))))
      (λ _. sound_if (names_a_field words)
      (λ _. sound_then (sound_name p words) (λ name behind.
      sound_then (sound_expected p terminal.Assign behind refl) (λ _ second.
      sound_then (s.exp p precedence.Or second) (λ value rest.
      sound_read (λ _ _ _ value _ assigned _ name. named_read name assigned value)))))
      (λ _. sound_then (s.exp p precedence.Or words) (λ value rest. sound_read (λ _ _ _ value. positional value))))

  pub sound_fields : (p : Place) (before : List Field) (words : List Word) → IsSound (IsBehind before (IsFields p)) words (fields_behind r p before words)
  sound_fields p before words = sound_if (begins terminal.RightBrace words)
      (λ _. sound_read (λ _ _. behind_all no_fields))
      (λ _. sound_then (sound_field p words) (λ f behind. sound_either (begins terminal.Comma behind) (begins terminal.Semicolon behind)
      (λ is. sound_then (sound_taken p terminal.Comma behind refl is) (λ _ rest.
      sound_as (s.fields p (before ++ f ∷ []) rest) (λ _ _ _ h. λ _ separator _ first. fields_on_comma first separator h)))
      (λ is. sound_then (sound_taken p terminal.Semicolon behind refl is) (λ _ rest.
      sound_as (s.fields p (before ++ f ∷ []) rest) (λ _ _ _ h. λ _ separator _ first. fields_on_semicolon first separator h)))
      (sound_read (λ _ _ _ first. fields_ended first))))

  pub sound_table : (p : Place) (words : List Word) → IsSound (IsBraced p) words (read_table r p words)
  sound_table p words =
      sound_then (sound_expected p terminal.LeftBrace words refl) (λ _ inside.
      sound_then (s.fields p [] inside) (λ fields behind.
      sound_then (sound_expected p terminal.RightBrace behind refl) (λ _ rest.
      sound_read (λ _ _ _ closed _ fields _ open_. table_read open_ fields closed))))
