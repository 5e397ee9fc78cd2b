-- Bodies of functions and tables: what an answer of theirs tells.
use Rattle.std.proofs.Common.{◌≡◌, Bool, true, false, ◌||◌, cond, List, [], ◌∷◌, ◌++◌, refl}
use Rattle.ntx_syntax.specs.declared.tree.Field.{Field}
use Rattle.ntx_parse.specs.declared.place.Place.{Place}
use Rattle.ntx_parse.specs.declared.precedence.Precedence.TheVariants as precedence
use Rattle.ntx_syntax.specs.declared.terminal.Terminal.TheVariants as terminal
use Rattle.ntx_parse.specs.Words.{Word}
use Rattle.ntx_parse.specs.Grammar.{within, within_function, IsBody, IsField, positional, IsFields, no_fields}
use Rattle.ntx_parse.specs.inner.Reading.{Readers, Answer, begins, names_a_field, read_parameters, read_body, read_field, fields_behind, read_table}
use Rattle.ntx_parse.proofs.sound.Answers.{Phrase}
use Rattle.ntx_parse.proofs.sound.Phrases.{IsBehind, behind_all}
use Rattle.ntx_parse.proofs.sound.Tables.{IsParenthesized, none_read, names_read, body_read, keyed_read, named_read, fields_on_comma, fields_on_semicolon, fields_ended, IsBraced, table_read}
use Rattle.ntx_parse.proofs.stuck.Answers.{Ends, any_words, no_call, IsViable, viable_then}
use Rattle.ntx_parse.proofs.stuck.Words.{viable_read, viable_if, viable_as, viable_taken, viable_expected, viable_open, viable_where}
use Rattle.ntx_parse.proofs.stuck.Phrases.{AreViable}
use Rattle.ntx_parse.proofs.stuck.Lists.{viable_name, viable_read_names}
use Rattle.ntx_parse.proofs.stuck.Prefixes.{viable_index}

-- where one of two words is at the beginning
viable_either : {A : Type 0} {b c : Ends} {D : Phrase A} {words : List Word} {one other : Answer A} (first second : Bool) → (first ≡ true → IsViable b c D words one) → (second ≡ true → IsViable b c D words one) → IsViable b c D words other → IsViable b c D words (cond (first || second) one other)
viable_either true second h g k = h refl
viable_either false true h g k = g refl
viable_either false false h g k = k

module _ (r : Readers) (v : AreViable r) where
  viable_parameters : (p : Place) (words : List Word) → IsViable any_words no_call (IsParenthesized p) words (read_parameters r p words)
  viable_parameters p words =
      viable_then (viable_open no_call p words) (λ _ inside.
      viable_where no_call p terminal.RightParenthesis inside refl refl
      (λ _ rest. viable_read (λ _ _ _ closed _ open_. none_read open_ closed))
      (λ _. viable_then (viable_read_names r v p inside) (λ names behind.
      viable_then (viable_expected no_call p terminal.RightParenthesis behind refl refl) (λ _ rest.
      viable_read (λ _ _ _ closed _ names _ open_. names_read open_ names closed)))))

  pub viable_body : (p : Place) (words : List Word) → IsViable any_words no_call (IsBody p) words (read_body r p words)
  viable_body p words =
      viable_then (viable_parameters (within p) words) (λ parameters inside.
      viable_then (v.block (within_function p) inside) (λ block behind.
      viable_then (viable_expected no_call p terminal.End behind refl refl) (λ _ rest.
      viable_read (λ _ _ _ ended _ block _ names. body_read names block ended))))

  viable_field : (p : Place) (words : List Word) → IsViable no_call no_call (IsField p) words (read_field r p words)
  viable_field p words = viable_if (begins terminal.LeftBracket words)
      (λ _. viable_then (viable_index r v (within p) words) (λ key behind.
      viable_then (viable_expected no_call p terminal.Assign behind refl refl) (λ _ second.
      viable_then (v.exp p precedence.Or second) (λ value rest.
      viable_read (λ _ _ _ value _ assigned _ key. keyed_read key assigned value)))))
      (λ _. viable_if (names_a_field words)
      (λ _. viable_then (viable_name no_call p words) (λ name behind.
      viable_then (viable_expected no_call p terminal.Assign behind refl refl) (λ _ second.
      viable_then (v.exp p precedence.Or second) (λ value rest.
      viable_read (λ _ _ _ value _ assigned _ name. named_read name assigned value)))))
      (λ _. viable_then (v.exp p precedence.Or words) (λ value rest. viable_read (λ _ _ _ value. positional value))))

  pub viable_fields : (p : Place) (before : List Field) (words : List Word) → IsViable no_call no_call (IsBehind before (IsFields p)) words (fields_behind r p before words)
  viable_fields p before words = viable_if (begins terminal.RightBrace words)
      (λ _. viable_read (λ _ _. behind_all no_fields))
      (λ _. viable_then (viable_field p words) (λ f behind. viable_either (begins terminal.Comma behind) (begins terminal.Semicolon behind)
      (λ is. viable_then (viable_taken no_call p terminal.Comma behind refl refl is) (λ _ rest.
      viable_as (v.fields p (before ++ f ∷ []) rest) (λ _ _ _ h. λ _ separator _ first. fields_on_comma first separator h)))
      (λ is. viable_then (viable_taken no_call p terminal.Semicolon behind refl refl is) (λ _ rest.
      viable_as (v.fields p (before ++ f ∷ []) rest) (λ _ _ _ h. λ _ separator _ first. fields_on_semicolon first separator h)))
      (viable_read (λ _ _ _ first. fields_ended first))))

  pub viable_table : (p : Place) (words : List Word) → IsViable no_call no_call (IsBraced p) words (read_table r p words)
  viable_table p words =
      viable_then (viable_expected no_call p terminal.LeftBrace words refl refl) (λ _ inside.
      viable_then (v.fields p [] inside) (λ fields behind.
      viable_then (viable_expected no_call p terminal.RightBrace behind refl refl) (λ _ rest.
      viable_read (λ _ _ _ closed _ fields _ open_. table_read open_ fields closed))))
