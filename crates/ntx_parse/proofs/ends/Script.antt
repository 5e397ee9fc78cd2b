-- The reading of a script ends, so that each script has a tree or a fault.
-- Between two words that are taken, the calls for an expression are inside one another as deep as there are precedences, and two more are those of the fields
-- of a table and of a block. So for each word that is left it is enough if 13 calls may be inside one another.
--     script_ends     a script is read or stops, with calls that may lie deep enough
--     decided         so it has a tree or a fault
use Rattle.std.specs.Prelude.{◌≡◌, ◌<◌, ◌≤◌, ℕ, zero, suc, ◌+◌, ◌*◌, ◌||◌, List, [], ◌∷◌, length, Option, Some, Result, Ok, Err}
use Rattle.std.proofs.Common.{inl, inr, ◌⊎◌, arith, refl}
use Rattle.ntx_syntax.specs.declared.fault.SyntaxFault.{SyntaxFault}
use Rattle.ntx_syntax.specs.declared.terminal.Terminal.TheVariants as terminal
use Rattle.ntx_syntax.specs.declared.token.Token as token
use Rattle.ntx_syntax.specs.declared.tree.Block.{Block}
use Rattle.ntx_syntax.specs.declared.tree.Chunk.{Chunk}
use Rattle.ntx_syntax.specs.declared.tree.Exp.{Exp}
use Rattle.ntx_syntax.specs.declared.tree.IfArm.{IfArm}
use Rattle.ntx_syntax.specs.declared.tree.Field.{Field}
use Rattle.ntx_syntax.specs.declared.tree.LocalName.{LocalName}
use Rattle.ntx_syntax.specs.declared.tree.Operation.{Operation}
use Rattle.ntx_syntax.specs.declared.tree.Stat.{Stat}
use Rattle.ntx_syntax.specs.declared.tree.Var.{Var}
use Rattle.ntx_syntax.specs.Lexes.{Lexes}
use Rattle.ntx_syntax.proofs.LawLemmas.{tokens_stand_in_order}
use Rattle.ntx_syntax.proofs.TokenLemmas.{numerals_have_values, texts_have_values}
use Rattle.ntx_parse.specs.declared.part.Part.{Part}
use Rattle.ntx_parse.specs.declared.place.Place.{Place}
use Rattle.ntx_parse.specs.declared.precedence.Precedence.{Precedence}
use Rattle.ntx_parse.specs.declared.precedence.Precedence.TheVariants as precedence
use Rattle.ntx_parse.specs.Words.{Word, words_of}
use Rattle.ntx_parse.specs.Grammar.{within, outermost, tighter, Accepts}
use Rattle.ntx_parse.specs.Faults.{IsRefused}
use Rattle.ntx_parse.specs.Laws.{EachScriptIsDecided}
use Rattle.ntx_parse.specs.inner.Reading.{Answer, Readers, Stop, and_then, begins, names_a_field, read_run, read_field, fields_behind, exp_at, sign_at, block_at, over, readers, ended, script_by}
use Rattle.ntx_parse.proofs.ends.Answers.{Ends, ends_ok, ends_err, Finishes, ends_more, ends_then, ends_if, ends_taken, ends_expected_also}
use Rattle.ntx_parse.proofs.ends.Phrases.{name_ends, index_ends, operand_ends, concat_ends, last_ends, stats_end, arms_end, path_ends, names_behind_end, exps_behind_end, vars_end, suffixes_end, operations_end}
use Rattle.ntx_parse.proofs.Ranks.{rank, rank_most}
use Rattle.ntx_parse.proofs.faults.Refused.{refused_with_line}
use Rattle.ntx_parse.proofs.sound.Scripts.{sound_script}
use Rattle.ntx_parse.proofs.WordValues.{words_have_values}

-- The readings end if so many calls may be inside one another: at k words at most each has a number that is enough.
record Handles (r : Readers) (n : ℕ) : Type 0 where
  pub block : (p : Place) (words : List Word) (k : ℕ) → length words < suc k → 13 * k + 2 ≤ n → Ends (suc k) (r.block p words)
  pub stats : (p : Place) (before : List Stat) (words : List Word) (k : ℕ) → length words < suc k → 13 * k + 1 ≤ n → Ends (suc k) (r.stats p before words)
  pub arms : (p : Place) (before : List IfArm) (words : List Word) (k : ℕ) → length words < suc k → 13 * k + 1 ≤ n → Ends (suc k) (r.arms p before words)
  pub path : (p : Place) (before : List (List ℕ)) (words : List Word) (k : ℕ) → length words < suc k → 13 * k + 1 ≤ n → Ends (suc k) (r.path p before words)
  pub names : (p : Place) (before : List LocalName) (words : List Word) (k : ℕ) → length words < suc k → 13 * k + 1 ≤ n → Ends (suc k) (r.names p before words)
  pub exps : (p : Place) (before : List Exp) (words : List Word) (k : ℕ) → length words < suc k → 13 * k + 1 ≤ n → Ends (suc k) (r.exps p before words)
  pub vars : (p : Place) (before : List Var) (words : List Word) (k : ℕ) → length words < suc k → 13 * k + 1 ≤ n → Ends (suc k) (r.vars p before words)
  pub suffixes : (p : Place) (before : Part) (words : List Word) (k : ℕ) → length words < suc k → 13 * k + 1 ≤ n → Ends (suc k) (r.suffixes p before words)
  pub exp : (p : Place) (at : Precedence) (words : List Word) (k : ℕ) → length words < suc k → 13 * k + 12 ≤ n + rank at → Ends (suc k) (r.exp p at words)
  pub operations : (p : Place) (at : Precedence) (before : List Operation) (words : List Word) (k : ℕ) → length words < suc k → 13 * k + 1 ≤ n → Ends (suc k) (r.operations p at before words)
  pub fields : (p : Place) (before : List Field) (words : List Word) (k : ℕ) → length words < suc k → 13 * k + 13 ≤ n → Ends (suc k) (r.fields p before words)

module _ (m : ℕ) (ends : Handles (readers m) m) where
  fewer : (k : ℕ) → 13 * k ≤ m → Finishes (readers m) k
  fewer zero enough = record {
    block = λ p words h. absurd (omega arith);
    stats = λ p before words h. absurd (omega arith);
    arms = λ p before words h. absurd (omega arith);
    path = λ p before words h. absurd (omega arith);
    names = λ p before words h. absurd (omega arith);
    exps = λ p before words h. absurd (omega arith);
    vars = λ p before words h. absurd (omega arith);
    suffixes = λ p before words h. absurd (omega arith);
    exp = λ p at words h. absurd (omega arith);
    operations = λ p at before words h. absurd (omega arith);
    fields = λ p before words h. absurd (omega arith);
  }
  fewer (suc j) enough = record {
    block = λ p words h. ends.block p words j h (omega arith);
    stats = λ p before words h. ends.stats p before words j h (omega arith);
    arms = λ p before words h. ends.arms p before words j h (omega arith);
    path = λ p before words h. ends.path p before words j h (omega arith);
    names = λ p before words h. ends.names p before words j h (omega arith);
    exps = λ p before words h. ends.exps p before words j h (omega arith);
    vars = λ p before words h. ends.vars p before words j h (omega arith);
    suffixes = λ p before words h. ends.suffixes p before words j h (omega arith);
    exp = λ p at words h. ends.exp p at words j h (omega arith);
    operations = λ p at before words h. ends.operations p at before words j h (omega arith);
    fields = λ p before words h. ends.fields p before words j h (omega arith);
  }

  run_ends : (p : Place) (at : Precedence) (words : List Word) (k : ℕ) → length words < suc k → 13 * k + 12 ≤ m + rank (tighter at) → 13 * k + 1 ≤ m → Ends (suc k) (read_run (readers m) p at words)
  run_ends p at words k h first others =
      ends_then (ends.exp p (tighter at) words k h first) (λ e behind h. ends_then (ends.operations p at [] behind k h others) (λ operations rest h. ends_ok h))

  exp_ends : (p : Place) (at : Precedence) (words : List Word) (k : ℕ) → length words < suc k → 13 * k + 12 ≤ suc m + rank at → Ends (suc k) (exp_at (readers m) p at words)
  exp_ends p precedence.Unary words k h enough = ends_more (operand_ends (readers m) k (fewer k (omega arith)) p (sign_at words) words h)
  exp_ends p precedence.Concat words k h enough =
      ends_then (ends.exp p precedence.Additive words k h (omega arith)) (λ left rest h. concat_ends (readers m) k (fewer k (omega arith)) p left rest h)
  exp_ends p precedence.Or words k h enough = run_ends p precedence.Or words k h (omega arith) (omega arith)
  exp_ends p precedence.And words k h enough = run_ends p precedence.And words k h (omega arith) (omega arith)
  exp_ends p precedence.Comparison words k h enough = run_ends p precedence.Comparison words k h (omega arith) (omega arith)
  exp_ends p precedence.BitOr words k h enough = run_ends p precedence.BitOr words k h (omega arith) (omega arith)
  exp_ends p precedence.BitXor words k h enough = run_ends p precedence.BitXor words k h (omega arith) (omega arith)
  exp_ends p precedence.BitAnd words k h enough = run_ends p precedence.BitAnd words k h (omega arith) (omega arith)
  exp_ends p precedence.Shift words k h enough = run_ends p precedence.Shift words k h (omega arith) (omega arith)
  exp_ends p precedence.Additive words k h enough = run_ends p precedence.Additive words k h (omega arith) (omega arith)
  exp_ends p precedence.Multiplicative words k h enough = run_ends p precedence.Multiplicative words k h (omega arith) (omega arith)

  field_ends : (p : Place) (words : List Word) (k : ℕ) → length words < suc k → 13 * k + 12 ≤ m → Ends (suc k) (read_field (readers m) p words)
  field_ends p words k h enough =
      let f = fewer k (omega arith) in
      ends_if (begins terminal.LeftBracket words)
      (ends_more (ends_then (index_ends (readers m) k f (within p) words h) (λ key behind h.
      ends_then (ends_expected_also p terminal.Assign behind h) (λ _ second h. ends_then (f.exp p precedence.Or second h) (λ value rest h. ends_ok h)))))
      (ends_if (names_a_field words)
      (ends_more (ends_then (name_ends p words h) (λ name behind h.
      ends_then (ends_expected_also p terminal.Assign behind h) (λ _ second h. ends_then (f.exp p precedence.Or second h) (λ value rest h. ends_ok h)))))
      (ends_then (ends.exp p precedence.Or words k h (omega arith)) (λ value rest h. ends_ok h)))

  fields_end : (p : Place) (before : List Field) (words : List Word) (k : ℕ) → length words < suc k → 13 * k + 12 ≤ m → Ends (suc k) (fields_behind (readers m) p before words)
  fields_end p before words k h enough =
      let f = fewer k (omega arith) in
      ends_if (begins terminal.RightBrace words) (ends_ok h)
      (ends_then (field_ends p words k h enough) (λ field behind h.
      ends_if (begins terminal.Comma behind || begins terminal.Semicolon behind)
      (ends_more (ends_then (ends_taken p behind h) (λ _ rest h. f.fields p _ rest h))) (ends_ok h)))

  block_ends : (p : Place) (words : List Word) (k : ℕ) → length words < suc k → 13 * k + 1 ≤ m → Ends (suc k) (block_at (readers m) p words)
  block_ends p words k h enough =
      ends_then (ends.stats p [] words k h enough) (λ stats behind h.
      ends_then (last_ends (readers m) k (fewer k (omega arith)) p behind h) (λ last rest h. ends_ok h))

  one_more : Handles (over (readers m)) (suc m)
  one_more = record {
    block = λ p words k h enough. block_ends p words k h (omega arith);
    stats = λ p before words k h enough. stats_end (readers m) k (fewer k (omega arith)) p before words h;
    arms = λ p before words k h enough. arms_end (readers m) k (fewer k (omega arith)) p before words h;
    path = λ p before words k h enough. path_ends (readers m) k (fewer k (omega arith)) p before words h;
    names = λ p before words k h enough. names_behind_end (readers m) k (fewer k (omega arith)) p before words h;
    exps = λ p before words k h enough. exps_behind_end (readers m) k (fewer k (omega arith)) p before words h;
    vars = λ p before words k h enough. vars_end (readers m) k (fewer k (omega arith)) p before words h;
    suffixes = λ p before words k h enough. suffixes_end (readers m) k (fewer k (omega arith)) p before words h;
    exp = λ p at words k h enough. exp_ends p at words k h enough;
    operations = λ p at before words k h enough. operations_end (readers m) k (fewer k (omega arith)) p at before words h;
    fields = λ p before words k h enough. fields_end p before words k h (omega arith);
  }

readers_end : (n : ℕ) → Handles (readers n) n
readers_end zero = record {
  block = λ p words k h enough. absurd (omega arith);
  stats = λ p before words k h enough. absurd (omega arith);
  arms = λ p before words k h enough. absurd (omega arith);
  path = λ p before words k h enough. absurd (omega arith);
  names = λ p before words k h enough. absurd (omega arith);
  exps = λ p before words k h enough. absurd (omega arith);
  vars = λ p before words k h enough. absurd (omega arith);
  suffixes = λ p before words k h enough. absurd (omega arith);
  exp = λ p at words k h enough. let most = rank_most at in absurd (omega arith);
  operations = λ p at before words k h enough. absurd (omega arith);
  fields = λ p before words k h enough. absurd (omega arith);
}
readers_end (suc m) = one_more m (readers_end m)

-- ---- scripts

abbrev Outcome : Type 0
Outcome = Result (Block × List Word) Stop

at_end : (b : Block) (rest : List Word) → (x : Outcome) × (ended b rest ≡ Some x)
at_end b [] = (_, refl)
at_end b (o ∷ rest) = (_, refl)

whole : {k : ℕ} {a : Answer Block} → Ends k a → (x : Outcome) × (and_then a ended ≡ Some x)
whole (ends_ok {x = b} {rest} h) = at_end b rest
whole ends_err = (_, refl)

script_ends : (words : List Word) → (n : ℕ) × (x : Outcome) × (script_by n words ≡ Some x)
script_ends words =
    let n : ℕ = 13 * length words + 2 in
    let found = whole ((readers_end n).block outermost words (length words) (omega arith) (omega arith)) in
    (n, found.0, found.1)

pub decided : EachScriptIsDecided
decided bytes tokens lexes = by (script_ends (words_of bytes tokens))
  where
    by : (n : ℕ) × (x : Outcome) × (script_by n (words_of bytes tokens) ≡ Some x)
        → ((chunk : Chunk) × Accepts (words_of bytes tokens) chunk) ⊎ ((fault : SyntaxFault) × IsRefused bytes (words_of bytes tokens) fault)
    by (n, Ok (b, rest), is) = inl (_, sound_script n b (words_of bytes tokens) rest is)
    by (n, Err stop, is) =
        inr (
          _,
          refused_with_line n bytes (words_of bytes tokens) stop
              (words_have_values numerals_have_values texts_have_values bytes 0 tokens (tokens_stand_in_order bytes tokens lexes)) is,
        )
