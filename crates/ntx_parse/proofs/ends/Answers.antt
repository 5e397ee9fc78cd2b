-- Readings that end: they read something or stop, and leave fewer words than a bound.
--     Ends bound answer       this answer is one
--     Finishes r bound        each of these readings ends at the words that are fewer than the bound
use Rattle.std.specs.Prelude.{◌≡◌, ◌<◌, ◌≤◌, ℕ, suc, ◌+◌, nat_le, Bool, true, false, List, [], ◌∷◌, length, Some, Result, Ok, Err, cond}
use Rattle.std.proofs.Common.{arith}
use Rattle.ntx_syntax.specs.declared.terminal.Terminal.{Terminal}
use Rattle.ntx_syntax.specs.declared.tree.Exp.{Exp}
use Rattle.ntx_syntax.specs.declared.tree.IfArm.{IfArm}
use Rattle.ntx_syntax.specs.declared.tree.Field.{Field}
use Rattle.ntx_syntax.specs.declared.tree.LocalName.{LocalName}
use Rattle.ntx_syntax.specs.declared.tree.Operation.{Operation}
use Rattle.ntx_syntax.specs.declared.tree.Stat.{Stat}
use Rattle.ntx_syntax.specs.declared.tree.Var.{Var}
use Rattle.ntx_parse.specs.declared.part.Part.{Part}
use Rattle.ntx_parse.specs.declared.place.Place.{Place}
use Rattle.ntx_parse.specs.declared.precedence.Precedence.{Precedence}
use Rattle.ntx_parse.specs.Words.{Word}
use Rattle.ntx_parse.specs.Grammar.{max_nesting}
use Rattle.ntx_parse.specs.inner.Reading.{Answer, Readers, Stop, and_then, begins, take_word, expect_word}

pub data Ends {A : Type 0} (bound : ℕ) : Answer A → Type 0 where
  ends_ok : {x : A} {rest : List Word} → length rest < bound → Ends bound (Some (Ok (x, rest)))
  ends_err : {stop : Stop} → Ends bound (Some (Err stop))

pub record Finishes (r : Readers) (bound : ℕ) : Type 0 where
  pub block : (p : Place) (words : List Word) → length words < bound → Ends bound (r.block p words)
  pub stats : (p : Place) (before : List Stat) (words : List Word) → length words < bound → Ends bound (r.stats p before words)
  pub arms : (p : Place) (before : List IfArm) (words : List Word) → length words < bound → Ends bound (r.arms p before words)
  pub path : (p : Place) (before : List (List ℕ)) (words : List Word) → length words < bound → Ends bound (r.path p before words)
  pub names : (p : Place) (before : List LocalName) (words : List Word) → length words < bound → Ends bound (r.names p before words)
  pub exps : (p : Place) (before : List Exp) (words : List Word) → length words < bound → Ends bound (r.exps p before words)
  pub vars : (p : Place) (before : List Var) (words : List Word) → length words < bound → Ends bound (r.vars p before words)
  pub suffixes : (p : Place) (before : Part) (words : List Word) → length words < bound → Ends bound (r.suffixes p before words)
  pub exp : (p : Place) (at : Precedence) (words : List Word) → length words < bound → Ends bound (r.exp p at words)
  pub operations : (p : Place) (at : Precedence) (before : List Operation) (words : List Word) → length words < bound → Ends bound (r.operations p at before words)
  pub fields : (p : Place) (before : List Field) (words : List Word) → length words < bound → Ends bound (r.fields p before words)

-- ---- one answer

pub ends_more : {A : Type 0} {a : Answer A} {k : ℕ} → Ends k a → Ends (suc k) a
ends_more (ends_ok h) = ends_ok (omega (arith, h))
ends_more ends_err = ends_err

pub ends_then : {A B : Type 0} {a : Answer A} {next : A → List Word → Answer B} {m k : ℕ} → Ends m a
    → ((x : A) (rest : List Word) → length rest < m → Ends k (next x rest)) → Ends k (and_then a next)
ends_then (ends_ok {x} {rest} h) then = then x rest h
ends_then ends_err then = ends_err

pub ends_if : {A : Type 0} {one other : Answer A} {k : ℕ} (test : Bool) → Ends k one → Ends k other → Ends k (cond test one other)
ends_if true h g = h
ends_if false h g = g

-- ---- one word

-- What takes a word leaves fewer.
pub ends_taken : (p : Place) (words : List Word) {k : ℕ} → length words < suc k → Ends k (take_word p words)
ends_taken p [] h = ends_err
ends_taken p (o ∷ words) h = ends_if (nat_le p.nesting max_nesting) (ends_ok (omega (arith, h))) ends_err

pub ends_expected : (p : Place) (t : Terminal) (words : List Word) {k : ℕ} → length words < suc k → Ends k (expect_word p t words)
ends_expected p t words h = ends_if (begins t words) (ends_taken p words h) ends_err

-- the same with a bound that is not the least
pub ends_taken_also : (p : Place) (words : List Word) {k : ℕ} → length words < k → Ends k (take_word p words)
ends_taken_also p words h = ends_taken p words (omega (arith, h))

pub ends_expected_also : (p : Place) (t : Terminal) (words : List Word) {k : ℕ} → length words < k → Ends k (expect_word p t words)
ends_expected_also p t words h = ends_expected p t words (omega (arith, h))
