-- What is proved of each phrase that derives: what the reading of it comes to, up to the boundary, and what is known of the words after it.
use Rattle.std.specs.Prelude.{◌≡◌, ℕ, List, [], ◌∷◌, ◌++◌, Some}
use Rattle.std.proofs.Common.{sym, ap, append_assoc, append-nil}
use Rattle.ntx_syntax.specs.declared.tree.Block.{Block}
use Rattle.ntx_syntax.specs.declared.tree.Stat.{Stat}
use Rattle.ntx_syntax.specs.declared.tree.LocalName.{LocalName}
use Rattle.ntx_syntax.specs.declared.tree.Var.{Var}
use Rattle.ntx_syntax.specs.declared.tree.Prefix.{Prefix}
use Rattle.ntx_syntax.specs.declared.tree.Exp.{Exp}
use Rattle.ntx_syntax.specs.declared.tree.Operation.{Operation}
use Rattle.ntx_parse.specs.declared.part.Part.{Part}
use Rattle.ntx_parse.specs.declared.place.Place.{Place}
use Rattle.ntx_parse.specs.declared.precedence.Precedence.{Precedence}
use Rattle.ntx_parse.specs.declared.precedence.Precedence.TheVariants as precedence
use Rattle.ntx_parse.specs.Words.{Word}
use Rattle.ntx_parse.specs.Grammar.{Placed, tighter}
use Rattle.ntx_parse.specs.inner.Reading.{Answer, read, readers, read_prefix, read_local_name, joined, var_of}
use Rattle.ntx_parse.proofs.complete.Begins.{plain, AreAllowedBefore}
use Rattle.ntx_parse.proofs.complete.Comes.{Boundary, Comes}

-- The reading of these words comes to this, and each of the words that it leaves is allowed, or at the boundary, or after it.
pub record Done (boundary : Boundary) {A : Type 0} (words : List Word) (f : ℕ → Answer A) (a : A) (rest : List Placed) : Type 0 where
  pub comes : Comes boundary words f (read a (plain rest))
  pub allowed : AreAllowedBefore boundary rest

-- The same of a list, whatever was read before.
pub record ListDone (boundary : Boundary) {A : Type 0} (words : List Word) (f : ℕ → List A → Answer (List A)) (all : List A) (rest : List Placed) : Type 0 where
  pub comes : (before : List A) → Comes boundary words (λ n. f n before) (read (before ++ all) (plain rest))
  pub allowed : AreAllowedBefore boundary rest

-- What is after the first in a list that has commas between.
pub record RestDone (boundary : Boundary) {A : Type 0} (words : List Word) (first : ℕ → Answer A) (others : ℕ → List A → List Word → Answer (List A)) (all : List A) (rest : List Placed) : Type 0 where
  pub one : A
  pub behind : List Word
  pub comes : Comes boundary words first (read one behind)
  pub tail : (before : List A) → Comes boundary behind (λ n. others n (before ++ one ∷ []) behind) (read (before ++ all) (plain rest))
  pub allowed : AreAllowedBefore boundary rest

-- A statement is read, and then those after it.
pub record StatDone (boundary : Boundary) (p : Place) (s : Stat) (words : List Word) (rest : List Placed) : Type 0 where
  pub goes_on : {x : Answer (List Stat)} (before : List Stat) → Comes boundary (plain rest) (λ n. (readers n).stats p (before ++ s ∷ []) (plain rest)) x
      → Comes boundary words (λ n. (readers n).stats p before words) x
  pub allowed : AreAllowedBefore boundary rest

-- A prefix is read, and then its further suffixes.
pub record PrefixDone (boundary : Boundary) (p : Place) (prefix : Prefix) (words : List Word) (rest : List Placed) : Type 0 where
  pub part : Part
  pub joins : joined part ≡ prefix
  pub goes_on : {x : Answer Part} → Comes boundary (plain rest) (λ n. (readers n).suffixes p part (plain rest)) x → Comes boundary words (λ n. read_prefix (readers n) p words) x
  pub allowed : AreAllowedBefore boundary rest

-- The same of a prefix that can be assigned to.
pub record VarDone (boundary : Boundary) (p : Place) (v : Var) (words : List Word) (rest : List Placed) : Type 0 where
  pub part : Part
  pub is_var : var_of part ≡ Some v
  pub goes_on : {x : Answer Part} → Comes boundary (plain rest) (λ n. (readers n).suffixes p part (plain rest)) x → Comes boundary words (λ n. read_prefix (readers n) p words) x
  pub allowed : AreAllowedBefore boundary rest

-- The first of some things that are assigned to is read, and then the others.
pub record VarsDone (boundary : Boundary) (p : Place) (vs : List Var) (words : List Word) (rest : List Placed) : Type 0 where
  pub part : Part
  pub one : Var
  pub is_var : var_of part ≡ Some one
  pub behind : List Word
  pub comes : Comes boundary words (λ n. read_prefix (readers n) p words) (read part behind)
  pub tail : (before : List Var) → Comes boundary behind (λ n. (readers n).vars p (before ++ one ∷ []) behind) (read (before ++ vs) (plain rest))
  pub allowed : AreAllowedBefore boundary rest

-- A first operand is read, and then operators with further operands.
pub record RunDone (boundary : Boundary) (p : Place) (at : Precedence) (first : Exp) (others : List Operation) (words : List Word) (rest : List Placed) : Type 0 where
  pub behind : List Word
  pub comes : Comes boundary words (λ n. (readers n).exp p (tighter at) words) (read first behind)
  pub goes_on : {x : Answer (List Operation)} → Comes boundary (plain rest) (λ n. (readers n).operations p at others (plain rest)) x
      → Comes boundary behind (λ n. (readers n).operations p at [] behind) x
  pub allowed : AreAllowedBefore boundary rest

abbrev pub ExpDone : Boundary → Place → Precedence → Exp → List Word → List Placed → Type 0
ExpDone boundary p at e words rest = Done boundary words (λ n. (readers n).exp p at words) e rest

abbrev pub BlockDone : Boundary → Place → Block → List Word → List Placed → Type 0
BlockDone boundary p b words rest = Done boundary words (λ n. (readers n).block p words) b rest

abbrev pub NamesDone : Boundary → Place → List LocalName → List Word → List Placed → Type 0
NamesDone boundary p names words rest = RestDone boundary words (λ n. read_local_name p words) (λ n. (readers n).names p) names rest

abbrev pub ExpsDone : Boundary → Place → List Exp → List Word → List Placed → Type 0
ExpsDone boundary p es words rest = RestDone boundary words (λ n. (readers n).exp p precedence.Or words) (λ n. (readers n).exps p) es rest

-- ---- ends of lists

pub all_before : {A : Type 0} (before : List A) (words : List Word) → read before words ≡ read (before ++ []) words
all_before before words = ap (λ l. read l words) (sym (append-nil before))

pub one_more : {A : Type 0} (before : List A) (one : A) (all : List A) (words : List Word)
    → read (before ++ one ∷ [] ++ all) words ≡ read (before ++ one ∷ all) words
one_more before one all words = ap (λ l. read l words) (append_assoc before (one ∷ []) all)
