-- What readings come to, once the calls may lie deep enough. A word that is not allowed, since it is too deep or is a `break` outside of any loop, is the
-- boundary: they stop at it, and what is after it does not matter.
--     IsBad reason o         the word is not allowed, for this reason
--     IsAllowedBefore boundary o behind      the word, which has these behind it, is allowed and before the boundary, or not allowed and at the boundary, or behind the boundary
--     Comes boundary words f x    the reading f of these words comes to x, or stops at the boundary if x is behind that
--     comes_then             one reading, and another behind it
use Rattle.std.specs.Prelude.{◌≡◌, ◌≤◌, ◌<◌, ℕ, ◌+◌, zero, suc, max, nat_le, Bool, true, false, List, [], ◌∷◌, length, None, Some, Ok, Err, if◌then◌else◌}
use Rattle.std.proofs.Common.{refl, sym, ap, ◌∙◌, subst, le-leb, le_refl, arith}
use Rattle.std.proofs.lemmas.Bool.{lt-leb, leb-true, leb-false}
use Rattle.ntx_syntax.specs.declared.fault.SyntaxWhy.{SyntaxWhy}
use Rattle.ntx_syntax.specs.declared.fault.SyntaxWhy.TheVariants as why
use Rattle.ntx_syntax.specs.declared.tree.Block.{Block}
use Rattle.ntx_syntax.specs.declared.tree.Stat.{Stat}
use Rattle.ntx_syntax.specs.declared.tree.IfArm.{IfArm}
use Rattle.ntx_syntax.specs.declared.tree.LocalName.{LocalName}
use Rattle.ntx_syntax.specs.declared.tree.Var.{Var}
use Rattle.ntx_syntax.specs.declared.tree.Exp.{Exp}
use Rattle.ntx_syntax.specs.declared.tree.Operation.{Operation}
use Rattle.ntx_syntax.specs.declared.tree.Field.{Field}
use Rattle.ntx_parse.specs.declared.part.Part.{Part}
use Rattle.ntx_parse.specs.declared.place.Place.{Place}
use Rattle.ntx_parse.specs.declared.precedence.Precedence.{Precedence}
use Rattle.ntx_syntax.specs.declared.terminal.Terminal.TheVariants as terminal
use Rattle.ntx_parse.specs.Words.{Word}
use Rattle.ntx_parse.specs.Grammar.{Placed, IsAllowed, max_nesting}
use Rattle.ntx_parse.specs.inner.Reading.{Answer, Stop, read, stopped, and_then, Readers, over, readers, block_at, stats_behind, arms_behind, path_behind, names_behind, exps_behind, vars_behind, suffixes_behind, exp_at, operations_behind, fields_behind}

-- ---- words that are not allowed

-- The word is not allowed, for this reason.
pub data IsBad : SyntaxWhy → Placed → Type 0 where
  too_deep : {o : Placed} → max_nesting < o.place.nesting → IsBad why.Depth o
  no_loop : {o : Placed} → o.place.nesting ≤ max_nesting → o.word.is ≡ terminal.Break → o.place.in_loop ≡ false → IsBad why.Break o

-- The word at which readings stop: how many words there are from it on, and the stop. There is none if they are 0.
pub record Boundary : Type 0 where
  pub words : ℕ
  pub stop : Stop

-- The word, which has these after it, is allowed and before the boundary, or not allowed and at the boundary, or after the boundary.
pub data IsAllowedBefore (boundary : Boundary) (o : Placed) (behind : List Word) : Type 0 where
  is_allowed : boundary.words ≤ length behind → IsAllowed o → IsAllowedBefore boundary o behind
  is_bad : {reason : SyntaxWhy} → boundary.words ≡ 1 + length behind → IsBad reason o → boundary.stop ≡ record { why = reason; words = o.word ∷ behind }
      → IsAllowedBefore boundary o behind
  is_behind : 1 + length behind < boundary.words → IsAllowedBefore boundary o behind

-- ---- what readings come to

-- the words that are left
abbrev pub rest_of : {A : Type 0} → Answer A → List Word
rest_of None = []
rest_of (Some (Err stop)) = []
rest_of (Some (Ok found)) = found.1

-- The answer, if it leaves all words from the boundary on, and otherwise the stop at the boundary.
abbrev pub cut : {A : Type 0} → Boundary → Answer A → Answer A
cut boundary x = if nat_le boundary.words (length (rest_of x)) then x else Some (Err boundary.stop)

-- From some depth on the reading of these words is this, or the stop at the boundary. Nothing is said of it where they all are after the boundary.
pub record Comes (boundary : Boundary) {A : Type 0} (words : List Word) (f : ℕ → Answer A) (x : Answer A) : Type 0 where
  pub from : ℕ
  pub shorter : length (rest_of x) ≤ length words
  pub is : boundary.words ≤ length words → (n : ℕ) → from ≤ n → f n ≡ cut boundary x

pub cut_before : {A : Type 0} (boundary : Boundary) (x : Answer A) → boundary.words ≤ length (rest_of x) → cut boundary x ≡ x
cut_before boundary x h = ap (λ b. if b then x else Some (Err boundary.stop)) (le-leb boundary.words (length (rest_of x)) h)

pub cut_behind : {A : Type 0} (boundary : Boundary) (x : Answer A) → length (rest_of x) < boundary.words → cut boundary x ≡ Some (Err boundary.stop)
cut_behind boundary x h = ap (λ b. if b then x else Some (Err boundary.stop)) (lt-leb boundary.words (length (rest_of x)) h)

-- what is read is read
pub comes_read : {boundary : Boundary} {A : Type 0} {a : A} (words : List Word) → Comes boundary words (λ n. read a words) (read a words)
comes_read {boundary} {a = a} words = record { from = 0; shorter = le_refl (length words); is = λ here n _. sym (cut_before boundary (read a words) here) }

pub comes_now : {boundary : Boundary} {A : Type 0} {x : Answer A} {a : A} {words : List Word} → x ≡ read a words → Comes boundary words (λ n. x) (read a words)
comes_now {boundary} {a = a} {words = words} e = subst (λ y. Comes boundary words (λ n. y) (read a words)) (sym e) (comes_read words)

pub comes_as : {boundary : Boundary} {A : Type 0} {words : List Word} {f : ℕ → Answer A} {x y : Answer A} → Comes boundary words f x → x ≡ y → Comes boundary words f y
comes_as {boundary} {words = words} {f = f} c e = subst (λ z. Comes boundary words f z) e c

first_is : {A : Type 0} (boundary : Boundary) (o : Placed) (words : List Word) (x : Answer A) (a : A) → (IsAllowed o → x ≡ read a words)
    → ((reason : SyntaxWhy) → IsBad reason o → x ≡ stopped reason (o.word ∷ words)) → IsAllowedBefore boundary o words → boundary.words ≤ length (o.word ∷ words)
    → x ≡ cut boundary (read a words)
first_is boundary o words x a good bad (is_allowed before allowed) here = good allowed ∙ sym (cut_before boundary (read a words) before)
first_is boundary o words x a good bad (is_bad {reason = reason} at h stop) here =
    bad reason h ∙ ap (λ s. Some (Err s)) (sym stop) ∙ sym (cut_behind boundary (read a words) (omega arith))
first_is boundary o words x a good bad (is_behind behind) here = absurd (omega arith)

-- The reading of one word tells this if the word is allowed, and stops at it if it is not.
pub comes_first : {boundary : Boundary} {A : Type 0} {o : Placed} {words : List Word} (x : Answer A) (a : A) → (IsAllowed o → x ≡ read a words)
    → ((reason : SyntaxWhy) → IsBad reason o → x ≡ stopped reason (o.word ∷ words)) → IsAllowedBefore boundary o words
    → Comes boundary (o.word ∷ words) (λ n. x) (read a words)
comes_first {boundary} {o = o} {words = words} x a good bad allowed =
    record { from = 0; shorter = omega arith; is = λ here n _. first_is boundary o words x a good bad allowed here }

then_is : {A B : Type 0} {y : Answer A} {a : A} {words : List Word} (boundary : Boundary) (x : Answer B) (next : A → List Word → Answer B) (before : Bool)
    → nat_le boundary.words (length words) ≡ before → y ≡ (if before then read a words else Some (Err boundary.stop)) → length (rest_of x) ≤ length words
    → (boundary.words ≤ length words → next a words ≡ cut boundary x) → and_then y next ≡ cut boundary x
then_is {words = words} boundary x next true before e shorter more = ap (λ z. and_then z next) e ∙ more (leb-true boundary.words (length words) before)
then_is {words = words} boundary x next false behind e shorter more =
    let less : length words < boundary.words = leb-false boundary.words (length words) behind in
    ap (λ z. and_then z next) e ∙ sym (cut_behind boundary x (omega arith))

-- One reading, and another after it.
pub comes_then : {boundary : Boundary} {A B : Type 0} {words behind : List Word} {f : ℕ → Answer A} {a : A} {x : Answer B} (g : ℕ → A → List Word → Answer B)
    → Comes boundary words f (read a behind) → Comes boundary behind (λ n. g n a behind) x → Comes boundary words (λ n. and_then (f n) (g n)) x
comes_then {boundary} {behind = behind} {x = x} g c d = record {
  from = max c.from d.from;
  shorter = omega arith;
  is = λ here n h.
      let first : c.from ≤ n = omega arith in
      let second : d.from ≤ n = omega arith in
      then_is boundary x (g n) (nat_le boundary.words (length behind)) refl (c.is here n first) d.shorter (λ there. d.is there n second);
}

-- Readings that have others for their parts.
over_is : {A : Type 0} (F : Readers → Answer A) (x : Answer A) (N : ℕ) → ((n : ℕ) → N ≤ n → F (over (readers n)) ≡ x) → (n : ℕ) → suc N ≤ n
    → F (readers n) ≡ x
over_is F x N is zero h = absurd (omega arith)
over_is F x N is (suc n) h = is n (omega arith)

comes_over : {boundary : Boundary} {A : Type 0} {words : List Word} (F : Readers → Answer A) {x : Answer A} → Comes boundary words (λ n. F (over (readers n))) x
    → Comes boundary words (λ n. F (readers n)) x
comes_over {boundary} F {x} c = record { from = suc c.from; shorter = c.shorter; is = λ here. over_is F (cut boundary x) c.from (c.is here) }

pub over_block : {boundary : Boundary} {p : Place} {words : List Word} {x : Answer Block}
    → Comes boundary words (λ n. block_at (readers n) p words) x → Comes boundary words (λ n. (readers n).block p words) x
over_block {p} {words} c = comes_over (λ r. r.block p words) c

pub over_stats : {boundary : Boundary} {p : Place} {before : List Stat} {words : List Word} {x : Answer (List Stat)}
    → Comes boundary words (λ n. stats_behind (readers n) p before words) x → Comes boundary words (λ n. (readers n).stats p before words) x
over_stats {p} {before} {words} c = comes_over (λ r. r.stats p before words) c

pub over_arms : {boundary : Boundary} {p : Place} {before : List IfArm} {words : List Word} {x : Answer (List IfArm)}
    → Comes boundary words (λ n. arms_behind (readers n) p before words) x → Comes boundary words (λ n. (readers n).arms p before words) x
over_arms {p} {before} {words} c = comes_over (λ r. r.arms p before words) c

pub over_path : {boundary : Boundary} {p : Place} {before : List (List ℕ)} {words : List Word} {x : Answer (List (List ℕ))}
    → Comes boundary words (λ n. path_behind (readers n) p before words) x → Comes boundary words (λ n. (readers n).path p before words) x
over_path {p} {before} {words} c = comes_over (λ r. r.path p before words) c

pub over_names : {boundary : Boundary} {p : Place} {before : List LocalName} {words : List Word} {x : Answer (List LocalName)}
    → Comes boundary words (λ n. names_behind (readers n) p before words) x → Comes boundary words (λ n. (readers n).names p before words) x
over_names {p} {before} {words} c = comes_over (λ r. r.names p before words) c

pub over_exps : {boundary : Boundary} {p : Place} {before : List Exp} {words : List Word} {x : Answer (List Exp)}
    → Comes boundary words (λ n. exps_behind (readers n) p before words) x → Comes boundary words (λ n. (readers n).exps p before words) x
over_exps {p} {before} {words} c = comes_over (λ r. r.exps p before words) c

pub over_vars : {boundary : Boundary} {p : Place} {before : List Var} {words : List Word} {x : Answer (List Var)}
    → Comes boundary words (λ n. vars_behind (readers n) p before words) x → Comes boundary words (λ n. (readers n).vars p before words) x
over_vars {p} {before} {words} c = comes_over (λ r. r.vars p before words) c

pub over_suffixes : {boundary : Boundary} {p : Place} {before : Part} {words : List Word} {x : Answer Part}
    → Comes boundary words (λ n. suffixes_behind (readers n) p before words) x → Comes boundary words (λ n. (readers n).suffixes p before words) x
over_suffixes {p} {before} {words} c = comes_over (λ r. r.suffixes p before words) c

pub over_fields : {boundary : Boundary} {p : Place} {before : List Field} {words : List Word} {x : Answer (List Field)}
    → Comes boundary words (λ n. fields_behind (readers n) p before words) x → Comes boundary words (λ n. (readers n).fields p before words) x
over_fields {p} {before} {words} c = comes_over (λ r. r.fields p before words) c

pub over_exp : {boundary : Boundary} {p : Place} {at : Precedence} {words : List Word} {x : Answer Exp}
    → Comes boundary words (λ n. exp_at (readers n) p at words) x → Comes boundary words (λ n. (readers n).exp p at words) x
over_exp {p} {at} {words} c = comes_over (λ r. r.exp p at words) c

pub over_operations : {boundary : Boundary} {p : Place} {at : Precedence} {before : List Operation} {words : List Word} {x : Answer (List Operation)}
    → Comes boundary words (λ n. operations_behind (readers n) p at before words) x → Comes boundary words (λ n. (readers n).operations p at before words) x
over_operations {p} {at} {before} {words} c = comes_over (λ r. r.operations p at before words) c

-- ---- tests

pub comes_if : {boundary : Boundary} {A : Type 0} {words : List Word} {b : Bool} {f : ℕ → Answer A} {x : Answer A} (g : ℕ → Answer A) → b ≡ true → Comes boundary words f x
    → Comes boundary words (λ n. if b then f n else g n) x
comes_if {boundary} {words = words} {f = f} {x = x} g e c = subst (λ b. Comes boundary words (λ n. if b then f n else g n) x) (sym e) c

pub comes_else : {boundary : Boundary} {A : Type 0} {words : List Word} {b : Bool} {g : ℕ → Answer A} {x : Answer A} (f : ℕ → Answer A) → b ≡ false → Comes boundary words g x
    → Comes boundary words (λ n. if b then f n else g n) x
comes_else {boundary} {words = words} {g = g} {x = x} f e c = subst (λ b. Comes boundary words (λ n. if b then f n else g n) x) (sym e) c
