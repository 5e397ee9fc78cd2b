-- Statements are told apart, and assignments, calls and what follows a name are read.
use Rattle.std.specs.Prelude.{◌≡◌, true, false, List, [], ◌∷◌, None, Some}
use Rattle.std.proofs.Common.{refl, sym, ap, subst, true≢false}
use Rattle.std.proofs.lemmas.Option.{none-some, same_Some}
use Rattle.ntx_syntax.specs.declared.tree.StatKind.{StatKind}
use Rattle.ntx_syntax.specs.declared.tree.StatKind.TheVariants as stat
use Rattle.ntx_syntax.specs.declared.tree.Var.{Var}
use Rattle.ntx_syntax.specs.declared.tree.Var.TheVariants as var
use Rattle.ntx_syntax.specs.declared.tree.Prefix.{Prefix}
use Rattle.ntx_syntax.specs.declared.tree.Exp.{Exp}
use Rattle.ntx_parse.specs.declared.part.Part.{Part}
use Rattle.ntx_parse.specs.declared.part.Part.TheVariants as part
use Rattle.ntx_parse.specs.declared.place.Place.{Place}
use Rattle.ntx_syntax.specs.declared.terminal.Terminal.{Terminal}
use Rattle.ntx_syntax.specs.declared.terminal.Terminal.TheVariants as terminal
use Rattle.ntx_parse.specs.Words.{Word}
use Rattle.ntx_parse.specs.Grammar.{Placed, Is, within}
use Rattle.ntx_parse.specs.inner.Reading.{Answer, read, begins, Readers, readers, read_arguments, var_of, joined, assignment_to, statement_of, read_expression_statement, kind_at, values_behind}
use Rattle.ntx_parse.proofs.TerminalLemmas.{equal_terminals}
use Rattle.ntx_parse.proofs.complete.Begins.{plain, AreAllowedBefore, is_this, Starts, begins_here, comes_taken, comes_expected}
use Rattle.ntx_parse.proofs.complete.Comes.{Boundary, IsAllowedBefore, Comes, comes_then, comes_now, comes_if, comes_else, comes_read}
use Rattle.ntx_parse.proofs.complete.Follows.{begins_prefix}
use Rattle.ntx_parse.proofs.complete.Forms.{Done, ExpsDone, PrefixDone, VarsDone}
use Rattle.ntx_parse.proofs.complete.Prefixes.{NoSuffix, suffixes_end, call_goes_on, exps_come}

-- A statement, by its first word.
abbrev pub kind_first : Readers → Place → List Word → Answer StatKind
kind_first r p [] = None
kind_first r p (o ∷ words) = kind_at r p o.is (o ∷ words)

abbrev pub KindDone : Boundary → Place → StatKind → List Placed → List Placed → Type 0
KindDone boundary p kind words rest = Done boundary (plain words) (λ n. kind_first (readers n) p (plain words)) kind rest

pub kind_is : {boundary : Boundary} {p : Place} {t : Terminal} {o : Placed} {x : Answer StatKind} (words : List Word) → Is p t o
    → Comes boundary (o.word ∷ words) (λ n. kind_at (readers n) p t (o.word ∷ words)) x
    → Comes boundary (o.word ∷ words) (λ n. kind_at (readers n) p o.word.is (o.word ∷ words)) x
kind_is {boundary} {p} {t} {o} {x} words i c = subst (λ t. Comes boundary (o.word ∷ words) (λ n. kind_at (readers n) p t (o.word ∷ words)) x) (sym i.is) c

pub kind_of_first : {boundary : Boundary} {x : Answer StatKind} (p : Place) (u : Terminal) (words : List Placed) → Starts (is_this u) words
    → Comes boundary (plain words) (λ n. kind_at (readers n) p u (plain words)) x
    → Comes boundary (plain words) (λ n. kind_first (readers n) p (plain words)) x
kind_of_first p u [] h c = elim h [ ]
kind_of_first {boundary} {x} p u (o ∷ words) h c = subst (λ t. Comes boundary (plain (o ∷ words)) (λ n. kind_at (readers n) p t (plain (o ∷ words))) x) (sym (equal_terminals o.word.is u h)) c

expression_at : {boundary : Boundary} {x : Answer StatKind} (p : Place) (words : List Word) (t : Terminal) → begins_prefix t ≡ true
    → Comes boundary words (λ n. read_expression_statement (readers n) p words) x → Comes boundary words (λ n. kind_at (readers n) p t words) x
expression_at p words terminal.Name h c = c
expression_at p words terminal.LeftParenthesis h c = c
expression_at p words _ h c = absurd (true≢false (sym h))

expression_first : {boundary : Boundary} {x : Answer StatKind} (p : Place) (words : List Placed) → Starts begins_prefix words
    → Comes boundary (plain words) (λ n. read_expression_statement (readers n) p (plain words)) x
    → Comes boundary (plain words) (λ n. kind_first (readers n) p (plain words)) x
expression_first p [] h c = elim h [ ]
expression_first p (o ∷ words) h c = expression_at p (plain (o ∷ words)) o.word.is h c

assigned : {boundary : Boundary} {x : Answer StatKind} (p : Place) (words : List Word) (v w : Var) → Some v ≡ Some w
    → Comes boundary words (λ n. assignment_to (readers n) p w words) x
    → Comes boundary words (λ n. assignment_to (readers n) p v words) x
assigned {boundary} {x} p words v w e c = let same : v ≡ w = same_Some v w e in subst (λ u. Comes boundary words (λ n. assignment_to (readers n) p u words) x) (sym same) c

statement_of_var : {boundary : Boundary} {x : Answer StatKind} (p : Place) (words : List Word) (found : Part) (v : Var) → var_of found ≡ Some v
    → Comes boundary words (λ n. assignment_to (readers n) p v words) x
    → Comes boundary words (λ n. statement_of (readers n) p found words) x
statement_of_var p words (part.Name name) v e c = assigned p words (var.Name name) v e c
statement_of_var p words (part.Parenthesized inner) v e c = absurd (none-some v e)
statement_of_var p words (part.Index before key) v e c = assigned p words (var.Index before key) v e c
statement_of_var p words (part.Field before name) v e c = assigned p words (var.Field before name) v e c
statement_of_var p words (part.Call before given) v e c = absurd (none-some v e)

pub assignment_done : {boundary : Boundary} {p : Place} {o : Placed} {vs : List Var} {es : List Exp} {rest : List Placed} (words middle : List Placed)
    → Starts begins_prefix words
    → VarsDone boundary p vs (plain words) (o ∷ middle) → Is p terminal.Assign o → (AreAllowedBefore boundary middle → ExpsDone boundary p es (plain middle) rest)
    → KindDone boundary p (stat.Assign vs es) words rest
assignment_done {p} words middle start d o more =
    let found = more d.allowed.1 in
    let all = exps_come found in
    record {
      comes = expression_first p words start (comes_then _ d.comes (statement_of_var p d.behind d.part d.one d.is_var
          (comes_then _ (d.tail []) (comes_expected _ o refl d.allowed.0 (comes_then _ all.comes (comes_read _))))));
      allowed = found.allowed;
    }

pub called_done : {boundary : Boundary} {p : Place} {prefix : Prefix} {es : List Exp} {rest : List Placed} (words middle : List Placed) → Starts begins_prefix words
    → PrefixDone boundary p prefix (plain words) middle
    → Starts (is_this terminal.LeftParenthesis) middle → (AreAllowedBefore boundary middle → Done boundary (plain middle) (λ n. read_arguments (readers n) (within p) (plain middle)) es rest)
    → NoSuffix (plain rest) → KindDone boundary p (stat.Call (record { function = prefix; arguments = es })) words rest
called_done {p} {es = es} {rest = rest} words middle start d opens more ends =
    let given = more d.allowed in
    record {
      comes = expression_first p words start (comes_then _ (d.goes_on (call_goes_on middle opens given (suffixes_end (part.Call (joined d.part) es) ends)))
          (comes_now (ap (λ q. read (stat.Call (record { function = q; arguments = es })) (plain rest)) d.joins)));
      allowed = given.allowed;
    }

-- ---- [= explist]

abbrev pub ValuesDone : Boundary → Place → List Exp → List Placed → List Placed → Type 0
ValuesDone boundary p es words rest = Done boundary (plain words) (λ n. values_behind (readers n) p (plain words)) es rest

pub no_values_done : {boundary : Boundary} (p : Place) (rest : List Placed) → begins terminal.Assign (plain rest) ≡ false → AreAllowedBefore boundary rest
    → ValuesDone boundary p [] rest rest
no_values_done p rest h allowed = record { comes = comes_else _ h (comes_read _); allowed = allowed }

pub values_done : {boundary : Boundary} {p : Place} {a : Placed} {es : List Exp} {rest : List Placed} (words : List Placed) → Is p terminal.Assign a → IsAllowedBefore boundary a (plain words)
    → ExpsDone boundary p es (plain words) rest
    → ValuesDone boundary p es (a ∷ words) rest
values_done words a allowed d = record { comes = comes_if _ (begins_here a) (comes_taken _ a refl allowed (exps_come d).comes); allowed = d.allowed }
