-- A block adds names to the scope, and takes none away.
use Rattle.std.proofs.Common.{arith, ◌≡◌, ◌≤◌, ℕ, ◌+◌, ◌-◌, List, [], ◌++◌, length, map, take, Option, None, Some, Result, Ok, Err, refl, sym, ◌∙◌, ap, subst}
use Rattle.std.proofs.lemmas.List.{append_assoc, append-nil, length-append, length-map}
use Rattle.std.proofs.Math.Seq.{take-append_seam}
use Rattle.std.specs.Result.{IsErrAnd}
use Rattle.ntx_num.specs.declared.answer.Fail.{Fail}
use Rattle.ntx_syntax.specs.declared.fault.SyntaxFault.{SyntaxFault}
use Rattle.ntx_syntax.specs.declared.tree.LocalName.{LocalName}
use Rattle.ntx_syntax.specs.declared.tree.Block as tree-block
use Rattle.ntx_syntax.specs.declared.tree.Stat as tree-stat
use Rattle.ntx_syntax.specs.declared.tree.StatKind as tree-kind
use Rattle.ntx_resolve.specs.declared.code.Function.{Function}
use Rattle.ntx_resolve.specs.declared.code.Block.{Block}
use Rattle.ntx_resolve.specs.declared.code.Stat.{Stat}
use Rattle.ntx_resolve.specs.declared.code.StatKind.{StatKind}
use Rattle.ntx_resolve.specs.declared.state.State.{State}
use Rattle.ntx_resolve.specs.Scopes.{Scope, locals, declare, enter}
use Rattle.ntx_resolve.specs.HasCode.{IsBlock, block, IsStats, next_stat, no_stats, IsKind, empty, assign, call, break, do_block, while, repeat, if_stat, numeric_for, generic_for, function_stat, local_function, local}
use Rattle.ntx_resolve.specs.Limit.{or_else, excess_of_block, excess_of_names}
use Rattle.ntx_resolve.specs.inner.Closed.{IsClosed}
use Rattle.ntx_resolve.specs.inner.Resolves.{Grows, Resolves, went, refused, out_of_memory, Leaves, left, refused_there, no_memory}
use Rattle.ntx_resolve.proofs.Resolving.{stays, longer}

-- This scope has the names of that one, and others after them.
abbrev pub Extends : Scope → Scope → Type 0
Extends s t = (more : List (List ℕ)) × (t.names ≡ s.names ++ more) × (t.from ≡ s.from)

same : (s : Scope) → Extends s s
same s = ([], sym (append-nil s.names), refl)

further : (s t u : Scope) → Extends s t → Extends t u → Extends s u
further s t u (xs, first, from) (ys, second, from2) =
    (xs ++ ys, second ∙ ap (λ z. z ++ ys) first ∙ append_assoc s.names xs ys, from2 ∙ from)

pub by_kind : {all : List Function} {s t : Scope} {k : tree-kind.StatKind} {c : StatKind} → IsKind all s k c t → Extends s t
by_kind (empty {s}) = same s
by_kind (assign {s} _ _) = same s
by_kind (call {s} _ _) = same s
by_kind (break {s}) = same s
by_kind (do_block {s} _) = same s
by_kind (while {s} _ _) = same s
by_kind (repeat {s} _ _) = same s
by_kind (if_stat {s} _ _) = same s
by_kind (numeric_for {s} _ _ _ _) = same s
by_kind (generic_for {s} _ _) = same s
by_kind (function_stat {s} _ _) = same s
by_kind (local_function {s} {name} _) = (_, refl, refl)
by_kind (local {s} {names} _) = (_, refl, refl)

by_stats : {all : List Function} {s t : Scope} {ts : List tree-stat.Stat} {cs : List Stat} → IsStats all s ts cs t → Extends s t
by_stats (no_stats {s}) = same s
by_stats (next_stat {s} {between} {after} line kind rest) = further s between after (by_kind kind) (by_stats rest)

pub by_block : {all : List Function} {s t : Scope} {b : tree-block.Block} {c : Block} → IsBlock all s b c t → Extends s t
by_block (block stats last) = by_stats stats

pub taken : (s t : Scope) → Extends s t → take (length s.names) t.names ≡ s.names
taken s t (more, is, from) = ap (take (length s.names)) is ∙ take-append_seam s.names more

-- the scope to which a mark goes back
back : (s m after : Scope) (n f : ℕ) → n ≡ length s.names → f ≡ s.from → after ≡ record { names = take n m.names; from = f }
    → after ≡ record { names = take (length s.names) m.names; from = s.from }
back s m after n f names from is = is ∙ ap (λ z. record { names = take z m.names; from = f }) names ∙ ap (λ z. record { names = take (length s.names) m.names; from = z }) from

-- What is refused in a block.
pub fault_here : {A B : Type 0} {l : Option ℕ} {is : Scope → List Function → A → Scope → Type 0} {are : Scope → List Function → B → Type 0} {e : Fail SyntaxFault}
    {old new newer first : State} → Leaves l is first (Err e) new → Resolves l are old (Err e) newer
fault_here (refused_there line why) = refused line why
fault_here no_memory = out_of_memory

pub err_here : {A B : Type 0} {l : Option ℕ} {is : Scope → List Function → A → Scope → Type 0} {are : Scope → List Function → B → Type 0} {e : Fail SyntaxFault}
    {old new newer first : State} (r : Result B (Fail SyntaxFault)) → IsErrAnd r (λ y. y ≡ e) → Leaves l is first (Err e) new → Resolves l are old r newer
err_here (Ok b) is h = absurd is
err_here (Err y) is h = rw is (fault_here h)

fault_then : {A B C : Type 0} {l m : Option ℕ} {is : Scope → List Function → A → Scope → Type 0} {are : Scope → List Function → B → Type 0} {both : Scope → List Function → C → Type 0}
    {a : A} {e : Fail SyntaxFault} {old middle new newer : State} → Leaves l is old (Ok a) middle → Resolves m are middle (Err e) new → Resolves (or_else l m) both old (Err e) newer
fault_then {m = m} (left none grows holds) (refused line why) = refused (ap (λ x. or_else x m) none ∙ line) why
fault_then (left none grows holds) out_of_memory = out_of_memory

-- What is refused in a block that is not the last part.
pub first_err_here : {A B : Type 0} {l : Option ℕ} (m : Option ℕ) {is : Scope → List Function → A → Scope → Type 0} {are : Scope → List Function → B → Type 0} {e : Fail SyntaxFault}
    {old new newer first : State} (r : Result B (Fail SyntaxFault)) → IsErrAnd r (λ y. y ≡ e) → Leaves l is first (Err e) new → Resolves (or_else l m) are old r newer
first_err_here m (Ok b) is h = absurd is
first_err_here m (Err y) is (refused_there line why) = rw is (refused (ap (λ x. or_else x m) line) why)
first_err_here m (Err y) is no_memory = rw is out_of_memory

pub longer_after : {l : Option ℕ} {b : tree-block.Block} {c : Block} {old new : State} → Leaves l (λ s all c t. IsBlock all s b c t) old (Ok c) new
    → length old.scope.names ≤ length new.scope.names
longer_after {old = old} {new = new} (left none grows holds) =
    let e = by_block (holds new.functions (stays new.functions)) in
    let l = ap length e.1 ∙ length-append old.scope.names e.0 in
    omega (arith, l)

-- A block whose names go out of scope after it.
pub closed : {l : Option ℕ} {b : tree-block.Block} {c : Block} {old middle : State} (new : State) → Leaves l (λ s all c t. IsBlock all s b c t) old (Ok c) middle
    → new.functions ≡ middle.functions → (n f : ℕ) → n ≡ length old.scope.names → f ≡ old.scope.from → new.scope ≡ record { names = take n middle.scope.names; from = f }
    → Resolves l (λ s all c. IsClosed all s b c) old (Ok c) new
closed {old = old} {middle = middle} new (left none grows holds) same n f names from scope =
    let e = by_block (holds middle.functions (stays middle.functions)) in
    went none (subst (λ fs. Grows old.functions fs) (sym same) grows)
    (back old.scope middle.scope new.scope n f names from scope ∙ ap (λ z. record { names = z; from = old.scope.from }) (taken old.scope middle.scope e))
    (λ all more. (middle.scope, holds all (subst (λ fs. Grows fs all) same more)))

-- A block in a scope with more names, to which a mark goes back after it.
pub enclosed : (inner : Scope → Scope) (more : List (List ℕ)) {b : tree-block.Block} {c : Block} {old entered middle : State} (new : State)
    → (inner old.scope).names ≡ old.scope.names ++ more → entered.functions ≡ old.functions → entered.scope ≡ inner old.scope
    → Leaves (excess_of_block b (locals entered.scope)) (λ s all c t. IsBlock all s b c t) entered (Ok c) middle
    → new.functions ≡ middle.functions → (n f : ℕ) → n ≡ length old.scope.names → f ≡ old.scope.from → new.scope ≡ record { names = take n middle.scope.names; from = f }
    → Resolves (excess_of_block b (locals (inner old.scope))) (λ s all c. IsClosed all (inner s) b c) old (Ok c) new
enclosed inner more {b = b} {c = c} {old = old} {entered = entered} {middle = middle} new names functions scope (left none grows holds) same n f here from after =
    let e : Extends (inner old.scope) middle.scope = subst (λ s. Extends s middle.scope) scope (by_block (holds middle.functions (stays middle.functions))) in
    let g : Extends (record { names = old.scope.names; from = middle.scope.from }) middle.scope =
    (more ++ e.0, e.1 ∙ ap (λ z. z ++ e.0) names ∙ append_assoc old.scope.names more e.0, refl) in
    went (ap (λ s. excess_of_block b (locals s)) (sym scope) ∙ none)
    (subst (λ fs. Grows fs new.functions) functions (subst (λ fs. Grows entered.functions fs) (sym same) grows))
    (back old.scope middle.scope new.scope n f here from after ∙ ap (λ z. record { names = z; from = old.scope.from }) (taken (record { names = old.scope.names; from = middle.scope.from }) middle.scope g))
    (λ all more. (middle.scope, subst (λ s. IsBlock all s b c middle.scope) scope (holds all (subst (λ fs. Grows fs all) same more))))

pub locals-entered : (s : Scope) (names : List LocalName) → locals (declare (enter s) names) ≡ length names
locals-entered s names =
    let l = length-append s.names (map (λ n. n.name) names) in
    let m = length-map names (λ n. n.name) in
    omega (arith, l, m)

pub locals-declared : (s : Scope) (names : List LocalName) → s.from ≤ length s.names → locals (declare s names) ≡ locals s + length names
locals-declared s names within =
    let l = length-append s.names (map (λ n. n.name) names) in
    let m = length-map names (λ n. n.name) in
    omega (arith, l, m, within)

-- No parameter is one too many for what the function declares itself.
pub room : (s entered : Scope) (ps qs : List LocalName) → entered ≡ enter s → ps ≡ qs → excess_of_names (locals entered) ps ≡ excess_of_names 0 qs
room s entered ps qs is same =
    let none : locals (enter s) ≡ 0 = omega arith in
    ap (λ t. excess_of_names (locals t) ps) is ∙ ap (λ n. excess_of_names n ps) none ∙ ap (excess_of_names 0) same

-- The names in scope at a mark are still in scope after a block in a scope with more names.
pub longer_from : (inner : Scope) {l : Option ℕ} {b : tree-block.Block} {c : Block} (s : Scope) (more : List (List ℕ)) {old new : State} → inner.names ≡ s.names ++ more
    → old.scope ≡ inner → Leaves l (λ s all c t. IsBlock all s b c t) old (Ok c) new → length s.names ≤ length new.scope.names
longer_from inner s more {old = old} {new = new} names scope h =
    let l = longer_after h in
    let m = ap (λ t. length t.names) scope in
    let n = ap length names ∙ length-append s.names more in
    omega (arith, l, m, n)

-- A block and what is resolved in the scope that it leaves.
pub repeated : {l m : Option ℕ} {b : tree-block.Block} {c : Block} {A B : Type 0} {is : Scope → List Function → A → Type 0} {are : Scope → List Function → B → Type 0} {a : A} {d : B}
    {old middle after : State} (new : State) → Leaves l (λ s all c t. IsBlock all s b c t) old (Ok c) middle → Resolves m is middle (Ok a) after
    → new.functions ≡ after.functions → (n f : ℕ) → n ≡ length old.scope.names → f ≡ old.scope.from → new.scope ≡ record { names = take n after.scope.names; from = f }
    → ((s t : Scope) (all : List Function) → IsBlock all s b c t → is t all a → are s all d) → Resolves (or_else l m) are old (Ok d) new
repeated {m = m} {old = old} {middle = middle} {after = after} new (left none grows holds) (went none2 grows2 stay holds2) same n f names from scope make =
    let e = subst (λ t. Extends old.scope t) (sym stay) (by_block (holds middle.functions (stays middle.functions))) in
    went (ap (λ x. or_else x m) none ∙ none2) (subst (λ fs. Grows old.functions fs) (sym same) (longer old.functions middle.functions after.functions grows grows2))
    (back old.scope after.scope new.scope n f names from scope ∙ ap (λ z. record { names = z; from = old.scope.from }) (taken old.scope after.scope e))
    (λ all more. let further = subst (λ fs. Grows fs all) same more in
    make old.scope middle.scope all (holds all (longer middle.functions after.functions all grows2 further)) (holds2 all further))

pub repeated_err : {A B C : Type 0} {l m : Option ℕ} {is : Scope → List Function → A → Scope → Type 0} {are : Scope → List Function → B → Type 0} {both : Scope → List Function → C → Type 0}
    {a : A} {e : Fail SyntaxFault} {old middle new newer : State} (r : Result C (Fail SyntaxFault)) → IsErrAnd r (λ y. y ≡ e)
    → Leaves l is old (Ok a) middle → Resolves m are middle (Err e) new → Resolves (or_else l m) both old r newer
repeated_err {m = m} (Ok b) is first h = absurd is
repeated_err {m = m} (Err y) is first h = rw is (fault_then first h)
