-- How what leaves another scope follows from what is resolved.
use Rattle.std.proofs.Common.{arith, ◌≡◌, ◌≤◌, ℕ, ◌+◌, ◌-◌, List, length, map, Option, None, Some, Result, Ok, Err, refl, sym, ◌∙◌, ap, subst}
use Rattle.std.proofs.lemmas.List.{length-append, length-map}
use Rattle.std.specs.Result.{IsErrAnd}
use Rattle.ntx_num.specs.declared.answer.Fail.{Fail}
use Rattle.ntx_num.specs.declared.answer.Fail.TheVariants.{NoMemory, Is}
use Rattle.ntx_syntax.specs.declared.fault.SyntaxFault.{SyntaxFault}
use Rattle.ntx_syntax.specs.declared.tree.LocalName.{LocalName}
use Rattle.ntx_syntax.specs.declared.tree.StatKind as tree-kind
use Rattle.ntx_resolve.specs.declared.code.Function.{Function}
use Rattle.ntx_resolve.specs.declared.state.State.{State}
use Rattle.ntx_resolve.specs.Scopes.{Scope, locals, declare}
use Rattle.ntx_resolve.specs.Limit.{Declaring, or_else, of_kind}
use Rattle.ntx_resolve.proofs.Resolving.{longer}
use Rattle.ntx_resolve.specs.inner.Allows.{Allows}
use Rattle.ntx_resolve.specs.inner.Resolves.{Grows, Resolves, went, refused, out_of_memory, Leaves, left, refused_there, no_memory}

pub kept : {A : Type 0} {l : Option ℕ} {is : Scope → List Function → A → Type 0} {are : Scope → List Function → A → Scope → Type 0} {old new : State} {r : Result A (Fail SyntaxFault)}
    → Resolves l is old r new → ((s : Scope) (all : List Function) (a : A) → is s all a → are s all a s) → Leaves l are old r new
kept {are = are} {old = old} (went {a = a} none grows stay holds) make =
    left none grows (λ all more. subst (λ t. are old.scope all a t) (sym stay) (make old.scope all a (holds all more)))
kept (refused line why) make = refused_there line why
kept out_of_memory make = no_memory

pub said_there : {A : Type 0} {l m : Option ℕ} {is : Scope → List Function → A → Scope → Type 0} {old new : State} {r : Result A (Fail SyntaxFault)}
    → l ≡ m → Leaves m is old r new → Leaves l is old r new
said_there {is = is} {old = old} {new = new} {r = r} same h = subst (λ x. Leaves x is old r new) (sym same) h

pub no_memory_there : {A : Type 0} {l : Option ℕ} {is : Scope → List Function → A → Scope → Type 0} {old new : State} (r : Result A (Fail SyntaxFault))
    → IsErrAnd r (λ y. y ≡ NoMemory) → Leaves l is old r new
no_memory_there (Ok b) is = absurd is
no_memory_there (Err y) is = rw is no_memory

fault_there : {A B : Type 0} {l : Option ℕ} {is : Scope → List Function → A → Type 0} {are : Scope → List Function → B → Scope → Type 0} {e : Fail SyntaxFault}
    {old newer new : State} {first : State} → Resolves l is first (Err e) new → Leaves l are old (Err e) newer
fault_there (refused line why) = refused_there line why
fault_there out_of_memory = no_memory

pub err_there : {A B : Type 0} {l : Option ℕ} {is : Scope → List Function → A → Type 0} {are : Scope → List Function → B → Scope → Type 0} {e : Fail SyntaxFault}
    {old newer new first : State} (r : Result B (Fail SyntaxFault)) → IsErrAnd r (λ y. y ≡ e) → Resolves l is first (Err e) new → Leaves l are old r newer
err_there (Ok b) is h = absurd is
err_there (Err y) is h = rw is (fault_there h)

pub allowed_there : {A : Type 0} {l m : Option ℕ} {is : Scope → List Function → A → Scope → Type 0} {old new : State} {r : Result A (Fail SyntaxFault)}
    → l ≡ None → Leaves m is old r new → Leaves (or_else l m) is old r new
allowed_there {m = m} none h = said_there (ap (λ x. or_else x m) none) h

not_allowed_with : {A : Type 0} (l m : Option ℕ) {is : Scope → List Function → A → Scope → Type 0} (e : Fail SyntaxFault) {old new : State}
    → Allows l (Err e) → Leaves (or_else l m) is old (Err e) new
not_allowed_with l m (Is fault) h = refused_there (ap (λ x. or_else x m) h.0) h.1
not_allowed_with l m NoMemory h = absurd h

pub not_allowed_there : {A : Type 0} (l m : Option ℕ) {is : Scope → List Function → A → Scope → Type 0} (e : Fail SyntaxFault) {old new : State}
    (r : Result A (Fail SyntaxFault)) → IsErrAnd r (λ y. y ≡ e) → Allows l (Err e) → Leaves (or_else l m) is old r new
not_allowed_there l m e (Ok b) by h = absurd by
not_allowed_there l m e (Err y) by h = rw by (not_allowed_with l m e h)

-- Names that are declared after what is resolved.
pub declared : {A B : Type 0} {l : Option ℕ} {is : Scope → List Function → A → Type 0} {are : Scope → List Function → B → Scope → Type 0} {a : A} {b : B}
    {old middle : State} (new : State) (names : List LocalName) → Resolves l is old (Ok a) middle → new.functions ≡ middle.functions → new.scope ≡ declare middle.scope names
    → ((all : List Function) → is old.scope all a → are old.scope all b (declare old.scope names)) → Leaves l are old (Ok b) new
declared {are = are} {b = b} {old = old} new names (went none grows stay holds) same scope make =
    left none (subst (λ fs. Grows old.functions fs) (sym same) grows)
    (λ all more. subst (λ t. are old.scope all b t) (sym (scope ∙ ap (λ s. declare s names) stay)) (make all (holds all (subst (λ fs. Grows fs all) same more))))

-- Names that are declared before what is resolved.
pub declared_first : {A B : Type 0} {l : Option ℕ} {is : Scope → List Function → A → Type 0} {are : Scope → List Function → B → Scope → Type 0} {a : A} {b : B}
    {old middle new : State} (names : List LocalName) → middle.functions ≡ old.functions → middle.scope ≡ declare old.scope names → Resolves l is middle (Ok a) new
    → ((all : List Function) → is (declare old.scope names) all a → are old.scope all b (declare old.scope names)) → Leaves l are old (Ok b) new
declared_first {is = is} {are = are} {a = a} {b = b} {old = old} {new = new} names same scope (went none grows stay holds) make =
    left none (subst (λ fs. Grows fs new.functions) same grows)
    (λ all more. subst (λ t. are old.scope all b t) (sym (stay ∙ scope)) (make all (subst (λ s. is s all a) scope (holds all more))))

-- How many local variables are in scope after names are declared.
pub counted : (k : tree-kind.StatKind) {d : Declaring} (s : Scope) (names : List LocalName) → s.from ≤ length s.names → of_kind k ≡ d → d.declares ≡ length names
    → locals (declare s names) ≡ locals s + (of_kind k).declares
counted k s names within is more =
    let e = ap (λ d. d.declares) is ∙ more in
    let l = length-append s.names (map (λ n. n.name) names) in
    let m = length-map names (λ n. n.name) in
    omega (arith, e, l, m, within)

pub widen_there : {A : Type 0} {l : Option ℕ} {is are : Scope → List Function → A → Scope → Type 0} {old new : State} {r : Result A (Fail SyntaxFault)}
    → ((s : Scope) (all : List Function) (a : A) (t : Scope) → is s all a t → are s all a t) → Leaves l is old r new → Leaves l are old r new
widen_there {old = old} {new = new} more (left none grows holds) = left none grows (λ all longer. more old.scope all _ new.scope (holds all longer))
widen_there more (refused_there line why) = refused_there line why
widen_there more no_memory = no_memory

err_after : {A B : Type 0} {l : Option ℕ} (m : Option ℕ) {is : Scope → List Function → A → Scope → Type 0} {are : Scope → List Function → B → Scope → Type 0} {e : Fail SyntaxFault}
    {old new newer : State} → Leaves l is old (Err e) new → Leaves (or_else l m) are old (Err e) newer
err_after m (refused_there line why) = refused_there (ap (λ x. or_else x m) line) why
err_after m no_memory = no_memory

-- A part that is not the last, and that a `?` ends.
pub err_by_there : {A B : Type 0} {l : Option ℕ} (m : Option ℕ) {is : Scope → List Function → A → Scope → Type 0} {are : Scope → List Function → B → Scope → Type 0} {e : Fail SyntaxFault}
    {old new newer : State} (r : Result B (Fail SyntaxFault)) → IsErrAnd r (λ y. y ≡ e) → Leaves l is old (Err e) new → Leaves (or_else l m) are old r newer
err_by_there m (Ok b) is h = absurd is
err_by_there m (Err y) is h = rw is (err_after m h)

last_fault : {A B : Type 0} {l : Option ℕ} {is : Scope → List Function → A → Scope → Type 0} {are : Scope → List Function → B → Scope → Type 0} {e : Fail SyntaxFault}
    {old new newer : State} → Leaves l is old (Err e) new → Leaves l are old (Err e) newer
last_fault (refused_there line why) = refused_there line why
last_fault no_memory = no_memory

pub last_err_there : {A B : Type 0} {l : Option ℕ} {is : Scope → List Function → A → Scope → Type 0} {are : Scope → List Function → B → Scope → Type 0} {e : Fail SyntaxFault}
    {old new newer : State} (r : Result B (Fail SyntaxFault)) → IsErrAnd r (λ y. y ≡ e) → Leaves l is old (Err e) new → Leaves l are old r newer
last_err_there (Ok b) is h = absurd is
last_err_there (Err y) is h = rw is (last_fault h)

pub last_there : {A B : Type 0} {l : Option ℕ} {is : Scope → List Function → A → Scope → Type 0} {are : Scope → List Function → B → Scope → Type 0} {a : A} {b : B} {old new : State}
    → Leaves l is old (Ok a) new → ((s t : Scope) (all : List Function) → is s all a t → are s all b t) → Leaves l are old (Ok b) new
last_there {old = old} {new = new} (left none grows holds) make = left none grows (λ all more. make old.scope new.scope all (holds all more))

-- The first part is there, and the rest is this, in the scope that the first part leaves.
pub ok_there : {A B : Type 0} {l m : Option ℕ} {is : Scope → List Function → A → Scope → Type 0} {are both : Scope → List Function → B → Scope → Type 0} {a : A}
    {old middle new : State} {r : Result B (Fail SyntaxFault)} → Leaves l is old (Ok a) middle → Leaves m are middle r new
    → ((all : List Function) (b : B) (t : Scope) → is old.scope all a middle.scope → are middle.scope all b t → both old.scope all b t) → Leaves (or_else l m) both old r new
ok_there {m = m} {old = old} {middle = middle} {new = new} (left none grows holds) (left none2 grows2 holds2) make =
    left (ap (λ x. or_else x m) none ∙ none2) (longer old.functions middle.functions new.functions grows grows2)
    (λ all more. make all _ new.scope (holds all (longer middle.functions new.functions all grows2 more)) (holds2 all more))
ok_there {m = m} (left none grows holds) (refused_there line why) make = refused_there (ap (λ x. or_else x m) none ∙ line) why
ok_there (left none grows holds) no_memory make = no_memory

-- The last part keeps the scope.
pub ok_here : {A B C : Type 0} {l m : Option ℕ} {is : Scope → List Function → A → Scope → Type 0} {are : Scope → List Function → B → Type 0} {both : Scope → List Function → C → Scope → Type 0}
    {a : A} {b : B} {c : C} {old middle new : State} → Leaves l is old (Ok a) middle → Resolves m are middle (Ok b) new
    → ((s t : Scope) (all : List Function) → is s all a t → are t all b → both s all c t) → Leaves (or_else l m) both old (Ok c) new
ok_here {m = m} {both = both} {c = c} {old = old} {middle = middle} {new = new} (left none grows holds) (went none2 grows2 stay holds2) make =
    left (ap (λ x. or_else x m) none ∙ none2) (longer old.functions middle.functions new.functions grows grows2)
    (λ all more. subst (λ t. both old.scope all c t) (sym stay) (make old.scope middle.scope all (holds all (longer middle.functions new.functions all grows2 more)) (holds2 all more)))

fault_after : {A B C : Type 0} {l m : Option ℕ} {is : Scope → List Function → A → Scope → Type 0} {are : Scope → List Function → B → Type 0} {both : Scope → List Function → C → Scope → Type 0}
    {a : A} {e : Fail SyntaxFault} {old middle new newer : State} → Leaves l is old (Ok a) middle → Resolves m are middle (Err e) new → Leaves (or_else l m) both old (Err e) newer
fault_after {m = m} (left none grows holds) (refused line why) = refused_there (ap (λ x. or_else x m) none ∙ line) why
fault_after (left none grows holds) out_of_memory = no_memory

pub err_here_after : {A B C : Type 0} {l m : Option ℕ} {is : Scope → List Function → A → Scope → Type 0} {are : Scope → List Function → B → Type 0} {both : Scope → List Function → C → Scope → Type 0}
    {a : A} {e : Fail SyntaxFault} {old middle new newer : State} (r : Result C (Fail SyntaxFault)) → IsErrAnd r (λ y. y ≡ e)
    → Leaves l is old (Ok a) middle → Resolves m are middle (Err e) new → Leaves (or_else l m) both old r newer
err_here_after (Ok b) is first h = absurd is
err_here_after (Err y) is first h = rw is (fault_after first h)
