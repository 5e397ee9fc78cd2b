-- How resolvings follow one another.
use Rattle.std.proofs.Common.{◌≡◌, ℕ, List, [], ◌++◌, Option, None, Some, Result, Ok, Err, refl, sym, ◌∙◌, ap, subst}
use Rattle.std.proofs.lemmas.List.{append_assoc, append-nil}
use Rattle.std.specs.Result.{IsErrAnd}
use Rattle.ntx_num.specs.declared.answer.Fail.{Fail}
use Rattle.ntx_num.specs.declared.answer.Fail.TheVariants.{NoMemory, Is}
use Rattle.ntx_syntax.specs.declared.fault.SyntaxFault.{SyntaxFault}
use Rattle.ntx_resolve.specs.declared.code.Function.{Function}
use Rattle.ntx_resolve.specs.declared.state.State.{State}
use Rattle.ntx_resolve.specs.Scopes.{Scope}
use Rattle.ntx_resolve.specs.Limit.{or_else}
use Rattle.ntx_resolve.specs.inner.Resolves.{Grows, Resolves, went, refused, out_of_memory}

pub stays : (fs : List Function) → Grows fs fs
stays fs = ([], sym (append-nil fs))

pub longer : (a b c : List Function) → Grows a b → Grows b c → Grows a c
longer a b c (xs, first) (ys, second) = (xs ++ ys, second ∙ ap (λ z. z ++ ys) first ∙ append_assoc a xs ys)

-- the same excess, said in another way
pub said : {A : Type 0} {l m : Option ℕ} {is : Scope → List Function → A → Type 0} {old new : State} {r : Result A (Fail SyntaxFault)}
    → l ≡ m → Resolves m is old r new → Resolves l is old r new
said {is = is} {old = old} {new = new} {r = r} same h = subst (λ x. Resolves x is old r new) (sym same) h

-- The first part is there, and the rest is this.
pub ok : {A B : Type 0} {l m : Option ℕ} {is : Scope → List Function → A → Type 0} {are : Scope → List Function → B → Type 0} {a : A} {old middle new : State}
    {r : Result B (Fail SyntaxFault)} → Resolves l is old (Ok a) middle → Resolves m (λ s all b. is s all a → are s all b) middle r new
    → Resolves (or_else l m) are old r new
ok {m = m} {is = is} {are = are} {a = a} {old = old} {middle = middle} {new = new} (went none grows stay holds) (went {a = b} none2 grows2 stay2 holds2) =
    went (ap (λ x. or_else x m) none ∙ none2) (longer old.functions middle.functions new.functions grows grows2) (stay2 ∙ stay)
    (λ all more. subst (λ s. is s all a → are s all b) stay (holds2 all more) (holds all (longer middle.functions new.functions all grows2 more)))
ok {m = m} (went none grows stay holds) (refused line why) = refused (ap (λ x. or_else x m) none ∙ line) why
ok (went none grows stay holds) out_of_memory = out_of_memory

err : {A B : Type 0} {l : Option ℕ} (m : Option ℕ) {is : Scope → List Function → A → Type 0} {are : Scope → List Function → B → Type 0} {e : Fail SyntaxFault}
    {old new newer : State} → Resolves l is old (Err e) new → Resolves (or_else l m) are old (Err e) newer
err m (refused line why) = refused (ap (λ x. or_else x m) line) why
err m out_of_memory = out_of_memory

-- A part that is not the last, and that a `?` ends.
pub err_by : {A B : Type 0} {l : Option ℕ} (m : Option ℕ) {is : Scope → List Function → A → Type 0} {are : Scope → List Function → B → Type 0} {e : Fail SyntaxFault}
    {old new newer : State} (r : Result B (Fail SyntaxFault)) → IsErrAnd r (λ y. y ≡ e) → Resolves l is old (Err e) new
    → Resolves (or_else l m) are old r newer
err_by m (Ok b) is h = absurd is
err_by m (Err y) is h = rw is (err m h)

pub last_err : {A B : Type 0} {l : Option ℕ} {is : Scope → List Function → A → Type 0} {are : Scope → List Function → B → Type 0} {e : Fail SyntaxFault}
    {old new newer : State} → Resolves l is old (Err e) new → Resolves l are old (Err e) newer
last_err (refused line why) = refused line why
last_err out_of_memory = out_of_memory

-- The last part, and the whole.
pub last : {A B : Type 0} {l : Option ℕ} {is : Scope → List Function → A → Type 0} {are : Scope → List Function → B → Type 0} {a : A} {b : B} {old new : State}
    → Resolves l is old (Ok a) new → ((s : Scope) (all : List Function) → is s all a → are s all b) → Resolves l are old (Ok b) new
last {old = old} (went none grows stay holds) make = went none grows stay (λ all more. make old.scope all (holds all more))

-- The same, in the scope where it began.
pub last_here : {A B : Type 0} {l : Option ℕ} {is : Scope → List Function → A → Type 0} {are : Scope → List Function → B → Type 0} {a : A} {b : B} {old new : State}
    → Resolves l is old (Ok a) new → ((all : List Function) → is old.scope all a → are old.scope all b) → Resolves l are old (Ok b) new
last_here (went none grows stay holds) make = went none grows stay (λ all more. make all (holds all more))

pub last_err_by : {A B : Type 0} {l : Option ℕ} {is : Scope → List Function → A → Type 0} {are : Scope → List Function → B → Type 0} {e : Fail SyntaxFault}
    {old new newer : State} (r : Result B (Fail SyntaxFault)) → IsErrAnd r (λ y. y ≡ e) → Resolves l is old (Err e) new → Resolves l are old r newer
last_err_by (Ok b) is h = absurd is
last_err_by (Err y) is h = rw is (last_err h)

pub no_memory_by : {A : Type 0} {l : Option ℕ} {is : Scope → List Function → A → Type 0} {old new : State} (r : Result A (Fail SyntaxFault))
    → IsErrAnd r (λ y. y ≡ NoMemory) → Resolves l is old r new
no_memory_by (Ok b) is = absurd is
no_memory_by (Err y) is = rw is out_of_memory

-- What has no parts.
pub done : {A : Type 0} {is : Scope → List Function → A → Type 0} {a : A} {now : State} → ((all : List Function) → is now.scope all a)
    → Resolves None is now (Ok a) now
done {now = now} holds = went refl (stays now.functions) refl (λ all more. holds all)

-- the same of more
pub widen : {A : Type 0} {l : Option ℕ} {is are : Scope → List Function → A → Type 0} {old new : State} {r : Result A (Fail SyntaxFault)}
    → ((s : Scope) (all : List Function) (a : A) → is s all a → are s all a) → Resolves l is old r new → Resolves l are old r new
widen {old = old} more (went none grows stay holds) = went none grows stay (λ all longer. more old.scope all _ (holds all longer))
widen more (refused line why) = refused line why
widen more out_of_memory = out_of_memory

-- The same where the first excess of the rest depends on the scope.
pub ok_in : {A B : Type 0} {l : Option ℕ} (m : Scope → Option ℕ) {is : Scope → List Function → A → Type 0} {are : Scope → List Function → B → Type 0} {a : A} {old middle new : State}
    {r : Result B (Fail SyntaxFault)} → Resolves l is old (Ok a) middle → Resolves (m middle.scope) (λ s all b. is s all a → are s all b) middle r new
    → Resolves (or_else l (m old.scope)) are old r new
ok_in {A = A} m {is = is} {are = are} {a = a} {old = old} {middle = middle} (went none grows stay holds) h =
    ok {A = A} {is = is} {are = are} {a = a} {old = old} {middle = middle} (went none grows stay holds) (said (ap m (sym stay)) h)

pub stayed : {A : Type 0} {l : Option ℕ} {is : Scope → List Function → A → Type 0} {a : A} {old new : State} → Resolves l is old (Ok a) new → new.scope ≡ old.scope
stayed (went none grows stay holds) = stay
