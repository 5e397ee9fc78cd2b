-- Statements, resolved one after the other, each in the scope that the one before it leaves.
use Rattle.std.proofs.Common.{arith, ◌≡◌, ◌<◌, ◌≤◌, ℕ, ◌+◌, length, drop, get_or, List, [], ◌∷◌, ◌++◌, map, Option, None, Some, Result, Ok, Err, refl, sym, ◌∙◌, ap, subst}
use Rattle.std.proofs.lemmas.List.{append_assoc, append-nil, drop_more, drop_all}
use Rattle.std.specs.Result.{IsErrAnd}
use Rattle.ntx_num.specs.declared.answer.Fail.{Fail}
use Rattle.ntx_syntax.specs.declared.fault.SyntaxFault.{SyntaxFault}
use Rattle.ntx_syntax.specs.declared.tree.Stat as tree-stat
use Rattle.ntx_syntax.specs.declared.tree.StatKind as tree-kind
use Rattle.ntx_resolve.specs.declared.code.Function.{Function}
use Rattle.ntx_resolve.specs.declared.code.Stat.{Stat}
use Rattle.ntx_resolve.specs.declared.code.StatKind.{StatKind}
use Rattle.ntx_resolve.specs.declared.state.State.{State}
use Rattle.ntx_resolve.specs.HasCode.{IsStats, IsKind, next_stat, no_stats}
use Rattle.ntx_resolve.specs.Limit.{Declaring, or_else, of_kind, of_stat, excess_of_each, excess_of_stats}
use Rattle.ntx_resolve.specs.Scopes.{Scope, locals}
use Rattle.ntx_resolve.specs.inner.Counted.{IsCounted, IsStat}
use Rattle.ntx_resolve.specs.inner.Resolves.{Grows, Resolves, Leaves, left, refused_there, no_memory}
use Rattle.ntx_resolve.proofs.Resolving.{stays}
use Rattle.ntx_resolve.proofs.Leaving.{kept, said_there, ok_there, err_by_there, widen_there}
use Rattle.ntx_resolve.proofs.Lists.{After}

-- What the statements that are left are resolved to, after these codes, is what all of them are resolved to.
abbrev pub RestStats : List tree-stat.Stat → List tree-stat.Stat → List Stat → State → State → Type 0
RestStats xs ts codes now old = (r : Result (List Stat) (Fail SyntaxFault)) (new : State)
    → Leaves (excess_of_stats (locals now.scope) ts) (λ s all cs t. After codes (λ more. IsStats all s ts more t) cs) now r new
    → Leaves (excess_of_stats (locals old.scope) xs) (λ s all cs t. IsStats all s xs cs t) old r new

after_none : {xs : List tree-stat.Stat} (codes : List Stat) (s : Scope) (all : List Function) (cs : List Stat) (t : Scope) → codes ≡ []
    → After codes (λ more. IsStats all s xs more t) cs → IsStats all s xs cs t
after_none {xs = xs} codes s all cs t none (more, same, are) = subst (λ z. IsStats all s xs z t) (sym (same ∙ ap (λ z. z ++ more) none)) are

pub begun : (xs : List tree-stat.Stat) (codes : List Stat) {now : State} → codes ≡ [] → RestStats xs xs codes now now
begun xs codes none r new h = widen_there (λ s all cs t. after_none codes s all cs t none) h

at_place : (xs : List tree-stat.Stat) (n : ℕ) (x : tree-stat.Stat) (codes : List Stat) {now old : State} → x ≡ get_or xs n x → n < length xs
    → RestStats xs (drop n xs) codes now old → RestStats xs (x ∷ drop (n + 1) xs) codes now old
at_place xs n x codes {now} {old} is within rest =
    subst (λ ts. RestStats xs ts codes now old) (drop_more xs n x within ∙ ap (λ z. z ∷ drop (n + 1) xs) (sym is)) rest

pub failed_at : (xs : List tree-stat.Stat) (n : ℕ) (x : tree-stat.Stat) (codes : List Stat) {now old new newer : State} {e : Fail SyntaxFault}
    (r : Result (List Stat) (Fail SyntaxFault)) → x ≡ get_or xs n x → n < length xs → RestStats xs (drop n xs) codes now old → IsErrAnd r (λ y. y ≡ e)
    → Leaves ((of_stat x).excess (locals now.scope)) (λ s all c t. IsStat all s x c t) now (Err e) new
    → Leaves (excess_of_stats (locals old.scope) xs) (λ s all cs t. IsStats all s xs cs t) old r newer
failed_at xs n x codes {now = now} r is within rest by h =
    at_place xs n x codes is within rest r _ (err_by_there (excess_of_stats (locals now.scope + (of_stat x).declares) (drop (n + 1) xs)) r by h)

after_next : {ts : List tree-stat.Stat} {x : tree-stat.Stat} {c : Stat} {s between end : Scope} (codes codes2 : List Stat) → codes2 ≡ codes ++ c ∷ []
    → (all : List Function) (cs : List Stat) → IsStat all s x c between → After codes2 (λ more. IsStats all between ts more end) cs
    → After codes (λ more. IsStats all s (x ∷ ts) more end) cs
after_next {c = c} codes codes2 longer all cs (line, count, is) (more, same, are) =
    (c ∷ more, same ∙ ap (λ z. z ++ more) longer ∙ append_assoc codes (c ∷ []) more, next_stat line is are)

count : {l : Option ℕ} {x : tree-stat.Stat} {c : Stat} {now middle : State} → Leaves l (λ s all c t. IsStat all s x c t) now (Ok c) middle
    → locals middle.scope ≡ locals now.scope + (of_stat x).declares
count {middle = middle} (left none grows holds) = (holds middle.functions (stays middle.functions)).1

step : (x : tree-stat.Stat) (ts : List tree-stat.Stat) (c : Stat) (codes codes2 : List Stat) {now middle new : State} {r : Result (List Stat) (Fail SyntaxFault)}
    → codes2 ≡ codes ++ c ∷ []
    → Leaves ((of_stat x).excess (locals now.scope)) (λ s all c t. IsStat all s x c t) now (Ok c) middle
    → Leaves (excess_of_stats (locals middle.scope) ts) (λ s all cs t. After codes2 (λ more. IsStats all s ts more t) cs) middle r new
    → Leaves (excess_of_stats (locals now.scope) (x ∷ ts)) (λ s all cs t. After codes (λ more. IsStats all s (x ∷ ts) more t) cs) now r new
step x ts c codes codes2 longer part h =
    ok_there part (said_there (ap (λ n. excess_of_each n (map of_stat ts)) (sym (count part))) h) (λ all cs t. after_next codes codes2 longer all cs)

pub gone_on_at : (xs : List tree-stat.Stat) (n : ℕ) (x : tree-stat.Stat) (c : Stat) (codes codes2 : List Stat) {now old middle : State}
    → x ≡ get_or xs n x → n < length xs → RestStats xs (drop n xs) codes now old
    → Leaves ((of_stat x).excess (locals now.scope)) (λ s all c t. IsStat all s x c t) now (Ok c) middle → codes2 ≡ codes ++ c ∷ []
    → RestStats xs (drop (n + 1) xs) codes2 middle old
gone_on_at xs n x c codes codes2 is inside rest part longer r new h =
    at_place xs n x codes is inside rest r new (step x (drop (n + 1) xs) c codes codes2 longer part h)

pub ended_at : (xs : List tree-stat.Stat) (n : ℕ) (codes : List Stat) {now old : State} → length xs ≤ n → RestStats xs (drop n xs) codes now old
    → Leaves (excess_of_stats (locals old.scope) xs) (λ s all cs t. IsStats all s xs cs t) old (Ok codes) now
ended_at xs n codes {now} {old} past rest =
    subst (λ ts. RestStats xs ts codes now old) (drop_all n xs past) rest _ _
    (left refl (stays now.functions) (λ all more. ([], sym (append-nil codes), no_stats)))

-- ---- what a statement is

pub in_kind : {e e2 : tree-kind.StatKind} {old new : State} {r : Result StatKind (Fail SyntaxFault)} → e ≡ e2
    → Leaves ((of_kind e2).excess (locals old.scope)) (λ s all c t. IsCounted all s e2 c t) old r new → Leaves ((of_kind e).excess (locals old.scope)) (λ s all c t. IsCounted all s e c t) old r new
in_kind {old = old} {new = new} {r = r} is h = subst (λ e. Leaves ((of_kind e).excess (locals old.scope)) (λ s all c t. IsCounted all s e c t) old r new) (sym is) h

counts_none : (k : tree-kind.StatKind) {d : Declaring} (s : Scope) → of_kind k ≡ d → d.declares ≡ 0 → locals s ≡ locals s + (of_kind k).declares
counts_none k s is none = let e = ap (λ d. d.declares) is ∙ none in omega (arith, e)

-- A statement that declares no name.
pub plain : (k : tree-kind.StatKind) {d : Declaring} {old new : State} {r : Result StatKind (Fail SyntaxFault)} → of_kind k ≡ d → d.declares ≡ 0
    → Resolves (d.excess (locals old.scope)) (λ s all c. IsKind all s k c s) old r new
    → Leaves ((of_kind k).excess (locals old.scope)) (λ s all c t. IsCounted all s k c t) old r new
plain k {old = old} is none h =
    said_there (ap (λ d. d.excess (locals old.scope)) is) (kept h (λ s all c is_kind. (counts_none k s is none, is_kind)))

-- A statement that declares names.
pub names : (k : tree-kind.StatKind) {d : Declaring} {old new : State} {r : Result StatKind (Fail SyntaxFault)} → of_kind k ≡ d
    → Leaves (d.excess (locals old.scope)) (λ s all c t. IsCounted all s k c t) old r new
    → Leaves ((of_kind k).excess (locals old.scope)) (λ s all c t. IsCounted all s k c t) old r new
names k {old = old} is h = said_there (ap (λ d. d.excess (locals old.scope)) is) h
