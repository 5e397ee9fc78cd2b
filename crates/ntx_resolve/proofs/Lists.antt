-- Lists, resolved one part after the other.
--     Rest excess Are xs left codes now old      what the parts that are left are resolved to, after these codes, is what all of them are resolved to
use Rattle.std.proofs.Common.{◌≡◌, ◌<◌, ◌≤◌, ℕ, ◌+◌, length, drop, get_or, List, [], ◌∷◌, ◌++◌, map, Option, None, Some, Result, Ok, Err, refl, sym, ◌∙◌, ap, subst}
use Rattle.std.proofs.lemmas.List.{append_assoc, append-nil, drop_more, drop_all}
use Rattle.std.specs.Result.{IsErrAnd}
use Rattle.ntx_num.specs.declared.answer.Fail.{Fail}
use Rattle.ntx_syntax.specs.declared.fault.SyntaxFault.{SyntaxFault}
use Rattle.ntx_resolve.specs.declared.code.Function.{Function}
use Rattle.ntx_resolve.specs.declared.state.State.{State}
use Rattle.ntx_resolve.specs.Scopes.{Scope}
use Rattle.ntx_resolve.specs.Limit.{or_else, first}
use Rattle.ntx_resolve.specs.inner.Resolves.{Resolves}
use Rattle.ntx_resolve.proofs.Resolving.{ok, err_by, done, widen}

-- these codes, and after them those of the parts that are left
abbrev pub After : {C : Type 0} → List C → (List C → Type 0) → List C → Type 0
After {C} codes Are cs = (more : List C) × (cs ≡ codes ++ more) × Are more

abbrev pub Rest : {A C : Type 0} → (A → Option ℕ) → (Scope → List Function → List A → List C → Type 0) → List A → List A → List C → State → State → Type 0
Rest {C = C} excess Are xs left codes now old = (r : Result (List C) (Fail SyntaxFault)) (new : State)
    → Resolves (first (map excess left)) (λ s all cs. After codes (Are s all left) cs) now r new → Resolves (first (map excess xs)) (λ s all cs. Are s all xs cs) old r new

module _ {A C : Type 0} (excess : A → Option ℕ) (Are : Scope → List Function → List A → List C → Type 0) where
  after_none : {xs : List A} (codes : List C) (s : Scope) (all : List Function) (cs : List C) → codes ≡ [] → After codes (Are s all xs) cs → Are s all xs cs
  after_none {xs = xs} codes s all cs none (more, same, are) = subst (λ z. Are s all xs z) (sym (same ∙ ap (λ z. z ++ more) none)) are

  pub begun : (xs : List A) (codes : List C) {now : State} → codes ≡ [] → Rest excess Are xs xs codes now now
  begun xs codes none r new h = widen (λ s all cs. after_none codes s all cs none) h

  pub ended : {xs : List A} (codes : List C) {now old : State} → ((s : Scope) (all : List Function) → Are s all [] []) → Rest excess Are xs [] codes now old
      → Resolves (first (map excess xs)) (λ s all cs. Are s all xs cs) old (Ok codes) now
  ended codes none rest = rest _ _ (done (λ all. ([], sym (append-nil codes), none _ all)))

  module _ (Is : Scope → List Function → A → C → Type 0) where
    pub failed : {xs left : List A} (x : A) (codes : List C) {now old new newer : State} {e : Fail SyntaxFault} (r : Result (List C) (Fail SyntaxFault))
        → Rest excess Are xs (x ∷ left) codes now old → IsErrAnd r (λ y. y ≡ e) → Resolves (excess x) (λ s all c. Is s all x c) now (Err e) new
        → Resolves (first (map excess xs)) (λ s all cs. Are s all xs cs) old r newer
    failed {left = left} x codes r rest is h = rest r _ (err_by (first (map excess left)) r is h)

    after_next : {left : List A} {x : A} {c : C} (codes codes2 : List C) → ((s : Scope) (all : List Function) (c : C) (cs : List C) → Is s all x c → Are s all left cs → Are s all (x ∷ left) (c ∷ cs))
        → codes2 ≡ codes ++ c ∷ [] → (s : Scope) (all : List Function) (cs : List C) → After codes2 (Are s all left) cs → Is s all x c → After codes (Are s all (x ∷ left)) cs
    after_next {c = c} codes codes2 next longer s all cs (more, same, are) is =
        (c ∷ more, same ∙ ap (λ z. z ++ more) longer ∙ append_assoc codes (c ∷ []) more, next s all c more is are)

    pub gone_on : {xs left : List A} (x : A) {c : C} (codes codes2 : List C) {now old middle : State}
        → ((s : Scope) (all : List Function) (c : C) (cs : List C) → Is s all x c → Are s all left cs → Are s all (x ∷ left) (c ∷ cs)) → Rest excess Are xs (x ∷ left) codes now old
        → Resolves (excess x) (λ s all c. Is s all x c) now (Ok c) middle → codes2 ≡ codes ++ c ∷ [] → Rest excess Are xs left codes2 middle old
    gone_on x codes codes2 next rest part longer r new h = rest r new (ok part (widen (λ s all cs. after_next codes codes2 next longer s all cs) h))

    -- the same at a place of the list
    at_place : (xs : List A) (n : ℕ) (x : A) (codes : List C) {now old : State} → x ≡ get_or xs n x → n < length xs
        → Rest excess Are xs (drop n xs) codes now old → Rest excess Are xs (x ∷ drop (n + 1) xs) codes now old
    at_place xs n x codes {now} {old} is within rest =
        subst (λ left. Rest excess Are xs left codes now old) (drop_more xs n x within ∙ ap (λ z. z ∷ drop (n + 1) xs) (sym is)) rest

    pub failed_at : (xs : List A) (n : ℕ) (x : A) (codes : List C) {now old new newer : State} {e : Fail SyntaxFault} (r : Result (List C) (Fail SyntaxFault))
        → x ≡ get_or xs n x → n < length xs → Rest excess Are xs (drop n xs) codes now old → IsErrAnd r (λ y. y ≡ e) → Resolves (excess x) (λ s all c. Is s all x c) now (Err e) new
        → Resolves (first (map excess xs)) (λ s all cs. Are s all xs cs) old r newer
    failed_at xs n x codes r is within rest by h = failed x codes r (at_place xs n x codes is within rest) by h

    pub gone_on_at : (xs : List A) (n : ℕ) (x : A) {c : C} (codes codes2 : List C) {now old middle : State}
        → ((s : Scope) (all : List Function) (left : List A) (c : C) (cs : List C) → Is s all x c → Are s all left cs → Are s all (x ∷ left) (c ∷ cs)) → x ≡ get_or xs n x → n < length xs
        → Rest excess Are xs (drop n xs) codes now old → Resolves (excess x) (λ s all c. Is s all x c) now (Ok c) middle → codes2 ≡ codes ++ c ∷ []
        → Rest excess Are xs (drop (n + 1) xs) codes2 middle old
    gone_on_at xs n x codes codes2 next is within rest part longer =
        gone_on x codes codes2 (λ s all. next s all (drop (n + 1) xs)) (at_place xs n x codes is within rest) part longer

  pub ended_at : (xs : List A) (n : ℕ) (codes : List C) {now old : State} → ((s : Scope) (all : List Function) → Are s all [] []) → length xs ≤ n
      → Rest excess Are xs (drop n xs) codes now old → Resolves (first (map excess xs)) (λ s all cs. Are s all xs cs) old (Ok codes) now
  ended_at xs n codes {now} {old} none past rest = ended codes none (subst (λ left. Rest excess Are xs left codes now old) (drop_all n xs past) rest)
