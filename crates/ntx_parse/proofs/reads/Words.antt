-- What is taken of the words that a parser has.
use Rattle.std.proofs.Common.{rules, arith, ◌≡◌, ◌<◌, ◌≤◌, ℕ, length, map, take, drop, List, [], ◌∷◌, refl, ap, ◌∙◌, sym, Err, Ok, Some, None, slice_index_or, nat_le, ◌-◌, true, false}
use Rattle.std.proofs.lemmas.Grind.{common_steps}
use Rattle.ntx_num.specs.declared.answer.Fail.{Fail}
use Rattle.ntx_num.specs.declared.answer.Fail.TheVariants.{Is}
use Rattle.ntx_syntax.specs.declared.fault.SyntaxFault.{SyntaxFault}
use Rattle.ntx_syntax.specs.declared.fault.SyntaxWhy.TheVariants as why
use Rattle.ntx_parse.specs.declared.word.Word as code
use Rattle.ntx_parse.specs.declared.place.Place.{Place}
use Rattle.ntx_parse.specs.Words.{Word}
use Rattle.ntx_parse.specs.inner.Reading.{Answer, Stop, take_word}
use Rattle.std.specs.Prelude.{IsSome, is_some, Bool, Option, ◌&&◌, if◌then◌else◌}
use Rattle.std.specs.List.{list_all}
use Rattle.ntx_syntax.specs.Values.{numeral_value}
use Rattle.ntx_syntax.specs.declared.terminal.Terminal.{Terminal}
use Rattle.ntx_syntax.specs.declared.terminal.Terminal.TheVariants as terminal
use Rattle.ntx_parse.specs.inner.Input.{Input, seen, line_of, next_of, has_value, value_test, HaveValues}
use Rattle.ntx_parse.specs.inner.Reads.{Reads, went}
use Rattle.ntx_parse.proofs.reads.Answers.{at_once, stops_at_once}

nothing_seen : (xs : List code.Word) → length xs < 1 → map seen xs ≡ []
nothing_seen [] short = refl
nothing_seen (x ∷ xs) short = absurd (omega (arith, short))

some_seen : (xs : List code.Word) → 1 ≤ length xs → (o : Word) × (rest : List Word) × (map seen xs ≡ o ∷ rest)
some_seen [] some = absurd (omega (arith, some))
some_seen (x ∷ xs) some = (seen x, map seen xs, refl)

take_all : (xs : List code.Word) (n : ℕ) → n ≡ length xs → take n xs ≡ xs
take_all xs n is = rw is (search (rules, common_steps))

pub first_seen : (xs : List code.Word) (d : code.Word) → 1 ≤ length xs
    → map seen xs ≡ seen (slice_index_or xs 0 d) ∷ map seen (take (length xs - 1) (drop 1 xs))
first_seen [] d some = absurd (omega (arith, some))
first_seen (x ∷ xs) d some =
    let all : take (length (x ∷ xs) - 1) xs ≡ xs = take_all xs (length (x ∷ xs) - 1) (grind arith) in
    ap (λ others. seen x ∷ map seen others) (sym all)

pub taken_nothing : (p : Place) {now : Input} (xs : List code.Word) {last : ℕ} {e : Fail SyntaxFault}
    → record { words = map seen xs; last_line = last } ≡ now → length xs < 1
    → e ≡ Is (record { line = line_of now.last_line now.words; why = why.Expected }) → Reads (λ _. take_word p now.words) now (Err e) now
taken_nothing p {now = now} xs is short fault =
    let none : now.words ≡ [] = sym (ap (λ i. i.words) is) ∙ nothing_seen xs short in
    let same : take_word p now.words ≡ take_word p [] = ap (take_word p) none in
    let stop : Stop = record { why = why.Expected; words = [] } in
    let line : line_of now.last_line now.words ≡ line_of now.last_line [] = ap (line_of now.last_line) none in
    rw fault (stops_at_once {old = now} {new = now} stop same (ap (λ l. record { line = l; why = why.Expected }) line))

taken_too_deep : (p : Place) (words : List Word) (o : Word) (rest : List Word) → words ≡ o ∷ rest → 200 < p.nesting
    → take_word p words ≡ Some (Err (record { why = why.Depth; words = words }))
taken_too_deep p words o rest is deep =
    let above : nat_le p.nesting 200 ≡ false = search (rules, arith) in
    rw is (rw above refl)

taken_one : (p : Place) (words : List Word) (o : Word) (rest : List Word) → words ≡ o ∷ rest → p.nesting ≤ 200
    → take_word p words ≡ Some (Ok (o, rest))
taken_one p words o rest is fits =
    let within : nat_le p.nesting 200 ≡ true = search (rules, arith) in
    rw is (rw within refl)

pub taken_deep : (p : Place) {now : Input} (xs : List code.Word) {last : ℕ} {e : Fail SyntaxFault}
    → record { words = map seen xs; last_line = last } ≡ now → 1 ≤ length xs → 200 < p.nesting
    → e ≡ Is (record { line = line_of now.last_line now.words; why = why.Depth }) → Reads (λ _. take_word p now.words) now (Err e) now
taken_deep p {now = now} xs is some deep fault =
    let parts = some_seen xs some in
    let words : now.words ≡ parts.0 ∷ parts.1 = sym (ap (λ i. i.words) is) ∙ parts.2 in
    rw fault (stops_at_once {old = now} {new = now} _ (taken_too_deep p now.words _ _ words deep) refl)

pub taken_word : (p : Place) {now new : Input} (xs : List code.Word) (o : Word) {last : ℕ}
    → record { words = map seen xs; last_line = last } ≡ now → p.nesting ≤ 200
    → map seen xs ≡ o ∷ new.words → new.last_line ≡ last → Reads (λ _. take_word p now.words) now (Ok o) new
taken_word p {now = now} {new = new} xs o is fits parts line =
    let words : now.words ≡ o ∷ new.words = sym (ap (λ i. i.words) is) ∙ parts in
    let longer : length now.words ≡ length (o ∷ new.words) = ap length words in
    at_once (taken_one p now.words o new.words words fits) (line ∙ ap (λ i. i.last_line) is) (grind (arith, longer))

-- What is taken is the first word.
read_is : {A : Type 0} (b : Bool) (x y : A) (s : Stop) → (if b then Some (Ok x) else Some (Err s)) ≡ Some (Ok y) → x ≡ y
read_is true x y s is = cc
read_is false x y s is = absurd (cc)

taken_front : (p : Place) (words : List Word) (o : Word) (rest : List Word) → take_word p words ≡ Some (Ok (o, rest)) → words ≡ o ∷ rest
taken_front p [] o rest is = absurd (cc)
taken_front p (x ∷ xs) o rest is = ap (λ (q : Word × List Word). q.0 ∷ q.1) (read_is (nat_le p.nesting 200) (x, xs) (o, rest) _ is)

reads_now : {A : Type 0} {a : Answer A} {x : A} {old new : Input} → Reads (λ _. a) old (Ok x) new → a ≡ Some (Ok (x, new.words))
reads_now (went at_last line shorter) = at_last.gives at_last.from (omega arith)

both : (a b : Bool) → (a && b) ≡ true → a ≡ true
both true b is = refl
both false b is = absurd (cc)

first_holds : (o : Word) (rest : List Word) → list_all has_value (o ∷ rest) ≡ true → has_value o ≡ true
first_holds o rest all = both (has_value o) (list_all has_value rest) all

some_is : {X : Type 0} (x : Option X) → is_some x ≡ true → IsSome x
some_is None is = absurd (cc)
some_is (Some v) is = refl

same_some : (a b : Terminal) → Some a ≡ Some b → a ≡ b
same_some a b is = cc

pub value_kept : (p : Place) (old new : Input) (xs : List code.Word) {last : ℕ} (o : Word) → record { words = map seen xs; last_line = last } ≡ old
    → HaveValues (map seen xs) → next_of old.words ≡ Some terminal.Numeral → Reads (λ _. take_word p old.words) old (Ok o) new → IsSome (numeral_value o.spelled)
value_kept p old new xs o view all next reads =
    let front : old.words ≡ o ∷ new.words = taken_front p old.words o new.words (reads_now reads) in
    let words : map seen xs ≡ o ∷ new.words = ap (λ i. i.words) view ∙ front in
    let is : terminal.Numeral ≡ o.is = same_some _ _ (sym next ∙ ap next_of front) in
    let holds : has_value o ≡ true = first_holds o new.words (sym (ap (list_all has_value) words) ∙ all) in
    some_is (numeral_value o.spelled) (ap (λ t. value_test t o.spelled) is ∙ holds)
