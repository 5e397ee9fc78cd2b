-- A script is refused at one word, for one reason, and what is refused has no tree.
--     one_fault             whatever faults a script is refused with are the same
--     refused_is_none       words that are refused are no script
--     err_with_its_fault    what is refused rightly is refused with the fault that the script has
-- A word that is not allowed stops the reading of each script that begins with the words up to it, whatever places its words have there. So no script has
-- that word at a place where it is allowed.
use Rattle.std.specs.Prelude.{◌≡◌, ◌≤◌, ◌+◌, ℕ, max, length, List, [], ◌∷◌, ◌++◌, Some, Result, Ok, Err}
use Rattle.std.proofs.Common.{inl, inr, refl, sym, ap, ap₂, ◌∙◌, subst, append_assoc, append-nil, arith}
use Rattle.std.proofs.lemmas.List.{map-append, length-append}
use Rattle.std.specs.List.{AllByRecursion}
use Rattle.std.specs.Result.{IsErrAnd}
use Rattle.ntx_num.specs.Answer.{Answers}
use Rattle.ntx_num.specs.declared.answer.Fail.{Fail}
use Rattle.ntx_num.specs.declared.answer.Fail.TheVariants.{NoMemory, Is}
use Rattle.ntx_syntax.specs.declared.fault.SyntaxFault.{SyntaxFault}
use Rattle.ntx_syntax.specs.declared.fault.SyntaxWhy.{SyntaxWhy}
use Rattle.ntx_syntax.specs.declared.fault.SyntaxWhy.TheVariants as why
use Rattle.ntx_syntax.specs.declared.tree.Block.{Block}
use Rattle.ntx_syntax.specs.declared.tree.Chunk.{Chunk}
use Rattle.ntx_parse.specs.declared.place.Place.{Place}
use Rattle.ntx_parse.specs.Words.{Word}
use Rattle.ntx_parse.specs.Grammar.{Placed, IsAllowed, IsChunk, Accepts}
use Rattle.ntx_parse.specs.Faults.{CanBegin, CannotStand, IsNoScript, IsWrong, IsRefusedAt, IsRefused, IfRefused, Stand, at_place, line_at}
use Rattle.ntx_parse.specs.inner.Reading.{Stop, script_by}
use Rattle.ntx_parse.proofs.complete.Begins.{plain}
use Rattle.ntx_parse.proofs.complete.Comes.{IsBad, too_deep, no_loop}
use Rattle.ntx_parse.proofs.complete.Scripts.{stops_at_bad}
use Rattle.ntx_parse.proofs.faults.Cannot.{told_nothing}
use Rattle.ntx_parse.proofs.viewed.Local.{same_behind, local_here}
use Rattle.ntx_parse.proofs.viewed.Deeper.{told_once}
use Rattle.ntx_parse.proofs.stuck.Scripts.{begins_less}
use Rattle.ntx_parse.proofs.stuck.Answers.{stop-injective}
use Rattle.ntx_parse.proofs.faults.Told.{ScriptIsAtLast, read_whole, stops_behind, told_behind}

-- ---- words and their places

-- Placed words, the first of which spell these words.
record Split (placed : List Placed) (front : List Word) : Type 0 where
  pub first : List Placed
  pub second : List Placed
  pub is : placed ≡ first ++ second
  pub spells : plain first ≡ front

tail_of : {A : Type 0} {a b : A} {left right : List A} → a ∷ left ≡ b ∷ right → left ≡ right
tail_of e = cc

split : (placed : List Placed) (front behind : List Word) → plain placed ≡ front ++ behind → Split placed front
split placed [] behind e = record { first = []; second = placed; is = refl; spells = refl }
split [] (o ∷ front) behind e = absurd cc
split (w ∷ placed) (o ∷ front) behind e =
    let rest = split placed front behind (tail_of e) in
    let same : w.word ≡ o = cc in
    record { first = w ∷ rest.first; second = rest.second; is = ap (λ l. w ∷ l) rest.is; spells = ap₂ (λ one l. one ∷ l) same rest.spells }

-- Where words can stand at the beginning of a script, so can the first of them.
stands_less : (front behind : List Word) (placed : List Placed) → plain placed ≡ front ++ behind → CanBegin placed → CannotStand front → ⊥
stands_less front behind placed e begin none =
    let parts = split placed front behind e in
    none parts.first parts.spells (begins_less parts.first parts.second (subst CanBegin parts.is begin))

-- ---- where one list of words goes on after another

data Order (f g b c : List Word) : Type 0 where
  together : f ≡ g → b ≡ c → Order f g b c
  first_ends : (o : Word) (middle : List Word) → b ≡ o ∷ middle ++ c → g ≡ f ++ o ∷ middle → Order f g b c
  second_ends : (o : Word) (middle : List Word) → c ≡ o ∷ middle ++ b → f ≡ g ++ o ∷ middle → Order f g b c

order_behind : {o u : Word} {f g b c : List Word} → o ≡ u → Order f g b c → Order (o ∷ f) (u ∷ g) b c
order_behind e (together h k) = together (ap₂ (λ o l. o ∷ l) e h) k
order_behind e (first_ends v middle h k) = first_ends v middle h (ap₂ (λ o l. o ∷ l) (sym e) k)
order_behind e (second_ends v middle h k) = second_ends v middle h (ap₂ (λ o l. o ∷ l) e k)

order : (f g b c : List Word) → f ++ b ≡ g ++ c → Order f g b c
order [] [] b c e = together refl e
order [] (o ∷ g) b c e = first_ends o g e refl
order (o ∷ f) [] b c e = second_ends o f (sym e) refl
order (o ∷ f) (u ∷ g) b c e =
    let same : o ≡ u = cc in
    order_behind same (order f g b c (tail_of e))

-- ---- a word that is not allowed

-- A word is not allowed at this place, after words that are, and together they can stand at the beginning of a script.
record IsBarred (front : List Word) (o : Word) (reason : SyntaxWhy) : Type 0 where
  pub placed : List Placed
  pub place : Place
  pub spells : plain placed ≡ front
  pub allowed : AllByRecursion IsAllowed placed
  pub bad : IsBad reason (at_place o place)
  pub begin : CanBegin (placed ++ at_place o place ∷ [])

stops_in : {front : List Word} {o : Word} {reason : SyntaxWhy} (s : IsBarred front o reason)
    → ScriptIsAtLast (front ++ o ∷ plain s.begin.0) (Err (record { why = reason; words = o ∷ plain s.begin.0 }))
stops_in {front} {o} {reason} s =
    let here : Placed = at_place o s.place in
    let others = s.begin.0 in
    let derives : IsChunk s.begin.1 (s.placed ++ here ∷ others) = subst (IsChunk s.begin.1) (append_assoc s.placed (here ∷ []) others) s.begin.2 in
    let there = stops_at_bad s.placed here others reason s.begin.1 s.allowed s.bad derives in
    let spelled : plain (s.placed ++ here ∷ others) ≡ front ++ o ∷ plain others =
    map-append (λ (w : Placed). w.word) s.placed (here ∷ others) ∙ ap (λ l. l ++ o ∷ plain others) s.spells in
    record { from = there.0; gives = λ n h. sym (ap (script_by n) spelled) ∙ there.1 n h }

-- The reading of each script that begins with these words stops there.
stops_there : {front : List Word} {o : Word} {reason : SyntaxWhy} (s : IsBarred front o reason) (words these : List Word) (x : Result (Block × List Word) Stop)
    → words ≡ front ++ o ∷ these → ScriptIsAtLast words x → x ≡ Err (record { why = reason; words = o ∷ these })
stops_there {front} {o} {reason} s words these x e known =
    let those = plain s.begin.0 in
    let first = stops_in s in
    let n : ℕ = max first.from known.from in
    let one : first.from ≤ n = omega arith in
    let two : known.from ≤ n = omega arith in
    let second : script_by n (front ++ o ∷ these) ≡ Some x = sym (ap (script_by n) e) ∙ known.gives n two in
    elim (local_here those these (front ++ o ∷ those) (front ++ o ∷ these) o reason n n (omega arith) (same_behind those these front o) (first.gives n one)) [
      | inl stops ↦ told_once (sym second ∙ stops)
      | inr none ↦ absurd (told_nothing second none)
    ]

whole_stops : {b : Block} {stop : Stop} → ◌≡◌ {A = Result (Block × List Word) Stop} (Ok (b, [])) (Err stop) → ⊥
whole_stops e = cc

same_stop : {stop other : Stop} → ◌≡◌ {A = Result (Block × List Word) Stop} (Err stop) (Err other) → stop ≡ other
same_stop e = stop-injective (ap (λ x. Some x) e)

-- No words that go on after it are all allowed.
none_fine : {front : List Word} {o : Word} {reason : SyntaxWhy} → IsBarred front o reason → (placed others : List Placed) (middle : List Word) (chunk : Chunk)
    → IsChunk chunk (placed ++ others) → AllByRecursion IsAllowed placed → plain placed ≡ front ++ o ∷ middle → ⊥
none_fine {front} {o} {reason} s placed others middle chunk derives allowed e =
    let these : List Word = middle ++ plain others in
    let words_are : plain (placed ++ others) ≡ front ++ o ∷ these =
    map-append (λ (w : Placed). w.word) placed others ∙ ap (λ l. l ++ plain others) e ∙ append_assoc front (o ∷ middle) (plain others) in
    elim (told_behind placed others chunk derives allowed) [
      | read_whole known ↦ whole_stops (stops_there s (plain (placed ++ others)) these _ words_are known)
      | stops_behind {stop} other shorter known ↦
          let stop_is : stop ≡ record { why = reason; words = o ∷ these } = same_stop (stops_there s (plain (placed ++ others)) these _ words_are known) in
          let left : length stop.words ≡ length (o ∷ these) = ap (λ (t : Stop). length t.words) stop_is in
          let whole : length (plain (placed ++ others)) ≡ length front + length (o ∷ these) = ap length words_are ∙ length-append front (o ∷ these) in
          let upto : length (plain placed) ≡ length front + length (o ∷ middle) = ap length e ∙ length-append front (o ∷ middle) in
          omega (arith, left, whole, upto, shorter)
    ]

-- ---- what is wrong with a word

data IsFault (front : List Word) : SyntaxWhy → List Word → Type 0 where
  no_end : IsNoScript front → IsFault front why.Expected []
  no_word : {o : Word} {behind : List Word} → CannotStand (front ++ o ∷ []) → IsFault front why.Expected (o ∷ behind)
  not_fine : {reason : SyntaxWhy} {o : Word} {behind : List Word} → IsBarred front o reason → IsFault front reason (o ∷ behind)

fault_there : (reason : SyntaxWhy) (front : List Word) (s : Stand front) (behind : List Word) → IsWrong reason front s.placed behind → IsFault front reason behind
fault_there why.Expected front s [] h = no_end h
fault_there why.Expected front s (o ∷ behind) h = no_word h
fault_there why.Depth front s (o ∷ behind) h =
    not_fine (record { placed = s.placed; place = h.0; spells = s.words_are; allowed = s.allowed; bad = too_deep h.2; begin = h.1 })
fault_there why.Break front s (o ∷ behind) h =
    not_fine (record { placed = s.placed; place = h.0; spells = s.words_are; allowed = s.allowed; bad = no_loop h.2 h.3 h.4; begin = h.1 })
fault_there why.Depth front s [] h = absurd h
fault_there why.Break front s [] h = absurd h
fault_there _ front s behind h = absurd h

fault_of : {reason : SyntaxWhy} {words behind : List Word} → (r : IsRefusedAt reason words behind) → IsFault r.front reason behind
fault_of {reason} {behind = behind} r = fault_there reason r.front r.stand behind r.wrong

-- No words that go on after the fault stand.
none_stand : {front longer : List Word} {reason : SyntaxWhy} {o : Word} {behind : List Word} (middle : List Word) → IsFault front reason (o ∷ behind) → Stand longer
    → longer ≡ front ++ o ∷ middle → ⊥
none_stand {front} {o = o} middle (no_word none) s e =
    stands_less (front ++ o ∷ []) middle s.placed (s.words_are ∙ e ∙ sym (append_assoc front (o ∷ []) middle)) s.can_begin none
none_stand middle (not_fine stuck) s e = none_fine stuck s.placed s.can_begin.0 middle s.can_begin.1 s.can_begin.2 s.allowed (s.words_are ∙ e)

spelled_with : (placed : List Placed) (front : List Word) (o : Placed) → plain placed ≡ front → plain (placed ++ o ∷ []) ≡ front ++ o.word ∷ []
spelled_with placed front o e = map-append (λ (w : Placed). w.word) placed (o ∷ []) ∙ ap (λ l. l ++ o.word ∷ []) e

expected_there : {front : List Word} {o : Word} {reason : SyntaxWhy} → CannotStand (front ++ o ∷ []) → IsBarred front o reason → ⊥
expected_there {front} {o} none s = none (s.placed ++ at_place o s.place ∷ []) (spelled_with s.placed front (at_place o s.place) s.spells) s.begin

same_why : {front : List Word} {reason other : SyntaxWhy} {behind : List Word} → IsFault front reason behind → IsFault front other behind → reason ≡ other
same_why (no_end h) (no_end g) = refl
same_why (no_word h) (no_word g) = refl
same_why (no_word h) (not_fine t) = absurd (expected_there h t)
same_why (not_fine s) (no_word g) = absurd (expected_there g s)
same_why (not_fine s) (not_fine t) = ap (λ (stop : Stop). stop.why) (same_stop (stops_there t _ _ _ refl (stops_in s)))

-- ---- refusals

record IsSame (reason other : SyntaxWhy) (behind back : List Word) : Type 0 where
  pub why : reason ≡ other
  pub words : behind ≡ back

one_place : {reason other : SyntaxWhy} {words behind back : List Word} → IsRefusedAt reason words behind → IsRefusedAt other words back → IsSame reason other behind back
one_place {reason} {other} {words} {behind} {back} r q =
    elim (order r.front q.front behind back (sym r.words_are ∙ q.words_are)) [
      | together fronts e ↦
          record { why = same_why (fault_of r) (subst (λ f. IsFault f other behind) (sym fronts) (subst (IsFault q.front other) (sym e) (fault_of q))); words = e }
      | first_ends o middle e longer ↦ absurd (none_stand middle (subst (IsFault r.front reason) e (fault_of r)) q.stand longer)
      | second_ends o middle e longer ↦ absurd (none_stand middle (subst (IsFault q.front other) e (fault_of q)) r.stand longer)
    ]

pub one_fault : (bytes : List ℕ) (words : List Word) (a b : SyntaxFault) → IsRefused bytes words a → IsRefused bytes words b → a ≡ b
one_fault bytes words a b first second =
    let same = one_place first.at second.at in
    ap₂ (λ line why. record { line = line; why = why }) (first.line ∙ ap (line_at bytes) same.words ∙ sym second.line) same.why

stands : {words : List Word} {chunk : Chunk} → Accepts words chunk → Stand words
stands {chunk = chunk} a = record {
  placed = a.placed;
  words_are = a.words_are;
  can_begin = ([], chunk, subst (IsChunk chunk) (sym (append-nil a.placed)) a.derives);
  allowed = a.allowed;
}

not_accepted : {front words behind : List Word} {reason : SyntaxWhy} {chunk : Chunk} → IsFault front reason behind → words ≡ front ++ behind → Accepts words chunk → ⊥
not_accepted {front} (no_end none) e a = none a.placed _ (a.words_are ∙ e ∙ append-nil front) a.derives
not_accepted (no_word {behind} none) e a = none_stand behind (no_word {behind = behind} none) (stands a) e
not_accepted (not_fine {behind} stuck) e a = none_stand behind (not_fine {behind = behind} stuck) (stands a) e

pub refused_is_none : (bytes : List ℕ) (words : List Word) (fault : SyntaxFault) (chunk : Chunk) → IsRefused bytes words fault → Accepts words chunk → ⊥
refused_is_none bytes words fault chunk r a = not_accepted (fault_of r.at) r.at.words_are a

with_its_fault : (bytes : List ℕ) (words : List Word) (e : Fail SyntaxFault) → IfRefused {A = Chunk} (Err e) (λ fault. IsRefused bytes words fault)
    → (fault : SyntaxFault) → IsRefused bytes words fault → Answers {A = Chunk} (Err e) (Err fault)
with_its_fault bytes words (Is found) h fault r = ap (λ f. Err f) (one_fault bytes words fault found r h)
with_its_fault bytes words NoMemory h fault r = tt

pub err_with_its_fault : (bytes : List ℕ) (words : List Word) (e : Fail SyntaxFault) (result : Result Chunk (Fail SyntaxFault)) → IsErrAnd result (λ y. y ≡ e)
    → IfRefused result (λ fault. IsRefused bytes words fault) → (fault : SyntaxFault) → IsRefused bytes words fault → Answers result (Err fault)
err_with_its_fault bytes words e (Ok chunk) is h fault r = absurd is
err_with_its_fault bytes words e (Err y) is h fault r = with_its_fault bytes words y h fault r
