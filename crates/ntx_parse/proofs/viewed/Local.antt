-- That a reading stops before a word, and why, hangs on the words up to that one alone.
--     Same those these words others    the words are the same up to some word, behind which they are those and these
--     StopsToo                         the other reading stops for the same reason before words that are the same up to there, or its calls are too few
--     up_to, stops_as_well             each reading
--     local_script                     whole scripts
--     local_here                       whole scripts, of which the word where the first stops is the last that is the same
use Rattle.std.proofs.Common.{◌≡◌, ◌<◌, ◌≤◌, ℕ, List, [], ◌∷◌, ◌++◌, length, ◌⊎◌, inl, inr, None, Some, Ok, Err, refl, ap, ◌∙◌, subst, arith}
use Rattle.ntx_syntax.specs.declared.fault.SyntaxWhy.{SyntaxWhy}
use Rattle.ntx_syntax.specs.declared.tree.Block.{Block}
use Rattle.ntx_parse.specs.Words.{Word}
use Rattle.ntx_parse.specs.inner.Reading.{Answer, Stop, stopped, script_by}
use Rattle.ntx_parse.proofs.viewed.Views.{Begin, then_lost, then_alike, View, alike, at_alike, stop_lost, same_stop, too_few, Tells}
use Rattle.ntx_parse.proofs.viewed.Scripts.{goes_script}

pub data Same (those these : List Word) : List Word → List Word → Type 0 where
  last_same : {o : Word} → Same those these (o ∷ those) (o ∷ these)
  same_before : {o : Word} {words others : List Word} → Same those these words others → Same those these (o ∷ words) (o ∷ others)

abbrev NotLonger : List Word → List Word → Type 0
NotLonger those words = length words ≤ length those

pub same_behind : (those these front : List Word) (o : Word) → Same those these (front ++ o ∷ those) (front ++ o ∷ these)
same_behind those these [] o = last_same
same_behind those these (first ∷ front) o = same_before (same_behind those these front o)

begin_up_to : {those these words others : List Word} → Same those these words others → Begin (NotLonger those) (Same those these) words others
begin_up_to last_same = then_lost (omega arith)
begin_up_to (same_before h) = then_alike h

pub up_to : List Word → List Word → View
up_to those these = record {
  Lost = NotLonger those;
  CanBeShort = Unit {0};
  Alike = Same those these;
  shorter = λ h. omega arith;
  short = λ same h. tt;
  begin = begin_up_to;
}

-- The reading stops before words that are the same as these up to those, or tells nothing since its calls are too few.
pub data StopsToo (those these words : List Word) (reason : SyntaxWhy) {A : Type 0} (b : Answer A) : Type 0 where
  stops_too : {rest : List Word} → Same those these words rest → b ≡ stopped reason rest → StopsToo those these words reason b
  calls_too_few : b ≡ None → StopsToo those these words reason b

pub why_stopped : {A : Type 0} {stop : Stop} {reason : SyntaxWhy} {words : List Word} → ◌≡◌ {A = Answer A} (Some (Err stop)) (stopped reason words)
    → stop.why ≡ reason
why_stopped e = cc

stopped_words : {A : Type 0} {stop : Stop} {reason : SyntaxWhy} {words : List Word} → ◌≡◌ {A = Answer A} (Some (Err stop)) (stopped reason words)
    → stop.words ≡ words
stopped_words e = cc

-- Where the first reading stops, and after the word where it stops come all of those, the second stops too.
pub stops_as_well : {A : Type 0} (those these words : List Word) (reason : SyntaxWhy) (a b : Answer A) → Tells (up_to those these) alike a b
    → a ≡ stopped reason words → length those < length words → StopsToo those these words reason b
unfolding up_to
stops_as_well those these words reason None b h e before = absurd cc
stops_as_well those these words reason (Some (Ok found)) b h e before = absurd cc
stops_as_well those these words reason (Some (Err stop)) b (stop_lost h) e before =
    let left : length stop.words ≡ length words = ap length (stopped_words e) in
    let short : length stop.words ≤ length those = h in
    absurd (omega arith)
stops_as_well those these words reason (Some (Err stop)) b (same_stop {rest} same h) e before =
    stops_too (subst (λ w. Same those these w rest) (stopped_words e) same) (h ∙ ap (λ reason. stopped reason rest) (why_stopped e))
stops_as_well those these words reason (Some (Err stop)) b (too_few short h) e before = calls_too_few h

pub local_script : (those these words others behind : List Word) (reason : SyntaxWhy) (n m : ℕ) → n ≤ m → Same those these words others
    → script_by n words ≡ stopped reason behind → length those < length behind → StopsToo those these behind reason (script_by m others)
unfolding up_to
local_script those these words others behind reason n m deeper same e before =
    stops_as_well those these behind reason (script_by n words) (script_by m others)
    (goes_script {V = up_to those these} n m deeper (at_alike same)).tells e before

-- ---- the word where it stops is the last that is the same

same_longer : {those these words others : List Word} → Same those these words others → length those < length words
same_longer last_same = omega arith
same_longer (same_before h) = let longer = same_longer h in omega arith

same_last : {those these words rest : List Word} {o : Word} → Same those these words rest → words ≡ o ∷ those → rest ≡ o ∷ these
same_last {these = these} {o = o} (last_same {o = last}) e = let same : last ≡ o = cc in ap (λ w. w ∷ these) same
same_last {those = those} (same_before {words = words} h) e =
    let longer = same_longer h in
    let left : words ≡ those = cc in
    let as_long : length words ≡ length those = ap length left in
    absurd (omega arith)

stops_here : {those these : List Word} {o : Word} {reason : SyntaxWhy} {b : Answer Block} → StopsToo those these (o ∷ those) reason b
    → (b ≡ stopped reason (o ∷ these)) ⊎ (b ≡ None)
stops_here {reason = reason} (stops_too same h) = inl (h ∙ ap (stopped reason) (same_last same refl))
stops_here (calls_too_few h) = inr h

pub local_here : (those these words others : List Word) (o : Word) (reason : SyntaxWhy) (n m : ℕ) → n ≤ m → Same those these words others
    → script_by n words ≡ stopped reason (o ∷ those) → (script_by m others ≡ stopped reason (o ∷ these)) ⊎ (script_by m others ≡ None)
local_here those these words others o reason n m deeper same e =
    stops_here (local_script those these words others (o ∷ those) reason n m deeper same e (omega arith))
