-- The outside as contracts see it, and what a call does to it: to the bytes that a source has left, to those that a sink has taken, and to the
-- counts of their faults. An object either exposes its bytes, and then always, or never does. A program over files can rely on the counts alone.
use Rattle.std.specs.Prelude.{◌≡◌, ◌≢◌, ℕ, ◌+◌, ◌-◌, ◌^◌, ◌<◌, ◌≤◌, min, List, [], ◌++◌, length, take, drop, Option, Some, None, Result, Ok, Err, OnOk, OnErr, IfOk}

-- ---- what is seen

-- a source: the bytes not yet given, if it exposes them, and how often a read has failed
pub record Input : Type 0 where
  pub left : Option (List ℕ)
  pub faults : ℕ

-- a source with the bytes of its name
pub record NamedInput : Type 0 where
  pub name : List ℕ
  pub input : Input

-- a sink: the bytes taken so far, if it exposes them, and how often a write has failed
pub record Output : Type 0 where
  pub taken : Option (List ℕ)
  pub faults : ℕ

-- ---- counts of faults

-- one more, but not past the end of a count's type
abbrev pub next_count : ℕ → ℕ
next_count n = min (n + 1) (2 ^ 64 - 1)

-- The count rose. At the end of its type it can rise no further, and is taken as risen.
abbrev pub Rose : ℕ → ℕ → Type 0
Rose before now = next_count before ≤ now

-- A call that may fail counts its failures: the count never falls, rises if the call fails, and otherwise stays as it was.
pub record HasCause {A E : Type 0} (before now : ℕ) (result : Result A E) : Type 0 where
  pub never_falls : before ≤ now
  pub kept : OnOk result (now ≡ before)
  pub rose : OnErr result (Rose before now)

-- ---- one read

-- The first k bytes of the buffer are the next k of those that were left. There are none only if nothing was left or the buffer has no room.
pub record GivesNext (left : List ℕ) (new : Option (List ℕ)) (buffer : List ℕ) (k : ℕ) : Type 0 where
  pub enough : k ≤ length left
  pub given : take k buffer ≡ take k left
  pub rest : new ≡ Some (drop k left)
  pub only_at_end : k ≡ 0 → 0 < length buffer → left ≡ []

-- What a read does to the bytes that are left. A failed one gives none.
abbrev pub ReadsBytes : {E : Type 0} → Option (List ℕ) → Option (List ℕ) → List ℕ → Result ℕ E → Type 0
ReadsBytes (Some left) new buffer (Ok k) = GivesNext left new buffer k
ReadsBytes (Some left) new buffer (Err e) = new ≡ Some left
ReadsBytes None new buffer result = new ≡ None

-- ---- one write

-- A write takes some of a piece, and at least one byte of a piece that has any.
abbrev pub TakesSome : {E : Type 0} → List ℕ → Result ℕ E → Type 0
TakesSome piece result = IfOk result (λ k. (k ≤ length piece) × (0 < length piece → 0 < k))

-- What a write does to the bytes that were taken: the first k bytes of the piece are added. A failed one takes none.
abbrev pub TakesBytes : {E : Type 0} → Option (List ℕ) → Option (List ℕ) → List ℕ → Result ℕ E → Type 0
TakesBytes (Some taken) new piece (Ok k) = new ≡ Some (taken ++ take k piece)
TakesBytes (Some taken) new piece (Err e) = new ≡ Some taken
TakesBytes None new piece result = new ≡ None

-- ---- several writes

-- The text was added to the bytes that were taken.
abbrev pub Adds : Option (List ℕ) → Option (List ℕ) → List ℕ → Type 0
Adds (Some taken) new text = new ≡ Some (taken ++ text)
Adds None new text = new ≡ None

-- A prefix of the text was added, and nothing else.
pub record AddsPrefix (old new : Option (List ℕ)) (text : List ℕ) : Type 0 where
  pub prefix : List ℕ
  pub rest : List ℕ
  pub parts : text ≡ prefix ++ rest
  pub adds : Adds old new prefix

-- A prefix of the text was added, nothing else, and not the whole text.
pub record AddsProperPrefix (old new : Option (List ℕ)) (text : List ℕ) : Type 0 where
  pub prefix : List ℕ
  pub rest : List ℕ
  pub parts : text ≡ prefix ++ rest
  pub cut : rest ≢ []
  pub adds : Adds old new prefix
