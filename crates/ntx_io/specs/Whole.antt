-- What reading a source to its end and writing a whole text do.
use Rattle.std.specs.Prelude.{◌≡◌, ℕ, ◌<◌, ◌≤◌, List, [], length, drop, Option, Some, None, Result, Ok, Err}
use Rattle.ntx_num.specs.declared.answer.Fail.{Fail}
use Rattle.ntx_num.specs.declared.answer.Fail.TheVariants.{NoMemory, Is}
use Rattle.ntx_io.specs.declared.whole.ReadWhy.{ReadWhy}
use Rattle.ntx_io.specs.declared.whole.ReadWhy.TheVariants.{ReadFault, TooLarge}
use Rattle.ntx_io.specs.Outside.{Rose, Adds, AddsProperPrefix}

-- The first k bytes were taken from those that were left.
abbrev pub IsLeftAfter : ℕ → List ℕ → Option (List ℕ) → Type 0
IsLeftAfter k left new = (k ≤ length left) × (new ≡ Some (drop k left))

-- What reading to the end does to the bytes that are left. If they are at most the limit, all of them are given; otherwise more than
-- the limit were taken. After a fault, and if memory ran out, no more than the limit were.
abbrev pub ReadsToEnd : Option (List ℕ) → Option (List ℕ) → ℕ → Result (List ℕ) (Fail ReadWhy) → Type 0
ReadsToEnd (Some left) new limit (Ok bytes) = (bytes ≡ left) × (length left ≤ limit) × (new ≡ Some [])
ReadsToEnd (Some left) new limit (Err (Is TooLarge)) = (k : ℕ) × (limit < k) × IsLeftAfter k left new
ReadsToEnd (Some left) new limit (Err (Is ReadFault)) = (k : ℕ) × (k ≤ limit) × IsLeftAfter k left new
ReadsToEnd (Some left) new limit (Err NoMemory) = (k : ℕ) × (k ≤ limit) × IsLeftAfter k left new
ReadsToEnd None new limit result = new ≡ None

-- The count of a source never falls, rises at a fault, and otherwise stays as it was.
abbrev pub HasReadCause : ℕ → ℕ → Result (List ℕ) (Fail ReadWhy) → Type 0
HasReadCause before now (Err (Is ReadFault)) = (before ≤ now) × Rose before now
HasReadCause before now (Err (Is TooLarge)) = now ≡ before
HasReadCause before now (Err NoMemory) = now ≡ before
HasReadCause before now (Ok bytes) = now ≡ before

-- What writing a whole text does to the bytes that were taken. After a fault a prefix was taken and not the whole text, so a fault is no
-- answer to a text that was taken whole.
abbrev pub TakesWhole : {A E : Type 0} → Option (List ℕ) → Option (List ℕ) → List ℕ → Result A E → Type 0
TakesWhole old new text (Ok _) = Adds old new text
TakesWhole old new text (Err e) = AddsProperPrefix old new text
