-- The tests of a line, one after another: the first one that fails gives the reason.
use Rattle.std.specs.Prelude.{Bool, Result, Err, Option, None, Some, if◌then◌else◌}
use Rattle.ntx_doc.specs.declared.fault.DocWhy.{DocWhy}

-- what follows, if the test holds; otherwise a refusal for this reason
abbrev pub refused_unless : {A : Type 0} → DocWhy → Bool → Result A DocWhy → Result A DocWhy
refused_unless reason test next = if test then next else Err reason

-- what follows with the value, if there is one; otherwise a refusal for this reason
abbrev pub refused_without : {A B : Type 0} → DocWhy → Option A → (A → Result B DocWhy) → Result B DocWhy
refused_without reason None next = Err reason
refused_without reason (Some a) next = next a
