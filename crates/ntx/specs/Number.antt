-- The number with which the process ends: 0 where all was done, and another one for each reason to stop.
use Rattle.std.specs.Prelude.{ℕ}
use Rattle.ntx_run.specs.declared.outcome.Status.{Status}
use Rattle.ntx_run.specs.declared.outcome.Status.TheVariants.{Done, Words, Document, Script, Patterns, Font, EngineFault, ReadFault, WriteFault, Memory, DviFull}

abbrev pub number_of : Status → ℕ
number_of Done = 0
number_of Words = 2
number_of Document = 3
number_of Script = 4
number_of Patterns = 5
number_of Font = 6
number_of EngineFault = 8
number_of ReadFault = 9
number_of WriteFault = 10
number_of Memory = 11
number_of DviFull = 13
