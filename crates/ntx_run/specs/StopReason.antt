-- Why a run stopped: the status and place that it ends with, and the line that says why.
use Rattle.std.specs.Prelude.{ℕ, List, [], ◌∷◌, ◌++◌, Option, Some, None, codes, decimal}
use Rattle.ntx_doc.specs.Why as document
use Rattle.ntx_syntax.specs.Why as script
use Rattle.ntx_tfm.specs.FaultNames as font
use Rattle.ntx_machine.specs.Names as machine
use Rattle.ntx_machine.specs.declared.stop.Stop.{Stop}
use Rattle.ntx_machine.specs.declared.stop.Stop.TheVariants as machine_stop
use Rattle.ntx_run.specs.declared.stop.StopReason.{StopReason}
use Rattle.ntx_run.specs.declared.stop.StopReason.TheVariants as stop
use Rattle.ntx_run.specs.declared.outcome.Outcome.{Outcome}
use Rattle.ntx_run.specs.declared.outcome.Status.{Status}
use Rattle.ntx_run.specs.declared.outcome.Status.TheVariants as status
use Rattle.ntx_run.specs.declared.outcome.Place.{Place}
use Rattle.ntx_run.specs.declared.outcome.Place.TheVariants as place
use Rattle.ntx_run.specs.declared.outcome.Which.{Which}
use Rattle.ntx_run.specs.declared.outcome.Which.TheVariants as which

abbrev pub outcome_of : StopReason → Outcome
outcome_of stop.Words = record { status = status.Words; place = None }
outcome_of (stop.Document fault) = record { status = status.Document; place = Some (place.Doc fault) }
outcome_of (stop.Script fault) = record { status = status.Script; place = Some (place.Syntax fault) }
outcome_of (stop.Patterns fault) = record { status = status.Patterns; place = Some (place.Pattern fault) }
outcome_of (stop.Font k fault) = record { status = status.Font; place = Some (place.FontAt k fault) }
outcome_of (stop.Engine why phase) = record { status = status.EngineFault; place = Some (place.Engine why phase) }
outcome_of (stop.Read input) = record { status = status.ReadFault; place = Some (place.Input input) }
outcome_of stop.Write = record { status = status.WriteFault; place = None }
outcome_of stop.Memory = record { status = status.Memory; place = None }
outcome_of stop.DviFull = record { status = status.DviFull; place = None }

-- A run stops where its machine does.
abbrev pub of_machine : Stop → StopReason
of_machine machine_stop.Memory = stop.Memory
of_machine (machine_stop.Engine why phase) = stop.Engine why phase
of_machine machine_stop.DviFull = stop.DviFull

abbrev pub status_of : StopReason → Status
status_of why = (outcome_of why).status

abbrev pub place_of : StopReason → Option Place
place_of why = (outcome_of why).place

-- The statuses of runs that stop before a machine is made, so before the DVI file's first byte.
abbrev pub IsBeforeDvi : Status → Type 0
IsBeforeDvi status.Words = Unit {0}
IsBeforeDvi status.Document = Unit {0}
IsBeforeDvi status.Script = Unit {0}
IsBeforeDvi status.Patterns = Unit {0}
IsBeforeDvi status.Font = Unit {0}
IsBeforeDvi status.ReadFault = Unit {0}
IsBeforeDvi status.Done = ⊥
IsBeforeDvi status.EngineFault = ⊥
IsBeforeDvi status.WriteFault = ⊥
IsBeforeDvi status.Memory = ⊥
IsBeforeDvi status.DviFull = ⊥

abbrev pub which_text : Which → List ℕ
which_text which.Document = codes "document"
which_text which.Script = codes "script"
which_text which.Patterns = codes "patterns"
which_text (which.Font k) = codes "font " ++ decimal k

-- a line with its line feed
abbrev line : List ℕ → List ℕ
line text = text ++ 10 ∷ []

-- The fault line. A failed write and running out of memory have none.
abbrev pub line_of : StopReason → List ℕ
line_of stop.Words = line (codes "! Words")
line_of (stop.Document fault) = line (codes "! Document line " ++ decimal fault.line ++ codes " " ++ document.why_text fault.why)
line_of (stop.Script fault) = line (codes "! Script line " ++ decimal fault.line ++ codes " " ++ script.why_text fault.why)
line_of (stop.Patterns fault) = line (codes "! Patterns line " ++ decimal fault.line)
line_of (stop.Font k fault) = line (codes "! Font " ++ decimal k ++ codes " " ++ font.name_of fault)
line_of (stop.Engine why phase) = line (codes "! EngineFault " ++ machine.trouble_text why ++ codes " in " ++ machine.phase_text phase)
line_of (stop.Read input) = line (codes "! ReadFault " ++ which_text input)
line_of stop.Write = []
line_of stop.Memory = []
line_of stop.DviFull = line (codes "! DviFull")
