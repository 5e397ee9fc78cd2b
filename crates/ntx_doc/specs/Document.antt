-- What a document says: its commands, or the first line that is refused and why.
--     document_of bytes fonts      what a document of these bytes says, if there are as many fonts
-- Each line is refused, or leads from its place, which is what the lines before it say, to the next place (`after_line` of
-- Lines.antt). The form is this project's own; what its commands mean is TeX's ("The TeXbook", chapters 21, 24 and 25).
use Rattle.std.specs.Prelude.{ℕ, ◌+◌, List, [], ◌∷◌, Result, Ok, Err}
use Rattle.std.specs.Str.Lines.{lines}
use Rattle.ntx_doc.specs.declared.command.Command.{Command}
use Rattle.ntx_doc.specs.declared.group.Group.{Group}
use Rattle.ntx_doc.specs.declared.fault.DocWhy.{DocWhy}
use Rattle.ntx_doc.specs.declared.fault.DocWhy.TheVariants as why
use Rattle.ntx_doc.specs.declared.fault.DocFault.{DocFault}
use Rattle.ntx_doc.specs.Place.{Place, first_place}
use Rattle.ntx_doc.specs.Lines.{after_line}

-- what a document says at its end, after the line of this number: a box that is still open is refused
abbrev pub at_end : ℕ → List Command → List Group → Result (List Command) DocFault
at_end last done [] = Ok done
at_end last done (group ∷ outer) = Err (record { line = last; why = why.Open })

-- what a document says if the line of this number has this answer, and the lines after it say `others`
abbrev pub at_line : ℕ → Result Place DocWhy → (Place → Result (List Command) DocFault) → Result (List Command) DocFault
at_line number (Ok place) others = others place
at_line number (Err reason) others = Err (record { line = number; why = reason })

-- what the rest of a document says after n lines that led to this place
abbrev pub commands_after : ℕ → ℕ → List (List ℕ) → Place → Result (List Command) DocFault
commands_after fonts n [] place = at_end n place.done place.groups
commands_after fonts n (line ∷ others) place =
    at_line (n + 1) (after_line fonts line place) (λ after. commands_after fonts (n + 1) others after)

-- what a document of these bytes says, if there are as many fonts
abbrev pub document_of : List ℕ → ℕ → Result (List Command) DocFault
document_of bytes fonts = commands_after fonts 0 (lines bytes) first_place
