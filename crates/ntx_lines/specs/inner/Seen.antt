-- What private calls say of what a line is made of.
use Rattle.ntx_lines.specs.declared.part.Part as code
use Rattle.ntx_lines.specs.Parts.{Part}

-- a part of the program, as a part
abbrev pub part_seen : code.Part → Part
part_seen part = record { body = part.body.now; at = part.at; after = part.after; discarded = part.discarded.now }
