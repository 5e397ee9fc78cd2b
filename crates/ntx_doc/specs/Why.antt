-- The names of the reasons for which a document is refused, as a fault line prints them.
use Rattle.std.specs.Prelude.{ℕ, List, codes}
use Rattle.ntx_doc.specs.declared.fault.DocWhy.{DocWhy}
use Rattle.ntx_doc.specs.declared.fault.DocWhy.TheVariants as why

abbrev pub why_text : DocWhy → List ℕ
why_text why.Byte = codes "Byte"
why_text why.Command = codes "Command"
why_text why.Fields = codes "Fields"
why_text why.Name = codes "Name"
why_text why.Number = codes "Number"
why_text why.Range = codes "Range"
why_text why.Font = codes "Font"
why_text why.Depth = codes "Depth"
why_text why.Open = codes "Open"
why_text why.Size = codes "Size"
