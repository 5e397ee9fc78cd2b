-- The names of the reasons for which a script is refused, as a fault line prints them.
use Rattle.std.specs.Prelude.{ℕ, List, codes}
use Rattle.ntx_syntax.specs.declared.fault.SyntaxWhy.{SyntaxWhy}
use Rattle.ntx_syntax.specs.declared.fault.SyntaxWhy.TheVariants as why

abbrev pub why_text : SyntaxWhy → List ℕ
why_text why.Byte = codes "Byte"
why_text why.Number = codes "Number"
why_text why.Text = codes "Text"
why_text why.Comment = codes "Comment"
why_text why.Symbol = codes "Symbol"
why_text why.Expected = codes "Expected"
why_text why.Break = codes "Break"
why_text why.Depth = codes "Depth"
why_text why.Locals = codes "Locals"
why_text why.Size = codes "Size"
