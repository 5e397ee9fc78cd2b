-- Each paragraph has breaks: a final pass always has a state at its end, since where all states fall one of them is kept.
use Rattle.std.specs.Prelude.{◌≡◌, List, Some}
use Rattle.ntx_item.specs.declared.item.Item.{Item}
use Rattle.ntx_item.specs.Settings.{Settings}
use Rattle.ntx_breaks.specs.Passes.{passes_of}
use Rattle.ntx_breaks.specs.Chosen.{first_answer, breaks_of}

-- some pass decides, so that the value for none, `no_lines`, never comes
abbrev pub EachParagraphBreaks : Type 0
EachParagraphBreaks = (params : Settings) (items : List Item) → first_answer params items (passes_of params) ≡ Some (breaks_of params items)
