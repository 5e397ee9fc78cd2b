-- How a contract sees the part of the file that a writer keeps.
use Rattle.ntx_dvi.specs.declared.part.Part.{Part}
use Rattle.ntx_dvi.specs.declared.part.Part.TheVariants as kept
use Rattle.ntx_dvi.specs.Progress as seen

abbrev pub part_seen : Part → seen.Part
part_seen kept.BeforeBegin = seen.BeforeBegin
part_seen kept.BetweenPages = seen.BetweenPages
part_seen kept.InPage = seen.InPage
part_seen kept.AfterEnd = seen.AfterEnd
