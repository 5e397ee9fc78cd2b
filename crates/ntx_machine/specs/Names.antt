-- The names of troubles and phases, as fault lines print them.
use Rattle.std.specs.Prelude.{ℕ, List, codes}
use Rattle.ntx_nodes.specs.declared.trouble.Trouble.{Trouble}
use Rattle.ntx_nodes.specs.declared.trouble.Trouble.TheVariants as trouble
use Rattle.ntx_nodes.specs.declared.trouble.Phase.{Phase}
use Rattle.ntx_nodes.specs.declared.trouble.Phase.TheVariants as phase

-- the name of a trouble, without the node that it is about
abbrev pub trouble_text : Trouble → List ℕ
trouble_text (trouble.Stale n) = codes "Stale"
trouble_text (trouble.WrongKind n) = codes "WrongKind"
trouble_text (trouble.Loop n) = codes "Loop"
trouble_text (trouble.NotInList n) = codes "NotInList"
trouble_text trouble.NoField = codes "NoField"
trouble_text trouble.BadValue = codes "BadValue"
trouble_text trouble.NodesFull = codes "NodesFull"
trouble_text trouble.NamesOut = codes "NamesOut"
trouble_text trouble.AttrFull = codes "AttrFull"
trouble_text trouble.Dimension = codes "Dimension"
trouble_text trouble.LigLoop = codes "LigLoop"
trouble_text (trouble.NoChar n) = codes "NoChar"
trouble_text trouble.NoBox = codes "NoBox"
trouble_text trouble.Deep = codes "Deep"
trouble_text trouble.Nest = codes "Nest"

abbrev pub phase_text : Phase → List ℕ
phase_text phase.Hyphenate = codes "hyphenate"
phase_text phase.Ligaturing = codes "ligaturing"
phase_text phase.Kerning = codes "kerning"
phase_text phase.Parfill = codes "parfill"
phase_text phase.PreLinebreak = codes "pre_linebreak"
phase_text phase.Linebreak = codes "linebreak"
phase_text phase.PostLinebreak = codes "post_linebreak"
phase_text phase.Done = codes "done"
phase_text phase.Hpack = codes "hpack"
phase_text phase.Build = codes "build"
phase_text phase.Page = codes "page"
phase_text phase.Ship = codes "ship"
phase_text phase.Start = codes "start"
