-- The printed names of the faults.
use Rattle.std.specs.Prelude.{ℕ, List, codes}
use Rattle.ntx_tfm.specs.declared.fault.FontFault.{FontFault}
use Rattle.ntx_tfm.specs.declared.fault.FontFault.TheVariants.{Short, Range, Header, Lengths, Size, Index, FirstNotZero, FixWord, LigProgram, TooLarge}

abbrev pub name_of : FontFault → List ℕ
name_of Short = codes "Short"
name_of Range = codes "Range"
name_of Header = codes "Header"
name_of Lengths = codes "Lengths"
name_of Size = codes "Size"
name_of Index = codes "Index"
name_of FirstNotZero = codes "FirstNotZero"
name_of FixWord = codes "FixWord"
name_of LigProgram = codes "LigProgram"
name_of TooLarge = codes "TooLarge"
