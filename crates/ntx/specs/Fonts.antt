-- Whether a command line names fonts.
use Rattle.std.specs.Prelude.{◌==◌, Bool, false, length, Result, Ok, Err}
use Rattle.ntx_words.specs.declared.words.BadWords.{BadWords}
use Rattle.ntx_words.specs.CommandLine.{CommandLine}

-- The words are of the form of the command line, and name no font.
abbrev pub names_no_font : Result CommandLine BadWords → Bool
names_no_font (Ok line) = length line.sizes == 0
names_no_font (Err refusal) = false
