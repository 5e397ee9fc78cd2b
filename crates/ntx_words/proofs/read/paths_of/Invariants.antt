use Rattle.std.proofs.Common.{◌≡◌, ◌++◌, map, take, string_bytes}
use Rattle.ntx_words.specs.Font as font
use Rattle.ntx_words.specs.inner.Views.{texts_of}
use Rattle.ntx_words.proofs.read.paths_of.Given as goal

abbrev pub invariant-loop-file : goal.invariant-loop-file
invariant-loop-file l = map string_bytes l.paths.items ≡ texts_of (take l.file-index l.files)

abbrev pub invariant-loop-font : goal.invariant-loop-font
invariant-loop-font l = map string_bytes l.paths.items ≡ texts_of l.files ++ map (λ word. (font.font_of word.now).path) (take l.font-index l.fonts)
