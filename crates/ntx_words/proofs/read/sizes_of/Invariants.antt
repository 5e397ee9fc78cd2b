use Rattle.std.proofs.Common.{◌≡◌, map, take}
use Rattle.ntx_words.specs.Font as font
use Rattle.ntx_words.proofs.read.sizes_of.Given as goal

abbrev pub invariant-loop-font : goal.invariant-loop-font
invariant-loop-font l = l.sizes.items ≡ map (λ word. (font.font_of word.now).size) (take l.font-index l.fonts)
