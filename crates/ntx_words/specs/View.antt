-- What contracts see in a `Words`.
use Rattle.std.specs.Prelude.{map, string_bytes}
use Rattle.ntx_words.specs.CommandLine.{CommandLine}
use Rattle.ntx_words.specs.declared.words.Words.{Words}

abbrev pub line_seen : Words → CommandLine
line_seen words = record {
  steps = words.steps;
  demo = words.demo;
  paths = map string_bytes words.paths.items;
  sizes = words.sizes.items;
}
