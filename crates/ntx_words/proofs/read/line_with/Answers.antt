use Rattle.std.proofs.Common.{map, string_bytes}
use Rattle.ntx_words.proofs.Lines.{line_made}
use Rattle.ntx_words.proofs.read.line_with.Goals as goal

pub returns : goal.returns
returns c =
    line_made c.args.words.now c.split_at.result.0.now c.split_at.result.1.now c.args.steps (map string_bytes c.in_ok-paths_of.field-0.items)
    c.in_ok-sizes_of.field-0.items c.split_at.ensures.front c.split_at.ensures.back c.in_ok-paths_of.ensures c.in_ok-sizes_of.ensures
