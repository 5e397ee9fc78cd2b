use Rattle.std.proofs.Common.{Some, refl, map, subst, string_bytes}
use Rattle.ntx_num.specs.Answer.{Answers, result_map}
use Rattle.ntx_words.specs.View.{line_seen}
use Rattle.ntx_words.proofs.Lines.{accepted_whole, given_are_found}
use Rattle.ntx_words.proofs.read.read_words.Goals as goal

pub returns : goal.returns
returns c =
    let words = map string_bytes c.args.words.now in
    let same = given_are_found c.in_ok-matches.matches c.get_str-value.result (Some c.in-Some.paths) c.in-Some.paths.now c.get_str-value.ensures c.in-Some.ensures refl in
    subst (Answers (result_map line_seen c.line_of-in-Some.result)) (accepted_whole words _ _ c.in_ok-matches.ensures same) c.line_of-in-Some.ensures
