-- The command that `clap` is given, and what its matches hold.
use Rattle.std.specs.Prelude.{true, [], Some, codes, unwrap_or, option_map}
use Rattle.clap.specs.Words.{App, Rule, found_of, first_value, matched_of, new_app, new_rule, raw_values, with_rule}
use Rattle.clap.specs.declared.builder.ArgAction.TheVariants.{Set, Append}
use Rattle.clap.specs.declared.parser.matches.ArgMatches.{ArgMatches}
use Rattle.ntx_num.specs.declared.answer.Fail.{Fail}
use Rattle.ntx_num.specs.declared.answer.Fail.TheVariants.{NoMemory, Is}
use Rattle.ntx_words.specs.declared.words.BadWords.{BadWords}
use Rattle.ntx_words.specs.Parts.{Parts}

-- the option with its value
abbrev pub steps_rule : Rule
steps_rule = record (new_rule (codes "steps")) { long = Some (codes "steps"); action = Some Set }

-- the paths
abbrev pub paths_rule : Rule
paths_rule = record (new_rule (codes "paths")) { action = Some Append }

abbrev bare : App
bare = record (new_app (codes "ntx")) {
  top = record (new_app (codes "ntx")).top {
    no_binary_name = true;
    disable_help_flag = true;
    disable_version_flag = true;
  };
}

-- the command
abbrev pub ntx_app : App
ntx_app = with_rule (with_rule bare steps_rule) paths_rule

-- memory ran out and so `memory`, or the words are refused and so `words`
abbrev pub MatchFail : Fail BadWords → Type 0 → Type 0 → Type 0
MatchFail NoMemory memory words = memory
MatchFail (Is why) memory words = words

-- what the matches hold
abbrev pub parts_found : ArgMatches → Parts
parts_found matches = record {
  steps = first_value (found_of matches) (codes "steps");
  paths = unwrap_or (option_map raw_values (matched_of (found_of matches) (codes "paths"))) [];
}
