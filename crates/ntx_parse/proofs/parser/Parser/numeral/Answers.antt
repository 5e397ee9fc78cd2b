use Rattle.std.proofs.Common.{w64, lt→ltb}
use Rattle.std.proofs.lemmas.Int.{to_z-of_z}
use Rattle.std.proofs.Math.Facts.{sfits_lit}
use Rattle.ntx_parse.proofs.reads.Answers.{ok, err_by, done}
use Rattle.ntx_parse.proofs.reads.Words.{value_kept}
use Rattle.ntx_parse.proofs.parser.Parser.numeral.Goals as goal

pub returns-in_err-word : goal.returns-in_err-word
returns-in_err-word c = err_by _ _ c.from_residual.ensures.1 c.in_err-word.ensures.reads

pub numeral_value-requires : goal.numeral_value-requires
numeral_value-requires c = value_kept c.args.place _ _ c.self.inside.rest.now _ c.self.view_is c.self.invariant c.requires c.in_ok-word.ensures.reads

pub returns : goal.returns
returns c =
    ok _ c.in_ok-word.ensures.reads (rw (to_z-of_z w64 c.numeral_value.result (sfits_lit (lt→ltb _ _ c.numeral_value.type_inv)), c.numeral_value.ensures) done)
