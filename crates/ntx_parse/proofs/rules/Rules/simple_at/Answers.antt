use Rattle.std.proofs.Common.{refl}
use Rattle.ntx_parse.specs.inner.Reading.{readers}
use Rattle.ntx_parse.proofs.reads.Answers.{same, stops_at_once}
use Rattle.ntx_parse.proofs.complete.Stats.{simple_other}
use Rattle.ntx_parse.proofs.rules.Rules.simple_at.Goals as goal

pub returns-in-Nil : goal.returns-in-Nil
returns-in-Nil g c = rw c.in-Nil.is c.constant.ensures

pub returns-in-False : goal.returns-in-False
returns-in-False g c = rw c.in-False.is c.constant-in-False.ensures

pub returns-in-True : goal.returns-in-True
returns-in-True g c = rw c.in-True.is c.constant-in-True.ensures

pub returns-in-Numeral : goal.returns-in-Numeral
returns-in-Numeral g c = rw c.in-Numeral.is c.numeral.ensures

pub returns-in-Text : goal.returns-in-Text
returns-in-Text g c = rw c.in-Text.is c.text.ensures

pub returns-in-Function : goal.returns-in-Function
returns-in-Function g c = rw c.in-Function.is c.function_exp.ensures

pub returns-in-LeftBrace : goal.returns-in-LeftBrace
returns-in-LeftBrace g c = rw c.in-LeftBrace.is c.table_exp.ensures

pub returns-in-Name : goal.returns-in-Name
returns-in-Name g c = rw c.in-Name.is c.prefix_exp.ensures

pub returns-in-LeftParenthesis : goal.returns-in-LeftParenthesis
returns-in-LeftParenthesis g c = rw c.in-LeftParenthesis.is c.prefix_exp-in-LeftParenthesis.ensures

pub returns-in_default : goal.returns-in_default
returns-in_default g c =
    rw c.fault.ensures (same (λ n. simple_other (readers n) c.args.place c.args.begins c.args.parser.now.words c.in_default.not-Nil c.in_default.not-False c.in_default.not-True c.in_default.not-Numeral c.in_default.not-Text c.in_default.not-Function c.in_default.not-LeftBrace c.in_default.not-Name c.in_default.not-LeftParenthesis)
    (stops_at_once _ refl refl))
