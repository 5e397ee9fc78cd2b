use Rattle.ntx_syntax.proofs.LawLemmas.{answer_lexes, answer_stands, answer_only, answer_refused}
use Rattle.ntx_syntax.proofs.lex.tokens.Goals as goal

pub returns-clause-lexes : goal.returns-clause-lexes
returns-clause-lexes c = answer_lexes _ c.lex.result c.lex.ensures

pub returns-clause-stand : goal.returns-clause-stand
returns-clause-stand c = answer_stands _ c.lex.result c.lex.ensures

pub returns-clause-only : goal.returns-clause-only
returns-clause-only c found h = answer_only _ c.lex.result c.lex.ensures found h

pub returns-clause-refused : goal.returns-clause-refused
returns-clause-refused c fault h = answer_refused _ c.lex.result c.lex.ensures fault h
