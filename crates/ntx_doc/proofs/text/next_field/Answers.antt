use Rattle.ntx_doc.proofs.FieldsLemmas.{fields_none, next_field_last, next_field_first}
use Rattle.ntx_doc.proofs.text.next_field.Goals as goal

pub returns-in_err-start : goal.returns-in_err-start
returns-in_err-start c = rw c.from_residual.ensures (fields_none c.args.line.now c.in_err-start.ensures)

pub returns-in-None : goal.returns-in-None
returns-in-None c = next_field_last c.args.line.now c.in_ok-start.start c.in_ok-start.ensures c.in-None.ensures

pub returns-in-Some : goal.returns-in-Some
returns-in-Some c = next_field_first c.args.line.now c.in_ok-start.start c.in-Some.end c.in_ok-start.ensures c.in-Some.ensures
