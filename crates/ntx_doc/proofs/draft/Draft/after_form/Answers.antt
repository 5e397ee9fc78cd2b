use Rattle.ntx_doc.proofs.draft.Draft.after_form.Goals as goal

pub returns-in-Set : goal.returns-in-Set
returns-in-Set c = rw c.in-Set.is (rw c.set.ensures at (c.with_command.ensures c.args.fonts))

pub returns-in-SetGlue : goal.returns-in-SetGlue
returns-in-SetGlue c = rw c.in-SetGlue.is (rw c.set_glue.ensures at (c.with_command-in-SetGlue.ensures c.args.fonts))

pub returns-in-Attr : goal.returns-in-Attr
returns-in-Attr c = rw c.in-Attr.is (rw c.attr.ensures at (c.with_command-in-Attr.ensures c.args.fonts))

pub returns-in-NoAttr : goal.returns-in-NoAttr
returns-in-NoAttr c = rw c.in-NoAttr.is (rw c.no_attr.ensures at (c.with_command-in-NoAttr.ensures c.args.fonts))

pub returns-in-Glue : goal.returns-in-Glue
returns-in-Glue c = rw c.in-Glue.is (rw c.glue.ensures at (c.with_command-in-Glue.ensures c.args.fonts))

pub returns-in-Kern : goal.returns-in-Kern
returns-in-Kern c = rw c.in-Kern.is (rw c.kern.ensures at (c.with_command-in-Kern.ensures c.args.fonts))

pub returns-in-Penalty : goal.returns-in-Penalty
returns-in-Penalty c = rw c.in-Penalty.is (rw c.penalty.ensures at (c.with_command-in-Penalty.ensures c.args.fonts))

pub returns-in-Rule : goal.returns-in-Rule
returns-in-Rule c = rw c.in-Rule.is (rw c.rule.ensures at (c.with_command-in-Rule.ensures c.args.fonts))
