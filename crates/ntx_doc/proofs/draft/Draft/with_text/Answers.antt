use Rattle.ntx_doc.specs.Text.{fields_of}
use Rattle.ntx_doc.specs.Draft.{place_of}
use Rattle.ntx_doc.proofs.TextLemmas.{text_after, text_first}
use Rattle.ntx_doc.proofs.draft.Draft.with_text.Goals.{then-self+in_ok-draft, else-self+in_ok-with_word+in_ok-draft-2}
use Rattle.ntx_doc.proofs.draft.Draft.with_text.Goals as goal

pub returns : goal.returns
returns c = elim c.if-self.branch [
  | then-self+in_ok-draft w ↦
      rw w.draft-is
      (text_after c.args.fonts (fields_of c.args.arguments.now) c.in-Some.word.now (fields_of c.in-Some.others.now) (place_of c.args.self) (place_of w.in_ok-draft.draft)
      c.in-Some.ensures c.if-fonts-eq0.false w.if-self.true w.in_ok-draft.ensures)
  | else-self+in_ok-with_word+in_ok-draft-2 w ↦
      rw w.draft-is
      (text_first c.args.fonts (fields_of c.args.arguments.now) c.in-Some.word.now (fields_of c.in-Some.others.now) (place_of c.args.self) (place_of w.in_ok-with_word.field-0)
      (place_of w.in_ok-draft-2.draft) c.in-Some.ensures c.if-fonts-eq0.false w.if-self.false w.in_ok-with_word.ensures w.in_ok-draft-2.ensures)
]
