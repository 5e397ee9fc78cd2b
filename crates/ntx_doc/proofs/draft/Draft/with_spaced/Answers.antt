use Rattle.ntx_doc.specs.Text.{fields_of}
use Rattle.ntx_doc.specs.Draft.{place_of}
use Rattle.ntx_doc.proofs.TextLemmas.{Went, spaced_step}
use Rattle.ntx_doc.proofs.draft.Draft.with_spaced.Goals as goal

pub loop-word-preserved : goal.loop-word-preserved
loop-word-preserved c =
    let went = spaced_step c.args.self.font c.in-Some.word.now (fields_of c.loop-word.rest.now) (fields_of c.in-Some.others.now) (place_of c.loop-word.draft)
    (place_of c.in_ok-put.field-0) (place_of c.in_ok-draft.draft) _ c.in-Some.ensures c.loop-word.invariant.0 c.in_ok-put.ensures c.in_ok-draft.ensures c.loop-word.invariant.1 in
    (went.font_same, went.leads)
