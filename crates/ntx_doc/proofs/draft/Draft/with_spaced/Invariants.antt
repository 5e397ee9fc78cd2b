use Rattle.std.proofs.Common.{◌≡◌, length}
use Rattle.ntx_doc.specs.Text.{fields_of}
use Rattle.ntx_doc.specs.Words.{spaced}
use Rattle.ntx_doc.specs.Place.{put_all}
use Rattle.ntx_doc.specs.Draft.{place_of}
use Rattle.ntx_doc.proofs.draft.Draft.with_spaced.Given as goal

abbrev pub invariant-loop-word : goal.invariant-loop-word
invariant-loop-word l =
    (l.draft.font ≡ l.font)
    × (put_all (spaced l.font (fields_of l.rest)) (place_of l.draft) ≡ put_all (spaced l.font (fields_of l.line)) (place_of l.fn.self))

abbrev pub decreases-loop-word : goal.decreases-loop-word
decreases-loop-word l = length (fields_of l.rest)
