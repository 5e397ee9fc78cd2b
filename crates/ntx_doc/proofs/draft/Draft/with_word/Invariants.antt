use Rattle.std.proofs.Common.{◌≡◌, drop}
use Rattle.ntx_doc.specs.Words.{glyphs_of}
use Rattle.ntx_doc.specs.Place.{put_all}
use Rattle.ntx_doc.specs.Draft.{place_of}
use Rattle.ntx_doc.proofs.draft.Draft.with_word.Given as goal

abbrev pub invariant-loop-code : goal.invariant-loop-code
invariant-loop-code l =
    put_all (glyphs_of l.font (drop l.code-index l.word)) (place_of l.draft) ≡ put_all (glyphs_of l.font l.word) (place_of l.fn.self)
