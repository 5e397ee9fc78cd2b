-- What was put together is the bytes of the operation.
use Rattle.std.proofs.Common.{◌≡◌, ℕ, ◌+◌, List, ◌++◌, length, ap, ◌∙◌, arith, rules}
use Rattle.ntx_dvi.specs.Bytes.{postamble, definitions, filler_count}
use Rattle.ntx_dvi.specs.Writer.{Writer}
use Rattle.ntx_dvi.proofs.Ending.{end_bytes}
use Rattle.ntx_dvi.proofs.dvi.Dvi.ending.Goals as goal

pub returns : goal.returns
returns c =
    let p = c.args.self.now.progress in
    let fonts = ap (λ (w : Writer). definitions 0 w.progress.fonts) c.self.view_is in
    let same =
    c.in_ok-extend_from_slice-2.ensures.items
    ∙ ap (λ (b : List ℕ). b ++ c.post_post.result)
    (c.in_ok-push_definitions.ensures
    ∙ ap (λ (b : List ℕ). b ++ definitions 0 c.self.inside.fonts)
    (c.in_ok-extend_from_slice.ensures.items ∙ ap (λ (b : List ℕ). b ++ c.postamble.result) c.new-bytes.ensures.items))
    ∙ ap (λ (b : List ℕ). (b ++ definitions 0 c.self.inside.fonts) ++ c.post_post.result) c.postamble.ensures
    ∙ ap (λ (b : List ℕ). (postamble p ++ b) ++ c.post_post.result) fonts
    ∙ ap (λ (b : List ℕ). (postamble p ++ definitions 0 p.fonts) ++ b) c.post_post.ensures in
    let place_is : c.place.result ≡ p.place = c.place.ensures ∙ ap (λ (w : Writer). w.progress.place) c.self.view_is in
    let counts : c.len.result ≡ length c.extend_from_slice-2.new.self.items = search rules in
    let length_is : c.place.result + c.len.result ≡ p.place + length c.extend_from_slice-2.new.self.items = omega (arith, place_is, counts) in
    let counted = c.filler_count.ensures.value ∙ ap (λ (n : ℕ). filler_count n) length_is in
    end_bytes p c.extend_from_slice-2.new.self.items c.extend_from_slice-3.new.self.items c.filler_count.result same counted c.filler_count.ensures.most c.in_ok-extend_from_slice-3.ensures.items
