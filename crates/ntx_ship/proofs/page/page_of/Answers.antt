-- No bits are lost.
use Rattle.std.proofs.Common.{◌≡◌, ◌+ℤ◌, to_z, of_z, w32, ◌∙◌, arith}
use Rattle.std.proofs.lemmas.Int.{ints}
use Rattle.ntx_ship.proofs.Marks.{exact, small, kept}
use Rattle.ntx_ship.proofs.page.page_of.Goals as goal

pub returns : goal.returns
returns c =
    let b = c.args.b in
    let height = exact b.height (small b.height c.requires.height) in
    let depth = exact b.depth (small b.depth c.requires.depth) in
    let sum : c.sum.result ≡ b.height +ℤ b.depth = c.sum.ensures ∙ (λ j. height j +ℤ depth j) in
    let total : to_z w32 (of_z w32 c.narrowed.result) ≡ b.height +ℤ b.depth = omega (arith, ints, c.narrowed.ensures, sum, c.requires.height, c.requires.depth) in
    let width : to_z w32 (of_z w32 c.narrowed-2.result) ≡ b.width = kept c.narrowed-2.result b.width (c.narrowed-2.ensures ∙ exact b.width (small b.width c.requires.width)) c.requires.width in
    (λ j. record { total = total j; width = width j; pieces = c.args.pieces.items })
