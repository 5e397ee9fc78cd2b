use Rattle.std.proofs.Common.{◌≡◌, ◌+ℤ◌, to_z, of_z, w64, ap, ◌∙◌, refl, arith}
use Rattle.std.proofs.lemmas.Int.{ints}
use Rattle.ntx_num.specs.Demerits.{capped_square, signed_square}
use Rattle.ntx_num.proofs.squares.demerits.Goals as goal

pub returns : goal.returns
returns c =
    let sum : to_z w64 (of_z w64 (to_z w64 (of_z w64 c.square.result) +ℤ to_z w64 (of_z w64 c.penalty.result))) ≡ c.square.result +ℤ c.penalty.result = omega (arith, ints) in
    let argument : to_z w64 (of_z w64 (to_z w64 (of_z w64 c.args.linepenalty) +ℤ to_z w64 (of_z w64 c.args.b))) ≡ c.args.linepenalty +ℤ c.args.b = omega (arith, ints) in
    let first : c.square.result ≡ capped_square (c.args.linepenalty +ℤ c.args.b) = c.square.ensures.value ∙ ap capped_square argument in
    let penalty : to_z w64 (of_z w64 c.args.p) ≡ c.args.p = omega (arith, ints) in
    let second : c.penalty.result ≡ signed_square c.args.p = c.penalty.ensures.value ∙ ap signed_square penalty in
    sum ∙ rw (first, second) refl
