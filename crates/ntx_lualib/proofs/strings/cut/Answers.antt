use Rattle.std.proofs.Common.{◌≡◌, ◌-◌, ◌∙◌, min, length, take, drop, arith}
use Rattle.ntx_lualib.proofs.Slices.{cut}
use Rattle.ntx_lualib.proofs.strings.cut.Goals as goal

pub returns : goal.returns
returns c =
    let to : c.min-to.result ≡ min c.args.j (length c.args.bytes.now) = omega arith in
    let before : c.min-before.result ≡ min c.args.i (min c.args.j (length c.args.bytes.now)) = omega arith in
    (λ i. take (to i - before i) (drop (before i) c.args.bytes.now)) ∙ cut c.args.bytes.now c.args.i c.args.j
