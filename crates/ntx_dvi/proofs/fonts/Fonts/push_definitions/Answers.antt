use Rattle.std.proofs.Common.{List, ℕ, ◌++◌, ap, sym, ◌∙◌, arith, append-nil}
use Rattle.ntx_dvi.proofs.FontsLemmas.{definitions-none}
use Rattle.ntx_dvi.proofs.fonts.Fonts.push_definitions.Goals as goal

pub loop-number-init : goal.loop-number-init
loop-number-init c =
    let none = definitions-none c.self.inside.definitions.items 64 (omega (arith, c.self.invariant.0)) in
    (omega arith, sym (ap (λ (rest : List ℕ). c.args.bytes.now.items ++ rest) none ∙ append-nil c.args.bytes.now.items))
