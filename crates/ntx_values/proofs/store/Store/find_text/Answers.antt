use Rattle.std.proofs.Common.{ap, sym, ◌∙◌}
use Rattle.ntx_values.specs.State.{bytes_of}
use Rattle.ntx_values.proofs.Makings.{found_bytes}
use Rattle.ntx_values.proofs.store.Store.find_text.Goals as goal

pub returns-clause-bytes : goal.returns-clause-bytes
returns-clause-bytes c =
    ap (λ s. bytes_of s (record { number = c.in_ok-number.number })) (sym c.self.view_is)
    ∙ found_bytes c.args.bytes.now c.self.inside.texts c.in_ok-number.number (sym c.find.ensures ∙ c.in_ok-number.was)
