use Rattle.std.proofs.Common.{◌≡◌, ap, sym, ◌∙◌, nat_eq}
use Rattle.std.specs.Cmp.Lexicographic.{pointwise}
use Rattle.ntx_values.specs.Texts.{place_of}
use Rattle.ntx_values.proofs.Positions.{position-mapped}
use Rattle.ntx_values.proofs.texts.Texts.find.Goals as goal

pub returns : goal.returns
returns c =
    c.get_index_of.ensures.index ∙ sym (position-mapped (pointwise nat_eq c.args.bytes.now) (λ v. v.items) c.self.inside.texts.keys)
    ∙ ap (place_of c.args.bytes.now) c.self.view_is
