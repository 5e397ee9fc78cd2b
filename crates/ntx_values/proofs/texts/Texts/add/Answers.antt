use Rattle.std.proofs.Common.{◌≡◌, ◌++◌, ◌∷◌, [], None, ap, sym, subst, ◌∙◌}
use Rattle.ntx_values.specs.Texts.{place_of}
use Rattle.ntx_values.proofs.Makings.{inserted_texts, added_total}
use Rattle.ntx_values.proofs.texts.Texts.add.Goals as goal

pub invariant_of-self-2 : goal.invariant_of-self-2
invariant_of-self-2 c =
    let absent = subst (λ l. place_of c.args.bytes.now l ≡ None) (sym c.self.view_is) c.requires.absent in
    let texts = inserted_texts (λ v. v.items) c.self.inside.texts.keys c.insert.new.self.keys c.in_ok-from_slice.field-0 c.args.bytes.now c.in_ok-from_slice.ensures.items absent c.in_ok-insert.ensures.keys in
    added_total c.self.inside.total _ _ c.args.self.now c.args.bytes.now c.self.invariant.0 c.self.view_is texts c.requires.room

pub returns-clause-ok : goal.returns-clause-ok
returns-clause-ok c =
    let absent = subst (λ l. place_of c.args.bytes.now l ≡ None) (sym c.self.view_is) c.requires.absent in
    inserted_texts (λ v. v.items) c.self.inside.texts.keys c.insert.new.self.keys c.in_ok-from_slice.field-0 c.args.bytes.now c.in_ok-from_slice.ensures.items absent c.in_ok-insert.ensures.keys
    ∙ ap (λ l. l ++ c.args.bytes.now ∷ []) c.self.view_is
