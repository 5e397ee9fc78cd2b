-- What a fold of a command gives, variant by variant.
use Rattle.std.proofs.Common.{◌≡◌, ℕ, ℤ, List, map, ap, sym, ◌∙◌}
use Rattle.ntx_num.specs.declared.size.Size.{Size}
use Rattle.ntx_item.specs.declared.param.Param.{Param}
use Rattle.ntx_item.specs.declared.glue_param.GlueParam.{GlueParam}
use Rattle.ntx_item.specs.declared.glue.GlueSpec.{GlueSpec}
use Rattle.ntx_item.specs.declared.pack_to.PackTo.{PackTo}
use Rattle.ntx_doc.specs.declared.command.Command.{Command}
use Rattle.ntx_doc.specs.declared.command.Command.TheVariants as kind
use Rattle.ntx_doc.specs.declared.command.Command.TheOpen.{Command-F}
use Rattle.ntx_doc.specs.declared.command.Command.TheFolds.{fold-Command, fold-roll-Command}

module _ {A : Type 0} (f : Command-F A → A) where
  pub fold_set : (p : Param) (v : ℤ) → fold-Command A f (kind.Set p v) ≡ f (Command-F.Set p v)
  fold_set p v = ap (fold-Command A f) (sym (kind.rolls-Set p v)) ∙ fold-roll-Command A f (Command-F.Set p v)

  pub fold_set_glue : (g : GlueParam) (spec : GlueSpec) → fold-Command A f (kind.SetGlue g spec) ≡ f (Command-F.SetGlue g spec)
  fold_set_glue g spec = ap (fold-Command A f) (sym (kind.rolls-SetGlue g spec)) ∙ fold-roll-Command A f (Command-F.SetGlue g spec)

  pub fold_attr : (id v : ℤ) → fold-Command A f (kind.Attr id v) ≡ f (Command-F.Attr id v)
  fold_attr id v = ap (fold-Command A f) (sym (kind.rolls-Attr id v)) ∙ fold-roll-Command A f (Command-F.Attr id v)

  pub fold_no_attr : (id : ℤ) → fold-Command A f (kind.NoAttr id) ≡ f (Command-F.NoAttr id)
  fold_no_attr id = ap (fold-Command A f) (sym (kind.rolls-NoAttr id)) ∙ fold-roll-Command A f (Command-F.NoAttr id)

  pub fold_hbox : (to : PackTo) (body : List Command) → fold-Command A f (kind.HBox to body) ≡ f (Command-F.HBox to (map (fold-Command A f) body))
  fold_hbox to body = ap (fold-Command A f) (sym (kind.rolls-HBox to body)) ∙ fold-roll-Command A f (Command-F.HBox to body)

  pub fold_glue : (spec : GlueSpec) → fold-Command A f (kind.Glue spec) ≡ f (Command-F.Glue spec)
  fold_glue spec = ap (fold-Command A f) (sym (kind.rolls-Glue spec)) ∙ fold-roll-Command A f (Command-F.Glue spec)

  pub fold_kern : (w : ℤ) → fold-Command A f (kind.Kern w) ≡ f (Command-F.Kern w)
  fold_kern w = ap (fold-Command A f) (sym (kind.rolls-Kern w)) ∙ fold-roll-Command A f (Command-F.Kern w)

  pub fold_penalty : (p : ℤ) → fold-Command A f (kind.Penalty p) ≡ f (Command-F.Penalty p)
  fold_penalty p = ap (fold-Command A f) (sym (kind.rolls-Penalty p)) ∙ fold-roll-Command A f (Command-F.Penalty p)

  pub fold_rule : (size : Size) → fold-Command A f (kind.Rule size) ≡ f (Command-F.Rule size)
  fold_rule size = ap (fold-Command A f) (sym (kind.rolls-Rule size)) ∙ fold-roll-Command A f (Command-F.Rule size)

  pub fold_glyph : (font code : ℕ) → fold-Command A f (kind.Glyph font code) ≡ f (Command-F.Glyph font code)
  fold_glyph font code = ap (fold-Command A f) (sym (kind.rolls-Glyph font code)) ∙ fold-roll-Command A f (Command-F.Glyph font code)

  pub fold_space : (font : ℕ) → fold-Command A f (kind.Space font) ≡ f (Command-F.Space font)
  fold_space font = ap (fold-Command A f) (sym (kind.rolls-Space font)) ∙ fold-roll-Command A f (Command-F.Space font)
