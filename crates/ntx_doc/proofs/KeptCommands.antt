-- What commands keep, variant by variant: in a box and outside of boxes.
use Rattle.std.proofs.Common.{◌≡◌, ℕ, ◌+◌, ◌≤◌, ◌<◌, ℤ, Bool, true, false, not, ◌&&◌, List, [], ◌∷◌, map, ap, sym, refl, ◌∙◌, arith}
use Rattle.std.specs.Prelude.{nat_lt, nat_le}
use Rattle.std.specs.List.{AllByRecursion, list_any}
use Rattle.std.proofs.lemmas.Bool.Decides.{nat_tests}
use Rattle.ntx_num.specs.Dimension.{is_dimension, is_within, max_penalty}
use Rattle.ntx_num.specs.declared.size.Size.{Size}
use Rattle.ntx_item.specs.Parameters.{is_in, is_in_range, is_glue_in_range}
use Rattle.ntx_item.specs.declared.param.Param.{Param}
use Rattle.ntx_item.specs.declared.glue_param.GlueParam.{GlueParam}
use Rattle.ntx_item.specs.declared.glue.GlueSpec.{GlueSpec}
use Rattle.ntx_item.specs.declared.pack_to.PackTo.{PackTo}
use Rattle.ntx_doc.specs.declared.command.Command.{Command}
use Rattle.ntx_doc.specs.declared.command.Command.TheVariants as kind
use Rattle.ntx_doc.specs.Numbers.{attributes, attribute_values}
use Rattle.ntx_doc.specs.Shape.{every, some, is_box_width, has_numbers_in_range, numbers_layer, has_fonts, fonts_layer, has_setting, setting_layer, may_stand_outside, outside_layer, is_box, box_layer, greatest, box_depth, depth_layer}
use Rattle.ntx_doc.proofs.Folds.{fold_set, fold_set_glue, fold_attr, fold_no_attr, fold_hbox, fold_glue, fold_kern, fold_penalty, fold_rule, fold_glyph, fold_space}

-- a command in a box, in which boxes nest to depth d
pub record IsInner (fonts d : ℕ) (command : Command) : Type 0 where
  pub numbers : has_numbers_in_range command ≡ true
  pub fonts_there : has_fonts fonts command ≡ true
  pub sets_nothing : has_setting command ≡ false
  pub depth : box_depth command ≤ d

-- a command outside of boxes, in which boxes nest to depth d
pub record IsOuter (fonts d : ℕ) (command : Command) : Type 0 where
  pub numbers : has_numbers_in_range command ≡ true
  pub fonts_there : has_fonts fonts command ≡ true
  pub stands : may_stand_outside command ≡ true
  pub depth : box_depth command ≤ d

-- a command that is no box, outside of boxes
pub record IsPlainOuter (fonts d : ℕ) (command : Command) : Type 0 where
  pub outer : IsOuter fonts d command
  pub no_box : is_box command ≡ false

and_both : (a b : Bool) → a ≡ true → b ≡ true → (a && b) ≡ true
and_both a b x y = rw x y

no_depth : (n d : ℕ) → n ≡ 0 → n ≤ d
no_depth n d e = omega arith

-- ---- outside of boxes

pub set_outer : (fonts d : ℕ) (p : Param) (v : ℤ) → is_in_range p v ≡ true → IsPlainOuter fonts d (kind.Set p v)
set_outer fonts d p v within =
    record {
      outer = record {
        numbers = fold_set numbers_layer p v ∙ within;
        fonts_there = fold_set (fonts_layer fonts) p v;
        stands = ap outside_layer (kind.outs-Set p v);
        depth = no_depth _ d (fold_set depth_layer p v);
      };
      no_box = ap box_layer (kind.outs-Set p v);
    }

pub set_glue_outer : (fonts d : ℕ) (g : GlueParam) (spec : GlueSpec) → is_glue_in_range spec ≡ true → IsPlainOuter fonts d (kind.SetGlue g spec)
set_glue_outer fonts d g spec within =
    record {
      outer = record {
        numbers = fold_set_glue numbers_layer g spec ∙ within;
        fonts_there = fold_set_glue (fonts_layer fonts) g spec;
        stands = ap outside_layer (kind.outs-SetGlue g spec);
        depth = no_depth _ d (fold_set_glue depth_layer g spec);
      };
      no_box = ap box_layer (kind.outs-SetGlue g spec);
    }

pub attr_outer : (fonts d : ℕ) (id v : ℤ) → is_in attributes id ≡ true → is_in attribute_values v ≡ true → IsPlainOuter fonts d (kind.Attr id v)
attr_outer fonts d id v x y =
    record {
      outer = record {
        numbers = fold_attr numbers_layer id v ∙ and_both (is_in attributes id) (is_in attribute_values v) x y;
        fonts_there = fold_attr (fonts_layer fonts) id v;
        stands = ap outside_layer (kind.outs-Attr id v);
        depth = no_depth _ d (fold_attr depth_layer id v);
      };
      no_box = ap box_layer (kind.outs-Attr id v);
    }

pub no_attr_outer : (fonts d : ℕ) (id : ℤ) → is_in attributes id ≡ true → IsPlainOuter fonts d (kind.NoAttr id)
no_attr_outer fonts d id x =
    record {
      outer = record {
        numbers = fold_no_attr numbers_layer id ∙ x;
        fonts_there = fold_no_attr (fonts_layer fonts) id;
        stands = ap outside_layer (kind.outs-NoAttr id);
        depth = no_depth _ d (fold_no_attr depth_layer id);
      };
      no_box = ap box_layer (kind.outs-NoAttr id);
    }

-- ---- in a box

pub attr_inner : (fonts d : ℕ) (id v : ℤ) → is_in attributes id ≡ true → is_in attribute_values v ≡ true → IsInner fonts d (kind.Attr id v)
attr_inner fonts d id v x y =
    record {
      numbers = fold_attr numbers_layer id v ∙ and_both (is_in attributes id) (is_in attribute_values v) x y;
      fonts_there = fold_attr (fonts_layer fonts) id v;
      sets_nothing = fold_attr setting_layer id v;
      depth = no_depth _ d (fold_attr depth_layer id v);
    }

pub no_attr_inner : (fonts d : ℕ) (id : ℤ) → is_in attributes id ≡ true → IsInner fonts d (kind.NoAttr id)
no_attr_inner fonts d id x =
    record {
      numbers = fold_no_attr numbers_layer id ∙ x;
      fonts_there = fold_no_attr (fonts_layer fonts) id;
      sets_nothing = fold_no_attr setting_layer id;
      depth = no_depth _ d (fold_no_attr depth_layer id);
    }

pub glue_inner : (fonts d : ℕ) (spec : GlueSpec) → is_glue_in_range spec ≡ true → IsInner fonts d (kind.Glue spec)
glue_inner fonts d spec x =
    record {
      numbers = fold_glue numbers_layer spec ∙ x;
      fonts_there = fold_glue (fonts_layer fonts) spec;
      sets_nothing = fold_glue setting_layer spec;
      depth = no_depth _ d (fold_glue depth_layer spec);
    }

pub kern_inner : (fonts d : ℕ) (w : ℤ) → is_dimension w ≡ true → IsInner fonts d (kind.Kern w)
kern_inner fonts d w x =
    record {
      numbers = fold_kern numbers_layer w ∙ x;
      fonts_there = fold_kern (fonts_layer fonts) w;
      sets_nothing = fold_kern setting_layer w;
      depth = no_depth _ d (fold_kern depth_layer w);
    }

pub penalty_inner : (fonts d : ℕ) (p : ℤ) → is_within max_penalty p ≡ true → IsInner fonts d (kind.Penalty p)
penalty_inner fonts d p x =
    record {
      numbers = fold_penalty numbers_layer p ∙ x;
      fonts_there = fold_penalty (fonts_layer fonts) p;
      sets_nothing = fold_penalty setting_layer p;
      depth = no_depth _ d (fold_penalty depth_layer p);
    }

pub rule_inner : (fonts d : ℕ) (size : Size) → is_dimension size.w ≡ true → is_dimension size.h ≡ true → is_dimension size.d ≡ true → IsInner fonts d (kind.Rule size)
rule_inner fonts d size x y z =
    record {
      numbers = fold_rule numbers_layer size ∙ rw (x, y) z;
      fonts_there = fold_rule (fonts_layer fonts) size;
      sets_nothing = fold_rule setting_layer size;
      depth = no_depth _ d (fold_rule depth_layer size);
    }

pub glyph_inner : (fonts d font code : ℕ) → font ≤ 63 → font < fonts → IsInner fonts d (kind.Glyph font code)
glyph_inner fonts d font code x y =
    record {
      numbers = fold_glyph numbers_layer font code ∙ grind (arith, nat_tests);
      fonts_there = fold_glyph (fonts_layer fonts) font code ∙ grind (arith, nat_tests);
      sets_nothing = fold_glyph setting_layer font code;
      depth = no_depth _ d (fold_glyph depth_layer font code);
    }

pub space_inner : (fonts d font : ℕ) → font ≤ 63 → font < fonts → IsInner fonts d (kind.Space font)
space_inner fonts d font x y =
    record {
      numbers = fold_space numbers_layer font ∙ grind (arith, nat_tests);
      fonts_there = fold_space (fonts_layer fonts) font ∙ grind (arith, nat_tests);
      sets_nothing = fold_space setting_layer font;
      depth = no_depth _ d (fold_space depth_layer font);
    }

-- ---- boxes

numbers_inside : (fonts d : ℕ) (body : List Command) → AllByRecursion (IsInner fonts d) body → every (map has_numbers_in_range body) ≡ true
numbers_inside fonts d [] all = refl
numbers_inside fonts d (command ∷ body) all = and_both _ _ all.0.numbers (numbers_inside fonts d body all.1)

fonts_inside : (fonts d : ℕ) (body : List Command) → AllByRecursion (IsInner fonts d) body → every (map (has_fonts fonts) body) ≡ true
fonts_inside fonts d [] all = refl
fonts_inside fonts d (command ∷ body) all = and_both _ _ all.0.fonts_there (fonts_inside fonts d body all.1)

settings_inside : (fonts d : ℕ) (body : List Command) → AllByRecursion (IsInner fonts d) body → some (map has_setting body) ≡ false
settings_inside fonts d [] all = refl
settings_inside fonts d (command ∷ body) all = rw all.0.sets_nothing (settings_inside fonts d body all.1)

no_setting : (fonts d : ℕ) (body : List Command) → AllByRecursion (IsInner fonts d) body → list_any has_setting body ≡ false
no_setting fonts d [] all = refl
no_setting fonts d (command ∷ body) all = rw all.0.sets_nothing (no_setting fonts d body all.1)

depth_inside : (fonts d : ℕ) (body : List Command) → AllByRecursion (IsInner fonts d) body → greatest (map box_depth body) ≤ d
depth_inside fonts d [] all = omega arith
depth_inside fonts d (command ∷ body) all = omega (arith, all.0.depth, depth_inside fonts d body all.1)

depth_more : (fonts d : ℕ) (to : PackTo) (body : List Command) → AllByRecursion (IsInner fonts d) body → box_depth (kind.HBox to body) ≤ d + 1
depth_more fonts d to body all = omega (arith, fold_hbox depth_layer to body, depth_inside fonts d body all)

pub box_inner : (fonts d : ℕ) (to : PackTo) (body : List Command) → is_box_width to ≡ true → AllByRecursion (IsInner fonts d) body → IsInner fonts (d + 1) (kind.HBox to body)
box_inner fonts d to body width all =
    record {
      numbers = fold_hbox numbers_layer to body ∙ and_both _ _ width (numbers_inside fonts d body all);
      fonts_there = fold_hbox (fonts_layer fonts) to body ∙ fonts_inside fonts d body all;
      sets_nothing = fold_hbox setting_layer to body ∙ settings_inside fonts d body all;
      depth = depth_more fonts d to body all;
    }

pub box_outer : (fonts d : ℕ) (to : PackTo) (body : List Command) → is_box_width to ≡ true → AllByRecursion (IsInner fonts d) body → IsOuter fonts (d + 1) (kind.HBox to body)
box_outer fonts d to body width all =
    record {
      numbers = (box_inner fonts d to body width all).numbers;
      fonts_there = (box_inner fonts d to body width all).fonts_there;
      stands = ap outside_layer (kind.outs-HBox to body) ∙ ap not (no_setting fonts d body all);
      depth = depth_more fonts d to body all;
    }

pub outer_deeper : (fonts d e : ℕ) (command : Command) → d ≤ e → IsOuter fonts d command → IsOuter fonts e command
outer_deeper fonts d e command deeper outer =
    record { numbers = outer.numbers; fonts_there = outer.fonts_there; stands = outer.stands; depth = omega (arith, outer.depth) }
