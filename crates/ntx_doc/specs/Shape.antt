-- What the commands of an accepted document keep, for the machine that carries them out. Each is a test of one command that stands outside
-- of boxes, and speaks of the commands in it too. That a box holds just what stands between `hbox` and its `end`, and that the code
-- of a character is a byte, are part of the type of commands.
--     has_numbers_in_range command      each number is in its range
--     has_fonts fonts command           each font is there, if there are as many
--     may_stand_outside command         it is no node but a box, and no parameter is set in the box
--     box_depth command                 how deep boxes nest, the outermost included; 0 if there is none
-- `fold-Command` goes from the innermost boxes outwards: its layer gives the answer for a command, and at a box it is handed the
-- answers for the commands in it.
use Rattle.std.specs.Prelude.{ℕ, ◌+◌, nat_lt, nat_le, max, Bool, ◌&&◌, ◌||◌, true, false, not, List, [], ◌∷◌}
use Rattle.std.specs.List.{list_all, list_any}
use Rattle.ntx_num.specs.Dimension.{is_dimension, is_within, max_penalty}
use Rattle.ntx_item.specs.Parameters.{is_in, is_in_range, is_glue_in_range}
use Rattle.ntx_item.specs.declared.pack_to.PackTo.{PackTo}
use Rattle.ntx_item.specs.declared.pack_to.PackTo.TheVariants.{Exactly, Additional}
use Rattle.ntx_doc.specs.declared.command.Command.{Command, out-Command}
use Rattle.ntx_doc.specs.declared.command.Command.TheOpen.{Command-F}
use Rattle.ntx_doc.specs.declared.command.Command.TheFolds.{fold-Command}
use Rattle.ntx_doc.specs.Numbers.{attributes, attribute_values}

-- each of the answers for the commands in a box, and one of them
abbrev pub every : List Bool → Bool
every answers = list_all (λ answer. answer) answers

abbrev pub some : List Bool → Bool
some answers = list_any (λ answer. answer) answers

-- ---- numbers

abbrev pub is_box_width : PackTo → Bool
is_box_width (Exactly w) = is_dimension w
is_box_width (Additional w) = is_dimension w

abbrev pub numbers_layer : Command-F Bool → Bool
numbers_layer (Command-F.Set p v) = is_in_range p v
numbers_layer (Command-F.SetGlue g spec) = is_glue_in_range spec
numbers_layer (Command-F.Attr id v) = is_in attributes id && is_in attribute_values v
numbers_layer (Command-F.NoAttr id) = is_in attributes id
numbers_layer (Command-F.HBox to inner) = is_box_width to && every inner
numbers_layer (Command-F.Glue spec) = is_glue_in_range spec
numbers_layer (Command-F.Kern w) = is_dimension w
numbers_layer (Command-F.Penalty p) = is_within max_penalty p
numbers_layer (Command-F.Rule size) = is_dimension size.w && is_dimension size.h && is_dimension size.d
numbers_layer (Command-F.Glyph font code) = nat_le font 63
numbers_layer (Command-F.Space font) = nat_le font 63

abbrev pub has_numbers_in_range : Command → Bool
has_numbers_in_range command = fold-Command Bool numbers_layer command

-- ---- fonts

abbrev pub fonts_layer : ℕ → Command-F Bool → Bool
fonts_layer fonts (Command-F.HBox to inner) = every inner
fonts_layer fonts (Command-F.Glyph font code) = nat_lt font fonts
fonts_layer fonts (Command-F.Space font) = nat_lt font fonts
fonts_layer fonts _ = true

abbrev pub has_fonts : ℕ → Command → Bool
has_fonts fonts command = fold-Command Bool (fonts_layer fonts) command

-- ---- places

abbrev pub setting_layer : Command-F Bool → Bool
setting_layer (Command-F.Set p v) = true
setting_layer (Command-F.SetGlue g spec) = true
setting_layer (Command-F.HBox to inner) = some inner
setting_layer _ = false

-- the command sets a parameter, or one in it does
abbrev pub has_setting : Command → Bool
has_setting command = fold-Command Bool setting_layer command

abbrev pub outside_layer : Command-F Command → Bool
outside_layer (Command-F.Set p v) = true
outside_layer (Command-F.SetGlue g spec) = true
outside_layer (Command-F.Attr id v) = true
outside_layer (Command-F.NoAttr id) = true
outside_layer (Command-F.HBox to body) = not (list_any has_setting body)
outside_layer _ = false

abbrev pub may_stand_outside : Command → Bool
may_stand_outside command = outside_layer (out-Command command)

abbrev pub box_layer : Command-F Command → Bool
box_layer (Command-F.HBox to body) = true
box_layer _ = false

abbrev pub is_box : Command → Bool
is_box command = box_layer (out-Command command)

-- ---- nesting

abbrev pub greatest : List ℕ → ℕ
greatest [] = 0
greatest (n ∷ others) = max n (greatest others)

abbrev pub depth_layer : Command-F ℕ → ℕ
depth_layer (Command-F.HBox to depths) = greatest depths + 1
depth_layer _ = 0

abbrev pub box_depth : Command → ℕ
box_depth command = fold-Command ℕ depth_layer command
