use Rattle.std.proofs.Common.{◌∙◌, sym, ap}
use Rattle.ntx_doc.specs.declared.command.Command.TheVariants as kind
use Rattle.ntx_machine.proofs.Building.{numbers_inside}
use Rattle.ntx_machine.proofs.engine.Engine.command.Goals as goal

pub outer_box-requires : goal.outer_box-requires
outer_box-requires g c = numbers_inside c.args.command.now c.in-HBox.to c.as_slice.result.now (c.in-HBox.is ∙ ap (kind.HBox c.in-HBox.to) (sym c.as_slice.ensures)) c.requires
