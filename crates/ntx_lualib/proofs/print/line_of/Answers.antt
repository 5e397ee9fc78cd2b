use Rattle.std.proofs.Common.{◌∙◌, ◌∷◌, [], ap, cond, arith}
use Rattle.std.specs.Prelude.{nat_eq}
use Rattle.ntx_values.specs.declared.value.Value.TheVariants.{Nil}
use Rattle.ntx_lualib.specs.Shown.{shown}
use Rattle.ntx_lualib.specs.Output.{max_printed}
use Rattle.ntx_lualib.specs.inner.Lines.{added}
use Rattle.ntx_lualib.proofs.Joins.{line_more, line_end}
use Rattle.ntx_lualib.proofs.print.line_of.Goals as goal

pub loop-i-preserved : goal.loop-i-preserved
loop-i-preserved c =
    line_more (shown c.args.store.now) max_printed (9 ∷ []) c.args.args.now c.loop-i.i Nil c.loop-i.line c.add_part.new.self c.in_ok-part.part.items (omega arith) c.loop-i.invariant c.in_ok-part.ensures
    (c.in_ok-add_part.ensures ∙ ap (added max_printed (cond (nat_eq c.loop-i.i 0) c.loop-i.line (added max_printed c.loop-i.line (9 ∷ [])))) c.deref.ensures.value)

pub returns : goal.returns
returns c =
    line_end (shown c.args.store.now) max_printed (9 ∷ []) (10 ∷ []) c.args.args.now c.loop-i.i c.loop-i.line c.add.new.self (omega arith) c.loop-i.invariant c.in_ok-add.ensures
