use Rattle.std.proofs.Common.{subst, sym, to_z, of_z, w64}
use Rattle.ntx_breaks.specs.inner.Bounds.{IsLineInRange}
use Rattle.ntx_breaks.proofs.LineLemmas.{line_in_range}
use Rattle.ntx_breaks.proofs.way.way_to.Goals as goal

pub returns-clause-way : goal.returns-clause-way
returns-clause-way c = record {
  start = c.requires.before;
  line = subst IsLineInRange (sym c.line-line.ensures) (line_in_range c.args.params.now c.args.items.now c.args.from.place c.args.to (to_z w64 (of_z w64 c.args.pass.extra)));
}
