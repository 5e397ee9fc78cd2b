use Rattle.std.proofs.Common.{sym, ◌∙◌}
use Rattle.ntx_syntax.proofs.SymbolLemmas.{symbol_at-one, three, two, one}
use Rattle.ntx_syntax.proofs.symbol.symbol.Goals as goal

pub unreachable-requires : goal.unreachable-requires
unreachable-requires c = symbol_at-one c.args.bytes.now c.requires (sym c.symbol_at-in-None-symbol_at.ensures ∙ c.in-None-symbol_at-2.is)

pub returns-in-Some : goal.returns-in-Some
returns-in-Some c = three c.args.bytes.now c.in-Some.piece (sym c.symbol_at.ensures ∙ c.in-Some.is)

pub returns-in-Some-symbol_at : goal.returns-in-Some-symbol_at
returns-in-Some-symbol_at c =
    two c.args.bytes.now c.in-Some-symbol_at.piece (sym c.symbol_at.ensures ∙ c.in-None.is) (sym c.symbol_at-in-None.ensures ∙ c.in-Some-symbol_at.is)

pub returns-in-Some-symbol_at-2 : goal.returns-in-Some-symbol_at-2
returns-in-Some-symbol_at-2 c =
    one c.args.bytes.now c.in-Some-symbol_at-2.piece (sym c.symbol_at.ensures ∙ c.in-None.is) (sym c.symbol_at-in-None.ensures ∙ c.in-None-symbol_at.is) (sym c.symbol_at-in-None-symbol_at.ensures ∙ c.in-Some-symbol_at-2.is)
