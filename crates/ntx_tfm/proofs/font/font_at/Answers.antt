use Rattle.std.proofs.Common.{◌≡◌, pos, to_z, of_z, w64, subst, sym, arith}
use Rattle.std.proofs.lemmas.Int.{ints}
use Rattle.ntx_tfm.specs.Faults.{IsSound}
use Rattle.ntx_tfm.specs.Font.{IsFont, design_of}
use Rattle.ntx_tfm.proofs.FontLemmas.{is_font, tables_are, definition_is}
use Rattle.ntx_tfm.proofs.font.font_at.Goals as goal

pub invariant_of-result : goal.invariant_of-result
invariant_of-result c =
    let size : to_z w64 (of_z w64 c.from.result) ≡ pos c.args.at = omega (arith, ints) in
    let design : to_z w64 (of_z w64 c.from-2.result) ≡ pos (design_of c.args.bytes.now) = omega (arith, ints, c.design.ensures.value) in
    let def = definition_is c.args.bytes.now c.args.name.now c.args.at _ _ _ _ c.word.ensures size design c.in_ok-new.ensures in
    let tables = tables_are c.args.bytes.now c.args.name.now c.args.at c.args.lengths _ _ _ _ _ c.requires.faultless.lengths def c.in_ok-characters.ensures c.in_ok-steps.ensures c.in_ok-kerns.ensures c.parameters.ensures in
    let sound = subst (IsSound c.args.bytes.now) c.requires.faultless.lengths c.requires.faultless.sound in
    subst IsFont (sym tables) (is_font c.args.bytes.now c.args.name.now c.args.at (λ i. omega (arith, c.type_inv.bytes i)) sound c.requires.name_given c.requires.name_short c.requires.at_least c.requires.at_most)

pub returns : goal.returns
returns c =
    let size : to_z w64 (of_z w64 c.from.result) ≡ pos c.args.at = omega (arith, ints) in
    let design : to_z w64 (of_z w64 c.from-2.result) ≡ pos (design_of c.args.bytes.now) = omega (arith, ints, c.design.ensures.value) in
    let def = definition_is c.args.bytes.now c.args.name.now c.args.at _ _ _ _ c.word.ensures size design c.in_ok-new.ensures in
    let tables = tables_are c.args.bytes.now c.args.name.now c.args.at c.args.lengths _ _ _ _ _ c.requires.faultless.lengths def c.in_ok-characters.ensures c.in_ok-steps.ensures c.in_ok-kerns.ensures c.parameters.ensures in
    tables
