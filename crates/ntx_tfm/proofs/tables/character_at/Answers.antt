use Rattle.std.proofs.Common.{◌∙◌, sym, ap, ◌-◌}
use Rattle.ntx_tfm.proofs.SoundLemmas.{info_is, entries_of, begins_of}
use Rattle.ntx_tfm.proofs.tables.character_at.Goals as goal

pub size_at-requires-clause-entries : goal.size_at-requires-clause-entries
size_at-requires-clause-entries c =
    let at = c.from-2.ensures ∙ ap (λ n. n - c.args.lengths.bc) c.from.ensures in
    let info = info_is c.args.bytes.now c.args.lengths c.args.code _ _ _ c.infos_at.ensures at c.info-info.ensures in
    entries_of c.args.bytes.now c.args.lengths c.args.code _ c.requires.sound.entries (sym c.if-not-is_there.ensures) info

pub start-requires-clause-begins : goal.start-requires-clause-begins
start-requires-clause-begins c =
    let at = c.from-2.ensures ∙ ap (λ n. n - c.args.lengths.bc) c.from.ensures in
    let info = info_is c.args.bytes.now c.args.lengths c.args.code _ _ _ c.infos_at.ensures at c.info-info.ensures in
    begins_of c.args.bytes.now c.args.lengths c.args.code _ c.requires.sound.begins (sym c.if-not-is_there.ensures) info
