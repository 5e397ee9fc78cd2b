use Rattle.std.proofs.Common.{◌≡◌, rules, refl, length}
use Rattle.std.specs.Str.Lines.{lines}
use Rattle.ntx_doc.specs.Draft.{place_of}
use Rattle.ntx_doc.proofs.KeptDocuments.{AreKept, read_kept, numbers_kept, fonts_kept, places_kept, depths_kept}
use Rattle.ntx_doc.proofs.read.read_doc.Goals as goal

accepted : (c : goal.After-drop-groups) → AreKept c.args.fonts c.loop-line.draft.done.items
accepted c =
    let none : length c.loop-line.draft.groups.items ≡ 0 = search rules in
    read_kept c.args.bytes.now c.args.fonts c.loop-line.number (lines c.loop-line.rest.now) (place_of c.loop-line.draft) c.loop-line.draft.groups.items c.loop-line.invariant.0
    c.in_default.ensures.lines refl none

pub returns-then-is_empty-clause-numbers : goal.returns-then-is_empty-clause-numbers
returns-then-is_empty-clause-numbers c = numbers_kept c.args.fonts c.loop-line.draft.done.items (accepted c).each

pub returns-then-is_empty-clause-fonts : goal.returns-then-is_empty-clause-fonts
returns-then-is_empty-clause-fonts c = fonts_kept c.args.fonts c.loop-line.draft.done.items (accepted c).each

pub returns-then-is_empty-clause-places : goal.returns-then-is_empty-clause-places
returns-then-is_empty-clause-places c = places_kept c.args.fonts c.loop-line.draft.done.items (accepted c).each

pub returns-then-is_empty-clause-depth : goal.returns-then-is_empty-clause-depth
returns-then-is_empty-clause-depth c = depths_kept c.args.fonts c.loop-line.draft.done.items (accepted c).each

pub returns-then-is_empty-clause-one_box : goal.returns-then-is_empty-clause-one_box
returns-then-is_empty-clause-one_box c = (accepted c).one_box
