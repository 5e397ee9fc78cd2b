-- The place that a draft holds: what the lines read so far say. Only contracts of private calls use it.
use Rattle.std.specs.Prelude.{reverse}
use Rattle.ntx_doc.specs.declared.draft.Draft.{Draft}
use Rattle.ntx_doc.specs.Place.{Place}

abbrev pub place_of : Draft → Place
place_of draft =
    record {
      done = draft.done.items;
      groups = reverse draft.groups.items;
      has_box = draft.has_box;
      font = draft.font;
      after_text = draft.after_text;
    }
