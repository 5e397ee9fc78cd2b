-- What the operations so far leave for the later ones: all that the bytes and the conditions of an operation depend on, besides the
-- operation itself.
use Rattle.std.specs.Prelude.{ℕ, ◌+◌, ◌-◌, max, ℤ, pos, negsuc, List, replicate, slice_set, Option, Some, None}
use Rattle.std.specs.Int.{int_max}
use Rattle.ntx_dvi.specs.Operation.{Operation, Begin, PageStart, Push, Pop, Right, Down, Rule, DefineFont, ChooseFont, SetCharacter, PageEnd, End}
use Rattle.ntx_tfm.specs.declared.def.FontDef.{FontDef}

-- Where in the file the writer is.
pub data Part : Type 0 where
  BeforeBegin : Part
  BetweenPages : Part
  InPage : Part
  AfterEnd : Part

pub record Progress : Type 0 where
  pub part : Part
  -- how many bytes there are, which is the place of the next one
  pub place : ℕ
  -- the place of the last bop, or -1
  pub last_page : ℤ
  -- how many pages have begun
  pub pages : ℕ
  -- how many pushes of the page are open, and the most that ever were
  pub open_pushes : ℕ
  pub deepest : ℕ
  -- the greatest height plus depth and the greatest width of the pages that have ended, each at least 0
  pub tallest : ℤ
  pub widest : ℤ
  -- what the fonts 0 to 63 were defined to be, where they were
  pub fonts : List (Option FontDef)
  -- the current font of the page, if one was chosen
  pub font : Option ℕ

-- before any operation
abbrev pub start : Progress
start = record {
  part = BeforeBegin;
  place = 0;
  last_page = negsuc 0;
  pages = 0;
  open_pushes = 0;
  deepest = 0;
  tallest = pos 0;
  widest = pos 0;
  fonts = replicate 64 None;
  font = None;
}

-- What an operation leaves, apart from the place, which every byte moves on. Each page begins with no push open and without a current
-- font. A push and a pop leave the current font as it is.
abbrev pub apart_from_place : Progress → Operation → Progress
apart_from_place p Begin = record p { part = BetweenPages }
apart_from_place p (PageStart number) =
    record p { part = InPage; last_page = pos p.place; pages = p.pages + 1; open_pushes = 0; font = None }
apart_from_place p Push = record p { open_pushes = p.open_pushes + 1; deepest = max p.deepest (p.open_pushes + 1) }
apart_from_place p Pop = record p { open_pushes = p.open_pushes - 1 }
apart_from_place p (Right distance) = p
apart_from_place p (Down distance) = p
apart_from_place p (Rule height width) = p
apart_from_place p (DefineFont number def) = record p { fonts = slice_set p.fonts number (Some def) }
apart_from_place p (ChooseFont number) = record p { font = Some number }
apart_from_place p (SetCharacter code) = p
apart_from_place p (PageEnd total width) =
    record p { part = BetweenPages; tallest = int_max p.tallest total; widest = int_max p.widest width }
apart_from_place p End = record p { part = AfterEnd }
