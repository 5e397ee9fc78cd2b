-- What a place keeps from line to line: its open boxes and its finished commands are as those of an accepted document.
use Rattle.std.proofs.Common.{◌≡◌, ℕ, ◌+◌, ◌-◌, ◌≤◌, ◌<◌, Bool, true, false, cond, not, ◌||◌, List, [], ◌∷◌, ◌++◌, map, length, filter, refl, sym, ap, subst, ◌∙◌, true≢false, arith}
use Rattle.std.specs.Prelude.{nat_lt, nat_le, Result, Ok, Err, IfOk, flat_map}
use Rattle.std.specs.List.{AllByRecursion}
use Rattle.std.proofs.lemmas.Bool.Decides.{nat_tests}
use Rattle.ntx_item.specs.declared.pack_to.PackTo.{PackTo}
use Rattle.ntx_doc.specs.declared.command.Command.{Command}
use Rattle.ntx_doc.specs.declared.command.Command.TheVariants as kind
use Rattle.ntx_doc.specs.declared.group.Group.{Group}
use Rattle.ntx_doc.specs.declared.fault.DocWhy.{DocWhy}
use Rattle.ntx_doc.specs.declared.fault.DocWhy.TheVariants as why
use Rattle.ntx_doc.specs.Words.{glyphs_of, spaced, text_commands}
use Rattle.ntx_doc.specs.Place.{Place, first_place, max_depth, put, put_in_box, put_outside, put_all, with_font, opened, with_groups, closed, with_words, if_font}
use Rattle.ntx_doc.specs.Shape.{is_box_width, is_box}
use Rattle.ntx_doc.proofs.Answered.{if_ok_unless}
use Rattle.ntx_doc.proofs.KeptCommands.{IsInner, IsOuter, IsPlainOuter, glyph_inner, space_inner, box_inner, box_outer, outer_deeper}

-- the open boxes, if boxes in the innermost one may nest to depth d
abbrev pub AreOpen : ℕ → ℕ → List Group → Type 0
AreOpen fonts d [] = Unit {0}
AreOpen fonts d (group ∷ outer) = (is_box_width group.to ≡ true) × (AllByRecursion (IsInner fonts d) group.body × AreOpen fonts (d + 1) outer)

-- 1 if a box is open
abbrev pub open_count : List Group → ℕ
open_count [] = 0
open_count (group ∷ outer) = 1

abbrev pub one_if : Bool → ℕ
one_if b = cond b 1 0

abbrev pub box_count : List Command → ℕ
box_count commands = length (filter is_box commands)

pub record IsKept (fonts : ℕ) (done : List Command) (groups : List Group) (has_box : Bool) (font : ℕ) : Type 0 where
  pub depth : ℕ
  pub level : depth + length groups ≡ max_depth
  pub open_boxes : AreOpen fonts depth groups
  pub finished : AllByRecursion (IsOuter fonts max_depth) done
  pub boxes : box_count done + open_count groups ≤ one_if has_box
  pub font_low : font ≤ 63
  pub font_there : 0 < fonts → font < fonts

abbrev pub IsKeptPlace : ℕ → Place → Type 0
IsKeptPlace fonts place = IsKept fonts place.done place.groups place.has_box place.font

pub first_kept : (fonts : ℕ) → IsKeptPlace fonts first_place
first_kept fonts =
    record { depth = 20; level = refl; open_boxes = tt; finished = tt; boxes = omega arith; font_low = omega arith; font_there = λ some. some }

-- ---- one command more

all_more : (P : Command → Type 0) (commands : List Command) (command : Command) → AllByRecursion P commands → P command → AllByRecursion P (commands ++ command ∷ [])
all_more P [] command all last = (last, tt)
all_more P (c ∷ commands) command all last = (all.0, all_more P commands command all.1 last)

put_open : (fonts d : ℕ) (command : Command) (groups : List Group) → (0 < length groups → IsInner fonts d command) → AreOpen fonts d groups → AreOpen fonts d (put_in_box command groups)
put_open fonts d command [] inner kept = tt
put_open fonts d command (group ∷ outer) inner kept = (kept.0, (all_more (IsInner fonts d) group.body command kept.1.0 (inner (omega arith)), kept.1.1))

put_level : (command : Command) (groups : List Group) → length (put_in_box command groups) ≡ length groups
put_level command [] = refl
put_level command (group ∷ outer) = refl

put_finished : (fonts : ℕ) (command : Command) (done : List Command) (groups : List Group) → (groups ≡ [] → IsOuter fonts max_depth command) → AllByRecursion (IsOuter fonts max_depth) done
    → AllByRecursion (IsOuter fonts max_depth) (put_outside command done groups)
put_finished fonts command done [] outer kept = all_more (IsOuter fonts max_depth) done command kept (outer refl)
put_finished fonts command done (group ∷ others) outer kept = kept

none_if : (b : Bool) → b ≡ false → one_if b ≡ 0
none_if true e = absurd (true≢false e)
none_if false e = refl

count_step : (b : Bool) (c : Command) (others : List Command) → length (cond b (c ∷ others) others) ≡ one_if b + length others
count_step true c others = omega arith
count_step false c others = omega arith

count_more : (commands : List Command) (command : Command) → box_count (commands ++ command ∷ []) ≡ box_count commands + one_if (is_box command)
count_more [] command = omega (arith, count_step (is_box command) command [])
count_more (c ∷ commands) command =
    omega (arith, count_step (is_box c) c (filter is_box (commands ++ command ∷ [])), count_step (is_box c) c (filter is_box commands), count_more commands command)

pub at_most_one : (b : Bool) → one_if b ≤ 1
at_most_one true = omega arith
at_most_one false = omega arith

plain_boxes : (command : Command) (done : List Command) (groups : List Group) (most : ℕ) → (groups ≡ [] → is_box command ≡ false) → box_count done + open_count groups ≤ most
    → box_count (put_outside command done groups) + open_count (put_in_box command groups) ≤ most
plain_boxes command done [] most plain kept =
    omega (arith, kept, count_more done command, none_if (is_box command) (plain refl))
plain_boxes command done (group ∷ outer) most plain kept = kept

pub put_kept : (fonts : ℕ) (command : Command) (place : Place) → (place.groups ≡ [] → IsPlainOuter fonts max_depth command) → (0 < length place.groups → (d : ℕ) → IsInner fonts d command)
    → IsKeptPlace fonts place → IsKeptPlace fonts (put command place)
put_kept fonts command place outer inner kept =
    record {
      depth = kept.depth;
      level = omega (arith, kept.level, put_level command place.groups);
      open_boxes = put_open fonts kept.depth command place.groups (λ some. inner some kept.depth) kept.open_boxes;
      finished = put_finished fonts command place.done place.groups (λ top. (outer top).outer) kept.finished;
      boxes = plain_boxes command place.done place.groups _ (λ top. (outer top).no_box) kept.boxes;
      font_low = kept.font_low;
      font_there = kept.font_there;
    }

-- a command that may stand in a box of any depth
abbrev pub IsAtEachDepth : ℕ → Command → Type 0
IsAtEachDepth fonts command = (d : ℕ) → IsInner fonts d command

-- ---- text

pub nonempty : (groups : List Group) → groups ≡ [] → 0 < length groups → ⊥
nonempty [] top some = omega arith
nonempty (group ∷ outer) top some = omega (arith, ap length top)

put_all_kept : (fonts : ℕ) (commands : List Command) (place : Place) → 0 < length place.groups → AllByRecursion (IsAtEachDepth fonts) commands
    → IsKeptPlace fonts place → IsKeptPlace fonts (put_all commands place)
put_all_kept fonts [] place some all kept = kept
put_all_kept fonts (command ∷ commands) place some all kept =
    put_all_kept fonts commands (put command place) (omega (arith, some, put_level command place.groups)) all.1
    (put_kept fonts command place (λ top. absurd (nonempty place.groups top some)) (λ _. all.0) kept)

all_both : (P : Command → Type 0) (commands others : List Command) → AllByRecursion P commands → AllByRecursion P others → AllByRecursion P (commands ++ others)
all_both P [] others all more = more
all_both P (c ∷ commands) others all more = (all.0, all_both P commands others all.1 more)

module _ (fonts font : ℕ) (low : font ≤ 63) (there : font < fonts) where
  glyphs_kept : (word : List ℕ) → AllByRecursion (IsAtEachDepth fonts) (glyphs_of font word)
  glyphs_kept [] = tt
  glyphs_kept (byte ∷ word) = ((λ d. glyph_inner fonts d font byte low there), glyphs_kept word)

  spaced_kept : (words : List (List ℕ)) → AllByRecursion (IsAtEachDepth fonts) (spaced font words)
  spaced_kept [] = tt
  spaced_kept (word ∷ words) = ((λ d. space_inner fonts d font low there), all_both (IsAtEachDepth fonts) (glyphs_of font word) (spaced font words) (glyphs_kept word) (spaced_kept words))

  text_kept : (after_text : Bool) (words : List (List ℕ)) → AllByRecursion (IsAtEachDepth fonts) (text_commands after_text font words)
  text_kept true words = spaced_kept words
  text_kept false [] = tt
  text_kept false (word ∷ words) = all_both (IsAtEachDepth fonts) (glyphs_of font word) (spaced font words) (glyphs_kept word) (spaced_kept words)

pub words_kept : (fonts : ℕ) (words : List (List ℕ)) (place : Place) → 0 < fonts → 0 < length place.groups → IsKeptPlace fonts place → IsKeptPlace fonts (with_words words place)
words_kept fonts words place have some kept =
    put_all_kept fonts (text_commands place.after_text place.font words) place some (text_kept fonts place.font kept.font_low (kept.font_there have) place.after_text words) kept

-- ---- fonts and boxes

pub font_kept : (fonts font : ℕ) (place : Place) → font ≤ 63 → font < fonts → IsKeptPlace fonts place → IsKeptPlace fonts (with_font font place)
font_kept fonts font place low there kept =
    record {
      depth = kept.depth;
      level = kept.level;
      open_boxes = kept.open_boxes;
      finished = kept.finished;
      boxes = kept.boxes;
      font_low = low;
      font_there = λ _. there;
    }

opened_boxes : (done : List Command) (groups : List Group) (has_box : Bool) → (groups ≡ [] → has_box ≡ false) → box_count done + open_count groups ≤ one_if has_box → box_count done + 1 ≤ 1
opened_boxes done [] has_box top kept =
    omega (arith, kept, none_if has_box (top refl))
opened_boxes done (group ∷ outer) has_box top kept = omega (arith, kept, at_most_one has_box)

pub opened_kept : (fonts : ℕ) (to : PackTo) (place : Place) → is_box_width to ≡ true → length place.groups < max_depth → (place.groups ≡ [] → place.has_box ≡ false)
    → IsKeptPlace fonts place → IsKeptPlace fonts (opened to place)
opened_kept fonts to place width room first kept =
    record {
      depth = kept.depth - 1;
      level = omega (arith, kept.level, room);
      open_boxes = (width, (tt, subst (λ d. AreOpen fonts d place.groups) (omega (arith, kept.level, room)) kept.open_boxes));
      finished = kept.finished;
      boxes = opened_boxes place.done place.groups place.has_box first kept.boxes;
      font_low = kept.font_low;
      font_there = kept.font_there;
    }

closed_boxes : (command : Command) (done : List Command) (outer : List Group) (most : ℕ) → box_count done + 1 ≤ most
    → box_count (put_outside command done outer) + open_count (put_in_box command outer) ≤ most
closed_boxes command done [] most kept = omega (arith, kept, count_more done command, at_most_one (is_box command))
closed_boxes command done (group ∷ outer) most kept = kept

pub closed_kept : (fonts : ℕ) (groups : List Group) (place : Place) → IsKeptPlace fonts (with_groups groups place) → IfOk (closed groups place) (IsKeptPlace fonts)
closed_kept fonts [] place kept = tt
closed_kept fonts (group ∷ outer) place kept =
    record {
      depth = kept.depth + 1;
      level = omega (arith, kept.level, put_level (kind.HBox group.to group.body) outer);
      open_boxes = put_open fonts (kept.depth + 1) (kind.HBox group.to group.body) outer (λ some. box_inner fonts kept.depth group.to group.body kept.open_boxes.0 kept.open_boxes.1.0) kept.open_boxes.1.1;
      finished =
          put_finished fonts (kind.HBox group.to group.body) place.done outer
          (λ top. outer_deeper fonts (kept.depth + 1) max_depth _ (omega (arith, kept.level)) (box_outer fonts kept.depth group.to group.body kept.open_boxes.0 kept.open_boxes.1.0)) kept.finished;
      boxes = closed_boxes (kind.HBox group.to group.body) place.done outer _ kept.boxes;
      font_low = kept.font_low;
      font_there = kept.font_there;
    }
