-- A place in a document, which is what the lines before it say, and what an instruction does there.
--     follow fonts i place      the place after this instruction, if there are as many fonts, or why it is refused there
-- Each refusal here is a font that is not there (`Font`) or one open box too many (`Depth`).
use Rattle.std.specs.Prelude.{ℕ, nat_lt, Bool, true, false, List, [], ◌∷◌, ◌++◌, length, Result, Ok, Err}
use Rattle.ntx_item.specs.declared.pack_to.PackTo.{PackTo}
use Rattle.ntx_doc.specs.declared.command.Command.{Command}
use Rattle.ntx_doc.specs.declared.command.Command.TheVariants.{HBox, Glyph, Space}
use Rattle.ntx_doc.specs.declared.group.Group.{Group}
use Rattle.ntx_doc.specs.declared.fault.DocWhy.{DocWhy}
use Rattle.ntx_doc.specs.declared.fault.DocWhy.TheVariants as why
use Rattle.ntx_doc.specs.Refusal.{refused_unless}
use Rattle.ntx_doc.specs.Instruction.{Instruction, Put, ChooseFont, OpenBox, CloseBox, PutChar, PutSpace, PutWords}
use Rattle.ntx_doc.specs.Words.{text_commands}

pub record Place : Type 0 where
  -- the finished commands outside of any box
  pub done : List Command
  -- the open boxes, the innermost first, each with its width and its commands so far
  pub groups : List Group
  -- whether a box was opened
  pub has_box : Bool
  -- the number of the current font
  pub font : ℕ
  -- whether the last line that was not skipped is `text`
  pub after_text : Bool

abbrev pub first_place : Place
first_place = record { done = []; groups = []; has_box = false; font = 0; after_text = false }

-- as many boxes may be open at once
abbrev pub max_depth : ℕ
max_depth = 20

-- the open boxes with one more command in the innermost one
abbrev pub put_in_box : Command → List Group → List Group
put_in_box command [] = []
put_in_box command (group ∷ outer) = (record { to = group.to; body = group.body ++ command ∷ [] }) ∷ outer

-- the finished commands with one more, if no box is open
abbrev pub put_outside : Command → List Command → List Group → List Command
put_outside command done [] = done ++ command ∷ []
put_outside command done (group ∷ outer) = done

-- the place with one more command, at the end of the innermost open box, or outside of boxes if none is open
abbrev pub put : Command → Place → Place
put command place =
    record place {
      done = put_outside command place.done place.groups;
      groups = put_in_box command place.groups;
      after_text = false;
    }

-- the place with these commands, one after another
abbrev pub put_all : List Command → Place → Place
put_all [] place = place
put_all (command ∷ commands) place = put_all commands (put command place)

-- the place with another current font
abbrev pub with_font : ℕ → Place → Place
with_font font place = record place { font = font; after_text = false }

-- the place with one more open box, the innermost
abbrev pub opened : PackTo → Place → Place
opened to place = record place { groups = (record { to = to; body = [] }) ∷ place.groups; has_box = true; after_text = false }

-- the place with these open boxes
abbrev pub with_groups : List Group → Place → Place
with_groups groups place = record place { groups = groups }

-- The place after the innermost open box, which becomes a command of the box around it, or of the document. `end` is refused if no box is open; no
-- line with `end` comes here then, since it may not stand outside of boxes.
abbrev pub closed : List Group → Place → Result Place DocWhy
closed [] place = Err why.Command
closed (group ∷ outer) place = Ok (put (HBox group.to group.body) (with_groups outer place))

-- the place after a line of text
abbrev pub with_words : List (List ℕ) → Place → Place
with_words words place = record (put_all (text_commands place.after_text place.font words) place) { after_text = true }

-- the place, if there is a font
abbrev pub if_font : ℕ → Place → Result Place DocWhy
if_font fonts place = refused_unless why.Font (nat_lt 0 fonts) (Ok place)

-- the place after an instruction
abbrev pub follow : ℕ → Instruction → Place → Result Place DocWhy
follow fonts (Put command) place = Ok (put command place)
follow fonts (ChooseFont font) place = refused_unless why.Font (nat_lt font fonts) (Ok (with_font font place))
follow fonts (OpenBox to) place = refused_unless why.Depth (nat_lt (length place.groups) max_depth) (Ok (opened to place))
follow fonts CloseBox place = closed place.groups place
follow fonts (PutChar code) place = if_font fonts (put (Glyph place.font code) place)
follow fonts PutSpace place = if_font fonts (put (Space place.font) place)
follow fonts (PutWords words) place = if_font fonts (with_words words place)
