-- Hyphenating a list ("TeX: The Program", sections 891 to 918; LuaTeX Reference Manual, chapter "Languages, characters, fonts and glyphs"), as a trace of
-- heaps.
--     list_names heap head          the nodes of the list itself; it refuses as the check of a horizontal list does
--     hyphenated char gap heap      a discretionary in one gap, with a hyphen before the break
--     hyphenation points s head heap      the pass over the list, in each gap with a point, from the left to the right; `points`
--                                   gives the points of a word
use Rattle.std.specs.Prelude.{ℕ, ℤ, pos, negsuc, unsigned_abs, List, map, Option, None, Some, Result, Ok, Err}
use Rattle.ntx_num.specs.Answer.{result_and_then}
use Rattle.ntx_num.specs.Trace.{Trace, stays, trace_and_then, each_in_turn}
use Rattle.ntx_nodes.specs.Heap.{Heap}
use Rattle.ntx_nodes.specs.Walk.{checked_walk, flat_walk}
use Rattle.ntx_nodes.specs.declared.field.Field.TheVariants.{Next, Pre}
use Rattle.ntx_nodes.specs.declared.fields.Contents.TheVariants as contents
use Rattle.ntx_nodes.specs.declared.fields.Fields.{Fields}
use Rattle.ntx_nodes.specs.declared.kind.ListKind.TheVariants.{H}
use Rattle.ntx_nodes.specs.declared.trouble.Trouble.{Trouble}
use Rattle.ntx_lists.specs.MadeNodes.{made_and_linked}
use Rattle.ntx_item.specs.Settings.{Settings}
use Rattle.ntx_hyph.specs.Words.{letter_at, gaps_in}
use Rattle.ntx_hyph.specs.declared.letter.Gap.{Gap}

-- ---- what is made
-- a regular discretionary with no lists yet
abbrev pub disc_fields : Gap → Fields
disc_fields gap = record { subtype = 3; next = Some gap.after; contents = contents.Disc (record { pre = None; post = None; replace = None }) }

-- the hyphen alone
abbrev pub hyphen_fields : ℕ → Gap → Fields
hyphen_fields char gap = record { subtype = 0; next = None; contents = contents.Glyph (record { char = char; font = gap.font }) }

-- The discretionary stands in the list before its hyphen is made. Both take the attributes of the glyph before the gap.
abbrev pub hyphenated : ℕ → Gap → Heap → Trace Heap (Unit {0}) Trouble
hyphenated char gap heap =
    trace_and_then (made_and_linked (disc_fields gap) gap.before gap.before Next heap) (λ disc inserted.
    trace_and_then (made_and_linked (hyphen_fields char gap) gap.before disc Pre inserted) (λ _ whole. stays whole (Ok tt)))

-- ---- the pass
abbrev pub list_names : Heap → ℕ → Result (List ℕ) Trouble
list_names heap head = result_and_then (checked_walk heap (Some head) H) (λ _. flat_walk heap (Some head))

-- the code of the hyphen; there is none below 0
abbrev pub hyphen_char : ℤ → Option ℕ
hyphen_char (pos c) = Some c
hyphen_char (negsuc _) = None

-- how a word is divided: from its codes and the least numbers of letters before and after a hyphen to its points
abbrev pub Points : Type 0
Points = List ℕ → ℕ → ℕ → List ℕ

abbrev pub points_with : Points → Settings → List ℕ → List ℕ
points_with points s word = points word (unsigned_abs s.lefthyphenmin) (unsigned_abs s.righthyphenmin)

-- without a hyphen nothing is done
abbrev pub hyphens : Option ℕ → List Gap → Heap → Trace Heap (Unit {0}) Trouble
hyphens None gaps heap = stays heap (Ok tt)
hyphens (Some char) gaps heap = each_in_turn (hyphenated char) gaps heap

-- the pass over a list of these nodes, or none where a walk has stopped
abbrev pub hyphenated_list : Points → Settings → Result (List ℕ) Trouble → Heap → Trace Heap (Unit {0}) Trouble
hyphenated_list points s (Err why) heap = stays heap (Err why)
hyphenated_list points s (Ok names) heap = hyphens (hyphen_char s.hyphenchar) (gaps_in (points_with points s) (map (letter_at heap) names)) heap

abbrev pub hyphenation : Points → Settings → ℕ → Heap → Trace Heap (Unit {0}) Trouble
hyphenation points s head heap = hyphenated_list points s (list_names heap head) heap
