-- The end of a line ("TeX: The Program", sections 881 to 885): what becomes of the node at its break. Nothing is made here, and afterwards nothing
-- follows the line.
--     ended s body at after heap      a line up to its break, and what begins the next line
--     discards names                  what the break discards is freed
use Rattle.std.specs.Prelude.{ℕ, pos, Bool, true, false, List, [], ◌∷◌, ◌++◌, Option, None, Some, Ok}
use Rattle.ntx_num.specs.Answer.{result_map}
use Rattle.ntx_num.specs.Trace.{Trace, stays, stepped, trace_and_then, each_in_turn}
use Rattle.ntx_nodes.specs.Heap.{Heap}
use Rattle.ntx_nodes.specs.Steps.{at, free_one_step}
use Rattle.ntx_nodes.specs.Walk.{flat_walk}
use Rattle.ntx_nodes.specs.declared.contents.DiscFields.{DiscFields}
use Rattle.ntx_nodes.specs.declared.field.Field.{Field}
use Rattle.ntx_nodes.specs.declared.field.Field.TheVariants.{Subtype, Next, Width, Stretch, StretchOrder, Shrink, ShrinkOrder, Kern}
use Rattle.ntx_nodes.specs.declared.field.FieldValue.{FieldValue}
use Rattle.ntx_nodes.specs.declared.field.FieldValue.TheVariants.{Number, Link}
use Rattle.ntx_nodes.specs.declared.fields.Contents.{Contents}
use Rattle.ntx_nodes.specs.declared.fields.Contents.TheVariants as contents
use Rattle.ntx_nodes.specs.declared.trouble.Trouble.{Trouble}
use Rattle.ntx_item.specs.Settings.{Settings}
use Rattle.ntx_item.specs.declared.glue.GlueSpec.{GlueSpec}
use Rattle.ntx_lists.specs.Trees.{flush_list_step}
use Rattle.ntx_lines.specs.declared.ends.Ends.{Ends}
use Rattle.ntx_lines.specs.declared.line_end.Ended.{Ended}
use Rattle.ntx_lines.specs.Ends.{no_nodes, ends_of, joined, with_last}
use Rattle.ntx_lines.specs.Making.{sets, follows}
use Rattle.ntx_lines.specs.Skips.{rightskip_subtype, finite}

-- ---- what the node at the break gets

-- the numbers of glue
abbrev pub glue_values : GlueSpec → List (Field × FieldValue)
glue_values spec =
    (Width, Number spec.width) ∷ (Stretch, Number spec.stretch) ∷ (StretchOrder, Number (pos spec.stretch_order)) ∷ (Shrink, Number spec.shrink) ∷
    (ShrinkOrder, Number (pos spec.shrink_order)) ∷ []

abbrev pub nothing_after : Field × FieldValue
nothing_after = (Next, Link None)

-- glue becomes rightskip
abbrev pub rightskip_values : Settings → List (Field × FieldValue)
rightskip_values s = (Subtype, Number (pos rightskip_subtype)) ∷ (glue_values (finite s.rightskip) ++ nothing_after ∷ [])

-- a kern comes to nothing
abbrev pub kern_values : List (Field × FieldValue)
kern_values = (Kern, Number (pos 0)) ∷ nothing_after ∷ []

-- ---- a node that stays

-- a line that no discretionary breaks: nothing comes before the nodes of the next line
abbrev pub whole_line : Ends → Bool → Ended
whole_line line has_rightskip = record { line = line; front = no_nodes; has_rightskip = has_rightskip; is_hyphenated = false }

abbrev pub ends_with : Ends → ℕ → Bool → List (Field × FieldValue) → Heap → Trace Heap Ended Trouble
ends_with body n has_rightskip values heap = trace_and_then (sets n values heap) (λ _ new. stays new (Ok (whole_line (with_last body n) has_rightskip)))

-- ---- a discretionary
abbrev pub ended_by_disc : Ends → Ends → Ends → Ended
ended_by_disc body pre post = record { line = joined body pre; front = post; has_rightskip = false; is_hyphenated = true }

-- It is replaced by what it shows before a break. What it shows without a break is freed with all that it reaches, what it shows after the break is
-- put in front of the node that follows, and it is freed itself.
abbrev pub replaced : Option ℕ → ℕ → DiscFields → Option ℕ → Option ℕ → Heap → Trace Heap (Unit {0}) Trouble
replaced before n d last_of_post after heap =
    trace_and_then (follows before d.pre heap) (λ _ parted.
    trace_and_then (stepped (flush_list_step d.replace parted) parted) (λ _ flushed.
    trace_and_then (follows last_of_post after flushed) (λ _ joined. stepped (free_one_step n joined) joined)))

-- the ends of the list that a link leads to
abbrev pub ends_found : Option ℕ → Heap → Trace Heap Ends Trouble
ends_found to heap = stays heap (result_map ends_of (flat_walk heap to))

abbrev pub ends_at_disc : Ends → ℕ → DiscFields → Option ℕ → Heap → Trace Heap Ended Trouble
ends_at_disc body n d after heap =
    trace_and_then (ends_found d.pre heap) (λ pre h.
    trace_and_then (ends_found d.post h) (λ post k.
    trace_and_then (replaced body.last n d post.last after k) (λ _ new. stays new (Ok (ended_by_disc body pre post)))))

-- ---- each kind of break
abbrev pub ends_at : Settings → Ends → ℕ → Option ℕ → Contents → Heap → Trace Heap Ended Trouble
ends_at s body n after (contents.Glue g) heap = ends_with body n true (rightskip_values s) heap
ends_at s body n after (contents.Kern w) heap = ends_with body n false kern_values heap
ends_at s body n after (contents.Disc d) heap = ends_at_disc body n d after heap
ends_at s body n after _ heap = ends_with body n false (nothing_after ∷ []) heap

-- Nothing follows the last node of the paragraph already.
abbrev pub ended : Settings → Ends → Option ℕ → Option ℕ → Heap → Trace Heap Ended Trouble
ended s body None after heap = stays heap (Ok (whole_line body false))
ended s body (Some n) after heap = trace_and_then (stays heap (at heap n (λ node. Ok node.fields.contents))) (λ found h. ends_at s body n after found h)

-- ---- after the break
abbrev pub freed : ℕ → Heap → Trace Heap (Unit {0}) Trouble
freed n heap = stepped (free_one_step n heap) heap

abbrev pub discards : List ℕ → Heap → Trace Heap (Unit {0}) Trouble
discards names heap = each_in_turn freed names heap
