-- How the calls that make a page end.
use Rattle.std.proofs.Common.{◌≡◌, ℕ, Bool, true, false, cond, ℤ, pos, ◌-ℤ◌, to_z, of_z, w64, List, None, Some, Result, Ok, Err, refl, sym, ◌∙◌, ap, subst, arith}
use Rattle.std.specs.Int.{int_max}
use Rattle.std.proofs.lemmas.Int.{ints, to_z-of_z}
use Rattle.ntx_num.specs.Answer.{Answers, result_map, result_and_then}
use Rattle.ntx_num.specs.Dimension.{IsDimension, is_dimension}
use Rattle.ntx_num.specs.declared.answer.Fail.{Fail}
use Rattle.ntx_num.specs.declared.answer.Fail.TheVariants.{NoMemory, Is}
use Rattle.ntx_num.specs.Trace.{stays, EndsAs}
use Rattle.ntx_num.proofs.Traces.{begins_stays, ends_later, ends_there}
use Rattle.std.specs.FinMap as map
use Rattle.ntx_nodes.specs.Heap.{Heap, IsLawful, IsInRange}
use Rattle.ntx_nodes.specs.Fields.{kind_of, field_of, contents_field}
use Rattle.ntx_nodes.specs.Steps.{of_found, get_answer, wear_current_step}
use Rattle.ntx_nodes.specs.declared.trouble.Trouble.{Trouble}
use Rattle.ntx_nodes.specs.declared.trouble.Trouble.TheVariants.{Dimension}
use Rattle.ntx_nodes.specs.declared.trouble.Phase.{Phase}
use Rattle.ntx_nodes.specs.declared.trouble.Phase.TheVariants as phase
use Rattle.ntx_nodes.specs.declared.kind.ListKind.TheVariants.{V}
use Rattle.ntx_nodes.specs.declared.field.Field.TheVariants.{Height}
use Rattle.ntx_nodes.specs.declared.field.FieldValue.{FieldValue}
use Rattle.ntx_nodes.specs.declared.field.FieldValue.TheVariants.{Number}
use Rattle.ntx_nodes.specs.declared.fields.Contents.{Contents}
use Rattle.ntx_nodes.specs.declared.fields.Contents.TheVariants as contents
use Rattle.ntx_item.specs.declared.glue.GlueSpec.{GlueSpec}
use Rattle.ntx_item.specs.Parameters.{IsGlueInRange}
use Rattle.ntx_item.specs.declared.item.Item.{Item}
use Rattle.ntx_item.specs.declared.pack_to.PackTo.TheVariants.{Additional}
use Rattle.ntx_tfm.specs.Font.{FontTables}
use Rattle.ntx_view.specs.View.{items_answer}
use Rattle.ntx_pack.specs.Pack.{vpack_step}
use Rattle.ntx_machine.specs.declared.stop.Stop.{Stop}
use Rattle.ntx_machine.specs.State.{State, with_heap, heap_step, found, changed}
use Rattle.ntx_machine.specs.Nodes.{topskip_glue, glue_node}
use Rattle.ntx_machine.specs.Build.{made}
use Rattle.ntx_machine.specs.Page.{height_of, topskip_before, of_dimension, top_of_page, without_main, top_found, top_made, page_packed, page_of}
use Rattle.ntx_machine.specs.Machine.{fails}
use Rattle.ntx_machine.specs.inner.Parts.{phased}
use Rattle.ntx_machine.proofs.Steps.{ends_found}
use Rattle.ntx_machine.proofs.BeginsPages.{topping, put_first, page_worn, packing, emptying, making, begins_topping, begins_put_first, begins_page_worn, begins_emptying, begins_making}

-- ---- what is found out, as the machine answers it

found_list_so : {L A : Type 0} (in_phase : Phase) (of : L → A) (r : Result L (Fail Trouble)) (answer : Result A Trouble) (s : State) → Answers (result_map of r) answer → EndsAs (fails (result_map of (phased in_phase r))) s (found in_phase answer s)
found_list_so in_phase of (Ok a) answer s e = ends_found in_phase (Ok (of a)) answer s e
found_list_so {A = A} in_phase of (Err (Is why)) answer s e = ends_found {A = A} in_phase (Err (Is why)) answer s e
found_list_so {A = A} in_phase of (Err NoMemory) answer s e = ends_found {A = A} in_phase (Err NoMemory) answer s e

-- what is found out by a call that gives it in a form of its own, over nodes that stay
pub found_list_ends : {L A : Type 0} (in_phase : Phase) (of : L → A) (given : Result L Stop) (r : Result L (Fail Trouble)) (answer : Result A Trouble) (s : State) (h : Heap) → given ≡ phased in_phase r → h ≡ s.heap
    → Answers (result_map of r) answer → EndsAs (fails (result_map of given)) (with_heap s h) (found in_phase answer s)
found_list_ends in_phase of given r answer s h is same e =
    subst (λ k. EndsAs (fails (result_map of given)) (with_heap s k) (found in_phase answer s)) (sym same)
    (subst (λ x. EndsAs (fails (result_map of x)) s (found in_phase answer s)) (sym is) (found_list_so in_phase of r answer s e))

-- ---- heights

height_in : (c : Contents) (x : ℤ) → IsInRange (kind_of c) Height x → contents_field c Height ≡ Ok (Number x) → IsDimension x
height_in (contents.Hlist b) x l e = l
height_in (contents.Vlist b) x l e = l
height_in (contents.Rule r) x l e = l
height_in (contents.Disc d) x l e = cc
height_in (contents.Glue g) x l e = cc
height_in (contents.Kern size) x l e = cc
height_in (contents.Penalty cost) x l e = cc
height_in (contents.Glyph g) x l e = cc

height_is : (heap : Heap) (n : ℕ) (x : ℤ) → IsLawful heap → get_answer n Height heap ≡ Ok (Number x) → IsDimension x
height_is heap n x lawful h =
    elim (map.get heap.nodes n) as (λ o. map.get heap.nodes n ≡ o → of_found n (λ node. field_of node.fields Height) o ≡ Ok (Number x) → IsDimension x) [
      | None ↦ λ is e. cc
      | Some node ↦ λ is e. height_in node.fields.contents x ((lawful.nodes n node is).numbers Height x e) e
    ] refl h

-- The height that is read of a node is a dimension.
pub height_read : (heap : Heap) (n : ℕ) (x : ℤ) (answer : Result FieldValue Trouble) (value : FieldValue) → IsLawful heap → answer ≡ get_answer n Height heap → answer ≡ Ok value → value ≡ Number x → IsDimension x
height_read heap n x answer value lawful is gives holds = height_is heap n x lawful (sym is ∙ gives ∙ ap Ok holds)

-- ---- the glue at the top

-- the glue at the top, where the height of the box, topskip and the test of the width are known
top_so : (s : State) (box : ℕ) (height width : ℤ) (g : GlueSpec) (b : Bool) → Ok height ≡ height_of s.heap box → g ≡ s.settings.topskip → width ≡ int_max (g.width -ℤ height) (pos 0) → is_dimension width ≡ b
    → top_of_page s box ≡ cond b (Ok (record g { width = width })) (Err Dimension)
top_so s box height width g b has same is test =
    ap (λ r. result_and_then r (λ x. of_dimension (topskip_before s.settings x))) (sym has)
    ∙ sym (ap (λ x. of_dimension (record x { width = int_max (x.width -ℤ height) (pos 0) })) same)
    ∙ sym (ap (λ w. of_dimension (record g { width = w })) is)
    ∙ ap (λ t. cond t (Ok (record g { width = width })) (Err Dimension)) test

pub top_is : (s : State) (box : ℕ) (height width : ℤ) (g : GlueSpec) → Ok height ≡ height_of s.heap box → g ≡ s.settings.topskip → width ≡ int_max (g.width -ℤ height) (pos 0) → is_dimension width ≡ true → top_of_page s box ≡ Ok (record g { width = width })
top_is s box height width g has same is test = top_so s box height width g true has same is test

pub top_refused : (s : State) (box : ℕ) (height width : ℤ) (g : GlueSpec) → Ok height ≡ height_of s.heap box → g ≡ s.settings.topskip → width ≡ int_max (g.width -ℤ height) (pos 0) → is_dimension width ≡ false → top_of_page s box ≡ Err Dimension
top_refused s box height width g has same is test = top_so s box height width g false has same is test

dimension_kept : (x : ℤ) → IsDimension x → to_z w64 (of_z w64 x) ≡ x
dimension_kept x d = to_z-of_z w64 x (omega (arith, ints, d))

pub difference_kept : (x y : ℤ) → IsDimension x → IsDimension y → to_z w64 (of_z w64 (to_z w64 (of_z w64 x) -ℤ to_z w64 (of_z w64 y))) ≡ x -ℤ y
difference_kept x y d e = (λ i. to_z w64 (of_z w64 (dimension_kept x d i -ℤ dimension_kept y e i))) ∙ to_z-of_z w64 (x -ℤ y) (omega (arith, ints, d, e))

-- glue as machine numbers
abbrev pub in_words : GlueSpec → GlueSpec
in_words g = record { width = to_z w64 (of_z w64 g.width); stretch = to_z w64 (of_z w64 g.stretch); stretch_order = g.stretch_order; shrink = to_z w64 (of_z w64 g.shrink); shrink_order = g.shrink_order }

pub glue_kept : (g : GlueSpec) → IsGlueInRange g → in_words g ≡ g
glue_kept g r = λ i. record { width = dimension_kept g.width r.width i; stretch = dimension_kept g.stretch r.stretch i; stretch_order = g.stretch_order; shrink = dimension_kept g.shrink r.shrink i; shrink_order = g.shrink_order }

pub with_width : (g : GlueSpec) (width : ℤ) → IsGlueInRange g → IsDimension width → IsGlueInRange (record g { width = width })
with_width g width r d = record { width = d; stretch = r.stretch; stretch_order = r.stretch_order; shrink = r.shrink; shrink_order = r.shrink_order }

pub items_stop : (fonts : List FontTables) (box : ℕ) (s new : State) (e : Fail Stop) → EndsAs {A = List Item} (Err e) new (found phase.Page (items_answer s.heap fonts (Some box) V) s) → EndsAs {A = GlueSpec} (Err e) new (top_found fonts box s)
items_stop fonts box s new e h = ends_there (found phase.Page (items_answer s.heap fonts (Some box) V) s) new (topping box) e (begins_topping box) h

pub make_stops : (box : ℕ) (glue : GlueSpec) (s new : State) (e : Fail Stop) → EndsAs {A = ℕ} (Err e) new (made phase.Page (glue_node topskip_glue glue) s) → EndsAs {A = ℕ} (Err e) new (top_made box glue s)
make_stops box glue s new e h = ends_there (made phase.Page (glue_node topskip_glue glue) s) new (put_first box) e (begins_put_first box) h

-- ---- the box

abbrev pub packing_step : List FontTables → ℕ → Heap → Result ((ℕ × ℤ) × Heap) Trouble
packing_step fonts head = vpack_step fonts (Some head) (Additional (pos 0))

pub pack_stops : (fonts : List FontTables) (head : ℕ) (s new : State) (e : Fail Stop) → EndsAs {A = ℕ × ℤ} (Err e) new (heap_step phase.Page (packing_step fonts head) s) → EndsAs {A = ℕ} (Err e) new (page_packed fonts head s)
pack_stops fonts head s new e h = ends_there (heap_step phase.Page (packing_step fonts head) s) new page_worn e begins_page_worn h

pub wear_stops : (fonts : List FontTables) (head : ℕ) (page : ℕ × ℤ) (s t new : State) (e : Fail Stop) → EndsAs (Ok page) t (heap_step phase.Page (packing_step fonts head) s)
    → EndsAs {A = Unit {0}} (Err e) new (heap_step phase.Page (wear_current_step page.0) t) → EndsAs {A = ℕ} (Err e) new (page_packed fonts head s)
wear_stops fonts head page s t new e first second =
    ends_later (heap_step phase.Page (packing_step fonts head) s) page t new page_worn (Err e) first
    (ends_there (heap_step phase.Page (wear_current_step page.0) t) new (λ _ u. stays u (Ok page.0)) e (λ _ u. begins_stays u (Ok page.0)) second)

-- ---- the page

pub finding_stops : (fonts : List FontTables) (box : ℕ) (s new : State) (e : Fail Stop) → EndsAs {A = GlueSpec} (Err e) new (top_found fonts box s) → EndsAs {A = ℕ} (Err e) new (page_of fonts box s)
finding_stops fonts box s new e h = ends_there (top_found fonts box s) new (making fonts box) e (begins_making fonts box) h

pub making_stops : (fonts : List FontTables) (box : ℕ) (glue : GlueSpec) (s t new : State) (e : Fail Stop) → EndsAs (Ok glue) t (top_found fonts box s) → EndsAs {A = ℕ} (Err e) new (top_made box glue t) → EndsAs {A = ℕ} (Err e) new (page_of fonts box s)
making_stops fonts box glue s t new e first second =
    ends_later (top_found fonts box s) glue t new (making fonts box) (Err e) first (ends_there (top_made box glue t) new (emptying fonts) e (begins_emptying fonts) second)

pub page_ends : (fonts : List FontTables) (box top : ℕ) (glue : GlueSpec) (s t u new : State) (r : Result ℕ (Fail Stop)) → EndsAs (Ok glue) t (top_found fonts box s) → EndsAs (Ok top) u (top_made box glue t)
    → EndsAs r new (page_packed fonts top (without_main u)) → EndsAs r new (page_of fonts box s)
page_ends fonts box top glue s t u new r first second third =
    ends_later (top_found fonts box s) glue t new (making fonts box) r first
    (ends_later (top_made box glue t) top u new (emptying fonts) r second (ends_later (changed (without_main u) u) tt (without_main u) new (packing fonts top) r (refl, refl) third))
