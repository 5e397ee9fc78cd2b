-- Where the nodes of a list stand, one after another.
use Rattle.std.proofs.Common.{◌≡◌, ℕ, ◌+◌, ◌≤◌, ◌<◌, ℤ, pos, ◌+ℤ◌, List, [], ◌∷◌, ◌++◌, length, drop, get_or, slice_get, Some, None, Ok, Err, refl, sym, ap, ◌∙◌, append_assoc, append-nil}
use Rattle.std.specs.Prelude.{Option, Result}
use Rattle.std.specs.FinMap as map
use Rattle.std.specs.Option.{option_map}
use Rattle.std.proofs.lemmas.List.{at_drop_more, at_drop_all}
use Rattle.std.proofs.lemmas.Option.{slice_get-get_or, get_or_from_slice_get}
use Rattle.ntx_num.specs.Answer.{Answers, result_map, result_and_then}
use Rattle.ntx_num.specs.declared.answer.Fail.{Fail}
use Rattle.ntx_num.specs.declared.answer.Fail.TheVariants.{NoMemory, Is}
use Rattle.ntx_num.proofs.Answers.{same_Ok}
use Rattle.ntx_nodes.specs.Heap.{Heap}
use Rattle.ntx_nodes.specs.Steps.{of_found, at}
use Rattle.ntx_nodes.specs.Walk.{flat_walk}
use Rattle.ntx_nodes.specs.declared.node.Node.{Node}
use Rattle.ntx_nodes.specs.declared.fields.Contents.{Contents}
use Rattle.ntx_nodes.specs.declared.trouble.Trouble.{Trouble}
use Rattle.ntx_nodes.proofs.Oks.{at_Ok}
use Rattle.ntx_tfm.specs.Font.{FontTables}
use Rattle.ntx_item.specs.declared.item.Item.{Item}
use Rattle.ntx_pack.specs.declared.glue_set.GlueSet.{GlueSet}
use Rattle.ntx_pack.specs.Output.{move, set_size}
use Rattle.ntx_view.specs.View.{item_of, items_answer, IsOneEach}
use Rattle.ntx_ship.specs.declared.list.Inside.{Inside}
use Rattle.ntx_ship.specs.declared.place.Place.{Place}
use Rattle.ntx_ship.specs.declared.station.Station.{Station}
use Rattle.ntx_ship.specs.Placed.{own_size, moved, stations, row_at}
use Rattle.ntx_ship.specs.inner.Reach.{AreItemsOf}

abbrev pub Row : Type 0
Row = Result (List Station) Trouble

-- the stations after others
abbrev pub stand_after : List Station → Row → Row
stand_after all rest = result_map (λ more. all ++ more) rest

-- the first station and the rest
abbrev stand_first : Contents → Place → Row → Row
stand_first contents here rest = result_map (λ more. record { contents = contents; here = here } ∷ more) rest

abbrev rest_after : Heap → List FontTables → Inside → List ℕ → ℤ → Place → Item → Row
rest_after heap fonts inside ns total here item = stations heap fonts inside ns (total +ℤ move inside.glue item) (moved inside.direction (set_size inside.glue total (own_size inside.direction item) item) here)

abbrev with_node : Heap → List FontTables → Inside → List ℕ → ℤ → Place → Node → Row
with_node heap fonts inside ns total here node = stand_first node.fields.contents here (rest_after heap fonts inside ns total here (item_of heap fonts node))

stations_cons : (heap : Heap) (fonts : List FontTables) (inside : Inside) (n : ℕ) (ns : List ℕ) (total : ℤ) (here : Place) → stations heap fonts inside (n ∷ ns) total here ≡ at heap n (with_node heap fonts inside ns total here)
unfolding stations
stations_cons heap fonts inside n ns total here = refl

stations_nil : (heap : Heap) (fonts : List FontTables) (inside : Inside) (total : ℤ) (here : Place) → stations heap fonts inside [] total here ≡ Ok []
unfolding stations
stations_nil heap fonts inside total here = refl

-- the item at a place is that of the node there
item_is : (heap : Heap) (fonts : List FontTables) (names : List ℕ) (items : List Item) (i : ℕ) (d : Item) (node : Node) → i < length names → AreItemsOf heap fonts names items → map.get heap.nodes (get_or names i 0) ≡ Some node → get_or items i d ≡ item_of heap fonts node
item_is heap fonts names items i d node within are is =
    get_or_from_slice_get items i (item_of heap fonts node) d
    (are.each i (get_or names i 0) (slice_get-get_or names i 0 within) ∙ ap (option_map (item_of heap fonts)) is)

-- The rest of a list is its next node and the rest after it.
stations_step : (heap : Heap) (fonts : List FontTables) (inside : Inside) (names : List ℕ) (items : List Item) (i : ℕ) (d : Item) (total : ℤ) (here : Place) (contents : Contents) → i < length names → AreItemsOf heap fonts names items → at heap (get_or names i 0) (λ node. Ok node.fields.contents) ≡ Ok contents →
    stations heap fonts inside (drop i names) total here ≡ stand_first contents here (rest_after heap fonts inside (drop (i + 1) names) total here (get_or items i d))
stations_step heap fonts inside names items i d total here contents within are holds =
    let found = at_Ok heap (get_or names i 0) (λ node. Ok node.fields.contents) contents holds in
    let same : found.node.fields.contents ≡ contents = same_Ok {E = Trouble} found.node.fields.contents contents found.gives in
    let item = item_is heap fonts names items i d found.node within are found.is in
    let rest = drop (i + 1) names in
    at_drop_more (λ (ns : List ℕ). stations heap fonts inside ns total here) names i 0 within
    ∙ stations_cons heap fonts inside (get_or names i 0) rest total here
    ∙ ap (of_found (get_or names i 0) (with_node heap fonts inside rest total here)) found.is
    ∙ ap (λ (c : Contents). stand_first c here (rest_after heap fonts inside rest total here (item_of heap fonts found.node))) same
    ∙ ap (λ (x : Item). stand_first contents here (rest_after heap fonts inside rest total here x)) (sym item)

stood_first : (all : List Station) (station : Station) (rest : Row) → stand_after all (stand_first station.contents station.here rest) ≡ stand_after (all ++ station ∷ []) rest
stood_first all station (Ok more) = ap (λ (ss : List Station). Ok ss) (sym (append_assoc all (station ∷ []) more))
stood_first all station (Err why) = refl

-- One station more.
pub stations_more : (heap : Heap) (fonts : List FontTables) (inside : Inside) (names : List ℕ) (items : List Item) (i : ℕ) (d : Item) (total : ℤ) (here : Place) (contents : Contents) (all : List Station) → i < length names → AreItemsOf heap fonts names items → at heap (get_or names i 0) (λ node. Ok node.fields.contents) ≡ Ok contents →
    stand_after all (stations heap fonts inside (drop i names) total here) ≡ stand_after (all ++ record { contents = contents; here = here } ∷ []) (rest_after heap fonts inside (drop (i + 1) names) total here (get_or items i d))
stations_more heap fonts inside names items i d total here contents all within are holds =
    ap (stand_after all) (stations_step heap fonts inside names items i d total here contents within are holds)
    ∙ stood_first all (record { contents = contents; here = here }) (rest_after heap fonts inside (drop (i + 1) names) total here (get_or items i d))

-- The same, with what was computed of it.
pub stations_next : (heap : Heap) (fonts : List FontTables) (inside : Inside) (names : List ℕ) (items : List Item) (i : ℕ) (d : Item) (total : ℤ) (here : Place) (contents : Contents) (all : List Station) (glue : GlueSet) (size new_total : ℤ) (new_here : Place) (new_all : List Station) → i < length names → AreItemsOf heap fonts names items → at heap (get_or names i 0) (λ node. Ok node.fields.contents) ≡ Ok contents → glue ≡ inside.glue →
    size ≡ set_size glue total (own_size inside.direction (get_or items i d)) (get_or items i d) → new_total ≡ total +ℤ move glue (get_or items i d) → new_here ≡ moved inside.direction size here → new_all ≡ all ++ record { contents = contents; here = here } ∷ [] →
    stand_after all (stations heap fonts inside (drop i names) total here) ≡ stand_after new_all (stations heap fonts inside (drop (i + 1) names) new_total new_here)
stations_next heap fonts inside names items i d total here contents all glue size new_total new_here new_all within are holds same_glue size_is total_is here_is all_is =
    let item = get_or items i d in
    let all_total : new_total ≡ total +ℤ move inside.glue item = total_is ∙ ap (λ (set : GlueSet). total +ℤ move set item) same_glue in
    let all_size : size ≡ set_size inside.glue total (own_size inside.direction item) item = size_is ∙ ap (λ (set : GlueSet). set_size set total (own_size inside.direction item) item) same_glue in
    let all_here : new_here ≡ moved inside.direction (set_size inside.glue total (own_size inside.direction item) item) here = here_is ∙ ap (λ (x : ℤ). moved inside.direction x here) all_size in
    stations_more heap fonts inside names items i d total here contents all within are holds
    ∙ ap (λ (ss : List Station). stand_after ss (rest_after heap fonts inside (drop (i + 1) names) total here item)) (sym all_is)
    ∙ ap (λ (t : ℤ). stand_after new_all (stations heap fonts inside (drop (i + 1) names) t (moved inside.direction (set_size inside.glue total (own_size inside.direction item) item) here))) (sym all_total)
    ∙ ap (λ (p : Place). stand_after new_all (stations heap fonts inside (drop (i + 1) names) new_total p)) (sym all_here)

-- Nothing is left at the end.
pub stations_end : (heap : Heap) (fonts : List FontTables) (inside : Inside) (names : List ℕ) (i : ℕ) (total : ℤ) (here : Place) (all : List Station) → length names ≤ i → stand_after all (stations heap fonts inside (drop i names) total here) ≡ Ok all
stations_end heap fonts inside names i total here all past =
    ap (stand_after all) (at_drop_all (λ (ns : List ℕ). stations heap fonts inside ns total here) names i past ∙ stations_nil heap fonts inside total here)
    ∙ ap (λ (ss : List Station). Ok ss) (append-nil all)

-- A list stops at a node that is not there.
ok_is_no_error : {c : Contents} {why : Trouble} → ◌≡◌ {A = Result Contents Trouble} (Ok c) (Err why) → ⊥
ok_is_no_error e = cc

stops_at : (n : ℕ) (f : Node → Row) (o : Option Node) (why : Trouble) → of_found n (λ (node : Node). Ok node.fields.contents) o ≡ Err why → of_found n f o ≡ Err why
stops_at n f None why e = cc
stops_at n f (Some node) why e = absurd (ok_is_no_error e)

pub stations_stop : (heap : Heap) (fonts : List FontTables) (inside : Inside) (names : List ℕ) (i : ℕ) (total : ℤ) (here : Place) (all : List Station) (why : Trouble) → i < length names → at heap (get_or names i 0) (λ node. Ok node.fields.contents) ≡ Err why →
    stand_after all (stations heap fonts inside (drop i names) total here) ≡ Err why
stations_stop heap fonts inside names i total here all why within holds =
    ap (stand_after all)
    (at_drop_more (λ (ns : List ℕ). stations heap fonts inside ns total here) names i 0 within
    ∙ stations_cons heap fonts inside (get_or names i 0) (drop (i + 1) names) total here
    ∙ stops_at (get_or names i 0) (with_node heap fonts inside (drop (i + 1) names) total here) (map.get heap.nodes (get_or names i 0)) why holds)

-- ---- the calls that find a list

abbrev walked : Heap → List FontTables → Inside → Place → Result (List ℕ) Trouble → Row
walked heap fonts inside here names = result_and_then names (λ ns. stations heap fonts inside ns (pos 0) here)

abbrev seen : Heap → List FontTables → Inside → Place → Result (List Item) Trouble → Row
seen heap fonts inside here items = result_and_then items (λ _. walked heap fonts inside here (flat_walk heap inside.head))

row_is : (heap : Heap) (fonts : List FontTables) (inside : Inside) (here : Place) → row_at heap fonts inside here ≡ seen heap fonts inside here (items_answer heap fonts inside.head inside.kind)
unfolding row_at
row_is heap fonts inside here = refl

pub items_refused : (heap : Heap) (fonts : List FontTables) (inside : Inside) (here : Place) (why : Trouble) → items_answer heap fonts inside.head inside.kind ≡ Err why → row_at heap fonts inside here ≡ Err why
items_refused heap fonts inside here why refused = row_is heap fonts inside here ∙ ap (seen heap fonts inside here) refused

pub walk_refused : (heap : Heap) (fonts : List FontTables) (inside : Inside) (here : Place) (items : List Item) (why : Trouble) → items_answer heap fonts inside.head inside.kind ≡ Ok items → flat_walk heap inside.head ≡ Err why → row_at heap fonts inside here ≡ Err why
walk_refused heap fonts inside here items why found refused =
    row_is heap fonts inside here ∙ ap (seen heap fonts inside here) found ∙ ap (walked heap fonts inside here) refused

pub row_found : (heap : Heap) (fonts : List FontTables) (inside : Inside) (here : Place) (items : List Item) (names : List ℕ) → items_answer heap fonts inside.head inside.kind ≡ Ok items → flat_walk heap inside.head ≡ Ok names → row_at heap fonts inside here ≡ stations heap fonts inside names (pos 0) here
row_found heap fonts inside here items names found walks =
    row_is heap fonts inside here ∙ ap (seen heap fonts inside here) found ∙ ap (walked heap fonts inside here) walks

-- The items that were seen are those of the names that were reached.
pub items_named : (heap : Heap) (fonts : List FontTables) (head : Option ℕ) (items : List Item) (names : List ℕ) → IsOneEach heap fonts head items → flat_walk heap head ≡ Ok names → AreItemsOf heap fonts names items
items_named heap fonts head items names one walks =
    let same : one.names ≡ names = same_Ok {E = Trouble} one.names names (sym one.walk ∙ walks) in
    record {
      count = one.count ∙ ap (λ (ns : List ℕ). length ns) same;
      each = λ k n h. one.each k n (ap (λ (ns : List ℕ). slice_get ns k) same ∙ h);
    }

-- ---- refusals of those calls

pub refused_by_items : (heap : Heap) (fonts : List FontTables) (inside : Inside) (here : Place) (e : Fail Trouble) → Answers {A = List Item} (Err e) (items_answer heap fonts inside.head inside.kind) → Answers {A = List Station} (Err e) (row_at heap fonts inside here)
refused_by_items heap fonts inside here (Is why) refused = items_refused heap fonts inside here why refused
refused_by_items heap fonts inside here NoMemory refused = tt

pub refused_by_walk : (e : Fail Trouble) (heap before : Heap) (fonts : List FontTables) (inside : Inside) (here : Place) (items : List Item) → before ≡ heap → items_answer heap fonts inside.head inside.kind ≡ Ok items → Answers {A = List ℕ} (Err e) (flat_walk before inside.head) → Answers {A = List Station} (Err e) (row_at heap fonts inside here)
refused_by_walk (Is why) heap before fonts inside here items same found refused =
    walk_refused heap fonts inside here items why found (ap (λ (h : Heap). flat_walk h inside.head) (sym same) ∙ refused)
refused_by_walk NoMemory heap before fonts inside here items same found refused = tt
