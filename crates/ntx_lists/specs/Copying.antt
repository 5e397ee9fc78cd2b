-- How copying goes: copies with no links are made, in the order of the walk, and then linked.
--     bare             a heap with copies that have no links
--     Makes, MakesRest      what making copies of a list leaves, and of all after a first node
--     HasFreed         what freeing one node after another leaves
--     SetsLink, SetsParts, SetsLists, SetsLinks      what setting the links of a node does
--     Linkable, Linked, Links, LinksRest      what linking the copies of a list needs, and what it leaves
--     LeavesCopies, CopiesNode      all of it
use Rattle.std.specs.Prelude.{◌≡◌, ◌≤◌, ◌<◌, ℕ, ◌+◌, List, [], ◌∷◌, ◌++◌, length, Option, None, Some, Result, Ok, Err, Bool, true, false}
use Rattle.std.specs.Option.{option_map}
use Rattle.std.specs.FinMap as map
use Rattle.ntx_num.specs.declared.answer.Fail.{Fail}
use Rattle.ntx_num.specs.declared.answer.Fail.TheVariants.{NoMemory, Is}
use Rattle.ntx_nodes.specs.Heap.{Heap, IsLawful, is_live}
use Rattle.ntx_nodes.specs.Fields.{kind_of, with_field}
use Rattle.ntx_nodes.specs.Steps.{put, put_fields, copy_of, next_name}
use Rattle.ntx_nodes.specs.Walk.{is_reached, inner_lists}
use Rattle.ntx_nodes.specs.Walker.{whole_walk}
use Rattle.ntx_nodes.specs.declared.kind.Kind.{Kind}
use Rattle.ntx_nodes.specs.declared.kind.Kind.TheVariants as kind
use Rattle.ntx_nodes.specs.declared.kind.ListKind.TheVariants.{H}
use Rattle.ntx_nodes.specs.declared.kind.Way.TheVariants.{Plain}
use Rattle.ntx_nodes.specs.declared.contents.DiscFields.{DiscFields}
use Rattle.ntx_nodes.specs.declared.field.Field.{Field}
use Rattle.ntx_nodes.specs.declared.field.FieldValue.TheVariants.{Link}
use Rattle.ntx_nodes.specs.declared.fields.Contents.TheVariants as contents
use Rattle.ntx_nodes.specs.declared.fields.Fields.{Fields}
use Rattle.ntx_nodes.specs.declared.node.Node.{Node}
use Rattle.ntx_nodes.specs.declared.trouble.Trouble.{Trouble}
use Rattle.ntx_lists.specs.Survey.{IsLiveLink}
use Rattle.ntx_lists.specs.Copies.{relinked, copy_before, list_copy, with_copies, moved_on, room, why_no_more}
use Rattle.ntx_nodes.specs.declared.inner.InnerLists.{InnerLists}

abbrev pub bare : Heap → List ℕ → Heap
bare heap names = with_copies heap (λ _ node. copy_of node) names

-- each of these names is live
abbrev pub AllLive : Heap → List ℕ → Type 0
AllLive heap names = (n : ℕ) → is_reached names n ≡ true → is_live heap n ≡ true

-- ---- making
-- Only some of the copies were made.
pub record Stops (whole new : Heap) (names : List ℕ) : Type 0 where
  pub made : List ℕ
  pub n : ℕ
  pub rest : List ℕ
  pub is : names ≡ made ++ n ∷ rest
  pub left : new ≡ bare whole made

-- All copies were made, or they were until a making was refused or memory ran out.
abbrev pub Made : Heap → List ℕ → Heap → Result (Unit {0}) (Fail Trouble) → Type 0
Made whole names new (Ok u) = new ≡ bare whole names
Made whole names new (Err (Is why)) = Stops whole new names × (next_name new ≡ Err why)
Made whole names new (Err NoMemory) = Stops whole new names

-- Where the walk of a list ends well, from names that are copied already, all the names that it reaches are copied then.
abbrev pub Makes : Heap → Heap → Option ℕ → ℕ → Result (Unit {0}) (Fail Trouble) → Type 0
Makes old new head depth result =
    (whole : Heap) (before names : List ℕ) → IsLawful whole → old ≡ bare whole before → whole_walk whole Plain before head depth H ≡ Ok names → Made whole names new result

-- What remains after a node: its inner lists, and what is to follow it.
abbrev pub MakesRest : Heap → Heap → InnerLists → Option ℕ → Result (Unit {0}) (Fail Trouble) → Type 0
MakesRest old new lists next result =
    (whole : Heap) (n : ℕ) (one two three names : List ℕ) → IsLawful whole → old ≡ bare whole (n ∷ [])
    → whole_walk whole Plain (n ∷ []) lists.first 1 H ≡ Ok one → whole_walk whole Plain one lists.second 1 H ≡ Ok two → whole_walk whole Plain two lists.third 1 H ≡ Ok three → whole_walk whole Plain three next 0 H ≡ Ok names
    → Made whole names new result

-- ---- freeing
-- From one name to another nothing is left, and all else is as before.
pub record HasFreed (old new : Heap) (first last : ℕ) : Type 0 where
  pub order : first ≤ last
  pub gone : (q : ℕ) → first ≤ q → q < last → map.get new.nodes q ≡ None
  pub below : (q : ℕ) → q < first → map.get new.nodes q ≡ map.get old.nodes q
  pub above : (q : ℕ) → last ≤ q → map.get new.nodes q ≡ map.get old.nodes q
  pub next : new.next ≡ old.next
  pub current : new.current ≡ old.current

-- As far as there are nodes, they are gone.
abbrev pub FreesRun : Heap → Heap → ℕ → Type 0
FreesRun old new first = (last : ℕ) × HasFreed old new first last × (map.get old.nodes last ≡ None)

-- ---- linking
-- the link to a copy, where there is something that was copied
abbrev pub link_to : Option ℕ → ℕ → Option ℕ
link_to to copy = option_map (λ _. copy) to

-- Setting a link of a live node to a live one, or to nothing.
abbrev pub SetsLink : Heap → Heap → ℕ → Field → Option ℕ → Type 0
SetsLink old new n f to = (node : Node) (fields : Fields) → map.get old.nodes n ≡ Some node → with_field node.fields f (Link to) ≡ Ok fields → IsLiveLink old to → new ≡ put_fields old n node fields

-- links to live nodes, or to nothing
abbrev pub AreLiveLists : Heap → InnerLists → Type 0
AreLiveLists heap lists = IsLiveLink heap lists.first × IsLiveLink heap lists.second × IsLiveLink heap lists.third

-- The lists of a discretionary
abbrev pub SetsParts : Heap → Heap → ℕ → InnerLists → Type 0
SetsParts old new n lists = (node : Node) (d : DiscFields) → map.get old.nodes n ≡ Some node → node.fields.contents ≡ contents.Disc d → AreLiveLists old lists → new ≡ put old n (relinked node lists node.fields.next)

-- whether a node of this kind holds one list, or three
abbrev pub is_box : Kind → Bool
is_box kind.Hlist = true
is_box kind.Vlist = true
is_box _ = false

abbrev pub is_disc : Kind → Bool
is_disc kind.Disc = true
is_disc _ = false

-- or of a live node of this kind,
abbrev pub SetsListsOf : Heap → Heap → ℕ → Kind → InnerLists → Type 0
SetsListsOf old new n k lists = (node : Node) → map.get old.nodes n ≡ Some node → kind_of node.fields.contents ≡ k → AreLiveLists old lists → new ≡ put old n (relinked node lists node.fields.next)

-- or of any live node are set,
abbrev pub SetsLists : Heap → Heap → ℕ → InnerLists → Type 0
SetsLists old new n lists = (node : Node) → map.get old.nodes n ≡ Some node → AreLiveLists old lists → new ≡ put old n (relinked node lists node.fields.next)

-- and what follows it too.
abbrev pub SetsLinks : Heap → Heap → ℕ → InnerLists → Option ℕ → Type 0
SetsLinks old new n lists next = (node : Node) → map.get old.nodes n ≡ Some node → AreLiveLists old lists → IsLiveLink old next → new ≡ put old n (relinked node lists next)

-- A heap with copies of all these names of a whole one, which have no links yet from the first on: the next to be linked is the copy of what a
-- walk reaches after some names, and it reaches these.
pub record Linkable (whole : Heap) (copy : ℕ → Node → Node) (all before names : List ℕ) (old : Heap) (first : ℕ) : Type 0 where
  pub lawful : IsLawful whole
  pub live : AllLive whole all
  pub rest : List ℕ
  pub is : all ≡ names ++ rest
  pub copies : (n : ℕ) (node : Node) → is_reached before n ≡ false → copy n node ≡ list_copy whole.next all n node
  pub at : first ≡ whole.next + length before
  pub originals : (q : ℕ) → q < whole.next → map.get old.nodes q ≡ map.get whole.nodes q
  pub unlinked : (q : ℕ) → first ≤ q → map.get old.nodes q ≡ map.get (bare whole all).nodes q

-- From one name to another the nodes are those of a final heap, and all else is as before.
pub record Linked (final old new : Heap) (first last : ℕ) : Type 0 where
  pub order : first ≤ last
  pub done : (q : ℕ) → first ≤ q → q < last → map.get new.nodes q ≡ map.get final.nodes q
  pub below : (q : ℕ) → q < first → map.get new.nodes q ≡ map.get old.nodes q
  pub above : (q : ℕ) → last ≤ q → map.get new.nodes q ≡ map.get old.nodes q
  pub next : new.next ≡ old.next
  pub current : new.current ≡ old.current

-- The copies of all that the walk of a list reaches are linked, and the answer is the name after theirs.
abbrev pub Links : Heap → Heap → Option ℕ → ℕ → ℕ → ℕ → Type 0
Links old new head depth first result =
    (whole : Heap) (copy : ℕ → Node → Node) (all before names : List ℕ) → Linkable whole copy all before names old first → whole_walk whole Plain before head depth H ≡ Ok names
    → (result ≡ whole.next + length names) × Linked (with_copies whole copy all) old new first result

-- The copy of a node after which all that this reaches has been copied: its inner lists, and what is to follow it.
abbrev pub LinksRest : Heap → Heap → InnerLists → Option ℕ → ℕ → Type 0
LinksRest old new lists next first =
    (whole : Heap) (copy : ℕ → Node → Node) (n : ℕ) (node : Node) (one two three all : List ℕ) → IsLawful whole → AllLive whole all → first ≡ whole.next → old ≡ bare whole all → map.get whole.nodes n ≡ Some node → lists ≡ inner_lists node.fields.contents
    → copy n node ≡ copy_before whole.next all next node → ((m : ℕ) (other : Node) → is_reached (n ∷ []) m ≡ false → copy m other ≡ list_copy whole.next all m other)
    → whole_walk whole Plain (n ∷ []) lists.first 1 H ≡ Ok one → whole_walk whole Plain one lists.second 1 H ≡ Ok two → whole_walk whole Plain two lists.third 1 H ≡ Ok three → whole_walk whole Plain three next 0 H ≡ Ok all
    → new ≡ with_copies whole copy all

-- ---- both
-- All copies of these names, or what is left where they are gone again.
abbrev pub LeavesCopies : Heap → Heap → (ℕ → Node → Node) → List ℕ → Result ℕ (Fail Trouble) → Type 0
LeavesCopies old new copy names (Ok first) = (first ≡ old.next) × (length names ≤ room old) × (new ≡ with_copies old copy names)
LeavesCopies old new copy names (Err (Is why)) = (room old < length names) × (why ≡ why_no_more old) × (new ≡ moved_on old (room old))
LeavesCopies old new copy names (Err NoMemory) = (made : ℕ) × (made < length names) × (made ≤ room old) × (new ≡ moved_on old made)

-- A node is copied with its inner lists and what is to follow it.
abbrev pub CopiesNode : Heap → Heap → ℕ → Option ℕ → Result ℕ (Fail Trouble) → Type 0
CopiesNode old new n next result =
    (copy : ℕ → Node → Node) (node : Node) (one two three names : List ℕ) → map.get old.nodes n ≡ Some node
    → copy n node ≡ copy_before old.next names next node → ((m : ℕ) (other : Node) → is_reached (n ∷ []) m ≡ false → copy m other ≡ list_copy old.next names m other)
    → whole_walk old Plain (n ∷ []) (inner_lists node.fields.contents).first 1 H ≡ Ok one → whole_walk old Plain one (inner_lists node.fields.contents).second 1 H ≡ Ok two → whole_walk old Plain two (inner_lists node.fields.contents).third 1 H ≡ Ok three
    → whole_walk old Plain three next 0 H ≡ Ok names → LeavesCopies old new copy names result
