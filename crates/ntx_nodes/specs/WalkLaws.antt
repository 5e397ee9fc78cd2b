-- What a walk that ends well has reached.
--     AreFresh heap before names      each name is live, and none is among those before it
--     LeadsTo names to                a link leads to a name among these
--     IsClosed heap way names of      the walk goes on from each of these only to names among those
--     Sound                           all of it, of a walk
use Rattle.std.specs.Prelude.{◌≡◌, ℕ, List, [], ◌∷◌, ◌++◌, true, false, Option, Some}
use Rattle.std.specs.FinMap as map
use Rattle.ntx_nodes.specs.Heap.{Heap, is_live}
use Rattle.ntx_nodes.specs.Walk.{is_reached, entered}
use Rattle.ntx_nodes.specs.declared.kind.Way.{Way}
use Rattle.ntx_nodes.specs.declared.node.Node.{Node}

abbrev pub AreFresh : Heap → List ℕ → List ℕ → Type 0
AreFresh heap before [] = Unit {0}
AreFresh heap before (n ∷ ns) = (is_live heap n ≡ true) × (is_reached before n ≡ false) × AreFresh heap (before ++ n ∷ []) ns

abbrev pub LeadsTo : List ℕ → Option ℕ → Type 0
LeadsTo names to = (m : ℕ) → to ≡ Some m → is_reached names m ≡ true

-- a node's inner lists, as far as this walk enters them, and what follows it
pub record LeadsOn (way : Way) (names : List ℕ) (node : Node) : Type 0 where
  pub first : LeadsTo names (entered way node.fields.contents).first
  pub second : LeadsTo names (entered way node.fields.contents).second
  pub third : LeadsTo names (entered way node.fields.contents).third
  pub next : LeadsTo names node.fields.next

abbrev pub IsClosed : Heap → Way → List ℕ → List ℕ → Type 0
IsClosed heap way names of = (n : ℕ) (node : Node) → is_reached of n ≡ true → map.get heap.nodes n ≡ Some node → LeadsOn way names node

-- The walk from a head, after some names were reached: it adds fresh names at the end, the head among them or before, and is closed.
pub record Sound (heap : Heap) (way : Way) (before : List ℕ) (head : Option ℕ) (names : List ℕ) : Type 0 where
  pub more : List ℕ
  pub added : names ≡ before ++ more
  pub fresh : AreFresh heap before more
  pub begins : LeadsTo names head
  pub closed : IsClosed heap way names more
