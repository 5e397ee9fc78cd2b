-- Links that can be set, and nodes that keep the fields which hold links, when one is set.
use Rattle.std.proofs.Common.{◌≡◌, ℕ, Bool, true, false, cond, Some, None, Ok, refl, sym, ◌∙◌, ap}
use Rattle.std.specs.Prelude.{Option, is_some, nat_eq}
use Rattle.std.proofs.lemmas.Bool.{eqb-true}
use Rattle.std.specs.FinMap as map
use Rattle.ntx_num.proofs.Answers.{same_Some, mapped_Ok}
use Rattle.ntx_nodes.specs.FieldTable.{held, Linked, accepts}
use Rattle.ntx_nodes.specs.Fields.{with_field, contents_with, link, number_to, last_subtype, kind_of}
use Rattle.ntx_nodes.specs.Heap.{Heap, is_live}
use Rattle.ntx_nodes.specs.Steps.{put_fields}
use Rattle.ntx_nodes.specs.declared.field.Field.{Field}
use Rattle.ntx_nodes.specs.declared.field.Field.TheVariants as field
use Rattle.ntx_nodes.specs.declared.field.Field.TheVariants.{Next}
use Rattle.ntx_nodes.specs.declared.field.FieldValue.{FieldValue}
use Rattle.ntx_nodes.specs.declared.field.FieldValue.TheVariants.{Link}
use Rattle.ntx_nodes.specs.declared.fields.Fields.{Fields}
use Rattle.ntx_nodes.specs.declared.kind.Kind.{Kind}
use Rattle.ntx_nodes.specs.declared.kind.Kind.TheVariants as kinds
use Rattle.ntx_nodes.specs.declared.node.Node.{Node}
use Rattle.ntx_nodes.proofs.Lawful.{contents_with-kind}
use Rattle.ntx_nodes.proofs.TableLaws.{takes_as_held}
use Rattle.ntx_lists.specs.MadeNodes.{HasFields, TakesLink, KeepLinks}
use Rattle.ntx_lists.proofs.CopyMaps.{Map, get_put}

-- ---- live nodes
pub record Live (heap : Heap) (n : ℕ) : Type 0 where
  pub node : Node
  pub at : map.get heap.nodes n ≡ Some node

live_case : (heap : Heap) (n : ℕ) (o : Option Node) → map.get heap.nodes n ≡ o → is_some o ≡ true → Live heap n
live_case heap n None at h = cc
live_case heap n (Some node) at h = record { node = node; at = at }

pub live : (heap : Heap) (n : ℕ) → is_live heap n ≡ true → Live heap n
live heap n h = live_case heap n (map.get heap.nodes n) refl h

-- ---- links that can be set
pub taken : (fields : Fields) (f : Field) (m : ℕ) → held (kind_of fields.contents) f ≡ Linked → (written : Fields) × (with_field fields f (Link (Some m)) ≡ Ok written)
taken fields f m linked =
    let t = mapped_Ok {B = Unit {0}} (λ (_ : Fields). tt) (with_field fields f (Link (Some m))) tt (takes_as_held fields f (Link (Some m)) ∙ ap (λ h. accepts h (Link (Some m))) linked) in
    (t.value, t.is)

pub takes_live : (heap : Heap) (n : ℕ) (f : Field) → TakesLink heap n f → is_live heap n ≡ true
takes_live heap n f t = ap is_some t.at

next_linked : (k : Kind) → held k Next ≡ Linked
next_linked kinds.Hlist = refl
next_linked kinds.Vlist = refl
next_linked kinds.Rule = refl
next_linked kinds.Disc = refl
next_linked kinds.Glue = refl
next_linked kinds.Kern = refl
next_linked kinds.Penalty = refl
next_linked kinds.Glyph = refl

pub takes_next : (heap : Heap) (n : ℕ) → is_live heap n ≡ true → TakesLink heap n Next
takes_next heap n alive = let l = live heap n alive in record { node = l.node; at = l.at; linked = next_linked (kind_of l.node.fields.contents) }

pub takes_as_made : (heap : Heap) (n : ℕ) (f : Field) (fields : Fields) → HasFields heap n fields → held (kind_of fields.contents) f ≡ Linked → TakesLink heap n f
takes_as_made heap n f fields has linked = record { node = has.node; at = has.at; linked = ap (λ (x : Fields). held (kind_of x.contents) f) has.is ∙ linked }

-- what was live stays so
pub live_later : (old new : Heap) → KeepLinks old new → (n : ℕ) → is_live old n ≡ true → is_live new n ≡ true
live_later old new keep n alive = takes_live new n Next (keep n Next (takes_next old n alive))

-- ---- the kind of a node that is written into
kind_kept : (fields written : Fields) (f : Field) (v : FieldValue) → with_field fields f v ≡ Ok written → kind_of written.contents ≡ kind_of fields.contents
kind_kept fields written field.Subtype v e =
    let m = mapped_Ok (λ k. record fields { subtype = k }) (number_to (last_subtype (kind_of fields.contents)) v) written e in sym (ap (λ (x : Fields). kind_of x.contents) m.gives)
kind_kept fields written field.Next v e =
    let m = mapped_Ok (λ to. record fields { next = to }) (link v) written e in sym (ap (λ (x : Fields). kind_of x.contents) m.gives)
kind_kept fields written f v e =
    let m = mapped_Ok (λ c. record fields { contents = c }) (contents_with fields.contents f v) written e in
    sym (ap (λ (x : Fields). kind_of x.contents) m.gives) ∙ contents_with-kind fields.contents m.value f v m.is

-- ---- a node written into
get_at : (m : Map) (n q : ℕ) (x : Node) (b : Bool) → nat_eq q n ≡ b → map.get (map.insert m n x) q ≡ cond b (Some x) (map.get m q)
get_at m n q x b h = get_put m n x q ∙ ap (λ c. cond c (Some x) (map.get m q)) h

put_case : (heap : Heap) (n : ℕ) (node : Node) (fields : Fields) (q : ℕ) (f : Field) (b : Bool) → nat_eq q n ≡ b → map.get heap.nodes n ≡ Some node → kind_of fields.contents ≡ kind_of node.fields.contents → TakesLink heap q f
    → TakesLink (put_fields heap n node fields) q f
put_case heap n node fields q f true h at kind t =
    let same : q ≡ n = eqb-true q n h in
    let is : t.node ≡ node = same_Some t.node node (sym t.at ∙ ap (map.get heap.nodes) same ∙ at) in
    record {
      node = record node { fields = fields };
      at = get_at heap.nodes n q (record node { fields = fields }) true h;
      linked = ap (λ k. held k f) kind ∙ ap (λ (x : Node). held (kind_of x.fields.contents) f) (sym is) ∙ t.linked;
    }
put_case heap n node fields q f false h at kind t = record { node = t.node; at = get_at heap.nodes n q (record node { fields = fields }) false h ∙ t.at; linked = t.linked }

pub put_keeps : (heap : Heap) (n : ℕ) (node : Node) (fields : Fields) (f : Field) (v : FieldValue) → map.get heap.nodes n ≡ Some node → with_field node.fields f v ≡ Ok fields → KeepLinks heap (put_fields heap n node fields)
put_keeps heap n node fields f v at e q g t = put_case heap n node fields q g (nat_eq q n) refl at (kind_kept node.fields fields f v e) t
