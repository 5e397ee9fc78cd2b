-- Where names stand among those that are copied.
use Rattle.std.proofs.Common.{◌≡◌, ℕ, suc, ◌+◌, ◌≤◌, ◌<◌, length, List, [], ◌∷◌, ◌++◌, Bool, true, false, cond, Some, None, Ok, refl, sym, ◌∙◌, ap, subst, append_assoc, arith}
use Rattle.std.specs.Prelude.{Option, nat_eq, ◌||◌}
use Rattle.std.proofs.lemmas.Bool.{eqb-true}
use Rattle.ntx_nodes.specs.Heap.{Heap, is_live}
use Rattle.ntx_nodes.specs.Walk.{is_reached}
use Rattle.ntx_nodes.specs.Walker.{whole_walk}
use Rattle.ntx_nodes.specs.WalkLaws.{AreFresh}
use Rattle.ntx_nodes.specs.declared.kind.ListKind.TheVariants.{H}
use Rattle.ntx_nodes.specs.declared.kind.Way.TheVariants.{Plain}
use Rattle.ntx_nodes.proofs.Walks.{nat_eq_same, is_reached-append}
use Rattle.ntx_nodes.proofs.Fuel.{passes, Extends}
use Rattle.ntx_nodes.proofs.SoundWalks.{sound_walk}
use Rattle.ntx_lists.specs.Copies.{copy_name, copied_link}
use Rattle.ntx_lists.specs.Copying.{AllLive, link_to}
use Rattle.ntx_lists.proofs.Trees.{split}
use Rattle.ntx_lists.proofs.Making.{after_node}

or_false : (a b : Bool) → (a || b) ≡ false → (a ≡ false) × (b ≡ false)
or_false true b e = cc
or_false false b e = (refl, e)

pub name_at : (first : ℕ) (b : List ℕ) (m : ℕ) (r : List ℕ) → is_reached b m ≡ false → copy_name first (b ++ m ∷ r) m ≡ Some (first + length b)
name_at first [] m r new =
    let same : first ≡ first + 0 = omega arith in
    ap (λ t. cond t (Some first) (copy_name (first + 1) r m)) (nat_eq_same m) ∙ ap Some same
name_at first (x ∷ xs) m r new =
    let p = or_false (nat_eq m x) (is_reached xs m) new in
    let same : (first + 1) + length xs ≡ first + suc (length xs) = omega arith in
    ap (λ t. cond t (Some first) (copy_name (first + 1) (xs ++ m ∷ r) m)) p.0 ∙ name_at (first + 1) xs m r p.1 ∙ ap Some same

-- ---- a link that a walk follows
pub record Entry (names : List ℕ) (r : List ℕ) (m : ℕ) : Type 0 where
  pub new : is_reached r m ≡ false
  pub more : List ℕ
  pub is : names ≡ r ++ m ∷ more

pub entry : (heap : Heap) (r : List ℕ) (m d : ℕ) (names : List ℕ) → whole_walk heap Plain r (Some m) d H ≡ Ok names → Entry names r m
entry heap r m d names e =
    let s = split heap r m d names e in
    let x = after_node heap r m d names s in
    record { new = (passes heap Plain r m d H s.node s.here).new; more = x.more; is = x.is ∙ append_assoc r (m ∷ []) x.more }

pub link_at : (heap : Heap) (first at : ℕ) (r : List ℕ) (to : Option ℕ) (d : ℕ) (names rest all : List ℕ) → whole_walk heap Plain r to d H ≡ Ok names → all ≡ names ++ rest → at ≡ first + length r → copied_link first all to ≡ link_to to at
link_at heap first at r None d names rest all e is here = refl
link_at heap first at r (Some m) d names rest all e is here =
    let x = entry heap r m d names e in
    let place : all ≡ r ++ m ∷ (x.more ++ rest) = is ∙ ap (λ y. y ++ rest) x.is ∙ append_assoc r (m ∷ x.more) rest in
    ap (λ y. copy_name first y m) place ∙ name_at first r m (x.more ++ rest) x.new ∙ ap Some (sym here)

length_on : (a b : List ℕ) → length (a ++ b) ≡ length a + length b
length_on [] b = omega arith
length_on (x ∷ xs) b = let e : length (xs ++ b) ≡ length xs + length b = length_on xs b in omega arith

pub longer : (a b : List ℕ) → Extends a b → length a ≤ length b
longer a b x =
    let e : length b ≡ length (a ++ x.more) = ap length x.is in
    let f : length (a ++ x.more) ≡ length a + length x.more = length_on a x.more in
    omega arith

-- the place of what a link leads to is that of a copy
pub place_below : (r all : List ℕ) (m : ℕ) (more : List ℕ) → all ≡ r ++ m ∷ more → length r < length all
place_below r all m more is =
    let e : length all ≡ length (r ++ m ∷ more) = ap length is in
    let f : length (r ++ m ∷ more) ≡ length r + suc (length more) = length_on r (m ∷ more) in
    omega arith

pub place_of : (heap : Heap) (r : List ℕ) (m d : ℕ) (names rest all : List ℕ) → whole_walk heap Plain r (Some m) d H ≡ Ok names → all ≡ names ++ rest → length r < length all
place_of heap r m d names rest all e is =
    let x = entry heap r m d names e in
    place_below r all m (x.more ++ rest) (is ∙ ap (λ y. y ++ rest) x.is ∙ append_assoc r (m ∷ x.more) rest)

-- ---- what was not reached later was not before
pub not_reached : (a b : List ℕ) (m : ℕ) → Extends a b → is_reached b m ≡ false → is_reached a m ≡ false
not_reached a b m x e = (or_false (is_reached a m) (is_reached x.more m) (sym (ap (λ y. is_reached y m) x.is ∙ is_reached-append a x.more m) ∙ e)).0

-- ---- what a walk reaches is live
or_case : {X : Type 0} (a b : Bool) → (a || b) ≡ true → (a ≡ true → X) → (b ≡ true → X) → X
or_case true b e f g = f refl
or_case false b e f g = g e

fresh_live : (heap : Heap) (r more : List ℕ) (m : ℕ) → AreFresh heap r more → is_reached more m ≡ true → is_live heap m ≡ true
fresh_live heap r [] m f e = cc
fresh_live heap r (n ∷ ns) m f e =
    or_case (nat_eq m n) (is_reached ns m) e (λ x. subst (λ y. is_live heap y ≡ true) (sym (eqb-true m n x)) f.0) (λ x. fresh_live heap (r ++ n ∷ []) ns m f.2 x)

pub live_on : (heap : Heap) (r : List ℕ) (to : Option ℕ) (d : ℕ) (names : List ℕ) → AllLive heap r → whole_walk heap Plain r to d H ≡ Ok names → AllLive heap names
live_on heap r to d names live e m reached =
    let s = sound_walk heap Plain r to d H names e in
    or_case (is_reached r m) (is_reached s.more m) (sym (ap (λ y. is_reached y m) s.added ∙ is_reached-append r s.more m) ∙ reached) (λ x. live m x) (λ x. fresh_live heap r s.more m s.fresh x)
