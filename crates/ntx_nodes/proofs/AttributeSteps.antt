-- What is set among the attributes that entries make.
use Rattle.std.proofs.Common.{◌≡◌, true, false, refl, sym, ◌∙◌, ap, List, ℤ, not, ◌&&◌, cond, Some, Ok}
use Rattle.std.specs.Prelude.{nat_le}
use Rattle.std.specs.Cmp.{int_cmp_total}
use Rattle.std.specs.Ordering.{int_cmp}
use Rattle.std.specs.Map.{lookup}
use Rattle.std.specs.BTreeMap.{is_at}
use Rattle.std.specs.FinMap as map
use Rattle.ntx_num.specs.Answer.{result_map}
use Rattle.ntx_nodes.specs.Heap.{Attributes, max_attributes, is_attribute}
use Rattle.ntx_nodes.specs.Steps.{with_attribute}
use Rattle.ntx_nodes.proofs.Maps.{from_entries-inserted}

-- an attribute in its ranges, for which there is room, is set
pub with_attribute-Ok : (a : Attributes) (id v : ℤ) → is_attribute id v ≡ true → (not (map.contains_key a id) && nat_le max_attributes (map.len a)) ≡ false → with_attribute a id v ≡ Ok (map.insert a id v)
with_attribute-Ok a id v ranges room = rw (ranges, room) refl

-- the same where entries make the attributes before and after it
pub set-entries : (es fs : List (ℤ × ℤ)) (id v key value : ℤ) (a : Attributes) → key ≡ id → value ≡ v
    → ((q : ℤ) → lookup (is_at (int_cmp q)) fs ≡ cond (is_at (int_cmp key) q) (Some value) (lookup (is_at (int_cmp q)) es))
    → map.from_entries es ≡ a → is_attribute id v ≡ true → (not (map.contains_key a id) && nat_le max_attributes (map.len a)) ≡ false
    → result_map {B = Unit {0} × Attributes} (λ b. (tt, b)) (with_attribute a id v) ≡ Ok (tt, map.from_entries fs)
set-entries es fs id v key value a k w written is ranges room =
    ap (result_map {B = Unit {0} × Attributes} (λ b. (tt, b))) (with_attribute-Ok a id v ranges room)
    ∙ ap (λ b. Ok (tt, b)) (sym (from_entries-inserted int_cmp_total map.int_cmp-IsAntisymmetric es fs key value written ∙ (λ i. map.insert (is i) (k i) (w i))))
