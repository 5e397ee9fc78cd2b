-- What a store that has grown keeps.
use Rattle.std.proofs.Common.{◌≡◌, ◌≤◌, ◌<◌, ◌∙◌, length, refl, arith, List}
use Rattle.std.proofs.lemmas.List.Elements.{All-weaker}
use Rattle.ntx_values.specs.State.{StoreState, IsOf, AreOf, Grows, bytes_of}
use Rattle.ntx_values.specs.declared.value.TextId.{TextId}
use Rattle.ntx_values.specs.declared.value.Value.{Value}
use Rattle.ntx_values.specs.declared.value.Value.TheVariants.{Nil, Bool, Int, Text, Table, Function, Prim, Node}

pub Grows-same : (store : StoreState) → Grows store store
Grows-same store = record { texts = omega arith; bytes = λ t h. refl; tables = omega arith; functions = omega arith }

pub Grows-then : (first second third : StoreState) → Grows first second → Grows second third → Grows first third
Grows-then first second third a b =
    record {
      texts = omega (arith, a.texts, b.texts);
      bytes = λ t h. b.bytes t (omega (arith, a.texts, h)) ∙ a.bytes t h;
      tables = omega (arith, a.tables, b.tables);
      functions = omega (arith, a.functions, b.functions);
    }

-- a value of the store stays one
pub IsOf-grown : (old new : StoreState) → Grows old new → (v : Value) → IsOf old v → IsOf new v
IsOf-grown old new g Nil h = tt
IsOf-grown old new g (Bool b) h = tt
IsOf-grown old new g (Int n) h = tt
IsOf-grown old new g (Text t) h = omega (arith, g.texts, h)
IsOf-grown old new g (Table t) h = omega (arith, g.tables, h)
IsOf-grown old new g (Function f) h = omega (arith, g.functions, h)
IsOf-grown old new g (Prim p) h = tt
IsOf-grown old new g (Node n) h = tt

pub AreOf-grown : (old new : StoreState) → Grows old new → (vs : List Value) → AreOf old vs → AreOf new vs
AreOf-grown old new g vs h = All-weaker (IsOf old) (IsOf new) (IsOf-grown old new g) vs h
