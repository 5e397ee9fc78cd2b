-- Each step leads from a lawful store to a lawful one that has grown.
use Rattle.std.proofs.Common.{◌≡◌, ℕ, zero, suc, ◌+◌, ◌<◌, ◌≤◌, Bool, true, false, cond, List, [], ◌∷◌, ◌++◌, length, get_or, slice_set, Option, Some, None, unwrap_or, Result, Ok, Err, refl, ap, sym, ◌∙◌, subst, arith, length-append, All}
use Rattle.std.specs.Prelude.{nat_le}
use Rattle.std.specs.Option.{IfSome}
use Rattle.std.specs.Map.{lookup}
use Rattle.std.specs.List.{IsDistinct}
use Rattle.std.proofs.lemmas.List.{length-set, set-get_or}
use Rattle.std.proofs.lemmas.List.Elements.{All-weaker, All-set, All-push, All-nil, All-get_or}
use Rattle.std.proofs.lemmas.Map.Entries.{All-lookup}
use Rattle.ntx_num.specs.Answer.{Steps, result_map}
use Rattle.ntx_num.specs.declared.answer.Fail.{Fail}
use Rattle.ntx_num.specs.declared.answer.Fail.TheVariants.{NoMemory, Is}
use Rattle.ntx_num.proofs.Answers.{mapped_Ok, same_Err}
use Rattle.ntx_values.specs.Value.{is_same, is_nil}
use Rattle.ntx_values.specs.Table.{Entries, max_keys, value_at, written}
use Rattle.ntx_values.specs.Texts.{made}
use Rattle.ntx_values.specs.State.{StoreState, IsOf, Grows, IsLawful, IsLawfulTable, max_tables, table_of, bytes_of}
use Rattle.ntx_values.specs.Steps.{set_step}
use Rattle.ntx_values.specs.declared.why.LuaWhy.{LuaWhy}
use Rattle.ntx_values.specs.declared.value.TableId.{TableId}
use Rattle.ntx_values.specs.declared.value.Value.{Value}
use Rattle.ntx_values.specs.declared.value.Value.TheVariants.{Nil, Table}
use Rattle.ntx_values.proofs.Growth.{IsOf-grown}
use Rattle.ntx_values.proofs.Makings.{AreLawful, made_lawful, made_keeps, made_bytes}
use Rattle.ntx_values.proofs.Writes.{lawful-written}

pub table-grown : (old new : StoreState) → Grows old new → (es : Entries) → IsLawfulTable old es → IsLawfulTable new es
table-grown old new g es h =
    record {
      once = h.once;
      keys = h.keys;
      few = h.few;
      values = All-weaker (λ e. IsOf old e.0 × IsOf old e.1) (λ e. IsOf new e.0 × IsOf new e.1) (λ e of. (IsOf-grown old new g e.0 of.0, IsOf-grown old new g e.1 of.1)) es h.values;
    }

pub tables-grown : (old new : StoreState) → Grows old new → (tables : List Entries) → All (IsLawfulTable old) tables → All (IsLawfulTable new) tables
tables-grown old new g tables h = All-weaker (IsLawfulTable old) (IsLawfulTable new) (table-grown old new g) tables h

-- an empty table
pub no_entries : (store : StoreState) → IsLawfulTable store []
unfolding IsDistinct
no_entries store = record { once = tt; keys = All-nil (λ e. is_nil e.0 ≡ false); few = omega arith; values = All-nil (λ e. IsOf store e.0 × IsOf store e.1) }

pub text-grows : (store : StoreState) (bytes : List ℕ) (after : List (List ℕ)) (place : ℕ) → made bytes store.texts ≡ Ok (place, after) → Grows store (record store { texts = after })
text-grows store bytes after place h =
    let kept = made_keeps bytes store.texts after place h in
    record { texts = kept.0; bytes = λ t less. kept.1 t.number less; tables = omega arith; functions = omega arith }

pub text-lawful : (store : StoreState) (bytes : List ℕ) (after : List (List ℕ)) (place : ℕ) → made bytes store.texts ≡ Ok (place, after) → IsLawful store → IsLawful (record store { texts = after })
text-lawful store bytes after place h lawful =
    let texts = made_lawful bytes store.texts after place h (record { once = lawful.once; short = lawful.short; bytes = lawful.bytes }) in
    record {
      once = texts.once;
      short = texts.short;
      bytes = texts.bytes;
      few = lawful.few;
      tables = tables-grown store (record store { texts = after }) (text-grows store bytes after place h) store.tables lawful.tables;
    }

pub table-grows : (store : StoreState) → Grows store (record store { tables = store.tables ++ [] ∷ [] })
table-grows store = record { texts = omega arith; bytes = λ t less. refl; tables = omega (arith, length-append store.tables ([] ∷ [])); functions = omega arith }

pub table-lawful : (store : StoreState) → IsLawful store → length store.tables < max_tables → IsLawful (record store { tables = store.tables ++ [] ∷ [] })
table-lawful store lawful room =
    let new : StoreState = record store { tables = store.tables ++ [] ∷ [] } in
    record {
      once = lawful.once;
      short = lawful.short;
      bytes = lawful.bytes;
      few = omega (arith, length-append store.tables ([] ∷ []), room);
      tables = All-push (IsLawfulTable new) store.tables [] (tables-grown store new (table-grows store) store.tables lawful.tables) (no_entries new);
    }

pub function-grows : (store : StoreState) → Grows store (record store { functions = store.functions + 1 })
function-grows store = record { texts = omega arith; bytes = λ t less. refl; tables = omega arith; functions = omega arith }

pub function-lawful : (store : StoreState) → IsLawful store → IsLawful (record store { functions = store.functions + 1 })
function-lawful store lawful =
    record {
      once = lawful.once;
      short = lawful.short;
      bytes = lawful.bytes;
      few = lawful.few;
      tables = tables-grown store (record store { functions = store.functions + 1 }) (function-grows store) store.tables lawful.tables;
    }

pub set-grows : (store : StoreState) (n : ℕ) (es : Entries) → Grows store (record store { tables = slice_set store.tables n es })
set-grows store n es = record { texts = omega arith; bytes = λ t less. refl; tables = omega (arith, length-set store.tables n es); functions = omega arith }

pub table_lawful : (store : StoreState) (t : TableId) → IsLawful store → IsOf store (Table t) → IsLawfulTable store (table_of store t)
table_lawful store t lawful of = All-get_or (IsLawfulTable store) store.tables t.number [] of lawful.tables

-- a lawful table in the place of one
pub set-lawful : (store : StoreState) (n : ℕ) (after : Entries) → IsLawful store → IsLawfulTable store after → IsLawful (record store { tables = slice_set store.tables n after })
set-lawful store n after lawful table =
    let new : StoreState = record store { tables = slice_set store.tables n after } in
    let grown = set-grows store n after in
    record {
      once = lawful.once;
      short = lawful.short;
      bytes = lawful.bytes;
      few = omega (arith, length-set store.tables n after, lawful.few);
      tables = All-set (IsLawfulTable new) store.tables n after (table-grown store new grown after table) (tables-grown store new grown store.tables lawful.tables);
    }

at_default : (tables : List Entries) (n : ℕ) (d e : Entries) → n < length tables → get_or tables n d ≡ get_or tables n e
at_default [] n d e h = let none : ⊥ = omega arith in absurd none
at_default (t ∷ tables) zero d e h = refl
at_default (t ∷ tables) (suc n) d e h = at_default tables n d e (omega arith)

-- the table that is found at a number
pub at_number : (store : StoreState) (tables : List Entries) (t : TableId) (found : Entries) → tables ≡ store.tables → IsOf store (Table t) → found ≡ get_or tables t.number found
    → found ≡ table_of store t
at_number store tables t found e of h = h ∙ ap (λ l. get_or l t.number found) e ∙ at_default store.tables t.number found [] of

abbrev pub paired : Entries → Unit {0} × Entries
paired entries = (tt, entries)

abbrev pub put : StoreState → TableId → Entries → Unit {0} × StoreState
put store t entries = (tt, record store { tables = slice_set store.tables t.number entries })

abbrev pub answered : StoreState → TableId → Unit {0} × Entries → Result (Unit {0} × StoreState) LuaWhy
answered store t x = Ok (x.0, record store { tables = slice_set store.tables t.number x.1 })

abbrev pub TableStep : Result (Unit {0}) (Fail LuaWhy) → Entries → Entries → Value → Value → Type 0
TableStep r before after key v = Steps r before after (result_map paired (written before key v))

-- the table after a step of it
pub stepped-lawful : (store : StoreState) (r : Result (Unit {0}) (Fail LuaWhy)) (before after : Entries) (key v : Value) → IsLawfulTable store before → IsOf store key → IsOf store v
    → TableStep r before after key v → IsLawfulTable store after
stepped-lawful store (Ok u) before after key v lawful of_key of_v h =
    let m = mapped_Ok paired (written before key v) (u, after) h in
    subst (IsLawfulTable store) (ap (λ x. x.1) m.gives) (lawful-written store before m.value key v lawful of_key of_v m.is)
stepped-lawful store (Err (Is e)) before after key v lawful of_key of_v h = subst (IsLawfulTable store) (sym h.1) lawful
stepped-lawful store (Err NoMemory) before after key v lawful of_key of_v h = subst (IsLawfulTable store) (sym h) lawful

kept : (store : StoreState) (t : TableId) (before after : Entries) → before ≡ table_of store t → after ≡ before → record store { tables = slice_set store.tables t.number after } ≡ store
kept store t before after at same =
    let e : slice_set store.tables t.number after ≡ store.tables = ap (slice_set store.tables t.number) (same ∙ at) ∙ set-get_or store.tables t.number [] in
    λ i. record store { tables = e i }

refused : (store : StoreState) (t : TableId) (e : LuaWhy) (w : Result Entries LuaWhy) → result_map paired w ≡ Err e → result_map (put store t) w ≡ Err e
refused store t e (Ok es) g = cc
refused store t e (Err x) g = ap Err (same_Err {A = Unit {0} × Entries} x e g)

-- and the store after it
pub stepped : (store : StoreState) (t : TableId) (r : Result (Unit {0}) (Fail LuaWhy)) (before after : Entries) (key v : Value) → before ≡ table_of store t
    → TableStep r before after key v → Steps r store (record store { tables = slice_set store.tables t.number after }) (set_step t key v store)
stepped store t (Ok u) before after key v at h =
    let m = mapped_Ok paired (written before key v) (u, after) h in
    let at_table : written (table_of store t) key v ≡ Ok m.value = ap (λ es. written es key v) (sym at) ∙ m.is in
    ap (result_map (put store t)) at_table ∙ ap (answered store t) m.gives
stepped store t (Err (Is e)) before after key v at h =
    let at_table : result_map paired (written (table_of store t) key v) ≡ Err e = ap (λ es. result_map paired (written es key v)) (sym at) ∙ h.0 in
    (refused store t e (written (table_of store t) key v) at_table, kept store t before after at h.1)
stepped store t (Err NoMemory) before after key v at h = kept store t before after at h

-- what a lawful table holds is of the store
pub value-of : (store : StoreState) (es : Entries) (key : Value) → IsLawfulTable store es → IsOf store (value_at es key)
value-of store es key lawful = by (lookup (is_same key) es) (All-lookup (IsOf store) (is_same key) es (All-weaker (λ e. IsOf store e.0 × IsOf store e.1) (λ e. IsOf store e.1) (λ e of. of.1) es lawful.values))
  where
    by : (o : Option Value) → IfSome o (IsOf store) → IsOf store (unwrap_or o Nil)
    by None h = tt
    by (Some v) h = h
