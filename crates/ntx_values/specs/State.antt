-- A store as a value.
--     StoreState           the texts made, the tables, and how many function numbers were given
--     IsOf store v         v is a value of this store; AreOf store vs says so of each of a list
--     Grows old new        what stays valid where a store has grown
--     IsLawful store       what is true of every store
use Rattle.std.specs.Prelude.{◌≡◌, ℕ, ◌<◌, ◌≤◌, ◌^◌, false, List, [], length, slice_get, slice_index_or, Some, All, sum_by}
use Rattle.std.specs.List.{IsDistinct}
use Rattle.std.specs.Map.{keys_of}
use Rattle.ntx_values.specs.Value.{is_same, is_nil}
use Rattle.ntx_values.specs.Table.{Entries, max_keys}
use Rattle.ntx_values.specs.Texts.{max_bytes, max_text}
use Rattle.ntx_values.specs.declared.value.Value.{Value}
use Rattle.ntx_values.specs.declared.value.Value.TheVariants.{Nil, Bool, Int, Text, Table, Function, Prim, Node}
use Rattle.ntx_values.specs.declared.value.TextId.{TextId}
use Rattle.ntx_values.specs.declared.value.TableId.{TableId}

pub record StoreState : Type 0 where
  pub texts : List (List ℕ)
  pub tables : List Entries
  pub functions : ℕ

-- as many tables may there be
abbrev pub max_tables : ℕ
max_tables = 2 ^ 16

-- the bytes of a text
abbrev pub bytes_of : StoreState → TextId → List ℕ
bytes_of store t = slice_index_or store.texts t.number []

-- what a table holds
abbrev pub table_of : StoreState → TableId → Entries
table_of store t = slice_index_or store.tables t.number []

-- Texts, tables and functions are of the store that made them, and other values of every store.
abbrev pub IsOf : StoreState → Value → Type 0
IsOf store Nil = Unit {0}
IsOf store (Bool b) = Unit {0}
IsOf store (Int n) = Unit {0}
IsOf store (Text t) = t.number < length store.texts
IsOf store (Table t) = t.number < length store.tables
IsOf store (Function f) = f.number < store.functions
IsOf store (Prim p) = Unit {0}
IsOf store (Node n) = Unit {0}

-- each is of this store
abbrev pub AreOf : StoreState → List Value → Type 0
AreOf store vs = All (IsOf store) vs

-- Each number of a text, a table or a function stays one of the store, and each text keeps its bytes. What the tables hold may
-- change.
pub record Grows (old new : StoreState) : Type 0 where
  pub texts : length old.texts ≤ length new.texts
  pub bytes : (t : TextId) → t.number < length old.texts → bytes_of new t ≡ bytes_of old t
  pub tables : length old.tables ≤ length new.tables
  pub functions : old.functions ≤ new.functions

pub record IsLawfulTable (store : StoreState) (entries : Entries) : Type 0 where
  pub once : IsDistinct is_same (keys_of entries)
  pub keys : All (λ e. is_nil e.0 ≡ false) entries
  pub few : length entries ≤ max_keys
  pub values : All (λ e. IsOf store e.0 × IsOf store e.1) entries

-- Each text is made once, the limits are kept, and tables hold values of the store.
pub record IsLawful (store : StoreState) : Type 0 where
  pub once : (i j : ℕ) (bytes : List ℕ) → slice_get store.texts i ≡ Some bytes → slice_get store.texts j ≡ Some bytes → i ≡ j
  pub short : All (λ bytes. length bytes ≤ max_text) store.texts
  pub bytes : sum_by length store.texts ≤ max_bytes
  pub few : length store.tables ≤ max_tables
  pub tables : All (IsLawfulTable store) store.tables
