-- Which variable a name is (Lua 5.3 Reference Manual, section 3.5): that of the last declaration of the name that is in scope, and a global if there is none.
--     IsVariable name scope v     in this scope the name is this variable
--     outermost                   the scope at the beginning of a script
--     declare scope names         the scope after these names are declared
--     enter scope                 the scope in a function that is made in this one, before its parameters are declared
--     locals scope                how many local variables of the function itself are in scope
use Rattle.std.specs.Prelude.{◌≡◌, ◌≢◌, ◌<◌, ℕ, ◌+◌, ◌-◌, List, [], ◌++◌, map, length, slice_get, Some}
use Rattle.ntx_syntax.specs.declared.tree.LocalName.{LocalName}
use Rattle.ntx_resolve.specs.declared.code.Variable.{Variable}
use Rattle.ntx_resolve.specs.declared.code.Variable.TheVariants as variable

-- The names of all local variables in scope, in the order of their declarations, the oldest first, and how many of them are of enclosing functions. A name that
-- is hidden by a later one is among them.
pub record Scope : Type 0 where
  pub names : List (List ℕ)
  pub from : ℕ

-- The name stands at this place, and at no later one.
pub record IsLast (name : List ℕ) (names : List (List ℕ)) (place : ℕ) : Type 0 where
  pub is : slice_get names place ≡ Some name
  pub last : (later : ℕ) → place < later → slice_get names later ≢ Some name

abbrev pub IsVariable : List ℕ → Scope → Variable → Type 0
IsVariable name scope (variable.Local place) = IsLast name scope.names (scope.from + place)
IsVariable name scope (variable.Upvalue place) = IsLast name scope.names place × (place < scope.from)
IsVariable name scope variable.Global = (place : ℕ) → slice_get scope.names place ≢ Some name

abbrev pub outermost : Scope
outermost = record { names = []; from = 0 }

abbrev pub declare : Scope → List LocalName → Scope
declare scope names = record { names = scope.names ++ map (λ n. n.name) names; from = scope.from }

abbrev pub enter : Scope → Scope
enter scope = record { names = scope.names; from = length scope.names }

abbrev pub locals : Scope → ℕ
locals scope = length scope.names - scope.from
